-- Events, one after another.
use Rattle.std.proofs.Common.{◌≡◌, sym, ap, subst, refl, List, [], ◌∷◌, ◌++◌}
use Rattle.spk_world_rules.specs.Files.{Event}
use Rattle.spk_world_run.specs.Data.{WorldData}
use Rattle.spk_world.specs.Steps.{AreSteps, IsNext}

pub steps-more : (d mid after : WorldData) (es : List Event) (e : Event) → AreSteps d es mid → IsNext mid e after → AreSteps d (es ++ e ∷ []) after
steps-more d mid after [] e same next = (after, subst (λ (x : WorldData). IsNext x e after) same next, refl)
steps-more d mid after (f ∷ es) e steps next = (steps.0, steps.1, steps-more steps.0 mid after es e steps.2 next)
