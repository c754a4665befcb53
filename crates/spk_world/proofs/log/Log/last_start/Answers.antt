use Rattle.std.proofs.Common.{◌≡◌, ◌∙◌, ap, length, ◌-◌, None}
use Rattle.std.specs.Prelude.{slice_get}
use Rattle.std.specs.List.{last_or}
use Rattle.std.specs.Option.{unwrap_or}
use Rattle.spk_world.proofs.Lists.{last-place, unwrap-zero}
use Rattle.spk_world.proofs.log.Log.last_start.Goals as goal

pub returns : goal.returns
returns c =
    c.unwrap_or.ensures
    ∙ ap (λ o. unwrap_or o 0)
    (c.copied.ensures ∙ c.last.ensures.value ∙ ap (λ l. slice_get l (length l - 1)) c.deref.ensures.value ∙ last-place c.args.self.now.starts.items)
    ∙ unwrap-zero (last_or None c.args.self.now.starts.items)
