use Rattle.std.proofs.Common.{rules, ◌≡◌, ◌∙◌, ap}
use Rattle.spk_story.specs.Data.{Story}
use Rattle.spk_story.proofs.Steps.{after_born, born_is}
use Rattle.spk_story.proofs.story.Story.born.Goals as goal

pub returns : goal.returns
returns c first es is =
    let step : ◌≡◌ {A = Story} _ (after_born c.args.now c.args.self.now) = search rules in
    step ∙ ap (after_born c.args.now) is ∙ born_is first c.args.now es
