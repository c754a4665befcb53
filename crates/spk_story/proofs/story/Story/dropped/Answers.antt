use Rattle.std.proofs.Common.{rules, ◌≡◌, ◌∙◌, ap}
use Rattle.spk_story.specs.Data.{Story}
use Rattle.spk_story.proofs.Steps.{after_dropped, dropped_is}
use Rattle.spk_story.proofs.story.Story.dropped.Goals as goal

pub returns : goal.returns
returns c first es is =
    let step : ◌≡◌ {A = Story} _ (after_dropped c.args.loss c.args.now c.args.self.now) = search rules in
    step ∙ ap (after_dropped c.args.loss c.args.now) is ∙ dropped_is c.args.loss first c.args.now es
