use Rattle.std.proofs.Common.{rules, ◌≡◌, ◌∙◌, ap}
use Rattle.spk_story.proofs.Steps.{after_gap, gap_is}
use Rattle.spk_story.proofs.story.Story.gap.Goals as goal

pub returns : goal.returns
returns c first es is =
    let step : c.turn.new.self ≡ after_gap c.args.now c.args.self.now = search rules in
    step ∙ ap (after_gap c.args.now) is ∙ gap_is first c.args.now es
