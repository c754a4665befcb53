use Rattle.std.proofs.Common.{◌∙◌, sym}
use Rattle.spk_world.specs.View.{track_view}
use Rattle.spk_world.proofs.Heard.{death-passes}
use Rattle.spk_world.proofs.dying.tell.Goals as goal

pub returns-clause-passed : goal.returns-clause-passed
returns-clause-passed c =
    death-passes c.args.node.now (track_view c.args.track.now) c.args.session c.in-Some.time (sym c.opened_at.ensures ∙ c.in-Some.is) (sym c.is_far.ensures ∙ c.if-is_far.false)
