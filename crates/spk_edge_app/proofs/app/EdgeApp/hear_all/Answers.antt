use Rattle.std.proofs.Common.{Ok, ap, refl}
use Rattle.spk_edge_app.proofs.Runs.{heard_on, hears_no_more, none_heard}
use Rattle.spk_edge_app.proofs.app.EdgeApp.hear_all.Goals as goal

pub loop-init : goal.loop-init
loop-init c = record { heard = none_heard c.args.now c.args.self.now _ refl; running = c.requires }

pub loop-preserved : goal.loop-preserved
loop-preserved c = record {
  heard = heard_on c.args.now _ _ _ c.loop.invariant.heard c.in_ok-hear_next.ensures.heard;
  running = c.in_ok-hear_next.ensures.more (ap Ok c.if-not-branch.false);
}

pub returns-then-not-branch-clause-heard : goal.returns-then-not-branch-clause-heard
returns-then-not-branch-clause-heard c = heard_on c.args.now _ _ _ c.loop.invariant.heard c.in_ok-hear_next.ensures.heard

pub returns-clause-ends : goal.returns-clause-ends
returns-clause-ends c = hears_no_more c.args.now c.args.self.now c.loop.self _ c.loop.invariant.heard c.give_up.ensures
