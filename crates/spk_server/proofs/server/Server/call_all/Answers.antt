use Rattle.std.proofs.Common.{Ok, ap, sym}
use Rattle.spk_server.specs.Log.{calls}
use Rattle.spk_server.specs.Rooms.{room_of}
use Rattle.spk_server.proofs.Runs.{and_then, at_end, stays}
use Rattle.spk_server.proofs.Told.{nobody_same}
use Rattle.spk_server.proofs.server.Server.call_all.Goals as goal

pub loop-init : goal.loop-init
loop-init c = record { calls = λ settled. stays calls _; settled = λ settled. settled }

pub loop-preserved : goal.loop-preserved
loop-preserved c = record {
  calls = λ settled. and_then calls _ _ _ (c.loop.invariant.calls settled) (c.in_ok-call_next.ensures.calls (c.loop.invariant.settled settled));
  settled = λ settled. c.in_ok-call_next.ensures.settled (c.loop.invariant.settled settled);
}

pub returns-then-not-branch-clause-calls : goal.returns-then-not-branch-clause-calls
returns-then-not-branch-clause-calls c settled =
    at_end calls _ _ _ (and_then calls _ _ _ (c.loop.invariant.calls settled) (c.in_ok-call_next.ensures.calls (c.loop.invariant.settled settled))) (sym c.note_soonest.ensures.same)

pub returns-then-not-branch-clause-nobody : goal.returns-then-not-branch-clause-nobody
returns-then-not-branch-clause-nobody c =
    nobody_same (room_of c.call_next.new.self) (room_of c.note_soonest.new.self) (sym c.note_soonest.ensures.same)
    (c.in_ok-call_next.ensures.none (ap Ok c.if-not-branch.true))
