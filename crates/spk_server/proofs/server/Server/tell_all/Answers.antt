use Rattle.spk_server.specs.Log.{follows}
use Rattle.spk_server.proofs.Runs.{and_then, stays}
use Rattle.spk_server.proofs.server.Server.tell_all.Goals as goal

pub loop-init : goal.loop-init
loop-init c = record { tells = λ before. stays follows _; noted = λ noted. noted }

pub loop-preserved : goal.loop-preserved
loop-preserved c = record {
  tells = λ before. and_then follows _ _ _ (c.loop.invariant.tells before) (c.in_ok-tell.ensures.tells before);
  noted = λ noted. c.in_ok-tell.ensures.noted (c.loop.invariant.noted noted);
}

pub returns-then-not-branch-clause-tells : goal.returns-then-not-branch-clause-tells
returns-then-not-branch-clause-tells c before = and_then follows _ _ _ (c.loop.invariant.tells before) (c.in_ok-tell.ensures.tells before)
