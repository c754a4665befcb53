use Rattle.std.proofs.Common.{◌≡◌, List, ◌++◌, length}
use Rattle.spk_ingress.specs.Passes.{TakesFrom, AllPutInto, AllTaken, IsMarked, frames_taken}
use Rattle.spk_ingress.specs.declared.channel.PutPass.{PutPass}
use Rattle.spk_ingress.proofs.channel.Ingress.takes_all.Given as goal

-- the passes that were given back, the last one first
abbrev pub invariant-loop-pass : goal.invariant-loop-pass
invariant-loop-pass l = record {
  done : List PutPass;
  split : l.fn.passes.items ≡ l.passes.items ++ done;
  taken : AllTaken (frames_taken l.fn.taker) done;
  marked : IsMarked l.self l.seen.items done;
  taker : TakesFrom l.self l.taker;
  same : frames_taken l.taker ≡ frames_taken l.fn.taker;
  counts : l.taker.counts ≡ l.fn.taker.counts;
  into : AllPutInto l.self l.passes.items;
}

abbrev pub decreases-loop-pass : goal.decreases-loop-pass
decreases-loop-pass l = length l.passes.items
