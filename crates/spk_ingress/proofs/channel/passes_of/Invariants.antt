use Rattle.std.proofs.Common.{◌≡◌, length}
use Rattle.spk_ingress.specs.Passes.{TakesNone, AllPutInto, AllFresh}
use Rattle.spk_ingress.proofs.channel.passes_of.Given as goal

-- the passes of the senders so far
abbrev pub invariant-loop-sender : goal.invariant-loop-sender
invariant-loop-sender l = record {
  taker : TakesNone l.ingress l.taker l.sender;
  counts : l.taker.counts ≡ l.fn.taker.counts;
  sized : length l.passes.items ≡ l.sender;
  into : AllPutInto l.ingress l.passes.items;
  fresh : AllFresh 0 l.passes.items;
}
