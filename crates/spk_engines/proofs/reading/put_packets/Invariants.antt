use Rattle.std.proofs.Common.{◌≡◌, ◌≤◌, ◌-◌, length, drop}
use Rattle.spk_ingress.specs.Passes.{PutsInto, frames_put}
use Rattle.spk_engines.specs.Reading.{Cuts}
use Rattle.spk_engines.proofs.reading.put_packets.Given as goal

-- the packets before `start` were put
abbrev pub invariant-loop-count : goal.invariant-loop-count
invariant-loop-count g l = record {
  into : PutsInto l.ingress l.pass;
  sender : l.pass.sender ≡ l.fn.pass.sender;
  within : l.start ≤ length l.bytes;
  cut : Cuts l.bytes (drop l.start l.bytes) (frames_put l.fn.pass) (frames_put l.pass);
}

abbrev pub decreases-loop-count : goal.decreases-loop-count
decreases-loop-count g l = length l.bytes - l.start
