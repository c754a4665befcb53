use Rattle.std.proofs.Common.{◌≡◌, ◌+◌, ◌≤◌, length}
use Rattle.spk_rings.specs.Ring.{SameInlet, popped}
use Rattle.spk_engines.specs.Counted.{taken}
use Rattle.spk_engines.specs.Writing.{Writes, rest_of, IsWithin}
use Rattle.spk_engines.proofs.writing.write_items.Given as goal

-- all of the items taken was written, but what is left of the current one
abbrev pub invariant-loop-turn : goal.invariant-loop-turn
invariant-loop-turn g l = record {
  same : SameInlet l.fn.inlet l.inlet;
  before : l.before ≡ g.W.Failures.count l.fn.writer.device;
  within : IsWithin l.current;
  writes : Writes (g.W.Write.contents l.fn.writer.device) (g.W.Write.contents l.writer.device) (popped l.fn.inlet) (popped l.inlet) (rest_of l.current);
  count : taken l.writer ≡ l._turn;
  turns : length (popped l.inlet) ≤ length (popped l.fn.inlet) + taken l.writer;
}
