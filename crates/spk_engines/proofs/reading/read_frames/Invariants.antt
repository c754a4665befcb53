use Rattle.std.proofs.Common.{◌≡◌, ◌*◌, length}
use Rattle.spk_ingress.specs.Passes.{PutsInto, frames_put}
use Rattle.spk_engines.specs.Counted.{taken}
use Rattle.spk_engines.specs.Reading.{Reads, ReadsUpTo, WantsMore}
use Rattle.spk_engines.proofs.reading.read_frames.Given as goal

-- the packets of what was read so far were put, and what waits is no packet yet
abbrev pub invariant-loop-turn : goal.invariant-loop-turn
invariant-loop-turn g l = record {
  into : PutsInto l.ingress l.pass;
  sender : l.pass.sender ≡ l.fn.pass.sender;
  room : length l.piece.items ≡ 65536;
  before : l.before ≡ g.S.Failures.count l.fn.reader.device;
  reads : Reads (g.S.Read.remaining l.fn.reader.device) (g.S.Read.remaining l.reader.device) l.waiting.items (frames_put l.fn.pass) (frames_put l.pass);
  wants : WantsMore l.waiting.items;
  count : taken l.reader ≡ l._turn;
  turns : ReadsUpTo (65536 * taken l.reader) (g.S.Read.remaining l.fn.reader.device) (g.S.Read.remaining l.reader.device);
}
