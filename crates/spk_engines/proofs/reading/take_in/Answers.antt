use Rattle.std.proofs.Common.{◌++◌}
use Rattle.spk_ingress.specs.Passes.{frames_put}
use Rattle.spk_engines.proofs.Streams.{cuts_none}
use Rattle.spk_engines.proofs.reading.take_in.Goals as goal

pub returns-in_default-clause-part : goal.returns-in_default-clause-part
returns-in_default-clause-part g c =
    (c.args.waiting.now.items ++ c.args.piece.now, cuts_none (c.args.waiting.now.items ++ c.args.piece.now) (frames_put c.args.pass.now))
