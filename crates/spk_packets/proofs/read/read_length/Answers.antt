use Rattle.std.proofs.Common.{◌∙◌}
use Rattle.spk_packets.proofs.Decoding.{length_clear, length_found, length_only, length_named}
use Rattle.spk_packets.proofs.read.read_length.Goals as goal

pub returns-clause-found : goal.returns-clause-found
returns-clause-found c = length_found c.args.bytes.now c.sevens.result c.sevens.ensures.given

pub returns-clause-only : goal.returns-clause-only
returns-clause-only c = λ n size le is. c.sevens.ensures.given ∙ length_only c.args.bytes.now n size le is

pub returns-clause-refused : goal.returns-clause-refused
returns-clause-refused c = length_named c.args.bytes.now c.sevens.result c.sevens.ensures.given

pub returns-clause-not_refused : goal.returns-clause-not_refused
returns-clause-not_refused c = length_clear c.args.bytes.now c.sevens.result c.sevens.ensures.given
