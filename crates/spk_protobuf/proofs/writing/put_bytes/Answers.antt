use Rattle.std.proofs.Common.{arith}
use Rattle.spk_protobuf.proofs.Shortest.{bytes_field-is}
use Rattle.spk_protobuf.proofs.writing.put_bytes.Goals as goal

pub returns-then-is_err-clause-field : goal.returns-then-is_err-clause-field
returns-then-is_err-clause-field c = λ positive below. bytes_field-is c.args.number c.args.bytes.now positive below (omega arith)

pub returns-else-is_err-clause-field : goal.returns-else-is_err-clause-field
returns-else-is_err-clause-field c = λ positive below. bytes_field-is c.args.number c.args.bytes.now positive below (omega arith)
