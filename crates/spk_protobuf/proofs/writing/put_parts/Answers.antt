use Rattle.spk_protobuf.proofs.Shortest.{parts_are}
use Rattle.spk_protobuf.proofs.writing.put_parts.Goals as goal

pub returns-clause-ok : goal.returns-clause-ok
returns-clause-ok c = parts_are c.extend_from_slice.result c.args.out.now.items c.put_varint.new.out.items c.put_varint-2.new.out.items c.extend_from_slice.new.self.items c.args.bytes.now c.args.number c.extend_from_slice.ensures.items c.in_ok-put_varint-2.ensures.ok c.in_ok-put_varint.ensures.ok
