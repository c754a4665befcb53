use Rattle.spk_protobuf.proofs.Shortest.{put-two, put-three, put-four, put-five, put-six}
use Rattle.spk_protobuf.proofs.writing.put_any_varint.Goals as goal

pub returns-then-second-lt128-clause-ok : goal.returns-then-second-lt128-clause-ok
returns-then-second-lt128-clause-ok c = put-two c.extend_from_slice.result c.args.out.now.items c.extend_from_slice.new.self.items c.args.number c.followed-a.result c.requires c.followed-a.ensures c.if-second-lt128.true c.extend_from_slice.ensures.items

pub returns-then-third-lt128-clause-ok : goal.returns-then-third-lt128-clause-ok
returns-then-third-lt128-clause-ok c = put-three c.extend_from_slice-then-third-lt128.result c.args.out.now.items c.extend_from_slice-then-third-lt128.new.self.items c.args.number c.followed-a.result c.followed-b.result c.requires c.followed-a.ensures c.if-second-lt128.false c.followed-b.ensures c.if-third-lt128.true c.extend_from_slice-then-third-lt128.ensures.items

pub returns-then-fourth-lt128-clause-ok : goal.returns-then-fourth-lt128-clause-ok
returns-then-fourth-lt128-clause-ok c = put-four c.extend_from_slice-then-fourth-lt128.result c.args.out.now.items c.extend_from_slice-then-fourth-lt128.new.self.items c.args.number c.followed-a.result c.followed-b.result c.followed-c.result c.requires c.followed-a.ensures c.if-second-lt128.false c.followed-b.ensures c.if-third-lt128.false c.followed-c.ensures c.if-fourth-lt128.true c.extend_from_slice-then-fourth-lt128.ensures.items

pub returns-then-fifth-lt128-clause-ok : goal.returns-then-fifth-lt128-clause-ok
returns-then-fifth-lt128-clause-ok c = put-five c.extend_from_slice-then-fifth-lt128.result c.args.out.now.items c.extend_from_slice-then-fifth-lt128.new.self.items c.args.number c.followed-a.result c.followed-b.result c.followed-c.result c.followed-d.result c.requires c.followed-a.ensures c.if-second-lt128.false c.followed-b.ensures c.if-third-lt128.false c.followed-c.ensures c.if-fourth-lt128.false c.followed-d.ensures c.if-fifth-lt128.true c.extend_from_slice-then-fifth-lt128.ensures.items

pub returns-then-sixth-lt128-clause-ok : goal.returns-then-sixth-lt128-clause-ok
returns-then-sixth-lt128-clause-ok c = put-six c.extend_from_slice-then-sixth-lt128.result c.args.out.now.items c.extend_from_slice-then-sixth-lt128.new.self.items c.args.number c.followed-a.result c.followed-b.result c.followed-c.result c.followed-d.result c.followed-e.result c.requires c.followed-a.ensures c.if-second-lt128.false c.followed-b.ensures c.if-third-lt128.false c.followed-c.ensures c.if-fourth-lt128.false c.followed-d.ensures c.if-fifth-lt128.false c.followed-e.ensures c.if-sixth-lt128.true c.extend_from_slice-then-sixth-lt128.ensures.items
