use Rattle.std.proofs.Common.{refl}
use Rattle.spk_packets.specs.Spelling.{body}
use Rattle.spk_packets.specs.View.{publish_view}
use Rattle.spk_packets.proofs.Written.{if_head_spelled, if_join_refused, if_join_writable}
use Rattle.spk_packets.proofs.borrowed.PublishRef.encode_head.Goals as goal

pub returns-clause-spelled : goal.returns-clause-spelled
returns-clause-spelled c =
    if_head_spelled (publish_view c.args.self.now) c.join_head.result c.args.self.now.payload.now (body (publish_view c.args.self.now)) refl c.join_head.ensures.ok

pub returns-clause-refused : goal.returns-clause-refused
returns-clause-refused c = if_join_refused (publish_view c.args.self.now) c.join_head.result (body (publish_view c.args.self.now)) refl c.in_ok-judge.ensures.ok c.join_head.ensures.over

pub returns-clause-not_refused : goal.returns-clause-not_refused
returns-clause-not_refused c = if_join_writable (publish_view c.args.self.now) c.join_head.result (body (publish_view c.args.self.now)) refl c.in_ok-judge.ensures.ok c.join_head.ensures.within
