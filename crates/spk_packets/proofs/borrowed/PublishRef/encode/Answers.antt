use Rattle.std.proofs.Common.{refl}
use Rattle.spk_packets.specs.Spelling.{body}
use Rattle.spk_packets.specs.View.{publish_view}
use Rattle.spk_packets.proofs.Written.{if_join_spelled, if_join_refused, if_join_writable}
use Rattle.spk_packets.proofs.borrowed.PublishRef.encode.Goals as goal

pub returns-clause-spelled : goal.returns-clause-spelled
returns-clause-spelled c = if_join_spelled (publish_view c.args.self.now) c.join.result (body (publish_view c.args.self.now)) refl c.join.ensures.ok

pub returns-clause-refused : goal.returns-clause-refused
returns-clause-refused c = if_join_refused (publish_view c.args.self.now) c.join.result (body (publish_view c.args.self.now)) refl c.in_ok-judge.ensures.ok c.join.ensures.over

pub returns-clause-not_refused : goal.returns-clause-not_refused
returns-clause-not_refused c = if_join_writable (publish_view c.args.self.now) c.join.result (body (publish_view c.args.self.now)) refl c.in_ok-judge.ensures.ok c.join.ensures.within
