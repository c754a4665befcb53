use Rattle.std.proofs.Common.{refl}
use Rattle.spk_packets.specs.Spelling.{body}
use Rattle.spk_packets.specs.View.{view}
use Rattle.spk_packets.proofs.Written.{if_join_spelled, if_join_refused, if_join_writable}
use Rattle.spk_packets.proofs.Canonical.{if_spells}
use Rattle.spk_packets.proofs.write.encode.Goals as goal

pub returns-clause-spelled : goal.returns-clause-spelled
returns-clause-spelled c = if_join_spelled (view c.args.packet.now) c.join.result (body (view c.args.packet.now)) refl c.join.ensures.ok

pub returns-clause-spells : goal.returns-clause-spells
returns-clause-spells c =
    if_spells c.args.packet.now c.join.result
    (if_join_spelled (view c.args.packet.now) c.join.result (body (view c.args.packet.now)) refl c.join.ensures.ok)
    (if_join_writable (view c.args.packet.now) c.join.result (body (view c.args.packet.now)) refl c.in_ok-judge.ensures.ok c.join.ensures.within)
    c.join.ensures.words

pub returns-clause-refused : goal.returns-clause-refused
returns-clause-refused c = if_join_refused (view c.args.packet.now) c.join.result (body (view c.args.packet.now)) refl c.in_ok-judge.ensures.ok c.join.ensures.over

pub returns-clause-not_refused : goal.returns-clause-not_refused
returns-clause-not_refused c = if_join_writable (view c.args.packet.now) c.join.result (body (view c.args.packet.now)) refl c.in_ok-judge.ensures.ok c.join.ensures.within
