use Rattle.std.proofs.Common.{◌∙◌, sym}
use Rattle.spk_broker.proofs.Retaining.{looked-up, room-else, room-there}
use Rattle.spk_broker.proofs.retained.has_room.Goals as goal

pub returns-then-contains_key : goal.returns-then-contains_key
returns-then-contains_key c =
    c.if-contains_key.true
    ∙ sym (room-there c.args.topic.now c.args.retained.now.entries
    (sym (looked-up c.args.topic.now c.args.retained.now.entries) ∙ sym c.contains_key.ensures ∙ c.if-contains_key.true))

pub returns-else-contains_key : goal.returns-else-contains_key
returns-else-contains_key c =
    room-else c.args.topic.now c.args.retained.now.entries c.len.result c.len.ensures.len
    (sym (looked-up c.args.topic.now c.args.retained.now.entries) ∙ sym c.contains_key.ensures ∙ c.if-contains_key.false)
