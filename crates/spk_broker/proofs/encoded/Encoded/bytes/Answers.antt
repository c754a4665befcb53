use Rattle.std.proofs.Common.{string_bytes}
use Rattle.spk_broker.specs.Parts.{stored_view}
use Rattle.spk_broker.proofs.encoded.Encoded.bytes.Goals as goal

pub returns-clause-right : goal.returns-clause-right
returns-clause-right c es at h = c.in_ok-given.ensures.right es (string_bytes c.args.topic.now, stored_view c.args.stored.now) at c.in_ok-bytes.ensures h
