use Rattle.spk_payload.specs.View.{payload_view}
use Rattle.spk_reading.proofs.Payloads.{read_as}
use Rattle.spk_reading.proofs.published.content_in.Goals as goal

pub returns : goal.returns
returns c = c.content_with.ensures c.args.bytes.now (read_as c.args.bytes.now (payload_view c.in_ok-payload.payload) c.in_ok-payload.ensures)
