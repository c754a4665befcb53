use Rattle.spk_page.proofs.Streaming.{stream_reads}
use Rattle.spk_page.proofs.laws.any_stream.Goals as goal

pub returns : goal.returns
returns c = stream_reads
