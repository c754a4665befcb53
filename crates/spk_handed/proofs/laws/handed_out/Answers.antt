use Rattle.spk_sequence.specs.HostRecord.{consumed_of, record_of}
use Rattle.spk_tie.specs.Tie.{host_setting}
use Rattle.spk_handed.proofs.laws.handed_out.Goals as goal

pub returns : goal.returns
returns c = λ s published wait width is js handed read. record {
  positions = consumed_of (record_of (host_setting s published wait width) is);
  are = c.consumption.ensures.session s published wait width is js handed.some_places handed.few_places read;
  fronts = c.headline.ensures.prefixes (host_setting s published wait width) is handed;
}
