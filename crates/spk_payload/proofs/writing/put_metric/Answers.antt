use Rattle.spk_payload.specs.View.{metric_view}
use Rattle.spk_payload.proofs.Appended.{metric_parts}
use Rattle.spk_payload.proofs.writing.put_metric.Goals as goal

pub returns-clause-ok : goal.returns-clause-ok
returns-clause-ok c = metric_parts c.put_fields.result c.args.out.now.items c.put_varint.new.out.items c.put_varint-2.new.out.items c.put_fields.new.out.items (metric_view c.args.metric.now) c.metric_size.result c.put_fields.ensures.ok c.put_fields.ensures.fits c.in_ok-put_varint-2.ensures.ok c.in_ok-put_varint.ensures.ok c.metric_size.ensures
