use Rattle.std.proofs.Common.{map}
use Rattle.spk_payload.specs.View.{metric_view}
use Rattle.spk_view.proofs.Showing.{no-texts}
use Rattle.spk_view.proofs.watch.Watch.consume_device_data.Goals as goal

pub show_device_data-is_unknown-requires : goal.show_device_data-is_unknown-requires
show_device_data-is_unknown-requires c = no-texts (map metric_view c.args.metrics.now) c.requires
