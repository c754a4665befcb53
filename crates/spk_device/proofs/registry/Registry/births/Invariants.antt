use Rattle.std.proofs.Common.{◌≡◌, map, take}
use Rattle.spk_payload.specs.View.{metric_view}
use Rattle.spk_device.specs.Book as book
use Rattle.spk_device.specs.View.{gauge_view}
use Rattle.spk_device.proofs.registry.Registry.births.Given as goal

abbrev pub invariant-loop-i : goal.invariant-loop-i
invariant-loop-i l =
    map metric_view l.metrics.items ≡ map book.birth_of (take l.i (book.owned l.fn.owner (map gauge_view l.self-inside.gauges.items)))
