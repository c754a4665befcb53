use Rattle.std.proofs.Common.{◌∙◌, sym, ap, arith, map, length, ◌≤◌}
use Rattle.std.proofs.lemmas.Bool.Decides.{nat_tests}
use Rattle.spk_device.specs.declared.owner.Owner.TheVariants.{Device as OfDevice}
use Rattle.spk_device.specs.Book.{Book}
use Rattle.spk_device.specs.Lawful.{metric_names}
use Rattle.spk_device.specs.View.{device_view, gauge_view}
use Rattle.spk_device.proofs.IndexLemmas.{metric_names-absent, not-there}
use Rattle.spk_device.proofs.registry.Registry.table.Goals as goal

pub returns-in-None-clause-none : goal.returns-in-None-clause-none
returns-in-None-clause-none c =
    let low : length c.self.inside.devices.items ≤ c.in-Device.number =
    let past = c.in-None.ensures.lookup.0 in
    let size = ap length c.deref.ensures.value in
    grind (arith, nat_tests) in
    ap (λ (b : Book). metric_names c.args.owner b.gauges) (sym c.self.view_is)
    ∙ ap (λ o. metric_names o (map gauge_view c.self.inside.gauges.items)) c.in-Device.is
    ∙ metric_names-absent (OfDevice c.in-Device.number) (map device_view c.self.inside.devices.items) (map gauge_view c.self.inside.gauges.items)
    c.self.invariant.lawful.owners (not-there c.self.inside.devices.items c.in-Device.number low)
