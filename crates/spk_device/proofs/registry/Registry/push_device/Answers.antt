use Rattle.std.proofs.Common.{◌≡◌, ◌∙◌, sym, ap, subst, false, [], ◌∷◌, ◌++◌, List, ℕ, length}
use Rattle.spk_device.specs.declared.device.Device.{Device}
use Rattle.spk_device.specs.Inside.{IsIndexedBy, book_of}
use Rattle.spk_names.specs.Names.{number_in}
use Rattle.spk_device.specs.View.{device_view}
use Rattle.spk_device.proofs.IndexLemmas.{device-indexed, device-new}
use Rattle.spk_device.proofs.LawfulLemmas.{NewDevice, new_device}
use Rattle.spk_device.proofs.registry.Registry.push_device.Goals as goal

pub enter_with-requires : goal.enter_with-requires
enter_with-requires c =
    let new : NewDevice (book_of c.self.inside) c.args.name.now =
    subst (λ b. NewDevice b c.args.name.now) (sym c.self.view_is) (new_device c.args.self.now c.args.name.now c.requires) in
    ap (number_in c.self.inside.numbers) c.in_ok-key.ensures.ok
    ∙ device-new c.self.inside.values c.self.inside.devices.items c.self.inside.gauges.items c.self.inside.numbers c.self.inside.own c.self.invariant c.args.name.now new

pub invariant_of-self-2 : goal.invariant_of-self-2
invariant_of-self-2 c =
    let new : NewDevice (book_of c.self.inside) c.args.name.now =
    subst (λ b. NewDevice b c.args.name.now) (sym c.self.view_is) (new_device c.args.self.now c.args.name.now c.requires) in
    let device : Device = record { name = c.in_ok-from_str.field-0; up = false; metrics = c.new.result } in
    let looks : device_view device ≡ record { name = c.args.name.now; up = false } =
    ap (λ (n : List ℕ). record { name = n; up = false }) c.in_ok-from_str.ensures.ok in
    let whole = device-indexed c.self.inside.values c.self.inside.devices.items c.self.inside.gauges.items c.self.inside.numbers c.self.inside.own c.self.invariant
    c.args.name.now device new looks c.new.ensures in
    let names : c.enter_with.new.names ≡ c.self.inside.numbers ++ (c.args.name.now, length c.self.inside.devices.items) ∷ [] =
    c.in_ok-enter_with.ensures.names ∙ ap (λ n. c.self.inside.numbers ++ (n, length c.self.inside.devices.items) ∷ []) c.in_ok-key.ensures.ok in
    subst (λ ds. IsIndexedBy c.self.inside.values ds c.self.inside.gauges.items c.enter_with.new.names c.self.inside.own) (sym c.in_ok-enter_with.ensures.items)
    (subst (λ ns. IsIndexedBy c.self.inside.values (c.self.inside.devices.items ++ device ∷ []) c.self.inside.gauges.items ns c.self.inside.own) (sym names) whole)
