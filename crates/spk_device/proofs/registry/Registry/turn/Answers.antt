use Rattle.std.proofs.Common.{◌≡◌, ◌∙◌, sym, ap, refl, arith, false, map, length, Some}
use Rattle.std.proofs.lemmas.List.{length-map}
use Rattle.std.proofs.lemmas.Option.{slice_get-map, slice_get_read}
use Rattle.std.specs.Option.{option_map, option_map_or}
use Rattle.std.specs.Prelude.{List, slice_get}
use Rattle.spk_device.specs.Book.{DeviceData, number_of}
use Rattle.spk_device.specs.Inside.{book_of}
use Rattle.spk_device.specs.Step as step
use Rattle.spk_device.specs.Values.{flag_eq}
use Rattle.spk_device.specs.View.{device_view, gauge_view}
use Rattle.spk_device.proofs.IndexLemmas.{number-within, turned-devices, turned-indexed, up-is}
use Rattle.spk_device.proofs.registry.Registry.turn.Goals as goal

pub index_mut-requires : goal.index_mut-requires
index_mut-requires c =
    let found : number_of (book_of c.self.inside) c.args.name.now ≡ Some c.in-Some.number =
    ap (λ b. number_of b c.args.name.now) c.self.view_is ∙ sym c.in-Some.ensures in
    let low = number-within (book_of c.self.inside) c.args.name.now c.in-Some.number found in
    let size = length-map c.self.inside.devices.items device_view in
    omega arith

-- the device that is turned stands at its number
there : (c : goal.After-self-1) → slice_get c.self.inside.devices.items c.in-Some.number ≡ Some c.index_mut.result.now
there c =
    let found : number_of (book_of c.self.inside) c.args.name.now ≡ Some c.in-Some.number =
    ap (λ b. number_of b c.args.name.now) c.self.view_is ∙ sym c.in-Some.ensures in
    let low = number-within (book_of c.self.inside) c.args.name.now c.in-Some.number found in
    let size = length-map c.self.inside.devices.items device_view in
    slice_get_read c.self.inside.devices.items (length c.self.inside.devices.items) c.in-Some.number c.index_mut.result.now refl (omega arith) c.index_mut.ensures.value

pub invariant_of-self : goal.invariant_of-self
invariant_of-self c =
    let found : number_of (book_of c.self.inside) c.args.name.now ≡ Some c.in-Some.number =
    ap (λ b. number_of b c.args.name.now) c.self.view_is ∙ sym c.in-Some.ensures in
    turned-indexed c.self.inside.values c.self.inside.devices.items c.self.inside.gauges.items c.self.inside.numbers c.self.inside.own c.self.invariant
    c.args.name.now c.args.up c.in-Some.number c.index_mut.result.now c.turn.new.self found (there c) c.turn.ensures.data

pub returns-in-Some-clause-change : goal.returns-in-Some-clause-change
returns-in-Some-clause-change c =
    let found : number_of (book_of c.self.inside) c.args.name.now ≡ Some c.in-Some.number =
    ap (λ b. number_of b c.args.name.now) c.self.view_is ∙ sym c.in-Some.ensures in
    let seen = slice_get-map device_view c.self.inside.devices.items c.in-Some.number ∙ ap (option_map device_view) (there c) in
    c.turn.ensures.change
    ∙ sym (ap (λ u. step.change_unless (option_map_or (λ v. flag_eq v c.args.up) u false))
    (up-is (book_of c.self.inside) c.args.name.now c.in-Some.number (device_view c.index_mut.result.now) found seen))
    ∙ ap (λ b. step.turn_change b c.args.name.now c.args.up) c.self.view_is

pub returns-in-Some-clause-done : goal.returns-in-Some-clause-done
returns-in-Some-clause-done c =
    let found : number_of (book_of c.self.inside) c.args.name.now ≡ Some c.in-Some.number =
    ap (λ b. number_of b c.args.name.now) c.self.view_is ∙ sym c.in-Some.ensures in
    ap (λ (l : List DeviceData). record { devices = l; gauges = map gauge_view c.self.inside.gauges.items; values = c.self.inside.values })
    (turned-devices c.self.inside.values c.self.inside.devices.items c.self.inside.gauges.items c.self.inside.numbers c.self.inside.own c.self.invariant
    c.args.name.now c.args.up c.in-Some.number c.index_mut.result.now c.turn.new.self found (there c) c.turn.ensures.data)
    ∙ ap (λ b. step.with_turn b c.args.name.now c.args.up) c.self.view_is
