use Rattle.std.proofs.Common.{◌≡◌, ◌∙◌, sym, ap, refl, subst, arith, [], ◌∷◌, ◌++◌, length, string_bytes, Some, set}
use Rattle.std.proofs.lemmas.Option.{slice_get_read}
use Rattle.std.specs.Option.{option_map}
use Rattle.std.specs.Prelude.{ℕ, List, slice_get}
use Rattle.spk_payload.specs.Typing.{typed_view}
use Rattle.spk_device.specs.declared.device.Device.{Device}
use Rattle.spk_device.specs.Book.{place_of}
use Rattle.spk_device.specs.Inside.{IsIndexedBy, book_of}
use Rattle.spk_names.specs.Names.{number_in}
use Rattle.spk_device.specs.Step as step
use Rattle.spk_device.proofs.IndexLemmas.{table-book, table-indexed, table-new, there-within}
use Rattle.spk_device.proofs.LawfulLemmas.{NewMetric, new_metric}
use Rattle.spk_device.proofs.registry.Registry.push_of_device.Goals as goal

pub index_mut-device-requires : goal.index_mut-device-requires
index_mut-device-requires c =
    let g = c.args.gauge in
    let new : NewMetric (book_of c.self.inside) g.owner (string_bytes g.name) g.datatype (option_map typed_view g.value) =
    subst (λ b. NewMetric b g.owner (string_bytes g.name) g.datatype (option_map typed_view g.value)) (sym c.self.view_is)
    (new_metric c.args.self.now g.owner (string_bytes g.name) g.datatype (option_map typed_view g.value) c.requires.accepted) in
    let low = there-within c.self.inside.devices.items g.owner c.args.number new.there c.requires.owner in
    omega arith

pub enter_with-requires : goal.enter_with-requires
enter_with-requires c =
    let g = c.args.gauge in
    let new : NewMetric (book_of c.self.inside) g.owner (string_bytes g.name) g.datatype (option_map typed_view g.value) =
    subst (λ b. NewMetric b g.owner (string_bytes g.name) g.datatype (option_map typed_view g.value)) (sym c.self.view_is)
    (new_metric c.args.self.now g.owner (string_bytes g.name) g.datatype (option_map typed_view g.value) c.requires.accepted) in
    let low = there-within c.self.inside.devices.items g.owner c.args.number new.there c.requires.owner in
    let there : slice_get c.self.inside.devices.items c.args.number ≡ Some c.index_mut-device.result.now =
    slice_get_read c.self.inside.devices.items (length c.self.inside.devices.items) c.args.number c.index_mut-device.result.now refl low c.index_mut-device.ensures.value in
    ap (number_in c.index_mut-device.result.now.metrics) c.requires.name
    ∙ table-new c.self.inside.values c.self.inside.devices.items c.self.inside.gauges.items c.self.inside.numbers c.self.inside.own c.self.invariant
    c.args.number c.index_mut-device.result.now (string_bytes g.name) there
    (ap (λ o. place_of (book_of c.self.inside) o (string_bytes g.name)) (sym c.requires.owner) ∙ new.new)

pub invariant_of-self-2 : goal.invariant_of-self-2
invariant_of-self-2 c =
    let g = c.args.gauge in
    let new : NewMetric (book_of c.self.inside) g.owner (string_bytes g.name) g.datatype (option_map typed_view g.value) =
    subst (λ b. NewMetric b g.owner (string_bytes g.name) g.datatype (option_map typed_view g.value)) (sym c.self.view_is)
    (new_metric c.args.self.now g.owner (string_bytes g.name) g.datatype (option_map typed_view g.value) c.requires.accepted) in
    let low = there-within c.self.inside.devices.items g.owner c.args.number new.there c.requires.owner in
    let there : slice_get c.self.inside.devices.items c.args.number ≡ Some c.index_mut-device.result.now =
    slice_get_read c.self.inside.devices.items (length c.self.inside.devices.items) c.args.number c.index_mut-device.result.now refl low c.index_mut-device.ensures.value in
    let names : c.enter_with.new.names ≡ c.index_mut-device.result.now.metrics ++ (string_bytes g.name, length c.self.inside.gauges.items) ∷ [] =
    c.in_ok-enter_with.ensures.names ∙ ap (λ n. c.index_mut-device.result.now.metrics ++ (n, length c.self.inside.gauges.items) ∷ []) c.requires.name in
    let old : Device = c.index_mut-device.result.now in
    let device : Device = record { name = c.index_mut-device.result.now.name; up = c.index_mut-device.result.now.up; metrics = c.enter_with.new.names } in
    let changed : device ≡ record old { metrics = old.metrics ++ (string_bytes g.name, length c.self.inside.gauges.items) ∷ [] } =
    ap (λ (m : List (List ℕ × ℕ)). record old { metrics = m }) names in
    subst (λ gs. IsIndexedBy c.self.inside.values (set c.self.inside.devices.items c.args.number device) gs c.self.inside.numbers c.self.inside.own)
    (sym c.in_ok-enter_with.ensures.items)
    (table-indexed c.self.inside.values c.self.inside.devices.items c.self.inside.gauges.items c.self.inside.numbers c.self.inside.own c.self.invariant
    c.args.number old device g new c.requires.owner there changed)

pub returns-clause-done : goal.returns-clause-done
returns-clause-done c =
    let g = c.args.gauge in
    let new : NewMetric (book_of c.self.inside) g.owner (string_bytes g.name) g.datatype (option_map typed_view g.value) =
    subst (λ b. NewMetric b g.owner (string_bytes g.name) g.datatype (option_map typed_view g.value)) (sym c.self.view_is)
    (new_metric c.args.self.now g.owner (string_bytes g.name) g.datatype (option_map typed_view g.value) c.requires.accepted) in
    let low = there-within c.self.inside.devices.items g.owner c.args.number new.there c.requires.owner in
    let there : slice_get c.self.inside.devices.items c.args.number ≡ Some c.index_mut-device.result.now =
    slice_get_read c.self.inside.devices.items (length c.self.inside.devices.items) c.args.number c.index_mut-device.result.now refl low c.index_mut-device.ensures.value in
    let names : c.enter_with.new.names ≡ c.index_mut-device.result.now.metrics ++ (string_bytes g.name, length c.self.inside.gauges.items) ∷ [] =
    c.in_ok-enter_with.ensures.names ∙ ap (λ n. c.index_mut-device.result.now.metrics ++ (n, length c.self.inside.gauges.items) ∷ []) c.requires.name in
    let old : Device = c.index_mut-device.result.now in
    let device : Device = record { name = c.index_mut-device.result.now.name; up = c.index_mut-device.result.now.up; metrics = c.enter_with.new.names } in
    let changed : device ≡ record old { metrics = old.metrics ++ (string_bytes g.name, length c.self.inside.gauges.items) ∷ [] } =
    ap (λ (m : List (List ℕ × ℕ)). record old { metrics = m }) names in
    table-book c.self.inside.values c.self.inside.devices.items c.self.inside.gauges.items c.self.inside.numbers c.self.inside.own c.self.invariant
    c.args.number old device g c.enter_with.new.items.items there changed c.in_ok-enter_with.ensures.items
    ∙ ap (λ b. step.with_metric b g.owner (string_bytes g.name) g.datatype (option_map typed_view g.value)) c.self.view_is
