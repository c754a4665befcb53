use Rattle.std.proofs.Common.{◌≡◌, ◌∙◌, sym, ap, subst, [], ◌∷◌, ◌++◌, length, string_bytes}
use Rattle.std.specs.Option.{option_map}
use Rattle.spk_payload.specs.Typing.{typed_view}
use Rattle.spk_device.specs.Book.{place_of}
use Rattle.spk_device.specs.Inside.{IsIndexedBy, book_of}
use Rattle.spk_names.specs.Names.{number_in}
use Rattle.spk_device.proofs.IndexLemmas.{own-indexed, own-new}
use Rattle.spk_device.proofs.LawfulLemmas.{NewMetric, new_metric}
use Rattle.spk_device.proofs.registry.Registry.push_own.Goals as goal

pub enter_with-requires : goal.enter_with-requires
enter_with-requires c =
    let g = c.args.gauge in
    let new : NewMetric (book_of c.self.inside) g.owner (string_bytes g.name) g.datatype (option_map typed_view g.value) =
    subst (λ b. NewMetric b g.owner (string_bytes g.name) g.datatype (option_map typed_view g.value)) (sym c.self.view_is)
    (new_metric c.args.self.now g.owner (string_bytes g.name) g.datatype (option_map typed_view g.value) c.requires.accepted) in
    ap (number_in c.self.inside.own) c.requires.name
    ∙ own-new c.self.inside.values c.self.inside.devices.items c.self.inside.gauges.items c.self.inside.numbers c.self.inside.own c.self.invariant (string_bytes g.name)
    (ap (λ o. place_of (book_of c.self.inside) o (string_bytes g.name)) (sym c.requires.owner) ∙ new.new)

pub invariant_of-self-2 : goal.invariant_of-self-2
invariant_of-self-2 c =
    let g = c.args.gauge in
    let new : NewMetric (book_of c.self.inside) g.owner (string_bytes g.name) g.datatype (option_map typed_view g.value) =
    subst (λ b. NewMetric b g.owner (string_bytes g.name) g.datatype (option_map typed_view g.value)) (sym c.self.view_is)
    (new_metric c.args.self.now g.owner (string_bytes g.name) g.datatype (option_map typed_view g.value) c.requires.accepted) in
    let names : c.enter_with.new.names ≡ c.self.inside.own ++ (string_bytes g.name, length c.self.inside.gauges.items) ∷ [] =
    c.in_ok-enter_with.ensures.names ∙ ap (λ n. c.self.inside.own ++ (n, length c.self.inside.gauges.items) ∷ []) c.requires.name in
    subst (λ gs. IsIndexedBy c.self.inside.values c.self.inside.devices.items gs c.self.inside.numbers c.enter_with.new.names) (sym c.in_ok-enter_with.ensures.items)
    (subst (IsIndexedBy c.self.inside.values c.self.inside.devices.items (c.self.inside.gauges.items ++ g ∷ []) c.self.inside.numbers) (sym names)
    (own-indexed c.self.inside.values c.self.inside.devices.items c.self.inside.gauges.items c.self.inside.numbers c.self.inside.own c.self.invariant g new c.requires.owner))
