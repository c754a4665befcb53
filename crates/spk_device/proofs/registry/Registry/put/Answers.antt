use Rattle.std.proofs.Common.{◌∙◌, sym, ap, false, ◌-◌}
use Rattle.std.specs.Option.{option_map, option_map_or}
use Rattle.spk_payload.specs.Typing.{typed_view}
use Rattle.spk_device.specs.Book.{GaugeData}
use Rattle.spk_device.specs.Inside.{book_of}
use Rattle.spk_device.specs.Step as step
use Rattle.spk_device.specs.Values.{value_eq}
use Rattle.spk_device.proofs.IndexLemmas.{SetsAt, set-book, set-indexed, sets-at}
use Rattle.spk_device.proofs.registry.Registry.put.Goals as goal

-- what is set stands at the alias
at_alias : (c : goal.After-self-1)
    → SetsAt (book_of c.self.inside) c.self.inside.gauges.items c.args.alias (option_map typed_view c.args.value) c.index_mut.result.now
at_alias c =
    sets-at c.self.inside.values c.self.inside.devices.items c.self.inside.gauges.items c.args.alias (option_map typed_view c.args.value) c.index_mut.result.now
    (ap (λ b. step.set_refusal b c.args.alias (option_map typed_view c.args.value)) c.self.view_is ∙ c.requires) c.index_mut.ensures.value

pub invariant_of-self : goal.invariant_of-self
invariant_of-self c =
    let known = at_alias c in
    set-indexed c.self.inside.values c.self.inside.devices.items c.self.inside.gauges.items c.self.inside.numbers c.self.inside.own c.self.invariant
    (c.args.alias - 1) c.index_mut.result.now c.put.new.self (option_map typed_view c.args.value) known.there c.put.ensures.data known.kind

pub returns-clause-change : goal.returns-clause-change
returns-clause-change c =
    let known = at_alias c in
    let v = option_map typed_view c.args.value in
    c.put.ensures.change
    ∙ sym (ap (λ g. step.change_unless (option_map_or (λ (x : GaugeData). value_eq x.value v) g false)) known.found)
    ∙ ap (λ b. step.set_change b c.args.alias v) c.self.view_is

pub returns-clause-data : goal.returns-clause-data
returns-clause-data c =
    let known = at_alias c in
    let v = option_map typed_view c.args.value in
    set-book c.self.inside.values c.self.inside.devices.items c.self.inside.gauges.items c.self.inside.numbers c.self.inside.own c.self.invariant
    (c.args.alias - 1) c.args.alias c.index_mut.result.now c.put.new.self v known.first known.there c.put.ensures.data
    ∙ ap (λ b. step.with_value b c.args.alias v) c.self.view_is
