use Rattle.std.proofs.Common.{◌≡◌, ◌∙◌, sym, ap, refl, map, set, cond, length, List, Some}
use Rattle.std.proofs.lemmas.Option.{slice_get_read, slice_get_within}
use Rattle.std.specs.Prelude.{slice_get}
use Rattle.spk_payload.specs.View.{metric_view}
use Rattle.spk_host_rules.specs.Data.{Device, View}
use Rattle.spk_host_rules.specs.Step.{changed_device, each_device, show_all}
use Rattle.spk_view.specs.Data.{Node}
use Rattle.spk_view.proofs.Devices.{changed-nowhere, changed-there}
use Rattle.spk_view.proofs.Places.{same-some}
use Rattle.spk_view.proofs.node.NodeView.show_all_of.Goals as goal

pub returns-in-Some-clause-view : goal.returns-in-Some-clause-view
returns-in-Some-clause-view c =
    let items = c.self.inside.devices.items in
    let ms = map metric_view c.args.metrics.items in
    let was : View = record { online = c.self.inside.online; stale = c.self.inside.stale; rows = c.self.inside.table; devices = items } in
    let device : Device = c.in-Some.ensures.0 in
    let at : slice_get items c.in-Some.place ≡ Some device =
    ap (λ (n : Node). slice_get n.view.devices c.in-Some.place) c.self.view_is ∙ c.in-Some.ensures.1 in
    let read : c.index_mut.result.now ≡ device =
    same-some (sym (slice_get_read items (length items) c.in-Some.place c.index_mut.result.now refl (slice_get_within items c.in-Some.place device at) c.index_mut.ensures.value) ∙ at) in
    ap (λ (l : List Device). record was { devices = l })
    (ap (set items c.in-Some.place) (c.show_all.ensures ∙ ap (λ (d : Device). record d { rows = cond d.born (show_all ms d.rows) d.rows }) read)
    ∙ sym (changed-there c.args.name.now ms items c.in-Some.place device c.self.invariant at c.in-Some.ensures.2))
    ∙ ap (λ (n : Node). each_device (changed_device c.args.name.now ms) n.view) c.self.view_is

pub returns-in_default-clause-view : goal.returns-in_default-clause-view
returns-in_default-clause-view c =
    let ms = map metric_view c.args.metrics.items in
    ap (λ (l : List Device). record c.args.self.now.view { devices = l })
    (sym (changed-nowhere c.args.name.now ms c.args.self.now.view.devices c.in_default.ensures))
