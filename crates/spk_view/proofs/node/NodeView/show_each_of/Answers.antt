use Rattle.std.proofs.Common.{◌≡◌, ◌∙◌, sym, ap, refl, map, set, cond, length, List, Option, Some}
use Rattle.std.proofs.lemmas.Option.{slice_get_read, slice_get_within}
use Rattle.std.specs.List.{find}
use Rattle.std.specs.Prelude.{slice_get}
use Rattle.std.specs.Str.{bytes_eq}
use Rattle.spk_payload.specs.View.{metric_view}
use Rattle.spk_host_rules.specs.Data.{Device, View}
use Rattle.spk_host_rules.specs.Step.{changed_device, each_device, is_device_lacking, rows_if_born, show_all}
use Rattle.spk_view.specs.Data.{Node}
use Rattle.spk_view.proofs.Devices.{changed-nowhere, changed-there, device-found, find-turned}
use Rattle.spk_view.proofs.Places.{find-none, same-some}
use Rattle.spk_view.proofs.node.NodeView.show_each_of.Goals as goal

pub returns-in-Some-clause-lacking : goal.returns-in-Some-clause-lacking
returns-in-Some-clause-lacking c =
    let items = c.self.inside.devices.items in
    let ms = map metric_view c.args.metrics.now in
    let device : Device = c.in-Some.ensures.0 in
    let at : slice_get items c.in-Some.place ≡ Some device =
    ap (λ (n : Node). slice_get n.view.devices c.in-Some.place) c.self.view_is ∙ c.in-Some.ensures.1 in
    let read : c.index_mut.result.now ≡ device =
    same-some (sym (slice_get_read items (length items) c.in-Some.place c.index_mut.result.now refl (slice_get_within items c.in-Some.place device at) c.index_mut.ensures.value) ∙ at) in
    c.show_each.ensures.lacking
    ∙ ap (λ (d : Device). is_device_lacking (rows_if_born (Some d)) ms) read
    ∙ ap (λ (o : Option Device). is_device_lacking (rows_if_born o) ms)
    (sym (find-turned c.args.name.now items ∙ device-found c.args.name.now items c.in-Some.place device c.self.invariant at c.in-Some.ensures.2))
    ∙ ap (λ (n : Node). is_device_lacking (rows_if_born (find (λ (d : Device). bytes_eq d.name c.args.name.now) n.view.devices)) ms) c.self.view_is

pub returns-in-Some-clause-view : goal.returns-in-Some-clause-view
returns-in-Some-clause-view c =
    let items = c.self.inside.devices.items in
    let ms = map metric_view c.args.metrics.now in
    let was : View = record { online = c.self.inside.online; stale = c.self.inside.stale; rows = c.self.inside.table; devices = items } in
    let device : Device = c.in-Some.ensures.0 in
    let at : slice_get items c.in-Some.place ≡ Some device =
    ap (λ (n : Node). slice_get n.view.devices c.in-Some.place) c.self.view_is ∙ c.in-Some.ensures.1 in
    let read : c.index_mut.result.now ≡ device =
    same-some (sym (slice_get_read items (length items) c.in-Some.place c.index_mut.result.now refl (slice_get_within items c.in-Some.place device at) c.index_mut.ensures.value) ∙ at) in
    ap (λ (l : List Device). record was { devices = l })
    (ap (set items c.in-Some.place) (c.show_each.ensures.shown ∙ ap (λ (d : Device). record d { rows = cond d.born (show_all ms d.rows) d.rows }) read)
    ∙ sym (changed-there c.args.name.now ms items c.in-Some.place device c.self.invariant at c.in-Some.ensures.2))
    ∙ ap (λ (n : Node). each_device (changed_device c.args.name.now ms) n.view) c.self.view_is

pub returns-in-None-clause-lacking : goal.returns-in-None-clause-lacking
returns-in-None-clause-lacking c =
    ap (λ (o : Option Device). is_device_lacking (rows_if_born o) (map metric_view c.args.metrics.now))
    (sym (find-turned c.args.name.now c.args.self.now.view.devices
    ∙ find-none (λ (d : Device). bytes_eq c.args.name.now d.name) c.args.self.now.view.devices c.in-None.ensures))

pub returns-in-None-clause-view : goal.returns-in-None-clause-view
returns-in-None-clause-view c =
    let ms = map metric_view c.args.metrics.now in
    ap (λ (l : List Device). record c.args.self.now.view { devices = l })
    (sym (changed-nowhere c.args.name.now ms c.args.self.now.view.devices c.in-None.ensures))
