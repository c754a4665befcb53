use Rattle.std.proofs.Common.{◌≡◌, ◌∙◌, sym, ap, refl, set, length, map, List, Some}
use Rattle.std.proofs.lemmas.Option.{slice_get_read, slice_get_within}
use Rattle.std.specs.Prelude.{slice_get}
use Rattle.spk_payload.specs.View.{metric_view}
use Rattle.spk_host_rules.specs.Data.{Device, Row, View}
use Rattle.spk_host_rules.specs.Table.{table_of}
use Rattle.spk_view.specs.Data.{Node}
use Rattle.spk_view.specs.Prepared.{device_with, newborn}
use Rattle.spk_view.proofs.Devices.{apart-set, put-there}
use Rattle.spk_view.proofs.Places.{same-some, same-text}
use Rattle.spk_view.proofs.node.NodeView.bear_device_again.Goals as goal

pub invariant_of-self : goal.invariant_of-self
invariant_of-self c =
    let items = c.self.inside.devices.items in
    let old : Device = c.in-Some.ensures.0 in
    let at : slice_get items c.in-Some.place ≡ Some old =
    ap (λ (n : Node). slice_get n.view.devices c.in-Some.place) c.self.view_is ∙ c.in-Some.ensures.1 in
    let read : c.index_mut.result.now ≡ old =
    same-some (sym (slice_get_read items (length items) c.in-Some.place c.index_mut.result.now refl (slice_get_within items c.in-Some.place old at) c.index_mut.ensures.value) ∙ at) in
    apart-set items c.in-Some.place old c.bear.new.self c.self.invariant at (c.bear.ensures.name ∙ ap (λ (d : Device). d.name) read)

pub returns-in_ok-is_born-in-Some-clause-born : goal.returns-in_ok-is_born-in-Some-clause-born
returns-in_ok-is_born-in-Some-clause-born c = λ is.
    let items = c.self.inside.devices.items in
    let rows : List Row = table_of (map metric_view c.args.metrics.now) in
    let was : View = record { online = c.self.inside.online; stale = c.self.inside.stale; rows = c.self.inside.table; devices = items } in
    let old : Device = c.in-Some.ensures.0 in
    let at : slice_get items c.in-Some.place ≡ Some old =
    ap (λ (n : Node). slice_get n.view.devices c.in-Some.place) c.self.view_is ∙ c.in-Some.ensures.1 in
    let read : c.index_mut.result.now ≡ old =
    same-some (sym (slice_get_read items (length items) c.in-Some.place c.index_mut.result.now refl (slice_get_within items c.in-Some.place old at) c.index_mut.ensures.value) ∙ at) in
    let named : c.index_mut.result.now.name ≡ c.args.name.now = ap (λ (d : Device). d.name) read ∙ sym (same-text c.args.name.now old.name c.in-Some.ensures.2) in
    ap (λ (l : List Device). record was { devices = l })
    (ap (set items c.in-Some.place) (c.in_ok-is_born-in-Some.ensures.born is ∙ ap (λ name. newborn name rows was) named)
    ∙ sym (put-there (newborn c.args.name.now rows was) items c.in-Some.place old c.self.invariant at c.in-Some.ensures.2))
    ∙ ap (λ (n : Node). device_with c.args.name.now rows n.view) c.self.view_is
