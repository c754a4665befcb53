use Rattle.std.proofs.Common.{◌≡◌, ◌∙◌, sym, ap, refl, map, length, Option, Some}
use Rattle.std.proofs.lemmas.Option.{slice_get_read, slice_get_within}
use Rattle.std.specs.List.{find}
use Rattle.std.specs.Prelude.{slice_get}
use Rattle.std.specs.Str.{bytes_eq}
use Rattle.spk_payload.specs.View.{metric_view}
use Rattle.spk_host_rules.specs.Data.{Device}
use Rattle.spk_host_rules.specs.Step.{is_device_lacking, rows_if_born}
use Rattle.spk_view.specs.Data.{Node}
use Rattle.spk_view.proofs.Devices.{device-found, find-turned}
use Rattle.spk_view.proofs.Places.{find-none, same-some}
use Rattle.spk_view.proofs.node.NodeView.is_device_lacking.Goals as goal

pub returns-in-Some : goal.returns-in-Some
returns-in-Some c =
    let items = c.self.inside.devices.items in
    let device : Device = c.in-Some.ensures.0 in
    let at : slice_get items c.in-Some.place ≡ Some device =
    ap (λ (n : Node). slice_get n.view.devices c.in-Some.place) c.self.view_is ∙ c.in-Some.ensures.1 in
    let read : c.index.result.now ≡ device =
    same-some (sym (slice_get_read items (length items) c.in-Some.place c.index.result.now refl (slice_get_within items c.in-Some.place device at) c.index.ensures) ∙ at) in
    c.is_lacking.ensures
    ∙ ap (λ (d : Device). is_device_lacking (rows_if_born (Some d)) (map metric_view c.args.metrics.now)) read
    ∙ ap (λ (o : Option Device). is_device_lacking (rows_if_born o) (map metric_view c.args.metrics.now))
    (sym (find-turned c.args.name.now items ∙ device-found c.args.name.now items c.in-Some.place device c.self.invariant at c.in-Some.ensures.2))
    ∙ ap (λ (n : Node). is_device_lacking (rows_if_born (find (λ (d : Device). bytes_eq d.name c.args.name.now) n.view.devices)) (map metric_view c.args.metrics.now)) c.self.view_is

pub returns-in-None : goal.returns-in-None
returns-in-None c =
    ap (λ (o : Option Device). is_device_lacking (rows_if_born o) (map metric_view c.args.metrics.now))
    (sym (find-turned c.args.name.now c.args.self.now.view.devices
    ∙ find-none (λ (d : Device). bytes_eq c.args.name.now d.name) c.args.self.now.view.devices c.in-None.ensures))
