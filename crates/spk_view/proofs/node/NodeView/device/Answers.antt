use Rattle.std.proofs.Common.{◌≡◌, ◌∙◌, sym, ap, List, Some}
use Rattle.std.specs.List.{find}
use Rattle.std.specs.Option.{option_copied}
use Rattle.std.specs.Prelude.{slice_get}
use Rattle.std.specs.Str.{bytes_eq}
use Rattle.spk_host_rules.specs.Data.{Device}
use Rattle.spk_view.specs.Data.{Node}
use Rattle.spk_view.proofs.Devices.{device-found}
use Rattle.spk_view.proofs.Places.{find-none, got}
use Rattle.spk_view.proofs.node.NodeView.device.Goals as goal

pub returns-in_err-place : goal.returns-in_err-place
returns-in_err-place c =
    ap option_copied c.from_residual.ensures
    ∙ sym (find-none (λ (d : Device). bytes_eq c.args.name.now d.name) c.args.self.now.view.devices c.in_err-place.ensures)

pub returns : goal.returns
returns c =
    let items = c.self.inside.devices.items in
    let device : Device = c.in_ok-place.ensures.0 in
    let same : items ≡ c.args.self.now.view.devices = ap (λ (n : Node). n.view.devices) c.self.view_is in
    let at : slice_get items c.in_ok-place.place ≡ Some device =
    ap (λ (l : List Device). slice_get l c.in_ok-place.place) same ∙ c.in_ok-place.ensures.1 in
    got c.get.result c.deref.result.now c.in_ok-place.place device
    (ap (λ (l : List Device). slice_get l c.in_ok-place.place) c.deref.ensures.value ∙ at) c.get.ensures.lookup.0 c.get.ensures.lookup.1
    ∙ sym (device-found c.args.name.now items c.in_ok-place.place device c.self.invariant at c.in_ok-place.ensures.2)
    ∙ ap (λ (n : Node). find (λ (d : Device). bytes_eq c.args.name.now d.name) n.view.devices) c.self.view_is
