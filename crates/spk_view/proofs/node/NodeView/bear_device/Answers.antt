use Rattle.std.proofs.Common.{◌≡◌, ◌∙◌, sym, ap, subst, set, List, [], ◌∷◌, ◌++◌, Some, true, false, ℕ, string_bytes, arith}
use Rattle.std.specs.Prelude.{slice_get}
use Rattle.std.specs.Str.{bytes_eq}
use Rattle.spk_host_rules.specs.Data.{Device, View}
use Rattle.spk_view.specs.Data.{Node}
use Rattle.spk_view.specs.Indexed.{device_name, IsApart}
use Rattle.spk_view.specs.Prepared.{device_with, has_device, newborn}
use Rattle.spk_view.proofs.Places.{any-at, any-none, same-text, true-not}
use Rattle.spk_view.proofs.Devices.{apart-last, apart-set, put-last, put-there}
use Rattle.spk_view.proofs.node.NodeView.bear_device.Goals as goal

pub invariant_of-self : goal.invariant_of-self
invariant_of-self c =
    let items = c.self.inside.devices.items in
    let old : Device = c.in-Some.ensures.0 in
    let at : slice_get items c.in-Some.place ≡ Some old =
    ap (λ (n : Node). slice_get n.view.devices c.in-Some.place) c.self.view_is ∙ c.in-Some.ensures.1 in
    let same : c.born-device.result.name ≡ old.name =
    ap (λ (d : Device). d.name) c.born-device.ensures ∙ sym c.as_str.ensures.value ∙ same-text c.as_str.result.now old.name c.in-Some.ensures.2 in
    apart-set items c.in-Some.place old c.born-device.result c.self.invariant at same

pub push_reserved-requires : goal.push_reserved-requires
push_reserved-requires c =
    let name : List ℕ = string_bytes c.args.name in
    let absent : has_device name c.args.self.now.view.devices ≡ false =
    ap (λ (n : List ℕ). has_device n c.args.self.now.view.devices) (sym c.as_str.ensures.value)
    ∙ any-none (λ (d : Device). bytes_eq c.as_str.result.now d.name) c.args.self.now.view.devices c.in-None.ensures in
    let some = c.requires absent in
    let room = ap (λ (n : Node). n.room) c.self.view_is in
    omega arith

pub invariant_of-self-in-None : goal.invariant_of-self-in-None
invariant_of-self-in-None c =
    let items = c.self.inside.devices.items in
    let name : List ℕ = string_bytes c.args.name in
    let absent : has_device c.born-device.result.name items ≡ false =
    ap (λ (d : Device). has_device d.name items) c.born-device.ensures
    ∙ ap (λ (n : Node). has_device name n.view.devices) c.self.view_is
    ∙ ap (λ (n : List ℕ). has_device n c.args.self.now.view.devices) (sym c.as_str.ensures.value)
    ∙ any-none (λ (d : Device). bytes_eq c.as_str.result.now d.name) c.args.self.now.view.devices c.in-None.ensures in
    subst (IsApart device_name) (sym c.push_reserved.ensures.items) (apart-last items c.born-device.result c.self.invariant absent)

pub returns-in-Some-clause-view : goal.returns-in-Some-clause-view
returns-in-Some-clause-view c =
    let items = c.self.inside.devices.items in
    let name : List ℕ = string_bytes c.args.name in
    let was : View = record { online = c.self.inside.online; stale = c.self.inside.stale; rows = c.self.inside.table; devices = items } in
    let old : Device = c.in-Some.ensures.0 in
    let at : slice_get items c.in-Some.place ≡ Some old =
    ap (λ (n : Node). slice_get n.view.devices c.in-Some.place) c.self.view_is ∙ c.in-Some.ensures.1 in
    let same : bytes_eq name old.name ≡ true = ap (λ (n : List ℕ). bytes_eq n old.name) (sym c.as_str.ensures.value) ∙ c.in-Some.ensures.2 in
    ap (λ (l : List Device). record was { devices = l })
    (ap (set items c.in-Some.place) c.born-device.ensures
    ∙ sym (put-there (newborn name c.args.table was) items c.in-Some.place old c.self.invariant at same))
    ∙ ap (λ (n : Node). device_with name c.args.table n.view) c.self.view_is

pub returns-in-Some-clause-new : goal.returns-in-Some-clause-new
returns-in-Some-clause-new c = λ absent.
    let name : List ℕ = string_bytes c.args.name in
    let old : Device = c.in-Some.ensures.0 in
    let same : bytes_eq name old.name ≡ true = ap (λ (n : List ℕ). bytes_eq n old.name) (sym c.as_str.ensures.value) ∙ c.in-Some.ensures.2 in
    absurd (true-not (has_device name c.args.self.now.view.devices) absent
    (any-at (λ (d : Device). bytes_eq name d.name) c.args.self.now.view.devices c.in-Some.place old c.in-Some.ensures.1 same))

pub returns-in-None-clause-view : goal.returns-in-None-clause-view
returns-in-None-clause-view c =
    let items = c.self.inside.devices.items in
    let name : List ℕ = string_bytes c.args.name in
    let was : View = record { online = c.self.inside.online; stale = c.self.inside.stale; rows = c.self.inside.table; devices = items } in
    ap (λ (l : List Device). record was { devices = l })
    (c.push_reserved.ensures.items ∙ ap (λ (d : Device). items ++ d ∷ []) c.born-device.ensures
    ∙ sym (put-last (newborn name c.args.table was) items (λ k d at.
    ap (λ (n : List ℕ). bytes_eq n d.name) (sym c.as_str.ensures.value)
    ∙ c.in-None.ensures k d (sym (ap (λ (n : Node). slice_get n.view.devices k) c.self.view_is) ∙ at))))
    ∙ ap (λ (n : Node). device_with name c.args.table n.view) c.self.view_is

pub returns-in-None-clause-known : goal.returns-in-None-clause-known
returns-in-None-clause-known c = λ known.
    let name : List ℕ = string_bytes c.args.name in
    absurd (true-not (has_device name c.args.self.now.view.devices)
    (ap (λ (n : List ℕ). has_device n c.args.self.now.view.devices) (sym c.as_str.ensures.value)
    ∙ any-none (λ (d : Device). bytes_eq c.as_str.result.now d.name) c.args.self.now.view.devices c.in-None.ensures) known)
