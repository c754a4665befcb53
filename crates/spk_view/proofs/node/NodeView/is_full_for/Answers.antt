use Rattle.std.proofs.Common.{◌∙◌, ap, not, arith}
use Rattle.std.specs.Str.{bytes_eq}
use Rattle.spk_host_rules.specs.Data.{Device}
use Rattle.spk_view.specs.Data.{Node}
use Rattle.spk_view.specs.Prepared.{has_device}
use Rattle.spk_view.proofs.Places.{any-place, true-not}
use Rattle.spk_view.proofs.node.NodeView.is_full_for.Goals as goal

pub returns-then-len-capacity-clause-full : goal.returns-then-len-capacity-clause-full
returns-then-len-capacity-clause-full c = λ none.
    let has = any-place (λ (d : Device). bytes_eq c.args.name.now d.name) c.args.self.now.view.devices c.place_of.result c.place_of.ensures in
    let room = ap (λ (n : Node). n.room) c.self.view_is in
    (has ∙ c.is_none.ensures ∙ ap not none, omega (arith, c.len.ensures, c.capacity.ensures))

pub returns-then-len-capacity-clause-not_full : goal.returns-then-len-capacity-clause-not_full
returns-then-len-capacity-clause-not_full c = λ some absent.
    let has = any-place (λ (d : Device). bytes_eq c.args.name.now d.name) c.args.self.now.view.devices c.place_of.result c.place_of.ensures in
    absurd (true-not (has_device c.args.name.now c.args.self.now.view.devices) absent (has ∙ c.is_none.ensures ∙ ap not some))
