use Rattle.std.proofs.Common.{◌∙◌, ◌<◌, ◌≤◌, ◌++◌, ◌∷◌, [], ℕ, List, ap, sym, arith, map, length}
use Rattle.std.specs.List.{enumerate_from, filter}
use Rattle.spk_device.specs.Book.{DeviceData}
use Rattle.spk_edge_rules.specs.Births.{device_birth, node_birth}
use Rattle.spk_edge.specs.Listed.{births_from}
use Rattle.spk_edge.specs.View.{MessageData, NodeData, message_view, unnumbered}
use Rattle.spk_edge.specs.declared.message.Published.{Published}
use Rattle.spk_edge.proofs.Devices.{births-all, births-more, map-twice}
use Rattle.spk_edge.proofs.node.EdgeNode.births.Goals as goal

pub loop-number-init : goal.loop-number-init
loop-number-init c =
    let n = c.args.self.now in
    let b = n.standing.asked.book in
    let rest = births_from n.config b c.args.stamp 0 b.devices in
    ap (λ (l : List Published). map message_view l ++ rest) (c.in_ok-push.ensures.items ∙ ap (λ (l : List Published). l ++ c.in_ok-node_birth.field-0 ∷ []) c.in_ok-messages.ensures.items)
    ∙ ap (λ (m : MessageData). m ∷ rest) c.in_ok-node_birth.ensures
    ∙ ap (λ (l : List MessageData). unnumbered n.config (node_birth b n.standing.asked.will_bd c.args.stamp) ∷ l)
    (map-twice (unnumbered n.config) (device_birth b c.args.stamp) (filter (λ (e : ℕ × DeviceData). e.1.up) (enumerate_from 0 b.devices)))

pub loop-number-preserved : goal.loop-number-preserved
loop-number-preserved c =
    let n = c.args.self.now in
    let below : c.loop-number.number < length n.standing.asked.book.devices = (let t = c.loop-number-test.true in let e = c.device_count-count.ensures.count in let same = ap (λ (n : NodeData). length n.standing.asked.book.devices) (sym c.self.view_is) in omega (arith, t, e, same)) in
    births-more n.config n.standing.asked.book c.args.stamp c.loop-number.number _ (map message_view c.loop-number.messages.items) (map message_view c.push_birth.new.messages.items)
    below c.loop-number.invariant c.in_ok-push_birth.ensures

pub returns : goal.returns
returns c =
    let n = c.args.self.now in
    let past : length n.standing.asked.book.devices ≤ c.loop-number.number = (let t = c.loop-number-test.false in let e = c.device_count-count.ensures.count in let same = ap (λ (n : NodeData). length n.standing.asked.book.devices) (sym c.self.view_is) in omega (arith, t, e, same)) in
    births-all n.config n.standing.asked.book c.args.stamp c.loop-number.number _ (map message_view c.loop-number.messages.items) past c.loop-number.invariant
