use Rattle.std.proofs.Common.{◌≡◌, ◌∙◌, ◌*◌, ap, length, map, arith}
use Rattle.std.proofs.lemmas.List.{length-map}
use Rattle.spk_payload.specs.Spelling.{number_field}
use Rattle.spk_payload.specs.View.{metric_view}
use Rattle.spk_edge.specs.History.{going, room, sending}
use Rattle.spk_edge.specs.View.{NodeData, given_of, given_view, message_view}
use Rattle.spk_edge.proofs.Fronts.{none-sending, some-sending, taken-going}
use Rattle.spk_edge.proofs.Plans.{if-ok}
use Rattle.spk_edge.proofs.node.EdgeNode.sending.Goals as goal

pub returns-then-count-eq0 : goal.returns-then-count-eq0
returns-then-count-eq0 c =
    let n = c.args.self.now in
    let topic = c.as_str.ensures.value ∙ c.in_ok-topic.ensures in
    let seq : c.from.result ≡ n.standing.seq = c.from.ensures ∙ ap (λ (n : NodeData). n.standing.seq) c.self.view_is in
    let size : c.len-count.result ≡ length (map metric_view c.in_ok-metrics.metrics.items) =
    (let len = c.len-count.ensures in let ok = c.in_ok-metrics.metrics.ok.0 in let same = length-map c.in_ok-metrics.metrics.items metric_view in omega (arith, len, ok, same)) in
    let is = size ∙ taken-going n c.args.now c.args.owner c.args.most c.room.result c.field_size.result c.field_size-tail.result c.saturating_sub-limit.result (map metric_view c.in_ok-metrics.metrics.items)
    (c.room.ensures.room ∙ ap room topic) (c.field_size.ensures.size ∙ ap (λ k. length (number_field (1 * 8) k)) c.later_stamp-stamp.ensures)
    (c.field_size-tail.ensures.size ∙ ap (λ k. length (number_field (3 * 8) k)) seq) c.saturating_sub-limit.ensures c.in_ok-metrics.ensures in
    c.dropping.ensures ∙ ap (given_of n.config n.standing.asked.heard) (none-sending n c.args.now c.args.owner c.args.most c.len-count.result is c.if-count-eq0.true)

pub returns : goal.returns
returns c =
    let n = c.args.self.now in
    let topic = c.as_str.ensures.value ∙ c.in_ok-topic.ensures in
    let seq : c.from.result ≡ n.standing.seq = c.from.ensures ∙ ap (λ (n : NodeData). n.standing.seq) c.self.view_is in
    let taken = map metric_view c.in_ok-metrics.metrics.items in
    let size : c.len-count.result ≡ length taken =
    (let len = c.len-count.ensures in let ok = c.in_ok-metrics.metrics.ok.0 in let same = length-map c.in_ok-metrics.metrics.items metric_view in omega (arith, len, ok, same)) in
    let is = size ∙ taken-going n c.args.now c.args.owner c.args.most c.room.result c.field_size.result c.field_size-tail.result c.saturating_sub-limit.result taken
    (c.room.ensures.room ∙ ap room topic) (c.field_size.ensures.size ∙ ap (λ k. length (number_field (1 * 8) k)) c.later_stamp-stamp.ensures)
    (c.field_size-tail.ensures.size ∙ ap (λ k. length (number_field (3 * 8) k)) seq) c.saturating_sub-limit.ensures c.in_ok-metrics.ensures in
    if-ok _ (λ g. given_view g ≡ given_of n.config n.standing.asked.heard (sending n.standing.asked c.args.now c.args.owner (going n c.args.now c.args.owner c.args.most))) c.giving.result
    (λ g given. given ∙ some-sending n c.args.now c.args.owner c.args.most c.len-count.result c.later_stamp-stamp.result _ taken (message_view c.unnumbered.result) size is c.if-count-eq0.false
    c.in_ok-topic.ensures c.later_stamp-stamp.ensures c.in_ok-metrics.ensures.items c.unnumbered.ensures) c.giving.ensures
