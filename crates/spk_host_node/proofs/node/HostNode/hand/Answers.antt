use Rattle.std.proofs.Common.{◌≡◌, ◌≤◌, ◌∙◌, sym, ap, arith, length}
use Rattle.spk_reading.specs.View.{numbered_view}
use Rattle.spk_order.specs.Step.{handed}
use Rattle.spk_host_node.specs.Room.{most_heard}
use Rattle.spk_host_node.specs.Step.{hand, requests_of, step_of, taken_of}
use Rattle.spk_host_node.proofs.Heard.{asked_are, fits, heard_is, none_taken, taken_are, watched_are}
use Rattle.spk_host_node.proofs.Parts.{same_node}
use Rattle.spk_host_node.proofs.node.HostNode.hand.Goals as goal

pub hear-requires-clause-nothing : goal.hear-requires-clause-nothing
hear-requires-clause-nothing c =
    none_taken c.in-Ok.handed.step c.self.inside.order.kept c.args.message.number c.in_ok-kept.kept c.in-Ok.handed.consumed.items c.in-Ok.ensures.consumed

pub hear-requires-clause-room : goal.hear-requires-clause-room
hear-requires-clause-room c =
    let same : c.in-Ok.handed.step ≡ c.step_of-step.result =
    c.in-Ok.ensures.step ∙ ap (λ n. step_of n.order (numbered_view c.args.message) c.args.now) c.self.view_is ∙ sym c.step_of-step.ensures in
    let most : c.most_heard-room.result ≡ most_heard c.in-Ok.handed.step = c.most_heard-room.ensures.most ∙ ap most_heard (sym same) in
    let few : length c.in-Ok.handed.consumed.items ≤ most_heard c.in-Ok.handed.step =
    fits c.in-Ok.handed.step c.self.inside.order.kept c.args.message.number c.in_ok-kept.kept c.in-Ok.handed.consumed.items c.in-Ok.ensures.consumed in
    omega (arith, most, few, c.in_ok-reserve.ensures.room)

pub hear-requires-clause-capacity : goal.hear-requires-clause-capacity
hear-requires-clause-capacity c =
    let same : c.in-Ok.handed.step ≡ c.step_of-step.result =
    c.in-Ok.ensures.step ∙ ap (λ n. step_of n.order (numbered_view c.args.message) c.args.now) c.self.view_is ∙ sym c.step_of-step.ensures in
    let most : c.most_heard-room.result ≡ most_heard c.in-Ok.handed.step = c.most_heard-room.ensures.most ∙ ap most_heard (sym same) in
    let few : length c.in-Ok.handed.consumed.items ≤ most_heard c.in-Ok.handed.step =
    fits c.in-Ok.handed.step c.self.inside.order.kept c.args.message.number c.in_ok-kept.kept c.in-Ok.handed.consumed.items c.in-Ok.ensures.consumed in
    omega (arith, most, few, c.in_ok-consumed.ensures.exact, c.in_ok-consumed.ensures.capacity)

pub returns-clause-consumed : goal.returns-clause-consumed
returns-clause-consumed c =
    c.hear.ensures.consumed ∙ taken_are c.self.inside.order (numbered_view c.args.message) c.in_ok-kept.kept c.args.now c.in-Ok.handed.step
    c.in-Ok.handed.consumed.items c.in_ok-kept.ensures c.in-Ok.ensures.step c.in-Ok.ensures.consumed
    ∙ ap (λ n. taken_of n.order (numbered_view c.args.message) c.args.now) c.self.view_is

pub returns-clause-requests : goal.returns-clause-requests
returns-clause-requests c =
    c.hear.ensures.requests ∙ asked_are _ _ _ _ _ _ (c.wait-wait.ensures ∙ ap (λ s. s.wait) c.sequence.ensures.standing) c.in_ok-reserve.ensures.watch
    (heard_is c.self.inside.order (numbered_view c.args.message) c.in_ok-kept.kept c.args.now c.in-Ok.handed.step
    c.in-Ok.handed.consumed.items c.in_ok-kept.ensures c.in-Ok.ensures.step c.in-Ok.ensures.consumed)
    ∙ ap (λ n. requests_of n (numbered_view c.args.message) c.args.now) c.self.view_is

pub returns-clause-data : goal.returns-clause-data
returns-clause-data c =
    same_node (c.in-Ok.ensures.data ∙ ap (λ p. handed c.self.inside.order c.args.message.number c.args.message.kind p c.args.now) c.in_ok-kept.ensures)
    (c.hear.ensures.watch ∙ watched_are _ _ _ _ _ _ (c.wait-wait.ensures ∙ ap (λ s. s.wait) c.sequence.ensures.standing) c.in_ok-reserve.ensures.watch
    (heard_is c.self.inside.order (numbered_view c.args.message) c.in_ok-kept.kept c.args.now c.in-Ok.handed.step
    c.in-Ok.handed.consumed.items c.in_ok-kept.ensures c.in-Ok.ensures.step c.in-Ok.ensures.consumed))
    ∙ ap (λ n. hand n (numbered_view c.args.message) c.args.now) c.self.view_is
