use Rattle.std.proofs.Common.{◌≡◌, ◌∙◌, ◌^◌, ap, sym, map, length, option_copied, arith}
use Rattle.std.proofs.lemmas.Bool.{lt-ltb}
use Rattle.std.proofs.lemmas.List.{length-map}
use Rattle.spk_edge.specs.View.{NodeData, change_view}
use Rattle.spk_edge.proofs.Drains.{front-down, front-none, front-up, some-first}
use Rattle.spk_edge.proofs.Flushed.{dropped-done, none-done}
use Rattle.spk_edge.proofs.node.EdgeNode.drained.Goals as goal

pub returns-in_default-clause-done : goal.returns-in_default-clause-done
returns-in_default-clause-done c =
    let n = c.args.self.now in
    let kept = c.self.inside.store.items in
    let items : n.standing.asked.store.items ≡ map change_view kept = ap (λ (n : NodeData). n.standing.asked.store.items) (sym c.self.view_is) in
    none-done n c.args.now c.silence.result c.requires.born (lt-ltb c.args.now (2 ^ 63) c.requires.moment)
    (front-none n c.args.now kept items (ap option_copied (sym c.in_default.is) ∙ c.get.ensures))
    c.silence.ensures.packets c.silence.ensures.writes c.silence.ensures.close

pub send_kept-requires-clause-asked : goal.send_kept-requires-clause-asked
send_kept-requires-clause-asked c =
    let n = c.args.self.now in
    let kept = c.self.inside.store.items in
    let items : n.standing.asked.store.items ≡ map change_view kept = ap (λ (n : NodeData). n.standing.asked.store.items) (sym c.self.view_is) in
    front-up n c.args.now kept c.in-Some.first.now c.front_run-count.result items (ap option_copied (sym c.in-Some.is) ∙ c.get.ensures) c.front_run-count.ensures.answer
    (sym c.is_owner_up.ensures ∙ c.if-is_owner_up.true)

pub send_kept-requires-clause-some : goal.send_kept-requires-clause-some
send_kept-requires-clause-some c =
    let n = c.args.self.now in
    let kept = c.self.inside.store.items in
    let items : n.standing.asked.store.items ≡ map change_view kept = ap (λ (n : NodeData). n.standing.asked.store.items) (sym c.self.view_is) in
    some-first n kept c.in-Some.first.now items (ap option_copied (sym c.in-Some.is) ∙ c.get.ensures)

pub send_kept-requires-clause-few : goal.send_kept-requires-clause-few
send_kept-requires-clause-few c =
    let n = c.args.self.now in
    let kept = c.self.inside.store.items in
    let items : n.standing.asked.store.items ≡ map change_view kept = ap (λ (n : NodeData). n.standing.asked.store.items) (sym c.self.view_is) in
    let size : length n.standing.asked.store.items ≡ length kept = ap length items ∙ length-map kept change_view in
    let few = c.front_run-count.ensures.kept in
    omega (arith, size, few)

pub returns-clause-done : goal.returns-clause-done
returns-clause-done c =
    let n = c.args.self.now in
    let kept = c.self.inside.store.items in
    let items : n.standing.asked.store.items ≡ map change_view kept = ap (λ (n : NodeData). n.standing.asked.store.items) (sym c.self.view_is) in
    let asked = front-down n c.args.now kept c.in-Some.first.now c.front_run-count.result items (ap option_copied (sym c.in-Some.is) ∙ c.get.ensures) c.front_run-count.ensures.answer
    (sym c.is_owner_up.ensures ∙ c.if-is_owner_up.false) in
    let size : length n.standing.asked.store.items ≡ length kept = ap length items ∙ length-map kept change_view in
    let few = c.front_run-count.ensures.kept in
    dropped-done n c.args.now c.front_run-count.result c.drop_kept.new.self c.silence-2.result c.requires.born (lt-ltb c.args.now (2 ^ 63) c.requires.moment)
    asked (omega (arith, size, few)) c.silence-2.ensures.packets c.silence-2.ensures.writes c.silence-2.ensures.close c.drop_kept.ensures
