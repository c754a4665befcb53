use Rattle.std.proofs.Common.{◌∙◌, ◌++◌, ◌∷◌, [], ap, sym, cond, take, List, ℕ, Bool, Vec}
use Rattle.std.specs.Prelude.{Option}
use Rattle.std.specs.Option.{option_map}
use Rattle.std.specs.declared.alloc.Global.{Global}
use Rattle.std.proofs.lemmas.List.{append-nil, map_push}
use Rattle.spk_payload.specs.Typing.{Typed, typed_view}
use Rattle.spk_payload.specs.declared.typing.Value.{Value}
use Rattle.spk_edge_rules.specs.Rules.{is_same_value, with_values}
use Rattle.spk_edge.specs.Several.{pair_view, pairs}
use Rattle.spk_edge.proofs.Sets.{other-more, pairs-more}
use Rattle.spk_edge.proofs.node.EdgeNode.others_in.Goals.{then-not-is_same_behind+in_ok-copied+in_ok-push, else-not-is_same_behind}
use Rattle.spk_edge.proofs.node.EdgeNode.others_in.Goals as goal

pub loop-change-preserved : goal.loop-change-preserved
loop-change-preserved c =
    let b = c.args.self.now.standing.asked.book in
    let i = c.loop-change.change-index in
    let x = c.change-item.result in
    let before = pairs c.loop-change.others.items in
    let more = pairs-more c.args.changes.now i x c.loop-change-test.true c.change-item.is in
    let test = c.is_same_behind.ensures ∙ ap (λ (l : List (ℕ × Option Value)). is_same_value (with_values b (pairs l)) x.0 (option_map typed_view x.1)) c.deref.ensures.value in
    let last : Bool → List (ℕ × Option Typed) = λ t. before ++ cond t [] (pair_view x ∷ []) in
    other-more b before (pairs c.if-not-is_same_behind.others.items) _ (pairs (take i c.args.changes.now)) (pair_view x) c.is_same_behind.result more c.loop-change.invariant test
    (elim c.if-not-is_same_behind.branch [
      | then-not-is_same_behind+in_ok-copied+in_ok-push w ↦
          ap (λ (v : Vec (ℕ × Option Value) Global). pairs v.items) w.others-is ∙ ap pairs w.in_ok-push.ensures.items
          ∙ map_push pair_view c.loop-change.others.items (x.0, w.in_ok-copied.field-0)
          ∙ ap (λ (v : Option Typed). before ++ (x.0, v) ∷ []) w.in_ok-copied.ensures
          ∙ ap last (sym w.if-not-is_same_behind.true)
      | else-not-is_same_behind w ↦
          ap (λ (v : Vec (ℕ × Option Value) Global). pairs v.items) w.others-is ∙ sym (append-nil before) ∙ ap last (sym w.if-not-is_same_behind.false)
    ])
