use Rattle.std.proofs.Common.{◌∙◌, ◌^◌, ap, map, List, ℕ}
use Rattle.std.specs.Prelude.{Option}
use Rattle.std.proofs.lemmas.Bool.{lt-ltb}
use Rattle.spk_payload.specs.declared.typing.Value.{Value}
use Rattle.spk_edge.specs.Several.{all_at, pairs}
use Rattle.spk_edge.specs.View.{change_view}
use Rattle.spk_edge.proofs.Severals.{keep-done}
use Rattle.spk_edge.proofs.node.EdgeNode.keep_others.Goals as goal

pub returns-clause-done : goal.returns-clause-done
returns-clause-done c =
    let n = c.args.self.now in
    keep-done n c.args.now (pairs c.args.changes.now) (pairs c.args.others.items) (map change_view c.in_ok-kept.kept.items) c.put_values.new.self c.keep_each.new.self c.silence.result
    (lt-ltb c.args.now (2 ^ 63) c.requires.moment) c.requires.waits c.requires.accepted c.requires.others c.requires.up
    (c.in_ok-kept.ensures ∙ ap (λ (l : List (ℕ × Option Value)). all_at n.standing.asked.book c.args.now (pairs l)) c.deref.ensures.value)
    c.silence.ensures.packets c.silence.ensures.writes c.silence.ensures.close c.put_values.ensures c.keep_each.ensures
