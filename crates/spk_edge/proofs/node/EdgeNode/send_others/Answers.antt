use Rattle.std.proofs.Common.{◌≡◌, ◌∙◌, ◌^◌, ap, map, subst, List, [], ◌∷◌, ◌++◌, ℕ, Vec, true}
use Rattle.std.specs.Prelude.{Option}
use Rattle.std.specs.declared.alloc.Global.{Global}
use Rattle.std.proofs.lemmas.Bool.{lt-ltb}
use Rattle.spk_payload.specs.declared.typing.Value.{Value}
use Rattle.spk_packets.specs.Spelling.{spelling}
use Rattle.spk_edge_rules.specs.Writable.{is_writable}
use Rattle.spk_edge.specs.Sealing.{IsWhole, bytes_of, wire_of}
use Rattle.spk_edge.specs.Several.{message, pairs}
use Rattle.spk_edge.proofs.Severals.{sent-done}
use Rattle.spk_edge.proofs.node.EdgeNode.send_others.Goals as goal

pub returns-clause-done : goal.returns-clause-done
returns-clause-done c =
    let n = c.args.self.now in
    let owner = c.owner_of.result in
    let stamp = c.later_stamp-stamp.result in
    let same = c.deref.ensures.value in
    sent-done n c.args.now (pairs c.args.changes.now) (pairs c.args.others.items) owner stamp c.put_values.new.self c.count_sent.new.self c.answer.result
    c.requires.born (lt-ltb c.args.now (2 ^ 63) c.requires.moment) c.requires.accepted c.requires.others c.requires.some c.requires.up c.owner_of.ensures c.later_stamp-stamp.ensures
    (lt-ltb stamp (2 ^ 63) c.if-stamp-ge-END.false)
    (subst (λ (l : List (ℕ × Option Value)). is_writable (wire_of (message n owner stamp (pairs l))) ≡ true) same c.in_ok-changes_packet.ensures.writable)
    (ap (λ (v : Vec (Vec ℕ Global) Global). map bytes_of v.items) c.answer.ensures.packets ∙ ap (map bytes_of) c.in_ok-push.ensures.items
    ∙ ap (λ (l : List (Vec ℕ Global)). map bytes_of (l ++ c.in_ok-changes_packet.field-0 ∷ [])) c.in_ok-packets.ensures.items
    ∙ ap (λ (b : List ℕ). b ∷ []) c.in_ok-changes_packet.ensures.bytes
    ∙ ap (λ (l : List (ℕ × Option Value)). spelling (wire_of (message n owner stamp (pairs l))) ∷ []) same)
    c.answer.ensures.writes c.answer.ensures.close
    (subst (λ (l : List (ℕ × Option Value)). IsWhole (message n owner stamp (pairs l))) same c.in_ok-changes_packet.ensures.whole)
    c.put_values.ensures c.count_sent.ensures
