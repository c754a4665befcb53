use Rattle.std.proofs.Common.{◌∙◌, ◌^◌, ap, map, List, [], ◌∷◌, ◌++◌, ℕ, Vec}
use Rattle.std.specs.Option.{option_map}
use Rattle.std.specs.declared.alloc.Global.{Global}
use Rattle.std.proofs.lemmas.Bool.{lt-ltb}
use Rattle.spk_payload.specs.Typing.{typed_view}
use Rattle.spk_edge.specs.Sealing.{bytes_of}
use Rattle.spk_edge.proofs.Told.{sent-done}
use Rattle.spk_edge.proofs.node.EdgeNode.send_change.Goals as goal

pub returns-clause-done : goal.returns-clause-done
returns-clause-done c =
    sent-done c.args.self.now c.args.now c.args.alias c.in_ok-value.value (option_map typed_view c.args.value.now) c.later_stamp-stamp.result c.put_value.new.self c.count_sent.new.self c.answer.result
    (lt-ltb c.args.now (2 ^ 63) c.requires.moment) c.requires.accepted c.requires.asked c.in_ok-value.ensures c.later_stamp-stamp.ensures
    (lt-ltb c.later_stamp-stamp.result (2 ^ 63) c.if-stamp-ge-END.false) c.in_ok-change_packet.ensures.writable
    (ap (λ (v : Vec (Vec ℕ Global) Global). map bytes_of v.items) c.answer.ensures.packets ∙ ap (map bytes_of) c.in_ok-push.ensures.items
    ∙ ap (λ (l : List (Vec ℕ Global)). map bytes_of (l ++ c.in_ok-change_packet.field-0 ∷ [])) c.in_ok-packets.ensures.items
    ∙ ap (λ (b : List ℕ). b ∷ []) c.in_ok-change_packet.ensures.bytes)
    c.answer.ensures.writes c.answer.ensures.close c.in_ok-change_packet.ensures.whole c.put_value.ensures c.count_sent.ensures
