use Rattle.std.proofs.Common.{◌∙◌, ◌^◌, ap, refl, map, List, [], ◌∷◌, ◌++◌, ℕ, Vec}
use Rattle.std.specs.Option.{option_map}
use Rattle.std.specs.declared.alloc.Global.{Global}
use Rattle.std.proofs.lemmas.Bool.{lt-ltb}
use Rattle.spk_payload.specs.Typing.{typed_view}
use Rattle.spk_edge.specs.Sealing.{bytes_of}
use Rattle.spk_edge.specs.View.{MessageData, message_view}
use Rattle.spk_edge.specs.declared.message.Published.{Published}
use Rattle.spk_edge.proofs.Told.{sent-planned}
use Rattle.spk_edge.proofs.node.EdgeNode.sent_plan.Goals as goal

pub returns-clause-planned : goal.returns-clause-planned
returns-clause-planned c =
    sent-planned c.args.self.now c.args.now c.args.alias c.in_ok-value.value (option_map typed_view c.args.value.now) c.later_stamp-stamp.result _
    (lt-ltb c.args.now (2 ^ 63) c.requires.moment) c.requires.accepted c.requires.asked c.in_ok-value.ensures c.later_stamp-stamp.ensures
    (lt-ltb c.later_stamp-stamp.result (2 ^ 63) c.if-stamp-ge-END.false) c.in_ok-message.ensures.writable
    (ap (map bytes_of) c.in_ok-push.ensures.items
    ∙ ap (λ (l : List (Vec ℕ Global)). map bytes_of (l ++ c.in_ok-message.field-0.packet ∷ [])) c.in_ok-packets.ensures.items
    ∙ ap (λ (b : List ℕ). b ∷ []) c.in_ok-message.ensures.bytes)
    c.new.ensures.items refl
    (ap (map message_view) c.in_ok-push-2.ensures.items
    ∙ ap (λ (l : List Published). map message_view (l ++ c.in_ok-message.field-0.message ∷ [])) c.in_ok-messages.ensures.items
    ∙ ap (λ (m : MessageData). m ∷ []) c.in_ok-message.ensures.message)
    c.in_ok-message.ensures.whole c.tally_sent.ensures refl refl
