use Rattle.std.proofs.Common.{◌∙◌, ap, List, ℕ, ◌∷◌, [], ◌++◌, append_assoc, length}
use Rattle.spk_packets.specs.Spelling as packet
use Rattle.spk_edge.specs.Saying.{topic_said}
use Rattle.spk_edge.proofs.Packed.{joined}
use Rattle.spk_edge.proofs.packet.Saying.join.Goals as goal

pub returns-clause-bytes : goal.returns-clause-bytes
returns-clause-bytes c =
    let topic = topic_said c.args.self.now in
    let before = c.put_length.new.out.items in
    joined c.args.self.now c.push.new.self.items before c.put_topic.new.out.items c.put_payload.new.out.items
    (c.in_ok-push.ensures.items ∙ ap (λ (l : List ℕ). l ++ 48 ∷ []) c.in_ok-out.ensures.items)
    (c.in_ok-put_length.ensures ∙ ap (λ n. c.push.new.self.items ++ packet.shortest n) c.requires.body)
    (c.in_ok-put_topic.ensures.ok ∙ ap (λ (l : List ℕ). l ++ topic) (c.in_ok-put_two.ensures ∙ ap (λ n. before ++ packet.number n) c.requires.topic)
    ∙ append_assoc before (packet.number (length topic)) topic)
    c.in_ok-put_payload.ensures.ok
