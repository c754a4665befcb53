use Rattle.std.proofs.Common.{◌∙◌, ◌≡◌, inr, sym, refl, length, ◌+◌, arith}
use Rattle.spk_packets.specs.Spelling as packet
use Rattle.spk_edge.specs.Saying.{said, topic_said}
use Rattle.spk_edge.proofs.Packed.{bad-text, body-length, can-write, good-text, long-text, metric-large, whole-large, zero-text}
use Rattle.spk_edge.proofs.packet.Saying.packet.Goals.{then-topic-gt65535-via-then-topic-gt65535, then-topic-gt65535-via-else-topic-gt65535+then-has_zero}
use Rattle.spk_edge.proofs.packet.Saying.packet.Goals as goal

pub returns-then-topic-gt65535-clause-fault : goal.returns-then-topic-gt65535-clause-fault
returns-then-topic-gt65535-clause-fault c =
    inr (
      refl,
      bad-text c.args.self.now (elim c.then-topic-gt65535.branch [
        | then-topic-gt65535-via-then-topic-gt65535 w ↦ long-text (topic_said c.args.self.now) c.topic_size-topic.result c.topic_size-topic.ensures w.if-topic-gt65535.true
        | then-topic-gt65535-via-else-topic-gt65535+then-has_zero w ↦ zero-text (topic_said c.args.self.now) (sym w.has_zero.ensures ∙ w.if-has_zero.true)
      ]),
    )

pub returns-then-metric-gt-LARGEST-clause-fault : goal.returns-then-metric-gt-LARGEST-clause-fault
returns-then-metric-gt-LARGEST-clause-fault c =
    inr (
      refl,
      metric-large c.args.self.now c.metric_size-metric.result
          (good-text (topic_said c.args.self.now) c.topic_size-topic.result c.topic_size-topic.ensures c.if-topic-gt65535.false (sym c.has_zero.ensures ∙ c.if-has_zero.false)).1
          c.metric_size-metric.ensures c.if-metric-gt-LARGEST.true,
    )

pub returns-then-length_size-len-gt-LARGEST-clause-fault :
    goal.returns-then-length_size-len-gt-LARGEST-clause-fault
returns-then-length_size-len-gt-LARGEST-clause-fault c =
    let good = good-text (topic_said c.args.self.now) c.topic_size-topic.result c.topic_size-topic.ensures c.if-topic-gt65535.false (sym c.has_zero.ensures ∙ c.if-has_zero.false) in
    let size : c.topic_size-topic.result ≡ length (topic_said c.args.self.now) = good.0 in
    let body : c.topic_size-topic.result + c.payload_size.result + 2 ≡ length (packet.body (said c.args.self.now)) =
    omega (arith, size, body-length c.args.self.now, c.payload_size.ensures.size) in
    inr (refl, whole-large c.args.self.now c.length_size.result (c.topic_size-topic.result + c.payload_size.result + 2) good.1 c.length_size.ensures.size body c.if-length_size-len-gt-LARGEST.true)

pub join-requires-clause-body : goal.join-requires-clause-body
join-requires-clause-body c =
    let good = good-text (topic_said c.args.self.now) c.topic_size-topic.result c.topic_size-topic.ensures c.if-topic-gt65535.false (sym c.has_zero.ensures ∙ c.if-has_zero.false) in
    let size : c.topic_size-topic.result ≡ length (topic_said c.args.self.now) = good.0 in
    omega (arith, size, body-length c.args.self.now, c.payload_size.ensures.size)

pub returns-clause-writable : goal.returns-clause-writable
returns-clause-writable c =
    let good = good-text (topic_said c.args.self.now) c.topic_size-topic.result c.topic_size-topic.ensures c.if-topic-gt65535.false (sym c.has_zero.ensures ∙ c.if-has_zero.false) in
    let size : c.topic_size-topic.result ≡ length (topic_said c.args.self.now) = good.0 in
    let body : c.topic_size-topic.result + c.payload_size.result + 2 ≡ length (packet.body (said c.args.self.now)) =
    omega (arith, size, body-length c.args.self.now, c.payload_size.ensures.size) in
    can-write c.args.self.now c.length_size.result (c.topic_size-topic.result + c.payload_size.result + 2) good.1 c.length_size.ensures.size body c.if-length_size-len-gt-LARGEST.false
