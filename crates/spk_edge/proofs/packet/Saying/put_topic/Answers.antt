use Rattle.std.proofs.Common.{sym, subst, Some, None, option_copied}
use Rattle.std.specs.Str.{IsUtf8}
use Rattle.spk_topics.specs.Spark.{topic_of}
use Rattle.spk_edge.specs.Saying.{named_of}
use Rattle.spk_edge.proofs.Packed.{any-ok, topic-text}
use Rattle.spk_edge.proofs.packet.Saying.put_topic.Goals as goal

pub returns-in_ok-push-in-Some-clause-text : goal.returns-in_ok-push-in-Some-clause-text
returns-in_ok-push-in-Some-clause-text c =
    let s = c.args.self.now in
    any-ok c.put_name-in-Some-2.result
    (subst (λ o. IsUtf8 (topic_of (named_of s.group.now s.node.now (option_copied o)))) (sym c.in-Some.is)
    (topic-text s.group.now s.node.now (Some c.in-Some.device.now) c.put_name.ensures.text c.put_name-in-Some.ensures.text c.put_name-in-Some-2.ensures.text))

pub returns-in_ok-extend_from_slice-in-None-clause-text :
    goal.returns-in_ok-extend_from_slice-in-None-clause-text
returns-in_ok-extend_from_slice-in-None-clause-text c =
    let s = c.args.self.now in
    any-ok c.put_name-in-None.result
    (subst (λ o. IsUtf8 (topic_of (named_of s.group.now s.node.now (option_copied o)))) (sym c.in-None.is)
    (topic-text s.group.now s.node.now None c.put_name.ensures.text c.put_name-in-None.ensures.text tt))
