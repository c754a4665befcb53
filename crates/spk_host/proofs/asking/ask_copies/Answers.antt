use Rattle.std.proofs.Common.{◌∙◌, ap, ◌++◌, ◌∷◌, [], map, append_assoc}
use Rattle.std.specs.Prelude.{replicate}
use Rattle.std.proofs.lemmas.List.{replicate-append-replicate}
use Rattle.spk_topics.specs.Spark.{named}
use Rattle.spk_host.proofs.Requests.{topics_more}
use Rattle.spk_host.proofs.asking.ask_copies.Goals as goal

pub loop-copy-preserved : goal.loop-copy-preserved
loop-copy-preserved c = record {
  topics = topics_more named c.ask_copy.new.rebirths.items c.loop-copy.rebirths.items c.args.rebirths.now.items c.args.group.now c.args.node.now
      c.loop-copy._copy c.loop-copy.invariant.topics c.in_ok-ask_copy.ensures.topics;
  packets = c.in_ok-ask_copy.ensures.packets
      ∙ ap (λ l. l ++ c.args.bytes.now ∷ []) c.loop-copy.invariant.packets
      ∙ append_assoc (map (λ b. b.items) c.args.packets.now.items) (replicate c.loop-copy._copy c.args.bytes.now) (c.args.bytes.now ∷ [])
      ∙ ap (λ l. map (λ b. b.items) c.args.packets.now.items ++ l) (replicate-append-replicate c.loop-copy._copy 1 c.args.bytes.now);
  whole = λ one before. c.in_ok-ask_copy.ensures.whole one (c.loop-copy.invariant.whole one before);
}
