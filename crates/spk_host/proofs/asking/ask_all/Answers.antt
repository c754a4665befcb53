use Rattle.spk_topics.specs.Spark.{named}
use Rattle.spk_host.proofs.Requests.{requests_more, topics_more}
use Rattle.spk_host.proofs.asking.ask_all.Goals as goal

pub loop-request-preserved : goal.loop-request-preserved
loop-request-preserved c = record {
  topics = topics_more named c.ask.new.rebirths.items c.loop-request.rebirths.items c.args.rebirths.now.items c.args.group.now c.args.node.now
      c.loop-request._request c.loop-request.invariant.topics c.in_ok-ask.ensures.topics;
  packets = requests_more (λ b. b.items) c.ask.new.packets.items c.loop-request.packets.items c.args.packets.now.items c.args.group.now
      c.args.node.now c.args.now c.loop-request._request c.loop-request.invariant.packets c.in_ok-ask.ensures.packets;
  whole = λ before. c.in_ok-ask.ensures.whole (c.loop-request.invariant.whole before);
}
