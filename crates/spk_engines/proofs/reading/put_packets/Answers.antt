use Rattle.std.proofs.Common.{◌∙◌, subst, drop}
use Rattle.spk_ingress.specs.Passes.{frames_put}
use Rattle.spk_engines.specs.Reading.{IsFront}
use Rattle.spk_engines.specs.declared.reading.Front.TheVariants as front
use Rattle.spk_engines.proofs.Streams.{cuts_front, still_within}
use Rattle.spk_engines.proofs.reading.put_packets.Goals as goal

pub loop-count-preserved : goal.loop-count-preserved
loop-count-preserved g c =
    let found : IsFront (front.Put c.in-Ok-Put.count) (drop c.loop-count.start c.args.bytes.now) (frames_put c.loop-count.pass) (frames_put c.put_front.new.pass) =
    subst (λ rest. IsFront (front.Put c.in-Ok-Put.count) rest (frames_put c.loop-count.pass) (frames_put c.put_front.new.pass)) c.behind.ensures
    (subst (λ f. IsFront f c.behind.result.now (frames_put c.loop-count.pass) (frames_put c.put_front.new.pass)) c.in-Ok-Put.field-0-is c.in-Ok-Put.ensures.front) in
    record {
      into = c.in-Ok-Put.ensures.pass.0;
      sender = c.in-Ok-Put.ensures.pass.1 ∙ c.loop-count.invariant.sender;
      within = still_within c.args.bytes.now c.loop-count.start c.in-Ok-Put.count c.loop-count.invariant.within found.0;
      cut = cuts_front c.args.bytes.now c.loop-count.start c.in-Ok-Put.count (frames_put c.args.pass.now) (frames_put c.loop-count.pass) (frames_put c.put_front.new.pass) c.loop-count.invariant.cut found;
    }
