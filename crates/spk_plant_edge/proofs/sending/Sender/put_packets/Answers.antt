use Rattle.std.proofs.Common.{◌≡◌, ◌∙◌, ap, [], ◌∷◌, ◌++◌, map}
use Rattle.std.proofs.lemmas.List.{map-append}
use Rattle.spk_edge.specs.Sealing.{bytes_of}
use Rattle.spk_ingress.specs.Passes.{frames_put}
use Rattle.spk_plant_edge.specs.Frames.{is_end}
use Rattle.spk_plant_edge.proofs.Putting.{put-more, put-packet, puts-then}
use Rattle.spk_plant_edge.proofs.sending.Sender.put_packets.Goals as goal

pub loop-bytes-preserved : goal.loop-bytes-preserved
loop-bytes-preserved g c = record {
  puts = puts-then c.args.ingress.now c.args.self.now.pass c.loop-bytes.self.pass c.put.new.self.pass c.loop-bytes.invariant.puts
      (c.put.ensures.on (ap is_end c.in_ok-frame.ensures.ok));
  put = rw (map-append bytes_of c.loop-bytes.yielded (c.in-Some.bytes ∷ []))
      (put-more c.args.self.now c.loop-bytes.self c.put.new.self (map bytes_of c.loop-bytes.yielded) c.in-Some.bytes.items c.loop-bytes.invariant.put
      (put-packet c.loop-bytes.self c.put.new.self c.in-Some.bytes.items
      (c.in_ok-put.ensures.ok ∙ ap (λ frame. frames_put c.loop-bytes.self.pass ++ frame ∷ []) c.in_ok-frame.ensures.ok) c.put.ensures.cuts.0));
}
