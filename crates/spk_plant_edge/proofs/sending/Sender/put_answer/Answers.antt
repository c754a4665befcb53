use Rattle.std.proofs.Common.{◌≡◌, sym, subst, Bool, true, [], ◌∷◌, ◌++◌, map}
use Rattle.spk_edge.specs.Sealing.{bytes_of}
use Rattle.spk_ingress.specs.declared.frame.Frame.TheVariants.{Packet, Cut}
use Rattle.spk_plant_edge.specs.At.{HasPut}
use Rattle.spk_plant_edge.specs.Frames.{cut_if}
use Rattle.spk_plant_edge.proofs.Putting.{put-then}
use Rattle.spk_plant_edge.proofs.sending.Sender.put_answer.Goals as goal

pub returns-clause-ok : goal.returns-clause-ok
returns-clause-ok g c =
    let over : c.args.is_over ≡ true = cc in
    subst (λ (b : Bool). HasPut c.args.self.now c.put_cut.new.self (map Packet (map bytes_of c.args.packets.items) ++ cut_if b)) (sym over)
    (put-then c.args.self.now c.put_packets.new.self c.put_cut.new.self (map Packet (map bytes_of c.args.packets.items)) (Cut ∷ []) c.in_ok-put_packets.ensures.ok c.in_ok-put_cut.ensures.ok)
