use Rattle.std.proofs.Common.{◌∙◌, List, ℕ, map, refl, subst, sym}
use Rattle.std.specs.Prelude.{All, Vec}
use Rattle.std.specs.declared.alloc.Global.{Global}
use Rattle.std.proofs.lemmas.List.Elements.{All-head, All-tail}
use Rattle.std.specs.Vec.Iter.{into_iter_items}
use Rattle.spk_ingress.specs.Frame.{IsOnePacket}
use Rattle.spk_ingress.specs.Passes.{frames_put}
use Rattle.spk_plant_host.specs.Steps.{Puts}
use Rattle.spk_plant_host.proofs.Frames.{puts_none, puts_one}
use Rattle.spk_plant_host.proofs.line.Line.put_all.Goals as goal

pub loop-bytes-preserved : goal.loop-bytes-preserved
loop-bytes-preserved g c = record {
  pass = record {
    puts_into = c.in-Ok.ensures.pass.puts_into;
    sender = c.in-Ok.ensures.pass.sender ∙ c.loop-bytes.invariant.pass.sender;
    ends = c.in-Ok.ensures.pass.ends ∙ c.loop-bytes.invariant.pass.ends;
  };
  puts = puts_one (map (λ b. b.items) c.args.packets.items) (map (λ b. b.items) (into_iter_items c.next.new.self)) c.in-Some.bytes.items
      (frames_put c.args.self.now.pass) (frames_put c.loop-bytes.self.pass) (frames_put c.put_packet.new.self.pass)
      (subst (λ l. Puts (map (λ b. b.items) c.args.packets.items) (map (λ b. b.items) l) (frames_put c.args.self.now.pass) (frames_put c.loop-bytes.self.pass))
      c.in-Some.ensures.steps.0 c.loop-bytes.invariant.puts)
      c.in-Ok.ensures.ok;
  whole = All-tail (λ b. IsOnePacket b.items) c.in-Some.bytes (into_iter_items c.next.new.self)
      (subst (λ (l : List (Vec ℕ Global)). All (λ b. IsOnePacket b.items) l) c.in-Some.ensures.steps.0 c.loop-bytes.invariant.whole);
}

pub put_packet-requires-clause-one : goal.put_packet-requires-clause-one
put_packet-requires-clause-one g c =
    All-head (λ b. IsOnePacket b.items) c.in-Some.bytes (into_iter_items c.next.new.self)
    (subst (λ (l : List (Vec ℕ Global)). All (λ b. IsOnePacket b.items) l) c.in-Some.ensures.steps.0 c.loop-bytes.invariant.whole)

pub loop-bytes-init : goal.loop-bytes-init
loop-bytes-init g c = record {
  pass = record { puts_into = c.requires.pass; sender = refl; ends = refl };
  puts = subst (λ (l : List (Vec ℕ Global)). Puts (map (λ b. b.items) c.args.packets.items) (map (λ b. b.items) l) (frames_put c.args.self.now.pass) (frames_put c.args.self.now.pass))
      (sym c.into_iter-bytes-iterator.ensures.into_iter_gives.0) (puts_none (map (λ b. b.items) c.args.packets.items) (frames_put c.args.self.now.pass));
  whole = subst (λ (l : List (Vec ℕ Global)). All (λ b. IsOnePacket b.items) l) (sym c.into_iter-bytes-iterator.ensures.into_iter_gives.0) c.requires.whole;
}
