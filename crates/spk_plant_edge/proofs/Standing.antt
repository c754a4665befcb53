-- Where a thread stands after an input.
use Rattle.std.specs.Prelude.{is_err}
use Rattle.std.proofs.Common.{◌≡◌, ◌∙◌, ap, sym, refl, subst, ℕ, ◌+◌, arith, Bool, true, false, ◌||◌, List, [], ◌∷◌, ◌++◌, map, reverse, length}
use Rattle.std.proofs.lemmas.List.{append_assoc, append-nil, map-append, reverse-append, length-reverse, length-map}
use Rattle.spk_edge.specs.Along.{AllWhole, messages_from, node_of}
use Rattle.spk_edge.specs.Patch.{IsPlan, IsRefusal, patched}
use Rattle.spk_edge.specs.Sealing.{bytes_of}
use Rattle.spk_edge.specs.View.{NodeData, message_view}
use Rattle.spk_edge.specs.declared.plan.Plan.{Plan}
use Rattle.spk_edge.specs.declared.plan.Taken.{Taken}
use Rattle.spk_edge_rules.specs.Config.{Setup}
use Rattle.spk_edge_rules.specs.Inputs.{Input}
use Rattle.spk_edge_rules.specs.declared.fault.EdgeFault.{EdgeFault}
use Rattle.spk_edge_rules.specs.declared.fault.EdgeFault.TheVariants.{NoMemory}
use Rattle.spk_edge_rules.specs.Run.{Done, published, right_at, run_of}
use Rattle.spk_ingress.specs.Passes.{frames_put}
use Rattle.spk_ingress.specs.declared.frame.Frame.{Frame}
use Rattle.spk_ingress.specs.declared.frame.Frame.TheVariants.{Packet}
use Rattle.spk_plant_edge.specs.At.{HasPut, Origin, Stands}
use Rattle.spk_plant_edge.specs.Frames.{cut_if, cuts_in, frames_at, frames_of, is_cut}
use Rattle.spk_plant_edge.specs.Taking.{IsPassed, IsTaken, IsTakenUp}
use Rattle.spk_plant_edge.specs.Told.{newest_first, told_view}
use Rattle.spk_plant_edge.specs.Vain.{in_vain, vain_after}
use Rattle.spk_plant_edge.specs.declared.desk.Desk.{Desk}
use Rattle.spk_plant_edge.specs.declared.told.Told.{Told}
use Rattle.spk_plant_edge.proofs.Putting.{cuts-append}

pub newest-snoc : (ts : List Told) (t : Told) → newest_first (ts ++ t ∷ []) ≡ told_view t ∷ newest_first ts
newest-snoc ts t = ap (λ (l : List Input). reverse l) (map-append told_view ts (t ∷ [])) ∙ reverse-append (map told_view ts) (told_view t ∷ [])

-- as many inputs as were told
pub told-count : (o : Origin) (is : List Input) (d : Desk) → Stands o is d → length d.inputs.items ≡ length is
told-count o is d h = sym (simp (length-reverse, length-map) at (ap (λ (l : List Input). length l) (sym h.inputs)))

pub stands-same : (o : Origin) (is : List Input) (d e : Desk) → e.node ≡ d.node → e.inputs.items ≡ d.inputs.items → e.published.items ≡ d.published.items → e.sender ≡ d.sender
    → e.in_vain ≡ d.in_vain → Stands o is d → Stands o is e
stands-same o is d e node inputs messages sender vain h = record {
  node = node ∙ h.node;
  inputs = ap newest_first inputs ∙ h.inputs;
  messages = ap (λ ms. map message_view ms) messages ∙ h.messages;
  whole = h.whole;
  frames = ap (λ x. frames_put x.pass) sender ∙ h.frames;
  cuts = ap (λ x. x.cuts) sender ∙ h.cuts;
  vain = vain ∙ h.vain;
}

pub stands-taken : (o : Origin) (is : List Input) (d e : Desk) (told : Told) (p : Plan) → Stands o is d → IsTaken o.setup is (told_view told) p
    → e.node ≡ patched d.node p → e.inputs.items ≡ d.inputs.items ++ told ∷ [] → e.published.items ≡ d.published.items ++ p.messages.items
    → HasPut d.sender e.sender (map Packet (map bytes_of p.out.packets.items) ++ cut_if (is_cut (told_view told).act || p.out.close))
    → e.in_vain ≡ vain_after (told_view told).act false d.in_vain
    → Stands o (told_view told ∷ is) e
stands-taken o is d e told p h t node inputs messages put vain =
    let fs : List Frame = map Packet (map bytes_of p.out.packets.items) ++ cut_if (is_cut (told_view told).act || p.out.close) in
    record {
      node = node ∙ ap (λ n. patched n p) h.node ∙ t.stands;
      inputs = ap newest_first inputs ∙ newest-snoc d.inputs.items told ∙ ap (λ (l : List Input). told_view told ∷ l) h.inputs;
      messages = ap (λ ms. map message_view ms) messages ∙ map-append message_view d.published.items p.messages.items
          ∙ ap (λ l. l ++ map message_view p.messages.items) h.messages ∙ sym t.messages;
      whole = t.whole h.whole;
      frames = put.put ∙ ap (λ l. l ++ fs) h.frames ∙ append_assoc (frames_put o.pass) (frames_of o.setup is) fs
          ∙ ap (λ (gs : List Frame). frames_put o.pass ++ (frames_of o.setup is ++ gs)) (sym t.frames);
      cuts = put.cuts ∙ ap (λ n. n + cuts_in fs) h.cuts ∙ sym (cuts-append (frames_of o.setup is) fs)
          ∙ ap (λ (gs : List Frame). cuts_in (frames_of o.setup is ++ gs)) (sym t.frames);
      vain = vain ∙ ap (λ (b : Bool). vain_after (told_view told).act false b) h.vain
          ∙ ap (λ (r : Bool). vain_after (told_view told).act r (in_vain o.setup is)) (sym t.done);
    }

pub stands-passed : (o : Origin) (is : List Input) (d e : Desk) (told : Told) → Stands o is d → IsPassed o.setup is (told_view told)
    → e.node ≡ d.node → e.inputs.items ≡ d.inputs.items ++ told ∷ [] → e.published.items ≡ d.published.items → e.sender ≡ d.sender
    → e.in_vain ≡ vain_after (told_view told).act true d.in_vain → Stands o (told_view told ∷ is) e
stands-passed o is d e told h t node inputs messages sender vain = record {
  node = node ∙ h.node ∙ sym t.stands;
  inputs = ap newest_first inputs ∙ newest-snoc d.inputs.items told ∙ ap (λ (l : List Input). told_view told ∷ l) h.inputs;
  messages = ap (λ ms. map message_view ms) messages ∙ h.messages ∙ ap (λ (r : List Done). messages_from o.setup (published r) 0) (sym t.run);
  whole = subst (λ (r : List Done). AllWhole o.setup (published r)) (sym t.run) h.whole;
  frames = ap (λ x. frames_put x.pass) sender ∙ h.frames ∙ ap (λ l. frames_put o.pass ++ l) (sym (append-nil (frames_of o.setup is)))
      ∙ ap (λ (gs : List Frame). frames_put o.pass ++ (frames_of o.setup is ++ gs)) (sym t.frames);
  cuts = ap (λ x. x.cuts) sender ∙ h.cuts ∙ ap cuts_in (sym (append-nil (frames_of o.setup is)))
      ∙ ap (λ (gs : List Frame). cuts_in (frames_of o.setup is ++ gs)) (sym t.frames);
  vain = vain ∙ ap (λ (b : Bool). vain_after (told_view told).act true b) h.vain
      ∙ ap (λ (r : Bool). vain_after (told_view told).act r (in_vain o.setup is)) (sym t.refused);
}

-- ---- what telling comes to

abbrev pub Passes : Type 0
Passes = (s : Setup) (is : List Input) (i : Input) (fault : EdgeFault) → IsRefusal (node_of s is) i fault → (fault ≡ NoMemory → ⊥) → IsPassed s is i

pub tell-passed : (o : Origin) (is : List Input) (d e : Desk) (told : Told) (i : Input) (fault : EdgeFault) → told_view told ≡ i → Passes → Stands o is d
    → IsRefusal d.node i fault → (fault ≡ NoMemory → ⊥)
    → e.node ≡ d.node → e.inputs.items ≡ d.inputs.items ++ told ∷ [] → e.published.items ≡ d.published.items → e.sender ≡ d.sender
    → e.in_vain ≡ vain_after (told_view told).act true d.in_vain
    → Stands o (i ∷ is) e × (true ≡ is_err (right_at o.setup (run_of o.setup is) i))
tell-passed o is d e told i fault same law h refusal memory node inputs messages sender vain =
    let passed : IsPassed o.setup is i = law o.setup is i fault (subst (λ (n : NodeData). IsRefusal n i fault) h.node refusal) memory in (
      subst (λ (j : Input). Stands o (j ∷ is) e) same
          (stands-passed o is d e told h (subst (IsPassed o.setup is) (sym same) passed) node inputs messages sender vain),
      sym passed.refused,
    )

abbrev pub Takes : Type 0
Takes = (s : Setup) (is : List Input) (i : Input) (p : Plan) → IsPlan (node_of s is) i p → IsTaken s is i p

pub tell-taken : (o : Origin) (is : List Input) (d e : Desk) (told : Told) (i : Input) (after : NodeData) (taken : Taken) → told_view told ≡ i → Takes → Stands o is d
    → IsTakenUp d.node i after taken → (IsTakenUp d.node (told_view told) after taken → Stands o (told_view told ∷ is) e)
    → Stands o (i ∷ is) e × (false ≡ is_err (right_at o.setup (run_of o.setup is) i))
tell-taken o is d e told i after taken same law h up took = (
  subst (λ (j : Input). Stands o (j ∷ is) e) same (took (subst (λ (j : Input). IsTakenUp d.node j after taken) (sym same) up)),
  sym ((law o.setup is i up.plan (subst (λ (n : NodeData). IsPlan n i up.plan) h.node up.planned)).done),
)
