use Rattle.std.proofs.Common.{◌≡◌, ◌⊎◌, inl, inr, ◌∙◌, ap, sym, refl, ◌||◌, Ok, Err, ◌++◌, map}
use Rattle.spk_edge.specs.Along.{IsPlanned, messages_from}
use Rattle.spk_edge.specs.Patch.{IsPlan}
use Rattle.spk_edge_rules.specs.Config.{Config}
use Rattle.spk_edge_rules.specs.Run.{published, right_at, run_of}
use Rattle.spk_edge_rules.specs.Step.{Standing}
use Rattle.spk_edge.specs.Sealing.{bytes_of}
use Rattle.spk_ingress.specs.declared.frame.Frame.TheVariants.{Packet}
use Rattle.spk_plant_edge.specs.Frames.{cut_if, frames_by, is_cut}
use Rattle.spk_plant_edge.proofs.Stepping.{done_so, framed, joined, refused_so}
use Rattle.spk_plant_edge.proofs.laws.stepping.Goals as goal

pub returns-clause-taken : goal.returns-clause-taken
returns-clause-taken c = λ s is i p plan.
    let ok : right_at s (run_of s is) i ≡ Ok plan.answer = sym (c.any_list.ensures.same_steps s is i) ∙ plan.answered in
    let planned : IsPlanned s is i p = c.along.ensures.planned s is i p plan in
    record {
      stands = planned.stands;
      messages = joined s (c.positions.ensures.grows s) is i plan.answer ok
          ∙ ap (λ ms. messages_from s (published (run_of s is)) 0 ++ ms) (sym planned.messages);
      whole = c.along.ensures.whole s is i p plan;
      frames = framed s is i plan.answer (map bytes_of p.out.packets.items) ok plan.packets
          ∙ ap (λ close. map Packet (map bytes_of p.out.packets.items) ++ cut_if (is_cut i.act || close)) (sym plan.close);
      done = done_so _ plan.answer ok;
    }

pub returns-clause-passed : goal.returns-clause-passed
returns-clause-passed c = λ s is i fault refusal memory.
    let err : right_at s (run_of s is) i ≡ Err fault = elim (c.along.ensures.refused s is i fault refusal) [
      | inl e ↦ absurd (memory e)
      | inr e ↦ e
    ] in
    let same = c.any_list.ensures.refused s is i fault err in
    record {
      stands = ap (λ st. record { config = s.config; standing = st }) same.1;
      run = same.0;
      frames = ap (frames_by i.act) err;
      refused = refused_so _ fault err;
    }
