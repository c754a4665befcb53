use Rattle.std.proofs.Common.{◌≡◌, ◌∙◌, inl, inr, sym, refl, Ok}
use Rattle.spk_edge_rules.specs.Run.{right_at, run_of}
use Rattle.spk_edge.proofs.Along.{alone-are, bytes-are, lengths-are, messages-are, stands-after, whole-after, wires-are}
use Rattle.spk_edge.proofs.laws.along.Goals as goal

pub returns-clause-made : goal.returns-clause-made
returns-clause-made c = λ config capacity r b. refl

pub returns-clause-planned : goal.returns-clause-planned
returns-clause-planned c = λ s is i p plan.
    let ok : right_at s (run_of s is) i ≡ Ok plan.answer = sym (c.any_list.ensures.same_steps s is i) ∙ plan.answered in
    record {
      answer = plan.answer;
      answered = ok;
      stands = plan.after ∙ stands-after s is i plan.answer plan.answered;
      messages = plan.messages ∙ messages-are s is i plan.answer ok (c.published.ensures.sent s is i plan.answer ok);
      packets = plan.packets;
    }

pub returns-clause-done : goal.returns-clause-done
returns-clause-done c = λ s is i after out done. record {
  answer = done.answer;
  answered = sym (c.any_list.ensures.same_steps s is i) ∙ done.answered;
  stands = done.stands ∙ stands-after s is i done.answer done.answered;
  packets = done.packets;
}

pub returns-clause-none_whole : goal.returns-clause-none_whole
returns-clause-none_whole c = λ s p m there. absurd (let x : ⊥ = cc in x)

pub returns-clause-whole : goal.returns-clause-whole
returns-clause-whole c = λ s is i p plan.
    let ok : right_at s (run_of s is) i ≡ Ok plan.answer = sym (c.any_list.ensures.same_steps s is i) ∙ plan.answered in
    whole-after s is i plan.answer c.records.ensures.same_number ok (c.published.ensures.sent s is i plan.answer ok) plan.whole

pub returns-clause-done_whole : goal.returns-clause-done_whole
returns-clause-done_whole c = λ s is i after out done.
    let ok : right_at s (run_of s is) i ≡ Ok done.answer = sym (c.any_list.ensures.same_steps s is i) ∙ done.answered in
    whole-after s is i done.answer c.records.ensures.same_number ok (c.published.ensures.sent s is i done.answer ok) done.whole

pub returns-clause-refused : goal.returns-clause-refused
returns-clause-refused c = λ s is i fault refusal. elim refusal [
  | inl memory ↦ inl memory
  | inr ruled ↦ inr (sym (c.any_list.ensures.same_steps s is i) ∙ ruled)
]

pub returns-clause-cut : goal.returns-clause-cut
returns-clause-cut c = λ s is. refl

pub returns-clause-cut_done : goal.returns-clause-cut_done
returns-clause-cut_done c = λ s is. (_, refl)

pub returns-clause-numbered : goal.returns-clause-numbered
returns-clause-numbered c = λ s is i answer ok. messages-are s is i answer ok (c.published.ensures.sent s is i answer ok)

pub returns-clause-numbered_whole : goal.returns-clause-numbered_whole
returns-clause-numbered_whole c = λ s is i answer ok.
    whole-after s is i answer c.records.ensures.same_number ok (c.published.ensures.sent s is i answer ok)

pub returns-clause-alone : goal.returns-clause-alone
returns-clause-alone c = alone-are

pub returns-clause-wires : goal.returns-clause-wires
returns-clause-wires c = wires-are

pub returns-clause-bytes : goal.returns-clause-bytes
returns-clause-bytes c = λ s is i p plan.
    let ok : right_at s (run_of s is) i ≡ Ok plan.answer = sym (c.any_list.ensures.same_steps s is i) ∙ plan.answered in
    (plan.answer, ok, bytes-are s is i p plan ok (c.published.ensures.sent s is i plan.answer ok))

pub returns-clause-lengths : goal.returns-clause-lengths
returns-clause-lengths c = lengths-are
