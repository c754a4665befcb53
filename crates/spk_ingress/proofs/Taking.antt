-- A frame is taken.
use Rattle.std.proofs.Common.{◌≡◌, ℕ, ◌+◌, ◌<◌, ◌^◌, List, [], ◌∷◌, ◌++◌, length, set, get_or, refl, sym, ◌∙◌, ap, arith, inl, inr, subst, length-append}
use Rattle.std.proofs.lemmas.List.{get_or-set_same, get_or-set_other}
use Rattle.std.proofs.lemmas.Bool.{cases_eq}
use Rattle.spk_ingress.specs.declared.rule.Message.{Message}
use Rattle.spk_ingress.specs.declared.rule.Ended.{Ended}
use Rattle.spk_ingress.specs.declared.rule.View.{View}
use Rattle.spk_ingress.specs.declared.rule.View.TheVariants.{Takes}
use Rattle.spk_ingress.specs.Lanes.{share_of, IsTaken}
use Rattle.spk_ingress.proofs.Shares.{share_more, share_same}

-- what the taker's view is afterwards
pub record IsTakenFrom (m : ℕ) (g : List Message) (es : List Ended) (x : Message) (w : View) : Type 0 where
  pub after : w ≡ Takes m (g ++ x ∷ []) es
  pub below : x.sender < m
  pub few : length (share_of x.sender g) + 1 < 2 ^ 64

pub taken_at : (m : ℕ) (g : List Message) (es : List Ended) (v : View) (x : Message) (w : View) → v ≡ Takes m g es → IsTaken v x w → IsTakenFrom m g es x w
taken_at m g es v x w is taken = (let t : IsTaken (Takes m g es) x w = subst (λ u. IsTaken u x w) is taken in record { after = t.0; below = t.1; few = t.2 })

-- the counts after one frame more
pub counted_more : (counts : List ℕ) (n : ℕ) (g : List Message) (x : Message) → length counts ≡ n → x.sender < n → ((i : ℕ) → i < n → get_or counts i 0 ≡ length (share_of i g)) →
    (i : ℕ) → i < n → get_or (set counts x.sender (get_or counts x.sender 0 + 1)) i 0 ≡ length (share_of i (g ++ x ∷ []))
counted_more counts n g x sized below are i inside = elim (cases_eq x.sender i) [
  | inl own ↦ subst (λ j. get_or (set counts x.sender (get_or counts x.sender 0 + 1)) j 0 ≡ length (share_of j (g ++ x ∷ []))) own
      (get_or-set_same counts x.sender (get_or counts x.sender 0 + 1) 0 (omega arith) ∙ ap (λ k. k + 1) (are x.sender below)
      ∙ sym (ap length (share_more x.sender x g refl) ∙ length-append (share_of x.sender g) (x.frame ∷ [])))
  | inr other ↦ get_or-set_other counts x.sender i (get_or counts x.sender 0 + 1) 0 (λ e. absurd (other (sym e))) ∙ are i inside ∙ sym (ap length (share_same i x g other))
]
