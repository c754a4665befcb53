-- A ring that got fewer items than it has room for refused none.
use Rattle.std.proofs.Common.{◌≡◌, ◌∙◌, ℕ, ◌+◌, ◌<◌, ◌≤◌, ◌==◌, Bool, true, false, cond, eqb, List, [], ◌∷◌, ◌++◌, length, Option, refl, sym, ap, subst, arith, eqb-true, length-append}
use Rattle.std.proofs.lemmas.List.Sums.{sum_by_push}
use Rattle.spk_rings.specs.declared.item.Item.{Item}
use Rattle.spk_reading.specs.Data.{HeardData}
use Rattle.spk_plant_broker.specs.Data.{Entry, Offer, Took, Accepted, Refused, Passed, Told}
use Rattle.spk_plant_broker.specs.Done.{refused_to}
use Rattle.spk_plant_broker.specs.Log.{AtRefusals, got_of, refusals_of, taken_of}
use Rattle.spk_plant_broker.specs.Step.{cuts_in}
use Rattle.spk_plant_broker.specs.declared.part.Refusal.{Refusal}
use Rattle.spk_plant_host.specs.Told.{AreToldBy}

-- one more item, or none
fewer : (c : ℕ) (b : Bool) (xs : List Item) (x : Item) → length (cond b (xs ++ x ∷ []) xs) < c → length xs < c
fewer c true xs x few = let more : length (xs ++ x ∷ []) ≡ length xs + 1 = length-append xs (x ∷ []) in omega (arith, few, more)
fewer c false xs x few = few

-- one more refusal, of another client
others : (edges : ℕ) (rs : List Refusal) (x : Refusal) → eqb x.client edges ≡ false → refused_to edges rs ≡ 0 → refused_to edges (rs ++ x ∷ []) ≡ 0
others edges rs x other none =
    sum_by_push (λ (r : Refusal). cond (eqb r.client edges) 1 0) rs x ∙ ap (λ b. refused_to edges rs + cond b 1 0) other ∙ ap (λ n. n + 0) none

pub none_refused : (c edges : ℕ) (l : List Entry) → AtRefusals (λ k got. c ≤ length got) l → length (got_of edges l) < c → refused_to edges (refusals_of l) ≡ 0
none_refused c edges [] all few = refl
none_refused c edges (Took m i ∷ l) all few = none_refused c edges l all few
none_refused c edges (Accepted k o ∷ l) all few =
    none_refused c edges l all (fewer c (eqb k edges) (got_of edges l) (record { bytes = o.bytes; cuts = cuts_in edges (taken_of l) }) few)
none_refused c edges (Refused k o ∷ l) all few = by (eqb k edges) refl (none_refused c edges l all.1 few)
  where
    by : (b : Bool) → eqb k edges ≡ b → refused_to edges (refusals_of l) ≡ 0
        → refused_to edges (refusals_of l ++ (record { client = k; sort = o.sort; taken = length (taken_of l) }) ∷ []) ≡ 0
    by true same none =
        let is : k ≡ edges = eqb-true k edges same in
        let full : c ≤ length (got_of edges l) = subst (λ j. c ≤ length (got_of j l)) is all.0 in
        absurd (omega (arith, full, few))
    by false other none = others edges (refusals_of l) (record { client = k; sort = o.sort; taken = length (taken_of l) }) other none
none_refused c edges (Passed o ∷ l) all few = none_refused c edges l all few
none_refused c edges (Told o ∷ l) all few = none_refused c edges l all few

pub told_length : (items : List Item) (told : List (Option HeardData)) → AreToldBy items told → length items ≡ length told
told_length [] [] h = refl
told_length [] (t ∷ told) h = absurd h
told_length (x ∷ items) [] h = absurd h
told_length (x ∷ items) (t ∷ told) h = let e = told_length items told h.1 in omega (arith, e)
