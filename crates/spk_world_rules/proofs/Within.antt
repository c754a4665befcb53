-- What is consumed was published.
use Rattle.std.proofs.Common.{◌≡◌, ℕ, zero, suc, ◌+◌, ◌<◌, ◌==◌, true, List, [], ◌∷◌, length, sym, ◌∙◌, ap, arith, inl, inr}
use Rattle.std.specs.List.{range_with_len}
use Rattle.std.proofs.lemmas.Bool.{true≢false, eqb-true, or_cases}
use Rattle.std.proofs.lemmas.List.{length-map}
use Rattle.std.proofs.lemmas.List.Folds.{list_any-append}
use Rattle.spk_sequence.specs.Claims.{AreFronts, BirthPrefixes, Part, positions_of}
use Rattle.spk_sequence.specs.Following.{contains}
use Rattle.spk_sequence.specs.NodeRecord as sequence
use Rattle.spk_sequence.specs.NodeRecord.{NodeRecord}
use Rattle.spk_edge_rules.specs.Run.{Message, outline}

in-run : (q p k : ℕ) → contains q (range_with_len p k) ≡ true → q < p + k
in-run q p zero e = absurd (true≢false (sym e))
in-run q p (suc k) e = elim (or_cases (p == q) (contains q (range_with_len (p + 1) k)) e) [
  | inl here ↦ (let i : p ≡ q = eqb-true p q here in omega arith)
  | inr later ↦ (let r = in-run q (p + 1) k later in omega (arith, r))
]

within-parts : (r : NodeRecord) (parts : List Part) (p : ℕ) → AreFronts r parts → contains p (positions_of parts) ≡ true → p < length r
within-parts r [] p fronts e = absurd (true≢false (sym e))
within-parts r (part ∷ parts) p fronts e =
    elim (or_cases (contains p (positions_of parts)) (contains p (range_with_len part.start part.count))
    (sym (list_any-append (λ q. q == p) (positions_of parts) (range_with_len part.start part.count)) ∙ e)) [
      | inl before ↦ within-parts r parts p fronts.2 before
      | inr here ↦ (let low = in-run p part.start part.count here in let end = fronts.0.within in omega (arith, low, end))
    ]

pub within-published : (ms : List Message) (consumed : List ℕ) (p : ℕ) → BirthPrefixes (outline ms) consumed → contains p consumed ≡ true → p < length ms
within-published ms consumed p prefixes e =
    let low = within-parts (outline ms) prefixes.0 p prefixes.1 (ap (contains p) (sym prefixes.2) ∙ e) in
    let size = length-map ms (λ (m : Message). let r : sequence.Message = record { birth = m.birth; session = m.session; stamp = m.draft.stamp } in r) in
    omega (arith, low, size)
