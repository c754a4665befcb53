-- What was published before an input stands where it stood, and what it publishes stands behind it.
use Rattle.std.proofs.Common.{◌≡◌, ◌⊎◌, inl, inr, ◌∙◌, ap, ℕ, zero, suc, ◌+◌, ◌-◌, ◌<◌, length, arith, List, [], ◌∷◌, ◌++◌, Some, Result, Ok}
use Rattle.std.specs.Prelude.{slice_get}
use Rattle.std.proofs.lemmas.List.{length-map, map-append}
use Rattle.spk_sequence.specs.Claims.{with_more}
use Rattle.spk_sequence.specs.NodeRecord as sequence
use Rattle.spk_edge_rules.specs.declared.fault.EdgeFault.{EdgeFault}
use Rattle.spk_edge_rules.specs.Answers.{Answer}
use Rattle.spk_edge_rules.specs.Config.{Setup}
use Rattle.spk_edge_rules.specs.Inputs.{Input}
use Rattle.spk_edge_rules.specs.Run.{Message, births_in, number_at, opened, outline, posts, published, right_at, run_of, setting_of, with_done, with_posts}

abbrev pub SameNumber : Type 0
SameNumber = (s : sequence.Setting) (more : sequence.NodeRecord) (p : ℕ) → p < length s.published → sequence.written_number (with_more s more) p ≡ sequence.written_number s p

pub outline-length : (ms : List Message) → length (outline ms) ≡ length ms
outline-length ms = length-map ms _

pub outline-append : (xs ys : List Message) → outline (xs ++ ys) ≡ outline xs ++ outline ys
outline-append xs ys = map-append _ xs ys

pub number-stays : SameNumber → (s : Setup) (old more : List Message) (p : ℕ) → p < length old → number_at s (old ++ more) p ≡ number_at s old p
number-stays stays s old more p below =
    let size = outline-length old in
    ap (λ (o : sequence.NodeRecord). sequence.written_number (record (setting_of s old) { published = o }) p) (outline-append old more)
    ∙ stays (setting_of s old) (outline more) p (omega (arith, size, below))

-- what was published after an input that was done
pub published-after : (s : Setup) (is : List Input) (i : Input) (answer : Answer) → right_at s (run_of s is) i ≡ Ok answer
    → published (run_of s (i ∷ is)) ≡ with_posts (published (run_of s is)) (opened (run_of s is) - 1) answer.given.drafts
published-after s is i answer ok = ap (λ (r : Result Answer EdgeFault). published (with_done (run_of s is) i r)) ok

abbrev pub new_messages : Setup → List Input → Answer → List Message
new_messages s is answer = posts (opened (run_of s is) - 1) (births_in (published (run_of s is))) answer.given.drafts

-- what stands in two lists end to end stands in the first, or in the second behind it
pub in-one : {X : Type 0} (xs ys : List X) (k : ℕ) (x : X) → slice_get (xs ++ ys) k ≡ Some x
    → ((k < length xs) × (slice_get xs k ≡ Some x)) ⊎ ((j : ℕ) × (length xs + j ≡ k) × (slice_get ys j ≡ Some x))
in-one [] ys k x there = inr (k, omega arith, there)
in-one (y ∷ xs) ys zero x there = inl (omega arith, there)
in-one (y ∷ xs) ys (suc k) x there = elim (in-one xs ys k x there) [
  | inl old ↦ inl ((let b = old.0 in omega (arith, b)), old.1)
  | inr new ↦ inr (new.0, (let e = new.1 in omega (arith, e)), new.2)
]
