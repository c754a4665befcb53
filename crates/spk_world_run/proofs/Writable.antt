-- Each message published can be written.
use Rattle.std.proofs.Common.{◌≡◌, inl, inr, ◌∙◌, ap, sym, subst, ℕ, zero, suc, ◌+◌, ◌-◌, length, arith, true, cond, List, [], ◌∷◌, ◌++◌, Some, Ok}
use Rattle.std.specs.Prelude.{slice_get}
use Rattle.std.specs.List.{list_all}
use Rattle.std.proofs.lemmas.Bool.{and_parts}
use Rattle.std.proofs.lemmas.List.Folds.{list_all-append}
use Rattle.spk_edge_rules.specs.Answers.{Answer}
use Rattle.spk_edge_rules.specs.Writable.{is_writable}
use Rattle.spk_edge_rules.specs.Config.{Setup}
use Rattle.spk_edge_rules.specs.Inputs.{Input}
use Rattle.spk_edge_rules.specs.Messages.{Draft, opens, wire}
use Rattle.spk_edge_rules.specs.Run.{Message, births_in, number_at, opened, posts, published, right_at, run_of, wires_at}
use Rattle.spk_world_run.specs.Run.{AllWritable}
use Rattle.spk_world_run.proofs.Dying.{all-writable}
use Rattle.spk_world_run.proofs.Places.{SameNumber, in-one, new_messages, number-stays, published-after}

abbrev pub Alone : Type 0
Alone = (s : Setup) (is : List Input) (i : Input) (answer : Answer) → right_at s (run_of s is) i ≡ Ok answer
    → answer.packets ≡ answer.given.plain ++ wires_at s (published (run_of s (i ∷ is))) (length (published (run_of s is))) answer.given.drafts

abbrev CanAt : Setup → List Message → ℕ → Message → Type 0
CanAt s all p m = is_writable (wire s.config (number_at s all p) m.draft) ≡ true

-- the packets of drafts are those of their messages
can-from : (s : Setup) (all : List Message) (session births p k : ℕ) (ds : List Draft) (m : Message) → list_all is_writable (wires_at s all p ds) ≡ true
    → slice_get (posts session births ds) k ≡ Some m → CanAt s all (p + k) m
can-from s all session births p k [] m can there = absurd (let x : ⊥ = cc in x)
can-from s all session births p zero (d ∷ ds) m can there =
    let first : Message = record { birth = cond (opens d) (births + 1) births - 1; session = session; draft = d } in
    let same : first ≡ m = cc in
    let here : CanAt s all p first = (and_parts (is_writable (wire s.config (number_at s all p) d)) (list_all is_writable (wires_at s all (p + 1) ds)) can).0 in
    subst (λ q. CanAt s all q m) (let z : p ≡ p + zero = omega arith in z) (subst (λ (x : Message). CanAt s all p x) same here)
can-from s all session births p (suc k) (d ∷ ds) m can there =
    let later = (and_parts (is_writable (wire s.config (number_at s all p) d)) (list_all is_writable (wires_at s all (p + 1) ds)) can).1 in
    subst (λ q. CanAt s all q m) (let z : p + 1 + k ≡ p + suc k = omega arith in z) (can-from s all session (cond (opens d) (births + 1) births) (p + 1) k ds m later there)

pub writable-after : Alone → SameNumber → (s : Setup) (is : List Input) (i : Input) (answer : Answer) → right_at s (run_of s is) i ≡ Ok answer
    → AllWritable s (published (run_of s is)) → AllWritable s (published (run_of s (i ∷ is)))
writable-after alone stays s is i answer ok before =
    let old = published (run_of s is) in
    let more = new_messages s is answer in
    let all : published (run_of s (i ∷ is)) ≡ old ++ more = published-after s is i answer ok in
    let wires = wires_at s (published (run_of s (i ∷ is))) (length old) answer.given.drafts in
    let can : list_all is_writable wires ≡ true =
    (and_parts (list_all is_writable answer.given.plain) (list_all is_writable wires)
    (sym (list_all-append is_writable answer.given.plain wires) ∙ ap (list_all is_writable) (sym (alone s is i answer ok)) ∙ all-writable s is i answer ok)).1 in
    subst (AllWritable s) (sym all) (joined (subst (λ (l : List Message). list_all is_writable (wires_at s l (length old) answer.given.drafts) ≡ true) all can))
  where
    joined : list_all is_writable (wires_at s (published (run_of s is) ++ new_messages s is answer) (length (published (run_of s is))) answer.given.drafts) ≡ true
        → AllWritable s (published (run_of s is) ++ new_messages s is answer)
    joined can p m there = elim (in-one (published (run_of s is)) (new_messages s is answer) p m there) [
      | inl old ↦
          subst (λ n. is_writable (wire s.config n m.draft) ≡ true) (sym (number-stays stays s (published (run_of s is)) (new_messages s is answer) p old.0)) (before p m old.1)
      | inr new ↦
          subst (λ q. CanAt s (published (run_of s is) ++ new_messages s is answer) q m) new.1
          (can-from s (published (run_of s is) ++ new_messages s is answer) (opened (run_of s is) - 1) (births_in (published (run_of s is))) (length (published (run_of s is))) new.0 answer.given.drafts m can new.2)
    ]
