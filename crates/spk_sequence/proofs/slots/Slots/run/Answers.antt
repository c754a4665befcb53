use Rattle.std.proofs.Common.{◌≡◌, ◌+◌, ◌%◌, ◌<◌, sym, ◌∙◌, ap, arith, get_or, None, is_some, ℕ}
use Rattle.spk_sequence.proofs.WindowLemmas.{run_is}
use Rattle.spk_sequence.proofs.slots.Slots.run.Goals as goal

-- the first slot is empty
pub returns-then-is_none-clause-count : goal.returns-then-is_none-clause-count
returns-then-is_none-clause-count c =
    run_is c.args.self.now c.args.from c.args.width 0 (omega arith) (λ k below. absurd (never k below))
    (λ below. let at : (c.args.from + 0) % 128 ≡ c.args.from % 128 = omega arith in
    ap (λ k. is_some (get_or c.args.self.now k None)) at
    ∙ sym (ap is_some c.get-first.ensures.entry) ∙ c.if-is_none.ensures)
  where
    never : (k : ℕ) → k < 0 → ⊥
    never k below = absurd (omega arith)

pub returns-then-is_none-2-clause-count : goal.returns-then-is_none-2-clause-count
returns-then-is_none-2-clause-count c =
    let l = c.loop-place in
    run_is c.args.self.now c.args.from c.args.width l.place l.auto.place-end l.invariant
    (λ below. let at : (c.args.from + l.place) % 128 ≡ (c.args.from + l.place) % 256 % 128 = omega arith in
    ap (λ k. is_some (get_or c.args.self.now k None)) at
    ∙ sym (ap is_some c.get.ensures.entry) ∙ c.if-is_none-2.ensures)

pub returns-clause-count : goal.returns-clause-count
returns-clause-count c =
    run_is c.args.self.now c.args.from c.args.width c.args.width (omega arith) (λ k below. c.loop-place.invariant k (omega (arith, c.loop-place-test.false))) (λ below. absurd (omega arith))
