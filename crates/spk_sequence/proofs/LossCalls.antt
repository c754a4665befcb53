-- What the calls that tell a loss compute, over plain variables.
use Rattle.std.proofs.Common.{◌≡◌, ◌≢◌, ℕ, ◌+◌, ◌-◌, ◌<◌, ◌≤◌, true, false, cond, List, length, refl, sym, ◌∙◌, ap, arith, Option, None, is_some, inl, inr, Some}
use Rattle.std.specs.List.{position_or_len}
use Rattle.std.proofs.lemmas.List.Sums.{position_or_len_is}
use Rattle.std.proofs.lemmas.Bool.{true≢false, cases_Bool, ne_eqb}
use Rattle.spk_sequence.specs.declared.message.Kind.TheVariants.{Birth, Other}
use Rattle.spk_sequence.specs.declared.answer.Step.{Step}
use Rattle.spk_sequence.specs.declared.answer.Step.TheVariants as step
use Rattle.spk_sequence.specs.declared.answer.Loss.{Loss}
use Rattle.spk_sequence.specs.Data.{Standing, IsWhole, held_at}
use Rattle.spk_sequence.specs.Step.{hand, hand_birth, hand_other, is_any_held}
use Rattle.spk_sequence.specs.Calls.{Hand}
use Rattle.spk_sequence.specs.Numbers.{held_count}
use Rattle.spk_sequence.specs.Losses.{Event, Called, dropped_at, missing_in, no_loss, at_stake, loss_at}
use Rattle.spk_sequence.proofs.Places.{none_held, none_held-from}
use Rattle.spk_sequence.proofs.LossLemmas.{some_consumed, loss_of_none, no_loss_unborn, loss_at_gap, no_loss_else}
use Rattle.spk_sequence.proofs.FateLemmas.{one_consumed}

-- where a place holds a message, one is held
any_held : (held : List (Option (Option ℕ))) (i : ℕ) → is_some (held_at held i) ≡ true → is_any_held held ≡ true
any_held held i here = elim (cases_Bool (is_any_held held)) [
  | inl some ↦ some
  | inr none ↦ absurd (true≢false (sym here ∙ ap is_some (none_held held none i)))
]

-- the first place that holds a message
pub missing_is : (held : List (Option (Option ℕ))) (i : ℕ) → i < length held → ((k : ℕ) → k < i → is_some (held_at held k) ≡ false) → is_some (held_at held i) ≡ true → i ≡ missing_in held
missing_is held i inside before here =
    sym (ap (λ b. cond b (position_or_len is_some held) 0) (any_held held i here) ∙ position_or_len_is is_some held i None (omega arith) before (λ below. here))

none_or : (o : Option (Option ℕ)) → is_some o ≡ false → o ≡ None
none_or None e = refl
none_or (Some own) e = absurd (true≢false e)

pub none_missing : (held : List (Option (Option ℕ))) → ((k : ℕ) → k < length held → is_some (held_at held k) ≡ false) → 0 ≡ missing_in held
none_missing held none = sym (ap (λ b. cond b (position_or_len is_some held) 0) (none_held-from held (λ i below. none_or (held_at held i) (none i below))))

pub unborn_loss : (s t : Standing) (number stamp bd now : ℕ) (answer : Step) → t ≡ s → answer ≡ (hand_birth t number stamp bd now).0 → ((n : ℕ) → answer ≡ step.Consumed n → ⊥) →
    no_loss ≡ loss_at s (Called (Hand number (Birth stamp bd) now))
unborn_loss s t number stamp bd now answer same is none =
    sym (no_loss_unborn s number stamp bd now (λ n e. none n (is ∙ ap (λ (u : Standing). (hand_birth u number stamp bd now).0) same ∙ e)))

-- what a birth that is taken drops, from the counts before it and after it
pub record BornLoss (s : Standing) (e : Event) (n before after : ℕ) : Type 0 where
  pub few : n - 1 ≤ before
  pub rest : after ≤ before - (n - 1)
  pub dropped : before - (n - 1) - after ≡ dropped_at s e

pub born_loss : (s t new : Standing) (number stamp bd now n before after : ℕ) (answer : Step) → number < 256 → t ≡ s → IsWhole s → answer ≡ step.Consumed n → answer ≡ (hand_birth t number stamp bd now).0 →
    new ≡ (hand_birth t number stamp bd now).1 → before ≡ held_count s.held → after ≡ held_count new.held → BornLoss s (Called (Hand number (Birth stamp bd) now)) n before after
born_loss s t new number stamp bd now n before after answer byte same w eats is is_new b a =
    let e : Event = Called (Hand number (Birth stamp bd) now) in
    let taken : (hand s number (Birth stamp bd) now).0 ≡ step.Consumed n = sym (is ∙ ap (λ (u : Standing). (hand_birth u number stamp bd now).0) same) ∙ eats in
    let there : new ≡ (hand s number (Birth stamp bd) now).1 = is_new ∙ ap (λ (u : Standing). (hand_birth u number stamp bd now).1) same in
    let left : after ≡ held_count (hand s number (Birth stamp bd) now).1.held = a ∙ ap (λ (u : Standing). held_count u.held) there in
    let all : held_count s.held + 1 ≡ n + dropped_at s e + held_count (hand s number (Birth stamp bd) now).1.held = one_consumed s number now n (Birth stamp bd) byte w taken in
    let some : 0 < n = some_consumed s number now (Birth stamp bd) n taken in
    record { few = omega arith; rest = omega arith; dropped = omega arith }

pub born_none : (s : Standing) (e : Event) (n before after : ℕ) → BornLoss s e n before after → before - (n - 1) - after ≡ 0 → no_loss ≡ loss_at s e
born_none s e n before after b z = sym (loss_of_none s e (sym b.dropped ∙ z))

pub born_some : (s : Standing) (e : Event) (n before after missing : ℕ) → BornLoss s e n before after → before - (n - 1) - after ≢ 0 → missing ≡ missing_in s.held →
    (let l : Loss = record { held = before - (n - 1) - after; missing = missing } in l) ≡ loss_at s e
born_some s e n before after missing b some m =
    loss_same (before - (n - 1) - after) (dropped_at s e) missing (missing_in s.held) b.dropped m
    ∙ sym (ap (λ t. cond t no_loss (let l : Loss = record { held = dropped_at s e; missing = missing_in s.held } in l)) (ne_eqb (dropped_at s e) 0 (λ z. some (b.dropped ∙ z))))
  where
    loss_same : (h g m k : ℕ) → h ≡ g → m ≡ k → (let l : Loss = record { held = h; missing = m } in l) ≡ (let l : Loss = record { held = g; missing = k } in l)
    loss_same h g m k p q = rw (p, q) refl

-- another message
pub gap_loss : (s : Standing) (number now : ℕ) (own : Option ℕ) (answer : Step) (loss : Loss) → number < 256 → IsWhole s → answer ≡ (hand_other s number own now).0 → answer ≡ step.Gap → loss ≡ at_stake s →
    loss ≡ loss_at s (Called (Hand number (Other own) now))
gap_loss s number now own answer loss byte w is gap all = all ∙ sym (loss_at_gap s number now own byte w (sym is ∙ gap))

pub else_loss : (s : Standing) (number now : ℕ) (own : Option ℕ) (answer : Step) → number < 256 → IsWhole s → answer ≡ (hand_other s number own now).0 → (answer ≡ step.Gap → ⊥) →
    no_loss ≡ loss_at s (Called (Hand number (Other own) now))
else_loss s number now own answer byte w is other = sym (no_loss_else s number now own byte w (λ e. other (is ∙ e)))
