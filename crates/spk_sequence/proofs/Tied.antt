-- How the data of numbers stands to the record of positions.
use Rattle.std.proofs.Common.{◌≡◌, ℕ, ◌+◌, ◌-◌, ◌%◌, ◌<◌, ◌≤◌, Bool, true, false, cond, [], length, ap, arith, Option, Some, None, is_some, sym, ◌∙◌}
use Rattle.std.proofs.lemmas.Bool.{true≢false, false_from_ne_true}
use Rattle.spk_sequence.specs.Data.{Standing, IsWhole, held_at}
use Rattle.spk_sequence.specs.Step.{is_live, is_known, is_dead}
use Rattle.spk_sequence.specs.NodeRecord.{Setting, Numbering, RunsOn, Restarts, opens, stamp_at, session_at, number_by, written_number, written_session}
use Rattle.spk_sequence.specs.HostRecord.{HostRecord, held_under, next_after, reach}
use Rattle.spk_sequence.specs.Following.{contains, taken, following, waits, is_waiting, is_session_dead}

-- The number of q is counted on from that of each NBIRTH from b on, up to q.
pub record InStep (s : Setting) (q b : ℕ) : Type 0 where
  pub counted : (c : ℕ) → opens s.published c ≡ true → b ≤ c → c ≤ q → written_number s q ≡ (written_number s c + (q - c)) % 256

number_by_below : (numbering : Numbering) (s : Setting) (p : ℕ) → number_by numbering s p < 256
number_by_below RunsOn s p = omega arith
number_by_below Restarts s p = omega arith

-- a written number is a byte
pub number_below : (s : Setting) (p : ℕ) → written_number s p < 256
number_below s p = number_by_below s.numbering s p

-- a number that runs on is in step with every birth
pub in_step_runs_on : (s : Setting) → s.numbering ≡ RunsOn → (q b : ℕ) → InStep s q b
in_step_runs_on s e q b = record {
  counted = λ c opening after before.
      let one : written_number s q ≡ (s.seq + q) % 256 = ap (λ n. number_by n s q) e in
      let other : written_number s c ≡ (s.seq + c) % 256 = ap (λ n. number_by n s c) e in
      omega arith;
}

-- in step with later births too
pub in_step_later : (s : Setting) (q b c : ℕ) → b ≤ c → InStep s q b → InStep s q c
in_step_later s q b c after i = record { counted = λ d opening low high. i.counted d opening (omega arith) high }

-- what is known of a position that waits: b is the birth taken
pub record IsWaiting (s : Setting) (h : HostRecord) (b q : ℕ) : Type 0 where
  pub near : q < next_after h + s.width
  pub reached : q < reach h
  pub closed : opens s.published q ≡ false
  pub in_step : InStep s q b
  pub under : held_under s h (written_number s q) ≡ Some q

-- what a place shows of a position
abbrev pub entry_of : Setting → Bool → ℕ → Option (Option ℕ)
entry_of s waiting q = cond waiting (Some (Some (stamp_at s.published q))) None

-- the birth taken last
pub record IsTaken (s : Setting) (h : HostRecord) (d : Standing) (b : ℕ) : Type 0 where
  pub opening : opens s.published b ≡ true
  pub stamp : d.stamp ≡ stamp_at s.published b
  pub bd : d.bd ≡ written_session s (session_at s.published b)
  pub below : b < next_after h
  pub reached : next_after h ≤ reach h
  pub one_birth : (q : ℕ) → b < q → q < next_after h → opens s.published q ≡ false

-- while the host follows
pub record IsFollowed (s : Setting) (h : HostRecord) (d : Standing) (b : ℕ) : Type 0 where
  pub next : d.next ≡ (written_number s b + (next_after h - b)) % 256
  pub high : reach h ≤ next_after h + s.width
  pub cause : contains (next_after h) (following s h).handed ≡ false
  pub places : (i : ℕ) → i < s.width → held_at d.held i ≡ entry_of s (waits (following s h) (next_after h) (next_after h + i)) (next_after h + i)
  pub waiting : (q : ℕ) → waits (following s h) (next_after h) q ≡ true → IsWaiting s h b q
  pub since : is_waiting (following s h).handed (next_after h) ≡ true → d.since ≡ (following s h).began

pub record Tied (s : Setting) (h : HostRecord) (d : Standing) : Type 0 where
  pub whole : IsWhole d
  pub wait : d.wait ≡ s.wait
  pub width : d.width ≡ s.width
  pub live : is_live d.phase ≡ (following s h).on
  pub known : is_known d.phase ≡ is_some (taken s h)
  pub dead : is_session_dead s h ≡ true → is_dead d.phase ≡ true
  pub fits : reach h ≤ length s.published
  pub birth : (b : ℕ) → taken s h ≡ Some b → IsTaken s h d b
  pub followed : (b : ℕ) → taken s h ≡ Some b → (following s h).on ≡ true → IsFollowed s h d b
  pub off_held : (following s h).on ≡ false → (i : ℕ) → held_at d.held i ≡ None
  pub off_handed : (following s h).on ≡ false → (following s h).handed ≡ []

-- a session that is not dead by its numbers is not dead
pub not_dead : (s : Setting) (h : HostRecord) (d : Standing) → Tied s h d → is_dead d.phase ≡ false → is_session_dead s h ≡ false
not_dead s h d t alive = false_from_ne_true (is_session_dead s h) (λ gone. true≢false (sym (t.dead gone) ∙ alive))
