-- Events that consume nothing.
use Rattle.std.proofs.Common.{◌≡◌, ℕ, ◌+◌, ◌<◌, ◌≤◌, ◌&&◌, ◌||◌, Bool, true, false, cond, not, nat_lt, List, [], ◌∷◌, length, refl, sym, ◌∙◌, ap, arith, Option, Some, None, inl, inr, if◌then◌else◌}
use Rattle.std.proofs.lemmas.List.{length-replicate}
use Rattle.std.proofs.lemmas.Bool.{true≢false, cases_lt, le-ltb, and_right}
use Rattle.spk_sequence.specs.declared.phase.Phase.{Phase}
use Rattle.spk_sequence.specs.Data.{Standing, IsWhole, held_at}
use Rattle.spk_sequence.specs.Step.{is_live, is_known, is_dead, after_stop}
use Rattle.spk_sequence.specs.Calls.{Reply}
use Rattle.spk_sequence.specs.NodeRecord.{Setting, written_number}
use Rattle.spk_sequence.specs.HostRecord.{Input, MessageComes, DeathComes, TickComes, Done, HostRecord, held_under, is_held_under, position_of, next_after, reach, reach_past}
use Rattle.spk_sequence.specs.Following.{Following, contains, taken, following, waits, is_waiting, is_session_dead, is_gap, is_matching_death, and_handed, is_empty, moment_of}
use Rattle.spk_sequence.proofs.Places.{held_at-empty}
use Rattle.spk_sequence.proofs.Tied.{Tied, IsTaken, IsFollowed, IsWaiting, entry_of}

-- an event that consumes nothing
abbrev pub quiet : Input → Reply → Done
quiet input reply = record { input = input; reply = reply; consumed = [] }

-- what the host follows after an event, from whether it goes on
abbrev pub following_as : Bool → Input → Following → ℕ → List ℕ → Following
following_as on input f n consumed = record {
  on = on;
  handed = if on then and_handed input f.handed else [];
  began = if is_waiting f.handed n && is_empty consumed then f.began else moment_of input;
}

abbrev pub goes_on : Setting → HostRecord → Input → Bool
goes_on s h input = (following s h).on && not (is_gap s h input) && not (is_matching_death s h input)

pub following-quiet : (s : Setting) (h : HostRecord) (input : Input) (reply : Reply) (on : Bool) → goes_on s h input ≡ on → following s (quiet input reply ∷ h) ≡ following_as on input (following s h) (next_after h) []
following-quiet s h input reply on e = ap (λ x. following_as x input (following s h) (next_after h) []) e

pub goes_on_off : (s : Setting) (h : HostRecord) (input : Input) → (following s h).on ≡ false → goes_on s h input ≡ false
goes_on_off s h input off = ap (λ x. x && not (is_gap s h input) && not (is_matching_death s h input)) off

three : (a b c : Bool) → a ≡ true → b ≡ false → c ≡ false → (a && not b && not c) ≡ true
three a b c p q r = rw (p, q, r) refl

three_gap : (a b c : Bool) → b ≡ true → (a && not b && not c) ≡ false
three_gap true b c q = rw q refl
three_gap false b c q = refl

three_match : (a b c : Bool) → c ≡ true → (a && not b && not c) ≡ false
three_match true true c r = refl
three_match true false c r = rw r refl
three_match false b c r = refl

pub goes_on_true : (s : Setting) (h : HostRecord) (input : Input) → (following s h).on ≡ true → is_gap s h input ≡ false → is_matching_death s h input ≡ false → goes_on s h input ≡ true
goes_on_true s h input on g m = three (following s h).on (is_gap s h input) (is_matching_death s h input) on g m

pub goes_on_gap : (s : Setting) (h : HostRecord) (input : Input) → is_gap s h input ≡ true → goes_on s h input ≡ false
goes_on_gap s h input g = three_gap (following s h).on (is_gap s h input) (is_matching_death s h input) g

pub goes_on_match : (s : Setting) (h : HostRecord) (input : Input) → is_matching_death s h input ≡ true → goes_on s h input ≡ false
goes_on_match s h input m = three_match (following s h).on (is_gap s h input) (is_matching_death s h input) m

pub reach_more : (input : Input) (n : ℕ) → n ≤ reach_past input n
reach_more (MessageComes p now) n = omega arith
reach_more (DeathComes session now) n = omega arith
reach_more (TickComes now) n = omega arith

-- the host does not follow after the event
pub tied_off : (s : Setting) (h : HostRecord) (d e : Standing) (input : Input) (reply : Reply) → Tied s h d →
    IsWhole e → e.wait ≡ d.wait → e.width ≡ d.width → e.stamp ≡ d.stamp → e.bd ≡ d.bd → is_live e.phase ≡ false → goes_on s h input ≡ false →
    is_known e.phase ≡ is_known d.phase → ((is_matching_death s h input || is_session_dead s h) ≡ true → is_dead e.phase ≡ true) → ((i : ℕ) → held_at e.held i ≡ None) → reach_past input (reach h) ≤ length s.published →
    Tied s (quiet input reply ∷ h) e
tied_off s h d e input reply t whole wait width stamp bd live off known dead none fits =
    let f : following s (quiet input reply ∷ h) ≡ following_as false input (following s h) (next_after h) [] = following-quiet s h input reply false off in
    record {
      whole = whole;
      wait = wait ∙ t.wait;
      width = width ∙ t.width;
      live = live ∙ sym (ap (λ (x : Following). x.on) f);
      known = known ∙ t.known;
      dead = dead;
      fits = fits;
      birth = λ b tk.
          let o : IsTaken s h d b = t.birth b tk in
          record {
            opening = o.opening;
            stamp = stamp ∙ o.stamp;
            bd = bd ∙ o.bd;
            below = o.below;
            reached = (let r : next_after h ≤ reach h = o.reached in omega (arith, reach_more input (reach h)));
            one_birth = o.one_birth;
          };
      followed = λ b tk on. absurd (true≢false (sym on ∙ ap (λ (x : Following). x.on) f));
      off_held = λ o. none;
      off_handed = λ o. ap (λ (x : Following). x.handed) f;
    }

-- the host follows no longer: what was held is dropped
pub tied_stops : (s : Setting) (h : HostRecord) (d : Standing) (input : Input) (reply : Reply) (to : Phase) → Tied s h d → is_live to ≡ false → goes_on s h input ≡ false →
    is_known to ≡ is_known d.phase → ((is_matching_death s h input || is_session_dead s h) ≡ true → is_dead to ≡ true) → reach_past input (reach h) ≤ length s.published →
    Tied s (quiet input reply ∷ h) (after_stop d to)
tied_stops s h d input reply to t live off known dead fits =
    let w : IsWhole d = t.whole in
    tied_off s h d (after_stop d to) input reply t
    (record { some_places = w.some_places; few_places = w.few_places; one_byte = w.one_byte; all_places = length-replicate {A = Option (Option ℕ)} d.width None; next_not_held = held_at-empty d.width 0 })
    refl refl refl refl live off known dead (held_at-empty d.width) fits

-- nothing changes where the host does not follow
pub tied_still : (s : Setting) (h : HostRecord) (d : Standing) (input : Input) (reply : Reply) → Tied s h d → (following s h).on ≡ false → is_matching_death s h input ≡ false → reach_past input (reach h) ≤ length s.published → Tied s (quiet input reply ∷ h) d
tied_still s h d input reply t off m fits =
    tied_off s h d d input reply t t.whole refl refl refl refl (t.live ∙ off) (goes_on_off s h input off) refl (λ gone. t.dead (sym (ap (λ x. x || is_session_dead s h) m) ∙ gone)) (t.off_held off) fits

pub same_waits : (hs gs : List ℕ) (n q : ℕ) → (n < q → contains q gs ≡ contains q hs) → (contains q gs && nat_lt n q) ≡ (contains q hs && nat_lt n q)
same_waits hs gs n q same = elim (cases_lt n q) [
  | inl above ↦ ap (λ x. x && nat_lt n q) (same above)
  | inr below ↦ and_right (contains q gs) (nat_lt n q) (le-ltb n q below) ∙ sym (and_right (contains q hs) (nat_lt n q) (le-ltb n q below))
]

-- the same positions wait after the event
pub tied_on : (s : Setting) (h : HostRecord) (d : Standing) (input : Input) (reply : Reply) (b : ℕ) → Tied s h d → taken s h ≡ Some b → (following s h).on ≡ true → is_gap s h input ≡ false → is_matching_death s h input ≡ false →
    ((x : ℕ) → is_held_under s x input reply ≡ false) → reach_past input (reach h) ≡ reach h →
    ((q : ℕ) → next_after h ≤ q → contains q (and_handed input (following s h).handed) ≡ contains q (following s h).handed) →
    is_waiting (and_handed input (following s h).handed) (next_after h) ≡ is_waiting (following s h).handed (next_after h) →
    Tied s (quiet input reply ∷ h) d
tied_on s h d input reply b t tk on g m unheld same_reach same same_any =
    let n : ℕ = next_after h in
    let old : Following = following s h in
    let f : following s (quiet input reply ∷ h) ≡ following_as true input old n [] = following-quiet s h input reply true (goes_on_true s h input on g m) in
    let o : IsTaken s h d b = t.birth b tk in
    let w : IsFollowed s h d b = t.followed b tk on in
    let still : (q : ℕ) → waits (following s (quiet input reply ∷ h)) n q ≡ waits old n q = λ q. ap (λ (x : Following). waits x n q) f ∙ same_waits old.handed (and_handed input old.handed) n q (λ above. same q (omega arith)) in
    record {
      whole = t.whole;
      wait = t.wait;
      width = t.width;
      live = t.live ∙ on ∙ sym (ap (λ (x : Following). x.on) f);
      known = t.known;
      dead = λ gone. t.dead (sym (ap (λ x. x || is_session_dead s h) m) ∙ gone);
      fits = (let l : reach h ≤ length s.published = t.fits in omega arith);
      birth = λ c tc. let k : IsTaken s h d c = t.birth c tc in record {
        opening = k.opening;
        stamp = k.stamp;
        bd = k.bd;
        below = k.below;
        reached = (let r : next_after h ≤ reach h = k.reached in omega arith);
        one_birth = k.one_birth;
      };
      followed = λ c tc o. let k : IsFollowed s h d c = t.followed c tc on in record {
        next = k.next;
        high = (let r : reach h ≤ next_after h + s.width = k.high in omega arith);
        cause = ap (λ (x : Following). contains n x.handed) f ∙ same n (omega arith) ∙ k.cause;
        places = λ i below. k.places i below ∙ ap (λ x. entry_of s x (n + i)) (sym (still (n + i)));
        waiting = λ q wq. let v : IsWaiting s h c q = k.waiting q (sym (still q) ∙ wq) in record {
          near = v.near;
          reached = (let r : q < reach h = v.reached in omega arith);
          closed = v.closed;
          in_step = v.in_step;
          under = ap (λ x. cond x (position_of input) (held_under s h (written_number s q))) (unheld (written_number s q)) ∙ v.under;
        };
        since = λ any.
            let before : is_waiting old.handed n ≡ true = sym same_any ∙ sym (ap (λ (x : Following). is_waiting x.handed n) f) ∙ any in
            k.since before ∙ sym (ap (λ (x : Following). x.began) f ∙ ap (λ x. cond (x && true) old.began (moment_of input)) before);
      };
      off_held = λ off. absurd (true≢false (sym (ap (λ (x : Following). x.on) f) ∙ off));
      off_handed = λ off. absurd (true≢false (sym (ap (λ (x : Following). x.on) f) ∙ off));
    }
