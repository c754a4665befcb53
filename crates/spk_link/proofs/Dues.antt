-- What is due, by the list of events.
use Rattle.std.proofs.Common.{◌≡◌, ◌∙◌, sym, ap, refl, subst, inl, inr, ◌⊎◌, ◌↔◌, ℕ, ◌+◌, ◌-◌, ◌*◌, ◌<◌, ◌≤◌, Bool, true, false, true≢false, ◌&&◌, ◌||◌, nat_eq, nat_le, cond, List, arith}
use Rattle.std.proofs.lemmas.Bool.{leb-true, le-leb, leb-false, ne_eqb}
use Rattle.spk_link.specs.declared.stand.Due.{Due}
use Rattle.spk_link.specs.declared.stand.Due.TheVariants as due
use Rattle.spk_link.specs.declared.stand.Stand.TheVariants.{Off, On}
use Rattle.spk_link.specs.Past.{Event, after, due_in, is_open, last_asked, last_heard, last_sent, moments}
use Rattle.spk_link.specs.Step.{and_half, due_at, due_of, half, is_over, is_quiet}
use Rattle.spk_link.proofs.Histories.{keep_is, stand_is}

abbrev is_connect : Due → Bool
is_connect due.Connect = true
is_connect due.Nothing = false
is_connect due.Ping = false
is_connect due.End = false

abbrev is_end : Due → Bool
is_end due.End = true
is_end due.Connect = false
is_end due.Nothing = false
is_end due.Ping = false

abbrev is_ping : Due → Bool
is_ping due.Ping = true
is_ping due.Connect = false
is_ping due.Nothing = false
is_ping due.End = false

due_is : (keep spread now : ℕ) (es : List Event) → due_at (after keep spread es) now ≡ due_of (1000 * keep) (cond (is_open es) (On (moments es)) (Off (due_in spread es))) now
due_is keep spread now es =
    ap (λ k. due_of k (after keep spread es).stand now) (keep_is keep spread es) ∙ ap (λ s. due_of (1000 * keep) s now) (stand_is keep spread es)

-- ---- a connection

abbrev choice : Bool → Bool → Bool → Due
choice a e q = cond a due.Nothing (cond e due.End (cond q due.Ping due.Nothing))

never_connects : (a e q : Bool) → is_connect (choice a e q) ≡ false
never_connects true e q = refl
never_connects false true q = refl
never_connects false false true = refl
never_connects false false false = refl

ends_at : (a e q : Bool) → choice a e q ≡ due.End → e ≡ true
ends_at true e q is = absurd (true≢false (sym (ap is_end is)))
ends_at false true q is = refl
ends_at false false true is = absurd (true≢false (sym (ap is_end is)))
ends_at false false false is = absurd (true≢false (sym (ap is_end is)))

pings_at : (a e q : Bool) → choice a e q ≡ due.Ping → (e ≡ false) × (q ≡ true)
pings_at true e q is = absurd (true≢false (sym (ap is_ping is)))
pings_at false true q is = absurd (true≢false (sym (ap is_ping is)))
pings_at false false true is = (refl, refl)
pings_at false false false is = absurd (true≢false (sym (ap is_ping is)))

over_is : (now moment time : ℕ) → 0 < time → is_over now moment time ≡ true → moment + time ≤ now
over_is now moment time some is = let le = leb-true time (now - moment) is in omega (arith, some, le)

is_over_at : (now moment time : ℕ) → moment + time ≤ now → is_over now moment time ≡ true
is_over_at now moment time le = le-leb time (now - moment) (omega (arith, le))

not_over : (now moment time : ℕ) → is_over now moment time ≡ false → now < moment + time
not_over now moment time is = let lt = leb-false time (now - moment) is in omega (arith, lt)

not_over_at : (now moment time : ℕ) → 0 < time → now < moment + time → is_over now moment time ≡ false
not_over_at now moment time some lt = go (is_over now moment time) refl
  where
    go : (b : Bool) → is_over now moment time ≡ b → is_over now moment time ≡ false
    go false e = e
    go true e = let le = over_is now moment time some e in absurd (omega (arith, le, lt))

both_left : (a b : Bool) → (a && b) ≡ true → a ≡ true
both_left true b e = refl
both_left false b e = e

both_right : (a b : Bool) → (a && b) ≡ true → b ≡ true
both_right true b e = e
both_right false b e = absurd (true≢false (sym e))

one_of : (a b : Bool) → (a || b) ≡ true → (a ≡ true) ⊎ (b ≡ true)
one_of true b e = inl refl
one_of false b e = inr e

either_left : (a b : Bool) → a ≡ true → (a || b) ≡ true
either_left a b e = ap (λ x. x || b) e

either_right : (a b : Bool) → b ≡ true → (a || b) ≡ true
either_right true b e = refl
either_right false b e = e

-- ---- the three

pub connects : (keep spread now : ℕ) (es : List Event) → (due_at (after keep spread es) now ≡ due.Connect) ↔ ((is_open es ≡ false) × (due_in spread es ≤ now))
connects keep spread now es = subst (λ x. (x ≡ due.Connect) ↔ ((is_open es ≡ false) × (due_in spread es ≤ now))) (sym (due_is keep spread now es)) (at (is_open es) (due_in spread es))
  where
    at : (b : Bool) (d : ℕ) → (due_of (1000 * keep) (cond b (On (moments es)) (Off d)) now ≡ due.Connect) ↔ ((b ≡ false) × (d ≤ now))
    at true d = (
      (λ is. absurd (true≢false (sym (ap is_connect is) ∙ never_connects (nat_eq (1000 * keep) 0) (is_over now (moments es).heard (and_half (1000 * keep))) (is_quiet (1000 * keep) (moments es) now)))),
      (λ off. absurd (true≢false off.0)),
    )
    at false d = (λ is. (refl, go (nat_le d now) refl is), λ off. ap (λ b. cond b due.Connect due.Nothing) (le-leb d now off.1))
      where
        go : (b : Bool) → nat_le d now ≡ b → cond b due.Connect due.Nothing ≡ due.Connect → d ≤ now
        go true e is = leb-true d now e
        go false e is = absurd (true≢false (sym (ap is_connect is)))

pub ends : (keep spread now : ℕ) (es : List Event) → 0 < keep
    → (due_at (after keep spread es) now ≡ due.End) ↔ ((is_open es ≡ true) × (last_heard es + and_half (1000 * keep) ≤ now))
ends keep spread now es some = subst (λ x. (x ≡ due.End) ↔ ((is_open es ≡ true) × (last_heard es + and_half (1000 * keep) ≤ now))) (sym (due_is keep spread now es)) (at (is_open es))
  where
    at : (b : Bool) → (due_of (1000 * keep) (cond b (On (moments es)) (Off (due_in spread es))) now ≡ due.End) ↔ ((b ≡ true) × (last_heard es + and_half (1000 * keep) ≤ now))
    at true = (
      (λ is. (refl, over_is now (last_heard es) (and_half (1000 * keep)) (omega (arith, some)) (ends_at (nat_eq (1000 * keep) 0) _ (is_quiet (1000 * keep) (moments es) now) is))),
      (λ over. ap (λ a. choice a (is_over now (last_heard es) (and_half (1000 * keep))) (is_quiet (1000 * keep) (moments es) now)) (ne_eqb (1000 * keep) 0 (λ e. omega (arith, some, e)))
          ∙ ap (λ e. choice false e (is_quiet (1000 * keep) (moments es) now)) (is_over_at now (last_heard es) (and_half (1000 * keep)) over.1)),
    )
    at false = ((λ is. absurd (true≢false (sym (ap is_end is) ∙ go (nat_le (due_in spread es) now)))), (λ over. absurd (true≢false (sym over.0))))
      where
        go : (b : Bool) → is_end (cond b due.Connect due.Nothing) ≡ false
        go true = refl
        go false = refl

pub pings : (keep spread now : ℕ) (es : List Event) → 0 < keep
    → (due_at (after keep spread es) now ≡ due.Ping) ↔ ((is_open es ≡ true) × (now < last_heard es + and_half (1000 * keep)) × (last_asked es + half (1000 * keep) ≤ now)
    × ((last_sent es + half (1000 * keep) ≤ now) ⊎ (last_heard es + half (1000 * keep) ≤ now)))
pings keep spread now es some = subst (λ x. (x ≡ due.Ping) ↔ ((is_open es ≡ true) × (now < last_heard es + and_half (1000 * keep)) × (last_asked es + half (1000 * keep) ≤ now)
    × ((last_sent es + half (1000 * keep) ≤ now) ⊎ (last_heard es + half (1000 * keep) ≤ now)))) (sym (due_is keep spread now es)) (at (is_open es))
  where
    half_some : 0 < half (1000 * keep)
    half_some = omega (arith, some)

    at : (b : Bool) → (due_of (1000 * keep) (cond b (On (moments es)) (Off (due_in spread es))) now ≡ due.Ping) ↔ ((b ≡ true) × (now < last_heard es + and_half (1000 * keep)) × (last_asked es + half (1000 * keep) ≤ now)
        × ((last_sent es + half (1000 * keep) ≤ now) ⊎ (last_heard es + half (1000 * keep) ≤ now)))
    at true = (to, from)
      where
        to : due_of (1000 * keep) (On (moments es)) now ≡ due.Ping → (true ≡ true) × (now < last_heard es + and_half (1000 * keep)) × (last_asked es + half (1000 * keep) ≤ now)
            × ((last_sent es + half (1000 * keep) ≤ now) ⊎ (last_heard es + half (1000 * keep) ≤ now))
        to is =
            let parts = pings_at (nat_eq (1000 * keep) 0) (is_over now (last_heard es) (and_half (1000 * keep))) (is_quiet (1000 * keep) (moments es) now) is in
            let asked = both_left (is_over now (last_asked es) (half (1000 * keep))) _ parts.1 in
            let other = both_right (is_over now (last_asked es) (half (1000 * keep))) _ parts.1 in (
              refl,
              not_over now (last_heard es) (and_half (1000 * keep)) parts.0,
              over_is now (last_asked es) (half (1000 * keep)) half_some asked,
              elim (one_of (is_over now (last_sent es) (half (1000 * keep))) (is_over now (last_heard es) (half (1000 * keep))) other) [
                | inl sent ↦ inl (over_is now (last_sent es) (half (1000 * keep)) half_some sent)
                | inr heard ↦ inr (over_is now (last_heard es) (half (1000 * keep)) half_some heard)
              ],
            )

        quiet : ((last_sent es + half (1000 * keep) ≤ now) ⊎ (last_heard es + half (1000 * keep) ≤ now)) → (is_over now (last_sent es) (half (1000 * keep)) || is_over now (last_heard es) (half (1000 * keep))) ≡ true
        quiet (inl sent) = either_left _ _ (is_over_at now (last_sent es) (half (1000 * keep)) sent)
        quiet (inr heard) = either_right _ _ (is_over_at now (last_heard es) (half (1000 * keep)) heard)

        from : (true ≡ true) × (now < last_heard es + and_half (1000 * keep)) × (last_asked es + half (1000 * keep) ≤ now)
            × ((last_sent es + half (1000 * keep) ≤ now) ⊎ (last_heard es + half (1000 * keep) ≤ now)) → due_of (1000 * keep) (On (moments es)) now ≡ due.Ping
        from p =
            ap (λ a. choice a (is_over now (last_heard es) (and_half (1000 * keep))) (is_quiet (1000 * keep) (moments es) now)) (ne_eqb (1000 * keep) 0 (λ e. omega (arith, some, e)))
            ∙ ap (λ e. choice false e (is_quiet (1000 * keep) (moments es) now)) (not_over_at now (last_heard es) (and_half (1000 * keep)) (omega (arith, some)) p.1)
            ∙ ap (λ a. choice false false (a && (is_over now (last_sent es) (half (1000 * keep)) || is_over now (last_heard es) (half (1000 * keep))))) (is_over_at now (last_asked es) (half (1000 * keep)) p.2)
            ∙ ap (λ q. choice false false q) (quiet p.3)
    at false = ((λ is. absurd (true≢false (sym (ap is_ping is) ∙ go (nat_le (due_in spread es) now)))), (λ p. absurd (true≢false (sym p.0))))
      where
        go : (b : Bool) → is_ping (cond b due.Connect due.Nothing) ≡ false
        go true = refl
        go false = refl
