-- Each act keeps the sum of what was routed, what waits and the wills of the connections that sit, but for what it brings or discards.
use Rattle.std.proofs.Common.{◌≡◌, inl, inr, ℕ, ◌+◌, ◌≤◌, ◌==◌, Bool, true, false, not, ◌&&◌, List, [], ◌∷◌, ◌++◌, refl, sym, ap, ◌∙◌, subst, arith, Option, Some, None}
use Rattle.std.specs.List.{find, fold, flat_map}
use Rattle.std.specs.Option.{is_some}
use Rattle.std.proofs.lemmas.Bool.Decides.{eqb_tells}
use Rattle.spk_broker_rules.specs.Data.{AppMessage}
use Rattle.spk_broker_rules.specs.Words.{option_list, granted_of, offers_to}
use Rattle.spk_broker_rules.specs.Plan.{Act, Opens, At, Hear, Drop, Say, Leave, Tell, Queue, Route, Forget, Accept, Give, Take, Ack}
use Rattle.spk_broker_rules.specs.Past.{Past, OfSession, Made, Joined, Granted, TakenBack, Acked, Joining, deeds, made, sessions, here, routed, kept, grants, retained, session_at, sits_at, is_of, other_pairs}
use Rattle.spk_broker_rules.specs.Story.{Story, note, session_facts, told_one, Routes, nothing_waits, goes_on, will_of, leaving, told_leave, is_away, told_forget, away_for, told_take_up, gift, stands, told_offer, told_offer_at, granting, told_give, taking_back, told_take, told_ack, Tells, TellsAll}
use Rattle.spk_broker_limits.specs.Wills.{count}
use Rattle.spk_broker_limits.proofs.Summing.{Told, same, none_some, yes_no, times, found_times, passes}
use Rattle.spk_broker_limits.proofs.Facts.{count_append, worth, standing, Tidy, Keeps, kept_joined, plain_sum, plain_grown, over_grown, left_grown, left_over, given_grown, made_sum, made_tidy, made_once, joined_sum, joined_tidy, kept_fact, deed_at, all_facts, all_freed, round}

-- what was routed, what waits, and the wills of who sits
abbrev pub ledger : (AppMessage → Bool) → Story → ℕ
ledger q t = count q (routed t.past) + (count q t.waiting + standing q t.past)

-- the same sum
pub record Same (q : AppMessage → Bool) (K : ℕ → Joining → Type 0) (t u : Story) : Type 0 where
  pub tidy : Tidy u.past
  pub old : Keeps K u.past
  pub sum_ : ledger q u ≡ ledger q t

pub itself : (q : AppMessage → Bool) (K : ℕ → Joining → Type 0) (t : Story) → Tidy t.past → Keeps K t.past → Same q K t t
itself q K t tidy old = record { tidy = tidy; old = old; sum_ = refl }

pub next : (q : AppMessage → Bool) (K : ℕ → Joining → Type 0) (t u v : Story) → Same q K t u → Same q K u v → Same q K t v
next q K t u v a b = record { tidy = b.tidy; old = b.old; sum_ = b.sum_ ∙ a.sum_ }

-- ---- routing

one : (q : AppMessage → Bool) (K : ℕ → Joining → Type 0) (t : Story) (m : AppMessage) (ms : List AppMessage) → t.waiting ≡ m ∷ ms → Tidy t.past → Keeps K t.past → Same q K t (told_one m (record t { waiting = ms }))
one q K t m ms e tidy old =
    let r = round q K m t.past (sessions t.past) (λ s. omega arith) tidy old in
    record {
      tidy = record { once = λ s. r.tidy.once s; fresh = λ s l. r.tidy.fresh s l; gone = λ s z. r.tidy.gone s z };
      old = λ s j z. r.old s j z;
      sum_ = (
          let new : count q (m ∷ routed (all_facts t.past m (sessions t.past) ++ t.past)) ≡ count q (m ∷ []) + count q (routed (all_facts t.past m (sessions t.past) ++ t.past)) =
          count_append q (m ∷ []) (routed (all_facts t.past m (sessions t.past) ++ t.past)) in
          let as_was : count q (routed (all_facts t.past m (sessions t.past) ++ t.past)) ≡ count q (routed t.past) = ap (count q) r.routed_ in
          let wait : count q (ms ++ all_freed t.past m (sessions t.past)) ≡ count q ms + count q (all_freed t.past m (sessions t.past)) = count_append q ms (all_freed t.past m (sessions t.past)) in
          let first : count q t.waiting ≡ count q (m ∷ []) + count q ms = ap (count q) e ∙ count_append q (m ∷ []) ms in
          let sum_ : standing q t.past ≡ standing q (all_facts t.past m (sessions t.past) ++ t.past) + count q (all_freed t.past m (sessions t.past)) = r.sum_ in
          omega arith
          );
    }

-- and nothing waits
pub record Done (q : AppMessage → Bool) (K : ℕ → Joining → Type 0) (t u : Story) : Type 0 where
  pub same : Same q K t u
  pub done : u.waiting ≡ []

pub routes : (q : AppMessage → Bool) (K : ℕ → Joining → Type 0) (t u : Story) → Routes t u → Tidy t.past → Keeps K t.past → Done q K t u
routes q K t u (nothing_waits _ _ a e) tidy old = subst (Done q K t) e (record { same = itself q K t tidy old; done = a })
routes q K t u (goes_on _ _ m ms a r) tidy old =
    let first = one q K t m ms a tidy old in
    let rest = routes q K (told_one m (record t { waiting = ms })) u r first.tidy first.old in
    record { same = next q K t (told_one m (record t { waiting = ms })) u first rest.same; done = rest.done }

-- ---- leaving

once_of : (h : Past) (p : ℕ → Bool) (s : ℕ) → Tidy h → find p (sessions h) ≡ Some s → times s (sessions h) ≡ 1
once_of h p s tidy e = let most = tidy.once s in let some = found_times p (sessions h) s e in omega arith

pub left : (q : AppMessage → Bool) (K : ℕ → Joining → Type 0) (c : ℕ) (t : Story) (o : Option ℕ) → session_at t.past c ≡ o → Tidy t.past → Keeps K t.past → Same q K t (told_leave o c true t)
left q K c t None e tidy old = record {
  tidy = record { once = λ s. tidy.once s; fresh = λ s l. tidy.fresh s l; gone = λ s z. tidy.gone s z };
  old = λ s j z. old s j z;
  sum_ = refl;
}
left q K c t (Some s) e tidy old = by (kept (deeds t.past s))
  where
    at : times s (sessions t.past) ≡ 1
    at = once_of t.past (sits_at t.past c) s tidy e

    by : (k : Bool) → Same q K t (record (note (session_facts s (leaving k c)) t) { waiting = t.waiting ++ will_of true (here (deeds t.past s)) })
    by true =
        let g = left_grown q K s c t.past at tidy old in
        let wait = count_append q t.waiting (will_of true (here (deeds t.past s))) in
        record { tidy = g.tidy; old = g.old; sum_ = (let a = g.sum_ in omega arith) }
    by false =
        let g = left_over q K s c t.past at tidy old in
        let wait = count_append q t.waiting (will_of true (here (deeds t.past s))) in
        record { tidy = g.tidy; old = g.old; sum_ = (let a = g.sum_ in omega arith) }

-- by DISCONNECT: the will is discarded
pub record Less (q : AppMessage → Bool) (K : ℕ → Joining → Type 0) (lost : ℕ) (t u : Story) : Type 0 where
  pub tidy : Tidy u.past
  pub old : Keeps K u.past
  pub sum_ : ledger q u + lost ≡ ledger q t
  pub done : u.waiting ≡ t.waiting

abbrev pub worth_at : (AppMessage → Bool) → Past → Option ℕ → ℕ
worth_at q h None = 0
worth_at q h (Some s) = worth q (here (deeds h s))

pub discarded : (q : AppMessage → Bool) (K : ℕ → Joining → Type 0) (c : ℕ) (t : Story) (o : Option ℕ) → t.waiting ≡ [] → session_at t.past c ≡ o → Tidy t.past → Keeps K t.past
    → Less q K (worth_at q t.past o) t (told_leave o c false t)
discarded q K c t None w e tidy old = record {
  tidy = record { once = λ s. tidy.once s; fresh = λ s l. tidy.fresh s l; gone = λ s z. tidy.gone s z };
  old = λ s j z. old s j z;
  sum_ = omega arith;
  done = refl;
}
discarded q K c t (Some s) w e tidy old = by (kept (deeds t.past s))
  where
    at : times s (sessions t.past) ≡ 1
    at = once_of t.past (sits_at t.past c) s tidy e

    still : t.waiting ++ [] ≡ t.waiting
    still = ap (λ ws. ws ++ []) w ∙ sym w

    by : (k : Bool) → Less q K (worth q (here (deeds t.past s))) t (record (note (session_facts s (leaving k c)) t) { waiting = t.waiting ++ [] })
    by true =
        let g = left_grown q K s c t.past at tidy old in
        let wait : count q (t.waiting ++ []) ≡ count q t.waiting = ap (count q) still in
        record { tidy = g.tidy; old = g.old; sum_ = (let a = g.sum_ in omega arith); done = still }
    by false =
        let g = left_over q K s c t.past at tidy old in
        let wait : count q (t.waiting ++ []) ≡ count q t.waiting = ap (count q) still in
        record { tidy = g.tidy; old = g.old; sum_ = (let a = g.sum_ in omega arith); done = still }

-- ---- a kept session ends, a connection joins

two : (a b c : Bool) → (a && (b && c)) ≡ true → b ≡ true
two true true c e = refl
two true false c e = yes_no (sym e)
two false b c e = yes_no (sym e)

away_none : (h : Past) (client : List ℕ) (s : ℕ) → find (is_away h client) (sessions h) ≡ Some s → here (deeds h s) ≡ None
away_none h client s e = by (here (deeds h s)) (two (kept (deeds h s)) (not (is_some (here (deeds h s)))) (is_of h client s) (passes (is_away h client) (sessions h) s e))
  where
    by : (o : Option Joining) → not (is_some o) ≡ true → o ≡ None
    by None f = refl
    by (Some j) f = yes_no (sym f)

pub forgot : (q : AppMessage → Bool) (K : ℕ → Joining → Type 0) (client : List ℕ) (t : Story) (o : Option ℕ) → find (is_away t.past client) (sessions t.past) ≡ o → Tidy t.past → Keeps K t.past
    → Same q K t (told_forget o t)
forgot q K client t None e tidy old = itself q K t tidy old
forgot q K client t (Some s) e tidy old =
    let g = over_grown q K s t.past (away_none t.past client s e) tidy old in
    record { tidy = g.tidy; old = g.old; sum_ = (let a = g.sum_ in omega arith) }

abbrev pub joining : ℕ → ℕ → Option AppMessage → Joining
joining conn alive will = record { conn = conn; alive = alive; will = will }

-- whoever joins brings a will
pub record Came (q : AppMessage → Bool) (K : ℕ → Joining → Type 0) (c alive : ℕ) (will : Option AppMessage) (t u : Story) : Type 0 where
  pub tidy : Tidy u.past
  pub old : Keeps K u.past
  pub sum_ : ledger q u ≡ ledger q t + count q (option_list will)
  pub done : u.waiting ≡ t.waiting
  pub session : ℕ
  pub there : times session (sessions u.past) ≡ 1
  pub sits : here (deeds u.past session) ≡ Some (joining c alive will)

pub came : (q : AppMessage → Bool) (K : ℕ → Joining → Type 0) (c : ℕ) (client : List ℕ) (keeps : Bool) (alive : ℕ) (will : Option AppMessage) (t : Story) (o : Option ℕ) → away_for t.past keeps client ≡ o
    → ((s : ℕ) → K s (joining c alive will)) → Tidy t.past → Keeps K t.past → Came q K c alive will t (told_take_up o c client keeps alive will t)
came q K c client keeps alive will t None e new tidy old =
    let s : ℕ = made t.past + 1 in
    let g : Past = OfSession (made t.past + 1) (Made client keeps) ∷ t.past in
    let made_ = made_tidy t.past client keeps tidy in
    let there : times (made t.past + 1) (sessions (OfSession (made t.past + 1) (Made client keeps) ∷ t.past)) ≡ 1 = made_once t.past client keeps tidy in
    let free : here (deeds (OfSession (made t.past + 1) (Made client keeps) ∷ t.past) (made t.past + 1)) ≡ None = ap here (deed_at t.past (made t.past + 1) (Made client keeps)) in
    record {
      tidy = joined_tidy g s c alive will there made_;
      old = kept_joined K g s c alive will (new s) (kept_fact K t.past s (Made client keeps) tt old);
      sum_ = (
          let a : standing q (OfSession s (Joined c alive will) ∷ g) ≡ standing q g + count q (option_list will) = joined_sum q g s c alive will there free in
          let b : standing q g ≡ standing q t.past = made_sum q t.past client keeps tidy in
          omega arith
          );
      done = refl;
      session = s;
      there = there;
      sits = ap here (deed_at g s (Joined c alive will));
    }
came q K c client keeps alive will t (Some s) e new tidy old = by keeps e
  where
    by : (k : Bool) → away_for t.past k client ≡ Some s → Came q K c alive will t (told_take_up (Some s) c client keeps alive will t)
    by true f =
        let there : times s (sessions t.past) ≡ 1 = once_of t.past (is_away t.past client) s tidy f in
        let free : here (deeds t.past s) ≡ None = away_none t.past client s f in
        record {
          tidy = joined_tidy t.past s c alive will there tidy;
          old = kept_joined K t.past s c alive will (new s) old;
          sum_ = (let a = joined_sum q t.past s c alive will there free in omega arith);
          done = refl;
          session = s;
          there = there;
          sits = ap here (deed_at t.past s (Joined c alive will));
        }
    by false f = none_some s f

-- ---- SUBSCRIBE, UNSUBSCRIBE, PUBACK

-- facts that change no will
pub record Calm (q : AppMessage → Bool) (K : ℕ → Joining → Type 0) (h g : Past) : Type 0 where
  pub tidy : Tidy g
  pub old : Keeps K g
  pub sum_ : standing q g ≡ standing q h
  pub routed_ : routed g ≡ routed h

granted_calm : (q : AppMessage → Bool) (K : ℕ → Joining → Type 0) (s : ℕ) (es : List (List ℕ × ℕ)) (h : Past) → Tidy h → Keeps K h → Calm q K h (fold (granting s) h es)
granted_calm q K s [] h tidy old = record { tidy = tidy; old = old; sum_ = refl; routed_ = refl }
granted_calm q K s (e ∷ es) h tidy old =
    let g = plain_grown q K s (Granted e.0 e.1) h tt tidy old in
    let rest = granted_calm q K s es (OfSession s (Granted e.0 e.1) ∷ h) g.tidy g.old in
    record { tidy = rest.tidy; old = rest.old; sum_ = rest.sum_ ∙ plain_sum q h s (Granted e.0 e.1) tt; routed_ = rest.routed_ }

taken_calm : (q : AppMessage → Bool) (K : ℕ → Joining → Type 0) (s : ℕ) (fs : List (List ℕ)) (h : Past) → Tidy h → Keeps K h → Calm q K h (fold (taking_back s) h fs)
taken_calm q K s [] h tidy old = record { tidy = tidy; old = old; sum_ = refl; routed_ = refl }
taken_calm q K s (f ∷ fs) h tidy old =
    let g = plain_grown q K s (TakenBack f) h tt tidy old in
    let rest = taken_calm q K s fs (OfSession s (TakenBack f) ∷ h) g.tidy g.old in
    record { tidy = rest.tidy; old = rest.old; sum_ = rest.sum_ ∙ plain_sum q h s (TakenBack f) tt; routed_ = rest.routed_ }

is_there : (xs : List ℕ) (s : ℕ) → is_some (find (λ t. t == s) xs) ≡ true → 1 ≤ times s xs
is_there xs s e = by (find (λ t. t == s) xs) refl e
  where
    by : (o : Option ℕ) → find (λ t. t == s) xs ≡ o → is_some o ≡ true → 1 ≤ times s xs
    by None f g = yes_no (sym g)
    by (Some t) f g = is (eqb_tells t s) (passes (λ x. x == s) xs t f)
      where
        is : Told t s → (t == s) ≡ true → 1 ≤ times s xs
        is (inl h) i = subst (λ u. 1 ≤ times u xs) h.1 (found_times (λ x. x == s) xs t f)
        is (inr h) i = yes_no (sym i ∙ h.0)

offered : (q : AppMessage → Bool) (K : ℕ → Joining → Type 0) (s : ℕ) (m : AppMessage) (t : Story) (b : Bool) → stands t.past s ≡ b → Tidy t.past → Keeps K t.past → Same q K t (told_offer_at b s m t)
offered q K s m t false e tidy old = itself q K t tidy old
offered q K s m t true e tidy old =
    let most = tidy.once s in
    let some = is_there (sessions t.past) s e in
    let g = given_grown m.qos q K s m t.past t.past refl (omega arith) tidy old in
    record {
      tidy = g.tidy;
      old = g.old;
      sum_ = (
          let a : standing q t.past ≡ standing q (session_facts s (gift t.past s m).deeds ++ t.past) + count q (gift t.past s m).wills = g.sum_ in
          let b : count q (routed (session_facts s (gift t.past s m).deeds ++ t.past)) ≡ count q (routed t.past) = ap (count q) g.routed_ in
          let wait : count q (t.waiting ++ (gift t.past s m).wills) ≡ count q t.waiting + count q (gift t.past s m).wills = count_append q t.waiting (gift t.past s m).wills in
          omega arith
          );
    }

offers : (q : AppMessage → Bool) (K : ℕ → Joining → Type 0) (s : ℕ) (ms : List AppMessage) (t : Story) → Tidy t.past → Keeps K t.past → Same q K t (fold (told_offer s) t ms)
offers q K s [] t tidy old = itself q K t tidy old
offers q K s (m ∷ ms) t tidy old =
    let first = offered q K s m t (stands t.past s) refl tidy old in
    next q K t (told_offer s t m) (fold (told_offer s) t (m ∷ ms)) first (offers q K s ms (told_offer s t m) first.tidy first.old)

pub given : (q : AppMessage → Bool) (K : ℕ → Joining → Type 0) (c id : ℕ) (es : List (List ℕ × ℕ)) (t : Story) (o : Option ℕ) → Tidy t.past → Keeps K t.past → Same q K t (told_give o c id es t)
given q K c id es t None tidy old = itself q K t tidy old
given q K c id es t (Some s) tidy old =
    let entries = granted_of (other_pairs t.past s) (grants (deeds t.past s)) es in
    let calm = granted_calm q K s (granted_of (other_pairs t.past s) (grants (deeds t.past s)) es) t.past tidy old in
    let rest = offers q K s (flat_map (offers_to (retained t.past)) (granted_of (other_pairs t.past s) (grants (deeds t.past s)) es)) _ calm.tidy calm.old in
    record {
      tidy = rest.tidy;
      old = rest.old;
      sum_ = rest.sum_ ∙ (let a = calm.sum_ in let b = ap (count q) calm.routed_ in omega arith);
    }

pub taken_back : (q : AppMessage → Bool) (K : ℕ → Joining → Type 0) (fs : List (List ℕ)) (t : Story) (o : Option ℕ) → Tidy t.past → Keeps K t.past → Same q K t (told_take o fs t)
taken_back q K fs t None tidy old = itself q K t tidy old
taken_back q K fs t (Some s) tidy old =
    let calm = taken_calm q K s fs t.past tidy old in
    record { tidy = calm.tidy; old = calm.old; sum_ = (let a = calm.sum_ in let b = ap (count q) calm.routed_ in omega arith) }

pub acked : (q : AppMessage → Bool) (K : ℕ → Joining → Type 0) (id : ℕ) (t : Story) (o : Option ℕ) → Tidy t.past → Keeps K t.past → Same q K t (told_ack o id t)
acked q K id t None tidy old = itself q K t tidy old
acked q K id t (Some s) tidy old =
    let g = plain_grown q K s (Acked id) t.past tt tidy old in
    record { tidy = g.tidy; old = g.old; sum_ = (let a = plain_sum q t.past s (Acked id) tt in omega arith) }

-- ---- acts that bring and discard nothing

abbrev pub IsFair : Act → Type 0
IsFair (Leave conn false) = ⊥
IsFair (Queue app_message) = ⊥
IsFair (Accept conn client kept alive will) = ⊥
IsFair _ = Unit {0}

pub fair : (q : AppMessage → Bool) (K : ℕ → Joining → Type 0) (a : Act) → IsFair a → (t u : Story) → Tells a t u → Tidy t.past → Keeps K t.past → Same q K t u
fair q K Opens f t u e tidy old = subst (Same q K t) (sym e) (record { tidy = record { once = λ s. tidy.once s; fresh = λ s l. tidy.fresh s l; gone = λ s z. tidy.gone s z }; old = λ s j z. old s j z; sum_ = refl })
fair q K (At moment) f t u e tidy old = subst (Same q K t) (sym e) (record { tidy = record { once = λ s. tidy.once s; fresh = λ s l. tidy.fresh s l; gone = λ s z. tidy.gone s z }; old = λ s j z. old s j z; sum_ = refl })
fair q K (Hear c) f t u e tidy old = subst (Same q K t) (sym e) (record { tidy = record { once = λ s. tidy.once s; fresh = λ s l. tidy.fresh s l; gone = λ s z. tidy.gone s z }; old = λ s j z. old s j z; sum_ = refl })
fair q K (Drop c) f t u e tidy old = subst (Same q K t) (sym e) (record { tidy = record { once = λ s. tidy.once s; fresh = λ s l. tidy.fresh s l; gone = λ s z. tidy.gone s z }; old = λ s j z. old s j z; sum_ = refl })
fair q K (Say c p) f t u e tidy old = subst (Same q K t) (sym e) (record { tidy = tidy; old = old; sum_ = refl })
fair q K (Leave c true) f t u e tidy old = subst (Same q K t) (sym e) (left q K c t (session_at t.past c) refl tidy old)
fair q K (Leave c false) f t u e tidy old = elim f [ ]
fair q K (Tell c) f t u e tidy old = subst (Same q K t) (sym e) (record { tidy = tidy; old = old; sum_ = refl })
fair q K (Queue app_message) f t u e tidy old = elim f [ ]
fair q K Route f t u e tidy old = (routes q K t u e tidy old).same
fair q K (Forget client) f t u e tidy old = subst (Same q K t) (sym e) (forgot q K client t (find (is_away t.past client) (sessions t.past)) refl tidy old)
fair q K (Accept c client kept alive will) f t u e tidy old = elim f [ ]
fair q K (Give c id es) f t u e tidy old = subst (Same q K t) (sym e) (given q K c id es t (session_at t.past c) tidy old)
fair q K (Take c fs) f t u e tidy old = subst (Same q K t) (sym e) (taken_back q K fs t (session_at t.past c) tidy old)
fair q K (Ack c id) f t u e tidy old = subst (Same q K t) (sym e) (acked q K id t (session_at t.past c) tidy old)

abbrev pub AllFair : List Act → Type 0
AllFair [] = Unit {0}
AllFair (a ∷ as_list) = IsFair a × AllFair as_list

pub fair_all : (q : AppMessage → Bool) (K : ℕ → Joining → Type 0) (as_list : List Act) → AllFair as_list → (t u : Story) → TellsAll as_list t u → Tidy t.past → Keeps K t.past → Same q K t u
fair_all q K [] f t u e tidy old = subst (Same q K t) e (itself q K t tidy old)
fair_all q K (a ∷ as_list) f t u (v, x, d) tidy old =
    let first = fair q K a f.0 t v x tidy old in
    next q K t v u first (fair_all q K as_list f.1 v u d first.tidy first.old)
