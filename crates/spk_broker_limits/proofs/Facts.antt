-- What each fact changes of the connections that sit, and of their wills.
use Rattle.std.proofs.Common.{◌≡◌, ◌≢◌, inl, inr, ℕ, zero, suc, ◌+◌, ◌≤◌, ◌<◌, ◌==◌, Bool, true, false, cond, List, [], ◌∷◌, ◌++◌, length, refl, sym, ap, ◌∙◌, subst, arith, append_assoc, Option, Some, None}
use Rattle.std.specs.List.{filter, flat_map}
use Rattle.std.specs.Option.{is_some}
use Rattle.std.proofs.lemmas.Bool.{ne_eqb}
use Rattle.std.proofs.lemmas.Bool.Decides.{eqb_tells}
use Rattle.spk_session.specs.PacketIds.{next_id}
use Rattle.spk_session.specs.Step.{has_room, without}
use Rattle.spk_broker_rules.specs.Data.{AppMessage}
use Rattle.spk_broker_rules.specs.Words.{best, level, sent_as, option_list}
use Rattle.spk_broker_rules.specs.Past.{Past, OfSession, Deed, Made, Joined, Left, Over, Granted, TakenBack, Numbered, Acked, Joining, deeds, made, is_making, made_by, sessions, here, routed, used, last_id, grants}
use Rattle.spk_broker_rules.specs.Story.{share, share_at, given_at, ends_at, numbers, session_facts, will_of}
use Rattle.spk_broker_limits.specs.Wills.{count}
use Rattle.spk_broker_limits.proofs.Summing.{Told, same, none_some, is_the, sum, bit, times, sum_same, sum_off, sum_at, sum_more, times_more, sum_without, times_without, times_other}

-- ---- counting

pub count_append : (q : AppMessage → Bool) (xs ys : List AppMessage) → count q (xs ++ ys) ≡ count q xs + count q ys
count_append q [] ys = omega arith
count_append q (x ∷ xs) ys = by (q x) (count_append q xs ys)
  where
    by : (b : Bool) → count q (xs ++ ys) ≡ count q xs + count q ys
        → length (cond b (x ∷ filter q (xs ++ ys)) (filter q (xs ++ ys))) ≡ length (cond b (x ∷ filter q xs) (filter q xs)) + count q ys
    by true rest = omega arith
    by false rest = rest

-- of a connection's will, where it sits
abbrev pub worth : (AppMessage → Bool) → Option Joining → ℕ
worth q j = count q (will_of true j)

-- of the wills of the connections that sit
abbrev pub standing : (AppMessage → Bool) → Past → ℕ
standing q h = sum (λ s. worth q (here (deeds h s))) (sessions h)

-- Sessions stand once each, their numbers were given, and where one is over no connection sits.
pub record Tidy (h : Past) : Type 0 where
  pub once : (s : ℕ) → times s (sessions h) ≤ 1
  pub fresh : (s : ℕ) → made h < s → times s (sessions h) ≡ 0
  pub gone : (s : ℕ) → times s (sessions h) ≡ 0 → here (deeds h s) ≡ None

-- whoever sits is such
abbrev pub Keeps : (ℕ → Joining → Type 0) → Past → Type 0
Keeps K h = (s : ℕ) (j : Joining) → here (deeds h s) ≡ Some j → K s j

-- ---- who sits

abbrev pub IsQuiet : Deed → Type 0
IsQuiet (Joined conn alive will) = ⊥
IsQuiet _ = Unit {0}

quiet_here : (d : Deed) → IsQuiet d → (ds : List Deed) (j : Joining) → here (d ∷ ds) ≡ Some j → here ds ≡ Some j
quiet_here (Made c k) p ds j e = none_some j e
quiet_here (Joined c a w) p ds j e = elim p [ ]
quiet_here (Left c) p ds j e = none_some j e
quiet_here Over p ds j e = e
quiet_here (Granted f n) p ds j e = e
quiet_here (TakenBack f) p ds j e = e
quiet_here (Numbered i m b) p ds j e = e
quiet_here (Acked i) p ds j e = e

pub kept_fact : (K : ℕ → Joining → Type 0) (h : Past) (s : ℕ) (d : Deed) → IsQuiet d → Keeps K h → Keeps K (OfSession s d ∷ h)
kept_fact K h s d p k t j e = by (s == t) e
  where
    by : (b : Bool) → here (cond b (d ∷ deeds h t) (deeds h t)) ≡ Some j → K t j
    by true f = k t j (quiet_here d p (deeds h t) j f)
    by false f = k t j f

pub kept_joined : (K : ℕ → Joining → Type 0) (h : Past) (s c a : ℕ) (w : Option AppMessage) → K s (record { conn = c; alive = a; will = w }) → Keeps K h → Keeps K (OfSession s (Joined c a w) ∷ h)
kept_joined K h s c a w new k t j e = by (eqb_tells s t)
  where
    at : (b : Bool) → (s == t) ≡ b → here (cond b (Joined c a w ∷ deeds h t) (deeds h t)) ≡ Some j
    at b i = sym (ap (λ x. here (cond x (Joined c a w ∷ deeds h t) (deeds h t))) i) ∙ e

    by : Told s t → K t j
    by (inl f) = subst (λ u. K t u) (is_the (record { conn = c; alive = a; will = w }) j (at true f.0)) (subst (λ u. K u (record { conn = c; alive = a; will = w })) f.1 new)
    by (inr f) = k t j (at false f.0)

-- ---- grants, identifiers

abbrev pub IsPlain : Deed → Type 0
IsPlain (Made client kept) = ⊥
IsPlain (Joined conn alive will) = ⊥
IsPlain (Left conn) = ⊥
IsPlain Over = ⊥
IsPlain _ = Unit {0}

same_here : (d : Deed) → IsPlain d → (ds : List Deed) → here (d ∷ ds) ≡ here ds
same_here (Made c k) p ds = elim p [ ]
same_here (Joined c a w) p ds = elim p [ ]
same_here (Left c) p ds = elim p [ ]
same_here Over p ds = elim p [ ]
same_here (Granted f n) p ds = refl
same_here (TakenBack f) p ds = refl
same_here (Numbered i m b) p ds = refl
same_here (Acked i) p ds = refl

same_sessions : (d : Deed) → IsPlain d → (s : ℕ) (ss : List ℕ) → made_by s d ss ≡ ss
same_sessions (Made c k) p s ss = elim p [ ]
same_sessions (Joined c a w) p s ss = refl
same_sessions (Left c) p s ss = refl
same_sessions Over p s ss = elim p [ ]
same_sessions (Granted f n) p s ss = refl
same_sessions (TakenBack f) p s ss = refl
same_sessions (Numbered i m b) p s ss = refl
same_sessions (Acked i) p s ss = refl

no_making : (d : Deed) → IsPlain d → is_making d ≡ false
no_making (Made c k) p = elim p [ ]
no_making (Joined c a w) p = refl
no_making (Left c) p = refl
no_making Over p = refl
no_making (Granted f n) p = refl
no_making (TakenBack f) p = refl
no_making (Numbered i m b) p = refl
no_making (Acked i) p = refl

plain_quiet : (d : Deed) → IsPlain d → IsQuiet d
plain_quiet (Made c k) p = tt
plain_quiet (Joined c a w) p = p
plain_quiet (Left c) p = tt
plain_quiet Over p = tt
plain_quiet (Granted f n) p = tt
plain_quiet (TakenBack f) p = tt
plain_quiet (Numbered i m b) p = tt
plain_quiet (Acked i) p = tt

here_at : (h : Past) (s : ℕ) (d : Deed) → ((ds : List Deed) → here (d ∷ ds) ≡ here ds) → (t : ℕ) → here (deeds (OfSession s d ∷ h) t) ≡ here (deeds h t)
here_at h s d e t = by (s == t)
  where
    by : (b : Bool) → here (cond b (d ∷ deeds h t) (deeds h t)) ≡ here (deeds h t)
    by true = e (deeds h t)
    by false = refl

pub plain_sum : (q : AppMessage → Bool) (h : Past) (s : ℕ) (d : Deed) → IsPlain d → standing q (OfSession s d ∷ h) ≡ standing q h
plain_sum q h s d p =
    ap (sum (λ t. worth q (here (deeds (OfSession s d ∷ h) t)))) (same_sessions d p s (sessions h))
    ∙ sum_same (λ t. worth q (here (deeds (OfSession s d ∷ h) t))) (λ t. worth q (here (deeds h t))) (λ t. ap (worth q) (here_at h s d (same_here d p) t)) (sessions h)

pub plain_tidy : (h : Past) (s : ℕ) (d : Deed) → IsPlain d → Tidy h → Tidy (OfSession s d ∷ h)
plain_tidy h s d p tidy =
    let is : sessions (OfSession s d ∷ h) ≡ sessions h = same_sessions d p s (sessions h) in
    record {
      once = λ t. subst (λ ss. times t ss ≤ 1) (sym is) (tidy.once t);
      fresh = λ t m. ap (times t) is ∙ tidy.fresh t (subst (λ n. n < t) (ap (λ b. cond b (made h + 1) (made h)) (no_making d p)) m);
      gone = λ t e. here_at h s d (same_here d p) t ∙ tidy.gone t (sym (ap (times t) is) ∙ e);
    }

-- ---- a connection leaves, and a session is over

abbrev pub now : (AppMessage → Bool) → Past → ℕ → ℕ
now q h t = worth q (here (deeds h t))

off_at : (q : AppMessage → Bool) (h : Past) (s : ℕ) (d : Deed) (t : ℕ) → (s == t) ≡ false → now q h t ≡ now q (OfSession s d ∷ h) t
off_at q h s d t i = ap (λ b. worth q (here (cond b (d ∷ deeds h t) (deeds h t)))) (sym i)

pub deed_at : (h : Past) (s : ℕ) (d : Deed) → deeds (OfSession s d ∷ h) s ≡ d ∷ deeds h s
deed_at h s d = ap (λ b. cond b (d ∷ deeds h s) (deeds h s)) (same s)

pub deed_off : (h : Past) (s : ℕ) (d : Deed) (t : ℕ) → (s == t) ≡ false → deeds (OfSession s d ∷ h) t ≡ deeds h t
deed_off h s d t i = ap (λ b. cond b (d ∷ deeds h t) (deeds h t)) i

pub left_here : (h : Past) (s c : ℕ) → here (deeds (OfSession s (Left c) ∷ h) s) ≡ None
left_here h s c = ap here (deed_at h s (Left c))

pub left_sum : (q : AppMessage → Bool) (h : Past) (s c : ℕ) → times s (sessions h) ≡ 1 → standing q (OfSession s (Left c) ∷ h) + worth q (here (deeds h s)) ≡ standing q h
left_sum q h s c e =
    let at : standing q (OfSession s (Left c) ∷ h) + worth q (here (deeds h s)) ≡ standing q h + now q (OfSession s (Left c) ∷ h) s =
    sum_at (now q h) (now q (OfSession s (Left c) ∷ h)) s (off_at q h s (Left c)) (sessions h) e in
    let none : now q (OfSession s (Left c) ∷ h) s ≡ 0 = ap (worth q) (left_here h s c) in
    omega arith

pub left_tidy : (h : Past) (s c : ℕ) → Tidy h → Tidy (OfSession s (Left c) ∷ h)
left_tidy h s c tidy = record { once = λ t. tidy.once t; fresh = λ t m. tidy.fresh t m; gone = λ t e. by (s == t) t (tidy.gone t e) }
  where
    by : (b : Bool) (t : ℕ) → here (deeds h t) ≡ None → here (cond b (Left c ∷ deeds h t) (deeds h t)) ≡ None
    by true t e = refl
    by false t e = e

pub over_sum : (q : AppMessage → Bool) (h : Past) (s : ℕ) → here (deeds h s) ≡ None → standing q (OfSession s Over ∷ h) ≡ standing q h
over_sum q h s none =
    sum_same (now q (OfSession s Over ∷ h)) (now q h) (λ t. ap (worth q) (here_at h s Over (λ ds. refl) t)) (without s (sessions h))
    ∙ sum_without (now q h) s (sessions h) (ap (worth q) none)

pub over_tidy : (h : Past) (s : ℕ) → here (deeds h s) ≡ None → Tidy h → Tidy (OfSession s Over ∷ h)
over_tidy h s none tidy = record {
  once = λ t. let less = times_without t s (sessions h) in let one = tidy.once t in omega arith;
  fresh = λ t m. let less = times_without t s (sessions h) in let zero' = tidy.fresh t m in omega arith;
  gone = λ t e. here_at h s Over (λ ds. refl) t ∙ by t (eqb_tells s t) e;
}
  where
    by : (t : ℕ) → Told s t → times t (without s (sessions h)) ≡ 0 → here (deeds h t) ≡ None
    by t (inl f) e = subst (λ u. here (deeds h u) ≡ None) f.1 none
    by t (inr f) e = tidy.gone t (sym (times_other t s (sessions h) f.1) ∙ e)

-- ---- a session is made, and a connection joins

pub made_sum : (q : AppMessage → Bool) (h : Past) (c : List ℕ) (k : Bool) → Tidy h → standing q (OfSession (made h + 1) (Made c k) ∷ h) ≡ standing q h
made_sum q h c k tidy =
    let s : ℕ = made h + 1 in
    let g : Past = OfSession (made h + 1) (Made c k) ∷ h in
    let more : sum (now q g) (sessions h ++ s ∷ []) ≡ sum (now q g) (sessions h) + now q g s = sum_more (now q g) (sessions h) s in
    let off : sum (now q h) (sessions h) ≡ sum (now q g) (sessions h) = sum_off (now q h) (now q g) s (off_at q h s (Made c k)) (sessions h) (tidy.fresh s (omega arith)) in
    let none : now q g s ≡ 0 = ap (λ ds. worth q (here ds)) (deed_at h s (Made c k)) in
    omega arith

pub made_tidy : (h : Past) (c : List ℕ) (k : Bool) → Tidy h → Tidy (OfSession (made h + 1) (Made c k) ∷ h)
made_tidy h c k tidy = record {
  once = λ t. once t (eqb_tells t (made h + 1));
  fresh = λ t m. fresh t m (eqb_tells t (made h + 1));
  gone = λ t e. by (made h + 1 == t) t (let more = times_more t (sessions h) (made h + 1) in tidy.gone t (omega arith));
}
  where
    once : (t : ℕ) → Told t (made h + 1) → times t (sessions h ++ (made h + 1) ∷ []) ≤ 1
    once t (inl f) =
        let more = times_more t (sessions h) (made h + 1) in
        let is : t ≡ made h + 1 = f.1 in
        let none : times t (sessions h) ≡ 0 = tidy.fresh t (omega arith) in
        let one : bit (t == made h + 1) ≡ 1 = ap bit f.0 in
        omega arith
    once t (inr f) =
        let more = times_more t (sessions h) (made h + 1) in
        let none : bit (t == made h + 1) ≡ 0 = ap bit f.0 in
        let one = tidy.once t in
        omega arith

    fresh : (t : ℕ) → made h + 1 < t → Told t (made h + 1) → times t (sessions h ++ (made h + 1) ∷ []) ≡ 0
    fresh t m (inl f) = let is : t ≡ made h + 1 = f.1 in absurd (omega arith)
    fresh t m (inr f) =
        let more = times_more t (sessions h) (made h + 1) in
        let none : bit (t == made h + 1) ≡ 0 = ap bit f.0 in
        let zero' : times t (sessions h) ≡ 0 = tidy.fresh t (omega arith) in
        omega arith

    by : (b : Bool) (t : ℕ) → here (deeds h t) ≡ None → here (cond b (Made c k ∷ deeds h t) (deeds h t)) ≡ None
    by true t e = refl
    by false t e = e

pub made_once : (h : Past) (c : List ℕ) (k : Bool) → Tidy h → times (made h + 1) (sessions (OfSession (made h + 1) (Made c k) ∷ h)) ≡ 1
made_once h c k tidy =
    let more : times (made h + 1) (sessions h ++ (made h + 1) ∷ []) ≡ times (made h + 1) (sessions h) + bit (made h + 1 == made h + 1) = times_more (made h + 1) (sessions h) (made h + 1) in
    let none : times (made h + 1) (sessions h) ≡ 0 = tidy.fresh (made h + 1) (omega arith) in
    let one : bit (made h + 1 == made h + 1) ≡ 1 = ap bit (same (made h + 1)) in
    omega arith

pub joined_sum : (q : AppMessage → Bool) (h : Past) (s c a : ℕ) (w : Option AppMessage) → times s (sessions h) ≡ 1 → here (deeds h s) ≡ None
    → standing q (OfSession s (Joined c a w) ∷ h) ≡ standing q h + count q (option_list w)
joined_sum q h s c a w e free =
    let g : Past = OfSession s (Joined c a w) ∷ h in
    let at : standing q (OfSession s (Joined c a w) ∷ h) + now q h s ≡ standing q h + now q (OfSession s (Joined c a w) ∷ h) s =
    sum_at (now q h) (now q (OfSession s (Joined c a w) ∷ h)) s (off_at q h s (Joined c a w)) (sessions h) e in
    let none : now q h s ≡ 0 = ap (worth q) free in
    let new : now q (OfSession s (Joined c a w) ∷ h) s ≡ count q (option_list w) = ap (λ ds. worth q (here ds)) (deed_at h s (Joined c a w)) in
    omega arith

pub joined_tidy : (h : Past) (s c a : ℕ) (w : Option AppMessage) → times s (sessions h) ≡ 1 → Tidy h → Tidy (OfSession s (Joined c a w) ∷ h)
joined_tidy h s c a w one tidy = record { once = λ t. tidy.once t; fresh = λ t m. tidy.fresh t m; gone = λ t e. by t (eqb_tells s t) e }
  where
    by : (t : ℕ) → Told s t → times t (sessions h) ≡ 0 → here (deeds (OfSession s (Joined c a w) ∷ h) t) ≡ None
    by t (inl f) e = let is : times s (sessions h) ≡ 0 = ap (λ u. times u (sessions h)) f.1 ∙ e in absurd (omega arith)
    by t (inr f) e = ap here (deed_off h s (Joined c a w) t f.0) ∙ tidy.gone t e

-- ---- what one message does to one session

-- facts of one session, and the will that they free
pub record Grown (q : AppMessage → Bool) (K : ℕ → Joining → Type 0) (s : ℕ) (h g : Past) (freed : List AppMessage) : Type 0 where
  pub tidy : Tidy g
  pub old : Keeps K g
  pub sum_ : standing q h ≡ standing q g + count q freed
  pub routed_ : routed g ≡ routed h
  pub off : (t : ℕ) → (s == t) ≡ false → deeds g t ≡ deeds h t
  pub there : (t : ℕ) → (s == t) ≡ false → times t (sessions g) ≡ times t (sessions h)

pub nothing : (q : AppMessage → Bool) (K : ℕ → Joining → Type 0) (s : ℕ) (h : Past) → Tidy h → Keeps K h → Grown q K s h h []
nothing q K s h tidy old = record { tidy = tidy; old = old; sum_ = omega arith; routed_ = refl; off = λ t i. refl; there = λ t i. refl }

pub plain_grown : (q : AppMessage → Bool) (K : ℕ → Joining → Type 0) (s : ℕ) (d : Deed) (h : Past) → IsPlain d → Tidy h → Keeps K h → Grown q K s h (OfSession s d ∷ h) []
plain_grown q K s d h p tidy old = record {
  tidy = plain_tidy h s d p tidy;
  old = kept_fact K h s d (plain_quiet d p) old;
  sum_ = (let is = plain_sum q h s d p in omega arith);
  routed_ = refl;
  off = λ t i. deed_off h s d t i;
  there = λ t i. ap (times t) (same_sessions d p s (sessions h));
}

differ : (s t : ℕ) → (s == t) ≡ false → s ≢ t
differ s t i e = no (sym (ap (λ u. s == u) (sym e) ∙ same s) ∙ i)
  where
    no : true ≡ false → ⊥
    no e = cc

pub over_grown : (q : AppMessage → Bool) (K : ℕ → Joining → Type 0) (s : ℕ) (h : Past) → here (deeds h s) ≡ None → Tidy h → Keeps K h → Grown q K s h (OfSession s Over ∷ h) []
over_grown q K s h none tidy old = record {
  tidy = over_tidy h s none tidy;
  old = kept_fact K h s Over tt old;
  sum_ = (let is = over_sum q h s none in omega arith);
  routed_ = refl;
  off = λ t i. deed_off h s Over t i;
  there = λ t i. times_other t s (sessions h) (differ s t i);
}

pub left_grown : (q : AppMessage → Bool) (K : ℕ → Joining → Type 0) (s c : ℕ) (h : Past) → times s (sessions h) ≡ 1 → Tidy h → Keeps K h
    → Grown q K s h (OfSession s (Left c) ∷ h) (will_of true (here (deeds h s)))
left_grown q K s c h one tidy old = record {
  tidy = left_tidy h s c tidy;
  old = kept_fact K h s (Left c) tt old;
  sum_ = sym (left_sum q h s c one);
  routed_ = refl;
  off = λ t i. deed_off h s (Left c) t i;
  there = λ t i. refl;
}

-- one after another, where the second frees nothing
pub then : (q : AppMessage → Bool) (K : ℕ → Joining → Type 0) (s : ℕ) (h g f : Past) (freed : List AppMessage) → Grown q K s h g freed → Grown q K s g f [] → Grown q K s h f freed
then q K s h g f freed a b = record {
  tidy = b.tidy;
  old = b.old;
  sum_ = (let x = a.sum_ in let y = b.sum_ in omega arith);
  routed_ = b.routed_ ∙ a.routed_;
  off = λ t i. b.off t i ∙ a.off t i;
  there = λ t i. b.there t i ∙ a.there t i;
}

pub left_over : (q : AppMessage → Bool) (K : ℕ → Joining → Type 0) (s c : ℕ) (h : Past) → times s (sessions h) ≡ 1 → Tidy h → Keeps K h
    → Grown q K s h (OfSession s Over ∷ OfSession s (Left c) ∷ h) (will_of true (here (deeds h s)))
left_over q K s c h one tidy old =
    let a = left_grown q K s c h one tidy old in
    then q K s h (OfSession s (Left c) ∷ h) (OfSession s Over ∷ OfSession s (Left c) ∷ h) (will_of true (here (deeds h s))) a
    (over_grown q K s (OfSession s (Left c) ∷ h) (left_here h s c) a.tidy a.old)

pub given_grown : (qos : ℕ) (q : AppMessage → Bool) (K : ℕ → Joining → Type 0) (s : ℕ) (m : AppMessage) (past h : Past) → deeds h s ≡ deeds past s → times s (sessions h) ≡ 1 → Tidy h → Keeps K h
    → Grown q K s h (session_facts s (given_at qos past s m).deeds ++ h) (given_at qos past s m).wills
given_grown zero q K s m past h e one tidy old = nothing q K s h tidy old
given_grown (suc n) q K s m past h e one tidy old = by (has_room (used (deeds past s)))
  where
    end : (o : Option Joining) → here (deeds past s) ≡ o → Grown q K s h (session_facts s (ends_at o).deeds ++ h) (ends_at o).wills
    end None i = over_grown q K s h (ap here e ∙ i) tidy old
    end (Some j) i = subst (λ o. Grown q K s h (OfSession s Over ∷ OfSession s (Left j.conn) ∷ h) (will_of true o)) (ap here e ∙ i) (left_over q K s j.conn h one tidy old)

    by : (b : Bool) → Grown q K s h (session_facts s (cond b (numbers past s m (next_id (used (deeds past s)) (last_id (deeds past s)))) (ends_at (here (deeds past s)))).deeds ++ h)
        (cond b (numbers past s m (next_id (used (deeds past s)) (last_id (deeds past s)))) (ends_at (here (deeds past s)))).wills
    by true = plain_grown q K s (Numbered (next_id (used (deeds past s)) (last_id (deeds past s))) m (is_some (here (deeds past s)))) h tt tidy old
    by false = end (here (deeds past s)) refl

share_grown : (q : AppMessage → Bool) (K : ℕ → Joining → Type 0) (s : ℕ) (m : AppMessage) (past h : Past) → deeds h s ≡ deeds past s → times s (sessions h) ≡ 1 → Tidy h → Keeps K h
    → Grown q K s h (session_facts s (share past m s).deeds ++ h) (share past m s).wills
share_grown q K s m past h e one tidy old = by (level m.qos (best m.topic (grants (deeds past s))))
  where
    by : (o : Option ℕ) → Grown q K s h (session_facts s (share_at o past m s).deeds ++ h) (share_at o past m s).wills
    by None = nothing q K s h tidy old
    by (Some n) = given_grown n q K s (sent_as m n false) past h e one tidy old

-- ---- what one message does to all of them

abbrev pub all_facts : Past → AppMessage → List ℕ → Past
all_facts past m ss = flat_map (λ s. session_facts s (share past m s).deeds) ss

abbrev pub all_freed : Past → AppMessage → List ℕ → List AppMessage
all_freed past m ss = flat_map (λ s. (share past m s).wills) ss

pub record Round (q : AppMessage → Bool) (K : ℕ → Joining → Type 0) (ss : List ℕ) (h g : Past) (freed : List AppMessage) : Type 0 where
  pub tidy : Tidy g
  pub old : Keeps K g
  pub sum_ : standing q h ≡ standing q g + count q freed
  pub routed_ : routed g ≡ routed h
  pub off : (t : ℕ) → times t ss ≡ 0 → deeds g t ≡ deeds h t
  pub there : (t : ℕ) → times t ss ≡ 0 → times t (sessions g) ≡ times t (sessions h)

pub round : (q : AppMessage → Bool) (K : ℕ → Joining → Type 0) (m : AppMessage) (past : Past) (ss : List ℕ) → ((t : ℕ) → times t ss ≤ times t (sessions past)) → Tidy past → Keeps K past
    → Round q K ss past (all_facts past m ss ++ past) (all_freed past m ss)
round q K m past [] sub tidy old = record { tidy = tidy; old = old; sum_ = omega arith; routed_ = refl; off = λ t i. refl; there = λ t i. refl }
round q K m past (s ∷ ss) sub tidy old =
    let r = round q K m past ss (λ t. let le : bit (t == s) + times t ss ≤ times t (sessions past) = sub t in omega arith) tidy old in
    let le : bit (s == s) + times s ss ≤ times s (sessions past) = sub s in
    let on : bit (s == s) ≡ 1 = ap bit (same s) in
    let most : times s (sessions past) ≤ 1 = tidy.once s in
    let none : times s ss ≡ 0 = omega arith in
    let one : times s (sessions past) ≡ 1 = omega arith in
    let g = share_grown q K s m past (all_facts past m ss ++ past) (r.off s none) (r.there s none ∙ one) r.tidy r.old in
    subst (λ p. Round q K (s ∷ ss) past p (all_freed past m (s ∷ ss))) (sym (append_assoc (session_facts s (share past m s).deeds) (all_facts past m ss) past)) (record {
      tidy = g.tidy;
      old = g.old;
      sum_ = (let a = r.sum_ in let b = g.sum_ in let c = count_append q (share past m s).wills (all_freed past m ss) in omega arith);
      routed_ = g.routed_ ∙ r.routed_;
      off = λ t i. (let a = apart t (eqb_tells t s) i in g.off t a.0 ∙ r.off t a.1);
      there = λ t i. (let a = apart t (eqb_tells t s) i in g.there t a.0 ∙ r.there t a.1);
    })
  where
    apart : (t : ℕ) → Told t s → bit (t == s) + times t ss ≡ 0 → ((s == t) ≡ false) × (times t ss ≡ 0)
    apart t (inl f) i = let one : bit (t == s) ≡ 1 = ap bit f.0 in absurd (omega arith)
    apart t (inr f) i = (ne_eqb s t (λ e. f.1 (sym e)), omega arith)
