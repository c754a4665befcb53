-- The connections that are open, by the facts, are those that the tables know.
use Rattle.std.proofs.Common.{◌≡◌, ℕ, zero, suc, ◌+◌, ◌≤◌, Bool, true, false, not, ◌&&◌, ◌||◌, cond, eqb, ltb, leb, List, [], ◌∷◌, ◌++◌, map, length, refl, sym, ◌∙◌, ap, ap₂, arith, subst, Option, Some, None, ne_eqb, lt-ltb}
use Rattle.std.specs.List.{filter, find, fold, list_any, flat_map, AllByRecursion}
use Rattle.std.specs.Option.{option_map, option_map_or, is_some}
use Rattle.std.proofs.lemmas.List.{length-append, length-map}
use Rattle.spk_session.specs.PacketIds.{next_id}
use Rattle.spk_session.specs.Step.{without, has_room}
use Rattle.spk_broker_rules.specs.Data.{AppMessage, Newcomer, Session}
use Rattle.spk_broker_rules.specs.Lawful.{IsLow, IsLawful}
use Rattle.spk_broker_rules.specs.Words.{best, level, sent_as, option_list, granted_of, offers_to, most_open, last_number}
use Rattle.spk_broker_rules.specs.Plan.{Event, Act, Opens, At, Hear, Drop, Say, Leave, Tell, Queue, Route, Forget, Accept, Give, Take, Ack, before, plan}
use Rattle.spk_broker_rules.specs.Step.{act, is_newcomer, knows, is_full, after}
use Rattle.spk_broker_rules.specs.Past.{Past, OfConn, OfSession, Opened, Deed, Made, Joined, Left, Over, Granted, TakenBack, Numbered, Acked, Joining, deeds, clock, is_of, given, made, kept, here, grants, used, last_id, newcomers, sessions, open_conns, retained, conn_here, sits_at, session_at, is_open, may_open, seen_in, newcomer_of, connection_of, session_of, broker_of, other_pairs}
use Rattle.spk_broker_rules.specs.Story as story
use Rattle.spk_broker_rules.specs.Story.{Story, Share, note, session_facts, leaving, ends_at, numbers, given_at, gift, share_at, share, Routes, nothing_waits, goes_on, told_one, told_leave, told_forget, told_take_up, told_accept, told_offer_at, told_offer, told_give_with, told_give, told_take, told_ack, granting, taking_back, Tells, TellsAll}
use Rattle.spk_broker_rules.specs.Telling.{Leads, story_at}
use Rattle.spk_broker_rules.proofs.Lists.{eqb-flip, eqb-is, eqb-self, any-map, flat_map-same, flat_map-append, found-passes, all-also, all-map}
use Rattle.spk_broker_rules.proofs.Sessions.{deeds-self, deeds-other, session_by-same}
use Rattle.spk_broker_rules.proofs.Gifts.{AreCalm, calm-share}
use Rattle.spk_broker_rules.proofs.Rounds.{AreApart, apart-sessions, one-told, round, round-cons, round-out, round-sessions, over, over-out}
use Rattle.spk_broker_rules.proofs.Places.{lawful-act, lawful-one}
use Rattle.spk_broker_rules.proofs.Turns.{turn_of, all-below}
use Rattle.spk_broker_rules.proofs.AnyList.{tells-one, told, Told, LawfulTurn, tied}
use Rattle.spk_broker_rules.proofs.Counts.{count, count-append, count-above, any-count, Balanced, balanced-same, balanced-lost, balanced-left, balanced-moved, balanced-more, IsIn, sum-swap, sum-drop, apart-without, found-there}

-- the connections of sessions
abbrev pub conns : Past → ℕ → List ℕ
conns h s = option_list (conn_here h s)

abbrev pub IsOpen : Past → Type 0
IsOpen h = Balanced (open_conns h) (newcomers h) (flat_map (conns h) (sessions h))

pub record Fit (h : Past) : Type 0 where
  pub open_is : IsOpen h
  pub apart : AreApart (sessions h)

conn-self : (h : Past) (s : ℕ) (d : Deed) → conn_here (OfSession s d ∷ h) s ≡ option_map (λ (j : Joining). j.conn) (here (d ∷ deeds h s))
conn-self h s d = ap (λ ds. option_map (λ (j : Joining). j.conn) (here ds)) (deeds-self h s d)

conn-other : (h : Past) (s t : ℕ) (d : Deed) → eqb s t ≡ false → conns (OfSession s d ∷ h) t ≡ conns h t
conn-other h s t d e = ap (λ ds. option_list (option_map (λ (j : Joining). j.conn) (here ds))) (deeds-other h s t d e)

-- ---- facts that leave connections as they are

abbrev pub IsStill : Deed → Type 0
IsStill (Made client kept) = ⊥
IsStill (Joined conn alive will) = ⊥
IsStill (Left conn) = ⊥
IsStill Over = ⊥
IsStill (Granted filter qos) = Unit {0}
IsStill (TakenBack filter) = Unit {0}
IsStill (Numbered id app_message handed) = Unit {0}
IsStill (Acked id) = Unit {0}

still-here : (d : Deed) → IsStill d → (ds : List Deed) → here (d ∷ ds) ≡ here ds
still-here (Made client kept) e ds = absurd e
still-here (Joined conn alive will) e ds = absurd e
still-here (Left conn) e ds = absurd e
still-here Over e ds = absurd e
still-here (Granted filter qos) e ds = refl
still-here (TakenBack filter) e ds = refl
still-here (Numbered id app_message handed) e ds = refl
still-here (Acked id) e ds = refl

still-conns : (h : Past) (s : ℕ) (d : Deed) → IsStill d → (t : ℕ) → conns (OfSession s d ∷ h) t ≡ conns h t
still-conns h s d still t = ap (λ j. option_list (option_map (λ (i : Joining). i.conn) j)) (by (eqb s t))
  where
    by : (b : Bool) → here (cond b (d ∷ deeds h t) (deeds h t)) ≡ here (deeds h t)
    by true = still-here d still (deeds h t)
    by false = refl

same-conns : (h g : Past) → ((t : ℕ) → conns g t ≡ conns h t) → (ss : List ℕ) (O G : List ℕ) → Balanced O G (flat_map (conns h) ss) → Balanced O G (flat_map (conns g) ss)
same-conns h g same ss O G b = subst (Balanced O G) (sym (flat_map-same (conns g) (conns h) same ss)) b

pub still : (h : Past) (s : ℕ) (d : Deed) → IsStill d → Fit h → Fit (OfSession s d ∷ h)
still h s (Made client kept) e fit = absurd e
still h s (Joined conn alive will) e fit = absurd e
still h s (Left conn) e fit = absurd e
still h s Over e fit = absurd e
still h s (Granted filter qos) e fit = record { open_is = same-conns h (OfSession s (Granted filter qos) ∷ h) (still-conns h s (Granted filter qos) tt) (sessions h) (open_conns h) (newcomers h) fit.open_is; apart = fit.apart }
still h s (TakenBack filter) e fit = record { open_is = same-conns h (OfSession s (TakenBack filter) ∷ h) (still-conns h s (TakenBack filter) tt) (sessions h) (open_conns h) (newcomers h) fit.open_is; apart = fit.apart }
still h s (Numbered id app_message handed) e fit = record { open_is = same-conns h (OfSession s (Numbered id app_message handed) ∷ h) (still-conns h s (Numbered id app_message handed) tt) (sessions h) (open_conns h) (newcomers h) fit.open_is; apart = fit.apart }
still h s (Acked id) e fit = record { open_is = same-conns h (OfSession s (Acked id) ∷ h) (still-conns h s (Acked id) tt) (sessions h) (open_conns h) (newcomers h) fit.open_is; apart = fit.apart }

-- ---- a connection that goes

went : (h : Past) (s c : ℕ) → IsIn s (sessions h) → conn_here h s ≡ Some c → Fit h → Fit (OfSession s (Left c) ∷ h)
went h s c there is fit = record {
  open_is = balanced-lost c (open_conns h) (newcomers h) (flat_map (conns h) (sessions h)) (flat_map (conns g) (sessions h)) fit.open_is
      (λ d. let a = sum-swap (count d) (count-append d) (conns h) (conns g) s (λ t e. conn-other h s t (Left c) e) (sessions h) fit.apart there in
      let x : count d (conns h s) ≡ count d (c ∷ []) = ap (λ o. count d (option_list o)) is in
      let y : count d (conns g s) ≡ 0 = ap (λ o. count d (option_list o)) (conn-self h s (Left c)) in omega arith)
      (let a = sum-swap length length-append (conns h) (conns g) s (λ t e. conn-other h s t (Left c) e) (sessions h) fit.apart there in
      let x : length (conns h s) ≡ 1 = ap (λ o. length (option_list o)) is in
      let y : length (conns g s) ≡ 0 = ap (λ o. length (option_list o)) (conn-self h s (Left c)) in omega arith);
  apart = fit.apart;
}
  where
    g : Past
    g = OfSession s (Left c) ∷ h

ended-other : (h : Past) (s c t : ℕ) → eqb s t ≡ false → conns (OfSession s Over ∷ OfSession s (Left c) ∷ h) t ≡ conns h t
ended-other h s c t e = conn-other (OfSession s (Left c) ∷ h) s t Over e ∙ conn-other h s t (Left c) e

ended : (h : Past) (s c : ℕ) → IsIn s (sessions h) → conn_here h s ≡ Some c → Fit h → Fit (OfSession s Over ∷ OfSession s (Left c) ∷ h)
ended h s c there is fit = record {
  open_is = balanced-lost c (open_conns h) (newcomers h) (flat_map (conns h) (sessions h)) (flat_map (conns g) (without s (sessions h))) fit.open_is
      (λ d. let a = sum-drop (count d) (count-append d) (conns h) (conns g) s (ended-other h s c) (sessions h) fit.apart there in
      let x : count d (conns h s) ≡ count d (c ∷ []) = ap (λ o. count d (option_list o)) is in omega arith)
      (let a = sum-drop length length-append (conns h) (conns g) s (ended-other h s c) (sessions h) fit.apart there in
      let x : length (conns h s) ≡ 1 = ap (λ o. length (option_list o)) is in omega arith);
  apart = apart-without s (sessions h) fit.apart;
}
  where
    g : Past
    g = OfSession s Over ∷ OfSession s (Left c) ∷ h

ended_away : (h : Past) (s : ℕ) → IsIn s (sessions h) → conn_here h s ≡ None → Fit h → Fit (OfSession s Over ∷ h)
ended_away h s there is fit = record {
  open_is = balanced-same (open_conns h) (newcomers h) (flat_map (conns h) (sessions h)) (flat_map (conns g) (without s (sessions h))) fit.open_is
      (λ d. let a = sum-drop (count d) (count-append d) (conns h) (conns g) s (λ t e. conn-other h s t Over e) (sessions h) fit.apart there in
      let x : count d (conns h s) ≡ 0 = ap (λ o. count d (option_list o)) is in omega arith)
      (let a = sum-drop length length-append (conns h) (conns g) s (λ t e. conn-other h s t Over e) (sessions h) fit.apart there in
      let x : length (conns h s) ≡ 0 = ap (λ o. length (option_list o)) is in omega arith);
  apart = apart-without s (sessions h) fit.apart;
}
  where
    g : Past
    g = OfSession s Over ∷ h

-- ---- what one message does

data Fair (j : Option Joining) (ds : List Deed) : Type 0 where
  nothing : ds ≡ [] → Fair j ds
  numbering : (id : ℕ) (app_message : AppMessage) (handed : Bool) → ds ≡ Numbered id app_message handed ∷ [] → Fair j ds
  ending : ds ≡ (ends_at j).deeds → Fair j ds

fair-step : (g : Past) (s : ℕ) (ds : List Deed) → Fair (here (deeds g s)) ds → IsIn s (sessions g) → Fit g → Fit (session_facts s ds ++ g)
fair-step g s ds (nothing e) there fit = subst (λ x. Fit (session_facts s x ++ g)) (sym e) fit
fair-step g s ds (numbering id app_message handed e) there fit = subst (λ x. Fit (session_facts s x ++ g)) (sym e) (still g s (Numbered id app_message handed) tt fit)
fair-step g s ds (ending e) there fit = subst (λ x. Fit (session_facts s x ++ g)) (sym e) (by (here (deeds g s)) refl)
  where
    by : (j : Option Joining) → here (deeds g s) ≡ j → Fit (session_facts s (ends_at j).deeds ++ g)
    by None is = ended_away g s there (ap (option_map (λ (i : Joining). i.conn)) is) fit
    by (Some j) is = ended g s j.conn there (ap (option_map (λ (i : Joining). i.conn)) is) fit

fair-given : (q : ℕ) (h : Past) (s : ℕ) (app_message : AppMessage) → Fair (here (deeds h s)) (given_at q h s app_message).deeds
fair-given zero h s app_message = nothing refl
fair-given (suc q) h s app_message = by (has_room (used (deeds h s)))
  where
    by : (b : Bool) → Fair (here (deeds h s)) (cond b (numbers h s app_message (next_id (used (deeds h s)) (last_id (deeds h s)))) (ends_at (here (deeds h s)))).deeds
    by true = numbering (next_id (used (deeds h s)) (last_id (deeds h s))) app_message (is_some (here (deeds h s))) refl
    by false = ending refl

fair-share : (h : Past) (m : AppMessage) (s : ℕ) → Fair (here (deeds h s)) (share h m s).deeds
fair-share h m s = by (level m.qos (best m.topic (grants (deeds h s))))
  where
    by : (o : Option ℕ) → Fair (here (deeds h s)) (share_at o h m s).deeds
    by None = nothing refl
    by (Some q) = fair-given q h s (sent_as m q false)

in-filter : (p : ℕ → Bool) (s : ℕ) (ss : List ℕ) → p s ≡ true → IsIn s ss → IsIn s (filter p ss)
in-filter p s [] e there = there
in-filter p s (t ∷ ss) e there = by (eqb t s) refl (p t) refl there (in-filter p s ss e)
  where
    by : (a : Bool) → eqb t s ≡ a → (b : Bool) → p t ≡ b → (a || list_any (λ x. eqb x s) ss) ≡ true → (IsIn s ss → IsIn s (filter p ss))
        → list_any (λ x. eqb x s) (cond b (t ∷ filter p ss) (filter p ss)) ≡ true
    by true i true j h rest = ap (λ b. b || list_any (λ x. eqb x s) (filter p ss)) i
    by true i false j h rest = absurd (yes_no (sym e ∙ ap p (sym (eqb-is t s i)) ∙ j))
      where
        yes_no : true ≡ false → ⊥
        yes_no h = cc
    by false i true j h rest = ap (λ b. b || list_any (λ x. eqb x s) (filter p ss)) i ∙ rest h
    by false i false j h rest = rest h

all-in : (ss : List ℕ) → (rest : List ℕ) → AllByRecursion (λ s. IsIn s (rest ++ ss)) ss
all-in [] rest = tt
all-in (s ∷ ss) rest = (here_it rest, subst (λ xs. AllByRecursion (λ x. IsIn x xs) ss) (sym (again rest)) (all-in ss (rest ++ s ∷ [])))
  where
    here_it : (xs : List ℕ) → IsIn s (xs ++ s ∷ ss)
    here_it [] = ap (λ b. b || list_any (λ t. eqb t s) ss) (eqb-self s)
    here_it (x ∷ xs) = or_true (eqb x s) (list_any (λ t. eqb t s) (xs ++ s ∷ ss)) (here_it xs)
      where
        or_true : (a b : Bool) → b ≡ true → (a || b) ≡ true
        or_true true b e = refl
        or_true false b e = e

    again : (xs : List ℕ) → xs ++ s ∷ ss ≡ (xs ++ s ∷ []) ++ ss
    again [] = refl
    again (x ∷ xs) = ap (λ ys. x ∷ ys) (again xs)

module _ (D : ℕ → List Deed) (calm : (s : ℕ) → AreCalm (D s)) (h : Past) (fair : (s : ℕ) → Fair (here (deeds h s)) (D s)) where
  round-fit : Fit h → (xs : List ℕ) → AreApart xs → AllByRecursion (λ x. IsIn x (sessions h)) xs → Fit (round D calm h xs)
  round-fit fit [] apart there = fit
  round-fit fit (x ∷ xs) apart there =
      subst Fit (sym (round-cons D calm h x xs))
      (fair-step (round D calm h xs) x (D x)
      (subst (λ ds. Fair (here ds) (D x)) (sym (round-out D calm h xs x (all-also (λ y. eqb x y ≡ false) (λ y. eqb y x ≡ false) (λ y e. eqb-flip y x ∙ e) xs apart.0))) (fair x))
      (subst (IsIn x) (sym (round-sessions D calm h xs)) (in-filter (λ t. not (over D calm h xs t)) x (sessions h) (ap not (over-out D calm h xs x apart.0)) there.0))
      (round-fit fit xs apart.1 there.1))

fit-of : (limit : ℕ) (h : Past) → IsLawful (broker_of limit h) → IsOpen h → Fit h
fit-of limit h lawful o = record { open_is = o; apart = apart-sessions 0 (made h) h (sessions h) lawful.keys }

one-open : (limit : ℕ) (m : AppMessage) (t : Story) → IsLawful (broker_of limit t.past) → IsOpen t.past → IsOpen (told_one m t).past
one-open limit m t lawful o =
    (round-fit (λ s. (share t.past m s).deeds) (λ s. calm-share t.past m s) t.past (fair-share t.past m) fit (sessions t.past) fit.apart (all-in (sessions t.past) [])).open_is
  where
    fit : Fit t.past
    fit = fit-of limit t.past lawful o

-- ---- routing

routes-open : (limit : ℕ) (t u : Story) → Routes t u → IsLawful (broker_of limit t.past) → IsOpen t.past → IsOpen u.past
routes-open limit t u (nothing_waits _ _ a e) lawful o = subst (λ (x : Story). IsOpen x.past) e o
routes-open limit t u (goes_on _ _ m ms a r) lawful o =
    routes-open limit (told_one m (record t { waiting = ms })) u r
    (subst LawfulTurn (sym (one-told limit m (record t { waiting = ms }) lawful)) (lawful-one m (turn_of limit (record t { waiting = ms })) lawful))
    (one-open limit m (record t { waiting = ms }) lawful o)

-- ---- SUBSCRIBE and UNSUBSCRIBE

granted-fit : (es : List (List ℕ × ℕ)) (s : ℕ) (h : Past) → Fit h → Fit (fold (granting s) h es)
granted-fit [] s h fit = fit
granted-fit (e ∷ es) s h fit = granted-fit es s (granting s h e) (still h s (Granted e.0 e.1) tt fit)

taken-fit : (fs : List (List ℕ)) (s : ℕ) (h : Past) → Fit h → Fit (fold (taking_back s) h fs)
taken-fit [] s h fit = fit
taken-fit (f ∷ fs) s h fit = taken-fit fs s (taking_back s h f) (still h s (TakenBack f) tt fit)

offered-fit_at : (s : ℕ) (app_message : AppMessage) (t : Story) (o : Option ℕ) → find (λ x. eqb x s) (sessions t.past) ≡ o → Fit t.past → Fit (told_offer_at (is_some o) s app_message t).past
offered-fit_at s app_message t None is fit = fit
offered-fit_at s app_message t (Some x) is fit =
    let same : x ≡ s = eqb-is x s (found-passes (λ y. eqb y s) (sessions t.past) x is) in
    fair-step t.past s (gift t.past s app_message).deeds (fair-given app_message.qos t.past s app_message)
    (subst (λ y. IsIn y (sessions t.past)) same (found-there (λ y. eqb y s) (sessions t.past) x is)) fit

offers-fit : (s : ℕ) (app_messages : List AppMessage) (t : Story) → Fit t.past → Fit (fold (told_offer s) t app_messages).past
offers-fit s [] t fit = fit
offers-fit s (p ∷ ps) t fit = offers-fit s ps (told_offer s t p) (offered-fit_at s p t (find (λ x. eqb x s) (sessions t.past)) refl fit)

gave-fit : (o : Option ℕ) (c id : ℕ) (entries : List (List ℕ × ℕ)) (t : Story) → Fit t.past → Fit (told_give o c id entries t).past
gave-fit None c id entries t fit = fit
gave-fit (Some s) c id entries t fit =
    offers-fit s (flat_map (offers_to (retained t.past)) (granted_of (other_pairs t.past s) (grants (deeds t.past s)) entries)) _
    (granted-fit (granted_of (other_pairs t.past s) (grants (deeds t.past s)) entries) s t.past fit)

-- ---- coming and going

-- the connection of a session that is found for it
connection-found : (h : Past) (c s : ℕ) → session_at h c ≡ Some s → conn_here h s ≡ Some c
connection-found h c s is = by (here (deeds h s)) (found-passes (sits_at h c) (sessions h) s is)
  where
    by : (j : Option Joining) → option_map_or (λ (i : Joining). eqb i.conn c) j false ≡ true → option_map (λ (i : Joining). i.conn) j ≡ Some c
    by None e = absurd (no e)
      where
        no : false ≡ true → ⊥
        no e = cc
    by (Some j) e = ap Some (eqb-is j.conn c e)

-- no session has a connection that isn't found
none-count : (h : Past) (c : ℕ) (ss : List ℕ) → find (sits_at h c) ss ≡ None → count c (flat_map (conns h) ss) ≡ 0
none-count h c [] e = refl
none-count h c (s ∷ ss) e = by (here (deeds h s)) e (none-count h c ss)
  where
    hit : (a b : ℕ) (x : Bool) → eqb a b ≡ x → cond x (Some s) (find (sits_at h c) ss) ≡ None → (eqb a b ≡ false) × (find (sits_at h c) ss ≡ None)
    hit a b true is f = absurd (some f)
      where
        some : Some s ≡ None → ⊥
        some f = cc
    hit a b false is f = (is, f)

    by : (j : Option Joining) → cond (option_map_or (λ (i : Joining). eqb i.conn c) j false) (Some s) (find (sits_at h c) ss) ≡ None
        → (find (sits_at h c) ss ≡ None → count c (flat_map (conns h) ss) ≡ 0)
        → count c (option_list (option_map (λ (i : Joining). i.conn) j) ++ flat_map (conns h) ss) ≡ 0
    by None f rest = rest f
    by (Some j) f rest =
        let both : (eqb j.conn c ≡ false) × (find (sits_at h c) ss ≡ None) = hit j.conn c (eqb j.conn c) refl f in
        let a : count c (j.conn ∷ []) ≡ 0 = ap (λ b. cond b 1 0 + 0) both.0 in
        let b = count-append c (j.conn ∷ []) (flat_map (conns h) ss) in
        let d = rest both.1 in omega arith

left-open : (o : Option ℕ) (c : ℕ) (wills : Bool) (t : Story) → session_at t.past c ≡ o → Fit t.past → IsOpen (told_leave o c wills t).past
left-open None c wills t is fit = balanced-left c (open_conns t.past) (newcomers t.past) (flat_map (conns t.past) (sessions t.past)) fit.open_is (none-count t.past c (sessions t.past) is)
left-open (Some s) c wills t is fit = by (kept (deeds t.past s))
  where
    by : (k : Bool) → IsOpen (session_facts s (leaving k c) ++ t.past)
    by true = (went t.past s c (found-there (sits_at t.past c) (sessions t.past) s is) (connection-found t.past c s is) fit).open_is
    by false = (ended t.past s c (found-there (sits_at t.past c) (sessions t.past) s is) (connection-found t.past c s is) fit).open_is

away-none : (h : Past) (name : List ℕ) (s : ℕ) → story.is_away h name s ≡ true → conn_here h s ≡ None
away-none h name s e = by (kept (deeds h s)) (here (deeds h s)) (is_of h name s) e
  where
    by : (k : Bool) (j : Option Joining) (b : Bool) → (k && (not (is_some j) && b)) ≡ true → option_map (λ (i : Joining). i.conn) j ≡ None
    by true None b e = refl
    by true (Some j) b e = absurd (no e)
      where
        no : false ≡ true → ⊥
        no e = cc
    by false j b e = absurd (no e)
      where
        no : false ≡ true → ⊥
        no e = cc

forgot-open : (o : Option ℕ) (name : List ℕ) (t : Story) → find (story.is_away t.past name) (sessions t.past) ≡ o → Fit t.past → IsOpen (told_forget o t).past
forgot-open None name t is fit = fit.open_is
forgot-open (Some s) name t is fit =
    (ended_away t.past s (found-there (story.is_away t.past name) (sessions t.past) s is) (away-none t.past name s (found-passes (story.is_away t.past name) (sessions t.past) s is)) fit).open_is

there-count : (c : ℕ) (cs : List ℕ) → IsIn c cs → 1 ≤ count c cs
there-count c cs there = by (count c cs) (sym (any-count c cs) ∙ there)
  where
    by : (n : ℕ) → ltb 0 n ≡ true → 1 ≤ n
    by zero e = absurd (no e)
      where
        no : false ≡ true → ⊥
        no e = cc
    by (suc n) e = omega arith

-- a session that is made
fresh-conns : (h : Past) (c n alive : ℕ) (name : List ℕ) (keeps : Bool) (will : Option AppMessage) (t : ℕ) → t ≤ n
    → conns (OfSession (n + 1) (Joined c alive will) ∷ OfSession (n + 1) (Made name keeps) ∷ h) t ≡ conns h t
fresh-conns h c n alive name keeps will t low =
    conn-other (OfSession (n + 1) (Made name keeps) ∷ h) (n + 1) t (Joined c alive will) (ne_eqb (n + 1) t (λ e. omega arith))
    ∙ conn-other h (n + 1) t (Made name keeps) (ne_eqb (n + 1) t (λ e. omega arith))

flat-same_in : (f g : ℕ → List ℕ) (ss : List ℕ) → AllByRecursion (λ s. g s ≡ f s) ss → flat_map g ss ≡ flat_map f ss
flat-same_in f g [] h = refl
flat-same_in f g (s ∷ ss) h = ap₂ (λ xs ys. xs ++ ys) h.0 (flat-same_in f g ss h.1)

made-open : (limit c : ℕ) (name : List ℕ) (keeps : Bool) (alive : ℕ) (will : Option AppMessage) (t : Story) → IsLawful (broker_of limit t.past) → IsIn c (newcomers t.past) → Fit t.past
    → IsOpen (told_take_up None c name keeps alive will t).past
made-open limit c name keeps alive will t lawful newcomer fit =
    balanced-moved c (open_conns h) (newcomers h) (flat_map (conns h) (sessions h)) (flat_map (conns g) (sessions h ++ n ∷ [])) fit.open_is (there-count c (newcomers h) newcomer)
    (λ d. ap (count d) all ∙ count-append d (flat_map (conns h) (sessions h)) (c ∷ []))
    (ap length all ∙ length-append (flat_map (conns h) (sessions h)) (c ∷ []))
  where
    h : Past
    h = t.past

    n : ℕ
    n = made t.past + 1

    g : Past
    g = OfSession (made t.past + 1) (Joined c alive will) ∷ OfSession (made t.past + 1) (Made name keeps) ∷ t.past

    older : flat_map (conns g) (sessions t.past) ≡ flat_map (conns t.past) (sessions t.past)
    older = flat-same_in (conns t.past) (conns g) (sessions t.past)
        (all-also (λ s. s ≤ made t.past) (λ s. conns g s ≡ conns t.past s) (λ s low. fresh-conns t.past c (made t.past) alive name keeps will s low) (sessions t.past)
        (all-map (λ (x : Session). x.key ≤ made t.past) (session_of t.past) (sessions t.past) (all-below 0 (made t.past) (broker_of limit t.past).sessions lawful.keys)))

    all : flat_map (conns g) (sessions t.past ++ (made t.past + 1) ∷ []) ≡ flat_map (conns t.past) (sessions t.past) ++ c ∷ []
    all = flat_map-append (conns g) (sessions t.past) ((made t.past + 1) ∷ [])
        ∙ ap₂ (λ xs o. xs ++ (option_list o ++ [])) older (conn-self (OfSession (made t.past + 1) (Made name keeps) ∷ t.past) (made t.past + 1) (Joined c alive will))

taken_up-open : (limit c : ℕ) (name : List ℕ) (keeps : Bool) (alive : ℕ) (will : Option AppMessage) (t : Story) (o : Option ℕ) → IsLawful (broker_of limit t.past) → IsIn c (newcomers t.past) → Fit t.past
    → story.away_for t.past keeps name ≡ o → IsOpen (told_take_up o c name keeps alive will t).past
taken_up-open limit c name keeps alive will t None lawful newcomer fit is = made-open limit c name keeps alive will t lawful newcomer fit
taken_up-open limit c name keeps alive will t (Some s) lawful newcomer fit is =
    balanced-moved c (open_conns h) (newcomers h) (flat_map (conns h) (sessions h)) (flat_map (conns g) (sessions h)) fit.open_is (there-count c (newcomers h) newcomer)
    (λ d. let a = sum-swap (count d) (count-append d) (conns h) (conns g) s (λ x e. conn-other h s x (Joined c alive will) e) (sessions h) fit.apart there in
    let x : count d (conns h s) ≡ 0 = ap (λ q. count d (option_list q)) none in
    let y : count d (conns g s) ≡ count d (c ∷ []) = ap (λ q. count d (option_list q)) (conn-self h s (Joined c alive will)) in omega arith)
    (let a = sum-swap length length-append (conns h) (conns g) s (λ x e. conn-other h s x (Joined c alive will) e) (sessions h) fit.apart there in
    let x : length (conns h s) ≡ 0 = ap (λ q. length (option_list q)) none in
    let y : length (conns g s) ≡ 1 = ap (λ q. length (option_list q)) (conn-self h s (Joined c alive will)) in omega arith)
  where
    h : Past
    h = t.past

    g : Past
    g = OfSession s (Joined c alive will) ∷ t.past

    found : (k : Bool) → cond k (find (story.is_away t.past name) (sessions t.past)) None ≡ Some s → find (story.is_away t.past name) (sessions t.past) ≡ Some s
    found true e = e
    found false e = absurd (no e)
      where
        no : None ≡ Some s → ⊥
        no e = cc

    there : IsIn s (sessions t.past)
    there = found-there (story.is_away t.past name) (sessions t.past) s (found keeps is)

    none : conn_here t.past s ≡ None
    none = away-none t.past name s (found-passes (story.is_away t.past name) (sessions t.past) s (found keeps is))

accepted-open : (limit c : ℕ) (o : Option ℕ) (name : List ℕ) (keeps : Bool) (alive : ℕ) (will : Option AppMessage) (t : Story) → IsLawful (broker_of limit t.past) → Fit t.past
    → find (λ g. eqb g c) (newcomers t.past) ≡ o → IsOpen (told_accept o name keeps alive will t).past
accepted-open limit c None name keeps alive will t lawful fit is = fit.open_is
accepted-open limit c (Some d) name keeps alive will t lawful fit is =
    taken_up-open limit d name keeps alive will t (story.away_for t.past keeps name) lawful (found-there (λ g. eqb g c) (newcomers t.past) d is) fit refl

opened-open : (limit : ℕ) (h : Past) → IsLawful (broker_of limit h) → IsOpen h → IsOpen (OfConn (given h + 1) (Opened (clock h)) ∷ h)
opened-open limit h lawful o = balanced-more (given h + 1) (open_conns h) (newcomers h) (flat_map (conns h) (sessions h)) o
    (let a : count (given h + 1) (newcomers h) ≡ 0 = count-above (given h) (newcomers h) (all-map (λ (x : Newcomer). x.conn ≤ given h) (newcomer_of h) (newcomers h) lawful.newcomers) in
    let b : count (given h + 1) (flat_map (conns h) (sessions h)) ≡ 0 = count-above (given h) (flat_map (conns h) (sessions h)) (low (sessions h) (all-map (λ (x : Session). IsLow (given h) x.here) (session_of h) (sessions h) lawful.connections)) in
    let e = o.each (given h + 1) in omega arith)
  where
    low : (ss : List ℕ) → AllByRecursion (λ s. IsLow (given h) (session_of h s).here) ss → AllByRecursion (λ c. c ≤ given h) (flat_map (conns h) ss)
    low [] e = tt
    low (s ∷ ss) e = by (here (deeds h s)) e.0 (low ss e.1)
      where
        by : (j : Option Joining) → IsLow (given h) (option_map (connection_of h) j) → AllByRecursion (λ c. c ≤ given h) (flat_map (conns h) ss)
            → AllByRecursion (λ c. c ≤ given h) (option_list (option_map (λ (i : Joining). i.conn) j) ++ flat_map (conns h) ss)
        by None x rest = rest
        by (Some j) x rest = (x, rest)

-- ---- an act, an event, a list of events

open-act : (limit : ℕ) (a : Act) (t u : Story) → Tells a t u → IsLawful (broker_of limit t.past) → IsOpen t.past → IsOpen u.past
open-act limit Opens t u e l o = subst (λ (x : Story). IsOpen x.past) (sym e) (opened-open limit t.past l o)
open-act limit (At moment) t u e l o = subst (λ (x : Story). IsOpen x.past) (sym e) o
open-act limit (Hear c) t u e l o = subst (λ (x : Story). IsOpen x.past) (sym e) o
open-act limit (Drop c) t u e l o = subst (λ (x : Story). IsOpen x.past) (sym e) o
open-act limit (Say c m) t u e l o = subst (λ (x : Story). IsOpen x.past) (sym e) o
open-act limit (Leave c wills) t u e l o = subst (λ (x : Story). IsOpen x.past) (sym e) (left-open (session_at t.past c) c wills t refl (fit-of limit t.past l o))
open-act limit (Tell c) t u e l o = subst (λ (x : Story). IsOpen x.past) (sym e) o
open-act limit (Queue app_message) t u e l o = subst (λ (x : Story). IsOpen x.past) (sym e) o
open-act limit Route t u e l o = routes-open limit t u e l o
open-act limit (Forget name) t u e l o = subst (λ (x : Story). IsOpen x.past) (sym e) (forgot-open (find (story.is_away t.past name) (sessions t.past)) name t refl (fit-of limit t.past l o))
open-act limit (Accept c name keeps alive will) t u e l o =
    subst (λ (x : Story). IsOpen x.past) (sym e) (accepted-open limit c (find (λ g. eqb g c) (newcomers t.past)) name keeps alive will t l (fit-of limit t.past l o) refl)
open-act limit (Give c id entries) t u e l o = subst (λ (x : Story). IsOpen x.past) (sym e) (gave-fit (session_at t.past c) c id entries t (fit-of limit t.past l o)).open_is
open-act limit (Take c filters) t u e l o = subst (λ (x : Story). IsOpen x.past) (sym e) (took-open (session_at t.past c))
  where
    took-open : (s : Option ℕ) → IsOpen (told_take s filters t).past
    took-open None = o
    took-open (Some s) = (taken-fit filters s t.past (fit-of limit t.past l o)).open_is
open-act limit (Ack c id) t u e l o = subst (λ (x : Story). IsOpen x.past) (sym e) (acked-open (session_at t.past c))
  where
    acked-open : (s : Option ℕ) → IsOpen (told_ack s id t).past
    acked-open None = o
    acked-open (Some s) = (still t.past s (Acked id) tt (fit-of limit t.past l o)).open_is

lawful-told : (limit : ℕ) (a : Act) (t u : Story) → Tells a t u → IsLawful (broker_of limit t.past) → IsLawful (broker_of limit u.past)
lawful-told limit a t u e l =
    let x : Told limit a t (act a (turn_of limit t)) = told limit a t l in
    subst LawfulTurn (sym (ap (turn_of limit) (tells-one a t u x.end e x.tells) ∙ x.is)) (lawful-act a (turn_of limit t) l)

pub record StaysFit (limit : ℕ) (u : Story) : Type 0 where
  pub lawful : IsLawful (broker_of limit u.past)
  pub open_is : IsOpen u.past

open-acts : (limit : ℕ) (as_list : List Act) (t u : Story) → TellsAll as_list t u → IsLawful (broker_of limit t.past) → IsOpen t.past → StaysFit limit u
open-acts limit [] t u e l o = subst (StaysFit limit) e (record { lawful = l; open_is = o })
open-acts limit (a ∷ as_list) t u (v, e, es) l o = open-acts limit as_list v u es (lawful-told limit a t v e l) (open-act limit a t v e l o)

pub open-after : (limit : ℕ) (es : List Event) (h : Past) → Leads limit es h → IsOpen h
open-after limit [] h is = subst IsOpen (sym is) (record { each = λ d. refl; few = λ d. omega arith; size = refl })
open-after limit (e ∷ es) h (g, leads, may, t, is) =
    let noted : StaysFit limit t.first = open-acts limit (before e) (story_at g) t.first t.noted (tied limit es g leads).lawful (open-after limit es g leads) in
    let done : StaysFit limit t.end = open-acts limit (plan (seen_in limit t.first.past e) e) t.first t.end t.done noted.lawful noted.open_is in
    subst IsOpen is done.open_is

-- ---- what the tables know

found-count : (h : Past) (c : ℕ) (ss : List ℕ) → is_some (find (sits_at h c) ss) ≡ ltb 0 (count c (flat_map (conns h) ss))
found-count h c [] = refl
found-count h c (s ∷ ss) = by (here (deeds h s)) (found-count h c ss)
  where
    hit : (x : Bool) → is_some (find (sits_at h c) ss) ≡ ltb 0 (count c (flat_map (conns h) ss))
        → is_some (cond x (Some s) (find (sits_at h c) ss)) ≡ ltb 0 (cond x 1 0 + count c (flat_map (conns h) ss))
    hit true rest = sym (lt-ltb 0 (1 + count c (flat_map (conns h) ss)) (omega arith))
    hit false rest = rest ∙ ap (ltb 0) (omega arith)

    by : (j : Option Joining) → is_some (find (sits_at h c) ss) ≡ ltb 0 (count c (flat_map (conns h) ss))
        → is_some (cond (option_map_or (λ (i : Joining). eqb i.conn c) j false) (Some s) (find (sits_at h c) ss))
        ≡ ltb 0 (count c (option_list (option_map (λ (i : Joining). i.conn) j) ++ flat_map (conns h) ss))
    by None rest = rest
    by (Some j) rest = hit (eqb j.conn c) rest

either : (a b : ℕ) → (ltb 0 a || ltb 0 b) ≡ ltb 0 (a + b)
either zero b = ap (ltb 0) (omega arith)
either (suc a) b = ap (λ x. x || ltb 0 b) (lt-ltb 0 (suc a) (omega arith)) ∙ sym (lt-ltb 0 (suc a + b) (omega arith))

pub known-same : (limit : ℕ) (h : Past) (c : ℕ) → IsOpen h → is_open h c ≡ knows (broker_of limit h) c
known-same limit h c o = any-count c (open_conns h) ∙ ap (ltb 0) (o.each c) ∙ sym (either (count c (newcomers h)) (count c (flat_map (conns h) (sessions h))))
    ∙ ap₂ (λ a b. a || b) (sym (any-map (newcomer_of h) (is_newcomer c) (λ g. eqb g c) (λ g. refl) (newcomers h) ∙ any-count c (newcomers h)))
    (sym (ap is_some (session_by-same h c) ∙ some (session_at h c) ∙ found-count h c (sessions h)))
  where
    some : (x : Option ℕ) → is_some (option_map (session_of h) x) ≡ is_some x
    some None = refl
    some (Some s) = refl

connections-count : (h : Past) (ss : List ℕ) → length (filter (λ (s : Session). is_some s.here) (map (session_of h) ss)) ≡ length (flat_map (conns h) ss)
connections-count h [] = refl
connections-count h (s ∷ ss) = by (here (deeds h s)) (connections-count h ss)
  where
    by : (j : Option Joining) → length (filter (λ (x : Session). is_some x.here) (map (session_of h) ss)) ≡ length (flat_map (conns h) ss)
        → length (cond (is_some (option_map (connection_of h) j)) (session_of h s ∷ filter (λ (x : Session). is_some x.here) (map (session_of h) ss)) (filter (λ (x : Session). is_some x.here) (map (session_of h) ss)))
        ≡ length (option_list (option_map (λ (i : Joining). i.conn) j) ++ flat_map (conns h) ss)
    by None rest = rest
    by (Some j) rest = ap suc rest

pub full-same : (limit : ℕ) (h : Past) → IsOpen h → may_open h ≡ not (is_full (broker_of limit h))
full-same limit h o = ap (λ n. not (leb most_open n || leb last_number (given h)))
    (o.size ∙ ap₂ (λ a b. a + b) (sym (length-map (newcomers h) (newcomer_of h))) (sym (connections-count h (sessions h))))

pub known-after : (limit : ℕ) (es : List Event) (h : Past) (c : ℕ) → Leads limit es h → knows (after limit es) c ≡ is_open h c
known-after limit es h c leads = ap (λ b. knows b c) (tied limit es h leads).data_is ∙ sym (known-same limit h c (open-after limit es h leads))

pub full-after : (limit : ℕ) (es : List Event) (h : Past) → Leads limit es h → is_full (after limit es) ≡ not (may_open h)
full-after limit es h leads = ap is_full (tied limit es h leads).data_is ∙ sym (ap not (full-same limit h (open-after limit es h leads)) ∙ twice (is_full (broker_of limit h)))
  where
    twice : (b : Bool) → not (not b) ≡ b
    twice true = refl
    twice false = refl
