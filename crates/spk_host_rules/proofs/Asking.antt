-- A rebirth is asked for exactly at a cause that is due.
use Rattle.std.proofs.Common.{◌≡◌, ◌↔◌, ◌⊎◌, ◌≤◌, ◌-◌, ℕ, Bool, true, false, ◌&&◌, ◌||◌, cond, List, [], ◌∷◌, ◌++◌, refl, sym, ◌∙◌, ap, subst, inl, inr, Option, Some, None, true≢false}
use Rattle.std.specs.Prelude.{nat_le}
use Rattle.std.specs.List.{list_any}
use Rattle.std.specs.Option.{option_map}
use Rattle.std.proofs.lemmas.Bool.{leb-true, le-leb}
use Rattle.spk_host_rules.specs.Data.{Event, Watch}
use Rattle.spk_host_rules.specs.Step.{after, asked_at, is_cause, is_birth, moment_of, may_ask}
use Rattle.spk_host_rules.specs.Asking.{NoneAsked, IsDue, IsAsked}

-- ---- the last event at which a rebirth was asked for, and the events since

record Request : Type 0 where
  at : Event
  since : List Event

abbrev with : Event → Request → Request
with e q = record q { since = e ∷ q.since }

abbrev last_request : ℕ → List Event → Option Request
last_request wait [] = None
last_request wait (e ∷ before) = cond (asked_at wait before e) (Some (record { at = e; since = [] })) (option_map (with e) (last_request wait before))

-- ---- what the host keeps is what it says

abbrev Keeps : Option ℕ → Bool → Option Request → Type 0
Keeps moment born None = moment ≡ None
Keeps moment born (Some q) = (moment ≡ Some (moment_of q.at)) × (born ≡ list_any is_birth q.since)

keeps-more : (b : Bool) (e : Event) (moment : Option ℕ) (born : Bool) (q : Option Request) → Keeps moment born q
    → Keeps (cond b (Some (moment_of e)) moment) (cond b false (is_birth e || born)) (cond b (Some (record { at = e; since = [] })) (option_map (with e) q))
keeps-more true e moment born q h = (refl, refl)
keeps-more false e moment born None h = h
keeps-more false e moment born (Some q) h = (h.0, ap (λ x. is_birth e || x) h.1)

kept : (wait : ℕ) (before : List Event) → Keeps (after wait before).asked (after wait before).born_since (last_request wait before)
kept wait [] = refl
kept wait (e ∷ before) =
    keeps-more (asked_at wait before e) e (after wait before).asked (after wait before).born_since (last_request wait before) (kept wait before)

-- ---- and it is where the list was parted

parted : (wait : ℕ) (newer older : List Event) (e : Event) → asked_at wait older e ≡ true → NoneAsked wait newer (e ∷ older)
    → last_request wait (newer ++ (e ∷ older)) ≡ Some (record { at = e; since = newer })
parted wait [] older e asked none = ap (λ b. cond b (Some (record { at = e; since = [] })) (option_map (with e) (last_request wait older))) asked
parted wait (n ∷ newer) older e asked none =
    ap (λ b. cond b (Some (record { at = n; since = [] })) (option_map (with n) (last_request wait (newer ++ (e ∷ older))))) none.0
    ∙ ap (option_map (with n)) (parted wait newer older e asked none.1)

-- a list with a request is parted at it
record IsParted (wait : ℕ) (before : List Event) (q : Request) : Type 0 where
  older : List Event
  is : before ≡ q.since ++ (q.at ∷ older)
  asked : asked_at wait older q.at ≡ true
  none : NoneAsked wait q.since (q.at ∷ older)

abbrev IsPartedIn : ℕ → List Event → Option Request → Type 0
IsPartedIn wait before None = Unit {0}
IsPartedIn wait before (Some q) = IsParted wait before q

parts : (wait : ℕ) (before : List Event) → IsPartedIn wait before (last_request wait before)
parts wait [] = tt
parts wait (e ∷ before) = by (asked_at wait before e) refl (last_request wait before) (parts wait before)
  where
    by : (b : Bool) → asked_at wait before e ≡ b → (q : Option Request) → IsPartedIn wait before q
        → IsPartedIn wait (e ∷ before) (cond b (Some (record { at = e; since = [] })) (option_map (with e) q))
    by true is q h = record { older = before; is = refl; asked = is; none = tt }
    by false is None h = tt
    by false is (Some q) h = record {
      older = h.older;
      is = ap (λ es. e ∷ es) h.is;
      asked = h.asked;
      none = (sym (ap (λ es. asked_at wait es e) h.is) ∙ is, h.none);
    }

-- ---- so what may be asked is what is due

abbrev Due : ℕ → ℕ → Option Request → Type 0
Due wait now None = Unit {0}
Due wait now (Some q) = (list_any is_birth q.since ≡ true) ⊎ (wait ≤ now - moment_of q.at)

either : (a b : Bool) → (a || b) ≡ true → (a ≡ true) ⊎ (b ≡ true)
either true b h = inl refl
either false b h = inr h

second : (a : Bool) → (a || true) ≡ true
second true = refl
second false = refl

due-of : (wait now : ℕ) (moment : Option ℕ) (born : Bool) (q : Option Request) → Keeps moment born q → may_ask wait now moment born ≡ true → Due wait now q
due-of wait now moment born None k h = tt
due-of wait now moment born (Some q) k h =
    elim (either (list_any is_birth q.since) (nat_le wait (now - moment_of q.at)) (sym (ap (may_ask wait now (Some (moment_of q.at))) k.1) ∙ sym (ap (λ m. may_ask wait now m born) k.0) ∙ h)) [
      | inl taken ↦ inl taken
      | inr past ↦ inr (leb-true wait (now - moment_of q.at) past)
    ]

may-of : (wait now : ℕ) (moment : Option ℕ) (born : Bool) (q : Option Request) → Keeps moment born q → Due wait now q → may_ask wait now moment born ≡ true
may-of wait now moment born None k d = ap (λ m. may_ask wait now m born) k
may-of wait now moment born (Some q) k d =
    ap (λ m. may_ask wait now m born) k.0 ∙ ap (may_ask wait now (Some (moment_of q.at))) k.1
    ∙ elim d [
      | inl taken ↦ ap (λ b. b || nat_le wait (now - moment_of q.at)) taken
      | inr past ↦ ap (λ b. list_any is_birth q.since || b) (le-leb wait (now - moment_of q.at) past) ∙ second (list_any is_birth q.since)
    ]

-- by every parting of the list, and by the last request
due-each : (wait now : ℕ) (before : List Event) → Due wait now (last_request wait before) → IsDue wait now before
due-each wait now before d newer older e is asked none = by (last_request wait before) (ap (last_request wait) is ∙ parted wait newer older e asked none) d
  where
    by : (q : Option Request) → q ≡ Some (record { at = e; since = newer }) → Due wait now q → (list_any is_birth newer ≡ true) ⊎ (wait ≤ now - moment_of e)
    by q same h = subst (Due wait now) same h

due-last : (wait now : ℕ) (before : List Event) → IsDue wait now before → Due wait now (last_request wait before)
due-last wait now before d = by (last_request wait before) (parts wait before)
  where
    by : (q : Option Request) → IsPartedIn wait before q → Due wait now q
    by None h = tt
    by (Some q) h = d q.since h.older q.at h.is h.asked h.none

-- ---- the law

both : (a b : Bool) → (a && b) ≡ true → (a ≡ true) × (b ≡ true)
both true b h = (refl, h)
both false b h = absurd (true≢false (sym h))

joined : (a b : Bool) → a ≡ true → b ≡ true → (a && b) ≡ true
joined a b x y = ap (λ c. c && b) x ∙ y

pub asked-exactly : (wait : ℕ) (before : List Event) (e : Event) → (asked_at wait before e ≡ true) ↔ IsAsked wait before e
asked-exactly wait before e = (there, back)
  where
    w : Watch
    w = after wait before

    there : asked_at wait before e ≡ true → IsAsked wait before e
    there h = let (cause, may) = both (is_cause w.view e) (may_ask wait (moment_of e) w.asked w.born_since) h in
        (cause, due-each wait (moment_of e) before (due-of wait (moment_of e) w.asked w.born_since (last_request wait before) (kept wait before) may))

    back : IsAsked wait before e → asked_at wait before e ≡ true
    back h = joined (is_cause w.view e) (may_ask wait (moment_of e) w.asked w.born_since) h.0
        (may-of wait (moment_of e) w.asked w.born_since (last_request wait before) (kept wait before) (due-last wait (moment_of e) before h.1))
