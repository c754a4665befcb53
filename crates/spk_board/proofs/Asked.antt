-- The stories of a board by questions to its deeds.
use Rattle.std.proofs.Common.{◌≡◌, ◌∙◌, sym, ap, refl, arith, ℕ, zero, suc, ◌+◌, ◌-◌, ◌<◌, ◌≤◌, ◌==◌, ◌&&◌, Bool, true, false, true≢false, is_some, nat_lt, max, List, [], ◌∷◌, ◌++◌, length, map, eqb, Some, None}
use Rattle.std.specs.Prelude.{slice_get, if◌then◌else◌}
use Rattle.std.specs.Option.{option_map}
use Rattle.std.proofs.lemmas.Bool.{eqb-false, eqb-true, le-ltb, lt-ltb, ltb-false, ltb-true}
use Rattle.std.proofs.lemmas.List.{length-append}
use Rattle.spk_story.specs.Events.{Event}
use Rattle.spk_story.specs.Told.{told}
use Rattle.spk_board.specs.Deeds.{Deed, Heard, Told, Tale, count_of, events_at, first_at, fresh, story_of, tales, told_at}

none≢some : {X : Type 0} {x : X} → None ≡ Some x → ⊥
none≢some is = true≢false (sym (ap is_some is))

length-fresh : (n now : ℕ) → length (fresh n now) ≡ n
length-fresh zero now = refl
length-fresh (suc n) now = ap suc (length-fresh n now)

length-told : (e : Event) (ts : List Tale) (n : ℕ) → length (told_at n e ts) ≡ length ts
length-told e [] n = refl
length-told e (t ∷ ts) zero = refl
length-told e (t ∷ ts) (suc n) = ap suc (length-told e ts n)

pub count : (ds : List Deed) → length (tales ds) ≡ count_of ds
count [] = refl
count (Heard n now ∷ ds) =
    length-append (tales ds) (fresh (n - length (tales ds)) now)
    ∙ ap (λ k. length (tales ds) + k) (length-fresh (n - length (tales ds)) now)
    ∙ omega (arith, count ds)
count (Told place e ∷ ds) = length-told e (tales ds) place ∙ count ds

-- before a node was heard nothing happened to it
none-before : (ds : List Deed) (n : ℕ) → count_of ds ≤ n → events_at n ds ≡ []
none-before [] n past = refl
none-before (Heard c now ∷ ds) n past = none-before ds n (omega (arith, past))
none-before (Told place e ∷ ds) n past =
    ap (λ b. if b && place == n then e ∷ events_at n ds else events_at n ds) (le-ltb n (count_of ds) past) ∙ none-before ds n past

get-front : (xs ys : List Tale) (n : ℕ) → n < length xs → slice_get (xs ++ ys) n ≡ slice_get xs n
get-front [] ys n within = absurd (omega arith)
get-front (x ∷ xs) ys zero within = refl
get-front (x ∷ xs) ys (suc n) within = get-front xs ys n (omega arith)

get-back : (xs ys : List Tale) (n k : ℕ) → length xs + k ≡ n → slice_get (xs ++ ys) n ≡ slice_get ys k
get-back [] ys n k is = ap (slice_get ys) (omega (arith, is))
get-back (x ∷ xs) ys zero k is = absurd (omega (arith, is))
get-back (x ∷ xs) ys (suc n) k is = get-back xs ys n k (omega (arith, is))

get-fresh : (k n now : ℕ) → n < k → slice_get (fresh k now) n ≡ Some (record { first = now; events = [] })
get-fresh zero n now within = absurd (omega arith)
get-fresh (suc k) zero now within = refl
get-fresh (suc k) (suc n) now within = get-fresh k n now (omega arith)

abbrev pub with-event : Event → Bool → Tale → Tale
with-event e b t = if b then record { first = t.first; events = e ∷ t.events } else t

get-same : (e : Event) (ts : List Tale) (n : ℕ) (t : Tale) → slice_get ts n ≡ Some t → slice_get (told_at n e ts) n ≡ Some (with-event e true t)
get-same e [] n t at = absurd (none≢some at)
get-same e (x ∷ ts) zero t at = ap (option_map (with-event e true)) at
get-same e (x ∷ ts) (suc n) t at = get-same e ts n t at

get-other : (e : Event) (ts : List Tale) (p n : ℕ) → (p ≡ n → ⊥) → slice_get (told_at p e ts) n ≡ slice_get ts n
get-other e [] p n other = refl
get-other e (x ∷ ts) zero zero other = absurd (other refl)
get-other e (x ∷ ts) zero (suc n) other = refl
get-other e (x ∷ ts) (suc p) zero other = refl
get-other e (x ∷ ts) (suc p) (suc n) other = get-other e ts p n (λ is. other (ap suc is))

get-told : (e : Event) (ts : List Tale) (p n : ℕ) (t : Tale) (b : Bool) → eqb p n ≡ b → slice_get ts n ≡ Some t
    → slice_get (told_at p e ts) n ≡ Some (with-event e b t)
get-told e ts p n t true is at = ap (λ k. slice_get (told_at k e ts) n) (eqb-true p n is) ∙ get-same e ts n t at
get-told e ts p n t false is at = get-other e ts p n (eqb-false p n is) ∙ at

parts : (e : Event) (b : Bool) (first : ℕ) (es : List Event)
    → with-event e b (record { first = first; events = es }) ≡ record { first = first; events = if b then e ∷ es else es }
parts e true first es = refl
parts e false first es = refl

abbrev pub tale_at : ℕ → List Deed → Tale
tale_at n ds = record { first = first_at n ds; events = events_at n ds }

heard-at : (c now : ℕ) (ds : List Deed) (n : ℕ) (b : Bool) → nat_lt n (count_of ds) ≡ b → n < max c (count_of ds)
    → (n < count_of ds → slice_get (tales ds) n ≡ Some (tale_at n ds))
    → slice_get (tales ds ++ fresh (c - length (tales ds)) now) n ≡ Some (record { first = if b then first_at n ds else now; events = events_at n ds })
heard-at c now ds n true is within before =
    let there = ltb-true n (count_of ds) is in
    get-front (tales ds) (fresh (c - length (tales ds)) now) n (omega (arith, there, count ds)) ∙ before there
heard-at c now ds n false is within before =
    let past = ltb-false n (count_of ds) is in
    get-back (tales ds) (fresh (c - length (tales ds)) now) n (n - length (tales ds)) (omega (arith, past, count ds))
    ∙ get-fresh (c - length (tales ds)) (n - length (tales ds)) now (omega (arith, past, within, count ds))
    ∙ ap (λ es. Some (record { first = now; events = es })) (sym (none-before ds n past))

pub at-place : (ds : List Deed) (n : ℕ) → n < count_of ds → slice_get (tales ds) n ≡ Some (tale_at n ds)
at-place [] n within = absurd (omega arith)
at-place (Heard c now ∷ ds) n within = heard-at c now ds n (nat_lt n (count_of ds)) refl within (at-place ds n)
at-place (Told place e ∷ ds) n within =
    get-told e (tales ds) place n (tale_at n ds) (place == n) refl (at-place ds n within)
    ∙ ap Some (parts e (place == n) (first_at n ds) (events_at n ds))
    ∙ ap (λ b. Some (record { first = first_at n ds; events = if b && place == n then e ∷ events_at n ds else events_at n ds })) (sym (lt-ltb n (count_of ds) within))

map-gets : (ts : List Tale) (n : ℕ) (t : Tale) → slice_get ts n ≡ Some t → slice_get (map story_of ts) n ≡ Some (story_of t)
map-gets [] n t at = absurd (none≢some at)
map-gets (x ∷ ts) zero t at = ap (option_map story_of) at
map-gets (x ∷ ts) (suc n) t at = map-gets ts n t at

pub story-at : (ds : List Deed) (n : ℕ) → n < count_of ds → slice_get (map story_of (tales ds)) n ≡ Some (told (first_at n ds) (events_at n ds))
story-at ds n within = map-gets (tales ds) n (tale_at n ds) (at-place ds n within)
