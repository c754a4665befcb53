-- The stories of a board are those of the deeds that it was told.
use Rattle.std.proofs.Common.{◌≡◌, ◌∙◌, sym, ap, refl, arith, ℕ, zero, suc, ◌+◌, ◌≤◌, List, [], ◌∷◌, ◌++◌, length, map, slice_set, Option, Some, None}
use Rattle.std.specs.Prelude.{slice_get}
use Rattle.std.proofs.lemmas.List.{length-map}
use Rattle.spk_story.specs.Data.{Story}
use Rattle.spk_story.specs.Events.{Event}
use Rattle.spk_story.specs.Told.{told}
use Rattle.spk_board.specs.Deeds.{AreOf, Deed, Tale, fresh, story_of, tales, told_at}

-- what an event makes of a story, whatever the story was
abbrev pub Tells : Event → Story → Story → Type 0
Tells e s s' = (first : ℕ) (es : List Event) → s ≡ told first es → s' ≡ told first (e ∷ es)

some-is : {X : Type 0} {x y : X} → Some x ≡ Some y → x ≡ y
some-is {X} {x} is = ap (λ o. some_or x o) is
  where
    some_or : {X : Type 0} → X → Option X → X
    some_or x None = x
    some_or x (Some y) = y

set-in : (e : Event) (ts : List Tale) (n : ℕ) (s s' : Story) → slice_get (map story_of ts) n ≡ Some s → Tells e s s'
    → slice_set (map story_of ts) n s' ≡ map story_of (told_at n e ts)
set-in e [] n s s' at tells = refl
set-in e (t ∷ ts) zero s s' at tells = ap (λ x. x ∷ map story_of ts) (tells t.first t.events (sym (some-is at)))
set-in e (t ∷ ts) (suc n) s s' at tells = ap (λ xs. story_of t ∷ xs) (set-in e ts n s s' at tells)

pub happens : (e : Event) (ds : List Deed) (stories : List Story) (n : ℕ) (s s' : Story) → AreOf ds stories → slice_get stories n ≡ Some s → Tells e s s'
    → slice_set stories n s' ≡ map story_of (told_at n e (tales ds))
happens e ds stories n s s' are at tells =
    ap (λ xs. slice_set xs n s') are ∙ set-in e (tales ds) n s s' (ap (λ xs. slice_get xs n) (sym are) ∙ at) tells

none-in : (e : Event) (ts : List Tale) (n : ℕ) → length ts ≤ n → told_at n e ts ≡ ts
none-in e [] n past = refl
none-in e (t ∷ ts) zero past = absurd (omega arith)
none-in e (t ∷ ts) (suc n) past = ap (λ xs. t ∷ xs) (none-in e ts n (omega arith))

pub happens-not : (e : Event) (ds : List Deed) (stories : List Story) (n : ℕ) → AreOf ds stories → length stories ≤ n
    → stories ≡ map story_of (told_at n e (tales ds))
happens-not e ds stories n are past =
    are ∙ ap (map story_of) (sym (none-in e (tales ds) n (omega (arith, ap length are, length-map (tales ds) story_of))))

fresh-last : (n now : ℕ) → map story_of (fresh (suc n) now) ≡ map story_of (fresh n now) ++ told now [] ∷ []
fresh-last zero now = refl
fresh-last (suc n) now = ap (λ xs. told now [] ∷ xs) (fresh-last n now)

pub fresh-more : (n now : ℕ) → map story_of (fresh (n + 1) now) ≡ map story_of (fresh n now) ++ told now [] ∷ []
fresh-more n now =
    let same : n + 1 ≡ suc n = omega arith in
    ap (λ k. map story_of (fresh k now)) same ∙ fresh-last n now
