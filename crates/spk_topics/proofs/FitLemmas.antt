-- The test on levels is the match relation, both ways.
use Rattle.std.proofs.Common.{◌≡◌, ◌⊎◌, ℕ, List, [], ◌∷◌, Bool, true, false, refl, sym, ap, ◌∙◌, inl, inr, subst}
use Rattle.std.specs.Prelude.{not, ◌||◌, ◌&&◌, IsTrue, ◌↔◌}
use Rattle.std.specs.Str.{bytes_eq}
use Rattle.std.proofs.lemmas.Slice.Eq.{bytes_eq-Decides}
use Rattle.std.proofs.lemmas.Bool.{eqb-true}
use Rattle.spk_topics.proofs.BoolLemmas.{or_cases, and_parts, and_both, not_true}
use Rattle.spk_topics.specs.Levels.{levels, is_empty}
use Rattle.spk_topics.specs.Matching.{Fits, StartsWithWildcard, BeginsWithDollar, IsBarred, Matches}
use Rattle.spk_topics.specs.Matching.Fits.{both_end, any_rest, any_level, same_level}
use Rattle.spk_topics.specs.Fitting.{fits, starts_with_wildcard, begins_with_dollar, is_barred, is_match}

pub bytes_same : (a b : List ℕ) → bytes_eq a b ≡ true → a ≡ b
bytes_same a b h = (bytes_eq-Decides a b).0 h

pub bytes_self : (a : List ℕ) → bytes_eq a a ≡ true
bytes_self a = (bytes_eq-Decides a a).1 refl

none_left : {X : Type 0} (xs : List X) → is_empty xs ≡ true → xs ≡ []
none_left [] h = refl
none_left (x ∷ xs) h = cc

all_rest : (level : List ℕ) (filter rest : List (List ℕ)) → (bytes_eq level (35 ∷ []) && is_empty filter) ≡ true → Fits (level ∷ filter) rest
all_rest level filter rest h =
    let (same, last) = and_parts _ _ h in
    subst (λ f. Fits (level ∷ f) rest) (sym (none_left filter last)) (subst (λ l. Fits (l ∷ []) rest) (sym (bytes_same _ _ same)) (any_rest rest))

next_level : (level name : List ℕ) (filter topic : List (List ℕ)) → (bytes_eq level (43 ∷ []) ≡ true) ⊎ (bytes_eq level name ≡ true) → Fits filter topic → Fits (level ∷ filter) (name ∷ topic)
next_level level name filter topic (inl h) f = subst (λ l. Fits (l ∷ filter) (name ∷ topic)) (sym (bytes_same _ _ h)) (any_level name filter topic f)
next_level level name filter topic (inr h) f = subst (λ l. Fits (l ∷ filter) (name ∷ topic)) (sym (bytes_same _ _ h)) (same_level name filter topic f)

either_way : (level name : List ℕ) (filter topic : List (List ℕ)) → (fits filter topic ≡ true → Fits filter topic)
    → ((bytes_eq level (35 ∷ []) && is_empty filter) ≡ true) ⊎ (((bytes_eq level (43 ∷ []) || bytes_eq level name) && fits filter topic) ≡ true) → Fits (level ∷ filter) (name ∷ topic)
either_way level name filter topic ih (inl h) = all_rest level filter (name ∷ topic) h
either_way level name filter topic ih (inr h) =
    let (this, rest) = and_parts _ _ h in
    next_level level name filter topic (or_cases _ _ this) (ih rest)

pub Fits-of : (filter topic : List (List ℕ)) → fits filter topic ≡ true → Fits filter topic
Fits-of [] topic h = subst (λ t. Fits [] t) (sym (none_left topic h)) both_end
Fits-of (level ∷ filter) [] h = all_rest level filter [] h
Fits-of (level ∷ filter) (name ∷ topic) h = either_way level name filter topic (Fits-of filter topic) (or_cases _ _ h)

or_right : (a b : Bool) → b ≡ true → (a || b) ≡ true
or_right true b h = refl
or_right false b h = h

rest_fits : (rest : List (List ℕ)) → fits ((35 ∷ []) ∷ []) rest ≡ true
rest_fits [] = refl
rest_fits (name ∷ rest) = refl

pub fits-of : (filter topic : List (List ℕ)) → Fits filter topic → fits filter topic ≡ true
fits-of _ _ both_end = refl
fits-of _ _ (any_rest rest) = rest_fits rest
fits-of _ _ (any_level level filter topic f) = fits-of filter topic f
fits-of _ _ (same_level level filter topic f) =
    or_right (bytes_eq level (35 ∷ []) && is_empty filter) ((bytes_eq level (43 ∷ []) || bytes_eq level level) && fits filter topic)
    (and_both (bytes_eq level (43 ∷ []) || bytes_eq level level) (fits filter topic) (or_right (bytes_eq level (43 ∷ [])) (bytes_eq level level) (bytes_self level)) (fits-of filter topic f))

first_was : (ls : List (List ℕ)) → StartsWithWildcard ls → starts_with_wildcard ls ≡ true
first_was [] h = absurd h
first_was (level ∷ rest) (inl e) = rw e refl
first_was (level ∷ rest) (inr e) = rw e refl

pub dollar_is : (topic : List ℕ) → begins_with_dollar topic ≡ true → BeginsWithDollar topic
dollar_is [] h = cc
dollar_is (b ∷ bs) h = eqb-true b 36 h

dollar_was : (topic : List ℕ) → BeginsWithDollar topic → begins_with_dollar topic ≡ true
dollar_was [] h = absurd h
dollar_was (b ∷ bs) e = rw e refl

pub barred-of : (filter topic : List ℕ) → IsBarred filter topic → is_barred filter topic ≡ true
barred-of filter topic h = and_both _ _ (first_was _ h.0) (dollar_was _ h.1)

pub not_both : (b : Bool) → b ≡ false → b ≡ true → ⊥
not_both b h k = cc

-- where the bar doesn't stand, the levels decide
pub open_matches : (filter topic : List ℕ) (b : Bool) → is_barred filter topic ≡ false → b ≡ fits (levels filter) (levels topic) → IsTrue b ↔ Matches filter topic
open_matches filter topic b h e = (
  (λ t. record { allowed = (λ bar. not_both _ h (barred-of filter topic bar)); fits = Fits-of _ _ (sym e ∙ t) }),
  (λ m. e ∙ fits-of _ _ m.fits),
)

wildcard_is : (ls : List (List ℕ)) → starts_with_wildcard ls ≡ true → StartsWithWildcard ls
wildcard_is [] h = cc
wildcard_is (level ∷ rest) h = elim (or_cases (bytes_eq level (43 ∷ [])) (bytes_eq level (35 ∷ [])) h) [ inl e ↦ inl (bytes_same _ _ e) | inr e ↦ inr (bytes_same _ _ e) ]

barred-is : (filter topic : List ℕ) → is_barred filter topic ≡ true → IsBarred filter topic
barred-is filter topic h =
    let (wild, dollar) = and_parts (starts_with_wildcard (levels filter)) (begins_with_dollar topic) h in
    (wildcard_is _ wild, dollar_is topic dollar)

-- the test of both
pub match-is : (filter topic : List ℕ) → IsTrue (is_match filter topic) ↔ Matches filter topic
match-is filter topic = (
  λ h. let (free, fit) = and_parts (not (is_barred filter topic)) (fits (levels filter) (levels topic)) h in
      (open_matches filter topic (fits (levels filter) (levels topic)) (not_true _ free) refl).0 fit,
  λ m. let free : is_barred filter topic ≡ false = clear (is_barred filter topic) refl m in
      and_both _ _ (ap not free) ((open_matches filter topic (fits (levels filter) (levels topic)) free refl).1 m),
)
  where
    clear : (b : Bool) → is_barred filter topic ≡ b → Matches filter topic → is_barred filter topic ≡ false
    clear true is m = absurd (m.allowed (barred-is filter topic is))
    clear false is m = is
