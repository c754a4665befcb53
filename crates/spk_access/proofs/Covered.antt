-- What a filter that covers another one matches.
use Rattle.std.proofs.Common.{◌≡◌, ◌∙◌, ℕ, List, [], ◌∷◌, Bool, true, false, refl, sym, ap, inl, inr, nat_eq, cond}
use Rattle.std.specs.Prelude.{not, ◌||◌, ◌&&◌, ◌==◌}
use Rattle.std.specs.Str.{bytes_eq}
use Rattle.std.proofs.lemmas.Slice.Eq.{bytes_eq-Decides}
use Rattle.std.proofs.lemmas.Bool.{eqb-true}
use Rattle.spk_topics.specs.Levels.{levels, widened, is_empty}
use Rattle.spk_topics.specs.Fitting.{fits, starts_with_wildcard, begins_with_dollar, is_barred, is_match}
use Rattle.spk_access.specs.Covering.{covers, covers_level, covers_levels, is_rest}
use Rattle.spk_access.proofs.Bools.{and_both, and_parts, not_true, not_both, or_cases, or_first, or_none, or_second, true_or_not}

bytes_same : (a b : List ℕ) → bytes_eq a b ≡ true → a ≡ b
bytes_same a b h = (bytes_eq-Decides a b).0 h

bytes_self : (a : List ℕ) → bytes_eq a a ≡ true
bytes_self a = (bytes_eq-Decides a a).1 refl

-- whoever fits what is left fits under `#`
rest_fits : (level : List ℕ) (wide topic : List (List ℕ)) → is_rest level wide ≡ true → fits (level ∷ wide) topic ≡ true
rest_fits level wide [] h = h
rest_fits level wide (name ∷ topic) h = or_first (is_rest level wide) _ h

-- the level that a covering one covers fits whatever that fits
level_fits : (level name part : List ℕ) → covers_level level name ≡ true → (bytes_eq name (43 ∷ []) || bytes_eq name part) ≡ true → (bytes_eq level (43 ∷ []) || bytes_eq level part) ≡ true
level_fits level name part h k = elim (or_cases (bytes_eq level (43 ∷ [])) (bytes_eq level name) h) [
  | inl any ↦ or_first (bytes_eq level (43 ∷ [])) (bytes_eq level part) any
  | inr same ↦ ap (λ l. bytes_eq l (43 ∷ []) || bytes_eq l part) (bytes_same level name same) ∙ k
]

next_fits : (level name part : List ℕ) (wide filter topic : List (List ℕ)) → not (is_rest name filter) ≡ true → covers_level level name ≡ true
    → fits (name ∷ filter) (part ∷ topic) ≡ true → (fits filter topic ≡ true → fits wide topic ≡ true) → fits (level ∷ wide) (part ∷ topic) ≡ true
next_fits level name part wide filter topic more covered fit ih = elim (or_cases (is_rest name filter) _ fit) [
  | inl rest ↦ cc
  | inr both ↦
      let (one, others) = and_parts (bytes_eq name (43 ∷ []) || bytes_eq name part) (fits filter topic) both in
      or_second (is_rest level wide) _ (and_both _ _ (level_fits level name part covered one) (ih others))
]

none_left : (filter : List (List ℕ)) → is_empty filter ≡ true → filter ≡ []
none_left [] h = refl
none_left (name ∷ filter) h = cc

-- one level more
at : (level name : List ℕ) (wide filter topic : List (List ℕ)) → not (is_rest name filter) ≡ true → covers_level level name ≡ true
    → ((parts : List (List ℕ)) → fits filter parts ≡ true → fits wide parts ≡ true) → fits (name ∷ filter) topic ≡ true → fits (level ∷ wide) topic ≡ true
at level name wide filter [] more covered ih fit = absurd (not_both _ (not_true _ more) fit)
at level name wide filter (part ∷ topic) more covered ih fit = next_fits level name part wide filter topic more covered fit (ih topic)

pub fits-covered : (wide filter topic : List (List ℕ)) → covers_levels wide filter ≡ true → fits filter topic ≡ true → fits wide topic ≡ true
fits-covered [] filter topic h fit = ap (λ f. fits f topic) (sym (none_left filter h)) ∙ fit
fits-covered (level ∷ wide) [] topic h fit = rest_fits level wide topic h
fits-covered (level ∷ wide) (name ∷ filter) topic h fit = elim (or_cases (is_rest level wide) _ h) [
  | inl rest ↦ rest_fits level wide topic rest
  | inr both ↦
      let (more, behind) = and_parts (not (is_rest name filter)) _ both in
      let (covered, others) = and_parts (covers_level level name) (covers_levels wide filter) behind in
      at level name wide filter topic more covered (λ parts. fits-covered wide filter parts others) fit
]

-- ---- a topic name that begins with `$`

-- the first level begins with `$`
abbrev dollar_first : List (List ℕ) → Bool
dollar_first [] = false
dollar_first (level ∷ rest) = begins_with_dollar level

widened_dollar : (b : ℕ) (ls : List (List ℕ)) → dollar_first (widened b ls) ≡ (b == 36)
widened_dollar b [] = refl
widened_dollar b (level ∷ ls) = refl

slash_no_dollar : (b : ℕ) → nat_eq b 47 ≡ true → false ≡ (b == 36)
slash_no_dollar b e = rw (eqb-true b 47 e) refl

dollar_here : (t : Bool) (b : ℕ) (ls : List (List ℕ)) → nat_eq b 47 ≡ t → dollar_first (cond t ([] ∷ ls) (widened b ls)) ≡ (b == 36)
dollar_here true b ls e = slash_no_dollar b e
dollar_here false b ls e = widened_dollar b ls

-- as the text does
dollar_levels : (text : List ℕ) → dollar_first (levels text) ≡ begins_with_dollar text
dollar_levels [] = refl
dollar_levels (b ∷ bs) = dollar_here (nat_eq b 47) b (levels bs) refl

-- where it is no wildcard, the first level of a filter is that of what it fits
same_first : (level part : List ℕ) (filter topic : List (List ℕ)) → starts_with_wildcard (level ∷ filter) ≡ false
    → fits (level ∷ filter) (part ∷ topic) ≡ true → begins_with_dollar level ≡ begins_with_dollar part
same_first level part filter topic plain fit =
    let (no_plus, no_rest) = or_none (bytes_eq level (43 ∷ [])) (bytes_eq level (35 ∷ [])) plain in
    elim (or_cases (is_rest level filter) _ fit) [
      | inl rest ↦ absurd (not_both _ no_rest (and_parts (bytes_eq level (35 ∷ [])) (is_empty filter) rest).0)
      | inr both ↦ elim (or_cases (bytes_eq level (43 ∷ [])) (bytes_eq level part) (and_parts _ _ both).0) [
        | inl any ↦ absurd (not_both _ no_plus any)
        | inr same ↦ ap begins_with_dollar (bytes_same level part same)
      ]
    ]

first-same : (filter topic : List (List ℕ)) → starts_with_wildcard filter ≡ false → fits filter topic ≡ true → dollar_first filter ≡ dollar_first topic
first-same [] [] plain fit = refl
first-same [] (part ∷ topic) plain fit = cc
first-same (level ∷ filter) [] plain fit =
    absurd (not_both _ (or_none (bytes_eq level (43 ∷ [])) (bytes_eq level (35 ∷ [])) plain).1 (and_parts (bytes_eq level (35 ∷ [])) (is_empty filter) fit).0)
first-same (level ∷ filter) (part ∷ topic) plain fit = same_first level part filter topic plain fit

-- whoever isn't barred before a filter, nor that before a topic, isn't before the topic either
unbarred : (wide_wild filter_wild filter_dollar topic_dollar : Bool) → (wide_wild && filter_dollar) ≡ false → (filter_wild && topic_dollar) ≡ false
    → (filter_wild ≡ false → filter_dollar ≡ topic_dollar) → (wide_wild && topic_dollar) ≡ false
unbarred false fw fd td h k same = refl
unbarred true fw fd false h k same = refl
unbarred true true fd true h k same = cc
unbarred true false fd true h k same = sym (same refl) ∙ h

pub match-covered : (wide filter topic : List ℕ) → covers wide filter ≡ true → is_match filter topic ≡ true → is_match wide topic ≡ true
match-covered wide filter topic h m =
    let (free, covered) = and_parts (not (is_barred wide filter)) (covers_levels (levels wide) (levels filter)) h in
    let (clear, fit) = and_parts (not (is_barred filter topic)) (fits (levels filter) (levels topic)) m in
    let same : starts_with_wildcard (levels filter) ≡ false → begins_with_dollar filter ≡ begins_with_dollar topic =
    (λ plain. sym (dollar_levels filter) ∙ first-same (levels filter) (levels topic) plain fit ∙ dollar_levels topic) in
    let bar : is_barred wide topic ≡ false = unbarred (starts_with_wildcard (levels wide)) (starts_with_wildcard (levels filter)) (begins_with_dollar filter) (begins_with_dollar topic) (not_true _ free) (not_true _ clear) same in
    and_both (not (is_barred wide topic)) (fits (levels wide) (levels topic)) (ap not bar) (fits-covered (levels wide) (levels filter) (levels topic) covered fit)

-- ---- a filter covers itself

level_itself : (level : List ℕ) → covers_level level level ≡ true
level_itself level = or_second (bytes_eq level (43 ∷ [])) _ (bytes_self level)

levels_here : (t : Bool) (level : List ℕ) (rest : List (List ℕ)) → is_rest level rest ≡ t → covers_levels rest rest ≡ true → covers_levels (level ∷ rest) (level ∷ rest) ≡ true
levels_here true level rest is ih = or_first (is_rest level rest) _ is
levels_here false level rest is ih = or_second (is_rest level rest) _ (and_both _ _ (ap not is) (and_both _ _ (level_itself level) ih))

levels_itself : (filter : List (List ℕ)) → covers_levels filter filter ≡ true
levels_itself [] = refl
levels_itself (level ∷ rest) = levels_here (is_rest level rest) level rest refl (levels_itself rest)

-- a wildcard isn't `$`
wild_level : (level : List ℕ) → begins_with_dollar level ≡ true → (bytes_eq level (43 ∷ []) || bytes_eq level (35 ∷ [])) ≡ false
wild_level level h = elim (true_or_not (bytes_eq level (43 ∷ []) || bytes_eq level (35 ∷ []))) [
  | inr not ↦ not
  | inl wild ↦ elim (or_cases (bytes_eq level (43 ∷ [])) (bytes_eq level (35 ∷ [])) wild) [
    | inl plus ↦ absurd (not_both _ (ap begins_with_dollar (bytes_same level (43 ∷ []) plus)) h)
    | inr rest ↦ absurd (not_both _ (ap begins_with_dollar (bytes_same level (35 ∷ []) rest)) h)
  ]
]

wild_first : (filter : List (List ℕ)) → dollar_first filter ≡ true → starts_with_wildcard filter ≡ false
wild_first [] h = refl
wild_first (level ∷ rest) h = wild_level level h

not_barred : (wild dollar : Bool) → (dollar ≡ true → wild ≡ false) → (wild && dollar) ≡ false
not_barred false dollar h = refl
not_barred true false h = refl
not_barred true true h = h refl

pub covers-itself : (filter : List ℕ) → covers filter filter ≡ true
covers-itself filter =
    let bar : is_barred filter filter ≡ false = not_barred (starts_with_wildcard (levels filter)) (begins_with_dollar filter) (λ h. wild_first (levels filter) (dollar_levels filter ∙ h)) in
    and_both (not (is_barred filter filter)) (covers_levels (levels filter) (levels filter)) (ap not bar) (levels_itself (levels filter))
