-- Lists of what is there by now, where some of it has gone: queries on them are queries on the whole list.
use Rattle.std.proofs.Common.{◌≡◌, ℕ, ◌<◌, suc, Bool, true, false, ◌||◌, cond, List, [], ◌∷◌, ◌++◌, length, get_or, ltb, refl, sym, ◌∙◌, ap, subst, Option, Some, None}
use Rattle.std.proofs.lemmas.List.Sums.{length-filter}
use Rattle.std.specs.List.{filter, find, flat_map, list_any, position, position_or_len, count_by}
use Rattle.std.specs.Option.{is_some, option_map_or, option_and_then}
use Rattle.spk_broker_rules.specs.Words.{option_list}
use Rattle.spk_broker.specs.Asking.{newcomer_here, test_at}
use Rattle.spk_broker.specs.View.{newcomer_now}
use Rattle.spk_broker.specs.declared.newcomer.Newcomer.{Newcomer}
use Rattle.spk_broker_rules.specs.Data as plain
use Rattle.spk_broker_rules.proofs.Lists.{flat_map-same}
use Rattle.std.proofs.lemmas.List.Folds.{find_at}
use Rattle.std.specs.List.{slice_get}
use Rattle.std.proofs.lemmas.Option.{slice_get-get_or, slice_get_past}
use borrow.Author.Tests.{ltb-true, ltb-false}

abbrev pub alive : {X Y : Type 0} → (X → Option Y) → List X → List Y
alive o xs = flat_map (λ x. option_list (o x)) xs

abbrev pub plain_of : Newcomer → plain.Newcomer
plain_of g = record { conn = g.conn; heard = g.heard; drops = g.drops }

pub any-alive : {X Y : Type 0} (o : X → Option Y) (p : Y → Bool) (xs : List X) → list_any p (alive o xs) ≡ list_any (test_at o p) xs
any-alive o p [] = refl
any-alive {X} {Y} o p (x ∷ xs) = by (o x) (any-alive o p xs)
  where
    by : (y : Option Y) → list_any p (alive o xs) ≡ list_any (test_at o p) xs → list_any p (option_list y ++ alive o xs) ≡ option_map_or p y false || list_any (test_at o p) xs
    by None e = e
    by (Some y) e = ap (λ b. p y || b) e

pub find-any : {X : Type 0} (p : X → Bool) (xs : List X) → is_some (find p xs) ≡ list_any p xs
find-any p [] = refl
find-any {X} p (x ∷ xs) = by (p x) (find-any p xs)
  where
    by : (b : Bool) → is_some (find p xs) ≡ list_any p xs → is_some (cond b (Some x) (find p xs)) ≡ b || list_any p xs
    by true e = refl
    by false e = e

pub some-alive : {X Y : Type 0} (o : X → Option Y) (p : Y → Bool) (xs : List X) → is_some (find p (alive o xs)) ≡ list_any (test_at o p) xs
some-alive o p xs = find-any p (alive o xs) ∙ any-alive o p xs

pub find-alive : {X Y : Type 0} (o : X → Option Y) (p : Y → Bool) (xs : List X) → find p (alive o xs) ≡ option_and_then o (find (test_at o p) xs)
find-alive o p [] = refl
find-alive {X} {Y} o p (x ∷ xs) = by (o x) refl (find-alive o p xs)
  where
    at : (y : Y) (b : Bool) → o x ≡ Some y → find p (alive o xs) ≡ option_and_then o (find (test_at o p) xs) → cond b (Some y) (find p (alive o xs)) ≡ option_and_then o (cond b (Some x) (find (test_at o p) xs))
    at y true e r = sym e
    at y false e r = r

    by : (y : Option Y) → o x ≡ y → find p (alive o xs) ≡ option_and_then o (find (test_at o p) xs) → find p (option_list y ++ alive o xs) ≡ option_and_then o (cond (option_map_or p y false) (Some x) (find (test_at o p) xs))
    by None e r = r
    by (Some y) e r = at y (p y) e r

pub filter-alive : {X Y : Type 0} (o : X → Option Y) (p : Y → Bool) (xs : List X) → length (filter p (alive o xs)) ≡ length (filter (test_at o p) xs)
filter-alive o p [] = refl
filter-alive {X} {Y} o p (x ∷ xs) = by (o x) (filter-alive o p xs)
  where
    at : (y : Y) (b : Bool) → length (filter p (alive o xs)) ≡ length (filter (test_at o p) xs) → length (cond b (y ∷ filter p (alive o xs)) (filter p (alive o xs))) ≡ length (cond b (x ∷ filter (test_at o p) xs) (filter (test_at o p) xs))
    at y true e = ap suc e
    at y false e = e

    by : (y : Option Y) → length (filter p (alive o xs)) ≡ length (filter (test_at o p) xs) → length (filter p (option_list y ++ alive o xs)) ≡ length (cond (option_map_or p y false) (x ∷ filter (test_at o p) xs) (filter (test_at o p) xs))
    by None e = e
    by (Some y) e = at y (p y) e

pub count-alive : {X Y : Type 0} (o : X → Option Y) (p : Y → Bool) (xs : List X) → count_by (test_at o p) xs ≡ length (filter p (alive o xs))
count-alive o p xs = sym (filter-alive o p xs ∙ length-filter (test_at o p) xs)

-- the newcomers by now
pub newcomers-alive : (gs : List Newcomer) → flat_map newcomer_now gs ≡ alive newcomer_here gs
newcomers-alive gs = flat_map-same newcomer_now (λ g. option_list (newcomer_here g)) one gs
  where
    one : (g : Newcomer) → newcomer_now g ≡ option_list (newcomer_here g)
    one g = by g.gone
      where
        by : (b : Bool) → cond b [] ((plain_of g) ∷ []) ≡ option_list (cond b None (Some (plain_of g)))
        by true = refl
        by false = refl

-- the first that passes, by its place
pub place-find : {X : Type 0} (q : X → Bool) (xs : List X) (i : ℕ) (d : X) → position q xs ≡ Some i → (i < length xs) × (find q xs ≡ Some (get_or xs i d))
place-find q xs i d e = by (ltb (position_or_len q xs) (length xs)) refl e
  where
    by : (b : Bool) → ltb (position_or_len q xs) (length xs) ≡ b → cond b (Some (position_or_len q xs)) None ≡ Some i
        → (i < length xs) × (find q xs ≡ Some (get_or xs i d))
    by true low f =
        let at : position_or_len q xs ≡ i = cc in
        let below : i < length xs = subst (λ n. n < length xs) at (ltb-true (position_or_len q xs) (length xs) low) in
        (below, find_at q xs ∙ ap (slice_get xs) at ∙ slice_get-get_or xs i d below)
    by false low f = cc

pub place-none : {X : Type 0} (q : X → Bool) (xs : List X) → position q xs ≡ None → find q xs ≡ None
place-none q xs e = by (ltb (position_or_len q xs) (length xs)) refl e
  where
    by : (b : Bool) → ltb (position_or_len q xs) (length xs) ≡ b → cond b (Some (position_or_len q xs)) None ≡ None → find q xs ≡ None
    by true low f = cc
    by false low f = find_at q xs ∙ slice_get_past xs (position_or_len q xs) (ltb-false (position_or_len q xs) (length xs) low)

-- what stands at the place that was found
pub found-alive : {X Y : Type 0} (o : X → Option Y) (p : Y → Bool) (xs : List X) (i : ℕ) (d : X) → position (test_at o p) xs ≡ Some i
    → (i < length xs) × (find p (alive o xs) ≡ o (get_or xs i d))
found-alive o p xs i d e =
    let at = place-find (test_at o p) xs i d e in
    (at.0, find-alive o p xs ∙ ap (option_and_then o) at.1)

pub lost-alive : {X Y : Type 0} (o : X → Option Y) (p : Y → Bool) (xs : List X) → position (test_at o p) xs ≡ None → find p (alive o xs) ≡ None
lost-alive o p xs e = find-alive o p xs ∙ ap (option_and_then o) (place-none (test_at o p) xs e)

-- what stands there, whatever is given for what isn't
pub same-there : {X Y : Type 0} (o : X → Option Y) (p : Y → Bool) (xs : List X) (i : ℕ) (d e : X) → position (test_at o p) xs ≡ Some i → o (get_or xs i d) ≡ o (get_or xs i e)
same-there o p xs i d e f = sym (found-alive o p xs i d f).1 ∙ (found-alive o p xs i e f).1
