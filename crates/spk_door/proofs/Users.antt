-- The user of a name.
use Rattle.std.proofs.Common.{◌≡◌, ◌∙◌, ℕ, List, [], ◌∷◌, Bool, true, false, Option, Some, None, map, refl, ap, cond, slice_get}
use Rattle.std.specs.Prelude.{if◌then◌else◌}
use Rattle.std.specs.List.{find, position, position_or_len}
use Rattle.std.specs.Str.{bytes_eq}
use Rattle.std.specs.String.{string_bytes}
use Rattle.spk_door.specs.Data.{UserData, Comes, Refused}
use Rattle.spk_door.specs.Rules.{entry_by, knows, user_in}
use Rattle.spk_door.specs.View.{user_view}
use Rattle.spk_door.specs.declared.door.User.{User}
use Rattle.std.specs.Option.{option_map}
use Rattle.std.proofs.lemmas.Bool.{ltb-false}
use Rattle.std.proofs.lemmas.List.Folds.{find_at}
use Rattle.std.proofs.lemmas.Option.{slice_get_past}

placed : (b : Bool) (n k : ℕ) → cond b (Some n) None ≡ Some k → n ≡ k
placed true n k h = cc
placed false n k h = cc

unplaced : (b : Bool) (n : ℕ) → cond b (Some n) None ≡ None → b ≡ false
unplaced true n h = cc
unplaced false n h = refl

-- the first that passes stands at its place
pub find-placed : {X : Type 0} (p : X → Bool) (xs : List X) (k : ℕ) → position p xs ≡ Some k → find p xs ≡ slice_get xs k
find-placed p xs k h = find_at p xs ∙ ap (slice_get xs) (placed _ (position_or_len p xs) k h)

pub find-unplaced : {X : Type 0} (p : X → Bool) (xs : List X) → position p xs ≡ None → find p xs ≡ None
find-unplaced p xs h = find_at p xs ∙ slice_get_past xs (position_or_len p xs) (ltb-false _ _ (unplaced _ (position_or_len p xs) h))

found_here : {X Y : Type 0} (b : Bool) (p : X → Bool) (v : X → Y) (x : X) (xs : List X) (rest : Option Y) → p x ≡ b → rest ≡ option_map v (find p xs)
    → cond b (Some (v x)) rest ≡ option_map v (find p (x ∷ xs))
found_here true p v x xs rest is ih = rw is refl
found_here false p v x xs rest is ih = rw is ih

-- the first that passes of a list whose elements are made something else
pub find-mapped : {X Y : Type 0} (q : Y → Bool) (v : X → Y) (xs : List X) → find q (map v xs) ≡ option_map v (find (λ x. q (v x)) xs)
find-mapped q v [] = refl
find-mapped q v (x ∷ xs) = found_here (q (v x)) (λ y. q (v y)) v x xs (find q (map v xs)) refl (find-mapped q v xs)

abbrev is_named : List ℕ → User → Bool
is_named name u = bytes_eq (string_bytes u.name) name

-- the user at the place of a name
pub user-placed : (users : List User) (name : List ℕ) (k : ℕ) (u : User) → position (is_named name) users ≡ Some k → slice_get users k ≡ Some u
    → user_in (map user_view users) name ≡ Some (user_view u)
user-placed users name k u h at =
    find-mapped (λ (u : UserData). bytes_eq u.name name) user_view users ∙ ap (option_map user_view) (find-placed (is_named name) users k h ∙ at)

pub user-unplaced : (users : List User) (name : List ℕ) → position (is_named name) users ≡ None → user_in (map user_view users) name ≡ None
user-unplaced users name h =
    find-mapped (λ (u : UserData). bytes_eq u.name name) user_view users ∙ ap (option_map user_view) (find-unplaced (is_named name) users h)

-- what a login is answered, by the user of its name
pub by-user : (users : List UserData) (login : List ℕ × List ℕ) (u : UserData) (b : Bool) → user_in users login.0 ≡ Some u → knows u login.1 ≡ b
    → entry_by users (Some login) ≡ (if b then Comes (Some u.name) u.rights else Refused 4)
by-user users login u b is known = rw is (rw known refl)

pub by-nobody : (users : List UserData) (login : List ℕ × List ℕ) → user_in users login.0 ≡ None → entry_by users (Some login) ≡ Refused 4
by-nobody users login is = rw is refl
