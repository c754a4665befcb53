-- The levels of a text that is cut at its first slash.
use Rattle.std.proofs.Common.{◌≡◌, ◌≢◌, ◌<◌, ℕ, List, [], ◌∷◌, ◌++◌, Bool, true, false, length, refl, ap, sym, arith, get_or, nat_eq, suc, cond, Option, Some, None, Bor}
use Rattle.std.specs.Prelude.{is_some, not}
use Rattle.std.specs.Option.{option_map}
use Rattle.std.proofs.lemmas.Bool.{eqb-true}
use Rattle.spk_topics.specs.Levels.{levels, levels_left, widened, is_empty}
use Rattle.spk_access.specs.Rights.{named_rights, rights_by}

-- no byte of it is a slash
abbrev pub HasNoSlash : List ℕ → Type 0
HasNoSlash text = (i : ℕ) → i < length text → get_or text i 0 ≢ 47

behind : (b : ℕ) (l : List ℕ) → HasNoSlash (b ∷ l) → HasNoSlash l
behind b l none i within is = none (suc i) (omega (arith, within)) is

front : (b : ℕ) (t : Bool) (l s : List ℕ) → nat_eq b 47 ≡ t → HasNoSlash (b ∷ l) → levels (l ++ 47 ∷ s) ≡ l ∷ levels s → levels (b ∷ (l ++ 47 ∷ s)) ≡ (b ∷ l) ∷ levels s
front b true l s e none ih = absurd (none 0 (omega arith) (eqb-true b 47 e))
front b false l s e none ih = rw e (ap (widened b) ih)

pub levels-cut : (l s : List ℕ) → HasNoSlash l → levels (l ++ 47 ∷ s) ≡ l ∷ levels s
levels-cut [] s none = refl
levels-cut (b ∷ l) s none = front b (nat_eq b 47) l s refl none (levels-cut l s (behind b l none))

last : (b : ℕ) (t : Bool) (l : List ℕ) → nat_eq b 47 ≡ t → HasNoSlash (b ∷ l) → levels l ≡ l ∷ [] → levels (b ∷ l) ≡ (b ∷ l) ∷ []
last b true l e none ih = absurd (none 0 (omega arith) (eqb-true b 47 e))
last b false l e none ih = rw e (ap (widened b) ih)

pub levels-whole : (l : List ℕ) → HasNoSlash l → levels l ≡ l ∷ []
levels-whole [] none = refl
levels-whole (b ∷ l) none = last b (nat_eq b 47) l refl none (levels-whole l (behind b l none))

-- a text has a level
not_empty : (t : Bool) (b : ℕ) (ls : List (List ℕ)) → is_empty ls ≡ false → is_empty (cond t ([] ∷ ls) (widened b ls)) ≡ false
not_empty true b ls h = refl
not_empty false b [] h = refl
not_empty false b (l ∷ ls) h = refl

pub is_empty-levels : (s : List ℕ) → is_empty (levels s) ≡ false
is_empty-levels [] = refl
is_empty-levels (b ∷ s) = not_empty (nat_eq b 47) b (levels s) (is_empty-levels s)

-- nothing is left exactly where no level is left
pub is_empty-left : (o : Option (Bor (List ℕ))) (b : Bool) → is_some o ≡ not b → b ≡ is_empty (levels_left (option_map (λ rest. rest.now) o))
is_empty-left None true h = refl
is_empty-left None false h = cc
is_empty-left (Some rest) true h = cc
is_empty-left (Some rest) false h = sym (is_empty-levels rest.now)

-- a client whose identifier has three levels or more is neither a node nor a host
more_levels : (one two : List ℕ) (ls : List (List ℕ)) → is_empty ls ≡ false → rights_by (one ∷ two ∷ ls) ≡ named_rights None None
more_levels one two [] h = cc
more_levels one two (l ∷ ls) h = refl

pub nobody-by : (one two : List ℕ) (o : Option (Bor (List ℕ))) → true ≡ is_some o → rights_by (one ∷ two ∷ levels_left (option_map (λ rest. rest.now) o)) ≡ named_rights None None
nobody-by one two None h = cc
nobody-by one two (Some rest) h = more_levels one two (levels rest.now) (is_empty-levels rest.now)
