-- Lists of lists, changed as a whole or each for itself.
use Rattle.std.proofs.Common.{◌≡◌, ℕ, ◌==◌, Bool, true, false, not, cond, List, [], ◌∷◌, ◌++◌, map, refl, sym, ap, ◌∙◌, Option, Some, None}
use Rattle.std.specs.List.{filter, flat_map}
use Rattle.std.specs.Option.{option_map}
use Rattle.std.proofs.lemmas.List.{map-append}
use Rattle.std.proofs.lemmas.List.Elements.{filter-append}
use Rattle.spk_broker_rules.specs.Data as plain
use Rattle.spk_broker_rules.specs.Step.{other_newcomers}
use Rattle.spk_broker_rules.specs.Words.{option_list}

pub map-flat : {X Y Z : Type 0} (f : Y → Z) (n : X → List Y) (xs : List X) → flat_map (λ x. map f (n x)) xs ≡ map f (flat_map n xs)
map-flat f n [] = refl
map-flat f n (x ∷ xs) = ap (λ l. map f (n x) ++ l) (map-flat f n xs) ∙ sym (map-append f (n x) (flat_map n xs))

pub other-flat : {X : Type 0} (conn : ℕ) (n : X → List plain.Newcomer) (xs : List X) → flat_map (λ x. other_newcomers conn (n x)) xs ≡ other_newcomers conn (flat_map n xs)
other-flat conn n [] = refl
other-flat conn n (x ∷ xs) =
    ap (λ l. other_newcomers conn (n x) ++ l) (other-flat conn n xs)
    ∙ sym (filter-append (λ (g : plain.Newcomer). not (g.conn == conn)) (n x) (flat_map n xs))

pub single-flat : {X Y : Type 0} (w : X → Y) (xs : List X) → flat_map (λ x. w x ∷ []) xs ≡ map w xs
single-flat w [] = refl
single-flat w (x ∷ xs) = ap (λ l. w x ∷ l) (single-flat w xs)

pub option-flat : {X Y : Type 0} (f : X → Y) (o : Option X) (p : Option Y) → p ≡ option_map f o → option_list p ≡ map f (option_list o)
option-flat f None p e = ap option_list e
option-flat f (Some x) p e = ap option_list e

-- ---- who left is taken out

-- those that stay, where each of the others gives nothing
pub filter-flat : {X Y : Type 0} (p : X → Bool) (n : X → List Y) → ((x : X) → p x ≡ false → n x ≡ []) → (xs : List X) → flat_map n (filter p xs) ≡ flat_map n xs
filter-flat p n h [] = refl
filter-flat {X} p n h (x ∷ xs) = by (p x) refl (filter-flat p n h xs)
  where
    by : (b : Bool) → p x ≡ b → flat_map n (filter p xs) ≡ flat_map n xs → flat_map n (cond b (x ∷ filter p xs) (filter p xs)) ≡ n x ++ flat_map n xs
    by true e rest = ap (λ l. n x ++ l) rest
    by false e rest = rest ∙ ap (λ l. l ++ flat_map n xs) (sym (h x e))

-- those that stay as they were
pub filter-map : {X Y : Type 0} (p : X → Bool) (w : X → Y) (n : X → List Y) → ((x : X) → p x ≡ true → n x ≡ w x ∷ []) → ((x : X) → p x ≡ false → n x ≡ [])
    → (xs : List X) → map w (filter p xs) ≡ flat_map n xs
filter-map p w n there none [] = refl
filter-map {X} p w n there none (x ∷ xs) = by (p x) refl (filter-map p w n there none xs)
  where
    by : (b : Bool) → p x ≡ b → map w (filter p xs) ≡ flat_map n xs → map w (cond b (x ∷ filter p xs) (filter p xs)) ≡ n x ++ flat_map n xs
    by true e rest = ap (λ l. w x ∷ l) rest ∙ ap (λ l. l ++ flat_map n xs) (sym (there x e))
    by false e rest = rest ∙ ap (λ l. l ++ flat_map n xs) (sym (none x e))
