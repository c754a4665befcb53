-- A filter without wildcards is offered the message on the topic that it is.
use Rattle.std.proofs.Common.{◌≡◌, ℕ, suc, ◌+◌, ◌≤◌, Bool, true, false, not, cond, ltb, List, [], ◌∷◌, ◌++◌, append-nil, length, refl, sym, ap, ◌∙◌, arith, Some, None, String, Global}
use Rattle.std.specs.List.{IsDistinct, position, position_or_len, slice_get}
use Rattle.std.specs.Map.{keys_of}
use Rattle.std.specs.Str.{bytes_eq}
use Rattle.std.specs.String.{string_bytes, string_eq}
use Rattle.std.proofs.lemmas.Bool.{ltb-false}
use Rattle.std.proofs.lemmas.List.{length-map}
use Rattle.std.proofs.lemmas.Option.{slice_get_past}
use Rattle.spk_topics.specs.Text.{is_plain}
use Rattle.spk_broker_rules.specs.Data as plain
use Rattle.spk_broker_rules.specs.Table.{Table, has}
use Rattle.spk_broker_rules.specs.Words.{offers_to}
use Rattle.spk_broker.specs.Offering.{offers_at, offers_in}
use Rattle.spk_broker.specs.Parts.{retained_view}
use Rattle.spk_broker.specs.declared.state.Stored.{Stored}
use Rattle.spk_broker.proofs.Fronts.{or_none, plain-match}
use Rattle.spk_broker.proofs.Offers.{offers-cons, offers-none}
use Rattle.spk_broker.proofs.Retaining.{Entries, bytes-flip, no-other, table_of}

none-offered : (f : List ℕ) (q : ℕ) (t : Table plain.Stored) → is_plain f ≡ true → has f t ≡ false → offers_to t (f, q) ≡ []
none-offered f q [] p h = refl
none-offered f q (x ∷ t) p h =
    let (this, rest) = or_none (bytes_eq x.0 f) (has f t) h in
    offers-cons (f, q) x t ∙ ap (λ l. l ++ offers_to t (f, q)) (sym (offers-none (f, q) x (plain-match f x.0 p ∙ bytes-flip f x.0 ∙ this))) ∙ none-offered f q t p rest

-- the place of a topic among those with a retained message, or how many there are
abbrev place_of : List ℕ → Entries → ℕ
place_of f es = position_or_len (λ (k : String Global). bytes_eq f (string_bytes k)) (keys_of es)

named : (f : List ℕ) (q : ℕ) (es : Entries) → is_plain f ≡ true → IsDistinct string_eq (keys_of es) → offers_at (slice_get (table_of es) (place_of f es)) (f, q) ≡ offers_to (table_of es) (f, q)
unfolding IsDistinct
named f q [] p d = refl
named f q (e ∷ es) p d = by (bytes_eq f (string_bytes e.0)) refl (named f q es p d.1)
  where
    by : (b : Bool) → bytes_eq f (string_bytes e.0) ≡ b → offers_at (slice_get (table_of es) (place_of f es)) (f, q) ≡ offers_to (table_of es) (f, q)
        → offers_at (slice_get (table_of (e ∷ es)) (cond (not b) (1 + place_of f es) 0)) (f, q) ≡ offers_to (table_of (e ∷ es)) (f, q)
    by true is rest =
        sym (offers-cons (f, q) (retained_view e) (table_of es) ∙ ap (λ l. offers_to (retained_view e ∷ []) (f, q) ++ l) (none-offered f q (table_of es) p (no-other e.0 f es is d.0))
        ∙ append-nil (offers_to (retained_view e ∷ []) (f, q)))
    by false is rest =
        let on : 1 + place_of f es ≡ suc (place_of f es) = omega arith in
        ap (λ n. offers_at (slice_get (table_of (e ∷ es)) n) (f, q)) on ∙ rest
        ∙ sym (offers-cons (f, q) (retained_view e) (table_of es)
        ∙ ap (λ l. l ++ offers_to (table_of es) (f, q)) (sym (offers-none (f, q) (retained_view e) (plain-match f (string_bytes e.0) p ∙ is))))

pub named-in : (f : List ℕ) (q : ℕ) (es : Entries) → is_plain f ≡ true → IsDistinct string_eq (keys_of es)
    → offers_in (position (λ (k : String Global). bytes_eq f (string_bytes k)) (keys_of es)) (table_of es) (f, q) ≡ offers_to (table_of es) (f, q)
named-in f q es p d = by (ltb (place_of f es) (length (keys_of es))) refl
  where
    by : (b : Bool) → ltb (place_of f es) (length (keys_of es)) ≡ b → offers_in (cond b (Some (place_of f es)) None) (table_of es) (f, q) ≡ offers_to (table_of es) (f, q)
    by true e = named f q es p d
    by false e =
        let low : length (keys_of es) ≤ place_of f es = ltb-false (place_of f es) (length (keys_of es)) e in
        let past : length (table_of es) ≤ place_of f es = omega (arith, length-map es (retained_view {A = Global}), length-map es (λ (x : String Global × Stored). x.0), low) in
        ap (λ o. offers_at o (f, q)) (sym (slice_get_past (table_of es) (place_of f es) past)) ∙ named f q es p d
