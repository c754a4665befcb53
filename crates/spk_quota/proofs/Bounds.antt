-- What messages count fits 64 bits for each user.
use Rattle.std.proofs.Common.{◌≡◌, ◌∙◌, ◌+◌, ◌<◌, ◌≤◌, ◌^◌, ◌==◌, ℕ, Bool, true, false, cond, max, List, [], ◌∷◌, ◌++◌, Option, Some, None, refl, sym, ap, subst, arith}
use Rattle.std.specs.Prelude.{unwrap_or, is_none, ◌&&◌}
use Rattle.std.specs.List.{filter, find, sum_by}
use Rattle.std.specs.Option.{option_map}
use Rattle.std.specs.Str.{bytes_eq}
use Rattle.std.proofs.lemmas.Bool.{eqb-true}
use Rattle.std.proofs.lemmas.List.Sums.{sum_by_push}
use Rattle.spk_quota.specs.Data.{MessageData}
use Rattle.spk_quota.specs.Held.{bytes_for}
use Rattle.spk_quota.specs.Step.{is_retained, settled}
use Rattle.spk_quota.proofs.Lists.{filter-less, found-part, found-passes}
use Rattle.spk_quota.proofs.Settling.{IsShared, settled-less}

abbrev pub IsBounded : List MessageData → Type 0
IsBounded xs = (user : ℕ) → sum_by (bytes_for user) xs < 2 ^ 64

-- fewer fit too
pub fewer : (p : MessageData → Bool) (xs ys : List MessageData) → ys ≡ filter p xs → IsBounded xs → IsBounded ys
fewer p xs ys is bounded user =
    let P : List MessageData → Type 0 = λ zs. sum_by (bytes_for user) zs < 2 ^ 64 in
    subst P (sym is) (omega (arith, filter-less p (bytes_for user) xs, bounded user))

-- and one more that fits for its user
pub one-more : (xs : List MessageData) (m : MessageData) → sum_by (bytes_for m.user) xs + m.bytes < 2 ^ 64 → IsBounded xs → IsBounded (xs ++ m ∷ [])
one-more xs m low bounded user = by (m.user == user) refl
  where
    by : (b : Bool) → (m.user == user) ≡ b → sum_by (bytes_for user) (xs ++ m ∷ []) < 2 ^ 64
    by true is =
        let here : sum_by (bytes_for user) xs + m.bytes < 2 ^ 64 = subst (λ u. sum_by (bytes_for u) xs + m.bytes < 2 ^ 64) (eqb-true m.user user is) low in
        omega (arith, here, sum_by_push (bytes_for user) xs m, ap (λ b. cond b m.bytes 0) is)
    by false is = omega (arith, bounded user, sum_by_push (bytes_for user) xs m, ap (λ b. cond b m.bytes 0) is)

pub replaced : (p : MessageData → Bool) (xs zs : List MessageData) (m : MessageData) (user : ℕ) → zs ≡ filter p xs ++ m ∷ [] → m.user ≡ user
    → sum_by (bytes_for user) (filter p xs) + m.bytes < 2 ^ 64 → IsBounded xs → IsBounded zs
replaced p xs zs m user is whose low bounded =
    subst IsBounded (sym is) (one-more (filter p xs) m (subst (λ u. sum_by (bytes_for u) (filter p xs) + m.bytes < 2 ^ 64) (sym whose) low) (fewer p xs (filter p xs) refl bounded))

-- ---- a will that becomes a retained message

both-first : (a b c : Bool) → (a && b) && c ≡ true → b ≡ true
both-first true true c h = refl
both-first true false c h = h
both-first false b c h = cc

-- of the greater size
pub bytes-shared : (user : ℕ) (messages : List MessageData) → IsShared (bytes_for user) messages
bytes-shared user messages will = by (find (is_retained will.user will.topic) messages) refl (will.user == user) refl
  where
    by : (o : Option MessageData) → find (is_retained will.user will.topic) messages ≡ o → (b : Bool) → (will.user == user) ≡ b
        → cond b (max will.bytes (unwrap_or (option_map (λ (m : MessageData). m.bytes) o) 0)) 0
        ≤ cond b will.bytes 0 + sum_by (λ m. cond (is_retained will.user will.topic m) (bytes_for user m) 0) messages
    by o found false is = omega arith
    by None found true is = omega arith
    by (Some r) found true is =
        let own : r.user ≡ will.user = eqb-true r.user will.user (both-first (is_none r.will_of) (r.user == will.user) (bytes_eq r.topic will.topic) (found-passes (is_retained will.user will.topic) messages r found)) in
        let here : bytes_for user r ≡ r.bytes = ap (λ u. cond (u == user) r.bytes 0) own ∙ ap (λ b. cond b r.bytes 0) is in
        omega (arith, here, found-part (is_retained will.user will.topic) (bytes_for user) messages r found)

pub settled-bounded : (conn : ℕ) (xs ys : List MessageData) → ys ≡ settled conn xs → IsBounded xs → IsBounded ys
settled-bounded conn xs ys is bounded user =
    let P : List MessageData → Type 0 = λ zs. sum_by (bytes_for user) zs < 2 ^ 64 in
    subst P (sym is) (omega (arith, settled-less (bytes_for user) conn xs (bytes-shared user xs), bounded user))
