-- Where the user name and the password of a CONNECT stand.
use Rattle.std.proofs.Common.{◌≡◌, ◌∙◌, sym, ap, refl, ℕ, ◌/◌, ◌%◌, ◌≤◌, Bool, true, false, List, [], ◌∷◌, ◌++◌, append_assoc, append-nil, length, take, drop, nat_lt, nat_eq, get_or, Option, Some, None, arith}
use Rattle.std.specs.Prelude.{if◌then◌else◌}
use Rattle.std.proofs.lemmas.Bool.{lt-ltb, ltb-true}
use Rattle.std.proofs.Math.Seq.{take-append_seam, drop-append_seam}
use Rattle.spk_packets.specs.Grammar.{AreSevens, IsConnect, IsCounted, IsNumber, IsPasswordPart, IsText, IsUserPart, IsWillPart, Spells, connect_flags, is_there, protocol, will_bits}
use Rattle.spk_packets.specs.Message.{Connect, WillData}
use Rattle.spk_credentials.specs.Credentials.{behind_client, behind_counted, behind_length, behind_user, behind_will, body_of, counted_at, has_flag, password_flag, password_in, password_of, user_flag, user_in, user_of, will_flag}
use Rattle.spk_credentials.proofs.Flags.{bits-small, no-will-bit, password-bit, user-bit, will-bit}

-- ---- the body

not_less : (a b : ℕ) (x : Bool) → nat_lt a b ≡ x → b ≤ a → nat_lt a b ≡ false
not_less a b false e le = e
not_less a b true e le = absurd (omega (arith, ltb-true a b e, le))

behind-length : (size body : List ℕ) (n : ℕ) → AreSevens size n → behind_length (size ++ body) ≡ body
behind-length [] body n h = absurd h
behind-length (b ∷ []) body n h = rw (lt-ltb b 128 h.0) refl
behind-length (b ∷ c ∷ bs) body n h = rw (not_less b 128 (nat_lt b 128) refl h.0) (behind-length (c ∷ bs) body h.1.0 h.1.2)

body-of : (packet client : List ℕ) (clean : Bool) (keep : ℕ) (will : Option WillData) → (s : Spells packet (Connect client clean keep will)) → body_of packet ≡ s.body
body-of packet client clean keep will s = ap body_of s.parts ∙ behind-length s.size s.body (length s.body) s.is_size.1

-- ---- counted bytes

cut : (text bytes rest : List ℕ) → IsCounted text bytes → (counted_at (text ++ rest) ≡ bytes) × (behind_counted (text ++ rest) ≡ rest)
cut text bytes rest (front, (high, low, is_front, is_size), is_text) =
    let whole : text ++ rest ≡ high ∷ low ∷ (bytes ++ rest) = ap (λ t. t ++ rest) (is_text ∙ ap (λ f. f ++ bytes) is_front) in (
      ap counted_at whole ∙ ap (λ n. take n (bytes ++ rest)) (sym is_size) ∙ take-append_seam bytes rest,
      ap behind_counted whole ∙ ap (λ n. drop n (bytes ++ rest)) (sym is_size) ∙ drop-append_seam bytes rest,
    )

-- ---- the flags

flags-of : (body keep_text rest : List ℕ) (flags : ℕ) → body ≡ protocol ++ (flags ∷ (keep_text ++ rest)) → get_or body 7 0 ≡ flags
flags-of body keep_text rest flags parts = ap (λ b. get_or b 7 0) parts

bits-of : (text : List ℕ) (will : Option WillData) → IsWillPart text will → will_bits will ≤ 44
bits-of text None part = omega arith
bits-of text (Some w) part = bits-small w.retain w.qos part.4

if-true : {X : Type 0} (b : Bool) (x y : X) → b ≡ true → (if b then x else y) ≡ x
if-true true x y e = refl
if-true false x y e = cc

if-false : {X : Type 0} (b : Bool) (x y : X) → b ≡ false → (if b then x else y) ≡ y
if-false true x y e = cc
if-false false x y e = refl

-- ---- part by part

after-client : (body keep_text client_text client rest : List ℕ) (flags keep : ℕ) → body ≡ protocol ++ (flags ∷ (keep_text ++ (client_text ++ rest)))
    → IsNumber keep_text keep → IsText client_text client → behind_client body ≡ rest
after-client body keep_text client_text client rest flags keep parts (high, low, is_keep, is_number) is_client =
    ap behind_client (parts ∙ ap (λ k. protocol ++ (flags ∷ (k ++ (client_text ++ rest)))) is_keep) ∙ (cut client_text client rest is_client.0).1

after-will : (body will_text rest : List ℕ) (u p c : Bool) (will : Option WillData) → get_or body 7 0 ≡ connect_flags u p will c → IsWillPart will_text will
    → behind_client body ≡ will_text ++ rest → behind_will body ≡ rest
after-will body will_text rest u p c None flags part at =
    if-false (has_flag will_flag body) _ _ (ap (λ n. nat_eq (n / 4 % 2) 1) flags ∙ no-will-bit u p c) ∙ at ∙ ap (λ t. t ++ rest) part
after-will body will_text rest u p c (Some w) flags (topic, message, is_topic, is_message, few, is_text) at =
    let whole : behind_client body ≡ topic ++ (message ++ rest) = at ∙ ap (λ t. t ++ rest) is_text ∙ append_assoc topic message rest in
    if-true (has_flag will_flag body) _ _ (ap (λ n. nat_eq (n / 4 % 2) 1) flags ∙ will-bit u p c w.retain w.qos few)
    ∙ ap (λ t. behind_counted (behind_counted t)) whole ∙ ap behind_counted (cut topic w.topic (message ++ rest) is_topic.0).1 ∙ (cut message w.message rest is_message).1

user-is : (body user_text rest : List ℕ) (user : Option (List ℕ)) → has_flag user_flag body ≡ is_there user → IsUserPart user_text user → behind_will body ≡ user_text ++ rest
    → (user_in body ≡ user) × (behind_user body ≡ rest)
user-is body user_text rest None flag part at = (
  if-false (has_flag user_flag body) _ _ flag,
  if-false (has_flag user_flag body) _ _ flag ∙ at ∙ ap (λ t. t ++ rest) part,
)
user-is body user_text rest (Some user) flag part at = (
  if-true (has_flag user_flag body) _ _ flag ∙ ap (λ t. Some (counted_at t)) at ∙ ap Some (cut user_text user rest part.0).0,
  if-true (has_flag user_flag body) _ _ flag ∙ ap behind_counted at ∙ (cut user_text user rest part.0).1,
)

password-is : (body password_text : List ℕ) (password : Option (List ℕ)) → has_flag password_flag body ≡ is_there password → IsPasswordPart password_text password
    → behind_user body ≡ password_text → password_in body ≡ password
password-is body password_text None flag part at = if-false (has_flag password_flag body) _ _ flag
password-is body password_text (Some password) flag part at =
    if-true (has_flag password_flag body) _ _ flag ∙ ap (λ t. Some (counted_at t)) (at ∙ sym (append-nil password_text)) ∙ ap Some (cut password_text password [] part).0

-- ---- all of it

in-body : (body client : List ℕ) (clean : Bool) (keep : ℕ) (will : Option WillData) → (c : IsConnect body client clean keep will) → (user_in body ≡ c.user) × (password_in body ≡ c.password)
in-body body client clean keep will c =
    let u = is_there c.user in
    let p = is_there c.password in
    let tail = c.client_text ++ (c.will_text ++ (c.user_text ++ c.password_text)) in
    let flags = flags-of body c.keep_text tail (connect_flags u p will clean) c.parts in
    let few = bits-of c.will_text will c.is_will in
    let user_there : has_flag user_flag body ≡ u = ap (λ n. nat_eq (n / 128 % 2) 1) flags ∙ user-bit u p clean (will_bits will) few in
    let password_there : has_flag password_flag body ≡ p = ap (λ n. nat_eq (n / 64 % 2) 1) flags ∙ password-bit u p clean (will_bits will) few in
    let client_end = after-client body c.keep_text c.client_text client (c.will_text ++ (c.user_text ++ c.password_text)) (connect_flags u p will clean) keep c.parts c.is_keep c.is_client in
    let will_end = after-will body c.will_text (c.user_text ++ c.password_text) u p clean will flags c.is_will client_end in
    let (user, user_end) = user-is body c.user_text c.password_text c.user user_there c.is_user will_end in
    (user, password-is body c.password_text c.password password_there c.is_password user_end)

pub in-packet : (packet client : List ℕ) (clean : Bool) (keep : ℕ) (will : Option WillData) → Spells packet (Connect client clean keep will)
    → (body : List ℕ) × (c : IsConnect body client clean keep will) × (user_of packet ≡ c.user) × (password_of packet ≡ c.password)
in-packet packet client clean keep will s =
    let (user, password) = in-body s.body client clean keep will s.is_body in
    (s.body, s.is_body, ap user_in (body-of packet client clean keep will s) ∙ user, ap password_in (body-of packet client clean keep will s) ∙ password)
