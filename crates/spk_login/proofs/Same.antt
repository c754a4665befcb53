-- The same CONNECT, with a user name and a password.
use Rattle.std.proofs.Common.{◌≡◌, ◌∙◌, sym, ap, refl, subst, inl, inr, ◌⊎◌, ℕ, ◌+◌, ◌-◌, ◌*◌, ◌/◌, ◌%◌, ◌<◌, ◌≤◌, Bool, true, false, true≢false, cond, not, ◌&&◌, ◌||◌, nat_lt, nat_eq, List, [], ◌∷◌, ◌++◌, append_assoc, append-nil, length, take, drop, get_or, Option, Some, None, arith}
use Rattle.std.specs.Str.{IsUtf8}
use Rattle.std.proofs.lemmas.Bool.{ltb-true, ltb-false}
use Rattle.spk_packets.specs.Grammar.{IsConnect, IsCounted, IsNumber, IsPasswordPart, IsText, IsUserPart, Spells, bit, connect_flags, has_zero, is_there, largest, protocol, will_bits}
use Rattle.spk_packets.specs.Message.{Connect, WillData}
use Rattle.spk_packets.specs.Spelling.{counted, number, shortest}
use Rattle.spk_login.specs.declared.fault.LoginFault.TheVariants as fault
use Rattle.spk_login.specs.Bytes.{body_of, body_with, fits, is_bad, is_long_password, is_plain, login_bytes, password_flag, password_part, refusal}
use Rattle.spk_login.specs.Login.{LogsIn}
use Rattle.spk_login.proofs.Lengths.{behind, is_length}

-- ---- the parts of a plain CONNECT

none_there : (u p : Bool) (w : ℕ) (c : Bool) → 128 * bit u + 64 * bit p + w + 2 * bit c < 64 → (u ≡ false) × (p ≡ false)
none_there true p w c less = absurd (omega (arith, less))
none_there false true w c less = absurd (omega (arith, less))
none_there false false w c less = (refl, refl)

no_user : (text : List ℕ) (user : Option (List ℕ)) → is_there user ≡ false → IsUserPart text user → text ≡ []
no_user text None none part = part
no_user text (Some user) none part = absurd (true≢false none)

no_password : (text : List ℕ) (password : Option (List ℕ)) → is_there password ≡ false → IsPasswordPart text password → text ≡ []
no_password text None none part = part
no_password text (Some password) none part = absurd (true≢false none)

-- a plain CONNECT's body: its flags without both, and the payload without both
record Plain (body client : List ℕ) (clean : Bool) (keep : ℕ) (will : Option WillData) : Type 0 where
  rest : List ℕ
  keep_text : List ℕ
  client_text : List ℕ
  will_text : List ℕ
  is_keep : IsNumber keep_text keep
  is_client : IsText client_text client
  is_will : Rattle.spk_packets.specs.Grammar.IsWillPart will_text will
  parts : body ≡ protocol ++ (connect_flags false false will clean ∷ (keep_text ++ (client_text ++ will_text)))

plain_of : (body client : List ℕ) (clean : Bool) (keep : ℕ) (will : Option WillData) → IsConnect body client clean keep will → get_or body 7 0 < 64 → Plain body client clean keep will
plain_of body client clean keep will c small =
    let flags : get_or body 7 0 ≡ connect_flags (is_there c.user) (is_there c.password) will clean = ap (λ xs. get_or xs 7 0) c.parts in
    let none = none_there (is_there c.user) (is_there c.password) (will_bits will) clean (subst (λ n. n < 64) flags small) in
    let user = no_user c.user_text c.user none.0 c.is_user in
    let password = no_password c.password_text c.password none.1 c.is_password in
    record {
      rest = [];
      keep_text = c.keep_text;
      client_text = c.client_text;
      will_text = c.will_text;
      is_keep = c.is_keep;
      is_client = c.is_client;
      is_will = c.is_will;
      parts = c.parts
          ∙ ap (λ u. protocol ++ (connect_flags u (is_there c.password) will clean ∷ (c.keep_text ++ (c.client_text ++ (c.will_text ++ (c.user_text ++ c.password_text)))))) none.0
          ∙ ap (λ p. protocol ++ (connect_flags false p will clean ∷ (c.keep_text ++ (c.client_text ++ (c.will_text ++ (c.user_text ++ c.password_text)))))) none.1
          ∙ ap (λ t. protocol ++ (connect_flags false false will clean ∷ (c.keep_text ++ (c.client_text ++ (c.will_text ++ (t ++ c.password_text)))))) user
          ∙ ap (λ t. protocol ++ (connect_flags false false will clean ∷ (c.keep_text ++ (c.client_text ++ (c.will_text ++ t))))) password
          ∙ ap (λ t. protocol ++ (connect_flags false false will clean ∷ (c.keep_text ++ (c.client_text ++ t)))) (append-nil c.will_text);
    }

-- ---- what is put in

is_number : (n : ℕ) → n < 65536 → IsNumber (number n) n
is_number n small = (n / 256 % 256, n % 256, refl, omega (arith, small))

is_counted : (bytes : List ℕ) → length bytes ≤ 65535 → IsCounted (counted bytes) bytes
is_counted bytes few = (number (length bytes), is_number (length bytes) (omega (arith, few)), refl)

flags_with : (password : Option (List ℕ)) (w : ℕ) (c : Bool) → (128 * bit false + 64 * bit false + w + 2 * bit c) + (128 + password_flag password) ≡ 128 * bit true + 64 * bit (is_there password) + w + 2 * bit c
flags_with None w c = omega arith
flags_with (Some password) w c = omega arith

is_password_part : (password : Option (List ℕ)) → is_long_password password ≡ false → IsPasswordPart (password_part password) password
is_password_part None few = refl
is_password_part (Some password) few = is_counted password (ltb-false 65535 (length password) few)

-- the user name and the password are good
record Good (user : List ℕ) (password : Option (List ℕ)) : Type 0 where
  few : length user ≤ 65535
  no_zero : has_zero user ≡ false
  short : is_long_password password ≡ false

none_of : (a b c : Bool) → (a || (b || c)) ≡ false → (a ≡ false) × (b ≡ false) × (c ≡ false)
none_of true b c e = absurd (true≢false e)
none_of false true c e = absurd (true≢false e)
none_of false false c e = (refl, refl, e)

good_of : (user : List ℕ) (password : Option (List ℕ)) → is_bad user password ≡ false → Good user password
good_of user password e =
    let parts = none_of (nat_lt 65535 (length user)) (has_zero user) (is_long_password password) e in
    record { few = ltb-false 65535 (length user) parts.0; no_zero = parts.1; short = parts.2 }

moved : (keep client will both : List ℕ) → (keep ++ (client ++ will)) ++ both ≡ keep ++ (client ++ (will ++ both))
moved keep client will both = append_assoc keep (client ++ will) both ∙ ap (λ t. keep ++ t) (append_assoc client will both)

connect_with : (body client : List ℕ) (clean : Bool) (keep : ℕ) (will : Option WillData) (user : List ℕ) (password : Option (List ℕ))
    → Plain body client clean keep will → Good user password → IsUtf8 user
    → (c : IsConnect (body_with body user password) client clean keep will) × (c.user ≡ Some user) × (c.password ≡ password)
connect_with body client clean keep will user password p good utf8 = (
  record {
    user = Some user;
    password = password;
    keep_text = p.keep_text;
    client_text = p.client_text;
    will_text = p.will_text;
    user_text = counted user;
    password_text = password_part password;
    is_keep = p.is_keep;
    is_client = p.is_client;
    is_will = p.is_will;
    is_user = (is_counted user good.few, utf8, good.no_zero);
    is_password = is_password_part password good.short;
    no_password_alone = λ there. refl;
    parts = ap (λ xs. body_with xs user password) p.parts
        ∙ ap (λ n. protocol ++ (n ∷ ((p.keep_text ++ (p.client_text ++ p.will_text)) ++ (counted user ++ password_part password)))) (flags_with password (will_bits will) clean)
        ∙ ap (λ t. protocol ++ (connect_flags true (is_there password) will clean ∷ t)) (moved p.keep_text p.client_text p.will_text (counted user ++ password_part password));
  },
  refl,
  refl,
)

-- ---- all of it

record Accepts (bytes user : List ℕ) (password : Option (List ℕ)) : Type 0 where
  plain : is_plain bytes ≡ true
  good : is_bad user password ≡ false
  small : fits (body_of bytes) user password ≡ true

accepts : (bytes user : List ℕ) (password : Option (List ℕ)) → refusal bytes user password ≡ None → Accepts bytes user password
accepts bytes user password e = go (is_plain bytes) (is_bad user password) (fits (body_of bytes) user password) refl refl refl e
  where
    go : (a b c : Bool) → is_plain bytes ≡ a → is_bad user password ≡ b → fits (body_of bytes) user password ≡ c
        → cond (not a) (Some fault.NoConnect) (cond b (Some fault.BadText) (cond (not c) (Some fault.TooLarge) None)) ≡ None
        → Accepts bytes user password
    go false b c ea eb ec e = absurd cc
    go true true c ea eb ec e = absurd cc
    go true false false ea eb ec e = absurd cc
    go true false true ea eb ec e = record { plain = ea; good = eb; small = ec }

not_true : (b : Bool) → not b ≡ true → b ≡ false
not_true true e = sym e
not_true false e = refl

all_three : (a b c : Bool) → (a && (b && c)) ≡ true → c ≡ true
all_three true true c e = e
all_three true false c e = absurd (true≢false (sym e))
all_three false b c e = absurd (true≢false (sym e))

pub logs_in : (bytes user : List ℕ) (password : Option (List ℕ)) (client : List ℕ) (clean : Bool) (keep : ℕ) (will : Option WillData) → IsUtf8 user
    → refusal bytes user password ≡ None → Spells bytes (Connect client clean keep will) → LogsIn (login_bytes bytes user password) client clean keep will user password
logs_in bytes user password client clean keep will utf8 none s =
    let ok : Accepts bytes user password = accepts bytes user password none in
    let is : body_of bytes ≡ s.body = ap body_of s.parts ∙ behind s.size s.body (length s.body) s.is_size.1 in
    let flags : get_or s.body 7 0 < 64 = subst (λ b. get_or b 7 0 < 64) is (ltb-true (get_or (body_of bytes) 7 0) 64 (all_three (nat_eq (get_or bytes 0 0) 16) (nat_lt 7 (length (body_of bytes))) (nat_lt (get_or (body_of bytes) 7 0) 64) ok.plain)) in
    let c = connect_with s.body client clean keep will user password (plain_of s.body client clean keep will s.is_body flags) (good_of user password ok.good) utf8 in
    let body : List ℕ = body_with s.body user password in
    let same : login_bytes bytes user password ≡ 16 ∷ (shortest (length body) ++ body) = ap (λ b. 16 ∷ (shortest (length (body_with b user password)) ++ body_with b user password)) is in
    let le = ltb-false largest (length (login_bytes bytes user password)) (not_true (nat_lt largest (length (login_bytes bytes user password))) ok.small) in
    let size : length body < 2097152 = small_body (shortest (length body)) body (login_bytes bytes user password) same le in
    record {
      size = shortest (length body);
      body = body;
      is_size = is_length (length body) size;
      is_body = c.0;
      is_user = c.1;
      is_password = c.2;
      parts = same;
      small = le;
    }
  where
    small_body : (size body bytes : List ℕ) → bytes ≡ 16 ∷ (size ++ body) → length bytes ≤ 1048576 → length body < 2097152
    small_body size body bytes e le =
        let l : length bytes ≡ length (16 ∷ (size ++ body)) = ap length e in
        let a = Rattle.std.proofs.Common.length-append size body in omega (arith, l, a, le)

-- ---- what is refused, and what is not

pub plain_first : (bytes user : List ℕ) (password : Option (List ℕ)) → is_plain bytes ≡ false → refusal bytes user password ≡ Some fault.NoConnect
plain_first bytes user password a = rw a refl

pub bad_next : (bytes user : List ℕ) (password : Option (List ℕ)) → is_plain bytes ≡ true → is_bad user password ≡ true → refusal bytes user password ≡ Some fault.BadText
bad_next bytes user password a b = ap (λ x. cond (not x) (Some fault.NoConnect) (cond (is_bad user password) (Some fault.BadText) (cond (not (fits (body_of bytes) user password)) (Some fault.TooLarge) None))) a
    ∙ ap (λ x. cond x (Some fault.BadText) (cond (not (fits (body_of bytes) user password)) (Some fault.TooLarge) None)) b

pub large_last : (bytes user : List ℕ) (password : Option (List ℕ)) (c : Bool) → is_plain bytes ≡ true → is_bad user password ≡ false → fits (body_of bytes) user password ≡ c
    → refusal bytes user password ≡ cond (not c) (Some fault.TooLarge) None
large_last bytes user password c a b d = ap (λ x. cond (not x) (Some fault.NoConnect) (cond (is_bad user password) (Some fault.BadText) (cond (not (fits (body_of bytes) user password)) (Some fault.TooLarge) None))) a
    ∙ ap (λ x. cond x (Some fault.BadText) (cond (not (fits (body_of bytes) user password)) (Some fault.TooLarge) None)) b
    ∙ ap (λ x. cond (not x) (Some fault.TooLarge) None) d

-- ---- what may be done where nothing refuses

pub is_long_enough : (bytes user : List ℕ) (password : Option (List ℕ)) → refusal bytes user password ≡ None → 7 < length (body_of bytes)
is_long_enough bytes user password none =
    let ok : Accepts bytes user password = accepts bytes user password none in
    ltb-true 7 (length (body_of bytes)) (second (nat_eq (get_or bytes 0 0) 16) (nat_lt 7 (length (body_of bytes))) (nat_lt (get_or (body_of bytes) 7 0) 64) ok.plain)
  where
    second : (a b c : Bool) → (a && (b && c)) ≡ true → b ≡ true
    second true true c e = refl
    second true false c e = e
    second false b c e = absurd (true≢false (sym e))

pub has_low_flags : (bytes user : List ℕ) (password : Option (List ℕ)) → refusal bytes user password ≡ None → get_or (body_of bytes) 7 0 < 64
has_low_flags bytes user password none =
    let ok : Accepts bytes user password = accepts bytes user password none in
    ltb-true (get_or (body_of bytes) 7 0) 64 (all_three (nat_eq (get_or bytes 0 0) 16) (nat_lt 7 (length (body_of bytes))) (nat_lt (get_or (body_of bytes) 7 0) 64) ok.plain)

pub is_good : (bytes user : List ℕ) (password : Option (List ℕ)) → refusal bytes user password ≡ None → is_bad user password ≡ false
is_good bytes user password none = (accepts bytes user password none).good

pub is_small : (bytes user : List ℕ) (password : Option (List ℕ)) → refusal bytes user password ≡ None → length (body_with (body_of bytes) user password) < 268435456
is_small bytes user password none =
    let ok : Accepts bytes user password = accepts bytes user password none in
    let le = ltb-false largest (length (login_bytes bytes user password)) (not_true (nat_lt largest (length (login_bytes bytes user password))) ok.small) in
    let body : List ℕ = body_with (body_of bytes) user password in
    let a = Rattle.std.proofs.Common.length-append (shortest (length body)) body in omega (arith, le, a)
