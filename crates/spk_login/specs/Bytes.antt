-- How a user name and a password are put into the bytes of a CONNECT, and when not.
use Rattle.std.specs.Prelude.{ℕ, ◌+◌, Bool, false, ◌&&◌, ◌||◌, not, nat_lt, nat_eq, List, [], ◌∷◌, ◌++◌, length, take, drop, get_or, Option, Some, None, if◌then◌else◌}
use Rattle.spk_packets.specs.Grammar.{has_zero, largest}
use Rattle.spk_packets.specs.Spelling.{counted, shortest}
use Rattle.spk_login.specs.declared.fault.LoginFault.{LoginFault}
use Rattle.spk_login.specs.declared.fault.LoginFault.TheVariants.{BadText, TooLarge, NoConnect}

-- what stands behind the remaining length: behind the first byte without bit 7
abbrev pub after_length : List ℕ → List ℕ
after_length [] = []
after_length (b ∷ bs) = if nat_lt b 128 then bs else after_length bs

abbrev pub body_of : List ℕ → List ℕ
body_of bytes = after_length (drop 1 bytes)

-- what a password adds to the flags, and to the payload
abbrev pub password_flag : Option (List ℕ) → ℕ
password_flag None = 0
password_flag (Some password) = 64

abbrev pub password_part : Option (List ℕ) → List ℕ
password_part None = []
password_part (Some password) = counted password

-- the flags with the user name's bit, and the payload with both behind
abbrev pub body_with : List ℕ → List ℕ → Option (List ℕ) → List ℕ
body_with body user password =
    take 7 body ++ ((get_or body 7 0 + (128 + password_flag password)) ∷ (drop 8 body ++ (counted user ++ password_part password)))

-- a CONNECT's first byte, and flags that say no user name: then the flags have no password either
abbrev pub is_plain : List ℕ → Bool
is_plain bytes = nat_eq (get_or bytes 0 0) 16 && (nat_lt 7 (length (body_of bytes)) && nat_lt (get_or (body_of bytes) 7 0) 64)

abbrev pub is_long_password : Option (List ℕ) → Bool
is_long_password None = false
is_long_password (Some password) = nat_lt 65535 (length password)

-- the user name or the password can't stand in a CONNECT
abbrev pub is_bad : List ℕ → Option (List ℕ) → Bool
is_bad user password = nat_lt 65535 (length user) || (has_zero user || is_long_password password)

-- the bytes with both, behind the first byte and the remaining length
abbrev pub login_bytes : List ℕ → List ℕ → Option (List ℕ) → List ℕ
login_bytes bytes user password = let body = body_with (body_of bytes) user password in 16 ∷ (shortest (length body) ++ body)

-- a packet with this body and both has no more bytes than a packet may have
abbrev pub fits : List ℕ → List ℕ → Option (List ℕ) → Bool
fits body user password = not (nat_lt largest (length (16 ∷ (shortest (length (body_with body user password)) ++ body_with body user password))))

-- the first reason that holds why they aren't put in
abbrev pub refusal : List ℕ → List ℕ → Option (List ℕ) → Option LoginFault
refusal bytes user password =
    if not (is_plain bytes) then Some NoConnect
    else if is_bad user password then Some BadText
    else if not (fits (body_of bytes) user password) then Some TooLarge
    else None
