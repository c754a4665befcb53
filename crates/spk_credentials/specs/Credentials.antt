-- The user name and the password in the bytes of a CONNECT (MQTT 3.1.1, sections 3.1.2.8, 3.1.2.9, 3.1.3.4 and 3.1.3.5).
use Rattle.std.specs.Prelude.{ℕ, ◌+◌, ◌*◌, ◌/◌, ◌%◌, Bool, List, [], ◌∷◌, take, drop, get_or, nat_eq, nat_lt, Option, Some, None, if◌then◌else◌}

-- ---- bytes behind their length in two bytes (1.5.3), and what follows them

abbrev pub size_at : List ℕ → ℕ
size_at bytes = 256 * get_or bytes 0 0 + get_or bytes 1 0

abbrev pub counted_at : List ℕ → List ℕ
counted_at bytes = take (size_at bytes) (drop 2 bytes)

abbrev pub behind_counted : List ℕ → List ℕ
behind_counted bytes = drop (size_at bytes) (drop 2 bytes)

-- ---- the body, which stands behind the first byte and the remaining length

-- what stands behind the first byte without bit 7
abbrev pub behind_length : List ℕ → List ℕ
behind_length [] = []
behind_length (b ∷ bs) = if nat_lt b 128 then bs else behind_length bs

abbrev pub body_of : List ℕ → List ℕ
body_of packet = behind_length (drop 1 packet)

-- whether a flag stands in the connect flags, which are behind protocol name and level (3.1.2.3)
abbrev pub has_flag : (value : ℕ) → List ℕ → Bool
has_flag value body = nat_eq (get_or body 7 0 / value % 2) 1

abbrev pub user_flag : ℕ
user_flag = 128

abbrev pub password_flag : ℕ
password_flag = 64

abbrev pub will_flag : ℕ
will_flag = 4

-- ---- the payload: client identifier, will topic, will message, user name and password, as far as they are there

-- what follows the client identifier, which is behind the flags and the keep alive
abbrev pub behind_client : List ℕ → List ℕ
behind_client body = behind_counted (drop 10 body)

abbrev pub behind_will : List ℕ → List ℕ
behind_will body = if has_flag will_flag body then behind_counted (behind_counted (behind_client body)) else behind_client body

abbrev pub behind_user : List ℕ → List ℕ
behind_user body = if has_flag user_flag body then behind_counted (behind_will body) else behind_will body

abbrev pub user_in : List ℕ → Option (List ℕ)
user_in body = if has_flag user_flag body then Some (counted_at (behind_will body)) else None

abbrev pub password_in : List ℕ → Option (List ℕ)
password_in body = if has_flag password_flag body then Some (counted_at (behind_user body)) else None

-- the same of a packet
abbrev pub user_of : List ℕ → Option (List ℕ)
user_of packet = user_in (body_of packet)

abbrev pub password_of : List ℕ → Option (List ℕ)
password_of packet = password_in (body_of packet)
