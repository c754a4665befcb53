-- The bytes of a CONNECT that says a user name and a password (MQTT 3.1.1, section 3.1).
use Rattle.std.specs.Prelude.{◌≡◌, ℕ, ◌≤◌, Bool, List, ◌∷◌, ◌++◌, length, Option, Some}
use Rattle.spk_packets.specs.Grammar.{IsConnect, IsLength, largest}
use Rattle.spk_packets.specs.Message.{WillData}

-- The bytes spell the CONNECT of this client, and say this user name, and this password where there is one.
pub record LogsIn (bytes client : List ℕ) (clean : Bool) (keep : ℕ) (will : Option WillData) (user : List ℕ) (password : Option (List ℕ)) : Type 0 where
  pub size : List ℕ
  pub body : List ℕ
  pub is_size : IsLength size (length body)
  pub is_body : IsConnect body client clean keep will
  pub is_user : is_body.user ≡ Some user
  pub is_password : is_body.password ≡ password
  pub parts : bytes ≡ 16 ∷ (size ++ body)
  pub small : length bytes ≤ largest
