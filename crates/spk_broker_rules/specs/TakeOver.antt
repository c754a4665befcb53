-- What a take-over and a DISCONNECT are, in the words of tellings.
use Rattle.std.specs.Prelude.{◌≡◌, ℕ, Bool, true, false, not, ◌&&◌, List, [], ◌∷◌, ◌++◌, Option, is_some}
use Rattle.std.specs.List.{AllByRecursion}
use Rattle.spk_packets.specs.Message.{WillData, Connect, ConnAck}
use Rattle.spk_packets.specs.Fault.{first_of}
use Rattle.spk_packets.specs.Spelling.{unwritable, is_empty}
use Rattle.spk_broker_rules.specs.Data.{Send}
use Rattle.spk_broker_rules.specs.Plan.{Leave, Route, has_bad_topic}
use Rattle.spk_broker_rules.specs.Past.{Past, is_open, is_welcome, routed}
use Rattle.spk_broker_rules.specs.Story.{Story, TellsAll}

-- a CONNECT that isn't turned away
pub record IsAccepted (h : Past) (name : List ℕ) (clean : Bool) (alive : ℕ) (will : Option WillData) : Type 0 where
  pub writable : is_some (first_of (unwritable (Connect name clean alive will))) ≡ false
  pub named : (is_empty name && not clean) ≡ false
  pub topic : has_bad_topic will ≡ false
  pub welcome : (not clean && not (is_welcome h name)) ≡ false

-- First the older connection leaves and its will is routed, with all that follows. Then CONNACK goes to the newer one, and what
-- its session keeps; then the older one is closed. All before CONNACK is what the leaving and the routing send and close.
pub record TakesOver (conn older : ℕ) (first end : Story) : Type 0 where
  pub wills : Story
  pub left : TellsAll (Leave older true ∷ Route ∷ []) first wills
  pub present : Bool
  pub again : List Send
  pub sends : end.sends ≡ wills.sends ++ (record { conn = conn; packet = ConnAck present 0 }) ∷ again
  pub to_newer : AllByRecursion (λ (s : Send). s.conn ≡ conn) again
  pub closes : end.closes ≡ wills.closes ++ older ∷ []

-- Nothing is routed, sent or closed, and the connection is open no more.
pub record GoesQuietly (conn : ℕ) (h : Past) (end : Story) : Type 0 where
  pub nothing_routed : routed end.past ≡ routed h
  pub nothing_sent : end.sends ≡ []
  pub nothing_closed : end.closes ≡ []
  pub nothing_waits : end.waiting ≡ []
  pub gone : is_open end.past conn ≡ false
