-- Which filters a SUBSCRIBE gave, and how long they last (MQTT 3.1.1, 3.8 to 3.10).
use Rattle.std.specs.Prelude.{◌≡◌, ◌≢◌, ◌⊎◌, ◌==◌, ◌&&◌, ℕ, Bool, true, false, List, [], ◌∷◌, ◌++◌}
use Rattle.std.specs.List.{list_any}
use Rattle.std.specs.Str.{bytes_eq}
use Rattle.spk_packets.specs.Message.{Message, Connect, SubAck, Unsubscribe}
use Rattle.spk_broker_rules.specs.Data.{Session, Broker, Send}
use Rattle.spk_broker_rules.specs.Listening.{is_closed_in, lets_go}
use Rattle.spk_broker_rules.specs.Plan.{Event, Packet}
use Rattle.spk_broker_rules.specs.Step.{after, sits, step}
use Rattle.spk_broker_rules.specs.Table.{has}

-- the connection's session has a grant of this filter
abbrev pub holds : Broker → ℕ → List ℕ → Bool
holds b conn filter = list_any (λ (s : Session). sits conn s && has filter s.grants) b.sessions

-- one of these entries has this filter, and its code isn't 128; codes stand in the order of the entries (3.9.3)
abbrev pub Grants : List ℕ → List (List ℕ × ℕ) → List ℕ → Type 0
Grants filter [] codes = ⊥
Grants filter (e ∷ es) [] = ⊥
Grants filter (e ∷ es) (code ∷ codes) = ((e.0 ≡ filter) × (code ≢ 128)) ⊎ Grants filter es codes

-- one of these entries has this filter
abbrev pub asks_for : List ℕ → List (List ℕ × ℕ) → Bool
asks_for filter entries = list_any (λ (e : List ℕ × ℕ). bytes_eq e.0 filter) entries

-- what the event sends first is the SUBACK to this connection with these codes
abbrev pub IsAnswered : Broker → Event → (conn id : ℕ) → List ℕ → Type 0
IsAnswered b e conn id codes = (rest : List Send) × ((step b e).sends ≡ (record { conn = conn; packet = SubAck id codes }) ∷ rest)

-- a CONNECT
abbrev pub is_connect : Message → Bool
is_connect (Connect client clean alive will) = true
is_connect _ = false

-- an UNSUBSCRIBE that names this filter
abbrev pub names : List ℕ → Message → Bool
names filter (Unsubscribe id filters) = list_any (λ f. bytes_eq f filter) filters
names filter _ = false

-- the connection's client takes the filter back (3.10)
abbrev pub takes_off : ℕ → List ℕ → Event → Bool
takes_off conn filter (Packet d p moment) = d == conn && names filter p
takes_off conn filter _ = false

-- Through the events `later`, which came behind `before`, newest first: the connection's client neither ends it nor takes the filter back,
-- and nobody is told to close it.
abbrev pub Lasts : (limit conn : ℕ) → List ℕ → (later before : List Event) → Type 0
Lasts limit conn filter [] before = Unit {0}
Lasts limit conn filter (e ∷ l) before =
    (lets_go conn e ≡ false) × (takes_off conn filter e ≡ false) × (is_closed_in conn (step (after limit (l ++ before)) e) ≡ false)
    × Lasts limit conn filter l before
