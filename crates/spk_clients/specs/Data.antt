-- The clients of a server, by the numbers of their connections (own rules).
use Rattle.std.specs.Prelude.{◌≡◌, ◌≢◌, ◌<◌, ◌≤◌, ◌⊎◌, ℕ, nat_eq, Bool, true, false, List, [], Option, Some, None, Result, Contains}
use Rattle.std.specs.Option.{option_map, option_map_or, IfSome}
use Rattle.std.specs.HashMap.{get, hash_map_len, spare}
use Rattle.spk_session.specs.declared.answer.Sort.{Sort}
use Rattle.spk_clients.specs.declared.cause.Cause.{Cause}
use Rattle.spk_clients.specs.declared.client.Client.{Client}
use Rattle.spk_clients.specs.declared.client.Phase.{Phase}
use Rattle.spk_clients.specs.declared.client.Offered.{Offered}
use Rattle.spk_clients.specs.declared.client.Offered.TheVariants.{Passed}
use Rattle.spk_clients.specs.declared.clients.Clients.{Clients}
use Rattle.spk_outbox.specs.Data.{waiting}
use Rattle.spk_packets.specs.declared.packet.Packet.{Packet}
use Rattle.spk_packets.specs.declared.fault.PacketFault.{PacketFault}
use Rattle.spk_clients.specs.Client.{GivesFront, IsOffered, cause_done, has_moment, is_due, is_to_shut, is_untold, most_number}

abbrev pub client_at : Clients → ℕ → Option Client
client_at cs k = get nat_eq cs.table k

-- no client but this one has changed
abbrev pub OthersStay : ℕ → Clients → Clients → Type 0
OthersStay conn old new = (k : ℕ) → k ≢ conn → client_at new k ≡ client_at old k

abbrev pub OfferedTo : Sort → List ℕ → Option Client → Offered → Option Client → Type 0
OfferedTo sort bytes None r None = r ≡ Passed
OfferedTo sort bytes (Some c) r (Some d) = IsOffered sort bytes c r d
OfferedTo sort bytes None r (Some d) = ⊥
OfferedTo sort bytes (Some c) r None = ⊥

-- whoever was refused a packet of which the broker isn't told is among those that are to be told
abbrev pub AreListed : Clients → Type 0
AreListed cs = (k : ℕ) → IfSome (client_at cs k) (λ c. is_untold c ≡ true → Contains cs.untold.items k)

-- no client's moment comes before
abbrev pub IsEarly : ℕ → (ℕ → Option Client) → Type 0
IsEarly moment clients = (k : ℕ) → IfSome (clients k) (λ c. has_moment c.phase ≡ true → moment ≤ c.until)

-- it is named as one whose socket is to be shut; where a name was lost all clients are looked at
abbrev pub IsNamed : Clients → ℕ → Type 0
IsNamed cs k = cs.unnamed ≡ false → Contains cs.done.items k

-- a client's socket is to be shut, and wasn't before, only where it is said to be new
abbrev pub IsNewToShut : Option Client → Bool → Option Client → Type 0
IsNewToShut old is_new new = option_map_or is_to_shut new false ≡ true → option_map_or is_to_shut old false ≡ false → is_new ≡ true

-- whoever's socket is to be shut is named
abbrev pub AreNamed : Clients → Type 0
AreNamed cs = (k : ℕ) → IfSome (client_at cs k) (λ c. is_to_shut c ≡ true → IsNamed cs k)

-- what is noted of all clients is so
abbrev pub AreNoted : Clients → Type 0
AreNoted cs = AreListed cs × IsEarly cs.soonest (client_at cs) × AreNamed cs

-- it is the moment of a client, or the greatest number
abbrev pub IsMoment : ℕ → (ℕ → Option Client) → Type 0
IsMoment moment clients = (moment ≡ most_number) ⊎ ((k : ℕ) × (c : Client) × (clients k ≡ Some c) × (has_moment c.phase ≡ true) × (moment ≡ c.until))

-- the first moment of a client; the greatest number where none has one
abbrev pub IsSoonest : (ℕ → Option Client) → ℕ → Type 0
IsSoonest clients moment = IsEarly moment clients × IsMoment moment clients

-- no client's moment has come
abbrev pub NobodyIsDue : ℕ → (ℕ → Option Client) → Type 0
NobodyIsDue now clients = (k : ℕ) → option_map_or (is_due now) (clients k) false ≡ false

-- no client's socket is to be shut
abbrev pub NobodyIsToShut : (ℕ → Option Client) → Type 0
NobodyIsToShut clients = (k : ℕ) → option_map_or is_to_shut (clients k) false ≡ false

-- the table has room for one more client
abbrev pub HasRoom : Clients → Type 0
HasRoom cs = 0 < spare cs.table

abbrev pub client_count : Clients → ℕ
client_count cs = hash_map_len cs.table

-- one client is made something else, if it is there; no other has changed
abbrev pub Becomes : (Client → Client) → ℕ → Clients → Clients → Type 0
Becomes f conn old new = (client_at new conn ≡ option_map f (client_at old conn)) × OthersStay conn old new

-- all clients are as they were
abbrev pub AllStay : Clients → Clients → Type 0
AllStay old new = (k : ℕ) → client_at new k ≡ client_at old k

-- how far a client is; none that isn't there
abbrev pub phase_at : Clients → ℕ → Option Phase
phase_at cs k = option_map (λ (c : Client). c.phase) (client_at cs k)

-- why the end of a client came whose socket is to be shut; none where there is no such client
abbrev pub cause_at : Clients → ℕ → Option Cause
cause_at cs k = option_map_or cause_done (client_at cs k) None

-- the bytes that are still to be written to a client
abbrev pub waiting_at : Clients → ℕ → List ℕ
waiting_at cs k = option_map_or (λ (c : Client). waiting c.outbox) (client_at cs k) []

-- what stands at the front of what it sent is given
abbrev pub GivesFrontOf : Option Client → Option (Result Packet PacketFault) → Option Client → Type 0
GivesFrontOf None r None = r ≡ None
GivesFrontOf (Some c) r (Some d) = GivesFront c r d
GivesFrontOf None r (Some d) = ⊥
GivesFrontOf (Some c) r None = ⊥

-- the broker is told of every refused packet
abbrev pub IsSettled : Clients → Type 0
IsSettled cs = AreNoted cs × (cs.untold.items ≡ [])
