-- What goes back to a client behind the door (own rules over MQTT 3.1.1, sections 3.8.4 and 3.9.3).
use Rattle.std.specs.Prelude.{◌≡◌, ◌==◌, ℕ, Bool, true, false, List, [], ◌∷◌, ◌++◌, drop, map, Option, Some, None, unwrap_or, if◌then◌else◌}
use Rattle.std.specs.Option.{option_map_or}
use Rattle.std.specs.List.{list_any}
use Rattle.spk_packets.specs.Fault.{first_of}
use Rattle.spk_packets.specs.Message.{Message, SubAck}
use Rattle.spk_packets.specs.Refusals.{refusals}
use Rattle.spk_packets.specs.Spelling.{spelling}
use Rattle.spk_packets.specs.Stream.{TakesPacket}
use Rattle.spk_packets.specs.declared.fault.PacketFault.TheVariants as fault
use Rattle.spk_visitor.specs.Next.{passed}
use Rattle.spk_visitor.specs.declared.replies.Cut.{Cut}
use Rattle.spk_visitor.specs.declared.replies.Replies.{Replies}

-- a SUBSCRIBE that was cut: its identifier, and which of its entries are allowed
pub record CutData : Type 0 where
  pub id : ℕ
  pub allowed : List Bool

abbrev pub cuts_view : List Cut → List CutData
cuts_view cuts = map (λ (c : Cut). record { id = c.id; allowed = c.allowed.items }) cuts

-- the codes of a SUBACK: of the entries that are allowed the broker's, in order, and 128 of the others, and where the broker has none left
abbrev pub woven : List Bool → List ℕ → List ℕ
woven [] codes = []
woven (true ∷ more) [] = 128 ∷ woven more []
woven (true ∷ more) (code ∷ codes) = code ∷ woven more codes
woven (false ∷ more) codes = 128 ∷ woven more codes

-- the SUBACK that a client gets for one of the broker; none where it isn't the one that is awaited first
abbrev pub woven_for : List CutData → ℕ → List ℕ → Option Message
woven_for [] id codes = None
woven_for (cut ∷ cuts) id codes = if cut.id == id then Some (SubAck id (woven cut.allowed codes)) else None

-- what a packet of the broker comes to, where these SUBACKs are awaited: it goes on as it is, but for the one that is awaited first
abbrev pub reply : List CutData → Message → Message
reply cuts (SubAck id codes) = unwrap_or (woven_for cuts id codes) (SubAck id codes)
reply cuts p = p

-- which are awaited behind it
abbrev pub awaited : List CutData → Message → List CutData
awaited cuts (SubAck id codes) = option_map_or (λ (p : Message). drop 1 cuts) (woven_for cuts id codes) cuts
awaited cuts p = cuts

-- ---- a SUBSCRIBE is cut: the SUBACK of one of which nothing is left comes of nobody else

abbrev pub is_any : List Bool → Bool
is_any allowed = list_any (λ a. a) allowed

abbrev pub said_at_once : ℕ → List Bool → Option Message
said_at_once id allowed = if is_any allowed then None else Some (SubAck id (woven allowed []))

abbrev pub awaited_too : List CutData → ℕ → List Bool → List CutData
awaited_too cuts id allowed = if is_any allowed then cuts ++ record { id = id; allowed = allowed } ∷ [] else cuts

-- where it is put: nothing goes to a client before the broker's CONNACK (3.2.0-1)
abbrev pub said_now : (greeted : Bool) → ℕ → List Bool → List ℕ
said_now greeted id allowed = if greeted then passed (said_at_once id allowed) else []

abbrev pub said_later : (greeted : Bool) → ℕ → List Bool → List ℕ
said_later greeted id allowed = if greeted then [] else passed (said_at_once id allowed)

-- ---- what one call does: the packet at the front of what the broker sent goes on, if it is whole, and behind it what is owed

abbrev pub cuts_of : Replies → List CutData
cuts_of r = cuts_view r.cuts.items

-- a SUBSCRIBE that was cut is taken back
pub record IsAsBefore (old new : Replies) (out more : List ℕ) : Type 0 where
  pub cuts : cuts_of new ≡ cuts_of old
  pub owes : new.owed.items ≡ old.owed.items
  pub nothing : more ≡ out

pub record IsPassed (old new : Replies) (out more : List ℕ) : Type 0 where
  pub packet : Message
  pub takes : TakesPacket old.feed packet new.feed
  pub cuts : cuts_of new ≡ awaited (cuts_of old) packet
  pub gets : more ≡ (out ++ spelling (reply (cuts_of old) packet)) ++ old.owed.items
  pub owes : new.owed.items ≡ []
  pub greeted : new.greeted ≡ true

pub record IsWaiting (old new : Replies) (out more : List ℕ) : Type 0 where
  pub waits : first_of (refusals old.feed) ≡ Some fault.More
  pub same : new ≡ old
  pub nothing : more ≡ out

abbrev pub IsReplied : (old new : Replies) → (out more : List ℕ) → Bool → Type 0
IsReplied old new out more true = IsPassed old new out more
IsReplied old new out more false = IsWaiting old new out more
