-- Logs of a plant's broker (own rules): what each entry must find, and the lists that are read off a log. A log stands newest first.
use Rattle.std.specs.Prelude.{◌≡◌, ℕ, ◌≤◌, ◌==◌, List, [], ◌∷◌, ◌++◌, length, Some, None, if◌then◌else◌}
use Rattle.std.specs.List.{slice_get}
use Rattle.spk_packets.specs.Grammar.{Spells}
use Rattle.spk_ingress.specs.declared.rule.Message.{Message}
use Rattle.spk_ingress.specs.declared.frame.Frame.{Frame}
use Rattle.spk_ingress.specs.declared.frame.Frame.TheVariants as frame
use Rattle.spk_rings.specs.Ring.{free}
use Rattle.spk_rings.specs.declared.item.Item.{Item}
use Rattle.spk_rings.specs.declared.outlet.Outlet.{Outlet}
use Rattle.spk_plant_broker.specs.declared.part.Refusal.{Refusal}
use Rattle.spk_plant_broker.specs.Data.{Input, Says, Breaks, Cuts, Ends, Offer, Entry, Took, Accepted, Refused, Passed, Told, Room}
use Rattle.spk_plant_broker.specs.Step.{cuts_in, moved, fresh_room}

-- the frames taken, with their senders, oldest first
abbrev pub taken_of : List Entry → List Message
taken_of [] = []
taken_of (Took m i ∷ l) = taken_of l ++ m ∷ []
taken_of (_ ∷ l) = taken_of l

-- the refused offers, oldest first: client, sort, and how many frames were taken before
abbrev pub refusals_of : List Entry → List Refusal
refusals_of [] = []
refusals_of (Refused k o ∷ l) = refusals_of l ++ (record { client = k; sort = o.sort; taken = length (taken_of l) }) ∷ []
refusals_of (_ ∷ l) = refusals_of l

-- what a client's ring got, oldest first: the bytes, and how many Cut frames of the client were taken before
abbrev pub got_of : ℕ → List Entry → List Item
got_of j [] = []
got_of j (Accepted k o ∷ l) =
    if k == j then got_of j l ++ (record { bytes = o.bytes; cuts = cuts_in j (taken_of l) }) ∷ [] else got_of j l
got_of j (_ ∷ l) = got_of j l

-- for each item that a client's ring got, how many frames were taken before
abbrev pub accepted_of : ℕ → List Entry → List ℕ
accepted_of j [] = []
accepted_of j (Accepted k o ∷ l) = if k == j then accepted_of j l ++ length (taken_of l) ∷ [] else accepted_of j l
accepted_of j (_ ∷ l) = accepted_of j l

-- what stands after a log
abbrev pub room_of : ℕ → ℕ → List Entry → Room
room_of limit edges [] = fresh_room
room_of limit edges (e ∷ l) = moved limit edges (taken_of (e ∷ l)) e (room_of limit edges l)

-- ---- what an entry must find

-- what a frame says: a packet is read by the packet grammar
abbrev pub Means : Frame → Input → Type 0
Means (frame.Packet bytes) (Says p) = Spells bytes p
Means (frame.Fault f) (Breaks g) = f ≡ g
Means frame.Cut Cuts = Unit {0}
Means frame.End Ends = Unit {0}
Means _ _ = ⊥

-- the first of these
abbrev pub IsFirst : Offer → List Offer → Type 0
IsFirst o os = (rest : List Offer) × (os ≡ o ∷ rest)

-- A frame is taken when all is offered and told; sends are offered in order, and a refusal is told when all is offered.
abbrev pub MayMove : Entry → Room → Type 0
MayMove (Took m i) r = Means m.frame i × (r.pending ≡ []) × (r.untold ≡ [])
MayMove (Accepted k o) r = IsFirst o r.pending × (o.to ≡ Some k)
MayMove (Refused k o) r = IsFirst o r.pending × (o.to ≡ Some k)
MayMove (Passed o) r = IsFirst o r.pending × (o.to ≡ None)
MayMove (Told o) r = (r.pending ≡ []) × IsFirst o r.untold

-- each entry finds what it must after those before it
abbrev pub IsLog : ℕ → ℕ → List Entry → Type 0
IsLog limit edges [] = Unit {0}
IsLog limit edges (e ∷ l) = IsLog limit edges l × MayMove e (room_of limit edges l)

-- ---- what a refusal must find

-- wherever a send was refused, this holds of the client and of what its ring had got by then
abbrev pub AtRefusals : (ℕ → List Item → Type 0) → List Entry → Type 0
AtRefusals P [] = Unit {0}
AtRefusals P (Refused k o ∷ l) = P k (got_of k l) × AtRefusals P l
AtRefusals P (_ ∷ l) = AtRefusals P l

-- the client's ring, one of these, has got as many items as it has room for when it is new
abbrev pub HasFilled : List Outlet → ℕ → List Item → Type 0
HasFilled os k got = (first : Outlet) × (slice_get os k ≡ Some first) × (free first ≤ length got)
