-- What a server's fields hold, as a room.
use Rattle.std.specs.Prelude.{◌≡◌, ℕ, ◌+◌, ◌<◌, ◌==◌, min, true, if◌then◌else◌, List, [], map, Option, Some, None}
use Rattle.std.specs.List.{list_all}
use Rattle.std.specs.Option.{option_map, option_map_or}
use Rattle.spk_packets.specs.Message.{Message}
use Rattle.spk_broker.specs.Sent.{sent_view}
use Rattle.spk_broker.specs.declared.out.Out.{Out}
use Rattle.spk_broker.specs.declared.out.Outgoing.{Outgoing}
use Rattle.spk_clients.specs.declared.cause.Cause.{Cause}
use Rattle.spk_clients.specs.Client.{after_hearing}
use Rattle.spk_clients.specs.Data.{NobodyIsDue, client_at, client_count, waiting_at}
use Rattle.spk_server.specs.declared.server.Server.{Server}
use Rattle.spk_server.specs.Data.{Close, Offer, Room, Slow}
use Rattle.spk_server.specs.Log.{is_all_kept}
use Rattle.spk_server.specs.Tallies.{heard_with}
use Rattle.spk_server.specs.Step.{changed, closes_of, first_wait, later, offer_of, second, still_waits}

-- between two calls
abbrev pub room_of : Server → Room
room_of s = record {
  noted = s.noted;
  clients = client_at s.clients;
  now = s.now;
  ticked = s.ticked;
  held = s.held.items;
  in_hand = None;
  pending = [];
  closing = [];
  slow = None;
  tally = s.tally;
}

-- in the midst of one
abbrev pub amid : Server → List Offer → List Close → Option Slow → Room
amid s pending closing slow = record (room_of s) { pending = pending; closing = closing; slow = slow }

-- what may be written to a client: what waits for it, once all that was noted is kept
abbrev pub waiting_of : Server → ℕ → List ℕ
waiting_of s conn = if is_all_kept (room_of s) then waiting_at s.clients conn else []

-- the sends of an answer, as offers
abbrev pub offers_of : Option ℕ → List Outgoing → List Offer
offers_of by sends = map (offer_of by) (map sent_view sends)

abbrev pub offers_in : Option ℕ → Option Out → List Offer
offers_in by None = []
offers_in by (Some out) = offers_of by out.sends.items

-- whom an answer closes, and why
abbrev pub closes_in : Option (ℕ × Cause) → Cause → Option Out → List Close
closes_in own why None = []
closes_in own why (Some out) = closes_of own why out.closes.items

-- where a client published and one of those whom that went to is slow, they are noted
abbrev pub pressed : Option ℕ → Option ℕ → Option Slow → Option Slow
pressed by None before = before
pressed by (Some client) before = option_map_or (λ p. Some (record { publisher = p; client = client })) by before

-- a client that published, and who is slow of those whom that went to
abbrev pub slow_for : ℕ → Option ℕ → Option Slow
slow_for conn slow = option_map (λ client. record { publisher = conn; client = client }) slow

-- a packet of a client was heard, and comes to the broker next
abbrev pub with_packet : ℕ → Message → Room → Room
with_packet conn p r = record (changed (after_hearing p) conn r) { in_hand = Some (record { conn = conn; packet = p }); tally = heard_with p r.tally }

-- when it is to be called next: a second behind the last tick, or at the first moment that is noted of a client, or where the first wait
-- ends; none where no client is here
abbrev pub due_of : Server → Option ℕ
due_of s = if client_count s.clients == 0 then None
    else Some (min (min (later second s.ticked) s.clients.soonest) (first_wait (client_at s.clients) s.held.items))

-- at this moment nobody's has come, whoever waits for another waits still, and the broker was told of the time less than a second ago
abbrev pub IsCalm : ℕ → Server → Type 0
IsCalm now s = NobodyIsDue now (client_at s.clients) × (list_all (still_waits now (client_at s.clients)) s.held.items ≡ true)
    × (now < s.ticked + second)
