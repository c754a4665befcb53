-- What an accepted CONNECT comes to, once all memory was asked for.
use Rattle.std.specs.Prelude.{◌≡◌, ◌<◌, ℕ, Bool, List, [], ◌∷◌, ◌++◌, map, string_bytes, Vec, vec_capacity, vec_len, Some}
use Rattle.std.specs.declared.alloc.Global.{Global}
use Rattle.std.specs.List.{find}
use Rattle.spk_session.specs.Parts.{fresh_ids}
use Rattle.spk_session.specs.Step.{without}
use Rattle.spk_broker_rules.specs.Data as plain
use Rattle.spk_broker_rules.specs.Step.{Turn, away_for, begun, is_away, new_session, other_newcomers, take_up}
use Rattle.spk_broker_rules.specs.Words.{handed_out, numbered_packet, without_id}
use Rattle.spk_broker.specs.Both.{Both}
use Rattle.spk_broker.specs.Drafts.{Drafted}
use Rattle.spk_broker.specs.Sent.{outgoing}
use Rattle.spk_broker.specs.Changes.{changed_at}
use Rattle.spk_broker.specs.Parts.{connection_now, connection_was}
use Rattle.spk_broker.specs.declared.accept.Entry.{Entry}
use Rattle.spk_broker.specs.declared.accept.Entry.TheVariants.{Made, Back}
use Rattle.spk_broker.specs.declared.session.Session.{Session}

-- a session, as before the call and as by now
abbrev pub whole : plain.Session → Both
whole s = record { was = s; now = Some s }

abbrev pub taken_up : plain.Connection → plain.Session → plain.Session
taken_up connection s = record s { here = Some connection; in_flight = map handed_out s.in_flight }

-- a session without the message of this identifier
abbrev pub acked : ℕ → plain.Session → plain.Session
acked id s = record s { used = without id s.used; in_flight = without_id id s.in_flight }

-- the data with the session that was made, or with the connection of the one that is taken up
abbrev pub entered : Entry → plain.Broker → plain.Broker
entered (Made key client kept connection ids) b = record b {
  made = key;
  newcomers = other_newcomers connection.conn b.newcomers;
  sessions = b.sessions ++ new_session key (string_bytes client) kept (connection_now connection) ∷ [];
}
entered (Back client connection) b = record b {
  newcomers = other_newcomers connection.conn b.newcomers;
  sessions = changed_at (find (is_away (string_bytes client)) b.sessions) (taken_up (connection_now connection)) b.sessions;
}

-- it is as before the call, and what a session is made of has no past
abbrev pub IsWhole : Entry → Type 0
IsWhole (Made key client kept connection ids) = (connection_was connection ≡ connection_now connection) × (ids.value ≡ fresh_ids)
IsWhole (Back client connection) = connection_was connection ≡ connection_now connection

-- a session that was made finds room
abbrev pub HasRoom : Entry → Vec Session Global → Type 0
HasRoom (Made key client kept connection ids) sessions = vec_len sessions < vec_capacity sessions
HasRoom (Back client connection) sessions = Unit {0}

-- a message in flight as it is sent again
abbrev pub again : ℕ → plain.InFlight → plain.Send
again conn c = record { conn = conn; packet = numbered_packet c.handed c.id c.app_message }

abbrev pub with_sends : List plain.Send → Drafted → Drafted
with_sends sends d = record d { sends = d.sends ++ map outgoing sends }

-- what the connection of an accepted CONNECT comes to
abbrev pub taken : List ℕ → Bool → plain.Connection → plain.Broker → Turn
taken client kept connection b = take_up (away_for kept client b.sessions) client kept connection (begun b)
