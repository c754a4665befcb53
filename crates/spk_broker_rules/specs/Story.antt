-- The acts on the past: what each adds to the facts, and what it sends and closes, asked of the facts before it.
use Rattle.std.specs.Prelude.{◌≡◌, ◌==◌, ℕ, zero, suc, ◌+◌, Bool, true, false, not, ◌&&◌, List, [], ◌∷◌, ◌++◌, map, length, Option, Some, None, is_some, if◌then◌else◌}
use Rattle.std.specs.List.{find, fold, flat_map}
use Rattle.std.specs.Option.{option_map_or}
use Rattle.spk_packets.specs.Message.{ConnAck, SubAck}
use Rattle.spk_session.specs.PacketIds.{next_id}
use Rattle.spk_session.specs.Step.{has_room}
use Rattle.spk_broker_rules.specs.Data.{AppMessage, Send}
use Rattle.spk_broker_rules.specs.Words.{best, level, sent_as, plain_packet, numbered_packet, to_connection, option_list, resent, offers_to, granted_of, codes_of}
use Rattle.spk_broker_rules.specs.Plan.{Act, Opens, At, Hear, Drop, Say, Leave, Tell, Queue, Route, Forget, Accept, Give, Take, Ack}
use Rattle.spk_broker_rules.specs.Past.{Past, Moment, OfConn, OfSession, Routed, Opened, Heard, Dropped, Ended, Deed, Made, Joined, Left, Over, Granted, TakenBack, Numbered, Acked, Joining, deeds, clock, given, made, newcomers, sessions, kept, here, grants, used, in_flight, last_id, retained, conn_here, session_at, is_of, other_pairs}

-- The past in the midst of an event, what is sent and closed so far, and the messages that wait.
pub record Story : Type 0 where
  pub past : Past
  pub sends : List Send
  pub closes : List ℕ
  pub waiting : List AppMessage

-- facts that come on top, newest first
abbrev pub note : Past → Story → Story
note facts t = record t { past = facts ++ t.past }

-- ---- what one message gives one session

-- What a message gives one session: what happens to it, and what is sent, closed and waits by that.
pub record Share : Type 0 where
  -- of this session, newest first
  pub deeds : List Deed
  pub sends : List Send
  pub closes : List ℕ
  pub wills : List AppMessage

-- these facts and these sends, and no more
abbrev pub gives : List Deed → List Send → Share
gives ds sends = record { deeds = ds; sends = sends; closes = []; wills = [] }

-- Its connection leaves, if it has one, and the session is over.
abbrev pub ends_at : Option Joining → Share
ends_at None = record { deeds = Over ∷ []; sends = []; closes = []; wills = [] }
ends_at (Some j) = record { deeds = Over ∷ Left j.conn ∷ []; sends = []; closes = j.conn ∷ []; wills = option_list j.will }

-- a message at QoS 1 takes an identifier, and goes to the connection, where there is one
abbrev pub numbers : Past → ℕ → AppMessage → ℕ → Share
numbers h s app_message id =
    gives (Numbered id app_message (is_some (here (deeds h s))) ∷ []) (to_connection (conn_here h s) (numbered_packet false id app_message))

-- A message with its QoS and RETAIN: at QoS 0 it goes to the connection, if there is one; at QoS 1 it gets the next
-- identifier, and a session with 1,024 unacknowledged ends.
abbrev pub given_at : ℕ → Past → ℕ → AppMessage → Share
given_at zero h s app_message = gives [] (to_connection (conn_here h s) (plain_packet app_message))
given_at (suc q) h s app_message = if has_room (used (deeds h s))
    then numbers h s app_message (next_id (used (deeds h s)) (last_id (deeds h s))) else ends_at (here (deeds h s))

-- a message as it is sent, for one session
abbrev pub gift : Past → ℕ → AppMessage → Share
gift h s app_message = given_at app_message.qos h s app_message

-- nothing without a grant; else the message with the QoS of its level, RETAIN 0 (3.3.1.3)
abbrev pub share_at : Option ℕ → Past → AppMessage → ℕ → Share
share_at None h m s = gives [] []
share_at (Some q) h m s = gift h s (sent_as m q false)

-- a routed message: with the lesser of its QoS and the session's greatest matching grant, once, RETAIN 0, DUP 0
abbrev pub share : Past → AppMessage → ℕ → Share
share h m s = share_at (level m.qos (best m.topic (grants (deeds h s)))) h m s

-- these facts are of this session
abbrev pub session_facts : ℕ → List Deed → Past
session_facts s ds = map (OfSession s) ds

-- ---- routing

-- Each session's share is asked before the message.
abbrev pub told_one : AppMessage → Story → Story
told_one m t = record {
  past = Routed m ∷ flat_map (λ s. session_facts s (share t.past m s).deeds) (sessions t.past) ++ t.past;
  sends = t.sends ++ flat_map (λ s. (share t.past m s).sends) (sessions t.past);
  closes = t.closes ++ flat_map (λ s. (share t.past m s).closes) (sessions t.past);
  waiting = t.waiting ++ flat_map (λ s. (share t.past m s).wills) (sessions t.past);
}

-- What waits is routed: nothing waits, or the first is routed whole, and then the rest, and what waits behind it.
pub data Routes : Story → Story → Type 0 where
  nothing_waits : (t u : Story) → t.waiting ≡ [] → t ≡ u → Routes t u
  goes_on : (t u : Story) (m : AppMessage) (ms : List AppMessage) → t.waiting ≡ m ∷ ms → Routes (told_one m (record t { waiting = ms })) u → Routes t u

-- ---- coming and going

-- a connection comes, under the next number
abbrev pub told_opens : Story → Story
told_opens t = note (OfConn (given t.past + 1) (Opened (clock t.past)) ∷ []) t

-- the will of a connection, where it is to be routed
abbrev pub will_of : Bool → Option Joining → List AppMessage
will_of true j = option_map_or (λ (i : Joining). option_list i.will) j []
will_of false j = []

-- a session that isn't kept is over with its connection
abbrev pub leaving : Bool → ℕ → List Deed
leaving true conn = Left conn ∷ []
leaving false conn = Over ∷ Left conn ∷ []

-- The connection goes: from its session, with its will, or from the newcomers.
abbrev pub told_leave : Option ℕ → ℕ → Bool → Story → Story
told_leave None conn wills t = note (OfConn conn Ended ∷ []) t
told_leave (Some s) conn wills t = record (note (session_facts s (leaving (kept (deeds t.past s)) conn)) t) {
  waiting = t.waiting ++ will_of wills (here (deeds t.past s));
}

-- a kept session of this client without a connection
abbrev pub is_away : Past → List ℕ → ℕ → Bool
is_away h c s = kept (deeds h s) && (not (is_some (here (deeds h s))) && is_of h c s)

-- the session is over
abbrev pub told_forget : Option ℕ → Story → Story
told_forget None t = t
told_forget (Some s) t = note (session_facts s (Over ∷ [])) t

-- the kept session that a CONNECT takes up, which is none with clean session 1
abbrev pub away_for : Past → Bool → List ℕ → Option ℕ
away_for h keeps c = if keeps then find (is_away h c) (sessions h) else None

-- A kept session is taken up: session present, and what isn't acknowledged is sent again. Or a session is made.
abbrev pub told_take_up : Option ℕ → ℕ → List ℕ → Bool → ℕ → Option AppMessage → Story → Story
told_take_up None conn c keeps alive will t =
    record (note (session_facts (made t.past + 1) (Joined conn alive will ∷ Made c keeps ∷ [])) t) {
      sends = t.sends ++ (record { conn = conn; packet = ConnAck false 0 }) ∷ [];
    }
told_take_up (Some s) conn c keeps alive will t =
    record (note (session_facts s (Joined conn alive will ∷ [])) t) {
      sends = t.sends ++ (record { conn = conn; packet = ConnAck true 0 }) ∷ resent conn (in_flight (deeds t.past s));
    }

-- what a CONNECT of this newcomer does
abbrev pub told_accept : Option ℕ → List ℕ → Bool → ℕ → Option AppMessage → Story → Story
told_accept None c keeps alive will t = t
told_accept (Some conn) c keeps alive will t = told_take_up (away_for t.past keeps c) conn c keeps alive will t

-- ---- SUBSCRIBE, UNSUBSCRIBE, PUBACK

-- one message for a session, where it still stands
abbrev pub told_offer_at : Bool → ℕ → AppMessage → Story → Story
told_offer_at false s app_message t = t
told_offer_at true s app_message t = record {
  past = session_facts s (gift t.past s app_message).deeds ++ t.past;
  sends = t.sends ++ (gift t.past s app_message).sends;
  closes = t.closes ++ (gift t.past s app_message).closes;
  waiting = t.waiting ++ (gift t.past s app_message).wills;
}

-- the session was made and isn't over
abbrev pub stands : Past → ℕ → Bool
stands h s = is_some (find (λ t. t == s) (sessions h))

-- the same, of the session as it is by then
abbrev pub told_offer : ℕ → Story → AppMessage → Story
told_offer s t app_message = told_offer_at (stands t.past s) s app_message t

-- an entry is granted to a session
abbrev pub granting : ℕ → Past → List ℕ × ℕ → Past
granting s h entry = OfSession s (Granted entry.0 entry.1) ∷ h

-- The entries are granted and SUBACK is sent; then come the retained messages for each granted entry, one after the other
-- (3.8.4).
abbrev pub told_give_with : ℕ → ℕ → ℕ → ℕ → List (List ℕ × ℕ) → Story → Story
told_give_with others s conn id entries t =
    fold (told_offer s)
    (record t {
      past = fold (granting s) t.past (granted_of others (grants (deeds t.past s)) entries);
      sends = t.sends ++ (record { conn = conn; packet = SubAck id (codes_of others (grants (deeds t.past s)) entries) }) ∷ [];
    })
    (flat_map (offers_to (retained t.past)) (granted_of others (grants (deeds t.past s)) entries))

-- what a SUBSCRIBE of the session's connection does
abbrev pub told_give : Option ℕ → ℕ → ℕ → List (List ℕ × ℕ) → Story → Story
told_give None conn id entries t = t
told_give (Some s) conn id entries t = told_give_with (other_pairs t.past s) s conn id entries t

-- the grant of a filter is taken back from a session
abbrev pub taking_back : ℕ → Past → List ℕ → Past
taking_back s h filter = OfSession s (TakenBack filter) ∷ h

-- the filters' grants are taken back from the session, where there is one
abbrev pub told_take : Option ℕ → List (List ℕ) → Story → Story
told_take None filters t = t
told_take (Some s) filters t = record t { past = fold (taking_back s) t.past filters }

-- the message of this identifier is acknowledged
abbrev pub told_ack : Option ℕ → ℕ → Story → Story
told_ack None id t = t
told_ack (Some s) id t = note (session_facts s (Acked id ∷ [])) t

-- ---- an act, and a list of them

-- An act leads from one story to another.
abbrev pub Tells : Act → Story → Story → Type 0
Tells Opens t u = u ≡ told_opens t
Tells (At moment) t u = u ≡ note (Moment moment ∷ []) t
Tells (Hear conn) t u = u ≡ note (OfConn conn (Heard (clock t.past)) ∷ []) t
Tells (Drop conn) t u = u ≡ note (OfConn conn Dropped ∷ []) t
Tells (Say conn p) t u = u ≡ record t { sends = t.sends ++ (record { conn = conn; packet = p }) ∷ [] }
Tells (Leave conn wills) t u = u ≡ told_leave (session_at t.past conn) conn wills t
Tells (Tell conn) t u = u ≡ record t { closes = t.closes ++ conn ∷ [] }
Tells (Queue app_message) t u = u ≡ record t { waiting = t.waiting ++ app_message ∷ [] }
Tells Route t u = Routes t u
Tells (Forget c) t u = u ≡ told_forget (find (is_away t.past c) (sessions t.past)) t
Tells (Accept conn c keeps alive will) t u =
    u ≡ told_accept (find (λ g. g == conn) (newcomers t.past)) c keeps alive will t
Tells (Give conn id entries) t u = u ≡ told_give (session_at t.past conn) conn id entries t
Tells (Take conn filters) t u = u ≡ told_take (session_at t.past conn) filters t
Tells (Ack conn id) t u = u ≡ told_ack (session_at t.past conn) id t

-- a list of acts, each behind the one before
abbrev pub TellsAll : List Act → Story → Story → Type 0
TellsAll [] t u = t ≡ u
TellsAll (a ∷ more_acts) t u = (v : Story) × Tells a t v × TellsAll more_acts v u
