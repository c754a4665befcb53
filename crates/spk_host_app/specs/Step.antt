-- What each deed of a host application's program leaves (own rules).
use Rattle.std.specs.Prelude.{ℕ, ◌==◌, Bool, true, false, ◌||◌, ◌&&◌, not, nat_lt, is_some, List, [], ◌∷◌, ◌++◌, length, map, Option, Some, None, if◌then◌else◌}
use Rattle.spk_link.specs.Step.{due_at}
use Rattle.spk_link.specs.declared.stand.Due.{Due}
use Rattle.spk_link.specs.declared.stand.Due.TheVariants as due
use Rattle.spk_packets.specs.Message.{Message}
use Rattle.spk_packets.specs.Spelling.{spelling}
use Rattle.spk_topics.specs.Spark.Named.{of_node}
use Rattle.spk_topics.specs.declared.spark.Verb.TheVariants.{Command}
use Rattle.spk_sequence.specs.declared.answer.Loss.{Loss}
use Rattle.spk_sequence.specs.Calls.{Tick}
use Rattle.spk_sequence.specs.Losses.{Called}
use Rattle.spk_reading.specs.Data as said
use Rattle.spk_reading.specs.Data.{HeardData}
use Rattle.spk_host_session.specs.Data.{is_address}
use Rattle.spk_host_session.specs.Packets.{rebirth_of}
use Rattle.spk_host_session.specs.Step as session
use Rattle.spk_host.specs.Data.{Entry, HostData, OutData}
use Rattle.spk_host.specs.Inputs as host
use Rattle.spk_host.specs.Inputs.{host_with, new_host}
use Rattle.spk_host.specs.Losses.{content_loss, entry_loss, is_lost, losing}
use Rattle.spk_host.specs.Step.{acks, nothing, packet_out, said_by, sends, spelled, tick_out}
use Rattle.spk_host_session.specs.Data.{Config}
use Rattle.spk_login.specs.Bytes.{login_bytes}
use Rattle.spk_connection.specs.Step.{after_asked, after_opened, after_over, after_read, after_sent, after_wrote, fresh_connection, is_open}
use Rattle.spk_host_app.specs.Data.{App, Deed, Fate, LoginData, Word, Words}
use Rattle.spk_host_app.specs.Data as word
use Rattle.spk_host_app.specs.Data.{Whole, Unsent, Lost, Began, Connected, Read, Told, Denied, Unsubscribed, Ticked, Requested, Pinged, Stopped, GaveUp, Wrote, Over, Printed}
use Rattle.spk_host_app.specs.Meant.{id_in, topic_in}

-- the most words that may wait to be printed before a packet is taken, or a moment told to the host
abbrev pub most_said : ℕ
most_said = 1024

-- so many words wait to be printed that no packet is taken
abbrev pub is_full : App → Bool
is_full a = not (nat_lt (length a.words.said) most_said)

-- these bytes, one after the other
abbrev pub join : List (List ℕ) → List ℕ
join [] = []
join (bytes ∷ rest) = bytes ++ join rest

-- ---- what the host answers to a call

abbrev pub answer : HostData → host.Call → OutData
answer h (host.Heard heard now) = packet_out h heard now
answer h (host.Ticked now) = tick_out h.nodes now
answer h (host.Connected now) = sends (said_by (session.says h.session (session.Connected now)))
answer h (host.Stopped now) = sends (said_by (session.says h.session (session.Stopped now)))
answer h host.Ended = nothing
answer h (host.Renewed now) = sends (said_by (session.says h.session (session.Renewed now)))

-- what is said of a packet before what the host answers: an NDEATH came, a CONNACK that turns the host away, or a SUBACK that grants
abbrev pub first_of_content : said.ContentData → List Word
first_of_content (said.Message m) = []
first_of_content (said.Death group node bd) = word.Died group node ∷ []
first_of_content said.Nothing = []

abbrev pub first_of_heard : HeardData → List Word
first_of_heard (said.Published ack content) = first_of_content content
first_of_heard (said.Answered code) = if code == 0 then [] else word.TurnedAway code ∷ []
first_of_heard said.Granted = word.Granted ∷ []
first_of_heard said.Other = []

abbrev pub first_words : host.Call → List Word
first_words (host.Heard heard now) = first_of_heard heard
first_words _ = []

-- what is said of a loss of a node: nothing, where none is lost
abbrev pub lost_word : (group node : List ℕ) → Loss → List Word
lost_word group node loss = if is_lost loss then word.Dropped group node loss ∷ [] else []

-- what is said of a packet behind these: what a message or an NDEATH loses of what is held of its node
abbrev pub lost_by_content : List Entry → said.ContentData → ℕ → List Word
lost_by_content nodes (said.Message m) now = lost_word m.group m.node (content_loss nodes (said.Message m) now)
lost_by_content nodes (said.Death group node bd) now = lost_word group node (content_loss nodes (said.Death group node bd) now)
lost_by_content nodes said.Nothing now = []

abbrev pub lost_by : List Entry → HeardData → ℕ → List Word
lost_by nodes (said.Published ack content) now = lost_by_content nodes content now
lost_by nodes _ now = []

-- what is said first of a moment: each node that loses some at it, in their order
abbrev pub losing_word : ℕ → Entry → Word
losing_word now e = word.Dropped e.group e.node (entry_loss (Called (Tick now)) e)

abbrev pub lost_at : ℕ → List Entry → List Word
lost_at now nodes = map (losing_word now) (losing now nodes)

abbrev pub lost_words : HostData → host.Call → List Word
lost_words h (host.Heard heard now) = lost_by h.nodes heard now
lost_words h (host.Ticked now) = lost_at now h.nodes
lost_words h _ = []

abbrev pub out_words : OutData → List Word
out_words o = map word.Consumed o.consumed ++ (map word.Became o.steps ++ map word.Asked o.rebirths)

-- all that is said of a call of the host
abbrev pub words_of : HostData → host.Call → List Word
words_of h call = (first_words call ++ lost_words h call) ++ out_words (answer h call)

-- with the user name and the password, where there are any
abbrev pub with_login : Option LoginData → List ℕ → List ℕ
with_login None bytes = bytes
with_login (Some l) bytes = login_bytes bytes l.user l.password

-- all that is sent for a call of the host
abbrev pub bytes_of : Option LoginData → HostData → host.Call → List ℕ
bytes_of login h (host.Connected now) = with_login login (join (answer h (host.Connected now)).packets)
bytes_of login h (host.Heard heard now) = join (answer h (host.Heard heard now)).packets
bytes_of login h (host.Ticked now) = join (answer h (host.Ticked now)).packets
bytes_of login h (host.Stopped now) = join (answer h (host.Stopped now)).packets
bytes_of login h host.Ended = []
bytes_of login h (host.Renewed now) = join (answer h (host.Renewed now)).packets

-- the calls behind which the connection is to be closed: a CONNACK that turns the host away, and a farewell
abbrev pub ends_heard : HeardData → Bool
ends_heard (said.Answered code) = not (code == 0)
ends_heard _ = false

abbrev pub ends : host.Call → Bool
ends (host.Heard heard now) = ends_heard heard
ends (host.Stopped now) = true
ends _ = false

-- ---- what is said and sent

abbrev pub put_words : List Word → Words → Words
put_words more w = record w { said = w.said ++ more }

abbrev pub answered : Fate → List Word → List ℕ → App → App
answered Whole words bytes a = record a { words = put_words words a.words; connection = after_sent a.connection bytes }
answered Unsent words bytes a = record a { words = put_words words a.words; closing = true }
answered Lost words bytes a = record a { closing = true }

-- the host was told of a call
abbrev pub told : host.Call → App → App
told call a = record a { host = host_with a.host call; closing = a.closing || ends call }

abbrev pub called : host.Call → Fate → App → App
called call fate a = answered fate (words_of a.host call) (bytes_of a.login a.host call) (told call a)

-- the packet at the front was taken, and this is left
abbrev pub taken : List ℕ → App → App
taken rest a = record a { connection = record a.connection { unread = rest } }

-- the acknowledgement of a message at QoS 1
abbrev pub ack_of : Message → List ℕ
ack_of p = join (spelled (acks (id_in p)))

-- a request for a rebirth that is asked of a node, and what is said of it
abbrev pub request_bytes : (group node : List ℕ) → ℕ → List ℕ
request_bytes group node now = spelling (rebirth_of group node now)

abbrev pub request_words : (group node : List ℕ) → List Word
request_words group node = word.Asked (of_node group Command node) ∷ []

-- it may be sent: on a connection that goes on, while fewer words wait than may, to names that can stand in its topic
abbrev pub may_request : (group node : List ℕ) → App → Bool
may_request group node a = not a.closing && (not (is_full a) && (is_open a.connection && is_address group node))

-- the end of a connection that began
abbrev pub ended : Words → Words
ended w = record { said = if w.begun then w.said ++ word.Ended ∷ [] else w.said; begun = false }

abbrev pub behind : {X : Type 0} → List X → List X
behind [] = []
behind (x ∷ xs) = xs

-- ---- a deed

abbrev pub after : Deed → App → App
after (Began now) a = record a { connection = after_opened a.connection now; words = record a.words { begun = true } }
after (Connected now fate) a = called (host.Connected now) fate a
after (Read piece now) a = record a { connection = after_read a.connection piece now }
after (Told p rest heard now fate) a = called (host.Heard heard now) fate (taken rest a)
after (Denied p rest fault fate) a = answered fate (word.Refused fault (topic_in p) ∷ []) (ack_of p) (taken rest a)
after (Unsubscribed p rest) a = record (taken rest a) { words = put_words (word.SubscriptionRefused ∷ []) a.words; closing = true }
after (Ticked now fate) a = called (host.Ticked now) fate a
after (Requested group node now fate) a = answered fate (request_words group node) (request_bytes group node now) a
after (Pinged now) a = record a { connection = after_asked a.connection now }
after (Stopped now fate) a = called (host.Stopped now) fate a
after (GaveUp fault) a = record a { closing = true }
after (Wrote bytes now) a = record a { connection = after_wrote a.connection (length bytes) now }
after (Over now) a = record a {
  host = host_with a.host host.Ended;
  connection = after_over a.connection now;
  words = ended a.words;
  closing = false;
}
after (Printed w) a = record a { words = record a.words { said = behind a.words.said } }

-- nothing was done yet
abbrev pub fresh_app : Config → ℕ → ℕ → Option LoginData → App
fresh_app config keep spread login = record {
  host = new_host config;
  connection = fresh_connection keep spread;
  login = login;
  words = record { said = []; begun = false };
  closing = false;
}

-- ---- a moment

-- PINGREQ, where it is due and the connection isn't to be closed
abbrev pub is_ping : Due → Bool
is_ping due.Ping = true
is_ping _ = false

abbrev pub pinged : ℕ → App → App
pinged now a = if not a.closing && is_ping (due_at a.connection.link now) then after (Pinged now) a else a

-- a session of the host has begun
abbrev pub is_within : App → Bool
is_within a = is_some a.host.session.began

abbrev pub ticked : ℕ → App → App
ticked now a = if not a.closing && (not (is_full a) && (is_open a.connection && is_within a)) then after (Ticked now Whole) a else a
