-- What the laws say of every run, in the standard's words.
use Rattle.std.specs.Prelude.{◌≡◌, ℕ, ◌⊎◌, ◌&&◌, ◌<◌, ◌≤◌, Bool, true, false, List, [], ◌∷◌, Option, Some, None, is_some, slice_get, All, codes, drop, length, map, if◌then◌else◌}
use Rattle.std.specs.List.{AllByRecursion, enumerate_from}
use Rattle.std.specs.Option.{option_map_or}
use Rattle.std.specs.Str.{bytes_eq}
use Rattle.spk_payload.specs.Meaning.{MetricData}
use Rattle.spk_payload.specs.Spelling.{PayloadFits}
use Rattle.spk_packets.specs.Grammar.{Spells}
use Rattle.spk_packets.specs.Message as packets
use Rattle.spk_device.specs.Book.{Book, DeviceData}
use Rattle.spk_device.specs.Book as book
use Rattle.spk_device.specs.Lawful.{is_level}
use Rattle.spk_device.specs.Step.{is_taken}
use Rattle.spk_device.specs.declared.owner.Owner.{Owner}
use Rattle.spk_device.specs.declared.owner.Owner.TheVariants.{Node, Device}
use Rattle.spk_store.specs.Calls.{DropFront}
use Rattle.spk_topics.specs.Spark.{is_name}
use Rattle.spk_topics.specs.declared.spark.Verb.{Verb}
use Rattle.spk_topics.specs.declared.spark.Verb.TheVariants.{Birth, Death, Data}
use Rattle.spk_topics.specs.declared.spark.Verb.TheVariants as verb
use Rattle.spk_edge_rules.specs.Births.{births_at, own_metrics, rebirth_metric}
use Rattle.spk_edge_rules.specs.Config.{Config, Setup}
use Rattle.spk_edge_rules.specs.History.{can_go, front_run, history, most}
use Rattle.spk_edge_rules.specs.Inputs.{Act, ChangeData, Open, Accepted, Command, Stop, Cut}
use Rattle.spk_edge_rules.specs.Messages.{Draft, is_birth, opens, payload_of, wire}
use Rattle.spk_edge_rules.specs.Packets.{session_metric}
use Rattle.spk_edge_rules.specs.Rules.{Given}
use Rattle.spk_edge_rules.specs.Run.{Done, Message, number_at, session_number}
use Rattle.spk_edge_rules.specs.Step.{next_of, number_of}

-- an NBIRTH begins with the bdSeq of its session
abbrev pub SaysSession : Setup → Message → Type 0
SaysSession s m = opens m.draft ≡ true →
    (rest : List MetricData) × (m.draft.metrics ≡ session_metric (session_number s m.session) (Some m.draft.stamp) ∷ rest)

-- ---- each message (Sparkplug 3.0.0, chapters 4 and 6)

-- a message of this kind has a sequence number: any but an NDEATH and a command
abbrev pub has_number : Verb → Option (List ℕ) → Bool
has_number Birth device = true
has_number Data device = true
has_number Death device = is_some device
has_number verb.Command device = false

-- it is an NBIRTH, NDATA, DBIRTH, DDATA or DDEATH: an NDEATH has no sequence number, and commands are a host's
abbrev pub is_numbered : Draft → Bool
is_numbered d = has_number d.verb d.device

-- The names of the group, the node and each device can stand in a topic. A node is made with no others (`EdgeNode::new`), and a
-- registry takes no others.
pub record HasNames (s : Setup) : Type 0 where
  pub group : is_name s.config.group ≡ true
  pub node : is_name s.config.node ≡ true
  pub devices : All (λ d. is_level d.name ≡ true) s.book.devices

-- no metric of the registry has a name that the node's own messages use, as every registry sees to
abbrev pub IsUnreserved : Setup → Type 0
IsUnreserved s = All (λ g. is_taken g.name ≡ false) s.book.gauges

-- the metric is named `bdSeq`
abbrev pub is_session : MetricData → Bool
is_session m = option_map_or (λ name. bytes_eq name (codes "bdSeq")) m.name false

-- an NBIRTH begins with the bdSeq of its session, and none of its other metrics is named so
abbrev pub SaysSessionOnce : Setup → Message → Type 0
SaysSessionOnce s m = opens m.draft ≡ true →
    (rest : List MetricData) × (m.draft.metrics ≡ session_metric (session_number s m.session) (Some m.draft.stamp) ∷ rest)
    × AllByRecursion (λ metric. is_session metric ≡ false) rest

-- the numbers that messages get, where this one comes next, and those of their positions from p on
abbrev pub numbers_from : Config → ℕ → List Draft → List ℕ
numbers_from c seq [] = []
numbers_from c seq (d ∷ ds) = number_of c seq d ∷ numbers_from c (next_of c seq d) ds

-- the numbers of the positions from p on, of which these messages are
abbrev pub numbers_at : Setup → List Message → ℕ → List Draft → List ℕ
numbers_at s messages p drafts = map (λ e. number_at s messages e.0) (enumerate_from p drafts)

-- ---- births

-- A DBIRTH of a device of a registry lists the device's metrics.
pub record IsDeviceBirth (b : Book) (name : List ℕ) (d : Draft) : Type 0 where
  pub number : ℕ
  pub device : DeviceData
  pub there : slice_get b.devices number ≡ Some device
  pub named : device.name ≡ name
  pub metrics : d.metrics ≡ own_metrics b d.stamp (Device number)

-- What a birth lists: an NBIRTH the bdSeq, the rebirth control and the node's metrics, a DBIRTH its device's, as the
-- registry has them, in order of adding.
abbrev pub IsBirthOf : Book → ℕ → Draft → Option (List ℕ) → Type 0
IsBirthOf b bd d None =
    d.metrics ≡ session_metric bd (Some d.stamp) ∷ rebirth_metric d.stamp ∷ own_metrics b d.stamp Node
IsBirthOf b bd d (Some name) = IsDeviceBirth b name d

-- where it is a birth, it lists what the registry has
abbrev pub ListsWhatIs : Book → ℕ → Draft → Type 0
ListsWhatIs b bd d = is_birth d.verb ≡ true → IsBirthOf b bd d d.device

-- An NBIRTH stands first, and a DBIRTH follows for each device that is up, in order of adding; nothing else.
abbrev pub AreWholeBirths : Book → ℕ → List Draft → Type 0
AreWholeBirths b bd drafts =
    AllByRecursion (λ d. opens d ≡ false) drafts ⊎ ((stamp : ℕ) × (drafts ≡ births_at b bd stamp))

-- ---- devices

-- No two devices have one name: a device's name leads to its number, as every registry sees to.
abbrev pub AreNumbered : Book → Type 0
AreNumbered b = (n : ℕ) (d : DeviceData) → slice_get b.devices n ≡ Some d → book.number_of b d.name ≡ Some n

-- it is an NDEATH or a DDEATH
abbrev pub is_death : Verb → Bool
is_death Death = true
is_death _ = false

-- it is a message of the device of this name
abbrev pub is_of_device : List ℕ → Draft → Bool
is_of_device name d = option_map_or (λ device. bytes_eq device name) d.device false

-- it is the device's DBIRTH, it is its DDEATH
abbrev pub is_birth_of : List ℕ → Draft → Bool
is_birth_of name d = is_birth d.verb && is_of_device name d

-- it is the device's DDEATH
abbrev pub is_death_of : List ℕ → Draft → Bool
is_death_of name d = is_death d.verb && is_of_device name d

-- This message is the device's DBIRTH behind that NBIRTH and in that session, and none of the later ones is its DDEATH.
pub record IsBornBy (name : List ℕ) (birth session : ℕ) (m : Message) (later : List Message) : Type 0 where
  pub is_birth : is_birth_of name m.draft ≡ true
  pub under : m.birth ≡ birth
  pub of_session : m.session ≡ session
  pub lives : AllByRecursion (λ x. is_death_of name x.draft ≡ false) later

-- The device is born: one of the messages is its DBIRTH, behind that NBIRTH and in that session, and its DDEATH isn't behind it.
abbrev pub IsAlive : List ℕ → ℕ → ℕ → List Message → Type 0
IsAlive name birth session [] = ⊥
IsAlive name birth session (m ∷ ms) = IsBornBy name birth session m ms ⊎ IsAlive name birth session ms

-- ---- between an accepted open and the next stop, cut or closing

-- How the connection stands: closed, asked for, or joined.
pub data Link : Type 0 where
  Closed : Link
  Asked : Link
  Joined : Link

-- the connection that was asked for is joined by an accepted CONNECT
abbrev pub accepted_by : Link → Link
accepted_by Closed = Closed
accepted_by Asked = Joined
accepted_by Joined = Joined

-- what an input makes of it
abbrev pub link_by : Act → Link → Link
link_by Open link = Asked
link_by Accepted link = accepted_by link
link_by Stop link = Closed
link_by Cut link = Closed
link_by _ link = link

-- a connection is asked for by Open, joined once it is accepted, and closed by a stop, a cut or the node itself
abbrev pub link_of : List Done → Link
link_of [] = Closed
link_of (e ∷ h) = if e.given.close then Closed else link_by e.input.act (link_of h)

-- ---- bytes

-- the bytes spell the packet of a message under its number, whose payload can be spelled
pub record IsWhole (bytes : List ℕ) (c : Config) (number : ℕ) (d : Draft) : Type 0 where
  pub spelled : Spells bytes (wire c number d)
  pub fits : PayloadFits (payload_of number d)

-- it is a DISCONNECT
abbrev pub is_disconnect : packets.Message → Bool
is_disconnect packets.Disconnect = true
is_disconnect _ = false

-- what a PUBLISH is about, and what it carries
abbrev pub topic_in : packets.Message → List ℕ
topic_in (packets.Publish dup qos retain topic id payload) = topic
topic_in _ = []

-- what a PUBLISH carries
abbrev pub payload_in : packets.Message → List ℕ
payload_in (packets.Publish dup qos retain topic id payload) = payload
payload_in _ = []

-- ---- drains

-- the greatest number, at most so many, of which a fact holds, or 0
pub record IsLongest (fact : ℕ → Bool) (most n : ℕ) : Type 0 where
  pub few : n ≤ most
  pub holds : 0 < n → fact n ≡ true
  pub greatest : (k : ℕ) → n < k → k ≤ most → fact k ≡ false

-- How many of the changes at the front go, by what can be written: their message is given, and they count as sent. Where none
-- can go, nothing is given, and the first one counts as lost.
pub record SendsLongest (c : Config) (number : ℕ) (b : Book) (owner : Owner) (stamp : ℕ) (changes : List ChangeData) (g : Given) : Type 0 where
  pub count : ℕ
  pub longest : IsLongest (can_go c number b owner stamp changes) (front_run changes) count
  pub sent : 0 < count → (g.drafts ≡ history b owner stamp changes count ∷ []) × (g.store ≡ Some (DropFront count false))
  pub lost : count ≡ 0 → (g.drafts ≡ []) × (g.store ≡ Some (DropFront 1 true))

-- one kept change at least has left the store, and no more than go into one message
pub record TakesSome (before after : List ChangeData) : Type 0 where
  pub count : ℕ
  pub some : 1 ≤ count
  pub few : count ≤ most
  pub there : count ≤ length before
  pub left : after ≡ drop count before
