-- The bytes of a record (own rules). Numbers stand with the lowest byte first. A record is the length of its content in four bytes, the content, and the
-- CRC-32 of the content in four bytes. A content is a code and what stands behind it:
--
--   code   what                        behind it, in bytes
--   1      the host's session began    at 8
--   2      the host's session ended    at 8
--   3      a node                      node 4, group 2 + n, name 2 + n
--   4      NBIRTH                      at 8, node 4, stamp 8, bdSeq 1, payload to the end
--   5      NDEATH                      at 8, node 4, bdSeq 1
--   6      a gap began                 at 8, node 4, awaited 8, missing 8
--   7      a hole, ended by an NBIRTH  node 4, from 8, to 8, missing 8, unused 8
--   8      .. by a new session         the same
--   9      .. by the host's session    the same
--   10     NDATA                       at 8, node 4, seq 1, payload to the end
--   11     DBIRTH                      at 8, node 4, seq 1, device 2 + n, payload to the end
--   12     DDATA                       the same
--   13     DDEATH                      the same
--
-- A text is UTF-8, behind its length in two bytes.
use Rattle.std.specs.Prelude.{ℕ, ◌<◌, ◌≤◌, ◌^◌, List, [], ◌∷◌, ◌++◌, length}
use Rattle.std.specs.Str.{IsUtf8}
use Rattle.spk_history.specs.declared.entry.SessionEvent.{SessionEvent}
use Rattle.spk_history.specs.declared.entry.SessionEvent.TheVariants as sessions
use Rattle.spk_history.specs.declared.entry.Ending.{Ending}
use Rattle.spk_history.specs.declared.entry.Ending.TheVariants as endings
use Rattle.spk_history.specs.Entry.{KindData, NodeData, DeviceBirth, DeviceData, DeviceDeath, EntryData, Session, Node, Birth, Death, Gap, Hole, Message}
use Rattle.spk_frames.specs.Frame.{framed}
use Rattle.spk_frames.specs.Numbers.{counted, eight, four}

-- ---- a content

abbrev pub session_code : SessionEvent → ℕ
session_code sessions.Began = 1
session_code sessions.Ended = 2

abbrev pub hole_code : Ending → ℕ
hole_code endings.Birth = 7
hole_code endings.NewSession = 8
hole_code endings.HostSession = 9

abbrev pub kind_code : KindData → ℕ
kind_code NodeData = 10
kind_code (DeviceBirth device) = 11
kind_code (DeviceData device) = 12
kind_code (DeviceDeath device) = 13

-- the device's name, where there is one
abbrev pub device_part : KindData → List ℕ
device_part NodeData = []
device_part (DeviceBirth device) = counted device
device_part (DeviceData device) = counted device
device_part (DeviceDeath device) = counted device

unfoldable pub content : EntryData → List ℕ
content (Session at what) = session_code what ∷ eight at
content (Node node group name) = 3 ∷ (four node ++ (counted group ++ counted name))
content (Birth at node stamp bd payload) = 4 ∷ (eight at ++ (four node ++ (eight stamp ++ (bd ∷ payload))))
content (Death at node bd) = 5 ∷ (eight at ++ (four node ++ bd ∷ []))
content (Gap at node awaited missing) = 6 ∷ (eight at ++ (four node ++ (eight awaited ++ eight missing)))
content (Hole node from to missing unused ended_by) = hole_code ended_by ∷ (four node ++ (eight from ++ (eight to ++ (eight missing ++ eight unused))))
content (Message at node kind seq payload) = kind_code kind ∷ (eight at ++ (four node ++ (seq ∷ (device_part kind ++ payload))))

-- ---- a record

-- the most bytes of a content: a DDATA with a device's name of 65,535 bytes and a payload of 268,435,455
abbrev pub most : ℕ
most = 268501006

abbrev pub record_of : EntryData → List ℕ
record_of e = framed (content e)

-- ---- which entries have a record

-- its numbers have as many bytes as the table says
unfoldable pub HasWords : EntryData → Type 0
HasWords (Session at what) = at < 2 ^ 64
HasWords (Node node group name) = node < 2 ^ 32
HasWords (Birth at node stamp bd payload) = (at < 2 ^ 64) × (node < 2 ^ 32) × (stamp < 2 ^ 64) × (bd < 256)
HasWords (Death at node bd) = (at < 2 ^ 64) × (node < 2 ^ 32) × (bd < 256)
HasWords (Gap at node awaited missing) = (at < 2 ^ 64) × (node < 2 ^ 32) × (awaited < 2 ^ 64) × (missing < 2 ^ 64)
HasWords (Hole node from to missing unused ended_by) = (node < 2 ^ 32) × (from < 2 ^ 64) × (to < 2 ^ 64) × (missing < 2 ^ 64) × (unused < 2 ^ 64)
HasWords (Message at node kind seq payload) = (at < 2 ^ 64) × (node < 2 ^ 32) × (seq < 256)

abbrev pub IsText : List ℕ → Type 0
IsText bytes = IsUtf8 bytes × (length bytes < 2 ^ 16)

abbrev pub HasDevice : KindData → Type 0
HasDevice NodeData = Unit {0}
HasDevice (DeviceBirth device) = IsText device
HasDevice (DeviceData device) = IsText device
HasDevice (DeviceDeath device) = IsText device

-- its texts are UTF-8, of at most 65,535 bytes
unfoldable pub HasTexts : EntryData → Type 0
HasTexts (Node node group name) = IsText group × IsText name
HasTexts (Message at node kind seq payload) = HasDevice kind
HasTexts _ = Unit {0}

-- An entry that has a record.
pub record IsEntry (e : EntryData) : Type 0 where
  pub words : HasWords e
  pub texts : HasTexts e
  pub small : length (content e) ≤ most

-- the payload that an entry carries, if any
unfoldable pub payload_of : EntryData → List ℕ
payload_of (Birth at node stamp bd payload) = payload
payload_of (Message at node kind seq payload) = payload
payload_of _ = []
