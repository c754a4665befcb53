-- What is kept of a broker, line by line (own rules). A content is a code, two numbers of eight bytes, the lowest first, 0 where the line has none, and a packet in its
-- canonical spelling, where it has one:
--
--   code  what                                        numbers                                packet
--   16    how many were given and made                connections given, sessions made
--   17    a connection without CONNECT                its number, 0
--   18    a session                                   its number, 0                          CONNECT: its client, and whether it is clean
--   19    the connection of the session before        its number, 0                          PUBLISH: its will, where it has one
--   20    a grant of that session                     0, 0                                   SUBSCRIBE of one entry
--   21    an identifier of it in use                  the identifier, 0
--   22    the identifier that it gave last            the identifier, 0
--   23    a message of it that isn't acknowledged     0, 0                                   PUBLISH of QoS 1, DUP where it was handed out
--   24    a retained message                          0, 0                                   PUBLISH
--
-- Each stands in its frame, with its length and its sum. No content of an event has such a code.
use Rattle.std.specs.Prelude.{◌≡◌, ℕ, ◌<◌, ◌^◌, List, [], ◌∷◌, ◌++◌, Option, Some, None}
use Rattle.std.specs.Option.{option_map}
use Rattle.spk_frames.specs.Frame.{framed}
use Rattle.spk_frames.specs.Numbers.{eight}
use Rattle.spk_packets.specs.declared.fault.PacketFault.{PacketFault}
use Rattle.spk_packets.specs.Fault.{first_of}
use Rattle.spk_packets.specs.Grammar.{Spells}
use Rattle.spk_packets.specs.Message.{Message}
use Rattle.spk_packets.specs.Spelling.{spelling, unwritable}
use Rattle.spk_packets.specs.View.{view}
use Rattle.spk_packets.specs.declared.packet.Packet.{Packet}
use Rattle.spk_broker_events.specs.declared.line.Kind.{Kind}
use Rattle.spk_broker_events.specs.declared.line.Kind.TheVariants as kind
use Rattle.spk_broker_events.specs.declared.line.Line.{Line}

pub record Kept : Type 0 where
  pub kind : Kind
  pub first : ℕ
  pub second : ℕ
  pub packet : Option Message

-- a line of the code
abbrev pub kept : Line → Kept
kept l = record { kind = l.kind; first = l.first; second = l.second; packet = option_map view l.packet }

abbrev pub kind_code : Kind → ℕ
kind_code kind.Numbers = 16
kind_code kind.Waiting = 17
kind_code kind.Session = 18
kind_code kind.Sits = 19
kind_code kind.Grant = 20
kind_code kind.InUse = 21
kind_code kind.Last = 22
kind_code kind.Unacknowledged = 23
kind_code kind.Retained = 24

unfoldable pub line_front : (code first second : ℕ) → List ℕ
line_front code first second = code ∷ (eight first ++ eight second)

abbrev pub text_of : Option Message → List ℕ
text_of None = []
text_of (Some p) = spelling p

abbrev pub line_content : Kept → List ℕ
line_content l = line_front (kind_code l.kind) l.first l.second ++ text_of l.packet

abbrev pub line_record : Kept → List ℕ
line_record l = framed (line_content l)

-- why a line has no record: its packet has no spelling
abbrev pub line_refusal : Option Message → Option PacketFault
line_refusal None = None
line_refusal (Some p) = first_of (unwritable p)

-- ---- what a content says

abbrev pub IsText : Option Message → List ℕ → Type 0
IsText None text = text ≡ []
IsText (Some p) text = Spells text p

-- what is read of these bytes: the packet that they are, no packet where there are none, or nothing where they are anything else
abbrev pub IsPacket : List ℕ → Option (Option Packet) → Type 0
IsPacket bytes None = (p : Option Message) → IsText p bytes → ⊥
IsPacket bytes (Some p) = IsText (option_map view p) bytes

-- its numbers have eight bytes, and it is the line's content, but that its packet may stand in any spelling
pub record SaysLine (bytes : List ℕ) (l : Kept) : Type 0 where
  pub first : l.first < 2 ^ 64
  pub second : l.second < 2 ^ 64
  pub text : List ℕ
  pub spelled : IsText l.packet text
  pub is : bytes ≡ line_front (kind_code l.kind) l.first l.second ++ text

-- what is read of a content: the line that it says, or none where it says none
abbrev pub IsLine : List ℕ → Option Line → Type 0
IsLine bytes None = (l : Kept) → SaysLine bytes l → ⊥
IsLine bytes (Some l) = SaysLine bytes (kept l)
