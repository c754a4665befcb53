-- A packet as contracts see it.
use Rattle.std.specs.Prelude.{ℕ, List, map, string_bytes}
use Rattle.std.specs.Option.{option_map}
use Rattle.spk_packets.specs.declared.packet.Packet.{Packet}
use Rattle.spk_packets.specs.declared.packet.Packet.TheVariants as packets
use Rattle.spk_packets.specs.declared.packet.Request.{Request}
use Rattle.spk_packets.specs.declared.packet.Will.{Will}
use Rattle.spk_packets.specs.declared.borrowed.PublishRef.{PublishRef}
use Rattle.spk_packets.specs.declared.connect.Flags.{Flags}
use Rattle.spk_packets.specs.Reading.{FlagsData}
use Rattle.spk_packets.specs.Message.{WillData, Message, Connect, ConnAck, Publish, PubAck, Subscribe, SubAck, Unsubscribe, UnsubAck, PingReq, PingResp, Disconnect}

abbrev pub will_view : Will → WillData
will_view will = record { topic = string_bytes will.topic; message = will.message.items; qos = will.qos; retain = will.retain }

abbrev pub request_view : Request → List ℕ × ℕ
request_view request = (string_bytes request.filter, request.qos)

-- what a packet says
abbrev pub view : Packet → Message
view (packets.Connect client clean keep will) = Connect (string_bytes client) clean keep (option_map will_view will)
view (packets.ConnAck present code) = ConnAck present code
view (packets.Publish dup qos retain topic id payload) = Publish dup qos retain (string_bytes topic) id payload.items
view (packets.PubAck id) = PubAck id
view (packets.Subscribe id filters) = Subscribe id (map request_view filters.items)
view (packets.SubAck id codes) = SubAck id codes.items
view (packets.Unsubscribe id filters) = Unsubscribe id (map (λ filter. string_bytes filter) filters.items)
view (packets.UnsubAck id) = UnsubAck id
view packets.PingReq = PingReq
view packets.PingResp = PingResp
view packets.Disconnect = Disconnect

-- a packet, and how many bytes it takes
abbrev pub front_view : Packet × ℕ → Message × ℕ
front_view x = (view x.0, x.1)

-- what connect flags say
abbrev pub flags_view : Flags → FlagsData
flags_view flags = record { user = flags.user; password = flags.password; will = option_map (λ will. (will.qos, will.retain)) flags.will; clean = flags.clean }

-- what a PUBLISH says whose topic and payload are borrowed
abbrev pub publish_view : PublishRef → Message
publish_view p = Publish p.dup p.qos p.retain p.topic.now p.id p.payload.now

-- such a PUBLISH, and how many bytes it takes
abbrev pub lent_view : PublishRef × ℕ → Message × ℕ
lent_view x = (publish_view x.0, x.1)
