-- The number of each fault, and which fault of the program one of what it stands on is.
use Rattle.std.specs.Prelude.{ℕ}
use Rattle.spk_connection.specs.declared.fault.ConnectionFault.{ConnectionFault}
use Rattle.spk_connection.specs.declared.fault.ConnectionFault.TheVariants as connection
use Rattle.spk_edge_rules.specs.declared.fault.EdgeFault.{EdgeFault}
use Rattle.spk_edge_rules.specs.declared.fault.EdgeFault.TheVariants as edge
use Rattle.spk_login.specs.declared.fault.LoginFault.{LoginFault}
use Rattle.spk_login.specs.declared.fault.LoginFault.TheVariants as login
use Rattle.spk_packets.specs.declared.fault.PacketFault.{PacketFault}
use Rattle.spk_packets.specs.declared.fault.PacketFault.TheVariants as packet
use Rattle.spk_edge_app.specs.declared.fault.EdgeAppFault.{EdgeAppFault}
use Rattle.spk_edge_app.specs.declared.fault.EdgeAppFault.TheVariants.{NoMemory, TooLarge, NotOpen, Open, Stopped, Edge, Login, Packet}

abbrev pub number_of : EdgeAppFault → ℕ
number_of NoMemory = 1
number_of TooLarge = 16
number_of NotOpen = 112
number_of Open = 113
number_of Stopped = 114
number_of (Edge fault) = 115
number_of (Login fault) = 116
number_of (Packet fault) = 117

-- want of memory is the program's, whoever wants it
abbrev pub edge_fault : EdgeFault → EdgeAppFault
edge_fault edge.NoMemory = NoMemory
edge_fault edge.WrongPhase = Edge edge.WrongPhase
edge_fault edge.ClockEnd = Edge edge.ClockEnd
edge_fault edge.BadCommand = Edge edge.BadCommand
edge_fault edge.BadConfig = Edge edge.BadConfig
edge_fault edge.TooLarge = Edge edge.TooLarge
edge_fault (edge.Device refusal) = Edge (edge.Device refusal)
edge_fault (edge.State fault) = Edge (edge.State fault)
edge_fault edge.TwoOwners = Edge edge.TwoOwners

abbrev pub login_fault : LoginFault → EdgeAppFault
login_fault login.NoMemory = NoMemory
login_fault login.BadText = Login login.BadText
login_fault login.TooLarge = Login login.TooLarge
login_fault login.NoConnect = Login login.NoConnect

abbrev pub packet_fault : PacketFault → EdgeAppFault
packet_fault packet.NoMemory = NoMemory
packet_fault packet.More = Packet packet.More
packet_fault packet.BadLength = Packet packet.BadLength
packet_fault packet.BadFlags = Packet packet.BadFlags
packet_fault packet.BadType = Packet packet.BadType
packet_fault packet.BadText = Packet packet.BadText
packet_fault packet.BadBody = Packet packet.BadBody
packet_fault packet.TooLarge = Packet packet.TooLarge
packet_fault packet.QosTwo = Packet packet.QosTwo
packet_fault packet.BadLevel = Packet packet.BadLevel

abbrev pub connection_fault : ConnectionFault → EdgeAppFault
connection_fault connection.NoMemory = NoMemory
connection_fault connection.TooLarge = TooLarge
connection_fault connection.NotOpen = NotOpen
