-- The numbers of the faults, and what it means that a call answered as the definitions say.
use Rattle.std.specs.Prelude.{◌≡◌, ℕ, List, [], ◌∷◌, Bool, true, false, Option, Some, None, Result, Ok, Err}
use Rattle.spk_packets.specs.declared.fault.PacketFault.{PacketFault}
use Rattle.spk_packets.specs.declared.fault.PacketFault.TheVariants.{NoMemory, More, BadLength, BadFlags, BadType, BadText, BadBody, TooLarge, QosTwo, BadLevel}

abbrev pub number_of : PacketFault → ℕ
number_of NoMemory = 1
number_of More = 10
number_of BadLength = 11
number_of BadFlags = 12
number_of BadType = 13
number_of BadText = 14
number_of BadBody = 15
number_of TooLarge = 16
number_of QosTwo = 17
number_of BadLevel = 18

-- whether a fault says something of the bytes, and not of memory
abbrev pub is_of_bytes : PacketFault → Bool
is_of_bytes NoMemory = false
is_of_bytes _ = true

-- The fault of the first condition that holds.
abbrev pub first_of : List (Bool × PacketFault) → Option PacketFault
first_of [] = None
first_of ((true, fault) ∷ rest) = Some fault
first_of ((false, fault) ∷ rest) = first_of rest

-- The fault answered is the one that the order names, unless memory ran out.
abbrev pub IsNamed : PacketFault → Option PacketFault → Type 0
IsNamed NoMemory named = Unit {0}
IsNamed More named = named ≡ Some More
IsNamed BadLength named = named ≡ Some BadLength
IsNamed BadFlags named = named ≡ Some BadFlags
IsNamed BadType named = named ≡ Some BadType
IsNamed BadText named = named ≡ Some BadText
IsNamed BadBody named = named ≡ Some BadBody
IsNamed TooLarge named = named ≡ Some TooLarge
IsNamed QosTwo named = named ≡ Some QosTwo
IsNamed BadLevel named = named ≡ Some BadLevel

-- What was answered, seen by view, is what the definition gives, unless memory ran out.
abbrev pub Fails : {Y : Type 0} → PacketFault → Result Y PacketFault → Type 0
Fails NoMemory given = Unit {0}
Fails More given = given ≡ Err More
Fails BadLength given = given ≡ Err BadLength
Fails BadFlags given = given ≡ Err BadFlags
Fails BadType given = given ≡ Err BadType
Fails BadText given = given ≡ Err BadText
Fails BadBody given = given ≡ Err BadBody
Fails TooLarge given = given ≡ Err TooLarge
Fails QosTwo given = given ≡ Err QosTwo
Fails BadLevel given = given ≡ Err BadLevel

abbrev pub Gives : {X Y : Type 0} → (X → Y) → Result X PacketFault → Result Y PacketFault → Type 0
Gives view (Ok x) given = given ≡ Ok (view x)
Gives view (Err e) given = Fails e given
