-- What contracts see of the ends of a ring: the lists of what was offered and of what was taken.
use Rattle.std.specs.Prelude.{◌≡◌, ℕ, ◌≤◌, List, ◌++◌, length}
use mathlib.Core.List.{IsPrefix}
use Rattle.rtrb.specs.Ring as ring
use Rattle.rtrb.specs.Ends.{SameRing}
use Rattle.spk_rings.specs.declared.item.Item.{Item}
use Rattle.spk_rings.specs.declared.outlet.Outlet.{Outlet}
use Rattle.spk_rings.specs.declared.inlet.Inlet.{Inlet}
use Rattle.spk_rings.specs.declared.token.Token.{Token}

abbrev pub IsCapacity : ℕ → Type 0
IsCapacity n = (1 ≤ n) × (n ≤ 65536)

-- all items that the ring took, oldest first
abbrev pub offered : Outlet → List Item
offered o = ring.sent o.end

-- for how many items there is room for certain
abbrev pub free : Outlet → ℕ
free o = ring.known_free o.end

-- all items that were taken out, oldest first
abbrev pub popped : Inlet → List Item
popped i = ring.received i.end

-- the items that are in the ring for certain: the next ones that are taken out
abbrev pub ahead : Inlet → List Item
ahead i = ring.known_items i.end

-- all items that the ring took, once its offers are ended
abbrev pub all_offered : Token → List Item
all_offered t = ring.all_sent t.end

-- the two ends of one ring
abbrev pub AreEnds : Outlet → Inlet → Type 0
AreEnds o i = ring.IsPair o.end i.end

-- the same end of the same ring
abbrev pub SameOutlet : Outlet → Outlet → Type 0
SameOutlet a b = SameRing a.end.end b.end.end

abbrev pub SameInlet : Inlet → Inlet → Type 0
SameInlet a b = SameRing a.end.end b.end.end

-- the token of that outlet's ring
abbrev pub FinishedFrom : Outlet → Token → Type 0
FinishedFrom o t = SameRing o.end.end t.end.end

abbrev pub IsTokenOf : Token → Inlet → Type 0
IsTokenOf t i = ring.IsFinishedOf t.end i.end

-- of the same ring, and with the same items
abbrev pub SameToken : Token → Token → Type 0
SameToken a b = SameRing a.end.end b.end.end × (all_offered b ≡ all_offered a)

-- a list is a front of another, shorter by n
abbrev pub IsShorterBy : ℕ → List Item → List Item → Type 0
IsShorterBy n xs ys = (rest : List Item) × (xs ++ rest ≡ ys) × (length rest ≡ n)

-- what was ahead still is, and more may be
abbrev pub StillAhead : List Item → List Item → Type 0
StillAhead xs ys = IsPrefix xs ys
