-- Rows that are worked out by hand.
use Rattle.std.proofs.Common.{◌≡◌, ℕ, refl, [], ◌∷◌, map, Option, Some, None, List}
use Rattle.std.specs.Prelude.{codes}
use Rattle.spk_history.specs.declared.entry.SessionEvent.TheVariants as sessions
use Rattle.spk_history.specs.Entry.{EntryData, NodeData, Session, Node, Birth, Death, Gap, Message}
use Rattle.spk_history_rows.specs.History.{rows_of}
use Rattle.spk_history_rows.specs.Row.{NodeData as Name, RowData}

-- A session begins; node 0 is A of the group G, is born, and sends data; node 1 wasn't named.
abbrev first : List EntryData
first = Session 1000 sessions.Began ∷ Node 0 (codes "G") (codes "A") ∷ Birth 1001 0 7 3 [] ∷ Message 1002 0 NodeData 1 [] ∷ Message 1003 1 NodeData 2 [] ∷ []

-- In the next part the number 5 stands for it, and 0 for B.
abbrev second : List EntryData
second = Node 0 (codes "G") (codes "B") ∷ Node 5 (codes "G") (codes "A") ∷ Gap 2000 5 2 1 ∷ Message 2001 0 NodeData 1 [] ∷ Death 2002 5 3 ∷ []

abbrev Brief : Type 0
Brief = ℕ × Option Name × Option ℕ

abbrev brief : RowData → Brief
brief row = (row.place, row.owner, row.birth)

abbrev a : Option Name
a = Some (record { group = codes "G"; name = codes "A" })

abbrev b : Option Name
b = Some (record { group = codes "G"; name = codes "B" })

-- The place of each row, its node, and the node's last birth.
pub worked : map brief (rows_of (first ∷ second ∷ []))
    ≡ (0, None, None)
    ∷ (1, a, None)
    ∷ (2, a, Some 2)
    ∷ (3, a, Some 2)
    ∷ (4, None, None)
    ∷ (5, b, None)
    ∷ (6, a, Some 2)
    ∷ (7, a, Some 2)
    ∷ (8, b, None)
    ∷ (9, a, Some 2)
    ∷ []
worked = refl
