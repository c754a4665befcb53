-- Entries behind others: what happened, which nodes are named, and that each is called.
use Rattle.std.proofs.Common.{◌≡◌, ℕ, ◌||◌, Bool, true, false, List, [], ◌∷◌, ◌++◌, length, Option, Some, None, IfSome, sym, refl, ap, ◌∙◌, subst, append_assoc, append-nil, cond, reverse, arith}
use Rattle.std.specs.List.{filter, list_any}
use Rattle.std.specs.Option.{option_map_or}
use Rattle.std.proofs.lemmas.List.Elements.{filter-append}
use Rattle.std.proofs.lemmas.List.Folds.{list_any-append}
use Rattle.std.proofs.lemmas.List.{reverse-append}
use Rattle.spk_history.specs.Entry as entry
use Rattle.spk_history.specs.Entry.{EntryData}
use Rattle.spk_history.specs.Parts.{named}
use Rattle.spk_historian.specs.Event.{NameData, WhatData, NodeBirth, NodeData, DeviceBirth, DeviceData, DeviceDeath, EventData, Began, Ended, Consumed, Died, Gap, Hole, node_of}
use Rattle.spk_historian.specs.Told.{AreCalled, are_named, entries_of, entry_of, entry_with, happened, is_event, message_of, names, refers}

-- ---- the entry of an event

message_happened : (at n seq : ℕ) (bytes : List ℕ) (w : WhatData) → is_event (message_of at n seq bytes w) ≡ true
message_happened at n seq bytes (NodeBirth stamp bd) = refl
message_happened at n seq bytes NodeData = refl
message_happened at n seq bytes (DeviceBirth device) = refl
message_happened at n seq bytes (DeviceData device) = refl
message_happened at n seq bytes (DeviceDeath device) = refl

pub entry_happened : (k : ℕ) (e : EventData) → is_event (entry_with k e) ≡ true
entry_happened k (Began at) = refl
entry_happened k (Ended at) = refl
entry_happened k (Consumed at node what seq payload) = message_happened at node.number seq _ what
entry_happened k (Died at node bd) = refl
entry_happened k (Gap at node missing) = refl
entry_happened k (Hole node from to missing unused ended_by) = refl

message_names : (m at n seq : ℕ) (bytes : List ℕ) (w : WhatData) → names m (message_of at n seq bytes w) ≡ false
message_names m at n seq bytes (NodeBirth stamp bd) = refl
message_names m at n seq bytes NodeData = refl
message_names m at n seq bytes (DeviceBirth device) = refl
message_names m at n seq bytes (DeviceData device) = refl
message_names m at n seq bytes (DeviceDeath device) = refl

pub entry_names : (m k : ℕ) (e : EventData) → names m (entry_with k e) ≡ false
entry_names m k (Began at) = refl
entry_names m k (Ended at) = refl
entry_names m k (Consumed at node what seq payload) = message_names m at node.number seq _ what
entry_names m k (Died at node bd) = refl
entry_names m k (Gap at node missing) = refl
entry_names m k (Hole node from to missing unused ended_by) = refl

message_refers : (P : ℕ → Type 0) (at n seq : ℕ) (bytes : List ℕ) (w : WhatData) → P n → IfSome (refers (message_of at n seq bytes w)) P
message_refers P at n seq bytes (NodeBirth stamp bd) p = p
message_refers P at n seq bytes NodeData p = p
message_refers P at n seq bytes (DeviceBirth device) p = p
message_refers P at n seq bytes (DeviceData device) p = p
message_refers P at n seq bytes (DeviceDeath device) p = p

pub entry_refers : (P : ℕ → Type 0) (k : ℕ) (e : EventData) → IfSome (node_of e) (λ node. P node.number) → IfSome (refers (entry_with k e)) P
entry_refers P k (Began at) p = tt
entry_refers P k (Ended at) p = tt
entry_refers P k (Consumed at node what seq payload) p = message_refers P at node.number seq _ what p
entry_refers P k (Died at node bd) p = p
entry_refers P k (Gap at node missing) p = p
entry_refers P k (Hole node from to missing unused ended_by) p = p

message_named : (at n seq : ℕ) (bytes : List ℕ) (w : WhatData) → named (message_of at n seq bytes w) ≡ []
message_named at n seq bytes (NodeBirth stamp bd) = refl
message_named at n seq bytes NodeData = refl
message_named at n seq bytes (DeviceBirth device) = refl
message_named at n seq bytes (DeviceData device) = refl
message_named at n seq bytes (DeviceDeath device) = refl

pub entry_named : (k : ℕ) (e : EventData) → named (entry_with k e) ≡ []
entry_named k (Began at) = refl
entry_named k (Ended at) = refl
entry_named k (Consumed at node what seq payload) = message_named at node.number seq _ what
entry_named k (Died at node bd) = refl
entry_named k (Gap at node missing) = refl
entry_named k (Hole node from to missing unused ended_by) = refl

-- ---- an entry more

only : (e : EntryData) → is_event e ≡ true → filter is_event (e ∷ []) ≡ e ∷ []
only e is = ap (λ b. cond b (e ∷ []) []) is

-- what happened before, and then an event
pub happened_more : (before entries : List EntryData) (es : List EventData) (e : EventData) → happened (before ++ entries) ≡ reverse (entries_of es)
    → happened (before ++ (entries ++ entry_of es e ∷ [])) ≡ reverse (entries_of (e ∷ es))
happened_more before entries es e are =
    let x = entry_of es e in
    ap happened (sym (append_assoc before entries (x ∷ [])))
    ∙ filter-append is_event (before ++ entries) (x ∷ [])
    ∙ ap (λ t. t ++ filter is_event (x ∷ [])) are
    ∙ ap (λ t. reverse (entries_of es) ++ t) (only x (entry_happened _ e))
    ∙ sym (reverse-append (x ∷ []) (entries_of es))

-- what happened before, and then nothing
pub happened_same : (before entries more : List EntryData) → happened more ≡ [] → happened (before ++ (entries ++ more)) ≡ happened (before ++ entries)
happened_same before entries more none =
    ap happened (sym (append_assoc before entries more))
    ∙ filter-append is_event (before ++ entries) more
    ∙ ap (λ t. happened (before ++ entries) ++ t) none
    ∙ append-nil (happened (before ++ entries))

pub called_more : (front entries : List EntryData) (e : EntryData) → AreCalled front entries → IfSome (refers e) (λ n. are_named n (front ++ entries) ≡ true)
    → AreCalled front (entries ++ e ∷ [])
called_more front [] e a h = (subst (λ t. IfSome (refers e) (λ n. are_named n t ≡ true)) (append-nil front) h, tt)
called_more front (x ∷ xs) e a h =
    (a.0, called_more (front ++ x ∷ []) xs e a.1 (subst (λ t. IfSome (refers e) (λ n. are_named n t ≡ true)) (sym (append_assoc front (x ∷ []) xs)) h))

pub or-false : (b : Bool) → (b || false) ≡ b
or-false true = refl
or-false false = refl

pub or-true : (b : Bool) → (b || true) ≡ true
or-true true = refl
or-true false = refl

-- which nodes are named with an entry more
pub named_more : (n : ℕ) (entries : List EntryData) (e : EntryData) (b : Bool) → names n e ≡ b → are_named n (entries ++ e ∷ []) ≡ (are_named n entries || b)
named_more n entries e b is = list_any-append (names n) entries (e ∷ []) ∙ ap (λ x. are_named n entries || (x || false)) is ∙ ap (λ x. are_named n entries || x) (or-false b)

-- entries that name nodes alone are of none
pub nodes_called : (front nodes : List EntryData) → happened nodes ≡ [] → AreCalled front nodes
nodes_called front [] none = tt
nodes_called front (entry.Session at what ∷ es) none = absurd (omega (arith, ap length none))
nodes_called front (entry.Node node group name ∷ es) none = (tt, nodes_called (front ++ entry.Node node group name ∷ []) es none)
nodes_called front (entry.Birth at node stamp bd payload ∷ es) none = absurd (omega (arith, ap length none))
nodes_called front (entry.Death at node bd ∷ es) none = absurd (omega (arith, ap length none))
nodes_called front (entry.Gap at node awaited missing ∷ es) none = absurd (omega (arith, ap length none))
nodes_called front (entry.Hole node from to missing unused ended_by ∷ es) none = absurd (omega (arith, ap length none))
nodes_called front (entry.Message at node kind seq payload ∷ es) none = absurd (omega (arith, ap length none))
