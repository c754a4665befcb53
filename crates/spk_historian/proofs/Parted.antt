-- What is read of the parts of a history.
use Rattle.std.proofs.Common.{◌≡◌, ℕ, List, [], ◌∷◌, ◌++◌, map, true, cond, sym, refl, ap, ◌∙◌, subst, append_assoc, append-nil, reverse}
use Rattle.std.specs.List.{filter, filter_map}
use Rattle.std.proofs.lemmas.List.Elements.{filter-append}
use Rattle.spk_history.specs.Entry.{EntryData}
use Rattle.spk_history.specs.File.{AreEntries, AreParts, AreRead, Begins, file_of, joined}
use Rattle.spk_historian.specs.Event.{WhatData, NodeBirth, NodeData, DeviceBirth, DeviceData, DeviceDeath, EventData, Began, Ended, Consumed, Died, Gap, Hole}
use Rattle.spk_historian.specs.Told.{HistorianData, Tells, consumed, entries_of, entry_of, happened, is_event, is_message, message_of}

-- ---- messages

one_message : (at n seq : ℕ) (bytes : List ℕ) (w : WhatData) → is_message (message_of at n seq bytes w) ≡ true
one_message at n seq bytes (NodeBirth stamp bd) = refl
one_message at n seq bytes NodeData = refl
one_message at n seq bytes (DeviceBirth device) = refl
one_message at n seq bytes (DeviceData device) = refl
one_message at n seq bytes (DeviceDeath device) = refl

pub messages_are : (es : List EventData) → filter is_message (entries_of es) ≡ filter_map consumed es
messages_are [] = refl
messages_are (Began at ∷ es) = messages_are es
messages_are (Ended at ∷ es) = messages_are es
messages_are (Consumed at node what seq payload ∷ es) =
    let x = entry_of es (Consumed at node what seq payload) in
    ap (λ b. cond b (x ∷ filter is_message (entries_of es)) (filter is_message (entries_of es))) (one_message at node.number seq _ what)
    ∙ ap (λ t. x ∷ t) (messages_are es)
messages_are (Died at node bd ∷ es) = messages_are es
messages_are (Gap at node missing ∷ es) = messages_are es
messages_are (Hole node from to missing unused ended_by ∷ es) = messages_are es

-- ---- parts

joined_more : (parts : List (List EntryData)) (last : List EntryData) → joined (parts ++ last ∷ []) ≡ joined parts ++ last
joined_more [] last = append-nil last
joined_more (part ∷ parts) last = ap (λ t. part ++ t) (joined_more parts last) ∙ sym (append_assoc part (joined parts) last)

parts_more : (parts : List (List EntryData)) (last : List EntryData) → AreParts parts → AreEntries last → AreParts (parts ++ last ∷ [])
parts_more [] last are fit = (fit, tt)
parts_more (part ∷ parts) last are fit = (are.0, parts_more parts last are.1 fit)

files_more : (parts : List (List EntryData)) (last : List EntryData) → map file_of (parts ++ last ∷ []) ≡ map file_of parts ++ file_of last ∷ []
files_more [] last = refl
files_more (part ∷ parts) last = ap (λ t. file_of part ∷ t) (files_more parts last)

pub whole_read : (law : (parts : List (List EntryData)) (read : List EntryData) → AreParts parts → AreRead (map file_of parts) read → read ≡ joined parts)
    → (h : HistorianData) (parts : List (List EntryData)) (entries read : List EntryData) (part : List ℕ) (es : List EventData) → AreParts parts
    → Tells (joined parts) entries part es h → h.parts.unwritten ≡ [] → AreRead (map file_of parts ++ part ∷ []) read
    → happened read ≡ reverse (entries_of es)
whole_read law h parts entries read part es are t none reads =
    let file : part ≡ file_of entries = sym (append-nil part) ∙ ap (λ x. part ++ x) (sym none) ∙ t.stands.are in
    let same : read ≡ joined parts ++ entries =
    law (parts ++ entries ∷ []) read (parts_more parts entries are t.stands.fit)
    (subst (λ files. AreRead files read) (ap (λ x. map file_of parts ++ x ∷ []) file ∙ sym (files_more parts entries)) reads)
    ∙ joined_more parts entries in
    ap happened same ∙ t.are

-- what happened in the beginning of a list is the beginning of what happened in it
happened_front : (front list : List EntryData) → Begins front list → Begins (happened front) (happened list)
happened_front front list begins = (happened begins.0, ap happened begins.1 ∙ filter-append is_event front begins.0)

pub torn_read : (law : (parts : List (List EntryData)) (last read : List EntryData) (front lost : List ℕ) → AreParts parts → AreEntries last
    → front ++ lost ≡ file_of last → AreRead (map file_of parts ++ front ∷ []) read → Begins (joined parts) read × Begins read (joined parts ++ last))
    → (h : HistorianData) (parts : List (List EntryData)) (entries read : List EntryData) (part front lost : List ℕ) (es : List EventData) → AreParts parts
    → Tells (joined parts) entries part es h → front ++ lost ≡ part → AreRead (map file_of parts ++ front ∷ []) read
    → Begins (happened read) (reverse (entries_of es))
torn_read law h parts entries read part front lost es are t cut reads =
    let file : front ++ (lost ++ h.parts.unwritten) ≡ file_of entries = sym (append_assoc front lost h.parts.unwritten) ∙ ap (λ x. x ++ h.parts.unwritten) cut ∙ t.stands.are in
    let begins = (law parts entries read front (lost ++ h.parts.unwritten) are t.stands.fit file reads).1 in
    subst (Begins (happened read)) t.are (happened_front read (joined parts ++ entries) begins)
