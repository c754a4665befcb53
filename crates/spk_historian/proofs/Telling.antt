-- What a historian was told: an event more, a node that is named, and the next part.
use Rattle.std.proofs.Common.{◌≡◌, ℕ, ◌||◌, ◌==◌, Bool, true, false, List, [], ◌∷◌, ◌++◌, Result, Ok, Err, OnOk, Option, Some, None, IfSome, sym, refl, ap, ◌∙◌, subst, append_assoc, append-nil, cond, if◌then◌else◌, reverse, arith}
use Rattle.std.specs.Option.{option_map_or}
use Rattle.spk_history.specs.Entry.{EntryData}
use Rattle.spk_history.specs.File.{file_of}
use Rattle.spk_history.specs.Parts.{AreNamed, PartsData, Stands, named}
use Rattle.spk_history.specs.declared.fault.HistoryFault.{HistoryFault}
use Rattle.spk_historian.specs.declared.nodes.Kept.{Kept}
use Rattle.spk_historian.specs.Event.{NameData, EventData, node_of}
use Rattle.spk_historian.specs.Told.{AddsTo, AreCalled, HistorianData, Tells, are_named, awaited, entries_of, entry_of, entry_with, happened, kept_at, names, naming, naming_as, naming_of, refers}
use Rattle.spk_historian.proofs.Entries.{called_more, entry_named, entry_names, entry_refers, happened_more, happened_same, named_more, nodes_called, or-false, or-true}
use Rattle.std.proofs.lemmas.Bool.{eqb-true}

-- ---- an entry that names no node

pub adds : (result : Result (Unit {0}) HistoryFault) (old new : PartsData) (e f : EntryData) → named e ≡ [] → f ≡ e
    → OnOk result ((part : List ℕ) (entries : List EntryData) → Stands part entries old → Stands part (entries ++ e ∷ []) new)
    → OnOk result ((nodes : List EntryData) → AreNamed old nodes → AreNamed new (nodes ++ named e))
    → OnOk result (AddsTo old f new)
adds (Ok x) old new e f none same stands again = subst (λ g. AddsTo old g new) (sym same) (record {
  stands = stands;
  again = λ nodes are. subst (AreNamed new) (ap (λ more. nodes ++ more) none ∙ append-nil nodes) (again nodes are);
})
adds (Err x) old new e f none same stands again = tt

-- ---- an event more

-- what is kept of its node tells which position is awaited
pub position : (ks : List Kept) (es : List EventData) → ((n : ℕ) → (kept_at ks n).used ≡ awaited n es) → (o : Option NameData)
    → option_map_or (λ node. (kept_at ks node.number).used) o 0 ≡ option_map_or (λ node. awaited node.number es) o 0
position ks es counts None = refl
position ks es counts (Some node) = counts node.number

pub told : (h : HistorianData) (q : PartsData) (ks : List Kept) (e : EventData) (before entries : List EntryData) (part : List ℕ) (es : List EventData)
    → AddsTo h.parts (entry_of es e) q
    → IfSome (node_of e) (λ node. (kept_at h.nodes node.number).is_named ≡ true)
    → ((n : ℕ) → (kept_at ks n).is_named ≡ (kept_at h.nodes n).is_named)
    → ((n : ℕ) → (kept_at ks n).used ≡ awaited n (e ∷ es))
    → Tells before entries part es h
    → Tells before (entries ++ entry_of es e ∷ []) part (e ∷ es) (record { parts = q; nodes = ks })
told h q ks e before entries part es adds is_named same counts t =
    let x = entry_of es e in
    let nodes = t.again.0 in
    record {
      stands = adds.stands part entries t.stands;
      are = happened_more before entries es e t.are;
      counts = counts;
      called = called_more [] entries x t.called (entry_refers (λ n. are_named n entries ≡ true) _ e (of_named (node_of e) h.nodes entries t.named is_named));
      named = λ n. same n ∙ t.named n ∙ sym (named_more n entries x false (entry_names n _ e) ∙ or-false (are_named n entries));
      again = (nodes, adds.again nodes t.again.1, t.again.2, λ n. same n ∙ t.again.3 n);
    }
  where
    of_named : (o : Option NameData) (ks : List Kept) (entries : List EntryData) → ((n : ℕ) → (kept_at ks n).is_named ≡ are_named n entries)
        → IfSome o (λ node. (kept_at ks node.number).is_named ≡ true) → IfSome o (λ node. are_named node.number entries ≡ true)
    of_named None ks entries named is = tt
    of_named (Some node) ks entries named is = sym (named node.number) ∙ is

-- ---- a node that is named

now_named : (node : NameData) (ks old : List Kept) (u : ℕ) (entries : List EntryData)
    → ((n : ℕ) → kept_at ks n ≡ (if node.number == n then record { is_named = true; used = u } else kept_at old n))
    → ((n : ℕ) → (kept_at old n).is_named ≡ are_named n entries)
    → (n : ℕ) → (kept_at ks n).is_named ≡ are_named n (entries ++ naming_of node ∷ [])
now_named node ks old u entries kept is n = ap (λ (k : Kept). k.is_named) (kept n) ∙ by (node.number == n) ∙ sym (named_more n entries (naming_of node) (node.number == n) refl)
  where
    by : (b : Bool) → (if b then record { is_named = true; used = u } else kept_at old n).is_named ≡ (are_named n entries || b)
    by true = sym (or-true (are_named n entries))
    by false = is n ∙ sym (or-false (are_named n entries))

pub called : (h : HistorianData) (q : PartsData) (ks : List Kept) (node : NameData) (before entries : List EntryData) (part : List ℕ) (es : List EventData)
    → ((part : List ℕ) (entries : List EntryData) → Stands part entries h.parts → Stands part (entries ++ naming_of node ∷ []) q)
    → ((nodes : List EntryData) → AreNamed h.parts nodes → AreNamed q (nodes ++ naming_of node ∷ []))
    → ((n : ℕ) → kept_at ks n ≡ (if node.number == n then record { is_named = true; used = (kept_at h.nodes node.number).used } else kept_at h.nodes n))
    → Tells before entries part es h
    → Tells before (entries ++ naming_of node ∷ []) part es (record { parts = q; nodes = ks })
called h q ks node before entries part es stands again kept t =
    let x = naming_of node in
    let nodes = t.again.0 in
    record {
      stands = stands part entries t.stands;
      are = happened_same before entries (x ∷ []) refl ∙ t.are;
      counts = λ n. ap (λ (k : Kept). k.used) (kept n) ∙ by n (node.number == n) refl ∙ t.counts n;
      called = called_more [] entries x t.called tt;
      named = now_named node ks h.nodes _ entries kept t.named;
      again = (nodes ++ x ∷ [], again nodes t.again.1, happened_same [] nodes (x ∷ []) refl ∙ t.again.2, now_named node ks h.nodes _ nodes kept t.again.3);
    }
  where
    by : (n : ℕ) (b : Bool) → (node.number == n) ≡ b
        → (if b then record { is_named = true; used = (kept_at h.nodes node.number).used } else kept_at h.nodes n).used ≡ (kept_at h.nodes n).used
    by n true is = ap (λ m. (kept_at h.nodes m).used) (eqb-true node.number n is)
    by n false is = refl

-- the same, where what is kept is told of what stood there, and the node wasn't named
pub newly_called : (h : HistorianData) (q : PartsData) (placed ks : List Kept) (was : Kept) (node : NameData)
    → ((n : ℕ) → kept_at placed n ≡ kept_at h.nodes n) → was ≡ kept_at placed node.number → was.is_named ≡ false
    → ((part : List ℕ) (entries : List EntryData) → Stands part entries h.parts → Stands part (entries ++ naming_of node ∷ []) q)
    → ((nodes : List EntryData) → AreNamed h.parts nodes → AreNamed q (nodes ++ naming_of node ∷ []))
    → ((n : ℕ) → kept_at ks n ≡ (if node.number == n then record { is_named = true; used = was.used } else kept_at placed n))
    → (before entries : List EntryData) (part : List ℕ) (es : List EventData)
    → Tells before entries part es h
    → Tells before (entries ++ naming_as h.nodes node) part es (record { parts = q; nodes = ks })
newly_called h q placed ks was node same is fresh stands again kept before entries part es t =
    let was_there : was ≡ kept_at h.nodes node.number = is ∙ same node.number in
    let unnamed : (kept_at h.nodes node.number).is_named ≡ false = ap (λ (k : Kept). k.is_named) (sym was_there) ∙ fresh in
    subst (λ more. Tells before (entries ++ more) part es (record { parts = q; nodes = ks })) (ap (λ b. cond b [] (naming_of node ∷ [])) (sym unnamed))
    (called h q ks node before entries part es stands again
    (λ n. kept n ∙ ap (λ (k : Kept). cond (node.number == n) k (kept_at placed n)) (ap (λ (u : Kept). record { is_named = true; used = u.used }) was_there)
    ∙ ap (λ (k : Kept). cond (node.number == n) (record { is_named = true; used = (kept_at h.nodes node.number).used }) k) (same n))
    t)

-- ---- the next part

pub rolled : (h : HistorianData) (q : PartsData) (before entries : List EntryData) (part : List ℕ) (es : List EventData)
    → h.parts.unwritten ≡ [] → q.nodes ≡ h.parts.nodes
    → ((nodes : List EntryData) → AreNamed h.parts nodes → Stands [] nodes q)
    → Tells before entries part es h
    → (part ≡ file_of entries) × ((nodes : List EntryData) × Tells (before ++ entries) nodes [] es (record { parts = q; nodes = h.nodes }))
rolled h q before entries part es none same stands t =
    let nodes = t.again.0 in (
      sym (append-nil part) ∙ ap (λ x. part ++ x) (sym none) ∙ t.stands.are,
      (
        nodes,
        record {
          stands = stands nodes t.again.1;
          are = happened_same [] (before ++ entries) nodes t.again.2 ∙ t.are;
          counts = t.counts;
          called = nodes_called [] nodes t.again.2;
          named = t.again.3;
          again = (nodes, record { are = same ∙ t.again.1.are; fit = t.again.1.fit }, t.again.2, t.again.3);
        },
      ),
    )
