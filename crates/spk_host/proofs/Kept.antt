-- What is kept of a node, in a list of nodes that is changed.
use Rattle.std.proofs.Common.{◌≡◌, ◌∙◌, sym, ap, refl, ℕ, Bool, true, false, cond, List, [], ◌∷◌, map, Option, Some}
use Rattle.std.specs.Prelude.{◌&&◌}
use Rattle.std.specs.List.{find}
use Rattle.std.specs.Option.{option_map_or}
use Rattle.std.specs.Str.{bytes_eq}
use Rattle.std.proofs.lemmas.Bool.{true≢false}
use Rattle.std.proofs.lemmas.Slice.Eq.{bytes_eq-Decides}
use Rattle.spk_host_node.specs.Data.{NodeData}
use Rattle.spk_host.specs.Data.{Entry}
use Rattle.spk_host.specs.Inputs.{is_same}
use Rattle.spk_host.specs.Nodes.{change_node, is_of, kept_of, node_or, put_node}

-- ---- names

same_bytes : (a b : List ℕ) → bytes_eq a b ≡ true → a ≡ b
same_bytes a b e = (bytes_eq-Decides a b).0 e

itself : (a : List ℕ) → bytes_eq a a ≡ true
itself a = (bytes_eq-Decides a a).1 refl

both : (a b : Bool) → a && b ≡ true → (a ≡ true) × (b ≡ true)
both true true e = (refl, refl)
both true false e = absurd (true≢false (sym e))
both false b e = absurd (true≢false (sym e))

join : {a b : Bool} → a ≡ true → b ≡ true → a && b ≡ true
join {a} {b} e f = ap (λ x. x && b) e ∙ f

pub same_itself : (group name : List ℕ) → is_same group name group name ≡ true
same_itself group name = join (itself group) (itself name)

pub names_are : (group name other_group other_name : List ℕ) → is_same group name other_group other_name ≡ true →
    (group ≡ other_group) × (name ≡ other_name)
names_are group name other_group other_name e =
    let h = both (bytes_eq group other_group) (bytes_eq name other_name) e in
    (same_bytes group other_group h.0, same_bytes name other_name h.1)

-- an entry of some names isn't one of other names
apart : (group name other_group other_name : List ℕ) (e : Entry) → is_same group name other_group other_name ≡ false →
    is_of other_group other_name e ≡ true → is_of group name e ≡ false
apart group name other_group other_name e differ is =
    let h = names_are other_group other_name e.group e.node is in
    ap (λ g. is_same group name g e.node) (sym h.0) ∙ ap (λ n. is_same group name other_group n) (sym h.1) ∙ differ

-- ---- one place

picked : (first : NodeData) (e : Entry) (o : Option Entry) (b : Bool) →
    option_map_or kept_of (cond b (Some e) o) first ≡ cond b e.kept (option_map_or kept_of o first)
picked first e o true = refl
picked first e o false = refl

-- what is kept, by the first entry and the others
at_first : (first : NodeData) (e : Entry) (entries : List Entry) (group name : List ℕ) →
    node_or first (e ∷ entries) group name ≡ cond (is_of group name e) e.kept (node_or first entries group name)
at_first first e entries group name = picked first e (find (is_of group name) entries) (is_of group name e)

pub here : (first : NodeData) (e : Entry) (entries : List Entry) (group name : List ℕ) → is_of group name e ≡ true →
    node_or first (e ∷ entries) group name ≡ e.kept
here first e entries group name is =
    at_first first e entries group name ∙ ap (λ b. cond b e.kept (node_or first entries group name)) is

pub beyond : (first : NodeData) (e : Entry) (entries : List Entry) (group name : List ℕ) → is_of group name e ≡ false →
    node_or first (e ∷ entries) group name ≡ node_or first entries group name
beyond first e entries group name is =
    at_first first e entries group name ∙ ap (λ b. cond b e.kept (node_or first entries group name)) is

behind : (first : NodeData) (e : Entry) (new old : List Entry) (group name : List ℕ) →
    node_or first new group name ≡ node_or first old group name →
    node_or first (e ∷ new) group name ≡ node_or first (e ∷ old) group name
behind first e new old group name same =
    at_first first e new group name ∙ ap (cond (is_of group name e) e.kept) same ∙ sym (at_first first e old group name)

-- ---- a node that is put

pub put_same : (first kept : NodeData) (entries : List Entry) (group name : List ℕ) →
    node_or first (put_node group name kept entries) group name ≡ kept
put_same first kept [] group name =
    here first (record { group = group; node = name; kept = kept }) [] group name (same_itself group name)
put_same first kept (e ∷ entries) group name = by (is_of group name e) refl (put_same first kept entries group name)
  where
    by : (b : Bool) → is_of group name e ≡ b → node_or first (put_node group name kept entries) group name ≡ kept →
        node_or first (cond b ((record e { kept = kept }) ∷ entries) (e ∷ put_node group name kept entries)) group name ≡ kept
    by true is h = here first (record e { kept = kept }) entries group name is
    by false is h = beyond first e (put_node group name kept entries) group name is ∙ h

pub put_other : (first kept : NodeData) (entries : List Entry) (group name other_group other_name : List ℕ) →
    is_same group name other_group other_name ≡ false →
    node_or first (put_node other_group other_name kept entries) group name ≡ node_or first entries group name
put_other first kept [] group name other_group other_name differ =
    beyond first (record { group = other_group; node = other_name; kept = kept }) [] group name differ
put_other first kept (e ∷ entries) group name other_group other_name differ =
    by (is_of other_group other_name e) refl (put_other first kept entries group name other_group other_name differ)
  where
    by : (b : Bool) → is_of other_group other_name e ≡ b →
        node_or first (put_node other_group other_name kept entries) group name ≡ node_or first entries group name →
        node_or first (cond b ((record e { kept = kept }) ∷ entries) (e ∷ put_node other_group other_name kept entries)) group name
        ≡ node_or first (e ∷ entries) group name
    by true is h =
        let not = apart group name other_group other_name e differ is in
        beyond first (record e { kept = kept }) entries group name not ∙ sym (beyond first e entries group name not)
    by false is h = behind first e (put_node other_group other_name kept entries) entries group name h

-- ---- a node that is changed

pub changed_same : (first : NodeData) (change : NodeData → NodeData) (entries : List Entry) (group name : List ℕ) →
    change first ≡ first →
    node_or first (change_node group name change entries) group name ≡ change (node_or first entries group name)
changed_same first change [] group name still = sym still
changed_same first change (e ∷ entries) group name still =
    by (is_of group name e) refl (changed_same first change entries group name still)
  where
    by : (b : Bool) → is_of group name e ≡ b →
        node_or first (change_node group name change entries) group name ≡ change (node_or first entries group name) →
        node_or first (cond b ((record e { kept = change e.kept }) ∷ entries) (e ∷ change_node group name change entries)) group name
        ≡ change (node_or first (e ∷ entries) group name)
    by true is h =
        here first (record e { kept = change e.kept }) entries group name is ∙ sym (ap change (here first e entries group name is))
    by false is h =
        beyond first e (change_node group name change entries) group name is ∙ h ∙ sym (ap change (beyond first e entries group name is))

pub changed_other : (first : NodeData) (change : NodeData → NodeData) (entries : List Entry)
    (group name other_group other_name : List ℕ) → is_same group name other_group other_name ≡ false →
    node_or first (change_node other_group other_name change entries) group name ≡ node_or first entries group name
changed_other first change [] group name other_group other_name differ = refl
changed_other first change (e ∷ entries) group name other_group other_name differ =
    by (is_of other_group other_name e) refl (changed_other first change entries group name other_group other_name differ)
  where
    by : (b : Bool) → is_of other_group other_name e ≡ b →
        node_or first (change_node other_group other_name change entries) group name ≡ node_or first entries group name →
        node_or first (cond b ((record e { kept = change e.kept }) ∷ entries) (e ∷ change_node other_group other_name change entries)) group name
        ≡ node_or first (e ∷ entries) group name
    by true is h =
        let not = apart group name other_group other_name e differ is in
        beyond first (record e { kept = change e.kept }) entries group name not ∙ sym (beyond first e entries group name not)
    by false is h = behind first e (change_node other_group other_name change entries) entries group name h

-- ---- each node is changed

pub each : (first : NodeData) (change : NodeData → NodeData) (entries : List Entry) (group name : List ℕ) → change first ≡ first →
    node_or first (map (λ (e : Entry). let x : Entry = record e { kept = change e.kept } in x) entries) group name
    ≡ change (node_or first entries group name)
each first change [] group name still = sym still
each first change (e ∷ entries) group name still =
    at_first first (record e { kept = change e.kept }) (map (λ (e : Entry). let x : Entry = record e { kept = change e.kept } in x) entries) group name
    ∙ ap (cond (is_of group name e) (change e.kept)) (each first change entries group name still)
    ∙ by (is_of group name e)
    ∙ sym (ap change (at_first first e entries group name))
  where
    by : (b : Bool) → cond b (change e.kept) (change (node_or first entries group name)) ≡ change (cond b e.kept (node_or first entries group name))
    by true = refl
    by false = refl
