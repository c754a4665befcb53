-- Whom a host asks for a rebirth, and when, along any list of calls.
use Rattle.std.proofs.Common.{◌≡◌, ◌∙◌, sym, ap, subst, refl, ℕ, zero, suc, Bool, true, false, cond, List, [], ◌∷◌, ◌++◌, map, Option, Some, None}
use Rattle.std.specs.List.{list_any}
use Rattle.std.specs.Prelude.{◌==◌, ◌||◌, replicate, if◌then◌else◌}
use Rattle.std.proofs.lemmas.List.{map-append}
use Rattle.std.proofs.lemmas.Bool.{true≢false}
use Rattle.spk_topics.specs.Spark.Named.{of_node}
use Rattle.spk_topics.specs.declared.spark.Verb.TheVariants.{Command}
use Rattle.spk_reading.specs.Data as said
use Rattle.spk_reading.specs.Data.{HeardData, NumberedData}
use Rattle.spk_host_session.specs.Data.{Config, is_address}
use Rattle.spk_host_node.specs.Data.{NodeData, fresh_node}
use Rattle.spk_host_node.specs.Inputs.{Input, gap_asked, node_after}
use Rattle.spk_host_node.specs.Step as node
use Rattle.spk_host.specs.Data.{Entry, HostData}
use Rattle.spk_host.specs.Index.{is_named, names_of}
use Rattle.spk_host.specs.Inputs.{Call, Heard, Ticked, Connected, Stopped, Ended, Renewed, host_after, host_with, node_calls}
use Rattle.spk_host.specs.Nodes.{change_node, is_of, node_or, put_node}
use Rattle.spk_host.specs.Requests.{asked_at_moment, heard_names, request_to, speaker, with_speaker}
use Rattle.spk_host.specs.Step.{is_asked, over_entry, requests_at, requests_to, tick_entry, topics_at, topics_to}
use Rattle.spk_host.proofs.Indexed.{names-still}
use Rattle.spk_host.proofs.Kept.{beyond, here, same_itself}

-- ---- to whom

mapped_same : {X Y : Type 0} (f : X → Y) (k : ℕ) (x : X) → map f (replicate k x) ≡ replicate k (f x)
mapped_same f zero x = refl
mapped_same f (suc k) x = ap (λ l. f x ∷ l) (mapped_same f k x)

pub requests_are : (group name : List ℕ) (now k : ℕ) → map (request_to now) (topics_to group name k) ≡ requests_to group name now k
requests_are group name now k = by (is_address group name)
  where
    by : (b : Bool) → map (request_to now) (if b then replicate k (of_node group Command name) else [])
        ≡ (if b then replicate k (request_to now (of_node group Command name)) else [])
    by true = mapped_same (request_to now) k (of_node group Command name)
    by false = refl

pub same_topics : (group name : List ℕ) (k : ℕ) → (n : ℕ) × (topics_to group name k ≡ replicate n (of_node group Command name))
same_topics group name k = by (is_address group name)
  where
    by : (b : Bool) → (n : ℕ) × ((if b then replicate k (of_node group Command name) else []) ≡ replicate n (of_node group Command name))
    by true = (k, refl)
    by false = (0, refl)

pub requests_at_are : (now : ℕ) (entries : List Entry) → map (request_to now) (topics_at now entries) ≡ requests_at now entries
requests_at_are now [] = refl
requests_at_are now (e ∷ entries) =
    map-append (request_to now) (if is_asked now e then topics_to e.group e.node 1 else []) (topics_at now entries)
    ∙ ap (λ l. map (request_to now) (if is_asked now e then topics_to e.group e.node 1 else []) ++ l) (requests_at_are now entries)
    ∙ ap (λ l. l ++ requests_at now entries) (by (is_asked now e))
  where
    by : (b : Bool) → map (request_to now) (if b then topics_to e.group e.node 1 else []) ≡ (if b then requests_to e.group e.node now 1 else [])
    by true = requests_are e.group e.node now 1
    by false = refl

-- ---- the nodes that were heard

behind : {X : Type 0} (y : X) (b : Bool) (l m : List X) → y ∷ cond b l m ≡ cond b (y ∷ l) (y ∷ m)
behind y true l m = refl
behind y false l m = refl

put-names : (group name : List ℕ) (kept : NodeData) (entries : List Entry) →
    map names_of (put_node group name kept entries) ≡ with_speaker (Some (group, name)) (map names_of entries)
put-names group name kept [] = refl
put-names group name kept (e ∷ entries) = by (is_of group name e) (put-names group name kept entries)
  where
    by : (b : Bool) → map names_of (put_node group name kept entries) ≡ with_speaker (Some (group, name)) (map names_of entries) →
        map names_of (cond b ((record e { kept = kept }) ∷ entries) (e ∷ put_node group name kept entries))
        ≡ cond (b || list_any (is_named group name) (map names_of entries)) (names_of e ∷ map names_of entries)
        (names_of e ∷ (map names_of entries ++ (group, name) ∷ []))
    by true h = refl
    by false h =
        ap (λ l. names_of e ∷ l) h
        ∙ behind (names_of e) (list_any (is_named group name) (map names_of entries)) (map names_of entries) (map names_of entries ++ (group, name) ∷ [])

change-names : (group name : List ℕ) (f : NodeData → NodeData) (entries : List Entry) →
    map names_of (change_node group name f entries) ≡ map names_of entries
change-names group name f [] = refl
change-names group name f (e ∷ entries) = by (is_of group name e) (change-names group name f entries)
  where
    by : (b : Bool) → map names_of (change_node group name f entries) ≡ map names_of entries →
        map names_of (cond b ((record e { kept = f e.kept }) ∷ entries) (e ∷ change_node group name f entries)) ≡ names_of e ∷ map names_of entries
    by true h = refl
    by false h = ap (λ l. names_of e ∷ l) h

over-names : (entries : List Entry) → map names_of (map over_entry entries) ≡ map names_of entries
over-names = names-still over_entry (λ e. refl)

answered-names : (b : Bool) (entries : List Entry) → map names_of (cond b entries (map over_entry entries)) ≡ map names_of entries
answered-names true entries = refl
answered-names false entries = over-names entries

names-with : (h : HostData) (call : Call) → map names_of (host_with h call).nodes ≡ with_speaker (speaker call) (map names_of h.nodes)
names-with h (Heard (said.Published ack (said.Message m)) now) = put-names m.group m.node _ h.nodes
names-with h (Heard (said.Published ack (said.Death group name bd)) now) = change-names group name (λ n. node.death n bd) h.nodes
names-with h (Heard (said.Published ack said.Nothing) now) = refl
names-with h (Heard (said.Answered code) now) = answered-names (code == 0) h.nodes
names-with h (Heard said.Granted now) = refl
names-with h (Heard said.Other now) = refl
names-with h (Ticked now) = names-still (tick_entry now) (λ e. refl) h.nodes
names-with h (Connected now) = refl
names-with h (Stopped now) = over-names h.nodes
names-with h Ended = over-names h.nodes
names-with h (Renewed now) = over-names h.nodes

pub listed : (config : Config) (calls : List Call) → map names_of (host_after config calls).nodes ≡ heard_names calls
listed config [] = refl
listed config (call ∷ before) = names-with (host_after config before) call ∙ ap (with_speaker (speaker call)) (listed config before)

-- ---- each stands once

-- no later one has the names of an earlier one
abbrev AreApart : List (List ℕ × List ℕ) → Type 0
AreApart [] = Unit {0}
AreApart (y ∷ ys) = (list_any (λ z. is_named z.0 z.1 y) ys ≡ false) × AreApart ys

neither : (a b : Bool) → a || b ≡ false → (a ≡ false) × (b ≡ false)
neither true b h = absurd (true≢false h)
neither false b h = (refl, h)

nor : (a b : Bool) → a ≡ false → b ≡ false → a || b ≡ false
nor a b h k = ap (λ x. x || b) h ∙ k

any-more : {X : Type 0} (test : X → Bool) (ys : List X) (x : X) → test x ≡ false → list_any test ys ≡ false → list_any test (ys ++ x ∷ []) ≡ false
any-more test [] x h none = nor (test x) false h refl
any-more test (y ∷ ys) x h none =
    let k = neither (test y) (list_any test ys) none in
    nor (test y) (list_any test (ys ++ x ∷ [])) k.0 (any-more test ys x h k.1)

apart-more : (x : List ℕ × List ℕ) (names : List (List ℕ × List ℕ)) → list_any (is_named x.0 x.1) names ≡ false → AreApart names →
    AreApart (names ++ x ∷ [])
apart-more x [] none apart = (refl, tt)
apart-more x (y ∷ ys) none apart =
    let h = neither (is_named x.0 x.1 y) (list_any (is_named x.0 x.1) ys) none in
    (any-more (λ z. is_named z.0 z.1 y) ys x h.0 apart.0, apart-more x ys h.1 apart.1)

apart-with : (o : Option (List ℕ × List ℕ)) (names : List (List ℕ × List ℕ)) → AreApart names → AreApart (with_speaker o names)
apart-with None names apart = apart
apart-with (Some x) names apart = by (list_any (is_named x.0 x.1) names) refl
  where
    by : (b : Bool) → list_any (is_named x.0 x.1) names ≡ b → AreApart (cond b names (names ++ x ∷ []))
    by true is = apart
    by false is = apart-more x names is apart

apart-heard : (calls : List Call) → AreApart (heard_names calls)
apart-heard [] = tt
apart-heard (call ∷ before) = apart-with (speaker call) (heard_names before) (apart-heard before)

-- each of these is what is found by its names
abbrev AreOwn : NodeData → List Entry → List Entry → Type 0
AreOwn first all [] = Unit {0}
AreOwn first all (e ∷ es) = (node_or first all e.group e.node ≡ e.kept) × AreOwn first all es

own-later : (first : NodeData) (e : Entry) (all es : List Entry) → list_any (λ z. is_named z.0 z.1 (names_of e)) (map names_of es) ≡ false →
    AreOwn first all es → AreOwn first (e ∷ all) es
own-later first e all [] none own = tt
own-later first e all (x ∷ xs) none own =
    let h = neither (is_of x.group x.node e) (list_any (λ z. is_named z.0 z.1 (names_of e)) (map names_of xs)) none in
    (beyond first e all x.group x.node h.0 ∙ own.0, own-later first e all xs h.1 own.1)

own : (first : NodeData) (entries : List Entry) → AreApart (map names_of entries) → AreOwn first entries entries
own first [] apart = tt
own first (e ∷ es) apart =
    (here first e es e.group e.node (same_itself e.group e.node), own-later first e es es apart.0 (own first es apart.1))

-- ---- when

asked-of : (config : Config) (calls : List Call) (now : ℕ) (all es : List Entry) →
    ((inputs : List Input) → node.tick_asks (node_after config.wait config.width inputs) now ≡ gap_asked config.wait config.width inputs now) →
    ((group name : List ℕ) → node_or (fresh_node config.wait config.width) all group name ≡ node_after config.wait config.width (node_calls calls group name)) →
    AreOwn (fresh_node config.wait config.width) all es → topics_at now es ≡ asked_at_moment config calls now (map names_of es)
asked-of config calls now all [] ticks kept own = refl
asked-of config calls now all (e ∷ es) ticks kept own =
    ap (λ b. (if b then topics_to e.group e.node 1 else []) ++ topics_at now es)
    (ap (λ n. node.tick_asks n now) (sym own.0 ∙ kept e.group e.node) ∙ ticks (node_calls calls e.group e.node))
    ∙ ap (λ l. (if gap_asked config.wait config.width (node_calls calls e.group e.node) now then topics_to e.group e.node 1 else []) ++ l)
    (asked-of config calls now all es ticks kept own.1)

pub ticked_asks : (config : Config) (calls : List Call) (now : ℕ) →
    ((inputs : List Input) → node.tick_asks (node_after config.wait config.width inputs) now ≡ gap_asked config.wait config.width inputs now) →
    ((group name : List ℕ) → node_or (fresh_node config.wait config.width) (host_after config calls).nodes group name
    ≡ node_after config.wait config.width (node_calls calls group name)) →
    topics_at now (host_after config calls).nodes ≡ asked_at_moment config calls now (heard_names calls)
ticked_asks config calls now ticks kept =
    let nodes = (host_after config calls).nodes in
    asked-of config calls now nodes nodes ticks kept
    (own (fresh_node config.wait config.width) nodes (subst AreApart (sym (listed config calls)) (apart-heard calls)))
    ∙ ap (asked_at_moment config calls now) (listed config calls)
