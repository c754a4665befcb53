-- A world as `new` makes it is one in which nothing was done.
use Rattle.std.proofs.Common.{◌≡◌, ◌∙◌, ap, sym, refl, subst, ℕ, zero, suc, ◌<◌, ◌≤◌, length, arith, Bool, true, false, not, ◌&&◌, ◌||◌, List, [], ◌∷◌, ◌++◌, map, take, get_or, nat_le}
use Rattle.std.specs.List.{AllByRecursion, list_all, list_any}
use Rattle.std.specs.Option.{option_map, option_map_or}
use Rattle.std.specs.Str.{bytes_eq}
use Rattle.std.specs.String.{string_bytes}
use Rattle.std.proofs.lemmas.List.{length-map}
use Rattle.std.proofs.lemmas.Slice.Eq.{bytes_eq-Decides}
use Rattle.std.proofs.lemmas.Str.{IsUtf8-string_bytes}
use Rattle.spk_device.specs.Book.{Book}
use Rattle.spk_device.specs.Lawful.{IsLawful}
use Rattle.spk_edge.specs.View as edge
use Rattle.spk_edge.specs.declared.config.EdgeConfig.{EdgeConfig}
use Rattle.spk_edge_rules.specs.Config.{Config, Setup}
use Rattle.spk_host_session.specs.Data as session
use Rattle.spk_host_session.specs.View as host_view
use Rattle.spk_host_session.specs.declared.config.HostConfig.{HostConfig}
use Rattle.spk_topics.specs.Spark.{is_name}
use Rattle.spk_world_rules.specs.Events.{HasWidth, HostData, World, no_node}
use Rattle.spk_world_run.specs.Data.{HostPart, NodePart, WorldData}
use Rattle.spk_world_run.specs.Fresh.{IsFresh, host_of, new_host, new_part}
use Rattle.spk_world_run.specs.Run.{AreApart, IsNode, IsRun, IsWorld}
use Rattle.spk_world.specs.Fresh.{are_apart, are_namesakes}
use Rattle.spk_world.specs.Listed.{setup_in, world_of}
use Rattle.spk_world.specs.Setups.{HasLawful, HasWide, fresh_member, fresh_node, is_good_setup}

abbrev pub Begins : Type 0
Begins = (w : World) (configs : List session.Config) (d : WorldData) → IsWorld w → IsFresh w configs d → IsRun w [] d

and-left : (a b : Bool) → a && b ≡ true → a ≡ true
and-left true b h = refl
and-left false b h = cc

and-right : (a b : Bool) → a && b ≡ true → b ≡ true
and-right true b h = h
and-right false b h = cc

not-not : (b : Bool) → not b ≡ true → b ≡ true → ⊥
not-not true h e = let f : ⊥ = cc in f
not-not false h e = let f : ⊥ = cc in f

or-here : (a b : Bool) → a ≡ true → a || b ≡ true
or-here true b h = refl
or-here false b h = cc

or-there : (a b : Bool) → b ≡ true → a || b ≡ true
or-there true b h = refl
or-there false b h = h

and-both : (a b : Bool) → a ≡ true → b ≡ true → a && b ≡ true
and-both a b p q = ap (λ x. x && b) p ∙ q

-- ---- one node

new-node : (p : EdgeConfig × Book) → fresh_node p ≡ new_part (setup_in p)
new-node p = refl

first-two : (a b c d e : Bool) → a && b && c && d && e ≡ true → (a ≡ true) × (b ≡ true)
first-two true true c d e h = (refl, refl)
first-two true false c d e h = absurd (let f : ⊥ = cc in f)
first-two false b c d e h = absurd (let f : ⊥ = cc in f)

node-is : (p : EdgeConfig × Book) → is_good_setup p ≡ true → HasLawful p → IsNode (setup_in p)
node-is p good lawful =
    let names = first-two (is_name (string_bytes p.0.group)) (is_name (string_bytes p.0.node)) (option_map_or is_name (option_map string_bytes p.0.primary) true) (nat_le 1 p.0.capacity)
    (nat_le p.0.capacity 4096) good in
    record {
      seq = refl;
      bd = refl;
      names = record { group = names.0; node = names.1; devices = lawful.levels };
      unreserved = lawful.unreserved;
      group_text = IsUtf8-string_bytes p.0.group;
      node_text = IsUtf8-string_bytes p.0.node;
    }

-- ---- all of them

new-nodes : (ps : List (EdgeConfig × Book)) → map fresh_node ps ≡ map new_part (map setup_in ps)
new-nodes [] = refl
new-nodes (p ∷ ps) = ap (λ l. fresh_node p ∷ l) (new-nodes ps)

nodes-are : (ps : List (EdgeConfig × Book)) → list_all is_good_setup ps ≡ true → AllByRecursion HasLawful ps → (n : ℕ) → n < length (map setup_in ps) → IsNode (get_or (map setup_in ps) n no_node)
nodes-are [] good lawful n below = absurd (let f : ⊥ = omega (arith, below) in f)
nodes-are (p ∷ ps) good lawful zero below = node-is p (and-left (is_good_setup p) (list_all is_good_setup ps) good) lawful.0
nodes-are (p ∷ ps) good lawful (suc n) below =
    nodes-are ps (and-right (is_good_setup p) (list_all is_good_setup ps) good) lawful.1 n (omega (arith, below))

-- ---- names

namesakes : (a b : Config) → a.group ≡ b.group → a.node ≡ b.node → are_namesakes a b ≡ true
namesakes a b group node =
    and-both (bytes_eq a.group b.group) (bytes_eq a.node b.node) ((bytes_eq-Decides a.group b.group).1 group) ((bytes_eq-Decides a.node b.node).1 node)

-- a node of that place has the names
any-there : (c : Config) (ps : List (EdgeConfig × Book)) (n : ℕ) → n < length (map setup_in ps) → c.group ≡ (get_or (map setup_in ps) n no_node).config.group
    → c.node ≡ (get_or (map setup_in ps) n no_node).config.node → list_any (λ (m : NodePart). are_namesakes c m.node.config) (map fresh_node ps) ≡ true
any-there c [] n below group node = absurd (let f : ⊥ = omega (arith, below) in f)
any-there c (p ∷ ps) zero below group node =
    or-here (are_namesakes c (edge.config_view p.0)) (list_any (λ (m : NodePart). are_namesakes c m.node.config) (map fresh_node ps)) (namesakes c (edge.config_view p.0) group node)
any-there c (p ∷ ps) (suc n) below group node =
    or-there (are_namesakes c (edge.config_view p.0)) (list_any (λ (m : NodePart). are_namesakes c m.node.config) (map fresh_node ps)) (any-there c ps n (omega (arith, below)) group node)

apart-nodes : (ps : List (EdgeConfig × Book)) → are_apart (map fresh_node ps) ≡ true → (m n : ℕ) → m < length (map setup_in ps) → n < length (map setup_in ps)
    → (get_or (map setup_in ps) m no_node).config.group ≡ (get_or (map setup_in ps) n no_node).config.group
    → (get_or (map setup_in ps) m no_node).config.node ≡ (get_or (map setup_in ps) n no_node).config.node → m ≡ n
apart-nodes [] apart m n below above group node = absurd (let f : ⊥ = omega (arith, below) in f)
apart-nodes (p ∷ ps) apart zero zero below above group node = refl
apart-nodes (p ∷ ps) apart zero (suc n) below above group node =
    absurd (not-not (list_any (λ (m : NodePart). are_namesakes (edge.config_view p.0) m.node.config) (map fresh_node ps))
    (and-left (not (list_any (λ (m : NodePart). are_namesakes (edge.config_view p.0) m.node.config) (map fresh_node ps))) (are_apart (map fresh_node ps)) apart)
    (any-there (edge.config_view p.0) ps n (omega (arith, above)) group node))
apart-nodes (p ∷ ps) apart (suc m) zero below above group node =
    absurd (not-not (list_any (λ (m : NodePart). are_namesakes (edge.config_view p.0) m.node.config) (map fresh_node ps))
    (and-left (not (list_any (λ (m : NodePart). are_namesakes (edge.config_view p.0) m.node.config) (map fresh_node ps))) (are_apart (map fresh_node ps)) apart)
    (any-there (edge.config_view p.0) ps m (omega (arith, below)) (sym group) (sym node)))
apart-nodes (p ∷ ps) apart (suc m) (suc n) below above group node =
    ap suc (apart-nodes ps (and-right (not (list_any (λ (k : NodePart). are_namesakes (edge.config_view p.0) k.node.config) (map fresh_node ps))) (are_apart (map fresh_node ps)) apart)
    m n (omega (arith, below)) (omega (arith, above)) group node)

-- ---- hosts

abbrev pub wide_host : HostConfig → HostData
wide_host c = host_of (host_view.config_view c)

wide : (cs : List HostConfig) → AllByRecursion HasWide cs → AllByRecursion HasWidth (map wide_host cs)
wide [] all = tt
wide (c ∷ cs) all = (all.0, wide cs all.1)

waits : (cs : List HostConfig) → map wide_host cs ≡ map host_of (map host_view.config_view cs)
waits [] = refl
waits (c ∷ cs) = ap (λ l. wide_host c ∷ l) (waits cs)

members : (n : ℕ) (cs : List HostConfig) → map (fresh_member n) cs ≡ map (new_host n) (map host_view.config_view cs)
members n [] = refl
members n (c ∷ cs) = ap (λ l. fresh_member n c ∷ l) (members n cs)

-- ---- the world

pub made-run : Begins → (ps : List (EdgeConfig × Book)) (cs : List HostConfig) (d : WorldData) → list_all is_good_setup ps ≡ true → AllByRecursion HasLawful ps
    → are_apart (map fresh_node ps) ≡ true → AllByRecursion HasWide cs → d.nodes ≡ map fresh_node ps → d.hosts ≡ map (fresh_member (length ps)) cs → IsRun (world_of ps cs) [] d
made-run begins ps cs d good lawful apart wides nodes hosts =
    begins (world_of ps cs) (map host_view.config_view cs) d
    (record { widths = wide cs wides; nodes = nodes-are ps good lawful; apart = apart-nodes ps apart })
    (record {
      waits = waits cs;
      nodes = nodes ∙ new-nodes ps;
      hosts = hosts ∙ members (length ps) cs ∙ ap (λ (n : ℕ). map (new_host n) (map host_view.config_view cs)) (sym (length-map ps setup_in));
    })
