-- A thing done to one host: the nodes and the other hosts are as they were.
use Rattle.std.proofs.Common.{◌≡◌, inl, inr, ◌∙◌, ap, sym, refl, subst, ℕ, ◌<◌, length, arith, Bool, true, false, ◌&&◌, List, ◌∷◌, set, Some, None}
use Rattle.std.specs.Prelude.{slice_get, ◌==◌}
use Rattle.std.specs.Str.{bytes_eq}
use Rattle.std.proofs.lemmas.Bool.{eq-eqb, ne_eqb, false_from_ne_true, and_parts}
use Rattle.std.proofs.lemmas.List.{length-set}
use Rattle.std.proofs.lemmas.Option.{slice_get_within}
use Rattle.std.proofs.lemmas.Slice.Eq.{bytes_eq-Decides}
use Rattle.spk_sequence.specs.HostRecord as order
use Rattle.spk_edge_rules.specs.Inputs.{Input}
use Rattle.spk_edge_rules.specs.Run.{published, run_of}
use Rattle.spk_host.specs.Inputs.{is_same}
use Rattle.spk_world_rules.specs.Events.{Deed, World, host_at, node_at}
use Rattle.spk_world_rules.specs.Queries.{calls_of, inputs_of, published_of}
use Rattle.spk_world_rules.specs.Refusals.{refusal_of}
use Rattle.spk_world_run.specs.Data.{HostPart, NodePart, Track, WorldData}
use Rattle.spk_world_run.specs.Run.{AreApart, IsHostRun, IsNodeRun, IsRun}
use Rattle.spk_world_run.proofs.Lists.{set-sees}
use Rattle.spk_world_run.proofs.Tracks.{Tracked, told_of, track-from, tracked-of}

-- ---- which host of which node

and-true : (a b : Bool) → a ≡ true → b ≡ true → (a && b) ≡ true
and-true a b e f = ap (λ x. x && b) e ∙ f

and-first : (a b : Bool) → a ≡ false → (a && b) ≡ false
and-first a b e = ap (λ x. x && b) e

and-last : (a b : Bool) → b ≡ false → (a && b) ≡ false
and-last true b e = e
and-last false b e = refl

pub this-pair : (h n : ℕ) → ((h == h) && (n == n)) ≡ true
this-pair h n = and-true (h == h) (n == n) (eq-eqb h h refl) (eq-eqb n n refl)

pub other-host : (h k n m : ℕ) → (k ≡ h → ⊥) → ((h == k) && (n == m)) ≡ false
other-host h k n m apart = and-first (h == k) (n == m) (ne_eqb h k (λ e. apart (sym e)))

pub other-node : (h n m : ℕ) → (m ≡ n → ⊥) → ((h == h) && (n == m)) ≡ false
other-node h n m apart = and-last (h == h) (n == m) (ne_eqb n m (λ e. apart (sym e)))

-- ---- names

pub own-names : (group name other_group other_name : List ℕ) → other_group ≡ group → other_name ≡ name → is_same group name other_group other_name ≡ true
own-names group name other_group other_name g n =
    and-true (bytes_eq group other_group) (bytes_eq name other_name) ((bytes_eq-Decides group other_group).1 (sym g)) ((bytes_eq-Decides name other_name).1 (sym n))

pub other-names : (w : World) (n m : ℕ) (group name : List ℕ) → AreApart w → n < length w.nodes → m < length w.nodes → (m ≡ n → ⊥)
    → group ≡ (node_at w n).config.group → name ≡ (node_at w n).config.node
    → is_same (node_at w m).config.group (node_at w m).config.node group name ≡ false
other-names w n m group name apart below there other g f =
    false_from_ne_true (is_same (node_at w m).config.group (node_at w m).config.node group name)
    (λ same. let parts = and_parts (bytes_eq (node_at w m).config.group group) (bytes_eq (node_at w m).config.node name) same in
    other (apart m n there below
    ((bytes_eq-Decides (node_at w m).config.group group).0 parts.0 ∙ g)
    ((bytes_eq-Decides (node_at w m).config.node name).0 parts.1 ∙ f)))

-- ---- what is passed by

pub run-passed : (w : World) (done later : List Deed) (k : ℕ) (part : HostPart) → ((n : ℕ) → calls_of later n ≡ calls_of done n)
    → ((n : ℕ) → inputs_of later k n ≡ inputs_of done k n) → IsHostRun w done k part → IsHostRun w later k part
run-passed w done later k part calls inputs run = record {
  config = run.config;
  calls = run.calls;
  is = run.is;
  began = run.began;
  waits = run.waits;
  wide = run.wide;
  count = run.count;
  tracks = λ n track there.
      track-from w later k n run.calls track (inputs_of later k n) (told_of w n run.calls) refl refl
      (subst (λ (is : List order.Input). Tracked (node_at w n) (published_of w later n) (host_at w k).wait (host_at w k).width is (told_of w n run.calls) track) (sym (inputs n))
      (subst (λ (is : List Input). Tracked (node_at w n) (published (run_of (node_at w n) is)) (host_at w k).wait (host_at w k).width (inputs_of done k n) (told_of w n run.calls) track) (sym (calls n))
      (tracked-of w done k n run.calls track (run.tracks n track there))));
}

-- one host changes
pub with-host : (w : World) (done : List Deed) (e : Deed) (d : WorldData) (h : ℕ) (part : HostPart) → IsRun w done d → refusal_of w done e ≡ None
    → ((n : ℕ) → calls_of (e ∷ done) n ≡ calls_of done n)
    → ((k n : ℕ) → (k ≡ h → ⊥) → inputs_of (e ∷ done) k n ≡ inputs_of done k n)
    → IsHostRun w (e ∷ done) h part → IsRun w (e ∷ done) (record d { hosts = set d.hosts h part })
with-host w done e d h part run passed calls inputs new = record {
  world = run.world;
  all = (passed, run.all);
  node_count = run.node_count;
  host_count = length-set d.hosts h part ∙ run.host_count;
  nodes = λ n node there. subst (λ (is : List Input). IsNodeRun (node_at w n) is node) (sym (calls n)) (run.nodes n node there);
  hosts = λ k other there. elim (set-sees d.hosts h part k other there) as (λ s. IsHostRun w (e ∷ done) k other) [
    | inl same ↦ subst (λ i. IsHostRun w (e ∷ done) i other) (sym same.0) (subst (IsHostRun w (e ∷ done) h) (sym same.1) new)
    | inr apart ↦ run-passed w done (e ∷ done) k other calls (λ n. inputs k n apart.0) (run.hosts k other apart.1)
  ];
}

-- a node that a host has a track of is there
pub track-below : (w : World) (done : List Deed) (h m : ℕ) (part : HostPart) (track : Track) → IsHostRun w done h part → slice_get part.tracks m ≡ Some track
    → m < length w.nodes
track-below w done h m part track run there =
    let size = run.count in
    let low = slice_get_within part.tracks m track there in
    omega (arith, size, low)

pub node-below : (w : World) (done : List Deed) (d : WorldData) (n : ℕ) (part : NodePart) → IsRun w done d → slice_get d.nodes n ≡ Some part → n < length w.nodes
node-below w done d n part run there =
    let size = run.node_count in
    let low = slice_get_within d.nodes n part there in
    omega (arith, size, low)
