-- A world as it begins is one in which nothing was done.
use Rattle.std.proofs.Common.{◌≡◌, ◌∙◌, ap, sym, refl, subst, ℕ, zero, suc, ◌^◌, ◌<◌, length, List, [], ◌∷◌, map, get_or, replicate, Some}
use Rattle.std.specs.Prelude.{slice_get}
use Rattle.std.proofs.lemmas.List.{length-map}
use Rattle.std.proofs.lemmas.List.Elements.{All-nil}
use Rattle.std.proofs.lemmas.Option.{get_or_from_slice_get}
use Rattle.spk_edge.specs.Along.{AllWhole}
use Rattle.spk_edge_rules.specs.Config.{Setup}
use Rattle.spk_edge_rules.specs.Run.{published, run_of}
use Rattle.spk_host.specs.Inputs.{Connected}
use Rattle.spk_host_session.specs.Data as session
use Rattle.spk_world_rules.specs.Events.{World, host_at, no_host, no_node, node_at}
use Rattle.spk_world_run.specs.Data.{HostPart, NodePart, Track, WorldData, no_track}
use Rattle.spk_world_run.specs.Fresh.{IsFresh, host_of, new_host, new_part}
use Rattle.spk_world_run.specs.Run.{IsHostRun, IsNodeRun, IsRun, IsTrack, IsWorld}

abbrev pub NoneWhole : Type 0
NoneWhole = (s : Setup) → AllWhole s (published (run_of s []))

-- what stands in a list that was made from another
mapped : {X Y : Type 0} (f : X → Y) (xs : List X) (n : ℕ) (y : Y) → slice_get (map f xs) n ≡ Some y → (x : X) × (slice_get xs n ≡ Some x) × (y ≡ f x)
mapped f [] n y e = absurd (let z : ⊥ = cc in z)
mapped f (x ∷ xs) zero y e = (x, refl, (let s : y ≡ f x = cc in s))
mapped f (x ∷ xs) (suc n) y e = mapped f xs n y e

replicated : {X : Type 0} (k : ℕ) (x : X) (n : ℕ) (y : X) → slice_get (replicate k x) n ≡ Some y → y ≡ x
replicated zero x n y e = absurd (let z : ⊥ = cc in z)
replicated (suc k) x zero y e = cc
replicated (suc k) x (suc n) y e = replicated k x n y e

length-replicate : {X : Type 0} (k : ℕ) (x : X) → length (replicate k x) ≡ k
length-replicate zero x = refl
length-replicate (suc k) x = ap suc (length-replicate k x)

new-node : NoneWhole → (s : Setup) → IsNodeRun s [] (new_part s)
new-node whole s = record {
  node = refl;
  posts = refl;
  starts = refl;
  births = refl;
  sessions = refl;
  moments = All-nil (λ time. time < 2 ^ 63);
  whole = whole s;
  writable = λ p m e. absurd (let z : ⊥ = cc in z);
  dying = λ session time e. absurd (let z : ⊥ = cc in z);
}

new-track : (w : World) (h n : ℕ) → IsTrack w [] h n (Connected 0 ∷ []) no_track
new-track w h n = record { read = tt; reaches = refl; session = refl; births = λ p. refl; consumed = tt }

pub fresh-run : NoneWhole → (w : World) (configs : List session.Config) (d : WorldData) → IsWorld w → IsFresh w configs d → IsRun w [] d
fresh-run whole w configs d world fresh = record {
  world = world;
  all = tt;
  node_count = ap length fresh.nodes ∙ length-map w.nodes new_part;
  host_count = ap length fresh.hosts ∙ length-map configs _ ∙ sym (length-map configs host_of) ∙ ap length (sym fresh.waits);
  nodes = λ n part there.
      let from = mapped new_part w.nodes n part (ap (λ (l : List NodePart). slice_get l n) (sym fresh.nodes) ∙ there) in
      let setup : node_at w n ≡ from.0 = get_or_from_slice_get w.nodes n from.0 no_node from.1 in
      subst (λ (x : NodePart). IsNodeRun (node_at w n) [] x) (sym from.2) (subst (λ (s : Setup). IsNodeRun s [] (new_part from.0)) (sym setup) (new-node whole from.0));
  hosts = λ h part there.
      let from = mapped (new_host (length w.nodes)) configs h part (ap (λ (l : List HostPart). slice_get l h) (sym fresh.hosts) ∙ there) in
      let c = from.0 in
      let same : host_at w h ≡ host_of c = ap (λ l. get_or l h no_host) fresh.waits ∙ at configs h c from.1 in
      subst (λ (x : HostPart). IsHostRun w [] h x) (sym from.2) (record {
        config = c;
        calls = Connected 0 ∷ [];
        is = refl;
        began = refl;
        waits = sym (ap (λ x. x.wait) same);
        wide = sym (ap (λ x. x.width) same);
        count = length-replicate (length w.nodes) no_track;
        tracks = λ n track e. subst (λ (t : Track). IsTrack w [] h n (Connected 0 ∷ []) t) (sym (replicated (length w.nodes) no_track n track e)) (new-track w h n);
      });
}
  where
    at : (cs : List session.Config) (h : ℕ) (c : session.Config) → slice_get cs h ≡ Some c → get_or (map host_of cs) h no_host ≡ host_of c
    at [] h c e = absurd (let z : ⊥ = cc in z)
    at (x ∷ cs) zero c e = let s : x ≡ c = cc in ap host_of s
    at (x ∷ cs) (suc h) c e = at cs h c e
