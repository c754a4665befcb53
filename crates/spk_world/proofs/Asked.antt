-- What is asked of a world, by the list of all that was done in it.
use Rattle.std.proofs.Common.{◌≡◌, ◌∙◌, ap, sym, refl, subst, ℕ, ◌<◌, length, arith, List, [], ◌∷◌, map, Option, Some, None, IfSome}
use Rattle.std.specs.Prelude.{slice_get, option_and_then}
use Rattle.std.specs.Option.{option_map}
use Rattle.std.proofs.lemmas.Option.{slice_get-get_or}
use Rattle.spk_sequence.specs.Claims.{BirthPrefixes}
use Rattle.spk_edge_rules.specs.Config.{Setup}
use Rattle.spk_edge_rules.specs.Run.{Message, outline}
use Rattle.spk_host.specs.Data.{HostData}
use Rattle.spk_host.specs.Inputs.{Call, host_after, node_calls}
use Rattle.spk_host.specs.Nodes.{node_or}
use Rattle.spk_host_node.specs.Data.{fresh_node}
use Rattle.spk_host_node.specs.Inputs.{events_of}
use Rattle.spk_host_rules.specs.Showing.{IsShown}
use Rattle.spk_host_session.specs.Data.{Config}
use Rattle.spk_world_rules.specs.Events.{Deed, HasWidths, World, node_at}
use Rattle.spk_world_rules.specs.Queries.{consumed_of, published_of}
use Rattle.spk_world_rules.specs.Refusals.{AllDone}
use Rattle.spk_world_run.specs.Data.{ConsumedData, HostPart, NodePart, PublishedData, Track, WorldData, no_track}
use Rattle.spk_world_run.specs.Run.{AreConsumed, IsHostRun, IsRun, posts_of}
use Rattle.spk_world.specs.Listed.{IsHeard}
use Rattle.spk_world.specs.Seen.{consumed_at, consumed_in, host_at, published_at}

abbrev pub Prefixes : Type 0
Prefixes = (w : World) (done : List Deed) (h n : ℕ) → HasWidths w → AllDone w done → BirthPrefixes (outline (published_of w done n)) (consumed_of w done h n)

-- what is said of an option as it is seen
pub some-of : {A B : Type 0} (r : Option A) (f : A → B) (o : Option B) (P : B → Type 0) → option_map f r ≡ o → IfSome o P → IfSome r (λ a. P (f a))
some-of None f o P e p = tt
some-of (Some a) f o P e p = subst (λ x. IfSome x P) (sym e) p

pub consumed-run : (w : World) (done : List Deed) (d : WorldData) (h n : ℕ) → IsRun w done d
    → IfSome (consumed_at d h n) (λ cs. AreConsumed (node_at w n) (published_of w done n) (consumed_of w done h n) cs)
consumed-run w done d h n run = by-host (slice_get d.hosts h) refl
  where
    by-track : (part : HostPart) → slice_get d.hosts h ≡ Some part → (y : Option Track) → slice_get part.tracks n ≡ y
        → IfSome (option_map (λ t. t.consumed) y) (λ cs. AreConsumed (node_at w n) (published_of w done n) (consumed_of w done h n) cs)
    by-track part e None f = tt
    by-track part e (Some track) f = ((run.hosts h part e).tracks n track f).consumed

    by-host : (x : Option HostPart) → slice_get d.hosts h ≡ x
        → IfSome (option_and_then (consumed_in n) x) (λ cs. AreConsumed (node_at w n) (published_of w done n) (consumed_of w done h n) cs)
    by-host None e = tt
    by-host (Some part) e = by-track part e (slice_get part.tracks n) refl

-- the positions of what was consumed
positions-are : (s : Setup) (messages : List Message) (ps : List ℕ) (cs : List ConsumedData) → AreConsumed s messages ps cs → map (λ c. c.position) cs ≡ ps
positions-are s messages [] [] all = refl
positions-are s messages [] (c ∷ cs) all = absurd all
positions-are s messages (p ∷ ps) [] all = absurd all
positions-are s messages (p ∷ ps) (c ∷ cs) all =
    ap (λ (x : ConsumedData). x.position ∷ map (λ y. y.position) cs) all.0.2 ∙ ap (λ (l : List ℕ). p ∷ l) (positions-are s messages ps cs all.1)

prefixed : (w : World) (done : List Deed) (h n : ℕ) (o : Option (List ConsumedData)) → BirthPrefixes (outline (published_of w done n)) (consumed_of w done h n)
    → IfSome o (λ cs. AreConsumed (node_at w n) (published_of w done n) (consumed_of w done h n) cs)
    → IfSome o (λ cs. BirthPrefixes (outline (published_of w done n)) (map (λ c. c.position) cs))
prefixed w done h n None prefixes all = tt
prefixed w done h n (Some cs) prefixes all =
    subst (BirthPrefixes (outline (published_of w done n))) (sym (positions-are (node_at w n) (published_of w done n) (consumed_of w done h n) cs all)) prefixes

pub prefixes-run : Prefixes → (w : World) (done : List Deed) (d : WorldData) (h n : ℕ) → IsRun w done d
    → IfSome (consumed_at d h n) (λ cs. BirthPrefixes (outline (published_of w done n)) (map (λ c. c.position) cs))
prefixes-run prefixes w done d h n run = prefixed w done h n (consumed_at d h n) (prefixes w done h n run.world.widths run.all) (consumed-run w done d h n run)

pub published-run : (w : World) (done : List Deed) (d : WorldData) (n : ℕ) → IsRun w done d
    → IfSome (published_at d n) (λ ps. ps ≡ posts_of (node_at w n) (published_of w done n) 0 (published_of w done n))
published-run w done d n run = by (slice_get d.nodes n) refl
  where
    by : (x : Option NodePart) → slice_get d.nodes n ≡ x
        → IfSome (option_map (λ part. part.published) x) (λ ps. ps ≡ posts_of (node_at w n) (published_of w done n) 0 (published_of w done n))
    by None e = tt
    by (Some part) e = (run.nodes n part e).posts

abbrev pub ShowsAll : Type 0
ShowsAll = (config : Config) (calls : List Call) (group name : List ℕ) → IsShown (events_of config.wait config.width (node_calls calls group name))
    (node_or (fresh_node config.wait config.width) (host_after config calls).nodes group name).watch.view

heard-run : ShowsAll → (w : World) (done : List Deed) (h : ℕ) (part : HostPart) → IsHostRun w done h part → IsHeard w done h part.host
heard-run shows w done h part run = record {
  config = run.config;
  calls = run.calls;
  is = run.is;
  waits = run.waits;
  wide = run.wide;
  read = λ n below. (run.tracks n _ (slice_get-get_or part.tracks n no_track (omega (arith, run.count, below)))).read;
  shows = λ n below.
      let group = (node_at w n).config.group in
      let name = (node_at w n).config.node in
      subst (λ (x : HostData). IsShown (events_of run.config.wait run.config.width (node_calls run.calls group name))
      (node_or (fresh_node run.config.wait run.config.width) x.nodes group name).watch.view) (sym run.is) (shows run.config run.calls group name);
}

pub host-run : ShowsAll → (w : World) (done : List Deed) (d : WorldData) (h : ℕ) → IsRun w done d → IfSome (host_at d h) (λ x. IsHeard w done h x)
host-run shows w done d h run = by (slice_get d.hosts h) refl
  where
    by : (x : Option HostPart) → slice_get d.hosts h ≡ x → IfSome (option_map (λ m. m.host) x) (λ y. IsHeard w done h y)
    by None e = tt
    by (Some part) e = heard-run shows w done h part (run.hosts h part e)
