-- What is done to a world, from what is done to its parts.
use Rattle.std.proofs.Common.{◌≡◌, ◌⊎◌, inl, inr, ◌∙◌, sym, ap, subst, refl, ℕ, ◌-◌, Bool, true, false, List, [], ◌∷◌, ◌++◌, length, map, set, get_or, Option, Some, None, is_some, eq-eqb, arith}
use Rattle.std.proofs.lemmas.List.{length-map, length-set, length-replicate}
use Rattle.std.proofs.lemmas.Option.{get_or_from_slice_get}
use Rattle.std.specs.Prelude.{slice_get, replicate, ◌==◌, ◌&&◌}
use Rattle.std.specs.List.{list_all}
use Rattle.spk_sequence.specs.declared.answer.Match.{Match}
use Rattle.spk_sequence.specs.declared.answer.Step.{Step}
use Rattle.spk_edge_rules.specs.Config.{Config}
use Rattle.spk_edge_rules.specs.Inputs.{Input}
use Rattle.spk_edge_rules.specs.Config.{Setup}
use Rattle.spk_edge_rules.specs.Step.{answer_at}
use Rattle.spk_host_session.specs.declared.config.HostConfig.{HostConfig}
use Rattle.spk_host.specs.Data.{HostData}
use Rattle.spk_host.specs.Step.{after_packet}
use Rattle.spk_world_rules.specs.Answers.{Added, Gaps, Stepped, Told}
use Rattle.spk_world_rules.specs.Events.{AtNode, Hand, Death, Tick, Renew, no_node, node_at}
use Rattle.spk_world_rules.specs.Refusals.{Refusal, edge_refusal}
use Rattle.spk_world_run.specs.Data.{HostPart, NodePart, Track, WorldData, no_track}
use Rattle.spk_world_run.specs.Step.{after_input, followed, renewed, ticked, with_node}
use Rattle.spk_world_run.specs.Tests.{death_test, if_host, if_node, if_published, message_test, refusal_at, track_at}
use Rattle.spk_world.specs.declared.answer.Done.TheVariants as done
use Rattle.spk_world.specs.declared.fault.WorldFault.{WorldFault}
use Rattle.spk_world.specs.Fault.{IsRefusal}
use Rattle.spk_world.specs.Fresh.{has_tracks}
use Rattle.spk_world.specs.Handed.{IsHanded, IsHandedTo, IsTold, IsUnhanded, IsUntold, message_refusal_at}
use Rattle.spk_world.specs.Outcome.{IsDone, IsRefused}
use Rattle.spk_world.specs.Parts.{IsTaken}
use Rattle.spk_world.specs.Setups.{fresh_member}
use Rattle.spk_world.specs.Steps.{configs_at, setup_at}
use Rattle.spk_world.proofs.Lists.{get-map}

abbrev pub member_of : HostData → List Track → HostPart
member_of host tracks = record { host = host; tracks = tracks }

abbrev pub world_of : List NodePart → List HostPart → WorldData
world_of nodes hosts = record { nodes = nodes; hosts = hosts }

abbrev pub with_host : WorldData → ℕ → HostPart → WorldData
with_host d h m = record d { hosts = set d.hosts h m }

-- ---- an input

pub input-done : (d : WorldData) (n : ℕ) (input : Input) (part after : NodePart) (added : ℕ) → slice_get d.nodes n ≡ Some part → input.ack ≡ None → IsTaken part input after added
    → IsDone d (AtNode n input) (with_node d n after) (done.Edge added)
input-done d n input part after added there plain taken = record {
  passed = ap (λ o. if_node o (λ part. edge_refusal (answer_at part.node.config part.node.standing input))) there ∙ ap edge_refusal taken.answered;
  step = record {
    part = part;
    there = there;
    plain = plain;
    given = taken.given;
    answered = taken.answered;
    whole = taken.whole;
    leaves = ap (with_node d n) taken.is;
    added = ap Added taken.count;
  };
}

-- ---- a message

pub handed-to : (m : HostPart) (n : ℕ) (part : NodePart) (p now : ℕ) (t : Track) (host : HostData) (track : Track) (s : Step) → slice_get m.tracks n ≡ Some t
    → IsHanded m.host t part p now host track s → IsHandedTo m n part p now (member_of host (set m.tracks n track)) s
handed-to m n part p now t host track s there handed = record {
  host = host;
  track = track;
  handed = subst (λ t. IsHanded m.host t part p now host track s) (sym (get_or_from_slice_get m.tracks n t no_track there)) handed;
  is = refl;
}

at-both : (d : WorldData) (h n : ℕ) (host : HostPart) (part : NodePart) (test : HostPart → NodePart → Option Refusal) → slice_get d.hosts h ≡ Some host → slice_get d.nodes n ≡ Some part
    → if_host (slice_get d.hosts h) (λ host. if_node (slice_get d.nodes n) (test host)) ≡ test host part
at-both d h n host part test host_there there =
    ap (λ o. if_host o (λ host. if_node (slice_get d.nodes n) (test host))) host_there ∙ ap (λ o. if_node o (test host)) there

abbrev hand_test : ℕ → ℕ → HostPart → NodePart → Option Refusal
hand_test n p host part = if_published (slice_get part.published p) (message_test host.host part (track_at host n) p)

pub hand-done : (d : WorldData) (h n p now : ℕ) (host : HostPart) (part : NodePart) (after : HostPart) (s : Step) → slice_get d.hosts h ≡ Some host → slice_get d.nodes n ≡ Some part
    → IsHandedTo host n part p now after s → message_refusal_at host.host (track_at host n) part p ≡ None
    → IsDone d (Hand h n p now) (with_host d h after) (done.Hand s)
hand-done d h n p now host part after s host_there there to passed = record {
  passed = at-both d h n host part (hand_test n p) host_there there ∙ passed;
  step = record {
    host = host;
    host_there = host_there;
    part = part;
    there = there;
    message = to.handed.message;
    published = to.handed.published;
    heard = to.handed.heard;
    says = to.handed.says;
    leaves = ap (with_host d h) (to.is ∙ ap (λ x. member_of x (set host.tracks n to.track)) to.handed.host
        ∙ ap (λ t. member_of (after_packet host.host to.handed.heard now) (set host.tracks n t)) to.handed.tracked);
    stepped = ap Stepped to.handed.stepped;
  };
}

named-at : (a b : Option Refusal) (e : WorldFault) → a ≡ b → IsRefusal b e → IsRefusal a e
named-at a b e same named = subst (λ r. IsRefusal r e) (sym same) named

pub hand-refused : (d : WorldData) (h n p now : ℕ) (host : HostPart) (part : NodePart) (e : WorldFault) → slice_get d.hosts h ≡ Some host → slice_get d.nodes n ≡ Some part
    → IsUnhanded host.host (track_at host n) part p e → IsRefused d (Hand h n p now) e
hand-refused d h n p now host part e host_there there (inl memory) = record { why = inl memory }
hand-refused d h n p now host part e host_there there (inr (inl named)) = record {
  why = inr (inl (named-at (refusal_at d (Hand h n p now)) (hand_test n p host part) e (at-both d h n host part (hand_test n p) host_there there) named));
}
hand-refused d h n p now host part e host_there there (inr (inr unsent)) = record {
  why = inr (inr (record {
    host = host;
    host_there = host_there;
    part = part;
    there = there;
    message = unsent.message;
    published = unsent.published;
    unsendable = unsent.unsendable;
  }));
}

-- ---- an NDEATH

abbrev tell_test : ℕ → ℕ → HostPart → NodePart → Option Refusal
tell_test n s host part = death_test part (track_at host n) s

pub death-done : (d : WorldData) (h n s now : ℕ) (host : HostPart) (part : NodePart) (after : HostPart) (m : Match) → slice_get d.hosts h ≡ Some host → slice_get d.nodes n ≡ Some part
    → IsTold host.host (track_at host n) part s now after.host m → after.tracks ≡ host.tracks → death_test part (track_at host n) s ≡ None
    → IsDone d (Death h n s now) (with_host d h after) (done.Death m)
death-done d h n s now host part after m host_there there told tracks passed = record {
  passed = at-both d h n host part (tell_test n s) host_there there ∙ passed;
  step = record {
    host = host;
    host_there = host_there;
    part = part;
    there = there;
    time = told.time;
    opened = told.opened;
    heard = told.heard;
    says = told.says;
    leaves = ap (with_host d h) (ap (λ x. member_of x after.tracks) told.host ∙ ap (member_of (after_packet host.host told.heard now)) tracks);
    told = ap Told told.told;
  };
}

pub death-refused : (d : WorldData) (h n s now : ℕ) (host : HostPart) (part : NodePart) (e : WorldFault) → slice_get d.hosts h ≡ Some host → slice_get d.nodes n ≡ Some part
    → IsUntold host.host (track_at host n) part s e → IsRefused d (Death h n s now) e
death-refused d h n s now host part e host_there there (inl memory) = record { why = inl memory }
death-refused d h n s now host part e host_there there (inr (inl named)) = record {
  why = inr (inl (named-at (refusal_at d (Death h n s now)) (tell_test n s host part) e (at-both d h n host part (tell_test n s) host_there there) named));
}
death-refused d h n s now host part e host_there there (inr (inr unsent)) = record {
  why = inr (inr (record {
    host = host;
    host_there = host_there;
    part = part;
    there = there;
    time = unsent.time;
    opened = unsent.opened;
    unsent = unsent.unsent;
  }));
}

-- ---- a moment, and a new session

pub tick-done : (d : WorldData) (h now : ℕ) (host after : HostPart) (gaps : ℕ) → slice_get d.hosts h ≡ Some host → after ≡ record host { host = ticked host.host now }
    → gaps ≡ followed host.host d.nodes - followed (ticked host.host now) d.nodes → IsDone d (Tick h now) (with_host d h after) (done.Tick gaps)
tick-done d h now host after gaps there is count = record {
  passed = ap (λ o. if_host o (λ host. None)) there;
  step = record { host = host; host_there = there; leaves = ap (with_host d h) is; gaps = ap Gaps count };
}

pub renew-done : (d : WorldData) (h now : ℕ) (host after : HostPart) → slice_get d.hosts h ≡ Some host
    → after ≡ record { host = renewed host.host now; tracks = map (λ t. no_track) host.tracks } → IsDone d (Renew h now) (with_host d h after) done.Session
renew-done d h now host after there is = record {
  passed = ap (λ o. if_host o (λ host. None)) there;
  step = record { host = host; host_there = there; leaves = ap (with_host d h) is; renewed_answer = refl };
}

-- ---- tracks

-- a host keeps as many tracks as it had
pub still-tracked : (n : ℕ) (old new : HostPart) → has_tracks n old ≡ true → length new.tracks ≡ length old.tracks → has_tracks n new ≡ true
still-tracked n old new all same = ap (λ k. k == n) same ∙ all

pub handed-count : (m : HostPart) (n : ℕ) (part : NodePart) (p now : ℕ) (after : HostPart) (s : Step) → IsHandedTo m n part p now after s → length after.tracks ≡ length m.tracks
handed-count m n part p now after s to = ap (λ (x : HostPart). length x.tracks) to.is ∙ length-set m.tracks n to.track

fresh-count : (n : ℕ) → length (replicate n no_track) ≡ n
fresh-count n = length-replicate n no_track

pub fresh-tracked : (n : ℕ) (cs : List HostConfig) → list_all (has_tracks n) (map (fresh_member n) cs) ≡ true
fresh-tracked n [] = refl
fresh-tracked n (c ∷ cs) = ap (λ b. b && list_all (has_tracks n) (map (fresh_member n) cs)) (eq-eqb (length (replicate n no_track)) n (fresh-count n)) ∙ fresh-tracked n cs

-- ---- the configuration of a node

pub config-at : (d : WorldData) (n : ℕ) (part : NodePart) → slice_get d.nodes n ≡ Some part → (node_at (configs_at d) n).config ≡ part.node.config
config-at d n part there = ap (λ (s : Setup). s.config) (get_or_from_slice_get (map setup_at d.nodes) n (setup_at part) no_node (get-map setup_at d.nodes n part there))
