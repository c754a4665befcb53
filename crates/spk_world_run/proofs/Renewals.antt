-- The session of a host ends, and its next begins: the data after it are those of the longer list.
use Rattle.std.proofs.Common.{◌≡◌, ◌∙◌, ap, sym, refl, subst, ℕ, true, cond, List, [], ◌∷◌, map, Option, Some, None}
use Rattle.std.specs.Prelude.{slice_get, is_some}
use Rattle.std.specs.Option.{option_map}
use Rattle.std.proofs.lemmas.Bool.{eq-eqb, ne_eqb}
use Rattle.std.proofs.lemmas.List.{length-map}
use Rattle.std.proofs.lemmas.Option.{slice_get-map}
use Rattle.spk_host.specs.Data.{HostData}
use Rattle.spk_host.specs.Inputs as call
use Rattle.spk_host_session.specs.Step as session
use Rattle.spk_host_session.specs.Step.{began_after}
use Rattle.spk_world_rules.specs.Answers.{Answer, answer_of}
use Rattle.spk_world_rules.specs.Events.{Deed, Renew, World, host_at, node_at}
use Rattle.spk_world_rules.specs.Queries.{inputs_of, published_of}
use Rattle.spk_world_rules.specs.Refusals.{refusal_of}
use Rattle.spk_world_run.specs.Data.{HostPart, Track, WorldData, no_track}
use Rattle.spk_world_run.specs.Run.{IsHostRun, IsRun}
use Rattle.spk_world_run.specs.Step.{IsRenewal, renewed}
use Rattle.spk_world_run.proofs.Hosts.{with-host}
use Rattle.spk_world_run.proofs.Tracks.{Tracked, fresh-tracked, track-from}

begins : (o : Option ℕ) (now : ℕ) → is_some (began_after o (session.Renewed now)) ≡ true
begins None now = refl
begins (Some began) now = refl

no-other : (o : Option Track) (track : Track) → option_map (λ t. no_track) o ≡ Some track → track ≡ no_track
no-other None track e = absurd (let z : ⊥ = cc in z)
no-other (Some t) track e = cc

renewal-host : (w : World) (done : List Deed) (h now : ℕ) (part : HostPart) → IsHostRun w done h part
    → IsHostRun w (Renew h now ∷ done) h (record { host = renewed part.host now; tracks = map (λ t. no_track) part.tracks })
renewal-host w done h now part run = record {
  config = run.config;
  calls = call.Renewed now ∷ run.calls;
  is = ap (λ (x : HostData). renewed x now) run.is;
  began = begins part.host.session.began now;
  waits = run.waits;
  wide = run.wide;
  count = length-map part.tracks (λ (t : Track). no_track) ∙ run.count;
  tracks = λ n track there.
      track-from w (Renew h now ∷ done) h n (call.Renewed now ∷ run.calls) track [] []
      (ap (λ b. cond b [] (inputs_of done h n)) (eq-eqb h h refl)) refl
      (subst (Tracked (node_at w n) (published_of w done n) (host_at w h).wait (host_at w h).width [] [])
      (sym (no-other (slice_get part.tracks n) track (sym (slice_get-map (λ (t : Track). no_track) part.tracks n) ∙ there)))
      (fresh-tracked (node_at w n) (published_of w done n) (host_at w h).wait (host_at w h).width));
}

pub renewal-run : (w : World) (done : List Deed) (d after : WorldData) (h now : ℕ) (answer : Answer) → IsRun w done d
    → refusal_of w done (Renew h now) ≡ None → IsRenewal d h now after answer → IsRun w (Renew h now ∷ done) after
renewal-run w done d after h now answer run passed renewal =
    let part = renewal.host in
    subst (IsRun w (Renew h now ∷ done)) (sym renewal.leaves)
    (with-host w done (Renew h now) d h (record { host = renewed part.host now; tracks = map (λ t. no_track) part.tracks }) run passed (λ n. refl)
    (λ k n differs. ap (λ b. cond b [] (inputs_of done k n)) (ne_eqb h k (λ e. differs (sym e))))
    (renewal-host w done h now part (run.hosts h part renewal.host_there)))

pub renewal-answer : (w : World) (done : List Deed) (d after : WorldData) (h now : ℕ) (answer : Answer) → IsRenewal d h now after answer
    → answer ≡ answer_of w done (Renew h now)
renewal-answer w done d after h now answer renewal = renewal.renewed_answer
