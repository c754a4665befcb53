use Rattle.std.proofs.Common.{◌≡◌, ◌∙◌, ap, subst, refl, length, map, arith, true, List}
use Rattle.std.proofs.lemmas.List.{length-map}
use Rattle.std.proofs.lemmas.Option.{slice_get_read}
use Rattle.std.specs.Prelude.{slice_get, Some}
use Rattle.spk_world_rules.specs.Events.{Renew}
use Rattle.spk_world_run.specs.Data.{HostPart, Track, WorldData, no_track}
use Rattle.spk_world.specs.Fresh.{has_tracks}
use Rattle.spk_world.specs.Outcome.{IsDone}
use Rattle.spk_world.specs.declared.answer.Done.TheVariants as done
use Rattle.spk_world.proofs.Lists.{all-get, all-set}
use Rattle.spk_world.proofs.Whole.{renew-done, still-tracked, with_host, world_of}
use Rattle.spk_world.proofs.world.World.renew.Goals as goal

pub invariant_of-self-2 : goal.invariant_of-self-2
invariant_of-self-2 c =
    let hosts = c.self.inside.hosts.items in
    let count = length c.self.inside.nodes.items in
    let host_there : slice_get hosts c.args.host ≡ Some c.index_mut.result.now =
    slice_get_read hosts (length hosts) c.args.host c.index_mut.result.now refl
    (omega (arith, c.self.inside.hosts.ok.0, c.len.ensures, c.if-host-len.false)) c.index_mut.ensures.value in
    all-set (has_tracks count) hosts c.args.host c.renew.new.self c.self.invariant
    (still-tracked count c.index_mut.result.now c.renew.new.self (all-get (has_tracks count) hosts c.args.host c.index_mut.result.now c.self.invariant host_there)
    (ap (λ (m : HostPart). length m.tracks) c.in_ok-renew.ensures.data ∙ length-map c.index_mut.result.now.tracks (λ (t : Track). no_track)))

pub returns-clause-done : goal.returns-clause-done
returns-clause-done c =
    let hosts = c.self.inside.hosts.items in
    let d = world_of c.self.inside.nodes.items hosts in
    let host_there : slice_get hosts c.args.host ≡ Some c.index_mut.result.now =
    slice_get_read hosts (length hosts) c.args.host c.index_mut.result.now refl
    (omega (arith, c.self.inside.hosts.ok.0, c.len.ensures, c.if-host-len.false)) c.index_mut.ensures.value in
    subst (λ (w : WorldData). IsDone w (Renew c.args.host c.args.now) (with_host d c.args.host c.renew.new.self) done.Session)
    c.self.view_is (renew-done d c.args.host c.args.now c.index_mut.result.now c.renew.new.self host_there c.in_ok-renew.ensures.data)
