use Rattle.std.proofs.Common.{◌≡◌, ◌∙◌, ap, subst, refl, length, arith, true, List, ◌-◌}
use Rattle.std.proofs.lemmas.Option.{slice_get_read}
use Rattle.std.specs.Prelude.{slice_get, Some}
use Rattle.spk_world_rules.specs.Events.{Tick}
use Rattle.spk_world_run.specs.Data.{HostPart, NodePart, WorldData}
use Rattle.spk_world_run.specs.Step.{followed, ticked}
use Rattle.spk_world.specs.Fresh.{has_tracks}
use Rattle.spk_world.specs.Outcome.{IsDone}
use Rattle.spk_world.specs.declared.answer.Done.TheVariants as done
use Rattle.spk_world.proofs.Lists.{all-get, all-set}
use Rattle.spk_world.proofs.Whole.{still-tracked, tick-done, with_host, world_of}
use Rattle.spk_world.proofs.world.World.tick.Goals as goal

pub invariant_of-self-2 : goal.invariant_of-self-2
invariant_of-self-2 c =
    let hosts = c.self.inside.hosts.items in
    let count = length c.self.inside.nodes.items in
    let host_there : slice_get hosts c.args.host ≡ Some c.index_mut.result.now =
    slice_get_read hosts (length hosts) c.args.host c.index_mut.result.now refl
    (omega (arith, c.self.inside.hosts.ok.0, c.len.ensures, c.if-host-len.false)) c.index_mut.ensures.value in
    all-set (has_tracks count) hosts c.args.host c.tick.new.self c.self.invariant
    (still-tracked count c.index_mut.result.now c.tick.new.self (all-get (has_tracks count) hosts c.args.host c.index_mut.result.now c.self.invariant host_there)
    (ap (λ (m : HostPart). length m.tracks) c.in_ok-gaps.ensures.data))

pub returns-clause-done : goal.returns-clause-done
returns-clause-done c =
    let hosts = c.self.inside.hosts.items in
    let nodes = c.self.inside.nodes.items in
    let d = world_of nodes hosts in
    let host = c.index_mut.result.now in
    let host_there : slice_get hosts c.args.host ≡ Some host =
    slice_get_read hosts (length hosts) c.args.host host refl
    (omega (arith, c.self.inside.hosts.ok.0, c.len.ensures, c.if-host-len.false)) c.index_mut.ensures.value in
    subst (λ (w : WorldData). IsDone w (Tick c.args.host c.args.now) (with_host d c.args.host c.tick.new.self) (done.Tick c.in_ok-gaps.gaps))
    c.self.view_is
    (tick-done d c.args.host c.args.now host c.tick.new.self c.in_ok-gaps.gaps host_there c.in_ok-gaps.ensures.data
    (c.in_ok-gaps.ensures.gaps ∙ ap (λ (l : List NodePart). followed host.host l - followed (ticked host.host c.args.now) l) c.deref.ensures.value))
