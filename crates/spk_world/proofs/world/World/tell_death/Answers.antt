use Rattle.std.proofs.Common.{◌≡◌, ap, subst, refl, length, arith, true, List}
use Rattle.std.proofs.lemmas.Option.{slice_get_read}
use Rattle.std.proofs.lemmas.Result.{err_from_is_err_and}
use Rattle.std.specs.Prelude.{slice_get, Some}
use Rattle.spk_world_rules.specs.Events.{Death}
use Rattle.spk_world_run.specs.Data.{Track, WorldData}
use Rattle.spk_world.specs.Fresh.{has_tracks}
use Rattle.spk_world.specs.Outcome.{IsDone, IsRefused}
use Rattle.spk_world.specs.declared.answer.Done.TheVariants as done
use Rattle.spk_world.proofs.Lists.{all-get, all-set}
use Rattle.spk_world.proofs.Whole.{death-done, death-refused, still-tracked, with_host, world_of}
use Rattle.spk_world.proofs.world.World.tell_death.Goals as goal

pub invariant_of-self-2 : goal.invariant_of-self-2
invariant_of-self-2 c =
    let hosts = c.self.inside.hosts.items in
    let count = length c.self.inside.nodes.items in
    let host_there : slice_get hosts c.args.host ≡ Some c.index_mut.result.now =
    slice_get_read hosts (length hosts) c.args.host c.index_mut.result.now refl
    (omega (arith, c.self.inside.hosts.ok.0, c.len.ensures, c.if-host-len.false)) c.index_mut.ensures.value in
    all-set (has_tracks count) hosts c.args.host c.tell.new.self c.self.invariant
    (still-tracked count c.index_mut.result.now c.tell.new.self (all-get (has_tracks count) hosts c.args.host c.index_mut.result.now c.self.invariant host_there)
    (ap (λ (l : List Track). length l) c.in_ok-told.ensures.tracks))

pub returns-clause-done : goal.returns-clause-done
returns-clause-done c =
    let hosts = c.self.inside.hosts.items in
    let nodes = c.self.inside.nodes.items in
    let d = world_of nodes hosts in
    let host_there : slice_get hosts c.args.host ≡ Some c.index_mut.result.now =
    slice_get_read hosts (length hosts) c.args.host c.index_mut.result.now refl
    (omega (arith, c.self.inside.hosts.ok.0, c.len.ensures, c.if-host-len.false)) c.index_mut.ensures.value in
    let there : slice_get nodes c.args.node ≡ Some c.index.result.now =
    slice_get_read nodes (length nodes) c.args.node c.index.result.now refl
    (omega (arith, c.self.inside.nodes.ok.0, c.len-else-host-len.ensures, c.if-node-len.false)) c.index.ensures in
    subst (λ (w : WorldData). IsDone w (Death c.args.host c.args.node c.args.session c.args.now) (with_host d c.args.host c.tell.new.self) (done.Death c.in_ok-told.told))
    c.self.view_is
    (death-done d c.args.host c.args.node c.args.session c.args.now c.index_mut.result.now c.index.result.now c.tell.new.self c.in_ok-told.told host_there there
    c.in_ok-told.ensures.done c.in_ok-told.ensures.tracks c.in_ok-told.ensures.passed)

pub returns-in_err-told-clause-refused : goal.returns-in_err-told-clause-refused
returns-in_err-told-clause-refused c =
    let hosts = c.self.inside.hosts.items in
    let nodes = c.self.inside.nodes.items in
    let d = world_of nodes hosts in
    let host_there : slice_get hosts c.args.host ≡ Some c.index_mut.result.now =
    slice_get_read hosts (length hosts) c.args.host c.index_mut.result.now refl
    (omega (arith, c.self.inside.hosts.ok.0, c.len.ensures, c.if-host-len.false)) c.index_mut.ensures.value in
    let there : slice_get nodes c.args.node ≡ Some c.index.result.now =
    slice_get_read nodes (length nodes) c.args.node c.index.result.now refl
    (omega (arith, c.self.inside.nodes.ok.0, c.len-else-host-len.ensures, c.if-node-len.false)) c.index.ensures in
    let p = err_from_is_err_and c.from_residual.result c.from_residual.ensures.1 in
    rw (p.1, p.2)
    (subst (λ (w : WorldData). IsRefused w (Death c.args.host c.args.node c.args.session c.args.now) c.in_err-told.field-0.0) c.self.view_is
    (death-refused d c.args.host c.args.node c.args.session c.args.now c.index_mut.result.now c.index.result.now c.in_err-told.field-0.0 host_there there c.in_err-told.ensures.refused))
