use Rattle.std.proofs.Common.{◌≡◌, ◌∙◌, sym, ap, subst, refl, map, set, length, arith}
use Rattle.std.proofs.lemmas.List.{length-map}
use Rattle.std.proofs.lemmas.Option.{slice_get_read}
use Rattle.std.specs.Prelude.{slice_get, Some}
use Rattle.spk_world_run.specs.Data.{HostPart}
use Rattle.spk_world.specs.Handed.{IsHandedTo}
use Rattle.spk_world.specs.View.{track_view}
use Rattle.spk_world.proofs.Lists.{get-map, if-ok, map-set, on-err-both, set-same}
use Rattle.spk_world.proofs.Whole.{handed-to, member_of}
use Rattle.spk_world.proofs.member.Member.hand.Goals as goal

pub returns-clause-done : goal.returns-clause-done
returns-clause-done c =
    let tracks = c.self.inside.tracks.items in
    let few = ap (λ (m : HostPart). length m.tracks) c.self.view_is in
    let size = length-map tracks track_view in
    let there : slice_get (map track_view tracks) c.args.number ≡ Some (track_view c.index_mut.result.now) =
    get-map track_view tracks c.args.number c.index_mut.result.now
    (slice_get_read tracks (length tracks) c.args.number c.index_mut.result.now refl (omega (arith, few, size, c.requires)) c.index_mut.ensures.value) in
    if-ok c.hand.result c.hand.ensures.done
    (λ s handed. subst (λ (after : HostPart). IsHandedTo c.args.self.now c.args.number c.args.node.now c.args.position c.args.now after s)
    (ap (member_of c.hand.new.host) (sym (map-set track_view tracks c.args.number c.hand.new.track)))
    (subst (λ (m : HostPart). IsHandedTo m c.args.number c.args.node.now c.args.position c.args.now (member_of c.hand.new.host (set (map track_view tracks) c.args.number (track_view c.hand.new.track))) s)
    c.self.view_is
    (handed-to (member_of c.self.inside.host (map track_view tracks)) c.args.number c.args.node.now c.args.position c.args.now
    (track_view c.index_mut.result.now) c.hand.new.host (track_view c.hand.new.track) s there handed)))

pub returns-clause-unchanged : goal.returns-clause-unchanged
returns-clause-unchanged c =
    let tracks = c.self.inside.tracks.items in
    let few = ap (λ (m : HostPart). length m.tracks) c.self.view_is in
    let size = length-map tracks track_view in
    let there : slice_get (map track_view tracks) c.args.number ≡ Some (track_view c.index_mut.result.now) =
    get-map track_view tracks c.args.number c.index_mut.result.now
    (slice_get_read tracks (length tracks) c.args.number c.index_mut.result.now refl (omega (arith, few, size, c.requires)) c.index_mut.ensures.value) in
    on-err-both c.hand.result c.hand.ensures.host c.hand.ensures.track
    (λ host track. ap (member_of c.hand.new.host) (map-set track_view tracks c.args.number c.hand.new.track
    ∙ ap (set (map track_view tracks) c.args.number) track ∙ set-same (map track_view tracks) c.args.number (track_view c.index_mut.result.now) there)
    ∙ ap (λ h. member_of h (map track_view tracks)) host ∙ c.self.view_is)
