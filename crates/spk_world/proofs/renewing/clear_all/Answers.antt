use Rattle.std.proofs.Common.{◌≡◌, ◌∙◌, sym, ap, arith, map, set, length}
use Rattle.std.proofs.lemmas.List.{length-map}
use Rattle.spk_world_run.specs.Data.{no_track}
use Rattle.spk_world.specs.View.{track_view}
use Rattle.spk_world.proofs.Lists.{map-set, mapped-all, mapped-more}
use Rattle.spk_world.proofs.renewing.clear_all.Goals as goal

pub loop-track-preserved : goal.loop-track-preserved
loop-track-preserved c =
    let size = length-map c.loop-track.tracks track_view in
    map-set track_view c.loop-track.tracks c.loop-track.track-index c.clear.new.self
    ∙ ap (set (map track_view c.loop-track.tracks) c.loop-track.track-index) c.clear.ensures
    ∙ mapped-more no_track (map track_view c.args.tracks.now) (map track_view c.loop-track.tracks) c.loop-track.track-index
    c.loop-track.invariant (omega arith)

pub returns : goal.returns
returns c =
    let size = length-map c.args.tracks.now track_view in
    c.loop-track.invariant ∙ mapped-all (λ t. no_track) (map track_view c.args.tracks.now) c.loop-track.track-index (omega arith)
