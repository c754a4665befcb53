use Rattle.std.proofs.Common.{◌≡◌, map}
use Rattle.spk_world_run.specs.Data.{no_track}
use Rattle.spk_world.specs.View.{track_view}
use Rattle.spk_world.proofs.Lists.{mapped}
use Rattle.spk_world.proofs.renewing.clear_all.Given as goal

-- so many of them are empty
abbrev pub invariant-loop-track : goal.invariant-loop-track
invariant-loop-track l = map track_view l.tracks ≡ mapped (λ t. no_track) l.track-index (map track_view l.initial.tracks)
