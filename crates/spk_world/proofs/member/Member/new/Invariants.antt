use Rattle.std.proofs.Common.{◌≡◌, ◌≤◌, map, replicate}
use Rattle.std.specs.Prelude.{vec_len, vec_capacity}
use Rattle.spk_world_run.specs.Data.{no_track}
use Rattle.spk_world.specs.View.{track_view}
use Rattle.spk_world.proofs.member.Member.new.Given as goal

-- so many empty tracks, and room for the others
abbrev pub invariant-loop-place : goal.invariant-loop-place
invariant-loop-place l = record {
  tracks : map track_view l.tracks.items ≡ replicate l._place no_track;
  count : vec_len l.tracks ≡ l._place;
  room : l.nodes ≤ vec_capacity l.tracks;
}
