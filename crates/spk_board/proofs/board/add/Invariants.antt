use Rattle.std.proofs.Common.{◌≡◌, ◌≤◌, ◌+◌, ◌-◌, ◌++◌, map, vec_len, vec_capacity}
use Rattle.spk_board.specs.Deeds.{fresh, story_of}
use Rattle.spk_board.proofs.board.add.Given as goal

abbrev pub invariant-loop-added : goal.invariant-loop-added
invariant-loop-added l =
    (l.stories.items ≡ l.initial.stories.items ++ map story_of (fresh l._added l.now)) × (vec_len l.stories + (l.more - l._added) ≤ vec_capacity l.stories)
