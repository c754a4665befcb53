use Rattle.std.proofs.Common.{◌≡◌, ◌+◌, take}
use Rattle.spk_broker.specs.Asking.{sessions_now}
use Rattle.spk_broker.specs.Sizes.{size_of_all}
use Rattle.spk_broker.proofs.index_size.room.Given as goal

abbrev pub invariant-loop-session : goal.invariant-loop-session
invariant-loop-session l = l.left + size_of_all (sessions_now (take l.session-index l.sessions)) ≡ 100000
