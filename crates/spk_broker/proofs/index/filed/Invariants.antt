use Rattle.std.proofs.Common.{◌≡◌, take}
use Rattle.std.specs.List.{flat_map}
use Rattle.spk_broker.specs.Filing.{index_of}
use Rattle.spk_broker.specs.View.{session_now}
use Rattle.spk_broker.proofs.index.filed.Given as goal

abbrev pub invariant-loop-session : goal.invariant-loop-session
invariant-loop-session l = l.tree ≡ index_of (flat_map session_now (take l.session-index l.sessions))
