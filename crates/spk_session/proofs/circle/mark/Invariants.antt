use Rattle.std.proofs.Common.{◌≡◌, ℕ, ◌<◌, ◌≤◌, false, get_or, length, take}
use Rattle.std.specs.List.{count_by}
use Rattle.spk_session.specs.PacketIds.{id_after, is_in}
use Rattle.spk_session.proofs.circle.mark.Given as goal

abbrev pub invariant-loop-id : goal.invariant-loop-id
invariant-loop-id l = record {
  marked : (k : ℕ) → k < length l.taken → get_or l.taken k false ≡ is_in (take l.id-index l.used) (id_after l.last k);
  few : count_by (λ b. b) l.taken ≤ l.id-index;
}
