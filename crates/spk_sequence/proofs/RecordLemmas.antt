-- The birth taken.
use Rattle.std.proofs.Common.{◌≡◌, ℕ, ◌<◌, ◌≤◌, List, length, arith, Some}
use Rattle.spk_sequence.specs.NodeRecord.{Setting}
use Rattle.spk_sequence.specs.HostRecord.{Input, HostRecord, record_of, standing_of, next_after, reach}
use Rattle.spk_sequence.specs.Following.{taken}
use Rattle.spk_sequence.specs.Claims.{IsLawful, IsOpening}
use Rattle.spk_sequence.proofs.Tied.{Tied, IsTaken}
use Rattle.spk_sequence.proofs.Lawful.{tied_of}

pub taken_opens : (s : Setting) (inputs : List Input) (b : ℕ) → IsLawful s inputs → taken s (record_of s inputs) ≡ Some b → IsOpening s.published b
taken_opens s inputs b l tk =
    let h : HostRecord = record_of s inputs in
    let t : Tied s h (standing_of s inputs) = tied_of s inputs l in
    let o : IsTaken s h (standing_of s inputs) b = t.birth b tk in
    let below : b < next_after h = o.below in
    let reached : next_after h ≤ reach h = o.reached in
    let fits : reach h ≤ length s.published = t.fits in
    record { within = omega arith; opening = o.opening }
