-- The clauses of the law that speak of what was consumed.
use Rattle.std.proofs.Common.{◌≡◌, List, ◌∷◌, ◌++◌}
use Rattle.spk_sequence.specs.NodeRecord.{Setting, NodeRecord, IsNodeRecord}
use Rattle.spk_sequence.specs.HostRecord.{Input, record_of, standing_of, done_at, consumed_of}
use Rattle.spk_sequence.specs.Following.{taken}
use Rattle.spk_sequence.specs.Claims.{IsLawful, BirthPrefixes, EndsWithTaken, AfterGap, taken_by, with_more, IsSameWithMore}
use Rattle.spk_sequence.proofs.Lawful.{steps_all, ate_of}
use Rattle.spk_sequence.proofs.Fronts.{Fronted, fronted_always, prefixes_of, ends_of, after_gap_of, taken_by_is}
use Rattle.spk_sequence.proofs.Grows.{grows_always}

fronted_of : (s : Setting) (inputs : List Input) → IsLawful s inputs → Fronted s (record_of s inputs)
fronted_of s inputs l = fronted_always s l.node l.some_places l.few_places inputs l.may_come (steps_all s inputs l)

pub fronts : (s : Setting) (inputs : List Input) → IsLawful s inputs → BirthPrefixes s.published (consumed_of (record_of s inputs))
fronts s inputs l = prefixes_of s (record_of s inputs) (fronted_of s inputs l)

pub last_part : (s : Setting) (inputs : List Input) → IsLawful s inputs → EndsWithTaken s (record_of s inputs)
last_part s inputs l = ends_of s (record_of s inputs) (fronted_of s inputs l)

pub after_gap : (s : Setting) (inputs : List Input) (input : Input) → IsLawful s (input ∷ inputs) → AfterGap s (record_of s inputs) (done_at s (record_of s inputs) (standing_of s inputs) input)
after_gap s inputs input l = after_gap_of s (record_of s inputs) input (done_at s (record_of s inputs) (standing_of s inputs) input) (ate_of s inputs input l)

pub taken_after : (s : Setting) (inputs : List Input) (input : Input) → IsLawful s (input ∷ inputs) →
    taken s (record_of s (input ∷ inputs)) ≡ taken_by s (record_of s inputs) input (done_at s (record_of s inputs) (standing_of s inputs) input).consumed
taken_after s inputs input l = taken_by_is s (record_of s inputs) input (done_at s (record_of s inputs) (standing_of s inputs) input) (ate_of s inputs input l)

pub grows : (s : Setting) (more : NodeRecord) (inputs : List Input) → IsLawful s inputs → IsSameWithMore s more inputs
grows s more inputs l = grows_always s more l.node l.some_places l.few_places inputs l.may_come (steps_all s inputs l) l.numbered

pub still_lawful : (s : Setting) (more : NodeRecord) (inputs : List Input) → IsLawful s inputs → IsNodeRecord (s.published ++ more) → IsLawful (with_more s more) inputs
still_lawful s more inputs l node =
    let g : IsSameWithMore s more inputs = grows s more inputs l in
    record { node = node; some_places = l.some_places; few_places = l.few_places; may_come = g.may_come; numbered = g.numbered }
