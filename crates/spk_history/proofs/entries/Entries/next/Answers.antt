use Rattle.std.proofs.Common.{◌≡◌, ◌++◌, ℕ, List, drop, refl, sym, ap, ◌∙◌, subst, arith}
use Rattle.spk_history.specs.Entries.{AreTaken, EntriesData}
use Rattle.spk_history.specs.Entry.{said}
use Rattle.spk_history.specs.Record.{record_of}
use Rattle.spk_history.proofs.Walks.{none_at_end, none_torn, over, step, walk, within}
use Rattle.spk_history.proofs.entries.Entries.next.Goals as goal

-- the record that stands at the front, where the walk is seen from inside
inside : (w v : EntriesData) (record_bytes rest : List ℕ) → w ≡ v → drop v.whole v.bytes ≡ record_bytes ++ rest → drop w.whole w.bytes ≡ record_bytes ++ rest
inside w v record_bytes rest e here = ap (λ (x : EntriesData). drop x.whole x.bytes) e ∙ here

pub overflow_add-self : goal.overflow_add-self
overflow_add-self c =
    let first = record_of (said c.in-Record.entry) in
    let rest = c.in-Record.ensures.1.0 in
    let w = walk c.self.inside.bytes.now c.self.inside.whole in
    let here = inside w c.args.self.now first rest c.self.view_is c.in-Record.ensures.1.1 in
    let reach = within w.bytes first rest w.whole c.in-Record.len c.self.invariant here c.in-Record.ensures.2 in
    let told = c.self.told.0 in
    omega (arith, reach, told)

pub invariant_of-self : goal.invariant_of-self
invariant_of-self c =
    let first = record_of (said c.in-Record.entry) in
    let rest = c.in-Record.ensures.1.0 in
    let w = walk c.self.inside.bytes.now c.self.inside.whole in
    let here = inside w c.args.self.now first rest c.self.view_is c.in-Record.ensures.1.1 in
    within w.bytes first rest w.whole c.in-Record.len c.self.invariant here c.in-Record.ensures.2

pub returns-in-Record-clause-taken : goal.returns-in-Record-clause-taken
returns-in-Record-clause-taken c =
    let entry = said c.in-Record.entry in
    let rest = c.in-Record.ensures.1.0 in
    let w = walk c.self.inside.bytes.now c.self.inside.whole in
    let here = inside w c.args.self.now (record_of entry) rest c.self.view_is c.in-Record.ensures.1.1 in
    λ entries taken. step w.bytes rest w.whole c.in-Record.len entry c.in-Record.ensures.0 here c.in-Record.ensures.2 entries (subst (λ x. AreTaken x entries) (sym c.self.view_is) taken)

pub returns-in-End-clause-over : goal.returns-in-End-clause-over
returns-in-End-clause-over c =
    let w = c.args.self.now in
    (refl, over w.bytes w.whole (none_at_end (drop w.whole w.bytes) c.in-End.ensures))

pub returns-in-Torn-clause-over : goal.returns-in-Torn-clause-over
returns-in-Torn-clause-over c =
    let w = c.args.self.now in
    (refl, over w.bytes w.whole (none_torn (drop w.whole w.bytes) c.in-Torn.ensures))
