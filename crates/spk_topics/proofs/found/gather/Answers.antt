use Rattle.std.proofs.Common.{◌≡◌, ◌∙◌, ℕ, [], sym, ap, arith}
use Rattle.std.proofs.lemmas.Grind.{common_steps}
use Rattle.std.proofs.lemmas.Map.Entries.{entries_from_clone}
use Rattle.std.specs.Ordering.{nat_cmp}
use Rattle.std.specs.BTreeMap.{get}
use Rattle.spk_topics.specs.Found.{merged}
use Rattle.spk_topics.proofs.FoundLemmas.{gathered, taken_whole}
use Rattle.spk_topics.proofs.found.gather.Goals as goal

pub returns-clause-ok : goal.returns-clause-ok
returns-clause-ok c =
    gathered _ _ c.args.grants.now c.iter-key-items.ensures.ordered
    (λ j. ap (λ es. merged j (get nat_cmp c.loop-key.found j) es) (sym c.in-None.ensures.steps.0) ∙ c.loop-key.invariant j)

pub returns-then-is_empty-clause-ok : goal.returns-then-is_empty-clause-ok
returns-then-is_empty-clause-ok c =
    let none : c.args.found.now.entries ≡ [] = grind (arith, common_steps) in
    let same : c.in_ok-found.field-0.entries ≡ c.args.grants.now.entries =
    entries_from_clone (λ (x y : ℕ). y ≡ x) (λ (x y : ℕ). y ≡ x) (λ x y h. h) (λ x y h. h) c.args.grants.now.entries c.in_ok-found.field-0.entries c.in_ok-found.ensures.cases in
    taken_whole c.args.found.now c.in_ok-found.field-0 c.args.grants.now none same
