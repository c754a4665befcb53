use Rattle.std.proofs.Common.{◌≡◌, ◌⊎◌, ℕ, List, [], Some, inl, inr, sym, ◌∙◌}
use Rattle.spk_topics.specs.Edges.{StaysIn}
use Rattle.spk_topics.specs.Nodes.{next_of, row_of}
use Rattle.spk_topics.proofs.EdgeLemmas.{child_at, row_at, up_nowhere}
use Rattle.spk_topics.proofs.nodes.Nodes.is_leaf.Goals as goal

pub returns-in-Some-clause-stays : goal.returns-in-Some-clause-stays
returns-in-Some-clause-stays c = λ no. side (c.is_bare.ensures.full no)
  where
    side : (c.in-Some.node.now.grants.entries ≡ [] → ⊥) ⊎ ((l : List ℕ) × (n : ℕ) × (next_of c.in-Some.node.now l ≡ Some n)) → StaysIn c.args.self.now c.args.number
    side (inl full) = inl (inl (record { row = row_of c.in-Some.node.now; there = row_at c.args.self.now.list.items c.args.number c.in-Some.node.now (sym c.in-Some.ensures); granted = full }))
    side (inr (l, n, e)) = inl (inr (l, n, child_at c.args.self.now.list.items c.args.number c.in-Some.node.now l (sym c.in-Some.ensures) ∙ e))

pub returns-in-None-clause-stays : goal.returns-in-None-clause-stays
returns-in-None-clause-stays c = λ no. inr (up_nowhere c.args.self.now.list.items c.args.number (sym c.in-None.ensures))
