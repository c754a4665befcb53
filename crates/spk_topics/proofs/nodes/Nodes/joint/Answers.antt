use Rattle.std.proofs.Common.{◌≡◌, ◌⊎◌, ℕ, List, [], Option, Some, None, inl, inr, sym, subst, ap, ◌∙◌}
use Rattle.std.specs.Prelude.{IfNone, IfSome, slice_get}
use Rattle.spk_topics.specs.declared.node.Node.{Node}
use Rattle.spk_topics.specs.Edges.{IsJoint}
use Rattle.spk_topics.specs.Nodes.{next_of, row_of}
use Rattle.spk_topics.specs.Paths.{child_in}
use Rattle.spk_topics.specs.Rows.{Row}
use Rattle.spk_topics.specs.Whole.{HasGrants, HasOne, HasTwo}
use Rattle.spk_topics.proofs.EdgeLemmas.{child_at, child_nowhere, row_at}
use Rattle.spk_topics.proofs.NodeLemmas.{links_in, rows_in}
use Rattle.spk_topics.proofs.nodes.Nodes.joint.Goals as goal

module _ (nodes : List Node) (n : ℕ) (node : Node) (at : slice_get nodes n ≡ Some node) where
  same : next_of node ≡ child_in (links_in nodes) n
  same = λ i l. sym (child_at nodes n node l at) i

  one_row : (row : Row) → slice_get (rows_in nodes) n ≡ Some row → row ≡ row_of node
  one_row row h = let both : Some row ≡ Some (row_of node) = sym h ∙ row_at nodes n node at in cc

  is_joint : (o : Option ℕ) → IfSome o (λ m. node.grants.entries ≡ []) → IfSome o (λ m. HasOne (next_of node) m) → IfSome o (λ m. IsJoint (rows_in nodes) (child_in (links_in nodes)) n m)
  is_joint None empty one = tt
  is_joint (Some m) empty one = record { vacant = λ row h. ap (λ (r : Row). r.1) (one_row row h) ∙ empty; one = subst (λ ways. HasOne ways m) same one }

  is_needed : (node.grants.entries ≡ [] → ⊥) ⊎ (HasTwo (next_of node) ⊎ ((l : List ℕ) → next_of node l ≡ None)) → HasGrants (rows_in nodes) n ⊎ (HasTwo (child_in (links_in nodes) n) ⊎ ((l : List ℕ) → child_in (links_in nodes) n l ≡ None))
  is_needed (inl full) = inl (record { row = row_of node; there = row_at nodes n node at; granted = full })
  is_needed (inr (inl two)) = inr (inl (subst HasTwo same two))
  is_needed (inr (inr none)) = inr (inr (λ l. child_at nodes n node l at ∙ none l))

  needed : (o : Option ℕ) → IfNone o ((node.grants.entries ≡ [] → ⊥) ⊎ (HasTwo (next_of node) ⊎ ((l : List ℕ) → next_of node l ≡ None)))
      → IfNone o (HasGrants (rows_in nodes) n ⊎ (HasTwo (child_in (links_in nodes) n) ⊎ ((l : List ℕ) → child_in (links_in nodes) n l ≡ None)))
  needed None h = is_needed h
  needed (Some m) h = tt

pub returns-in-Some-clause-joint : goal.returns-in-Some-clause-joint
returns-in-Some-clause-joint c = is_joint c.args.self.now.list.items c.args.number c.in-Some.node.now (sym c.in-Some.ensures) c.joint.result c.joint.ensures.grants c.joint.ensures.one

pub returns-in-Some-clause-needed : goal.returns-in-Some-clause-needed
returns-in-Some-clause-needed c = needed c.args.self.now.list.items c.args.number c.in-Some.node.now (sym c.in-Some.ensures) c.joint.result c.joint.ensures.needed

pub returns-in-None-clause-needed : goal.returns-in-None-clause-needed
returns-in-None-clause-needed c = inr (inr (λ l. child_nowhere c.args.self.now.list.items c.args.number l (sym c.in-None.ensures)))
