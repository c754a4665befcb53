-- Why the threads have nothing to begin with.
use Rattle.std.proofs.Common.{◌≡◌, ◌⊎◌, inl, inr, ℕ, List, sym, subst, string_bytes}
use Rattle.spk_plan.specs.declared.plan.Plan.{Plan}
use Rattle.spk_plan.specs.declared.fault.PlantFault.{PlantFault}
use Rattle.spk_plan.specs.declared.fault.PlantFault.TheVariants as fault
use Rattle.spk_plan_rules.specs.Plan.{AreEdges, CanRun}
use Rattle.spk_plant.specs.Choice.{IsRefused}

edges_at : (p : Plan) (group host : List ℕ) → group ≡ string_bytes p.group → host ≡ string_bytes p.host → CanRun p → AreEdges group host p.nodes.items
edges_at p group host g h can =
    subst (λ x. AreEdges x host p.nodes.items) (sym g) (subst (λ x. AreEdges (string_bytes p.group) x p.nodes.items) (sym h) can.edges)

-- memory was refused, or no edge nodes can be made of these names
pub no_edges : (p : Plan) (e : PlantFault) (group host : List ℕ) → group ≡ string_bytes p.group → host ≡ string_bytes p.host
    → (e ≡ fault.NoMemory) ⊎ ((e ≡ fault.BadPlan) × (AreEdges group host p.nodes.items → ⊥)) → IsRefused p e
no_edges p e group host g h why = elim why [
  | inl memory ↦ inl memory
  | inr wrong ↦ inr (wrong.0, λ can. wrong.1 (edges_at p group host g h can))
]
