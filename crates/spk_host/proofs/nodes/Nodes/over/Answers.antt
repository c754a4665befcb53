use Rattle.std.proofs.Common.{refl}
use Rattle.spk_host.specs.Step.{over_entry}
use Rattle.spk_host.proofs.Idle.{at-once}
use Rattle.spk_host.proofs.Indexed.{indexed-lent}
use Rattle.spk_host.proofs.nodes.Nodes.over.Goals as goal

pub invariant_of-self : goal.invariant_of-self
invariant_of-self c =
    at-once (indexed-lent over_entry (λ e. refl) c.self.inside.entries.len c.end_all.new.nodes c.deref_mut.result.now c.self.inside.entries.items
    c.self.inside.index c.self.invariant.indexed c.end_all.ensures c.deref_mut.ensures.value c.self.inside.entries.ok.0)
