use Rattle.std.proofs.Common.{subst, arith}
use Rattle.std.proofs.lemmas.List.{take-take}
use Rattle.spk_session.specs.PacketIds.{AreIds}
use Rattle.spk_session.proofs.IdLemmas.{ids-take}
use Rattle.spk_session.proofs.identifiers.Identifiers.rewind.Goals as goal
use Rattle.spk_session.proofs.identifiers.Identifiers.rewind.Goals.{then-n-self, else-n-self}

pub invariant_of-self : goal.invariant_of-self
invariant_of-self c = elim c.if-n-self.branch [
  | then-n-self w ↦ rw w.self-inside-is record {
    count_fits = omega arith;
    ids = subst AreIds (take-take c.args.n c.self.inside.count c.self.inside.table (omega arith)) (ids-take c.args.n _ c.self.invariant.ids);
  }
  | else-n-self w ↦ rw w.self-inside-is c.self.invariant
]

pub returns-clause-whole : goal.returns-clause-whole
returns-clause-whole c = (invariant_of-self c).ids
