use Rattle.std.proofs.Common.{sym, subst, arith}
use Rattle.std.proofs.lemmas.List.{take_more_set, length-take-le}
use Rattle.spk_session.specs.PacketIds.{AreIds}
use Rattle.spk_session.proofs.IdLemmas.{ids-next}
use Rattle.spk_session.proofs.identifiers.Identifiers.sent.Goals as goal

pub invariant_of-self : goal.invariant_of-self
invariant_of-self c = record {
  count_fits = omega arith;
  ids = subst AreIds (sym (take_more_set c.self.inside.table c.self.inside.count c.next_id-id.result (omega arith)))
      (ids-next _ _ _ c.self.invariant.ids (omega (arith, length-take-le c.self.inside.count c.self.inside.table)) c.next_id-id.ensures.next);
}

pub returns-clause-whole : goal.returns-clause-whole
returns-clause-whole c = (invariant_of-self c).ids
