use Rattle.std.proofs.Common.{sym, subst, ◌∙◌, ap, arith}
use Rattle.spk_session.specs.PacketIds.{AreIds, is_in}
use Rattle.spk_session.specs.Data.{Ids}
use Rattle.spk_session.proofs.IdLemmas.{ids-without, removed}
use Rattle.spk_session.proofs.identifiers.Identifiers.acked.Goals as goal

pub invariant_of-self : goal.invariant_of-self
invariant_of-self c = record {
  count_fits = omega arith;
  ids = subst AreIds (sym c.remove-self-inside.ensures.front) (ids-without c.args.id _ c.self.invariant.ids);
}

pub returns-clause-answer : goal.returns-clause-answer
returns-clause-answer c =
    removed c.args.id c.self.inside.count c.remove-self-inside.result c.self.inside.table c.remove-self-inside.new.table (omega arith) (omega arith) c.remove-self-inside.ensures.front
    ∙ ap (λ (s : Ids). is_in s.used c.args.id) c.self.view_is

pub returns-clause-whole : goal.returns-clause-whole
returns-clause-whole c = (invariant_of-self c).ids
