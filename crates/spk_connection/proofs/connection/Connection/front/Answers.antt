use Rattle.std.proofs.Common.{◌≡◌, ◌∙◌, sym, ap, subst, length, take, false}
use Rattle.std.specs.Prelude.{IsTrue}
use Rattle.spk_packets.specs.Fault.{IsNamed, first_of, is_of_bytes}
use Rattle.spk_packets.specs.Grammar.{keeps}
use Rattle.spk_packets.specs.Refusals.{refusals}
use Rattle.spk_connection.proofs.Front.{is_cut, lent, more_is_no_want}
use Rattle.spk_connection.proofs.connection.Connection.front.Goals as goal

pub returns-in-Ok-clause-lent : goal.returns-in-Ok-clause-lent
returns-in-Ok-clause-lent c = lent c.args.self.now c.as_slice-bytes.result.now c.in-Ok.size (c.as_slice-bytes.ensures ∙ ap (λ x. x.unread) c.self.view_is) c.in-Ok.ensures.found

pub returns-in-Ok-clause-only : goal.returns-in-Ok-clause-only
returns-in-Ok-clause-only c = λ front rest p spells parts.
    let whole = c.as_slice-bytes.ensures ∙ ap (λ x. x.unread) c.self.view_is ∙ parts in
    ap (λ n. take n c.as_slice-bytes.result.now) (c.in-Ok.ensures.only front rest p spells whole) ∙ is_cut c.as_slice-bytes.result.now front rest whole

pub returns-in-More-clause-only : goal.returns-in-More-clause-only
returns-in-More-clause-only c = λ front rest p spells parts.
    let whole = c.as_slice-bytes.ensures ∙ ap (λ x. x.unread) c.self.view_is ∙ parts in
    more_is_no_want c.in-Err.fault c.in-More.is (c.in-Err.ensures.only front rest p spells whole)

pub returns-in_default : goal.returns-in_default
returns-in_default c =
    let same = c.as_slice-bytes.ensures ∙ ap (λ x. x.unread) c.self.view_is in
    record {
      lent = tt;
      only = λ front rest p spells parts. tt;
      only_fault = λ front rest p spells parts. c.in-Err.ensures.only front rest p spells (same ∙ parts);
      refused = (subst (λ b. IsNamed c.in-Err.fault (first_of (refusals b))) same c.in-Err.ensures.refused, c.in_default.not-More);
      memory = subst (λ b. is_of_bytes c.in-Err.fault ≡ false → IsTrue (keeps b)) same c.in-Err.ensures.memory;
    }
