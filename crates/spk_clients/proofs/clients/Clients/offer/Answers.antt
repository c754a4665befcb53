use Rattle.std.proofs.Common.{ℕ, List, Contains, sym, subst, arith}
use Rattle.std.proofs.lemmas.List.Elements.{Contains-push}
use Rattle.spk_clients.specs.Data.{client_at}
use Rattle.spk_clients.specs.declared.clients.Clients.{Clients}
use Rattle.spk_clients.proofs.Noted.{contains_before, noted_kept, refused_keeps}
use Rattle.spk_clients.proofs.clients.Clients.offer.Goals as goal

pub returns-in_ok-push_back-in-Refused-clause-noted :
    goal.returns-in_ok-push_back-in-Refused-clause-noted
returns-in_ok-push_back-in-Refused-clause-noted c noted =
    let new : Clients = record c.args.self.now { table = c.offer_at-answer.new.table; untold = c.push_back-then-not-answer-2.new.self } in
    let is = c.in_ok-push_back-in-Refused.ensures.items in
    noted_kept c.args.self.now new c.args.conn c.offer_at-answer.ensures.others
    (refused_keeps new c.args.conn c.args.sort c.args.bytes (client_at c.args.self.now c.args.conn) (client_at new c.args.conn) c.offer_at-answer.result.offered c.in-Refused.is c.offer_at-answer.ensures.here
    (subst (λ (xs : List ℕ). Contains xs c.args.conn) (sym is) (Contains-push c.args.self.now.untold.items c.args.conn)))
    (λ k h. subst (λ (xs : List ℕ). Contains xs k) (sym is) (contains_before c.args.self.now.untold.items c.args.conn k h)) (omega arith) (λ k h. h) noted
