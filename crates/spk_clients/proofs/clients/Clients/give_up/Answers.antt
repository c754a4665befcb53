use Rattle.std.proofs.Common.{◌≡◌, ◌∙◌, List, ℕ, Contains, sym, subst, arith}
use Rattle.spk_clients.specs.Data.{client_at}
use Rattle.spk_clients.proofs.Noted.{given_up_keeps, noted_kept}
use Rattle.spk_clients.proofs.clients.Clients.give_up.Goals as goal

pub returns-in_err-name-clause-noted : goal.returns-in_err-name-clause-noted
returns-in_err-name-clause-noted c noted =
    let soon : c.name.new.self.soonest ≡ c.args.self.now.soonest = c.name.ensures.soonest in
    noted_kept c.args.self.now c.name.new.self c.args.conn (λ k ne. c.name.ensures.stay k ∙ c.give_up_at.ensures.others k ne)
    (given_up_keeps c.name.new.self c.args.conn (client_at c.args.self.now c.args.conn) (client_at c.name.new.self c.args.conn)
    (c.name.ensures.stay c.args.conn ∙ c.give_up_at.ensures.here) c.name.ensures.here)
    (λ k h. subst (λ (xs : List ℕ). Contains xs k) (sym c.name.ensures.untold) h) (omega (arith, soon)) c.name.ensures.others noted

pub returns-in_ok-name-clause-noted : goal.returns-in_ok-name-clause-noted
returns-in_ok-name-clause-noted c noted =
    let soon : c.name.new.self.soonest ≡ c.args.self.now.soonest = c.name.ensures.soonest in
    noted_kept c.args.self.now c.name.new.self c.args.conn (λ k ne. c.name.ensures.stay k ∙ c.give_up_at.ensures.others k ne)
    (given_up_keeps c.name.new.self c.args.conn (client_at c.args.self.now c.args.conn) (client_at c.name.new.self c.args.conn)
    (c.name.ensures.stay c.args.conn ∙ c.give_up_at.ensures.here) c.name.ensures.here)
    (λ k h. subst (λ (xs : List ℕ). Contains xs k) (sym c.name.ensures.untold) h) (omega (arith, soon)) c.name.ensures.others noted
