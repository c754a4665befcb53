use Rattle.std.proofs.Common.{◌≡◌, ◌∙◌, sym, subst, arith}
use Rattle.std.proofs.Common.{List, ℕ, Contains}
use Rattle.spk_clients.specs.Data.{client_at}
use Rattle.spk_clients.proofs.Noted.{leaves_keeps, noted_kept}
use Rattle.spk_clients.proofs.clients.Clients.end.Goals as goal

pub returns-in_err-name-clause-noted : goal.returns-in_err-name-clause-noted
returns-in_err-name-clause-noted c noted =
    let soon : c.name.new.self.soonest ≡ c.min-self.result = c.name.ensures.soonest in
    let is = c.min-self.ensures in
    noted_kept c.args.self.now c.name.new.self c.args.conn (λ k ne. c.name.ensures.stay k ∙ c.end_at.ensures.others k ne)
    (leaves_keeps c.name.new.self c.args.conn c.args.until c.args.cause (client_at c.args.self.now c.args.conn) (client_at c.name.new.self c.args.conn)
    (c.name.ensures.stay c.args.conn ∙ c.end_at.ensures.here) (omega (arith, soon, is)) c.name.ensures.here)
    (λ k h. subst (λ (xs : List ℕ). Contains xs k) (sym c.name.ensures.untold) h) (omega (arith, soon, is)) c.name.ensures.others noted

pub returns-in_ok-name-clause-noted : goal.returns-in_ok-name-clause-noted
returns-in_ok-name-clause-noted c noted =
    let soon : c.name.new.self.soonest ≡ c.min-self.result = c.name.ensures.soonest in
    let is = c.min-self.ensures in
    noted_kept c.args.self.now c.name.new.self c.args.conn (λ k ne. c.name.ensures.stay k ∙ c.end_at.ensures.others k ne)
    (leaves_keeps c.name.new.self c.args.conn c.args.until c.args.cause (client_at c.args.self.now c.args.conn) (client_at c.name.new.self c.args.conn)
    (c.name.ensures.stay c.args.conn ∙ c.end_at.ensures.here) (omega (arith, soon, is)) c.name.ensures.here)
    (λ k h. subst (λ (xs : List ℕ). Contains xs k) (sym c.name.ensures.untold) h) (omega (arith, soon, is)) c.name.ensures.others noted
