use Rattle.std.proofs.Common.{sym, ap, ◌∙◌}
use Rattle.spk_broker.specs.Tables.{found, last_of}
use Rattle.spk_broker.proofs.Filtering.{renewed-is}
use Rattle.spk_broker.proofs.session.Grant.renew.Goals as goal

pub returns-in-Some : goal.returns-in-Some
returns-in-Some c =
    renewed-is (found c.args.standing.now) c.in-Some.qos c.args.self.now _
    (ap (λ n. last_of (found c.args.standing.now n)) (sym c.as_str.ensures.value) ∙ sym c.last.ensures ∙ c.in-Some.is)
