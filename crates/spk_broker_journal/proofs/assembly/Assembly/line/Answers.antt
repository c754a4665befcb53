use Rattle.std.proofs.Common.{◌≡◌, IfErr, IfOk, subst, sym}
use Rattle.spk_broker_events.specs.Line.{kept}
use Rattle.spk_broker_snapshot.specs.Together.{after_kind}
use Rattle.spk_broker_journal.specs.Assembled.{stand}
use Rattle.spk_broker_journal.specs.Fitting.{IsUnfit, is_kind_fit}
use Rattle.spk_broker_journal.proofs.assembly.Assembly.line.Goals as goal

pub returns-in-Numbers-clause-done : goal.returns-in-Numbers-clause-done
returns-in-Numbers-clause-done c =
    subst (λ k. IfOk c.numbers.result (λ a. stand a ≡ after_kind c.args.limit (stand c.args.self) (kept c.args.line) k)) (sym c.in-Numbers.is) c.numbers.ensures.done

pub returns-in-Numbers-clause-refused : goal.returns-in-Numbers-clause-refused
returns-in-Numbers-clause-refused c =
    subst (λ k. IfErr c.numbers.result (IsUnfit (is_kind_fit (stand c.args.self) (kept c.args.line) k))) (sym c.in-Numbers.is) c.numbers.ensures.refused
