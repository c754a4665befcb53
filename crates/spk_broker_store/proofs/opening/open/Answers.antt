use Rattle.std.proofs.Common.{◌∙◌, ap, subst}
use Rattle.spk_broker_snapshot.specs.Lines.{lines}
use Rattle.spk_broker_notes.specs.Noted.{Noted, begun}
use Rattle.spk_broker_journal.specs.Adding.{first_refusal}
use Rattle.spk_broker_store.specs.Fault.{IsNotBegun}
use Rattle.spk_broker_store.proofs.Refused.{not-begun}
use Rattle.spk_broker_store.proofs.opening.open.Goals as goal

pub returns-in-Err-clause-refused : goal.returns-in-Err-clause-refused
returns-in-Err-clause-refused g c =
    let kept = c.in_ok-broker.ensures.kept in
    let same = c.broker-2.ensures ∙ ap (λ (x : Noted). x.broker) (c.begin.ensures ∙ ap begun c.of-broker.ensures) in
    not-begun kept.0 c.in_ok-broker.field-0.broker c.in_ok-broker.field-0.cut c.in-Err.fault kept.1
    (subst (λ b. IsNotBegun (first_refusal (lines b)) c.in-Err.fault) same c.in-Err.ensures.refused)
