use Rattle.std.proofs.Common.{◌∙◌, ap, sym, set}
use Rattle.std.proofs.lemmas.List.Quantifiers.{position-Some}
use Rattle.spk_broker_rules.specs.Step.{is_away}
use Rattle.spk_broker.specs.Asking.{passes, sessions_now}
use Rattle.spk_broker.specs.Both.{Both}
use Rattle.spk_broker.proofs.Changes.{end-found, end-lost}
use Rattle.spk_broker.proofs.Rounds.{was-step}
use Rattle.spk_broker.proofs.accept.end_away.Goals as goal

pub returns-in-Some-clause-now : goal.returns-in-Some-clause-now
returns-in-Some-clause-now c =
    λ low top r. ap (λ (b : Both). sessions_now (set c.args.sessions.now c.in-Some.place b)) c.end.ensures
    ∙ end-found (is_away c.args.client.now) c.args.sessions.now c.in-Some.place c.index-sessions-place.result low top (sym c.requires ∙ c.in-Some.is)
    (position-Some (passes (is_away c.args.client.now)) c.args.sessions.now c.in-Some.place c.index-sessions-place.result (sym c.requires ∙ c.in-Some.is)).1 r

pub returns-in-Some-clause-was : goal.returns-in-Some-clause-was
returns-in-Some-clause-was c =
    was-step c.args.sessions.now c.in-Some.place c.index-sessions-place.result c.index-sessions-place.result c.end.new.self c.index-sessions-place.is
    (ap (λ (b : Both). b.was) c.end.ensures ∙ ap (λ (b : Both). b.was) (sym c.index-sessions-place.is))

pub returns-in-None-clause-now : goal.returns-in-None-clause-now
returns-in-None-clause-now c = λ low top r. end-lost (is_away c.args.client.now) c.args.sessions.now (sym c.requires ∙ c.in-None.is)
