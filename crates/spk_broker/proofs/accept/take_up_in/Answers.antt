use Rattle.std.proofs.Common.{◌∙◌, subst, sym, set}
use Rattle.spk_broker_rules.specs.Step.{is_away}
use Rattle.spk_broker.specs.Both.{Both}
use Rattle.spk_broker.specs.Changes.{IsChanged}
use Rattle.spk_broker.specs.Entering.{taken_up}
use Rattle.spk_broker.specs.Parts.{connection_now}
use Rattle.spk_broker.proofs.Changes.{change-found, change-lost, whole-at}
use Rattle.spk_broker.proofs.Alive.{place-find}
use Rattle.spk_broker.proofs.accept.take_up_in.Goals as goal

pub take_up-requires-clause-settled : goal.take_up-requires-clause-settled
take_up-requires-clause-settled c =
    whole-at c.args.sessions.now c.in-Some.place c.index-sessions-place.result c.requires.settled
    (place-find _ c.args.sessions.now c.in-Some.place c.index-sessions-place.result (sym c.away_place.ensures ∙ c.in-Some.is)).0

pub returns-in-Some : goal.returns-in-Some
returns-in-Some c =
    subst (λ (b : Both). IsChanged c.args.sessions.now (set c.args.sessions.now c.in-Some.place b) (is_away c.args.client.now) (taken_up (connection_now c.args.connection))) (sym c.take_up.ensures)
    (change-found (is_away c.args.client.now) (taken_up (connection_now c.args.connection)) c.args.sessions.now c.in-Some.place c.index-sessions-place.result c.requires.settled
    (sym c.away_place.ensures ∙ c.in-Some.is))

pub returns-in-None : goal.returns-in-None
returns-in-None c = change-lost (is_away c.args.client.now) (taken_up (connection_now c.args.connection)) c.args.sessions.now c.requires.settled (sym c.away_place.ensures ∙ c.in-None.is)
