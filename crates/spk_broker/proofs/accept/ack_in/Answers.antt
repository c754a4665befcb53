use Rattle.std.proofs.Common.{◌∙◌, subst, sym, set}
use Rattle.spk_broker_rules.specs.Step.{sits}
use Rattle.spk_broker.specs.Both.{Both}
use Rattle.spk_broker.specs.Changes.{IsChanged}
use Rattle.spk_broker.specs.Entering.{acked}
use Rattle.spk_broker.proofs.Changes.{change-found, change-lost, whole-at}
use Rattle.spk_broker.proofs.Alive.{place-find}
use Rattle.spk_broker.proofs.accept.ack_in.Goals as goal

pub acked-requires : goal.acked-requires
acked-requires c =
    whole-at c.args.sessions.now c.in-Some.place c.index-sessions-place.result c.requires.settled
    (place-find _ c.args.sessions.now c.in-Some.place c.index-sessions-place.result (sym c.place_near.ensures ∙ c.in-Some.is)).0

pub returns-in-Some : goal.returns-in-Some
returns-in-Some c =
    subst (λ (b : Both). IsChanged c.args.sessions.now (set c.args.sessions.now c.in-Some.place b) (sits c.args.conn) (acked c.args.id)) (sym c.acked.ensures)
    (change-found (sits c.args.conn) (acked c.args.id) c.args.sessions.now c.in-Some.place c.index-sessions-place.result c.requires.settled
    (sym c.place_near.ensures ∙ c.in-Some.is))

pub returns-in-None : goal.returns-in-None
returns-in-None c = change-lost (sits c.args.conn) (acked c.args.id) c.args.sessions.now c.requires.settled (sym c.place_near.ensures ∙ c.in-None.is)
