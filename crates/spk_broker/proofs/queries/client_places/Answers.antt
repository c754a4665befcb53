use Rattle.std.proofs.Common.{◌∙◌, sym}
use Rattle.spk_broker.proofs.Asked.{none-away, none-joined}
use Rattle.spk_broker.proofs.queries.client_places.Goals as goal

pub returns-then-not-has_one-clause-joined : goal.returns-then-not-has_one-clause-joined
returns-then-not-has_one-clause-joined c = none-joined c.args.client.now c.args.sessions.now (sym c.has_one.ensures ∙ c.if-not-has_one.true)

pub returns-then-not-has_one-clause-away : goal.returns-then-not-has_one-clause-away
returns-then-not-has_one-clause-away c = none-away c.args.client.now c.args.sessions.now (sym c.has_one.ensures ∙ c.if-not-has_one.true)
