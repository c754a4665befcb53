use Rattle.std.proofs.Common.{◌∙◌, sym, ap}
use Rattle.std.specs.Option.{option_and_then}
use Rattle.spk_broker_rules.specs.Step.{conn_at}
use Rattle.spk_broker.specs.Both.{Both}
use Rattle.spk_broker.proofs.Asked.{older-found, older-lost}
use Rattle.spk_broker.proofs.queries.older.Goals as goal

pub returns-in-Some : goal.returns-in-Some
returns-in-Some c = c.conn.ensures ∙ ap (λ (b : Both). option_and_then conn_at b.now) c.index-sessions-place.is
    ∙ sym (older-found c.args.client.now c.args.sessions.now c.in-Some.place c.index-sessions-place.result (sym c.is_empty.ensures ∙ c.if-is_empty.false) (sym c.requires ∙ c.in-Some.is))

pub returns-in-None : goal.returns-in-None
returns-in-None c = sym (older-lost c.args.client.now c.args.sessions.now (sym c.is_empty.ensures ∙ c.if-is_empty.false) (sym c.requires ∙ c.in-None.is))
