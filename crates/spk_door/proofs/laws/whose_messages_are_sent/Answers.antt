use Rattle.std.proofs.Common.{◌≡◌, ◌∷◌, Some, true}
use Rattle.std.specs.Prelude.{is_some}
use Rattle.spk_topics.specs.Spark.{named_at}
use Rattle.spk_topics.specs.Spark.Named.{of_node, of_device, of_state}
use Rattle.spk_topics.specs.declared.spark.Verb.TheVariants.{Command}
use Rattle.spk_broker_rules.specs.Origins.{WasSaid}
use Rattle.spk_broker_rules.specs.Step.{after, step}
use Rattle.spk_door.specs.Broker.{WasSaidBy}
use Rattle.spk_door.proofs.Saying.{more-sent, was-said-by}
use Rattle.spk_door.proofs.laws.whose_messages_are_sent.Goals as goal

pub returns-clause-node : goal.returns-clause-node
returns-clause-node c rights limit es e group node kind let_all plain =
    more-sent (WasSaid (e ∷ es)) (λ topic payload. named_at topic ≡ Some (of_node group kind node) → WasSaidBy (λ conn. (rights conn).node ≡ Some (record { group = group; node = node })) (e ∷ es) topic payload)
    (λ topic payload said is. was-said-by rights (λ conn. (rights conn).node ≡ Some (record { group = group; node = node })) topic payload (λ conn may. c.guarding.ensures.node (rights conn) topic group node kind is plain may) (e ∷ es) let_all said)
    (step (after limit es) e).sends (c.origins.ensures limit es e)

pub returns-clause-device : goal.returns-clause-device
returns-clause-device c rights limit es e group node device kind let_all plain =
    more-sent (WasSaid (e ∷ es)) (λ topic payload. named_at topic ≡ Some (of_device group kind node device) → WasSaidBy (λ conn. (rights conn).node ≡ Some (record { group = group; node = node })) (e ∷ es) topic payload)
    (λ topic payload said is. was-said-by rights (λ conn. (rights conn).node ≡ Some (record { group = group; node = node })) topic payload (λ conn may. c.guarding.ensures.device (rights conn) topic group node device kind is plain may) (e ∷ es) let_all said)
    (step (after limit es) e).sends (c.origins.ensures limit es e)

pub returns-clause-state : goal.returns-clause-state
returns-clause-state c rights limit es e host let_all =
    more-sent (WasSaid (e ∷ es)) (λ topic payload. named_at topic ≡ Some (of_state host) → WasSaidBy (λ conn. (rights conn).host ≡ Some host) (e ∷ es) topic payload)
    (λ topic payload said is. was-said-by rights (λ conn. (rights conn).host ≡ Some host) topic payload (λ conn may. c.guarding.ensures.state (rights conn) topic host is may) (e ∷ es) let_all said)
    (step (after limit es) e).sends (c.origins.ensures limit es e)

pub returns-clause-command : goal.returns-clause-command
returns-clause-command c rights limit es e group node let_all =
    more-sent (WasSaid (e ∷ es)) (λ topic payload. named_at topic ≡ Some (of_node group Command node) → WasSaidBy (λ conn. is_some (rights conn).host ≡ true) (e ∷ es) topic payload)
    (λ topic payload said is. was-said-by rights (λ conn. is_some (rights conn).host ≡ true) topic payload (λ conn may. c.guarding.ensures.command (rights conn) topic group node is may) (e ∷ es) let_all said)
    (step (after limit es) e).sends (c.origins.ensures limit es e)

pub returns-clause-command_device : goal.returns-clause-command_device
returns-clause-command_device c rights limit es e group node device let_all =
    more-sent (WasSaid (e ∷ es)) (λ topic payload. named_at topic ≡ Some (of_device group Command node device) → WasSaidBy (λ conn. is_some (rights conn).host ≡ true) (e ∷ es) topic payload)
    (λ topic payload said is. was-said-by rights (λ conn. is_some (rights conn).host ≡ true) topic payload (λ conn may. c.guarding.ensures.command_device (rights conn) topic group node device is may) (e ∷ es) let_all said)
    (step (after limit es) e).sends (c.origins.ensures limit es e)
