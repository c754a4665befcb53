-- A message, or a packet that is heard, changes no grants.
use Rattle.std.proofs.Common.{ℕ, List, Option, Some, None}
use Rattle.std.specs.List.{flat_map}
use Rattle.spk_broker_rules.specs.Data.{AppMessage, Session}
use Rattle.spk_broker_rules.specs.Plan.{Hear}
use Rattle.spk_broker_rules.specs.Step.{Turn, act, connection_heard, serve}
use Rattle.spk_topics.specs.Grants.{Grants}
use Rattle.spk_broker.specs.Filing.{IsFiled, IsIndex}
use Rattle.spk_broker.proofs.Keeping.{kept-connections, kept-round}

pub kept-index : (index : Option Grants) (m : AppMessage) (ss : List Session) → IsIndex index ss → IsIndex index (flat_map (λ (s : Session). (serve m s).left) ss)
kept-index None m ss h = tt
kept-index (Some index) m ss h = kept-round (IsFiled index) m ss h

pub heard-index : (index : Option Grants) (conn : ℕ) (t : Turn) → IsIndex index t.broker.sessions → IsIndex index (act (Hear conn) t).broker.sessions
heard-index None conn t h = tt
heard-index (Some index) conn t h = kept-connections (IsFiled index) (connection_heard conn t.broker.clock) t.broker.sessions h
