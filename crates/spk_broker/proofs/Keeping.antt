-- What holds of the key and the grants of each session goes on holding where a message is served, and where a connection is heard.
use Rattle.std.proofs.Common.{ℕ, zero, suc, Bool, true, false, cond, List, map, Option, Some, None}
use Rattle.std.specs.Option.{option_map}
use Rattle.std.specs.List.{flat_map}
use Rattle.spk_session.specs.PacketIds.{next_id}
use Rattle.spk_session.specs.Step.{has_room}
use Rattle.spk_broker_rules.specs.Data.{AppMessage, Connection, Session}
use Rattle.spk_broker_rules.specs.Words.{best, level, sent_as}
use Rattle.spk_broker_rules.specs.Step.{hand_at, serve, serve_at, numbered, bursts}
use Rattle.spk_broker_rules.specs.Table.{Table}
use Rattle.spk_broker_rules.proofs.Lists.{all-mapped, all-flat}
use Rattle.spk_broker.specs.Filing.{AllOf}

-- ---- one message

handed : (Q : ℕ → Table ℕ → Type 0) (q : ℕ) (app_message : AppMessage) (s : Session) → Q s.key s.grants → AllOf Q (hand_at q app_message s).left
handed Q zero app_message s h = (h, tt)
handed Q (suc q) app_message s h = by (has_room s.used)
  where
    by : (b : Bool) → AllOf Q (cond b (numbered s app_message (next_id s.used s.last)) (bursts s)).left
    by true = (h, tt)
    by false = tt

served : (Q : ℕ → Table ℕ → Type 0) (m : AppMessage) (s : Session) → Q s.key s.grants → AllOf Q (serve m s).left
served Q m s h = by (level m.qos (best m.topic s.grants))
  where
    by : (o : Option ℕ) → AllOf Q (serve_at o m s).left
    by None = (h, tt)
    by (Some q) = handed Q q (sent_as m q false) s h

pub kept-round : (Q : ℕ → Table ℕ → Type 0) (m : AppMessage) (ss : List Session) → AllOf Q ss → AllOf Q (flat_map (λ (s : Session). (serve m s).left) ss)
kept-round Q m ss h = all-flat (λ (s : Session). Q s.key s.grants) (λ (s : Session). Q s.key s.grants) (λ (s : Session). (serve m s).left) (served Q m) ss h

-- ---- what comes of a connection

pub kept-connections : (Q : ℕ → Table ℕ → Type 0) (on_connection : Connection → Connection) (ss : List Session) → AllOf Q ss → AllOf Q (map (λ (s : Session). record s { here = option_map on_connection s.here }) ss)
kept-connections Q on_connection ss l = all-mapped (λ (s : Session). Q s.key s.grants) (λ (s : Session). record s { here = option_map on_connection s.here }) ss l
