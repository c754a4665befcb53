-- The draft of an answer, and what it stands for.
use Rattle.std.specs.Prelude.{ℕ, List, [], ◌++◌, map, Option, Some, None, if◌then◌else◌}
use Rattle.spk_session.specs.PacketIds.{next_id}
use Rattle.spk_session.specs.Step.{has_room}
use Rattle.spk_broker_rules.specs.Data as plain
use Rattle.spk_broker_rules.specs.Step.{Served, bursts, numbered}
use Rattle.spk_broker.specs.declared.out.Draft.{Draft}
use Rattle.spk_broker.specs.Parts.{app_message_view}
use Rattle.spk_broker.specs.Sent.{Sent, sent_view, outgoing}

-- What is sent and closed so far, the messages that wait, and those that are to be retained.
pub record Drafted : Type 0 where
  pub sends : List Sent
  pub closes : List ℕ
  pub waiting : List plain.AppMessage
  pub keeps : List plain.AppMessage

abbrev pub draft_view : Draft → Drafted
draft_view d = record {
  sends = map sent_view d.sends.items;
  closes = d.closes.items;
  waiting = map app_message_view d.waiting.items;
  keeps = map app_message_view d.keeps.items;
}

abbrev pub empty_draft : Drafted
empty_draft = record { sends = []; closes = []; waiting = []; keeps = [] }

-- what a message does to a session, put behind what was there
abbrev pub with_served : Served → Drafted → Drafted
with_served x d = record d { sends = d.sends ++ map outgoing x.sends; closes = d.closes ++ x.closes; waiting = d.waiting ++ x.wills }

abbrev pub served_by : (plain.Session → Served) → Option plain.Session → Drafted → Drafted
served_by f None d = d
served_by f (Some s) d = with_served (f s) d

-- who is left of a session
abbrev pub left_by : (plain.Session → Served) → Option plain.Session → List plain.Session
left_by f None = []
left_by f (Some s) = (f s).left

-- a message of QoS 1 for a session
abbrev pub hand_some : plain.AppMessage → plain.Session → Served
hand_some app_message session = if has_room session.used then numbered session app_message (next_id session.used session.last) else bursts session
