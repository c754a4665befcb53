-- The data of an edge node, of which the contracts of its calls speak, and its steps: the bytes that come next count on.
use Rattle.std.specs.Prelude.{ℕ, ◌+◌, ◌%◌, Bool, true, false, List, [], ◌∷◌, ◌++◌, Option, Some, None, Result, Ok, Err, map, if◌then◌else◌}
use Rattle.std.specs.List.{last_or}
use Rattle.spk_packets.specs.Message.{Message}
use Rattle.spk_device.specs.Book.{Book}
use Rattle.spk_device.specs.Step.{with_value, with_turn}
use Rattle.spk_sequence.specs.NodeRecord.{Numbering, RunsOn, Restarts}
use Rattle.spk_store.specs.Data.{Kept}
use Rattle.spk_store.specs.Step.{empty_store}
use Rattle.spk_store.specs.Calls.{Call, after_call}
use Rattle.spk_state.specs.Step.{after_heard}
use Rattle.spk_state.specs.Text.{state_at}
use Rattle.spk_state.specs.declared.state.State as read
use Rattle.spk_edge_rules.specs.declared.fault.EdgeFault.{EdgeFault}
use Rattle.spk_edge_rules.specs.declared.phase.Phase.TheVariants.{Idle}
use Rattle.spk_edge_rules.specs.Answers.{Answer, checked}
use Rattle.spk_edge_rules.specs.Config.{Config, Setup}
use Rattle.spk_edge_rules.specs.Inputs.{Act, Open, Change, Changes, Turn, State, Input, ChangeData}
use Rattle.spk_edge_rules.specs.Messages.{Draft, opens, wire}
use Rattle.spk_edge_rules.specs.Rules.{Asked, Given, on_ok, rules, with_values}

-- what the rules look at, and the sequence number that comes next
pub record Standing : Type 0 where
  pub asked : Asked
  pub seq : ℕ

-- ---- numbers

-- an NBIRTH of a node whose numbering restarts has number 0
abbrev pub begins_anew : Numbering → Draft → Bool
begins_anew RunsOn d = false
begins_anew Restarts d = opens d

-- the sequence number that a message gets, where `seq` comes next
abbrev pub number_of : Config → ℕ → Draft → ℕ
number_of c seq d = if begins_anew c.numbering d then 0 else seq

-- the number after a message: 0 follows 255
abbrev pub next_of : Config → ℕ → Draft → ℕ
next_of c seq d = (number_of c seq d + 1) % 256

-- the packets of messages, each under the number that comes next by then
abbrev pub wires : Config → ℕ → List Draft → List Message
wires c seq [] = []
wires c seq (d ∷ ds) = wire c (number_of c seq d) d ∷ wires c (next_of c seq d) ds

-- the number that comes next behind these messages
abbrev pub seq_after : Config → ℕ → List Draft → ℕ
seq_after c seq [] = seq
seq_after c seq (d ∷ ds) = seq_after c (next_of c seq d) ds

-- ---- the data after an input

-- the registry behind an act
abbrev pub book_after : Book → Act → Book
book_after b (Change alias value) = with_value b alias value
book_after b (Changes changes) = with_values b changes
book_after b (Turn name up) = with_turn b name up
book_after b _ = b

-- the kept changes behind what is done to them
abbrev pub store_after : Kept ChangeData → Option (Call ChangeData) → Kept ChangeData
store_after s None = s
store_after s (Some call) = after_call s call

-- the greatest timestamp heard of the primary host, behind one more STATE
abbrev pub heard_by : Option (List ℕ) → Option ℕ → Option read.State → Option ℕ
heard_by None heard s = heard
heard_by (Some host) heard None = heard
heard_by (Some host) heard (Some s) = after_heard heard s

-- the same, behind an act
abbrev pub heard_after : Config → Option ℕ → Act → Option ℕ
heard_after c heard (State payload) = heard_by c.primary heard (state_at payload)
heard_after c heard _ = heard

-- it opens a session
abbrev pub is_open : Act → Bool
is_open Open = true
is_open _ = false

-- the stamp of the last message
abbrev pub stamp_after : Option ℕ → List Draft → Option ℕ
stamp_after stamp drafts = last_or stamp (map (λ d. d.stamp) drafts)

-- what the rules look at, behind an input that was taken
abbrev pub asked_after : Config → Asked → Input → Given → Asked
asked_after c a i g = record {
  phase = g.phase;
  book = book_after a.book i.act;
  store = store_after a.store g.store;
  heard = heard_after c a.heard i.act;
  stamp = stamp_after a.stamp g.drafts;
  bd = if is_open i.act then (a.bd + 1) % 256 else a.bd;
  will_bd = if is_open i.act then a.bd else a.will_bd;
  will_time = if is_open i.act then i.now else a.will_time;
}

-- the data behind an input that was taken
abbrev pub stepped : Config → Standing → Input → Given → Standing
stepped c st i g = record { asked = asked_after c st.asked i g; seq = seq_after c st.seq g.drafts }

-- ---- answers

-- the answer to an input, or its refusal
abbrev pub answer_at : Config → Standing → Input → Result Answer EdgeFault
answer_at c st i = on_ok (rules c st.seq st.asked i) (λ g. checked g (g.plain ++ wires c st.seq g.drafts))

-- a refused input leaves the data as they were
abbrev pub after_answer : Config → Standing → Input → Result Answer EdgeFault → Standing
after_answer c st i (Ok answer) = stepped c st i answer.given
after_answer c st i (Err fault) = st

-- the data behind an input
abbrev pub after : Config → Standing → Input → Standing
after c st i = after_answer c st i (answer_at c st i)

-- ---- what a node that runs after this one goes on with

-- What is kept on disk of a node: the number that comes next, the bdSeq that comes next, and the last stamp.
pub record Record : Type 0 where
  pub seq : ℕ
  pub bd : ℕ
  pub stamp : Option ℕ

-- a numbering that restarts has no number to go on with
abbrev pub seq_kept : Numbering → ℕ → ℕ
seq_kept RunsOn seq = seq
seq_kept Restarts seq = 0

-- what a node with these data leaves to the one after it
abbrev pub record_at : Config → Standing → Record
record_at c st = record { seq = seq_kept c.numbering st.seq; bd = st.asked.bd; stamp = st.asked.stamp }

-- ---- over a list of inputs, newest first

-- the data of a node that was just made
abbrev pub fresh_standing : Setup → Standing
fresh_standing s = record {
  asked = record {
    phase = Idle;
    book = s.book;
    store = empty_store s.capacity;
    heard = None;
    stamp = s.stamp;
    bd = s.bd % 256;
    will_bd = s.bd % 256;
    will_time = 0;
  };
  seq = s.seq % 256;
}

-- the data behind a list of inputs
abbrev pub standing_of : Setup → List Input → Standing
standing_of s [] = fresh_standing s
standing_of s (i ∷ is) = after s.config (standing_of s is) i
