-- The bytes of a broker's journal (own rules): what it kept when the journal began, and behind that what was noted of the events since.
use Rattle.std.specs.Prelude.{ℕ, List, ◌++◌}
use Rattle.std.specs.List.{AllByRecursion}
use Rattle.spk_broker_rules.specs.Data.{Broker}
use Rattle.spk_broker_rules.specs.Plan.{Event}
use Rattle.spk_broker_replay.specs.Replay.{journal, restored}
use Rattle.spk_broker_events.specs.Line.{Kept, SaysLine, line_content}
use Rattle.spk_broker_events.specs.Record.{Says, content}
use Rattle.spk_broker_snapshot.specs.Lines.{lines}
use Rattle.spk_broker_notes.specs.Noted as note
use Rattle.spk_broker_journal.specs.Adding as line

-- what was noted of these events, where the replay begins with what the broker kept
abbrev pub noted : ℕ → Broker → List Event → List Event
noted limit b es = journal b (restored limit b) es

abbrev pub written : ℕ → Broker → List Event → List ℕ
written limit b es = line.records (lines b) ++ note.records (noted limit b es)

-- each content says what it is of, as whatever `append_line`, `append` and `append_packet` put
pub record IsWritten (limit : ℕ) (b : Broker) (es : List Event) : Type 0 where
  pub of_lines : AllByRecursion (λ (l : Kept). SaysLine (line_content l) l) (lines b)
  pub of_notes : AllByRecursion (λ (e : Event). Says (content e) e) (noted limit b es)
