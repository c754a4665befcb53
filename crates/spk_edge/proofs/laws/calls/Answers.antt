use Rattle.std.proofs.Common.{◌≡◌, ◌∙◌, ap, ◌+◌, arith, List, option_map, slice_get}
use Rattle.spk_edge_rules.specs.Config.{Setup}
use Rattle.spk_edge_rules.specs.Run.{published, run_of}
use Rattle.spk_edge.specs.Along.{message_at}
use Rattle.spk_edge.specs.Calls.{inputs_by, messages_out}
use Rattle.spk_edge.specs.View.{MessageData}
use Rattle.spk_edge.proofs.Called.{Known, bytes-called, data-are, done-are, messages-called, whole-called}
use Rattle.spk_edge.proofs.Once.{numbered-once}
use Rattle.spk_edge.proofs.laws.calls.Goals as goal

known : goal.After-records → (s : Setup) → Known s
known c s = record {
  planned = c.along.ensures.planned s;
  done = c.along.ensures.done s;
  none_whole = c.along.ensures.none_whole s;
  whole = c.along.ensures.whole s;
  done_whole = c.along.ensures.done_whole s;
  cut = c.along.ensures.cut s;
}

pub returns-clause-done : goal.returns-clause-done
returns-clause-done c = λ s. done-are s (known c s)

pub returns-clause-data : goal.returns-clause-data
returns-clause-data c = λ s. data-are s (known c s)

pub returns-clause-bytes : goal.returns-clause-bytes
returns-clause-bytes c = λ s. bytes-called s (known c s)

pub returns-clause-messages : goal.returns-clause-messages
returns-clause-messages c = λ s. messages-called s c.records.ensures.same_number (known c s)

pub returns-clause-once : goal.returns-clause-once
returns-clause-once c = λ s calls n called taken.
    let messages = published (run_of s (inputs_by calls)) in
    numbered-once s messages (messages_out calls) c.records.ensures.start_below (c.any_list.ensures.openings s (inputs_by calls)) (λ k.
    let e : 0 + k ≡ k = omega arith in
    ap (λ (ms : List MessageData). slice_get ms k) (messages-called s c.records.ensures.same_number (known c s) calls n called taken)
    ∙ c.positions.ensures.at s messages 0 k ∙ ap (λ p. option_map (message_at s messages p) (slice_get messages p)) e)

pub returns-clause-whole : goal.returns-clause-whole
returns-clause-whole c = λ s. whole-called s (known c s)
