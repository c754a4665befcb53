-- What a plan says, and what it changes.
use Rattle.std.specs.Prelude.{◌≡◌, ◌⊎◌, ℕ, ◌+◌, ◌%◌, ◌^◌, ◌==◌, min, length, Bool, true, false, ◌&&◌, nat_le, List, ◌∷◌, ◌++◌, map, nat_lt, Option, Some, None, is_none, Ok, Err, if◌then◌else◌}
use Rattle.std.specs.List.{last_or, list_all}
use Rattle.std.specs.Option.{option_map, option_map_or}
use Rattle.std.specs.String.{string_bytes}
use Rattle.spk_payload.specs.Typing.{typed_view}
use Rattle.spk_packets.specs.Message as packets
use Rattle.spk_packets.specs.Spelling.{spelling}
use Rattle.spk_device.specs.Book.{Book}
use Rattle.spk_device.specs.Calls.{unless_refused}
use Rattle.spk_device.specs.Step.{set_refusal, turn_refusal, with_turn, with_value}
use Rattle.spk_device.specs.declared.fault.Refusal.{Refusal}
use Rattle.spk_store.specs.Data.{Kept}
use Rattle.spk_store.specs.Step.{after_drop, after_push}
use Rattle.spk_edge_rules.specs.declared.fault.EdgeFault.{EdgeFault}
use Rattle.spk_edge_rules.specs.declared.fault.EdgeFault.TheVariants.{NoMemory, ClockEnd, TooLarge}
use Rattle.spk_topics.specs.Spark.{is_name}
use Rattle.spk_edge_rules.specs.declared.phase.Phase.{Phase}
use Rattle.spk_edge_rules.specs.declared.phase.Phase.TheVariants.{Idle}
use Rattle.spk_edge_rules.specs.Config.{Config, Setup}
use Rattle.spk_edge_rules.specs.Answers.{Answer}
use Rattle.spk_edge_rules.specs.Writable.{is_writable}
use Rattle.spk_edge_rules.specs.Inputs as inputs
use Rattle.spk_edge_rules.specs.Inputs.{ChangeData}
use Rattle.spk_edge_rules.specs.Rules as rule
use Rattle.spk_edge_rules.specs.Rules.{Asked}
use Rattle.spk_edge_rules.specs.Step as step
use Rattle.spk_edge.specs.Sealing.{AreWhole, bytes_of, numbered, seq_past, wire_of}
use Rattle.spk_edge.specs.View.{GivenData, MessageData, NodeData, change_view, given_of, given_view, keeping_view, message_view, unnumbered, write_view}
use Rattle.spk_edge.specs.declared.message.Given.{Given}
use Rattle.spk_edge.specs.declared.message.Keeping.{Keeping}
use Rattle.spk_edge.specs.declared.message.Out.{Out}
use Rattle.spk_edge.specs.declared.node.Tally.{Tally}
use Rattle.spk_edge.specs.declared.plan.Plan.{Plan}
use Rattle.spk_edge.specs.declared.plan.Setting.{Setting}
use Rattle.spk_edge.specs.declared.plan.Setting.TheVariants.{Nothing, Value, Turn}

-- ---- the data after a plan is taken up

-- what a registry refuses leaves it as it is
abbrev pub setting_book : Book → Setting → Book
setting_book b Nothing = b
setting_book b (Value alias value) =
    unless_refused (set_refusal b alias (option_map typed_view value)) (with_value b alias (option_map typed_view value)) b
setting_book b (Turn name up) = unless_refused (turn_refusal b (string_bytes name)) (with_turn b (string_bytes name) up) b

-- no more are dropped than are kept
abbrev pub kept_after : Kept ChangeData → Keeping → Kept ChangeData
kept_after s Keeping.Nothing = s
kept_after s (Keeping.Push change) = after_push s (change_view change)
kept_after s (Keeping.DropFront n is_lost) = after_drop s (min n (length s.items)) is_lost

abbrev pub patched : NodeData → Plan → NodeData
patched n p = record {
  config = n.config;
  standing = record {
    asked = record {
      phase = p.tally.phase;
      book = setting_book n.standing.asked.book p.setting;
      store = kept_after n.standing.asked.store p.kept;
      heard = p.tally.heard;
      stamp = p.tally.stamp;
      bd = p.tally.bd;
      will_bd = p.tally.will_bd;
      will_time = p.tally.will_time;
    };
    seq = p.tally.seq;
  };
}

-- ---- what a plan says

-- The plan answers what the rules ask: these packets as bytes, writes and closing, these messages under their numbers; and
-- what it changes is what the rules' step changes.
pub record IsPlan (n : NodeData) (i : inputs.Input) (p : Plan) : Type 0 where
  pub answer : Answer
  pub answered : step.answer_at n.config n.standing i ≡ Ok answer
  pub packets : map bytes_of p.out.packets.items ≡ map spelling answer.packets
  pub writes : map write_view p.out.writes.items ≡ answer.given.writes
  pub close : p.out.close ≡ answer.given.close
  pub messages : map message_view p.messages.items
      ≡ numbered n.config.numbering n.standing.seq (map (unnumbered n.config) answer.given.drafts)
  pub whole : AreWhole (numbered n.config.numbering n.standing.seq (map (unnumbered n.config) answer.given.drafts))
  pub after : patched n p ≡ record n { standing = step.stepped n.config n.standing i answer.given }

-- memory was refused, or the rules refuse the input with this fault
abbrev pub IsRefusal : NodeData → inputs.Input → EdgeFault → Type 0
IsRefusal n i e = (e ≡ NoMemory) ⊎ (step.answer_at n.config n.standing i ≡ Err e)

-- ---- what was given, and its plan

-- the counts after an input
pub record IsTallyAfter (a : Asked) (i : inputs.Input) (phase : Phase) (heard : Option ℕ) (messages : List MessageData) (seq : ℕ) (t : Tally) : Type 0 where
  pub of_phase : t.phase ≡ phase
  pub of_heard : t.heard ≡ heard
  pub stamp : t.stamp ≡ last_or a.stamp (map (λ m. m.stamp) messages)
  pub of_seq : t.seq ≡ seq
  pub bd : t.bd ≡ (if step.is_open i.act then (a.bd + 1) % 256 else a.bd)
  pub will_bd : t.will_bd ≡ (if step.is_open i.act then a.bd else a.will_bd)
  pub will_time : t.will_time ≡ (if step.is_open i.act then i.now else a.will_time)

abbrev pub are_timely : List MessageData → Bool
are_timely messages = list_all (λ m. nat_lt m.stamp (2 ^ 63)) messages

abbrev pub numbers_of : NodeData → GivenData → List MessageData
numbers_of n g = numbered n.config.numbering n.standing.seq g.messages

abbrev pub packets_of : NodeData → GivenData → List packets.Message
packets_of n g = g.plain ++ map wire_of (numbers_of n g)

pub record IsSealed (n : NodeData) (i : inputs.Input) (g : GivenData) (setting : Setting) (p : Plan) : Type 0 where
  pub timely : are_timely g.messages ≡ true
  pub writable : list_all is_writable (packets_of n g) ≡ true
  pub packets : map bytes_of p.out.packets.items ≡ map spelling (packets_of n g)
  pub writes : map write_view p.out.writes.items ≡ g.writes
  pub close : p.out.close ≡ g.close
  pub messages : map message_view p.messages.items ≡ numbers_of n g
  pub whole : AreWhole (numbers_of n g)
  pub tally : IsTallyAfter n.standing.asked i g.phase g.heard (numbers_of n g) (seq_past n.config.numbering n.standing.seq g.messages) p.tally
  pub set : p.setting ≡ setting
  pub kept : keeping_view p.kept ≡ g.kept

abbrev pub IsUnsealed : NodeData → GivenData → EdgeFault → Type 0
IsUnsealed n g e = (e ≡ NoMemory) ⊎ (((e ≡ ClockEnd) × (are_timely g.messages ≡ false))
    ⊎ ((e ≡ TooLarge) × (are_timely g.messages ≡ true) × (list_all is_writable (packets_of n g) ≡ false)))

-- ---- what an act gives

-- what the rules' act gives, as the code has it
pub record IsGivenBy (n : NodeData) (i : inputs.Input) (g : Given) : Type 0 where
  pub given : rule.Given
  pub acted : rule.acts n.config n.standing.seq n.standing.asked i.now i.act ≡ Ok given
  pub is : given_view g ≡ given_of n.config (step.heard_after n.config n.standing.asked.heard i.act) given

-- memory was refused, or the act is, or its stamp is past the clock's end
abbrev pub IsRefusedBy : NodeData → inputs.Input → EdgeFault → Type 0
IsRefusedBy n i e = (e ≡ NoMemory) ⊎ ((rule.acts n.config n.standing.seq n.standing.asked i.now i.act ≡ Err e)
    ⊎ ((e ≡ ClockEnd) × ((g : rule.Given) × (rule.acts n.config n.standing.seq n.standing.asked i.now i.act ≡ Ok g) × (rule.is_timely g ≡ false))))

-- an acknowledgement stands first
abbrev pub acked_data : Option ℕ → GivenData → GivenData
acked_data None g = g
acked_data (Some id) g = record g { plain = packets.PubAck id ∷ g.plain }

-- what the registry refuses of an act
abbrev pub act_refusal : Book → inputs.Act → Option Refusal
act_refusal b (inputs.Change alias value) = set_refusal b alias value
act_refusal b (inputs.Turn name up) = turn_refusal b name
act_refusal b _ = None

-- what is set makes of the registry what the act makes of it, where it isn't refused
abbrev pub IsSetBy : Book → inputs.Act → Setting → Type 0
IsSetBy b act s = setting_book b s ≡ unless_refused (act_refusal b act) (step.book_after b act) b

-- ---- memory

-- an act that gives no packet and sets nothing
abbrev pub is_still : Asked → inputs.Act → Bool
is_still a (inputs.Change alias value) = rule.is_same_value a.book alias value
is_still a inputs.Drain = length a.store.items == 0
is_still a inputs.Cut = true
is_still a inputs.TurnedAway = true
is_still a inputs.Pass = true
is_still a _ = false

-- no more is it acknowledged: such an input takes no memory
abbrev pub takes_no_memory : NodeData → inputs.Input → Bool
takes_no_memory n i = is_none i.ack && is_still n.standing.asked i.act

-- a refusal is for memory only where the input takes some
abbrev pub IsShort : NodeData → inputs.Input → EdgeFault → Type 0
IsShort n i e = e ≡ NoMemory → takes_no_memory n i ≡ false

-- ---- what was done

-- The input was done: it answers what the rules ask, and the data are those after their step.
pub record IsDone (n : NodeData) (i : inputs.Input) (after : NodeData) (out : Out) : Type 0 where
  pub answer : Answer
  pub answered : step.answer_at n.config n.standing i ≡ Ok answer
  pub packets : map bytes_of out.packets.items ≡ map spelling answer.packets
  pub writes : map write_view out.writes.items ≡ answer.given.writes
  pub close : out.close ≡ answer.given.close
  pub whole : AreWhole (numbered n.config.numbering n.standing.seq (map (unnumbered n.config) answer.given.drafts))
  pub stands : after ≡ record n { standing = step.stepped n.config n.standing i answer.given }

-- an input that nothing acknowledges
abbrev pub plain_input : ℕ → inputs.Act → inputs.Input
plain_input now act = record { now = now; ack = None; act = act }

-- the data after a cut, which is always done
abbrev pub after_cut : NodeData → NodeData
after_cut n = record n {
  standing =
      step.stepped n.config n.standing (plain_input 0 inputs.Cut) (record (rule.nothing n.standing.asked) { phase = Idle });
}

-- ---- names and limits

abbrev pub is_good : Config → ℕ → Bool
is_good c capacity = is_name c.group && is_name c.node && option_map_or is_name c.primary true && nat_le 1 capacity && nat_le capacity 4096

abbrev pub setup_of : Config → ℕ → step.Record → Book → Setup
setup_of c capacity r b = record { config = c; capacity = capacity; seq = r.seq; bd = r.bd; stamp = r.stamp; book = b }

-- a node as it is made
abbrev pub made : Config → ℕ → step.Record → Book → NodeData
made c capacity r b = record { config = c; standing = step.fresh_standing (setup_of c capacity r b) }
