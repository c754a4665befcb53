-- What one call does (own rules).
use Rattle.std.specs.Prelude.{◌≡◌, ◌≢◌, ◌⊎◌, ◌<◌, ◌+◌, ℕ, List, [], ◌++◌, Option, Some, None, length}
use Rattle.spk_packets.specs.Fault.{first_of}
use Rattle.spk_packets.specs.Grammar.{Spells}
use Rattle.spk_packets.specs.Message.{Message}
use Rattle.spk_packets.specs.Refusals.{refusals}
use Rattle.spk_packets.specs.Spelling.{spelling}
use Rattle.spk_packets.specs.Stream.{most_waiting}
use Rattle.spk_packets.specs.declared.fault.PacketFault.{PacketFault}
use Rattle.spk_packets.specs.declared.fault.PacketFault.TheVariants as fault
use Rattle.spk_door.specs.View.{door_view}
use Rattle.spk_door.specs.declared.door.Door.{Door}
use Rattle.spk_door.specs.declared.door.Who.{Who}
use Rattle.spk_visitor.specs.Data.{AnswerData, Closes, More, Outcome}
use Rattle.spk_visitor.specs.Rules.{ends, outcome, spoiled}
use Rattle.spk_visitor.specs.View.{answer_view, stage_view, unread_of}
use Rattle.spk_visitor.specs.declared.answer.Answer.{Answer}
use Rattle.spk_visitor.specs.declared.visitor.Stage.{Stage}
use Rattle.spk_visitor.specs.declared.visitor.Stage.TheVariants as stage

-- the bytes of what goes on
abbrev pub passed : Option Message → List ℕ
passed None = []
passed (Some p) = spelling p

-- what is left waits, as long as something of it is taken
abbrev pub Keeps : Stage → List ℕ → Type 0
Keeps (stage.Outside first) rest = first.items ≡ rest
Keeps (stage.Inside who feed) rest = feed ≡ rest
Keeps stage.Over rest = Unit {0}

-- it came to this, and these bytes stood before, and stand behind it
pub record Comes (d : Door) (o : Outcome) (a : Answer) (new : Stage) (before behind : List ℕ) : Type 0 where
  pub stands : stage_view d new ≡ o.stage
  pub answers : answer_view a ≡ o.answer
  pub passes : behind ≡ before ++ passed o.passes

-- no whole packet waits
pub record IsMore (old : Stage) (a : Answer) (new : Stage) (before behind : List ℕ) : Type 0 where
  pub more : first_of (refusals (unread_of old)) ≡ Some fault.More
  pub answers : answer_view a ≡ More
  pub same : new ≡ old
  pub nothing : behind ≡ before

-- the packet at the front is taken
pub record IsTaken (d : Door) (old : Stage) (a : Answer) (new : Stage) (before behind : List ℕ) : Type 0 where
  pub packet : Message
  pub front : List ℕ
  pub rest : List ℕ
  pub spells : Spells front packet
  pub parts : unread_of old ≡ front ++ rest
  pub comes : Comes d (outcome (door_view d) (stage_view d old) front packet) a new before behind
  pub keeps : Keeps new rest

-- no packet stands at the front
pub record IsSpoiled (d : Door) (old : Stage) (a : Answer) (new : Stage) (before behind : List ℕ) : Type 0 where
  pub why : PacketFault
  pub named : first_of (refusals (unread_of old)) ≡ Some why
  pub not_more : why ≢ fault.More
  pub comes : Comes d (spoiled (stage_view d old) why) a new before behind

-- nothing more of it is taken
pub record IsOver (d : Door) (old : Stage) (a : Answer) (new : Stage) (before behind : List ℕ) : Type 0 where
  pub over : old ≡ stage.Over
  pub comes : Comes d (ends Closes) a new before behind

abbrev pub IsNext : Door → Stage → Answer → Stage → (before behind : List ℕ) → Type 0
IsNext d old a new before behind =
    IsMore old a new before behind
    ⊎ (IsTaken d old a new before behind ⊎ (IsSpoiled d old a new before behind ⊎ IsOver d old a new before behind))

-- bytes are put behind those that wait, as long as something is taken
abbrev pub IsFed : Stage → List ℕ → Stage → Type 0
IsFed (stage.Outside first) piece (stage.Outside more) = more.items ≡ first.items ++ piece
IsFed (stage.Inside who feed) piece (stage.Inside same more) = (same ≡ who) × (more ≡ feed ++ piece)
IsFed stage.Over piece stage.Over = Unit {0}
IsFed _ piece _ = ⊥

-- a client stands as before, and the same bytes wait
abbrev pub Stays : Stage → Stage → Type 0
Stays (stage.Outside first) (stage.Outside same) = same.items ≡ first.items
Stays (stage.Outside first) _ = ⊥
Stays (stage.Inside who feed) new = new ≡ stage.Inside who feed
Stays stage.Over new = new ≡ stage.Over

-- more bytes than may wait: 524,288 until somebody came in (own rule)
abbrev pub IsTooMuch : Stage → List ℕ → Type 0
IsTooMuch (stage.Outside first) piece = 524288 < length first.items + length piece
IsTooMuch (stage.Inside who feed) piece = most_waiting < length feed + length piece
IsTooMuch stage.Over piece = ⊥

-- whoever is to be closed is over, anybody else goes on
abbrev pub IsBehind : Who → List ℕ → AnswerData → Stage → Type 0
IsBehind who feed Closes new = new ≡ stage.Over
IsBehind who feed _ new = new ≡ stage.Inside who feed
