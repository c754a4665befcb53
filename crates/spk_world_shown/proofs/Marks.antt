-- What is read of a node's messages is marked as what it is.
use Rattle.std.proofs.Common.{◌≡◌, ◌∙◌, sym, ap, refl, ℕ, List, [], ◌∷◌, Some, None}
use Rattle.spk_packets.specs.Spelling.{spelling}
use Rattle.spk_topics.specs.Spark.{Named}
use Rattle.spk_topics.specs.Spark.Named.{of_node, of_device}
use Rattle.spk_topics.specs.declared.spark.Verb.TheVariants as verb
use Rattle.spk_sequence.specs.declared.message.Kind.{Kind}
use Rattle.spk_sequence.specs.declared.message.Kind.TheVariants.{Birth}
use Rattle.spk_sequence.specs.Calls as call
use Rattle.spk_sequence.specs.HostRecord.{Input, MessageComes, DeathComes, TickComes}
use Rattle.spk_reading.specs.Data.{SubjectData, NodeBirth, NodeData, DeviceBirth, DeviceData, DeviceDeath, NumberedData, Published, Message}
use Rattle.spk_reading.specs.Meaning.{Says}
use Rattle.spk_host_node.specs.Inputs as node
use Rattle.spk_host_node.specs.Inputs.{Comes, Dies, Ticks, Ends}
use Rattle.spk_edge_rules.specs.Config.{Setup}
use Rattle.spk_edge_rules.specs.Run as edge
use Rattle.spk_tie.specs.Tie.{IsMessageAt, ReadsMessage, named_for}
use Rattle.spk_heard.specs.Read.{AreRead, IsRead}
use Rattle.spk_shown.specs.Shown.{AreMarked, IsMarked}

birth_subject : (group name : List ℕ) (a : SubjectData) → named_for group name a ≡ of_node group verb.Birth name → a ≡ NodeBirth
birth_subject group name NodeBirth e = refl
birth_subject group name NodeData e = cc
birth_subject group name (DeviceBirth device) e = cc
birth_subject group name (DeviceData device) e = cc
birth_subject group name (DeviceDeath device) e = cc

same_kind : (number other : ℕ) (k l : Kind) (now later : ℕ) → call.Hand number k now ≡ call.Hand other l later → k ≡ l
same_kind number other k l now later e = cc

-- what is read of a message is marked as what is read in its bytes
pub marked_at : ((bytes : List ℕ) (read : NumberedData) → Says bytes (Published None (Message read)) → IsMarked read) →
    (s : Setup) (published : List edge.Message) (p : ℕ) (m : edge.Message) (read : NumberedData) (bytes : List ℕ) →
    ReadsMessage s published p m bytes → IsMessageAt s published p m read → IsMarked read
marked_at marks s published p m read bytes reads at = λ stamp bd e.
    let same : reads.read.kind ≡ read.kind = same_kind _ _ _ _ _ _ (reads.is.call 0 0 0 ∙ sym (at.call 0 0 0)) in
    let other : reads.read.subject ≡ NodeBirth = marks bytes reads.read reads.alone.says stamp bd (same ∙ e) in
    birth_subject s.config.group s.config.node read.subject
    (at.subject ∙ sym reads.is.subject ∙ ap (named_for s.config.group s.config.node) other)

pub marked_along : (s : Setup) (published : List edge.Message) → ((p : ℕ) (m : edge.Message) (read : NumberedData) → IsMessageAt s published p m read → IsMarked read) →
    (is : List Input) (js : List node.Input) → AreRead s published is js → AreMarked js
marked_along s published each [] [] are = tt
marked_along s published each [] (j ∷ js) are = absurd are
marked_along s published each (i ∷ is) [] are = absurd are
marked_along s published each (MessageComes p now ∷ is) (Comes read at ∷ js) are = (each p are.0.1.0 read are.0.1.1, marked_along s published each is js are.1)
marked_along s published each (DeathComes session now ∷ is) (Comes read at ∷ js) are = absurd are.0
marked_along s published each (TickComes now ∷ is) (Comes read at ∷ js) are = absurd are.0
marked_along s published each (i ∷ is) (Dies bd ∷ js) are = marked_along s published each is js are.1
marked_along s published each (i ∷ is) (Ticks at ∷ js) are = marked_along s published each is js are.1
marked_along s published each (i ∷ is) (Ends ∷ js) are = marked_along s published each is js are.1
