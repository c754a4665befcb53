-- What was read stays so when the node publishes more.
use Rattle.std.proofs.Common.{◌≡◌, ◌∙◌, sym, ap, ℕ, zero, suc, ◌<◌, Bool, cond, List, [], ◌∷◌, ◌++◌, length, Some, arith}
use Rattle.std.specs.Prelude.{slice_get}
use Rattle.std.proofs.lemmas.List.{length-map, map-append}
use Rattle.std.proofs.lemmas.Option.{slice_get_within}
use Rattle.spk_sequence.specs.declared.message.Kind.{Kind}
use Rattle.spk_sequence.specs.declared.message.Kind.TheVariants as kind
use Rattle.spk_sequence.specs.Calls as call
use Rattle.spk_sequence.specs.Claims.{with_more}
use Rattle.spk_sequence.specs.HostRecord.{Input, MessageComes, DeathComes, TickComes, call_of, kind_of}
use Rattle.spk_sequence.specs.NodeRecord as sequence
use Rattle.spk_reading.specs.Data.{NumberedData}
use Rattle.spk_host_node.specs.Inputs as node
use Rattle.spk_host_node.specs.Inputs.{Comes, Dies, Ticks, Ends}
use Rattle.spk_edge_rules.specs.Config.{Setup}
use Rattle.spk_edge_rules.specs.Messages.{payload_of}
use Rattle.spk_edge_rules.specs.Run as edge
use Rattle.spk_edge_rules.specs.Run.{number_at, outline, setting_of}
use Rattle.spk_tie.specs.Tie.{IsMessageAt, host_setting}
use Rattle.spk_heard.specs.Read.{AreMessagesAt, AreRead, IsRead}

-- what stays of a position, by the law on records
pub record Stays : Type 0 where
  pub number : (s : sequence.Setting) (more : sequence.NodeRecord) (p : ℕ) → p < length s.published →
      sequence.written_number (with_more s more) p ≡ sequence.written_number s p
  pub message : (published more : sequence.NodeRecord) (p : ℕ) → p < length published →
      sequence.message_at (published ++ more) p ≡ sequence.message_at published p
  pub opens : (published more : sequence.NodeRecord) (p : ℕ) → p < length published →
      sequence.opens (published ++ more) p ≡ sequence.opens published p

there_still : (xs more : List edge.Message) (p : ℕ) (m : edge.Message) → slice_get xs p ≡ Some m → slice_get (xs ++ more) p ≡ Some m
there_still [] more p m e = absurd (let x : ⊥ = cc in x)
there_still (x ∷ xs) more zero m e = e
there_still (x ∷ xs) more (suc p) m e = there_still xs more p m e

abbrev drawn : edge.Message → sequence.Message
drawn m = record { birth = m.birth; session = m.session; stamp = m.draft.stamp }

more_drawn : (xs more : List edge.Message) → outline (xs ++ more) ≡ outline xs ++ outline more
more_drawn xs more = map-append drawn xs more

within : (xs : List edge.Message) (p : ℕ) (m : edge.Message) → slice_get xs p ≡ Some m → p < length (outline xs)
within xs p m there =
    let size = length-map xs drawn in
    let low = slice_get_within xs p m there in
    omega (arith, size, low)

number_still : Stays → (s : Setup) (xs more : List edge.Message) (p : ℕ) → p < length (outline xs) → number_at s (xs ++ more) p ≡ number_at s xs p
number_still stays s xs more p low =
    ap (λ (r : sequence.NodeRecord). sequence.written_number (record (setting_of s xs) { published = r }) p) (more_drawn xs more)
    ∙ stays.number (setting_of s xs) (outline more) p low

-- the kind of a position, of its opening and its message
abbrev kind_with : sequence.Setting → Bool → sequence.Message → Kind
kind_with s b m = cond b (kind.Birth m.stamp (sequence.written_session s m.session)) (kind.Other (Some m.stamp))

kind_still : Stays → (s : sequence.Setting) (more : sequence.NodeRecord) (p : ℕ) → p < length s.published →
    kind_of (with_more s more) p ≡ kind_of s p
kind_still stays s more p low =
    ap (λ b. kind_with s b (sequence.message_at (s.published ++ more) p)) (stays.opens s.published more p low)
    ∙ ap (kind_with s (sequence.opens s.published p)) (stays.message s.published more p low)

call_still : Stays → (s : Setup) (xs more : List edge.Message) (wait width p now : ℕ) → p < length (outline xs) →
    call_of (host_setting s (xs ++ more) wait width) (MessageComes p now) ≡ call_of (host_setting s xs wait width) (MessageComes p now)
call_still stays s xs more wait width p now low =
    let first = host_setting s xs wait width in
    ap (λ (r : sequence.NodeRecord). call_of (record first { published = r }) (MessageComes p now)) (more_drawn xs more)
    ∙ ap (λ n. call.Hand n (kind_of (with_more first (outline more)) p) now) (stays.number first (outline more) p low)
    ∙ ap (λ k. call.Hand (sequence.written_number first p) k now) (kind_still stays first (outline more) p low)

pub message_still : Stays → (s : Setup) (published more : List edge.Message) (p : ℕ) (m : edge.Message) (read : NumberedData) →
    IsMessageAt s published p m read → IsMessageAt s (published ++ more) p m read
message_still stays s published more p m read is =
    let low = within published p m is.there in
    record {
      there = there_still published more p m is.there;
      group = is.group;
      node = is.node;
      subject = is.subject;
      topic = is.topic;
      payload = is.payload ∙ ap (λ n. payload_of n m.draft) (sym (number_still stays s published more p low));
      call = λ wait width now. is.call wait width now ∙ sym (call_still stays s published more wait width p now low);
    }

pub messages_still : Stays → (s : Setup) (published more : List edge.Message) (ps : List ℕ) (reads : List NumberedData) →
    AreMessagesAt s published ps reads → AreMessagesAt s (published ++ more) ps reads
messages_still stays s published more [] [] are = tt
messages_still stays s published more [] (read ∷ reads) are = absurd are
messages_still stays s published more (p ∷ ps) [] are = absurd are
messages_still stays s published more (p ∷ ps) (read ∷ reads) are =
    ((are.0.0, message_still stays s published more p are.0.0 read are.0.1), messages_still stays s published more ps reads are.1)

input_still : Stays → (s : Setup) (published more : List edge.Message) (i : Input) (j : node.Input) → IsRead s published i j →
    IsRead s (published ++ more) i j
input_still stays s published more (MessageComes p now) (Comes read at) is =
    (is.0, (is.1.0, message_still stays s published more p is.1.0 read is.1.1))
input_still stays s published more (DeathComes session now) (Dies bd) is = is
input_still stays s published more (TickComes now) (Ticks at) is = is
input_still stays s published more (MessageComes p now) (Dies bd) is = absurd is
input_still stays s published more (MessageComes p now) (Ticks at) is = absurd is
input_still stays s published more (MessageComes p now) Ends is = absurd is
input_still stays s published more (DeathComes session now) (Comes read at) is = absurd is
input_still stays s published more (DeathComes session now) (Ticks at) is = absurd is
input_still stays s published more (DeathComes session now) Ends is = absurd is
input_still stays s published more (TickComes now) (Comes read at) is = absurd is
input_still stays s published more (TickComes now) (Dies bd) is = absurd is
input_still stays s published more (TickComes now) Ends is = absurd is

pub inputs_still : Stays → (s : Setup) (published more : List edge.Message) (is : List Input) (js : List node.Input) → AreRead s published is js →
    AreRead s (published ++ more) is js
inputs_still stays s published more [] [] are = tt
inputs_still stays s published more [] (j ∷ js) are = absurd are
inputs_still stays s published more (i ∷ is) [] are = absurd are
inputs_still stays s published more (i ∷ is) (j ∷ js) are =
    (input_still stays s published more i j are.0, inputs_still stays s published more is js are.1)
