-- The order stands and steps as that of the positions.
use Rattle.std.proofs.Common.{◌≡◌, ◌∙◌, ap, refl, ℕ, List, [], ◌∷◌}
use Rattle.spk_sequence.specs.declared.message.Kind.{Kind}
use Rattle.spk_sequence.specs.Calls as call
use Rattle.spk_sequence.specs.Calls.{Call, after_call, reply_of}
use Rattle.spk_sequence.specs.Data.{Standing}
use Rattle.spk_sequence.specs.HostRecord.{Input, MessageComes, DeathComes, TickComes, call_of, standing_of}
use Rattle.spk_sequence.specs.NodeRecord.{written_number}
use Rattle.spk_sequence.specs.Step as sequence
use Rattle.spk_reading.specs.Data.{NumberedData}
use Rattle.spk_host_node.specs.Inputs as node
use Rattle.spk_host_node.specs.Inputs.{Comes, Dies, Ticks, Ends, order_after, order_with}
use Rattle.spk_edge_rules.specs.Config.{Setup}
use Rattle.spk_edge_rules.specs.Run as edge
use Rattle.spk_tie.specs.Tie.{IsMessageAt, host_setting}
use Rattle.spk_heard.specs.Read.{AreRead, IsRead}

-- the call that a host was told is that of the input
with_input : (s : Setup) (published : List edge.Message) (wait width : ℕ) (i : Input) (j : node.Input) (before : List node.Input) (standing : Standing) →
    IsRead s published i j → (order_after wait width before).standing ≡ standing →
    (order_after wait width (j ∷ before)).standing ≡ after_call standing (call_of (host_setting s published wait width) i)
with_input s published wait width (MessageComes p now) (Comes read at) before standing is same =
    ap (λ (d : Standing). (sequence.hand d read.number read.kind at).1) same
    ∙ ap (λ t. (sequence.hand standing read.number read.kind t).1) is.0
    ∙ ap (after_call standing) (is.1.1.call wait width now)
with_input s published wait width (DeathComes session now) (Dies bd) before standing is same =
    ap (λ (d : Standing). sequence.death d bd) same ∙ ap (after_call standing) (is wait width)
with_input s published wait width (TickComes now) (Ticks at) before standing is same =
    ap (λ (d : Standing). sequence.tick d at) same ∙ ap (sequence.tick standing) is
with_input s published wait width (MessageComes p now) (Dies bd) before standing is same = absurd is
with_input s published wait width (MessageComes p now) (Ticks at) before standing is same = absurd is
with_input s published wait width (MessageComes p now) Ends before standing is same = absurd is
with_input s published wait width (DeathComes session now) (Comes read at) before standing is same = absurd is
with_input s published wait width (DeathComes session now) (Ticks at) before standing is same = absurd is
with_input s published wait width (DeathComes session now) Ends before standing is same = absurd is
with_input s published wait width (TickComes now) (Comes read at) before standing is same = absurd is
with_input s published wait width (TickComes now) (Dies bd) before standing is same = absurd is
with_input s published wait width (TickComes now) Ends before standing is same = absurd is

pub standing_is : (s : Setup) (published : List edge.Message) (wait width : ℕ) (is : List Input) (js : List node.Input) → AreRead s published is js →
    (order_after wait width js).standing ≡ standing_of (host_setting s published wait width) is
standing_is s published wait width [] [] are = refl
standing_is s published wait width [] (j ∷ js) are = absurd are
standing_is s published wait width (i ∷ is) [] are = absurd are
standing_is s published wait width (i ∷ is) (j ∷ js) are =
    with_input s published wait width i j js (standing_of (host_setting s published wait width) is) are.0 (standing_is s published wait width is js are.1)

pub step_is : (s : Setup) (published : List edge.Message) (wait width p now : ℕ) (m : edge.Message) (read : NumberedData) (d e : Standing) →
    d ≡ e → IsMessageAt s published p m read →
    call.Stepped (sequence.hand d read.number read.kind now).0 ≡ reply_of e (call_of (host_setting s published wait width) (MessageComes p now))
step_is s published wait width p now m read d e same is =
    ap (λ (d : Standing). call.Stepped (sequence.hand d read.number read.kind now).0) same ∙ ap (reply_of e) (is.call wait width now)

pub match_is : (s : Setup) (published : List edge.Message) (wait width session now bd : ℕ) (d e : Standing) → d ≡ e →
    IsRead s published (DeathComes session now) (Dies bd) →
    call.Told (sequence.match_of d bd) ≡ reply_of e (call_of (host_setting s published wait width) (DeathComes session now))
match_is s published wait width session now bd d e same is =
    ap (λ (d : Standing). call.Told (sequence.match_of d bd)) same ∙ ap (reply_of e) (is wait width)

-- the number that is read is that of the position
same_hand : (number other : ℕ) (k l : Kind) (now later : ℕ) → call.Hand number k now ≡ call.Hand other l later → number ≡ other
same_hand number other k l now later e = cc

pub number_is : (s : Setup) (published : List edge.Message) (wait width p : ℕ) (m : edge.Message) (read : NumberedData) → IsMessageAt s published p m read →
    read.number ≡ written_number (host_setting s published wait width) p
number_is s published wait width p m read is = same_hand _ _ _ _ 0 0 (is.call wait width 0)
