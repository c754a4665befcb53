-- What is handed out at a message is what was published at the positions that it consumes.
use Rattle.std.proofs.Common.{◌≡◌, sym, subst, refl, ℕ, zero, suc, ◌+◌, ◌-◌, ◌%◌, ◌<◌, ◌≤◌, true, List, [], ◌∷◌, ◌++◌, map, Option, Some, is_some, arith}
use Rattle.std.specs.List.{cons_option, filter_map, range_with_len}
use Rattle.spk_sequence.specs.declared.answer.Step.{Step}
use Rattle.spk_sequence.specs.declared.answer.Step.TheVariants as step
use Rattle.spk_sequence.specs.Calls as call
use Rattle.spk_sequence.specs.Calls.{Reply}
use Rattle.spk_sequence.specs.Data.{Standing}
use Rattle.spk_sequence.specs.HostRecord.{HostRecord, Input, MessageComes, DeathComes, TickComes, consumed_by, consumed_of, done_at, held_under, record_of, standing_of}
use Rattle.spk_sequence.specs.NodeRecord.{Setting, written_number}
use Rattle.spk_sequence.specs.Numbers.{KeepsNumbers, held_as}
use Rattle.spk_sequence.specs.Step as sequence
use Rattle.spk_order.specs.Ordered.{Ordered, kept_at}
use Rattle.spk_order.specs.Step.{consumed_with}
use Rattle.spk_reading.specs.Data.{NumberedData}
use Rattle.spk_host_node.specs.Inputs as node
use Rattle.spk_host_node.specs.Inputs.{Comes, Dies, Ticks, Ends, order_after}
use Rattle.spk_host_node.specs.Step.{step_of, taken_of}
use Rattle.spk_edge_rules.specs.Config.{Setup}
use Rattle.spk_edge_rules.specs.Run as edge
use Rattle.spk_tie.specs.Tie.{IsMessageAt, host_setting}
use Rattle.spk_heard.specs.Read.{AreMessagesAt, AreRead, IsRead, all_taken, taken_at}
use Rattle.spk_heard.proofs.Held.{Holds, Numbers, holds_along, some_of}
use Rattle.spk_heard.proofs.Steps.{number_is, standing_is, step_is}

-- a position that is there, and what was read of it
record Pair (s : Setup) (published : List edge.Message) (o : Option ℕ) (r : Option NumberedData) : Type 0 where
  position : ℕ
  message : edge.Message
  read : NumberedData
  there : o ≡ Some position
  taken : r ≡ Some read
  is : IsMessageAt s published position message read

-- a list of each
matched : (s : Setup) (published : List edge.Message) (f : ℕ → Option ℕ) (g : ℕ → Option NumberedData) (a k : ℕ) →
    ((i : ℕ) → a ≤ i → i < a + k → Pair s published (f i) (g i)) →
    AreMessagesAt s published (filter_map f (range_with_len a k)) (filter_map (λ r. r) (map g (range_with_len a k)))
matched s published f g a zero each = tt
matched s published f g a (suc k) each =
    let first = each a (omega arith) (omega arith) in
    let ps = filter_map f (range_with_len (a + 1) k) in
    let rs = filter_map (λ r. r) (map g (range_with_len (a + 1) k)) in
    let rest : AreMessagesAt s published ps rs = matched s published f g (a + 1) k (λ i low high. each i (omega arith) (omega arith)) in
    subst (λ o. AreMessagesAt s published (cons_option o ps) (cons_option (g a) rs)) (sym first.there)
    (subst (λ o. AreMessagesAt s published (first.position ∷ ps) (cons_option o rs)) (sym first.taken)
    ((first.message, first.is), rest))

-- a message that is held under a number that is consumed
paired : (s : Setup) (published : List edge.Message) (setting : Setting) (h : HostRecord) (o : Ordered NumberedData) (x : ℕ) → x < 256 →
    Holds s published setting h o → is_some (held_as o.standing x) ≡ true → Pair s published (held_under setting h x) (kept_at o.kept x)
paired s published setting h o x byte holds held =
    let read = some_of (kept_at o.kept x) (holds.each x byte held) in
    let at = holds.reads x byte read.0 read.1 in
    record { position = at.position; message = at.message; read = read.0; there = at.held; taken = read.1; is = at.is }

run_is : (s : Setup) (published : List edge.Message) (setting : Setting) (h : HostRecord) (o : Ordered NumberedData) (new : Standing) (p now : ℕ)
    (m : edge.Message) (read : NumberedData) (answer : Step) → read.number ≡ written_number setting p → IsMessageAt s published p m read →
    Holds s published setting h o → KeepsNumbers o.standing new read.number answer →
    AreMessagesAt s published (consumed_by setting h (MessageComes p now) (call.Stepped answer))
    (filter_map (λ r. r) (consumed_with o.kept read.number read answer))
run_is s published setting h o new p now m read (step.Consumed n) number is holds keeps =
    let eaten = keeps.eaten n refl in (
      (m, is),
      matched s published (λ i. held_under setting h ((written_number setting p + i) % 256)) (λ i. kept_at o.kept ((read.number + i) % 256)) 1 (n - 1)
          (λ i low high. subst (λ w. Pair s published (held_under setting h ((w + i) % 256)) (kept_at o.kept ((read.number + i) % 256))) number
          (paired s published setting h o ((read.number + i) % 256) (omega arith) holds (eaten.were_held i (omega arith) (omega arith)))),
    )
run_is s published setting h o new p now m read step.Held number is holds keeps = tt
run_is s published setting h o new p now m read step.Old number is holds keeps = tt
run_is s published setting h o new p now m read step.Gap number is holds keeps = tt
run_is s published setting h o new p now m read step.OldBirth number is holds keeps = tt
run_is s published setting h o new p now m read step.DeadSession number is holds keeps = tt
run_is s published setting h o new p now m read step.NotLive number is holds keeps = tt

pub taken_is : Numbers → (s : Setup) (published : List edge.Message) (wait width : ℕ) (h : HostRecord) (d : Standing) (o : Ordered NumberedData)
    (p now : ℕ) (m : edge.Message) (read : NumberedData) → o.standing ≡ d → IsMessageAt s published p m read →
    Holds s published (host_setting s published wait width) h o →
    AreMessagesAt s published (done_at (host_setting s published wait width) h d (MessageComes p now)).consumed (taken_of o read now)
taken_is laws s published wait width h d o p now m read stands is holds =
    let setting = host_setting s published wait width in
    let number = number_is s published wait width p m read is in
    let low : read.number < 256 = subst (λ n. n < 256) (sym number) (laws.byte setting p) in
    let keeps = laws.hand o.standing read.number now read.kind low holds.whole in
    subst (λ r. AreMessagesAt s published (consumed_by setting h (MessageComes p now) r) (taken_of o read now))
    (step_is s published wait width p now m read o.standing d stands is)
    (run_is s published setting h o (sequence.hand o.standing read.number read.kind now).1 p now m read (step_of o read now) number is holds keeps)

pub consumed_is : Numbers → (s : Setup) (published : List edge.Message) (wait width : ℕ) (is : List Input) (js : List node.Input) (p now : ℕ)
    (m : edge.Message) (read : NumberedData) → 0 < width → width ≤ 96 → AreRead s published is js → IsMessageAt s published p m read →
    AreMessagesAt s published
    (done_at (host_setting s published wait width) (record_of (host_setting s published wait width) is) (standing_of (host_setting s published wait width) is) (MessageComes p now)).consumed
    (taken_of (order_after wait width js) read now)
consumed_is laws s published wait width is js p now m read some few are at =
    let setting = host_setting s published wait width in
    taken_is laws s published wait width (record_of setting is) (standing_of setting is) (order_after wait width js) p now m read
    (standing_is s published wait width is js are) at (holds_along laws s published wait width is js some few are)

-- ---- all that a session hands out

joined : (s : Setup) (published : List edge.Message) (ps qs : List ℕ) (reads others : List NumberedData) → AreMessagesAt s published ps reads →
    AreMessagesAt s published qs others → AreMessagesAt s published (ps ++ qs) (reads ++ others)
joined s published [] qs [] others are more = more
joined s published [] qs (read ∷ reads) others are more = absurd are
joined s published (p ∷ ps) qs [] others are more = absurd are
joined s published (p ∷ ps) qs (read ∷ reads) others are more = (are.0, joined s published ps qs reads others are.1 more)

one_more : Numbers → (s : Setup) (published : List edge.Message) (wait width : ℕ) (h : HostRecord) (d : Standing) (o : Ordered NumberedData)
    (i : Input) (j : node.Input) → IsRead s published i j → o.standing ≡ d → Holds s published (host_setting s published wait width) h o →
    AreMessagesAt s published (done_at (host_setting s published wait width) h d i).consumed (taken_at o j)
one_more laws s published wait width h d o (MessageComes p now) (Comes read at) is stands holds =
    subst (λ t. AreMessagesAt s published (done_at (host_setting s published wait width) h d (MessageComes p now)).consumed (taken_of o read t)) (sym is.0)
    (taken_is laws s published wait width h d o p now is.1.0 read stands is.1.1 holds)
one_more laws s published wait width h d o (DeathComes session now) (Dies bd) is stands holds = tt
one_more laws s published wait width h d o (TickComes now) (Ticks at) is stands holds = tt
one_more laws s published wait width h d o (MessageComes p now) (Dies bd) is stands holds = absurd is
one_more laws s published wait width h d o (MessageComes p now) (Ticks at) is stands holds = absurd is
one_more laws s published wait width h d o (MessageComes p now) Ends is stands holds = absurd is
one_more laws s published wait width h d o (DeathComes session now) (Comes read at) is stands holds = absurd is
one_more laws s published wait width h d o (DeathComes session now) (Ticks at) is stands holds = absurd is
one_more laws s published wait width h d o (DeathComes session now) Ends is stands holds = absurd is
one_more laws s published wait width h d o (TickComes now) (Comes read at) is stands holds = absurd is
one_more laws s published wait width h d o (TickComes now) (Dies bd) is stands holds = absurd is
one_more laws s published wait width h d o (TickComes now) Ends is stands holds = absurd is

pub session_is : Numbers → (s : Setup) (published : List edge.Message) (wait width : ℕ) (is : List Input) (js : List node.Input) → 0 < width →
    width ≤ 96 → AreRead s published is js →
    AreMessagesAt s published (consumed_of (record_of (host_setting s published wait width) is)) (all_taken wait width js)
session_is laws s published wait width [] [] some few are = tt
session_is laws s published wait width [] (j ∷ js) some few are = absurd are
session_is laws s published wait width (i ∷ is) [] some few are = absurd are
session_is laws s published wait width (i ∷ is) (j ∷ js) some few are =
    let setting = host_setting s published wait width in
    joined s published (consumed_of (record_of setting is)) (done_at setting (record_of setting is) (standing_of setting is) i).consumed
    (all_taken wait width js) (taken_at (order_after wait width js) j)
    (session_is laws s published wait width is js some few are.1)
    (one_more laws s published wait width (record_of setting is) (standing_of setting is) (order_after wait width js) i j are.0
    (standing_is s published wait width is js are.1) (holds_along laws s published wait width is js some few are.1))
