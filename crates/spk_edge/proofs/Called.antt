-- What a list of calls comes to.
use Rattle.std.proofs.Common.{◌≡◌, ◌∙◌, ap, sym, refl, subst, ℕ, length, List, [], ◌∷◌, ◌++◌, map, Result, Ok}
use Rattle.std.proofs.lemmas.Bool.{true≢false}
use Rattle.std.proofs.lemmas.List.{append-nil, map-append}
use Rattle.spk_packets.specs.Message as packets
use Rattle.spk_packets.specs.Spelling.{spelling}
use Rattle.spk_edge_rules.specs.declared.fault.EdgeFault.{EdgeFault}
use Rattle.spk_edge_rules.specs.Answers.{Answer}
use Rattle.spk_edge_rules.specs.Config.{Setup}
use Rattle.spk_edge_rules.specs.Inputs.{Cut, Input}
use Rattle.spk_edge_rules.specs.Run.{Done, Message, packets_of, published, right_at, run_of, with_done}
use Rattle.spk_edge.specs.Along.{AllWhole, IsPlanned, IsStepped, messages_from, node_of}
use Rattle.spk_edge.specs.Calls.{AreTakenUp, Call, CutOff, IsAfterCalls, TakeUp, Tell, bytes_out, inputs_by, messages_out, packets_in}
use Rattle.spk_edge.specs.Patch.{IsDone, IsPlan, after_cut, patched, plain_input}
use Rattle.spk_edge.specs.View.{MessageData, NodeData}
use Rattle.spk_edge.specs.declared.message.Out.{Out}
use Rattle.spk_edge.specs.declared.plan.Plan.{Plan}
use Rattle.spk_edge.proofs.Placed.{seam}
use Rattle.spk_edge.proofs.Along.{Stays, new_posts, packets-are, published-after}

-- what is known of one step of a node
pub record Known (s : Setup) : Type 0 where
  pub planned : (is : List Input) (i : Input) (p : Plan) → IsPlan (node_of s is) i p → IsPlanned s is i p
  pub done : (is : List Input) (i : Input) (after : NodeData) (out : Out) → IsDone (node_of s is) i after out → IsStepped s is i after out
  pub none_whole : AllWhole s (published (run_of s []))
  pub whole : (is : List Input) (i : Input) (p : Plan) → IsPlan (node_of s is) i p
      → AllWhole s (published (run_of s is)) → AllWhole s (published (run_of s (i ∷ is)))
  pub done_whole : (is : List Input) (i : Input) (after : NodeData) (out : Out) → IsDone (node_of s is) i after out
      → AllWhole s (published (run_of s is)) → AllWhole s (published (run_of s (i ∷ is)))
  pub cut : (is : List Input) → after_cut (node_of s is) ≡ node_of s (plain_input 0 Cut ∷ is)

-- ---- the data

pub data-are : (s : Setup) → Known s → (calls : List Call) (n : NodeData) → IsAfterCalls s calls n → n ≡ node_of s (inputs_by calls)
data-are s known [] n first = first
data-are s known (TakeUp i p ∷ calls) n called =
    let same = data-are s known calls called.0 called.1 in
    called.2.1 ∙ ap (λ (n : NodeData). patched n p) same
    ∙ (known.planned (inputs_by calls) i p (subst (λ (n : NodeData). IsPlan n i p) same called.2.0)).stands
data-are s known (Tell i out ∷ calls) n called =
    (known.done (inputs_by calls) i n out (subst (λ (b : NodeData). IsDone b i n out) (data-are s known calls called.0 called.1) called.2)).stands
data-are s known (CutOff ∷ calls) n called =
    called.2 ∙ ap after_cut (data-are s known calls called.0 called.1) ∙ known.cut (inputs_by calls)

-- a call's plan, and what it did, are of the node of the inputs so far
plan-of : (s : Setup) → Known s → (i : Input) (p : Plan) (calls : List Call) (n : NodeData) → IsAfterCalls s (TakeUp i p ∷ calls) n
    → IsPlan (node_of s (inputs_by calls)) i p
plan-of s known i p calls n called = subst (λ (n : NodeData). IsPlan n i p) (data-are s known calls called.0 called.1) called.2.0

done-of : (s : Setup) → Known s → (i : Input) (out : Out) (calls : List Call) (n : NodeData) → IsAfterCalls s (Tell i out ∷ calls) n
    → IsDone (node_of s (inputs_by calls)) i n out
done-of s known i out calls n called = subst (λ (b : NodeData). IsDone b i n out) (data-are s known calls called.0 called.1) called.2

planned-of : (s : Setup) → Known s → (i : Input) (p : Plan) (calls : List Call) (n : NodeData) → IsAfterCalls s (TakeUp i p ∷ calls) n
    → IsPlanned s (inputs_by calls) i p
planned-of s known i p calls n called = known.planned (inputs_by calls) i p (plan-of s known i p calls n called)

stepped-of : (s : Setup) → Known s → (i : Input) (out : Out) (calls : List Call) (n : NodeData) → IsAfterCalls s (Tell i out ∷ calls) n
    → IsStepped s (inputs_by calls) i n out
stepped-of s known i out calls n called = known.done (inputs_by calls) i n out (done-of s known i out calls n called)

-- ---- what was done

run-after : (s : Setup) (is : List Input) (i : Input) (answer : Answer) → right_at s (run_of s is) i ≡ Ok answer
    → run_of s (i ∷ is) ≡ (record { input = i; given = answer.given }) ∷ run_of s is
run-after s is i answer ok = ap (λ (r : Result Answer EdgeFault). with_done (run_of s is) i r) ok

done-step : (s : Setup) (is : List Input) (i : Input) (answer : Answer) → right_at s (run_of s is) i ≡ Ok answer
    → map (λ (e : Done). e.input) (run_of s is) ≡ is → map (λ (e : Done). e.input) (run_of s (i ∷ is)) ≡ i ∷ is
done-step s is i answer ok so_far =
    ap (λ (h : List Done). map (λ (e : Done). e.input) h) (run-after s is i answer ok) ∙ ap (λ (l : List Input). i ∷ l) so_far

pub done-are : (s : Setup) → Known s → (calls : List Call) (n : NodeData) → IsAfterCalls s calls n
    → map (λ (e : Done). e.input) (run_of s (inputs_by calls)) ≡ inputs_by calls
done-are s known [] n first = refl
done-are s known (TakeUp i p ∷ calls) n called =
    let found = planned-of s known i p calls n called in
    done-step s (inputs_by calls) i found.answer found.answered (done-are s known calls called.0 called.1)
done-are s known (Tell i out ∷ calls) n called =
    let found = stepped-of s known i out calls n called in
    done-step s (inputs_by calls) i found.answer found.answered (done-are s known calls called.0 called.1)
done-are s known (CutOff ∷ calls) n called = ap (λ (l : List Input). plain_input 0 Cut ∷ l) (done-are s known calls called.0 called.1)

-- ---- bytes

bytes-step : (s : Setup) (is : List Input) (i : Input) (answer : Answer) (before : List (List ℕ)) → right_at s (run_of s is) i ≡ Ok answer
    → before ≡ map spelling (packets_in s (run_of s is))
    → before ++ map spelling answer.packets ≡ map spelling (packets_in s (run_of s (i ∷ is)))
bytes-step s is i answer before ok so_far =
    let h = run_of s is in
    ap (λ (l : List (List ℕ)). l ++ map spelling answer.packets) so_far
    ∙ ap (λ (l : List packets.Message). map spelling (packets_in s h) ++ map spelling l) (packets-are s is i answer ok)
    ∙ sym (map-append spelling (packets_in s h) (packets_of s h answer.given))
    ∙ ap (λ (h : List Done). map spelling (packets_in s h)) (sym (run-after s is i answer ok))

pub bytes-called : (s : Setup) → Known s → (calls : List Call) (n : NodeData) → IsAfterCalls s calls n
    → bytes_out calls ≡ map spelling (packets_in s (run_of s (inputs_by calls)))
bytes-called s known [] n first = refl
bytes-called s known (TakeUp i p ∷ calls) n called =
    let found = planned-of s known i p calls n called in
    ap (λ (l : List (List ℕ)). bytes_out calls ++ l) found.packets
    ∙ bytes-step s (inputs_by calls) i found.answer (bytes_out calls) found.answered (bytes-called s known calls called.0 called.1)
bytes-called s known (Tell i out ∷ calls) n called =
    let found = stepped-of s known i out calls n called in
    ap (λ (l : List (List ℕ)). bytes_out calls ++ l) found.packets
    ∙ bytes-step s (inputs_by calls) i found.answer (bytes_out calls) found.answered (bytes-called s known calls called.0 called.1)
bytes-called s known (CutOff ∷ calls) n called =
    append-nil (bytes_out calls) ∙ bytes-called s known calls called.0 called.1
    ∙ ap (map spelling) (sym (append-nil (packets_in s (run_of s (inputs_by calls)))))

-- a cut publishes nothing
cut-publishes : (s : Setup) (is : List Input) → published (run_of s (plain_input 0 Cut ∷ is)) ≡ published (run_of s is)
cut-publishes s is = append-nil (published (run_of s is))

-- ---- messages

pub messages-called : (s : Setup) → Stays → Known s → (calls : List Call) (n : NodeData) → IsAfterCalls s calls n → AreTakenUp calls
    → messages_out calls ≡ messages_from s (published (run_of s (inputs_by calls))) 0
messages-called s stays known [] n first taken = refl
messages-called s stays known (TakeUp i p ∷ calls) n called taken =
    let is = inputs_by calls in
    let found = planned-of s known i p calls n called in
    let old = published (run_of s is) in
    let all = published (run_of s (i ∷ is)) in
    ap (λ (l : List MessageData). messages_out calls ++ l) found.messages
    ∙ ap (λ (l : List MessageData). l ++ messages_from s all (length old)) (messages-called s stays known calls called.0 called.1 taken.1)
    ∙ seam s stays old (new_posts s is found.answer) all (published-after s is i found.answer found.answered)
messages-called s stays known (Tell i out ∷ calls) n called taken = absurd (true≢false (sym taken.0))
messages-called s stays known (CutOff ∷ calls) n called taken =
    append-nil (messages_out calls) ∙ messages-called s stays known calls called.0 called.1 taken.1
    ∙ ap (λ (l : List Message). messages_from s l 0) (sym (cut-publishes s (inputs_by calls)))

-- ---- each can be written

pub whole-called : (s : Setup) → Known s → (calls : List Call) (n : NodeData) → IsAfterCalls s calls n
    → AllWhole s (published (run_of s (inputs_by calls)))
whole-called s known [] n first = known.none_whole
whole-called s known (TakeUp i p ∷ calls) n called =
    known.whole (inputs_by calls) i p (plan-of s known i p calls n called) (whole-called s known calls called.0 called.1)
whole-called s known (Tell i out ∷ calls) n called =
    known.done_whole (inputs_by calls) i n out (done-of s known i out calls n called) (whole-called s known calls called.0 called.1)
whole-called s known (CutOff ∷ calls) n called =
    subst (AllWhole s) (sym (cut-publishes s (inputs_by calls))) (whole-called s known calls called.0 called.1)
