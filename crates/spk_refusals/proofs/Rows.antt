-- What wrong bodies make, by hand, named by what each shows; and of some what no clause of the real call allows.
use Rattle.std.proofs.Common.{◌≡◌, ℕ, ◌+◌, ◌%◌, true, false, List, [], ◌∷◌, map, Some, None, Result, Ok, Err, refl, sym, ap, ◌∙◌, arith, codes}
use Rattle.spk_packets.specs.Message.{Disconnect, PingReq}
use Rattle.spk_packets.specs.Spelling.{spelling}
use Rattle.spk_payload.specs.Meaning.{PayloadData}
use Rattle.spk_edge.specs.Patch.{IsDone}
use Rattle.spk_edge.specs.Sealing.{bytes_of}
use Rattle.spk_edge.specs.View.{NodeData}
use Rattle.spk_edge.specs.declared.message.Out.{Out}
use Rattle.spk_edge_rules.specs.Answers.{Answer}
use Rattle.spk_edge_rules.specs.Inputs.{Input}
use Rattle.spk_edge_rules.specs.Step.{answer_at, seq_kept, stepped}
use Rattle.spk_edge_rules.specs.declared.fault.EdgeFault.{EdgeFault}
use Rattle.spk_ingress.specs.declared.rule.Message.{Message}
use Rattle.spk_plant_broker.specs.Step.{has_ended}
use Rattle.spk_plan.specs.declared.plan.Plan.{Plan}
use Rattle.spk_plant.specs.Report.{RunsAs}
use Rattle.spk_plant.specs.declared.report.Report.{Report}
use Rattle.spk_refusals.specs.Wrong.{IsEmptied, begins_with, first_brought, further_on, is_disconnect, is_of_device, is_short, longer, not_passed, turned}
use Rattle.spk_refusals.specs.declared.turning.Turn.TheVariants.{DeviceNumber, Stamp}

-- ---- packets

-- PINGREQ
a_length_of_one_byte_stands_in_two : longer (192 ∷ 0 ∷ []) ≡ 192 ∷ 128 ∷ 0 ∷ []
a_length_of_one_byte_stands_in_two = refl

it_was_short : is_short (192 ∷ 0 ∷ []) ≡ true
it_was_short = refl

a_length_of_two_bytes_stays : longer (48 ∷ 128 ∷ 1 ∷ []) ≡ 48 ∷ 128 ∷ 1 ∷ []
a_length_of_two_bytes_stays = refl

-- the bytes of a packet whose length stands in one byte are never as they were
a_short_length_never_stays : (xs : List ℕ) → is_short xs ≡ true → longer xs ≡ xs → ⊥
a_short_length_never_stays [] short same = cc
a_short_length_never_stays (kind ∷ []) short same = cc
a_short_length_never_stays (kind ∷ size ∷ rest) short same =
    let two : kind ∷ (size + 128) ∷ 0 ∷ rest ≡ kind ∷ size ∷ rest = rw short at same in
    let more : size + 128 ≡ size = cc in
    absurd (omega arith)

-- ---- the broker

the_first_that_passes_stands_first : first_brought (begins_with 32) ((48 ∷ []) ∷ (32 ∷ []) ∷ (32 ∷ 2 ∷ []) ∷ []) ≡ (32 ∷ []) ∷ (48 ∷ []) ∷ (32 ∷ 2 ∷ []) ∷ []
the_first_that_passes_stands_first = refl

where_none_passes_all_stays : first_brought (begins_with 32) ((48 ∷ []) ∷ []) ≡ (48 ∷ []) ∷ []
where_none_passes_all_stays = refl

a_disconnect_is_one : is_disconnect Disconnect ≡ true
a_disconnect_is_one = refl

a_ping_is_none : is_disconnect PingReq ≡ false
a_ping_is_none = refl

-- ---- the edge node

a_dbirth_is_of_a_device : is_of_device (codes "spBv1.0/G/DBIRTH/N/D") ≡ true
a_dbirth_is_of_a_device = refl

an_nbirth_is_of_none : is_of_device (codes "spBv1.0/G/NBIRTH/N") ≡ false
an_nbirth_is_of_none = refl

abbrev second : PayloadData
second = record { timestamp = Some 5; metrics = []; seq = Some 1 }

the_second_message_has_number_0 : turned DeviceNumber second ≡ record { timestamp = Some 5; metrics = []; seq = Some 0 }
the_second_message_has_number_0 = refl

a_stamp_is_the_last_one : turned (Stamp 4) second ≡ record { timestamp = Some 4; metrics = []; seq = Some 1 }
a_stamp_is_the_last_one = refl

a_clock_that_stands_has_not_passed : not_passed (Some 7) 7 ≡ Some 7
a_clock_that_stands_has_not_passed = refl

a_clock_past_the_stamp_has : not_passed (Some 7) 8 ≡ None
a_clock_past_the_stamp_has = refl

-- the node that goes on in its place has the next number
a_node_further_on_has_the_next_number : (n : NodeData)
    → (further_on n).standing.seq ≡ (seq_kept n.config.numbering n.standing.seq + 1) % 256
a_node_further_on_has_the_next_number n =
    let next : ℕ = (seq_kept n.config.numbering n.standing.seq + 1) % 256 in
    let small : next % 256 ≡ next = omega arith in
    small

same_answer : (r : Result Answer EdgeFault) (one other : Answer) → r ≡ Ok one → r ≡ Ok other → one ≡ other
same_answer r one other a b = cc

-- What `done` allows of an input is one list of packets, and one node: where a packet or the node is another, it refuses.
done_allows_one_answer : (n a b : NodeData) (i : Input) (x y : Out) → IsDone n i a x → IsDone n i b y
    → (map bytes_of x.packets.items ≡ map bytes_of y.packets.items) × (a ≡ b)
done_allows_one_answer n a b i x y one other =
    let same = same_answer (answer_at n.config n.standing i) one.answer other.answer one.answered other.answered in (
      one.packets ∙ ap (λ (answer : Answer). map spelling answer.packets) same ∙ sym other.packets,
      one.stands ∙ ap (λ (answer : Answer). record n { standing = stepped n.config n.standing i answer.given }) same ∙ sym other.stands,
    )

-- ---- the plant

-- in a report that runs as a plan each thread has ended, and the first one's end was taken
an_emptied_report_runs_as_no_plan : (p : Plan) (real r : Report) → IsEmptied real r → RunsAs p r → ⊥
an_emptied_report_runs_as_no_plan p real r emptied runs =
    let none : false ≡ true =
    ap (λ (taken : List Message). has_ended 0 taken) (sym emptied.1 ∙ runs.logged.taken) ∙ runs.logged.ended 0 (omega arith) in
    cc
