-- The clauses of the law on any list of inputs.
use Rattle.std.proofs.Common.{◌≡◌, ℕ, ◌+◌, ◌-◌, ◌^◌, ◌<◌, ◌%◌, min, List, ◌∷◌, length, Some, Ok, Err, refl, sym, ◌∙◌, ap, subst, inl, inr}
use Rattle.std.specs.Prelude.{slice_get}
use Rattle.std.specs.List.{AllByRecursion}
use Rattle.std.proofs.lemmas.Option.{slice_get_within, get_or_from_slice_get}
use Rattle.spk_sequence.specs.NodeRecord as sequence
use Rattle.spk_sequence.specs.NodeRecord.{Numbering, RunsOn, Restarts}
use Rattle.spk_store.specs.Kept as kept
use Rattle.spk_edge_rules.specs.declared.fault.EdgeFault.{EdgeFault}
use Rattle.spk_edge_rules.specs.Answers.{Answer}
use Rattle.spk_edge_rules.specs.Claims.{AreWholeBirths, Joined, ListsWhatIs, SaysSession, link_of}
use Rattle.spk_edge_rules.specs.Config.{Setup}
use Rattle.spk_edge_rules.specs.Inputs.{Input}
use Rattle.spk_edge_rules.specs.Messages.{opens}
use Rattle.spk_edge_rules.specs.Rules.{Asked}
use Rattle.spk_edge_rules.specs.Run.{Message, asked_of, book_of, calls_of, next_number, opened, outline, published, record_of, right_at, run_of, session_number, with_done}
use Rattle.spk_edge_rules.specs.Step.{Record, after_answer, answer_at, record_at, seq_kept, standing_of}
use Rattle.spk_edge_rules.proofs.Chains.{Chain, no_draft, node-record, opens-at}
use Rattle.spk_edge_rules.proofs.Courses.{rules-lawful}
use Rattle.spk_edge_rules.proofs.Numbers.{SeqBy}
use Rattle.spk_edge_rules.proofs.Records.{Runs, Top, right-given, runs-all, runs-step, same-step, told-all}
use Rattle.spk_edge_rules.proofs.Tellings.{course-births, course-joined, rules-list}

runs-of : (s : Setup) (is : List Input) → Runs s (run_of s is)
runs-of s is = runs-all s (run_of s is) (told-all s is).right

pub same_steps : (s : Setup) (is : List Input) (i : Input) → answer_at s.config (standing_of s is) i ≡ right_at s (run_of s is) i
same_steps s is i = same-step s is i (told-all s is)

pub standing_is : (s : Setup) (is : List Input) → (standing_of s is).asked ≡ asked_of s (run_of s is)
standing_is s is = (told-all s is).asked

kept-seq : (s : Setup) (messages : List Message) (seq : ℕ) (numbering : Numbering) → SeqBy numbering s messages seq
    → seq_kept numbering seq ≡ seq_kept numbering ((s.seq + length messages) % 256)
kept-seq s messages seq RunsOn is = is
kept-seq s messages seq Restarts is = refl

pub goes_on : (s : Setup) (is : List Input) → record_at s.config (standing_of s is) ≡ record_of s (run_of s is)
goes_on s is =
    let told = told-all s is in
    ap (λ (a : Asked). let r : Record = record { seq = seq_kept s.config.numbering (standing_of s is).seq; bd = a.bd; stamp = a.stamp } in r) told.asked
    ∙ ap (λ n. let r : Record = record { seq = n; bd = session_number s (opened (run_of s is)); stamp = (asked_of s (run_of s is)).stamp } in r)
    (kept-seq s (published (run_of s is)) (standing_of s is).seq s.config.numbering told.seq)

pub refused : (s : Setup) (is : List Input) (i : Input) (fault : EdgeFault) → right_at s (run_of s is) i ≡ Err fault
    → (run_of s (i ∷ is) ≡ run_of s is) × (standing_of s (i ∷ is) ≡ standing_of s is)
refused s is i fault why = (
  ap (with_done (run_of s is) i) why,
  ap (after_answer s.config (standing_of s is) i) (same_steps s is i ∙ why),
)

chain-of : (messages : List Message) (sessions : ℕ) → Top messages sessions → Chain messages
chain-of messages sessions (inl none) = subst Chain (sym none) tt
chain-of messages sessions (inr (m, ends, within)) = ends.chain

chained : (s : Setup) (is : List Input) → Chain (published (run_of s is))
chained s is = chain-of (published (run_of s is)) (opened (run_of s is)) (runs-of s is).top

pub record_is : (s : Setup) (is : List Input) → sequence.IsNodeRecord (outline (published (run_of s is)))
record_is s is = node-record (published (run_of s is)) (chained s is)

pub openings : (s : Setup) (is : List Input) (p : ℕ) (m : Message) → slice_get (published (run_of s is)) p ≡ Some m
    → sequence.opens (outline (published (run_of s is))) p ≡ opens m.draft
openings s is p m there =
    opens-at (published (run_of s is)) p (chained s is) (slice_get_within (published (run_of s is)) p m there)
    ∙ ap (λ (m : Message). opens m.draft) (get_or_from_slice_get (published (run_of s is)) p m (record { birth = 0; session = 0; draft = no_draft }) there)

pub sessions : (s : Setup) (is : List Input) → AllByRecursion (SaysSession s) (published (run_of s is))
sessions s is = (runs-of s is).says

pub births : (s : Setup) (is : List Input) (i : Input) (answer : Answer) → right_at s (run_of s is) i ≡ Ok answer
    → AllByRecursion (ListsWhatIs (book_of s (run_of s is)) (session_number s (opened (run_of s is) - 1))) answer.given.drafts
births s is i answer e =
    rules-list s.config (next_number s (run_of s is)) (asked_of s (run_of s is)) i answer.given (right-given s (run_of s is) i answer e)

pub whole_births : (s : Setup) (is : List Input) (i : Input) (answer : Answer) → right_at s (run_of s is) i ≡ Ok answer
    → AreWholeBirths (book_of s (run_of s is)) (session_number s (opened (run_of s is) - 1)) answer.given.drafts
whole_births s is i answer e =
    let a = asked_of s (run_of s is) in
    course-births a i.now i.act answer.given (rules-lawful s.config (next_number s (run_of s is)) a i answer.given (right-given s (run_of s is) i answer e)).course

pub joined : (s : Setup) (is : List Input) (i : Input) (answer : Answer) → right_at s (run_of s is) i ≡ Ok answer → 0 < length answer.given.drafts
    → link_of (run_of s (i ∷ is)) ≡ Joined
joined s is i answer e some =
    let a = asked_of s (run_of s is) in
    let given = right-given s (run_of s is) i answer e in
    let runs = runs-step s (run_of s is) i answer.given (runs-of s is) given in
    ap (λ r. link_of (with_done (run_of s is) i r)) e ∙ runs.link
    ∙ course-joined a i.now i.act answer.given (rules-lawful s.config (next_number s (run_of s is)) a i answer.given given).course some

pub kept_lawful : (s : Setup) (is : List Input) → kept.IsLawful s.capacity (calls_of (run_of s is))
kept_lawful s is = (runs-of s is).kept

pub lost : (s : Setup) (is : List Input) → (standing_of s is).asked.store.lost ≡ min (kept.lost_of s.capacity (calls_of (run_of s is))) (2 ^ 64 - 1)
lost s is = ap (λ (a : Asked). a.store.lost) (standing_is s is)
