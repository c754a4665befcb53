-- What is noted, event by event, and what is taken back.
use Rattle.std.proofs.Common.{◌≡◌, ℕ, max, Bool, true, false, not, ◌&&◌, cond, List, [], ◌∷◌, ◌++◌, refl, sym, ap, ap₂, ◌∙◌, append_assoc, arith, take, length, Option, Some, None}
use Rattle.std.specs.Prelude.{◌==◌}
use Rattle.std.specs.List.{list_any}
use Rattle.std.specs.Option.{option_map}
use Rattle.std.proofs.lemmas.List.{append-nil}
use Rattle.spk_packets.specs.Message.{Message}
use Rattle.spk_session.specs.declared.answer.Sort.{Sort}
use Rattle.spk_session.specs.declared.answer.Sort.TheVariants as sort
use Rattle.spk_broker_events.specs.Record.{record_of}
use Rattle.spk_broker_replay.specs.Replay.{is_idle, journal, notes, run, timeless}
use Rattle.spk_broker_rules.specs.Data.{Broker}
use Rattle.spk_broker_rules.specs.Plan.{Event, Packet, Refused}
use Rattle.spk_broker_rules.specs.Step.{step}
use Rattle.spk_broker_notes.specs.Logs.{clock_of, cut_to, is_drop, late_at, settled, with_late, with_record, wound_to}
use Rattle.spk_broker_notes.specs.Noted.{Noted, Notes, after, after_all, bytes_of, clock_behind, moment_of, records, with_notes}
use Rattle.spk_broker_notes.proofs.Clock.{stepped}

-- ---- lists of events

pub records-both : (es fs : List Event) → records (es ++ fs) ≡ records es ++ records fs
records-both [] fs = refl
records-both (e ∷ es) fs = ap (λ t. record_of e ++ t) (records-both es fs) ∙ sym (append_assoc (record_of e) (records es) (records fs))

run-clock : (es : List Event) (n : Broker) → (run n es).clock ≡ clock_behind n.clock es
run-clock [] n = refl
run-clock (e ∷ es) n = run-clock es (step n e).broker ∙ ap (λ k. clock_behind k es) (stepped n e)

run-both : (es fs : List Event) (n : Broker) → run n (es ++ fs) ≡ run (run n es) fs
run-both [] fs n = refl
run-both (e ∷ es) fs n = run-both es fs (step n e).broker

pub all-broker : (es : List Event) (x : Noted) → (after_all es x).broker ≡ run x.broker es
all-broker [] x = refl
all-broker (e ∷ es) x = all-broker es (after e x)

pub all-notes : (es : List Event) (x : Noted) (k : Notes) (n : Broker) → x.notes ≡ Some k → n.clock ≡ k.clock
    → (after_all es x).notes ≡ Some (record { clock = (run n (journal x.broker n es)).clock; bytes = k.bytes ++ records (journal x.broker n es) })
all-notes [] x k n some same = some ∙ ap (λ (o : Notes). Some o) (ap₂ (λ c bs. record { clock = c; bytes = bs }) (sym same) (sym (append-nil k.bytes)))
all-notes (e ∷ es) x k n some same =
    all-notes es (after e x) m (run n first) (ap (option_map (with_notes x.broker e)) some ∙ ap (λ (o : Notes). Some o) here) refl
    ∙ ap (λ (o : Notes). Some o) (ap₂ (λ c bs. record { clock = c; bytes = bs })
    (ap (λ (z : Broker). z.clock) (sym (run-both first rest n)))
    (append_assoc k.bytes (records first) (records rest) ∙ ap (λ t. k.bytes ++ t) (sym (records-both first rest))))
  where
    first : List Event
    first = notes x.broker n.clock e

    rest : List Event
    rest = journal (step x.broker e).broker (run n first) es

    m : Notes
    m = record { clock = (run n first).clock; bytes = k.bytes ++ records first }

    here : with_notes x.broker e k ≡ m
    here = ap (λ c. record { clock = clock_behind c (notes x.broker c e); bytes = k.bytes ++ records (notes x.broker c e) }) (sym same)
        ∙ ap (λ c. record { clock = c; bytes = k.bytes ++ records first }) (sym (run-clock first n))

-- ---- one call

max-none : (n : ℕ) → max n 0 ≡ n
max-none n = omega arith

pub front : (xs ys : List ℕ) → take (length xs) (xs ++ ys) ≡ xs
front [] ys = refl
front (x ∷ xs) ys = ap (λ t. x ∷ t) (front xs ys)

pub one-note : (b : Broker) (e f : Event) (o : Option Notes) → ((clock : ℕ) → notes b clock e ≡ f ∷ []) → moment_of f ≡ 0 → option_map (with_record f) o ≡ option_map (with_notes b e) o
one-note b e f None is none = refl
one-note b e f (Some n) is none = ap (λ (m : Notes). Some m) (ap₂ (λ c bs. record { clock = c; bytes = bs }) clock (ap (λ t. n.bytes ++ t) bytes))
  where
    clock : n.clock ≡ clock_behind n.clock (notes b n.clock e)
    clock = sym (ap (clock_behind n.clock) (is n.clock) ∙ ap (max n.clock) none ∙ max-none n.clock)

    bytes : record_of f ≡ records (notes b n.clock e)
    bytes = sym (ap records (is n.clock) ∙ append-nil (record_of f))

pub no-note : (b : Broker) (e : Event) (o : Option Notes) → ((clock : ℕ) → notes b clock e ≡ []) → o ≡ option_map (with_notes b e) o
no-note b e None is = refl
no-note b e (Some n) is = ap (λ (m : Notes). Some m) (ap₂ (λ c bs. record { clock = c; bytes = bs })
    (sym (ap (clock_behind n.clock) (is n.clock)))
    (sym (ap (λ es. n.bytes ++ records es) (is n.clock) ∙ append-nil n.bytes)))

pub cut-added : (f : Event) (o : Option Notes) → option_map (cut_to (length (bytes_of o))) (option_map (with_record f) o) ≡ o
cut-added f None = refl
cut-added f (Some n) = ap (λ bs. Some (record n { bytes = bs })) (front n.bytes (record_of f))

pub cut-late : (clock : ℕ) (b : Broker) (o : Option Notes)
    → option_map (wound_to (clock_of o)) (option_map (cut_to (length (bytes_of o))) (option_map (with_late clock b) o)) ≡ o
cut-late clock b None = refl
cut-late clock b (Some n) = ap (λ bs. Some (record n { bytes = bs })) (front n.bytes (records (late_at clock b n)))

-- a note that is taken back where nothing was to be noted
pub settle-is : (b : Broker) (e f : Event) (o : Option Notes) (nothing : Bool) → ((clock : ℕ) → notes b clock e ≡ cond nothing [] (f ∷ [])) → moment_of f ≡ 0
    → settled nothing (length (bytes_of o)) (record { broker = (step b e).broker; notes = option_map (with_record f) o }) ≡ after e (record { broker = b; notes = o })
settle-is b e f o true is none = ap (λ n. record { broker = (step b e).broker; notes = n }) (cut-added f o ∙ no-note b e o is)
settle-is b e f o false is none = ap (λ n. record { broker = (step b e).broker; notes = n }) (one-note b e f o is none)

pub packet-settles : (b : Broker) (conn : ℕ) (p : Message) (now : ℕ) (o : Option Notes) (closes : List ℕ) (nothing : Bool) → closes ≡ (step b (Packet conn p now)).closes
    → nothing ≡ (is_idle p && not (list_any (λ d. d == conn) closes))
    → settled nothing (length (bytes_of o)) (record { broker = (step b (Packet conn p now)).broker; notes = option_map (with_record (Packet conn (timeless p) 0)) o })
    ≡ after (Packet conn p now) (record { broker = b; notes = o })
packet-settles b conn p now o closes nothing all is =
    settle-is b (Packet conn p now) (Packet conn (timeless p) 0) o nothing
    (λ clock. ap (λ v. cond v [] (Packet conn (timeless p) 0 ∷ [])) (sym (is ∙ ap (λ cs. is_idle p && not (list_any (λ d. d == conn) cs)) all))) refl

pub drop-settles : (b : Broker) (conn : ℕ) (which : Sort) (now : ℕ) (o : Option Notes) (closes : List ℕ) (nothing : Bool) → closes ≡ (step b (Refused conn which now)).closes
    → nothing ≡ (is_drop which && not (list_any (λ d. d == conn) closes))
    → settled nothing (length (bytes_of o)) (record { broker = (step b (Refused conn which now)).broker; notes = option_map (with_record (Refused conn sort.Other 0)) o })
    ≡ after (Refused conn which now) (record { broker = b; notes = o })
drop-settles b conn sort.QosZero now o closes nothing all is =
    settle-is b (Refused conn sort.QosZero now) (Refused conn sort.Other 0) o nothing
    (λ clock. by (list_any (λ d. d == conn) (step b (Refused conn sort.QosZero now)).closes) ∙ ap (λ v. cond v [] (Refused conn sort.Other 0 ∷ [])) (sym (is ∙ ap (λ cs. not (list_any (λ d. d == conn) cs)) all))) refl
  where
    by : (v : Bool) → cond v (Refused conn sort.Other 0 ∷ []) [] ≡ cond (not v) [] (Refused conn sort.Other 0 ∷ [])
    by true = refl
    by false = refl
drop-settles b conn sort.Other now o closes nothing all is =
    settle-is b (Refused conn sort.Other now) (Refused conn sort.Other 0) o nothing (λ clock. ap (λ v. cond v [] (Refused conn sort.Other 0 ∷ [])) (sym is)) refl
