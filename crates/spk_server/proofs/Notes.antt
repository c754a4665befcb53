-- What is noted of what comes to the broker, and what of that is kept.
use Rattle.std.proofs.Common.{◌≡◌, ℕ, ◌==◌, Bool, true, false, not, ◌&&◌, if◌then◌else◌, List, [], ◌∷◌, ◌++◌, Option, Some, None, refl, sym, ◌∙◌, ap, append_assoc}
use Rattle.std.proofs.lemmas.List.{append-nil}
use Rattle.std.specs.List.{list_all}
use Rattle.std.specs.Option.{option_map}
use Rattle.spk_broker_events.specs.Record.{record_of}
use Rattle.spk_broker_replay.specs.Replay.{journal, notes, run}
use Rattle.spk_broker_rules.specs.Data.{Broker}
use Rattle.spk_broker_rules.specs.Plan.{Event}
use Rattle.spk_broker_rules.specs.Plan as event
use Rattle.spk_broker_rules.specs.Step.{knows, step}
use Rattle.spk_broker_notes.specs.Noted.{Noted, Notes, after_all, bytes_of, records}
use Rattle.spk_broker_notes.specs.Noted as note
use Rattle.spk_clients.specs.declared.cause.Cause.{Cause}
use Rattle.spk_clients.specs.declared.cause.Cause.TheVariants as cause
use Rattle.spk_clients.specs.Client.{awaited, leaves, told}
use Rattle.spk_server.specs.Data.{Deed, InHand, Room, Slow, Timed, Joined, Fed, Skipped, Took, Came, Broke, Left, Ticked, Handed, Shut, Told, Cut, Tried, Waited, Freed, Dropped, Wrote, Blocked, Named, Forgot, Kept, Begun}
use Rattle.spk_server.specs.Step.{after, behind, called, called_on, came, cause_why, changed, freed_from, grace, is_slow, later, publisher, slow_of, tried, tried_at}
use Rattle.spk_server.specs.Log.{IsRun, May, any_deed, is_all_kept, is_empty}
use Rattle.spk_server.specs.Past.{begins_anew, comes_at, comes_from, events_in, kept_in, kept_of, of_hand, on_conn}

-- ---- lists of events

records_both : (es fs : List Event) → records (es ++ fs) ≡ records es ++ records fs
records_both [] fs = refl
records_both (e ∷ es) fs = ap (λ t. record_of e ++ t) (records_both es fs) ∙ sym (append_assoc (record_of e) (records es) (records fs))

run_both : (es fs : List Event) (n : Broker) → run n (es ++ fs) ≡ run (run n es) fs
run_both [] fs n = refl
run_both (e ∷ es) fs n = run_both es fs (step n e).broker

journal_both : (es fs : List Event) (b n : Broker) → journal b n (es ++ fs) ≡ journal b n es ++ journal (run b es) (run n (journal b n es)) fs
journal_both [] fs b n = refl
journal_both (e ∷ es) fs b n =
    let first : List Event = notes b n.clock e in
    let rest : List Event = journal (step b e).broker (run n first) es in
    ap (λ t. first ++ t) (journal_both es fs (step b e).broker (run n first))
    ∙ ap (λ q. first ++ (rest ++ journal (run (step b e).broker es) q fs)) (sym (run_both first rest n))
    ∙ sym (append_assoc first rest (journal (run (step b e).broker es) (run n (first ++ rest)) fs))

all_broker : (es : List Event) (x : Noted) → (after_all es x).broker ≡ run x.broker es
all_broker [] x = refl
all_broker (e ∷ es) x = all_broker es (note.after e x)

-- ---- what a deed leaves

called_noted : (by : Option ℕ) (conn : ℕ) (e : Event) (r : Room) → (called_on by conn e r).noted ≡ after_all (events_in (on_conn r.noted.broker conn by e)) r.noted
called_noted by conn e r = go (knows r.noted.broker conn)
  where
    go : (b : Bool) → (if b then called by e r else r).noted ≡ after_all (events_in (if b then Some (by, e) else None)) r.noted
    go true = refl
    go false = refl

came_noted : (h : Option InHand) (r : Room) → (came h r).noted ≡ after_all (events_in (of_hand r h)) r.noted
came_noted None r = refl
came_noted (Some h) r = called_noted (publisher h) h.conn (event.Packet h.conn h.packet r.now) (record r { in_hand = None })

tried_noted : (o : Option Slow) (r : Room) → (tried o r).noted ≡ r.noted
tried_noted None r = refl
tried_noted (Some w) r = go (is_slow w r)
  where
    go : (b : Bool) → (tried_at b w (changed (awaited (w.client == w.publisher) r.now) w.client r)).noted ≡ r.noted
    go true = refl
    go false = refl

freed_noted : (o : Option ℕ) (conn : ℕ) (r : Room) → (freed_from o conn r).noted ≡ r.noted
freed_noted None conn r = refl
freed_noted (Some slow) conn r = refl

-- neither is anything kept nor do notes begin
abbrev is_usual : Deed → Bool
is_usual (Kept b) = false
is_usual Begun = false
is_usual _ = true

left_noted : (conn : ℕ) (why : Cause) (r : Room) → (called_on None conn (event.Closed conn r.now) (record (changed (leaves (later grace r.now) why) conn r) { in_hand = None })).noted
    ≡ after_all (events_in (on_conn r.noted.broker conn None (event.Closed conn r.now))) r.noted
left_noted conn why r = called_noted None conn (event.Closed conn r.now) (record (changed (leaves (later grace r.now) why) conn r) { in_hand = None })

usual_noted : (d : Deed) (r : Room) → is_usual d ≡ true → (after d r).noted ≡ after_all (comes_at r d) r.noted
usual_noted (Timed m) r u = refl
usual_noted (Joined c) r u = refl
usual_noted (Fed c p) r u = refl
usual_noted (Skipped c p) r u = refl
usual_noted (Took c p rest) r u = refl
usual_noted Came r u = came_noted r.in_hand r
usual_noted (Broke c f) r u = called_noted None c (event.Fault c f r.now) r
usual_noted (Left c w) r u = left_noted c (cause_why w) r
usual_noted Ticked r u = refl
usual_noted (Handed o f) r u = refl
usual_noted (Shut c) r u = refl
usual_noted (Told c s) r u = called_noted None c (event.Refused c s r.now) (changed told c r)
usual_noted (Cut c s) r u = left_noted c cause.Memory (changed told c r)
usual_noted Tried r u = tried_noted r.slow r
usual_noted (Waited c) r u = refl
usual_noted (Freed c) r u = freed_noted (slow_of r.clients c) c (record r { held = behind r.held })
usual_noted (Dropped c) r u = refl
usual_noted (Wrote c n) r u = refl
usual_noted (Blocked c) r u = refl
usual_noted (Named c) r u = refl
usual_noted (Forgot c) r u = refl
usual_noted (Kept b) r u = cc
usual_noted Begun r u = cc

-- ---- the broker

broker_usual : (d : Deed) (r : Room) → is_usual d ≡ true → (after d r).noted.broker ≡ run r.noted.broker (comes_at r d)
broker_usual d r u = ap (λ (x : Noted). x.broker) (usual_noted d r u) ∙ all_broker (comes_at r d) r.noted

broker_step : (d : Deed) (r : Room) → (after d r).noted.broker ≡ run r.noted.broker (comes_at r d)
broker_step (Kept b) r = refl
broker_step Begun r = refl
broker_step (Timed m) r = refl
broker_step (Joined c) r = refl
broker_step (Fed c p) r = refl
broker_step (Skipped c p) r = refl
broker_step (Took c p rest) r = refl
broker_step Came r = broker_usual Came r refl
broker_step (Broke c f) r = broker_usual (Broke c f) r refl
broker_step (Left c w) r = broker_usual (Left c w) r refl
broker_step Ticked r = refl
broker_step (Handed o f) r = refl
broker_step (Shut c) r = refl
broker_step (Told c s) r = broker_usual (Told c s) r refl
broker_step (Cut c s) r = broker_usual (Cut c s) r refl
broker_step Tried r = broker_usual Tried r refl
broker_step (Waited c) r = refl
broker_step (Freed c) r = broker_usual (Freed c) r refl
broker_step (Dropped c) r = refl
broker_step (Wrote c n) r = refl
broker_step (Blocked c) r = refl
broker_step (Named c) r = refl
broker_step (Forgot c) r = refl

pub broker_run : (log : List Deed) (r s : Room) → IsRun any_deed r log s → s.noted.broker ≡ run r.noted.broker (comes_from r log)
broker_run [] r s a = ap (λ (x : Room). x.noted.broker) (sym a)
broker_run (d ∷ ds) r s a =
    broker_run ds (after d r) s a.2
    ∙ ap (λ b. run b (comes_from (after d r) ds)) (broker_step d r)
    ∙ sym (run_both (comes_at r d) (comes_from (after d r) ds) r.noted.broker)

-- ---- the notes

-- what the law of a noted broker says of any events
abbrev Noting : Type 0
Noting = (es : List Event) (x : Noted) (k : Notes) (n : Broker) → x.notes ≡ Some k → n.clock ≡ k.clock
    → (after_all es x).notes ≡ Some (record { clock = (run n (journal x.broker n es)).clock; bytes = k.bytes ++ records (journal x.broker n es) })

-- behind a deed: what is noted, beside a replay with its clock, and what is kept and noted of all that comes then
record Behind (d : Deed) (r : Room) (k : Notes) (n : Broker) : Type 0 where
  noted : Notes
  replay : Broker
  some : (after d r).noted.notes ≡ Some noted
  clock : replay.clock ≡ noted.clock
  rest : (es : List Event) → k.bytes ++ records (journal r.noted.broker n (comes_at r d ++ es))
      ≡ kept_in d ++ (noted.bytes ++ records (journal (after d r).noted.broker replay es))

unkept : (d : Deed) → is_usual d ≡ true → kept_in d ≡ []
unkept (Timed m) u = refl
unkept (Joined c) u = refl
unkept (Fed c p) u = refl
unkept (Skipped c p) u = refl
unkept (Took c p rest) u = refl
unkept Came u = refl
unkept (Broke c f) u = refl
unkept (Left c w) u = refl
unkept Ticked u = refl
unkept (Handed o f) u = refl
unkept (Shut c) u = refl
unkept (Told c s) u = refl
unkept (Cut c s) u = refl
unkept Tried u = refl
unkept (Waited c) u = refl
unkept (Freed c) u = refl
unkept (Dropped c) u = refl
unkept (Wrote c n) u = refl
unkept (Blocked c) u = refl
unkept (Named c) u = refl
unkept (Forgot c) u = refl
unkept (Kept b) u = cc
unkept Begun u = refl

usual_behind : Noting → (d : Deed) (r : Room) (k : Notes) (n : Broker) → is_usual d ≡ true → r.noted.notes ≡ Some k → n.clock ≡ k.clock → Behind d r k n
usual_behind law d r k n u some same =
    let es : List Event = comes_at r d in
    let own : List Event = journal r.noted.broker n es in
    record {
      noted = record { clock = (run n own).clock; bytes = k.bytes ++ records own };
      replay = run n own;
      some = ap (λ (x : Noted). x.notes) (usual_noted d r u) ∙ law es r.noted k n some same;
      clock = refl;
      rest = λ fs.
          let more : List Event = journal (run r.noted.broker es) (run n own) fs in
          ap (λ t. k.bytes ++ records t) (journal_both es fs r.noted.broker n)
          ∙ ap (λ t. k.bytes ++ t) (records_both own more)
          ∙ sym (append_assoc k.bytes (records own) (records more))
          ∙ ap (λ b. (k.bytes ++ records own) ++ records (journal b (run n own) fs)) (sym (broker_usual d r u))
          ∙ ap (λ t. t ++ ((k.bytes ++ records own) ++ records (journal (after d r).noted.broker (run n own) fs))) (sym (unkept d u));
    }

kept_behind : (b : List ℕ) (r : Room) (k : Notes) (n : Broker) → b ≡ bytes_of r.noted.notes → r.noted.notes ≡ Some k → n.clock ≡ k.clock → Behind (Kept b) r k n
kept_behind b r k n is some same = record {
  noted = record k { bytes = [] };
  replay = n;
  some = ap (option_map (λ (m : Notes). record m { bytes = [] })) some;
  clock = same;
  rest = λ es. ap (λ t. t ++ records (journal r.noted.broker n es)) (sym (is ∙ ap bytes_of some));
}

behind_it : Noting → (d : Deed) (r : Room) (k : Notes) (n : Broker) → May d r → not (begins_anew d) ≡ true → r.noted.notes ≡ Some k → n.clock ≡ k.clock → Behind d r k n
behind_it law (Kept b) r k n may u some same = kept_behind b r k n may.1 some same
behind_it law Begun r k n may u some same = cc
behind_it law (Timed m) r k n may u some same = usual_behind law (Timed m) r k n refl some same
behind_it law (Joined c) r k n may u some same = usual_behind law (Joined c) r k n refl some same
behind_it law (Fed c p) r k n may u some same = usual_behind law (Fed c p) r k n refl some same
behind_it law (Skipped c p) r k n may u some same = usual_behind law (Skipped c p) r k n refl some same
behind_it law (Took c p rest) r k n may u some same = usual_behind law (Took c p rest) r k n refl some same
behind_it law Came r k n may u some same = usual_behind law Came r k n refl some same
behind_it law (Broke c f) r k n may u some same = usual_behind law (Broke c f) r k n refl some same
behind_it law (Left c w) r k n may u some same = usual_behind law (Left c w) r k n refl some same
behind_it law Ticked r k n may u some same = usual_behind law Ticked r k n refl some same
behind_it law (Handed o f) r k n may u some same = usual_behind law (Handed o f) r k n refl some same
behind_it law (Shut c) r k n may u some same = usual_behind law (Shut c) r k n refl some same
behind_it law (Told c s) r k n may u some same = usual_behind law (Told c s) r k n refl some same
behind_it law (Cut c s) r k n may u some same = usual_behind law (Cut c s) r k n refl some same
behind_it law Tried r k n may u some same = usual_behind law Tried r k n refl some same
behind_it law (Waited c) r k n may u some same = usual_behind law (Waited c) r k n refl some same
behind_it law (Freed c) r k n may u some same = usual_behind law (Freed c) r k n refl some same
behind_it law (Dropped c) r k n may u some same = usual_behind law (Dropped c) r k n refl some same
behind_it law (Wrote c m) r k n may u some same = usual_behind law (Wrote c m) r k n refl some same
behind_it law (Blocked c) r k n may u some same = usual_behind law (Blocked c) r k n refl some same
behind_it law (Named c) r k n may u some same = usual_behind law (Named c) r k n refl some same
behind_it law (Forgot c) r k n may u some same = usual_behind law (Forgot c) r k n refl some same

both_true : (a b : Bool) → (a && b) ≡ true → (a ≡ true) × (b ≡ true)
both_true true b e = (refl, e)
both_true false b e = cc

pub notes_run : Noting → (log : List Deed) (r s : Room) (k : Notes) (n : Broker) → IsRun any_deed r log s → list_all (λ d. not (begins_anew d)) log ≡ true
    → r.noted.notes ≡ Some k → n.clock ≡ k.clock → kept_of log ++ bytes_of s.noted.notes ≡ k.bytes ++ records (journal r.noted.broker n (comes_from r log))
notes_run law [] r s k n a none some same = ap (λ (x : Room). bytes_of x.noted.notes) (sym a) ∙ ap bytes_of some ∙ sym (append-nil k.bytes)
notes_run law (d ∷ ds) r s k n a none some same =
    let all = both_true (not (begins_anew d)) (list_all (λ d. not (begins_anew d)) ds) none in
    let q = behind_it law d r k n a.1 all.0 some same in
    append_assoc (kept_in d) (kept_of ds) (bytes_of s.noted.notes)
    ∙ ap (λ t. kept_in d ++ t) (notes_run law ds (after d r) s q.noted q.replay a.2 all.1 q.some q.clock)
    ∙ sym (q.rest (comes_from (after d r) ds))

-- ---- what is written

empty_is : (xs : List ℕ) → is_empty xs ≡ true → xs ≡ []
empty_is [] e = refl
empty_is (x ∷ xs) e = cc

-- the room at a deed in the midst of a run
pub amid_run : (before rest : List Deed) (d : Deed) (r s : Room) → IsRun any_deed r (before ++ d ∷ rest) s → (q : Room) × IsRun any_deed r before q × May d q
amid_run [] rest d r s a = (r, refl, a.1)
amid_run (b ∷ bs) rest d r s a =
    let q = amid_run bs rest d (after b r) s a.2 in
    (q.0, (a.0, a.1, q.1), q.2)

pub all_kept : (q : Room) → is_all_kept q ≡ true → bytes_of q.noted.notes ≡ []
all_kept q e = empty_is (bytes_of q.noted.notes) e

-- ---- a broker of which nothing is noted

all_none : (es : List Event) (x : Noted) → x.notes ≡ None → (after_all es x).notes ≡ None
all_none [] x e = e
all_none (f ∷ es) x e = all_none es (note.after f x) (ap (option_map (note.with_notes x.broker f)) e)

none_usual : (d : Deed) (r : Room) → is_usual d ≡ true → r.noted.notes ≡ None → (after d r).noted.notes ≡ None
none_usual d r u e = ap (λ (x : Noted). x.notes) (usual_noted d r u) ∙ all_none (comes_at r d) r.noted e

none_step : (d : Deed) (r : Room) → not (begins_anew d) ≡ true → r.noted.notes ≡ None → (after d r).noted.notes ≡ None
none_step (Kept b) r u e = ap (option_map (λ (m : Notes). record m { bytes = [] })) e
none_step Begun r u e = cc
none_step (Timed m) r u e = e
none_step (Joined c) r u e = none_usual (Joined c) r refl e
none_step (Fed c p) r u e = e
none_step (Skipped c p) r u e = e
none_step (Took c p rest) r u e = e
none_step Came r u e = none_usual Came r refl e
none_step (Broke c f) r u e = none_usual (Broke c f) r refl e
none_step (Left c w) r u e = none_usual (Left c w) r refl e
none_step Ticked r u e = none_usual Ticked r refl e
none_step (Handed o f) r u e = e
none_step (Shut c) r u e = e
none_step (Told c s) r u e = none_usual (Told c s) r refl e
none_step (Cut c s) r u e = none_usual (Cut c s) r refl e
none_step Tried r u e = none_usual Tried r refl e
none_step (Waited c) r u e = e
none_step (Freed c) r u e = none_usual (Freed c) r refl e
none_step (Dropped c) r u e = e
none_step (Wrote c n) r u e = e
none_step (Blocked c) r u e = e
none_step (Named c) r u e = e
none_step (Forgot c) r u e = e

pub none_run : (log : List Deed) (r s : Room) → IsRun any_deed r log s → list_all (λ d. not (begins_anew d)) log ≡ true → r.noted.notes ≡ None → s.noted.notes ≡ None
none_run [] r s a u e = ap (λ (x : Room). x.noted.notes) (sym a) ∙ e
none_run (d ∷ ds) r s a u e =
    let all = both_true (not (begins_anew d)) (list_all (λ d. not (begins_anew d)) ds) u in
    none_run ds (after d r) s a.2 all.1 (none_step d r all.0 e)
