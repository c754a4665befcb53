-- Where no record is wanted, the one on the disk covers all that the node did.
use Rattle.std.proofs.Common.{◌≡◌, ℕ, Bool, true, false, List, [], ◌∷◌, Option, Some, None, refl, sym, subst, if◌then◌else◌, ◌+◌, ◌%◌, ◌&&◌, true≢false, arith, ap}
use Rattle.std.proofs.lemmas.Bool.{eqb-true}
use Rattle.std.specs.List.{AllByRecursion}
use Rattle.spk_edge_app.specs.Run.{is_saved}
use Rattle.spk_edge.specs.View.{NodeData}
use Rattle.spk_edge.specs.declared.message.Out.{Out}
use Rattle.spk_edge_rules.specs.Inputs.{Input}
use Rattle.spk_record.specs.declared.record.Record.{Record}
use Rattle.spk_edge_app.specs.Data.{App, Coming, Answered, Refused, Dropped, Deed, Opened, Read, Heard, Told, Asked, Wrote, Saved, GaveUp, Stopped, Handed, Over, LoginData}
use Rattle.spk_edge_app.specs.Step.{Comes, IsRun, IsStep, Tells, acknowledged, allows, connected, fresh_app, needed, sending, told, wanted_by, with_connection}

there : (r : Record) → Some r ≡ None → ⊥
there r e = cc

if_none : (b : Bool) (r : Record) → (if b then None else Some r) ≡ None → b ≡ true
if_none true r e = refl
if_none false r e = absurd (there r e)

if_some : (b : Bool) (r t : Record) → (if b then Some r else Some t) ≡ None → ⊥
if_some true r t e = there r e
if_some false r t e = there t e

pub covered : (kept : Record) (wanted : Option Record) (n : NodeData) → wanted_by kept wanted n ≡ None → allows kept n ≡ true
covered kept None n e = if_none (allows kept n) (needed n) e
covered kept (Some wanted) n e = absurd (if_some (allows wanted n) wanted (needed n) e)

-- it covers all, if none is wanted
abbrev pub IsCovered : App → Type 0
IsCovered a = a.wanted ≡ None → allows a.kept a.node ≡ true

sent_covered : (sent : Bool) (bytes : List ℕ) (close : Bool) (now : ℕ) (n : NodeData) (out : Out) (a : App) → IsCovered (sending sent bytes close now (told n out a))
sent_covered true bytes true now n out a e = covered a.kept a.wanted n e
sent_covered true bytes false now n out a e = covered a.kept a.wanted n e
sent_covered false bytes close now n out a e = covered a.kept a.wanted n e

tells_covered : (a : App) (i : Input) (out : Out) (bytes : List ℕ) (sent : Bool) (b : App) → Tells a i out bytes sent b → IsCovered b
tells_covered a i out bytes sent b t = subst IsCovered (sym t.is) (sent_covered sent bytes out.close i.now t.node out a)

acknowledged_covered : (ack : Option ℕ) (a : App) → IsCovered a → IsCovered (acknowledged ack a)
acknowledged_covered None a is = is
acknowledged_covered (Some id) a is = is

come_covered : (i : Input) (came : Coming) (a b : App) → Comes i came a b → IsCovered a → IsCovered b
come_covered i (Answered out sent) a b (may, t) is = tells_covered a i out _ sent b t
come_covered i (Refused fault) a b (wrong, may, e) is = subst IsCovered (sym e) (acknowledged_covered i.ack a is)
come_covered i Dropped a b e is = subst IsCovered (sym e) is

pub step_covered : (d : Deed) (a b : App) → IsStep a d b → IsCovered a → IsCovered b
step_covered (Opened now out bytes sent) a b (off, going, says, t) is = tells_covered (connected now a) _ out bytes sent b t
step_covered (Read piece now) a b (on, going, e) is = subst IsCovered (sym e) is
step_covered (Heard packet now came) a b (c, taken, h) is = come_covered _ came (with_connection c a) b h.came_of is
step_covered (Told i out sent) a b (own, may, t) is = tells_covered a i out _ sent b t
step_covered (Asked now) a b (on, e) is = subst IsCovered (sym e) is
step_covered (Wrote first others now) a b (none, (c, step, e)) is = subst IsCovered (sym e) is
step_covered (Saved saved) a b (was, e) is = subst IsCovered (sym e) (λ none. covered saved None a.node none)
step_covered (GaveUp now) a b e is = subst IsCovered (sym e) is
step_covered Stopped a b e is = subst IsCovered (sym e) is
step_covered Handed a b e is = subst IsCovered (sym e) is
step_covered (Over now) a b e is = subst IsCovered (sym e) is

pub always_covered : (n : NodeData) (login : Option LoginData) (kept : Record) (spread : ℕ) (ds : List Deed) (b : App)
    → IsRun (fresh_app n login kept spread) ds b → IsCovered b
always_covered n login kept spread [] b e = subst IsCovered (sym e) (λ none. covered kept None n none)
always_covered n login kept spread (d ∷ ds) b (a, run, step) = step_covered d a b step (always_covered n login kept spread ds a run)

-- ---- each session's own record

still_wanted : (kept : Record) (wanted : Option Record) (n : NodeData) → (wanted ≡ None → ⊥) → wanted_by kept wanted n ≡ None → ⊥
still_wanted kept None n is e = is refl
still_wanted kept (Some w) n is e = if_some (allows w n) w (needed n) e

first_of_two : (x y : Bool) → (x && y) ≡ true → x ≡ true
first_of_two true y e = refl
first_of_two false y e = absurd (true≢false (sym e))

two_bds : (r n m : ℕ) → r ≡ n → r ≡ m → m ≡ (n + 1) % 256 → ⊥
two_bds r n m a b e = omega arith

-- where a session opens, no record that covered the node before covers it now
opened_wants : (kept : Record) (wanted : Option Record) (n m : NodeData) → m.standing.asked.bd ≡ (n.standing.asked.bd + 1) % 256
    → (wanted ≡ None → allows kept n ≡ true) → wanted_by kept wanted m ≡ None → ⊥
opened_wants kept None n m bd is e =
    two_bds kept.bd n.standing.asked.bd m.standing.asked.bd
    (eqb-true kept.bd n.standing.asked.bd (first_of_two _ _ (is refl)))
    (eqb-true kept.bd m.standing.asked.bd (first_of_two _ _ (if_none (allows kept m) (needed m) e))) bd
opened_wants kept (Some w) n m bd is e = if_some (allows w m) w (needed m) e

-- a record is wanted
abbrev pub IsWaiting : App → Type 0
IsWaiting a = a.wanted ≡ None → ⊥

sent_waits : (sent : Bool) (bytes : List ℕ) (close : Bool) (now : ℕ) (n : NodeData) (out : Out) (a : App) → (wanted_by a.kept a.wanted n ≡ None → ⊥)
    → IsWaiting (sending sent bytes close now (told n out a))
sent_waits true bytes true now n out a is = is
sent_waits true bytes false now n out a is = is
sent_waits false bytes close now n out a is = is

pub opened_waits : (now : ℕ) (out : Out) (bytes : List ℕ) (sent : Bool) (a b : App) → IsCovered a → IsStep a (Opened now out bytes sent) b → IsWaiting b
opened_waits now out bytes sent a b covers (off, going, says, t) =
    let bd : t.node.standing.asked.bd ≡ (a.node.standing.asked.bd + 1) % 256 = ap (λ (n : NodeData). n.standing.asked.bd) t.done.stands in
    subst IsWaiting (sym t.is) (sent_waits sent bytes out.close now t.node out (connected now a) (opened_wants a.kept a.wanted a.node t.node bd covers))

tells_waits : (a : App) (i : Input) (out : Out) (bytes : List ℕ) (sent : Bool) (b : App) → Tells a i out bytes sent b → IsWaiting a → IsWaiting b
tells_waits a i out bytes sent b t is = subst IsWaiting (sym t.is) (sent_waits sent bytes out.close i.now t.node out a (still_wanted a.kept a.wanted t.node is))

acknowledged_waits : (ack : Option ℕ) (a : App) → IsWaiting a → IsWaiting (acknowledged ack a)
acknowledged_waits None a is = is
acknowledged_waits (Some id) a is = is

come_waits : (i : Input) (came : Coming) (a b : App) → Comes i came a b → IsWaiting a → IsWaiting b
come_waits i (Answered out sent) a b (may, t) is = tells_waits a i out _ sent b t is
come_waits i (Refused fault) a b (wrong, may, e) is = subst IsWaiting (sym e) (acknowledged_waits i.ack a is)
come_waits i Dropped a b e is = subst IsWaiting (sym e) is

pub step_waits : (d : Deed) (a b : App) → IsStep a d b → is_saved d ≡ false → IsWaiting a → IsWaiting b
step_waits (Opened now out bytes sent) a b (off, going, says, t) unsaved is = tells_waits (connected now a) _ out bytes sent b t is
step_waits (Read piece now) a b (on, going, e) unsaved is = subst IsWaiting (sym e) is
step_waits (Heard packet now came) a b (c, taken, h) unsaved is = come_waits _ came (with_connection c a) b h.came_of is
step_waits (Told i out sent) a b (own, may, t) unsaved is = tells_waits a i out _ sent b t is
step_waits (Asked now) a b (on, e) unsaved is = subst IsWaiting (sym e) is
step_waits (Wrote first others now) a b (none, (c, step, e)) unsaved is = subst IsWaiting (sym e) is
step_waits (Saved saved) a b (was, e) unsaved is = absurd (true≢false unsaved)
step_waits (GaveUp now) a b e unsaved is = subst IsWaiting (sym e) is
step_waits Stopped a b e unsaved is = subst IsWaiting (sym e) is
step_waits Handed a b e unsaved is = subst IsWaiting (sym e) is
step_waits (Over now) a b e unsaved is = subst IsWaiting (sym e) is

pub run_waits : (ds : List Deed) (a b : App) → IsRun a ds b → AllByRecursion (λ d. is_saved d ≡ false) ds → IsWaiting a → IsWaiting b
run_waits [] a b e all is = subst IsWaiting (sym e) is
run_waits (d ∷ ds) a b (m, run, step) all is = step_waits d m b step all.0 (run_waits ds a m run all.1 is)
