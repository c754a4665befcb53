-- Whoever opened a connection has a ring, and no client sends more Cut frames than there are frames.
use Rattle.std.proofs.Common.{◌≡◌, ℕ, ◌+◌, ◌-◌, ◌<◌, ◌≤◌, ◌^◌, ◌==◌, ◌&&◌, ◌||◌, if◌then◌else◌, Bool, true, false, List, [], ◌∷◌, ◌++◌, length, length-append, Some, None, is_some, refl, sym, ◌∙◌, ap, subst, arith, eq-eqb, Result, Ok, Err, OnOk}
use Rattle.std.specs.List.{list_any, slice_get}
use Rattle.std.proofs.Math.Bool.{or-true}
use Rattle.std.proofs.lemmas.List.Folds.{list_any-append}
use Rattle.spk_ingress.specs.declared.rule.Message.{Message}
use Rattle.spk_broker_rules.specs.Data.{Broker}
use Rattle.spk_broker_rules.specs.Plan as event
use Rattle.spk_broker_rules.specs.Step.{is_newcomer, knows, session_by, step}
use Rattle.spk_plant_broker.specs.declared.hub.Hub.{Hub}
use Rattle.spk_plant_broker.specs.declared.line.Line.{Line}
use Rattle.spk_plant_broker.specs.Data.{Entry}
use Rattle.spk_plant_broker.specs.Holding.{AreBelow, CountsCuts, HasRings, IsIdle, IsNoted, MayOpen, Setting}
use Rattle.spk_plant_broker.specs.Log.{taken_of}
use Rattle.spk_plant_broker.specs.Step.{client_of, cuts_in, is_cut, known}
use Rattle.spk_plant_broker.proofs.Each.{each_push}

pub on_ok_any : {T E P : Type 0} (r : Result T E) → P → OnOk r P
on_ok_any (Ok x) p = p
on_ok_any (Err e) p = tt

-- ---- connections

pub opener_below : (n : ℕ) (openers : List ℕ) (conn k : ℕ) → AreBelow n openers → Some k ≡ client_of openers conn → k < n
opener_below n openers conn k below is = go (conn == 0) is
  where
    go : (b : Bool) → Some k ≡ (if b then None else slice_get openers (conn - 1)) → k < n
    go true e = absurd cc
    go false e = below (conn - 1) k (sym e)

pub below_push : (n : ℕ) (openers more : List ℕ) (k : ℕ) → more ≡ openers ++ k ∷ [] → k < n → AreBelow n openers → AreBelow n more
below_push n openers more k is small below =
    subst (AreBelow n) (sym is) (each_push (λ i j. j < n) openers k below small)

pub below_same : (n : ℕ) (openers others : List ℕ) → others ≡ openers → AreBelow n openers → AreBelow n others
below_same n openers others is below = subst (AreBelow n) (sym is) below

-- a connection that was opened is known
pub knows_opened : (b : Broker) (now : ℕ) → knows (step b (event.Open now)).broker (b.given + 1) ≡ true
unfolding step
knows_opened b now =
    ap (λ x. x || is_some (session_by (b.given + 1) b.sessions))
    (list_any-append (is_newcomer (b.given + 1)) b.newcomers _
    ∙ (ap (λ x. list_any (is_newcomer (b.given + 1)) b.newcomers || (x || false)) (eq-eqb (b.given + 1) (b.given + 1) refl)
    ∙ or-true (list_any (is_newcomer (b.given + 1)) b.newcomers)))

pub known_opened : (b new : Broker) (now conn : ℕ) → new ≡ (step b (event.Open now)).broker → conn ≡ b.given + 1 → known new (Some conn) ≡ Some conn
known_opened b new now conn is number =
    ap (λ x. if x then Some conn else None)
    (ap (λ n. knows new n) number ∙ (ap (λ x. knows x (b.given + 1)) is ∙ knows_opened b now))

-- ---- rings

pub rings_same : (h k : Hub) → k.desk.openers.items ≡ h.desk.openers.items → length k.lines.items ≡ length h.lines.items → HasRings h → HasRings k
rings_same h k openers sized rings = record {
  openers = subst (λ n. AreBelow n k.desk.openers.items) (sym sized)
      (below_same (length h.lines.items) h.desk.openers.items k.desk.openers.items openers rings.openers);
}

pub rings_noted : (m : Message) (now : ℕ) (h k : Hub) → IsNoted m now h k → HasRings h → HasRings k
rings_noted m now h k noted rings =
    rings_same h k (ap (λ (x : Hub). x.desk.openers.items) noted.same) (ap (λ (x : Hub). length x.lines.items) noted.same) rings

-- a client with a ring may have opened a connection
pub rings_opened : (client : ℕ) (h k : Hub) → client < length h.lines.items → MayOpen client h.desk k.desk → length k.lines.items ≡ length h.lines.items → HasRings h → HasRings k
rings_opened client h k small may sized rings = record {
  openers = subst (λ n. AreBelow n k.desk.openers.items) (sym sized) (may (length h.lines.items) small rings.openers);
}

-- ---- Cut frames

pub cuts_few : (k : ℕ) (ms : List Message) → cuts_in k ms ≤ length ms
cuts_few k [] = omega arith
cuts_few k (m ∷ ms) = go ((m.sender == k) && is_cut m.frame) (cuts_few k ms)
  where
    go : (b : Bool) → cuts_in k ms ≤ length ms → ((if b then 1 else 0) + cuts_in k ms) ≤ length (m ∷ ms)
    go true h = omega (arith, h)
    go false h = omega (arith, h)

pub counts_cuts : (s : Setting) (log : List Entry) (h : Hub) (k : ℕ) → IsIdle s h log → CountsCuts k h
counts_cuts s log h k idle l is =
    let held = idle.rests.holds in
    let count : l.cuts ≡ cuts_in k (taken_of log) = (held.lines k l is).2.count in
    let few : cuts_in k (taken_of log) ≤ length (taken_of log) = cuts_few k (taken_of log) in
    let sized : length h.taken.items ≡ length (taken_of log) = ap length held.taken in
    omega (arith, count, few, sized)

-- one frame more is taken, so that one Cut frame more can be counted
pub cuts_fit : (m : Message) (now k : ℕ) (h g : Hub) → IsNoted m now h g → CountsCuts k h → (l : Line) → slice_get g.lines.items k ≡ Some l → l.cuts + 1 < 2 ^ 64
cuts_fit m now k h g noted counts l is =
    let few : l.cuts ≤ length h.taken.items = counts l (subst (λ (x : Hub). slice_get x.lines.items k ≡ Some l) noted.same is) in
    let sized : length g.taken.items ≡ length h.taken.items + 1 = ap length noted.taken ∙ length-append h.taken.items (m ∷ []) in
    omega (arith, few, sized, g.taken.ok.0)
