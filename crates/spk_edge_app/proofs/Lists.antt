-- Each call is a run of deeds.
use Rattle.std.proofs.Common.{◌≡◌, ◌∙◌, inl, inr, ℕ, Bool, true, false, true≢false, ◌&&◌, List, [], ◌∷◌, ◌++◌, length, take, min, Option, Some, None, refl, sym, ap, arith, if◌then◌else◌}
use Rattle.std.proofs.lemmas.Bool.{eqb-true}
use Rattle.std.proofs.lemmas.List.{length-take}
use Rattle.spk_connection.specs.Data.{Connection}
use Rattle.spk_connection.specs.Run as event
use Rattle.spk_connection.specs.Step.{after_wrote}
use Rattle.spk_edge_rules.specs.Inputs.{Input}
use Rattle.spk_edge_rules.specs.Rules.{is_born}
use Rattle.spk_edge_rules.specs.Several.{single}
use Rattle.spk_payload.specs.Typing.{Typed}
use Rattle.spk_record.specs.declared.record.Record.{Record}
use Rattle.spk_edge_app.specs.Calls.{AreTold, EndsBy, HearsAll, IsDrained, IsEnded, IsHeldUp, IsPinged, IsTold, IsToldAll, IsUnread, WasRead, fed, is_same, saved_where, wrote_where}
use Rattle.spk_edge_app.specs.Data as deed
use Rattle.spk_edge_app.specs.Data.{App, Deed}
use Rattle.spk_edge_app.specs.Lists.{AreDone, Call, HeldUp, IsDone, Kept, Moment, NextWrite, Opened, Over, Reaches, Read, Stopped, Told, ToldAll, Unlogged, Unread, Wrote}
use Rattle.spk_edge_app.specs.Step.{IsStep, wanted_by, with_connection}
use Rattle.spk_edge_app.specs.declared.fault.EdgeAppFault.{EdgeAppFault}
use Rattle.spk_edge_app.proofs.Runs.{joined}

pub stays : (a b : App) → b ≡ a → Reaches a b
stays a b e = ([], e)

pub one : (d : Deed) (a b : App) → IsStep a d b → Reaches a b
one d a b step = (d ∷ [], (a, refl, step))

pub and_then : (a m b : App) → Reaches a m → Reaches m b → Reaches a b
and_then a m b x y = (y.0 ++ x.0, joined x.0 y.0 a m b x.1 y.1)

told : (a : App) (i : Input) (b : App) → IsTold a i b → Reaches a b
told a i b t = one (deed.Told i t.out t.sent) a b t.step

told_each : (a : App) (now : ℕ) (changes : List (ℕ × Option Typed)) (b : App) → AreTold a now changes b → Reaches a b
told_each a now [] b is = stays a b is
told_each a now (x ∷ xs) b (m, first, rest) = and_then a m b (told a (single now x) m first) (told_each m now xs b rest)

told_all : (a : App) (now : ℕ) (changes : List (ℕ × Option Typed)) (b : App) → IsToldAll a now changes b → Reaches a b
told_all a now changes b t = by (is_born a.node.standing.asked.phase) refl
  where
    by : (born : Bool) → is_born a.node.standing.asked.phase ≡ born → Reaches a b
    by true born = told a _ b (t.born born)
    by false waits = told_each a now changes b (t.each waits)

ends : (a : App) (now : ℕ) (b : App) (e : EdgeAppFault) → EndsBy a now b e → Reaches a b
ends a now b e (inl x) = one (deed.GaveUp now) a b x.step
ends a now b e (inr x) = one (deed.Heard x.packet now deed.Dropped) a b x.step

hears : (now : ℕ) (a b : App) → HearsAll now a b → Reaches a b
hears now a b h = (h.deeds, h.run)

reads : (a : App) (piece : List ℕ) (now : ℕ) (b : App) → WasRead a piece now b → Reaches a b
reads a piece now b (inl x) =
    and_then a (fed piece now a) b (one (deed.Read piece now) a (fed piece now a) (x.is_there, x.running, refl)) (hears now (fed piece now a) b x.heard)
reads a piece now b (inr x) = stays a b x.1

unread : (a : App) (piece : List ℕ) (now : ℕ) (b : App) (e : EdgeAppFault) → IsUnread a piece now b e → Reaches a b
unread a piece now b e (running, inl x) = one (deed.GaveUp now) a b x.step
unread a piece now b e (running, inr x) =
    and_then a (fed piece now a) b (one (deed.Read piece now) a (fed piece now a) (x.is_there, running, refl))
    (and_then (fed piece now a) x.heard.between b (hears now (fed piece now a) x.heard.between x.heard.heard) (ends x.heard.between now b e x.heard.ends))

pings : (a : App) (now : ℕ) (b : App) → IsPinged a now b → Reaches a b
pings a now b (inl x) = one (deed.Asked now) a b x.1
pings a now b (inr x) = stays a b x.1

drains : (a : App) (now : ℕ) (b : App) → IsDrained a now b → Reaches a b
drains a now b (inl x) = told a _ b x.1
drains a now b (inr x) = stays a b x.1

held_up : (a : App) (now : ℕ) (b : App) (e : EdgeAppFault) → IsHeldUp a now b e → Reaches a b
held_up a now b e (inl (is, due, same)) = stays a b same
held_up a now b e (inr x) = pings a now b x.pinged

ended : (a : App) (now : ℕ) (b : App) → IsEnded a now b → Reaches a b
ended a now b (inl x) = told a _ b x.1
ended a now b (inr x) = one (deed.GaveUp now) a b x.1

both_of : (x y : Bool) → (x && y) ≡ true → (x ≡ true) × (y ≡ true)
both_of true true e = (refl, refl)
both_of true false e = absurd (true≢false (sym e))
both_of false y e = absurd (true≢false (sym e))

same_is : (r s : Record) → is_same r s ≡ true → r ≡ s
same_is r s e =
    let (bd, stamp) = both_of _ _ e in
    ap (λ (x : ℕ). record r { bd = x }) (eqb-true r.bd s.bd bd) ∙ ap (λ (x : ℕ). record s { stamp = x }) (eqb-true r.stamp s.stamp stamp)

saved_if : (same : Bool) (w : Record) (r : Record) (a b : App) → (same ≡ true → w ≡ r) → a.wanted ≡ Some w
    → b ≡ (if same then record a { kept = r; wanted = wanted_by r None a.node } else a) → Reaches a b
saved_if true w r a b is was e = one (deed.Saved r) a b (was ∙ ap Some (is refl), e)
saved_if false w r a b is was e = stays a b e

saved_by : (wanted : Option Record) (r : Record) (a b : App) → a.wanted ≡ wanted → b ≡ saved_where wanted r a → Reaches a b
saved_by None r a b was e = stays a b e
saved_by (Some w) r a b was e = saved_if (is_same w r) w r a b (same_is w r) was e

-- what `spk_connection::laws::any_list` says of a write
abbrev pub Writes : Type 0
Writes = (c : Connection) (count now first : ℕ) (others : List ℕ) → take count c.unwritten ≡ first ∷ others
    → event.IsStep c (event.Wrote first others now) (after_wrote c count now)

wrote_bytes : (k : Writes) (front : List ℕ) (count now : ℕ) (a b : App) → a.wanted ≡ None → take count a.connection.unwritten ≡ front
    → (front ≡ [] → count ≡ 0) → b ≡ with_connection (after_wrote a.connection count now) a → Reaches a b
wrote_bytes k [] count now a b was front none e =
    stays a b (e ∙ ap (λ n. with_connection (after_wrote a.connection n now) a) (none refl))
wrote_bytes k (first ∷ others) count now a b was front none e =
    one (deed.Wrote first others now) a b (was, (after_wrote a.connection count now, k a.connection count now first others front, e))

nothing_taken : (xs : List ℕ) (count : ℕ) → take (min count (length xs)) xs ≡ [] → min count (length xs) ≡ 0
nothing_taken xs count e =
    let none : length (take (min count (length xs)) xs) ≡ 0 = ap length e in
    let all : length (take (min count (length xs)) xs) ≡ min (min count (length xs)) (length xs) = length-take (min count (length xs)) xs in
    omega (arith, none, all)

wrote_by : (k : Writes) (wanted : Option Record) (count now : ℕ) (a b : App) → a.wanted ≡ wanted → b ≡ wrote_where wanted count now a → Reaches a b
wrote_by k None count now a b was e =
    wrote_bytes k (take (min count (length a.connection.unwritten)) a.connection.unwritten) (min count (length a.connection.unwritten)) now a b was refl
    (nothing_taken a.connection.unwritten count) e
wrote_by k (Some w) count now a b was e = stays a b e

pub call_reaches : (k : Writes) (c : Call) (a b : App) → IsDone a c b → Reaches a b
call_reaches k (Opened now) a b x = one (deed.Opened now x.out x.bytes x.sent) a b x.step
call_reaches k (Unlogged now e) a b x = one (deed.Opened now x.out _ false) a b x.step
call_reaches k (Read piece now) a b x = reads a piece now b x
call_reaches k (Unread piece now e) a b x = unread a piece now b e x
call_reaches k (Told i) a b x = told a i b x
call_reaches k (ToldAll now changes) a b x = told_all a now changes b x
call_reaches k (Moment now) a b x = and_then a x.between b (pings a now x.between x.pinged) (drains x.between now b x.drained)
call_reaches k (HeldUp now e) a b x = held_up a now b e x
call_reaches k (Stopped now) a b x = and_then a x.between b (ended a now x.between x.ended) (one deed.Stopped x.between b x.stopped)
call_reaches k (Kept saved) a b x = saved_by a.wanted saved a b refl x
call_reaches k (Wrote count now) a b x = wrote_by k a.wanted count now a b refl x
call_reaches k NextWrite a b x = one deed.Handed a b x
call_reaches k (Over now) a b x = one (deed.Over now) a b x

pub calls_reach : (k : Writes) (calls : List Call) (a b : App) → AreDone a calls b → Reaches a b
calls_reach k [] a b e = stays a b e
calls_reach k (c ∷ calls) a b (m, before, done) = and_then a m b (calls_reach k calls a m before) (call_reaches k c m b done)
