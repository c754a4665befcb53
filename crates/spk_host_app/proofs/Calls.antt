-- Each call is a run of deeds.
use Rattle.std.proofs.Common.{◌≡◌, ◌∙◌, inl, inr, ◌⊎◌, ℕ, zero, suc, Bool, true, false, true≢false, ◌&&◌, not, List, [], ◌∷◌, length, take, min, refl, sym, ap, arith, if◌then◌else◌}
use Rattle.std.proofs.lemmas.List.{length-take}
use Rattle.spk_link.specs.Data.{Link}
use Rattle.spk_link.specs.Step.{due_at, due_of}
use Rattle.spk_link.specs.declared.stand.Due.{Due}
use Rattle.spk_link.specs.declared.stand.Due.TheVariants as due
use Rattle.spk_link.specs.declared.stand.Stand.{Stand}
use Rattle.spk_link.specs.declared.stand.Stand.TheVariants.{Off, On}
use Rattle.spk_connection.specs.Step.{is_open, stands_open}
use Rattle.spk_host_app.specs.Calls.{AreDone, AskedFor, Call, CameTo, Ended, Fed, HeardOne, IsDone, IsFed, IsReadOn, Left, Opened, ReadAll, TookWord, WentOn, WroteSome}
use Rattle.spk_host_app.specs.Data.{App, Deed, Began, Connected, GaveUp, Over, Pinged, Printed, Read, Requested, Stopped, Ticked, Whole, Word, Wrote}
use Rattle.spk_host_app.specs.Log.{DoesOne, IsBegun, IsGivenUp, IsRequested, IsStopped, IsTicked, May, Reaches, any_deed, takes}
use Rattle.spk_host_app.specs.Step.{after, is_full, is_ping, is_within, pinged, ticked}
use Rattle.spk_host_app.proofs.Runs.{and_then, any, at_end, more, one, stays}

same : (a b : App) → b ≡ a → Reaches any_deed a b
same a b e = at_end any_deed a a b (stays any_deed a) (sym e)

given_up : (a b : App) → IsGivenUp a b → Reaches any_deed a b
given_up a b (f, reason, e) = one any_deed a b (GaveUp f) refl reason e

-- ---- a connection begins

opens_stand : (s : Stand) (l : Link) (now : ℕ) → l.stand ≡ s → stands_open s ≡ false → (a : App) → a.connection.link ≡ l → is_open (after (Began now) a).connection ≡ true
opens_stand (Off at) l now is shut a same = ap (λ k. is_open (after (Began now) (record a { connection = record a.connection { link = k } })).connection) same
    ∙ ap (λ s. is_open (after (Began now) (record a { connection = record a.connection { link = record l { stand = s } } })).connection) is
opens_stand (On m) l now is shut a same = absurd (true≢false shut)

began : (a : App) (now : ℕ) → is_open a.connection ≡ false → Reaches any_deed a (after (Began now) a)
began a now shut = one any_deed a (after (Began now) a) (Began now) refl shut refl

begun : (now : ℕ) (a b : App) → is_open a.connection ≡ false → IsBegun now a b → Reaches any_deed a b
begun now a b shut (inl (fate, outside, e)) =
    more any_deed a (after (Began now) a) b (Connected now fate) (began a now shut) refl
    (outside, opens_stand a.connection.link.stand a.connection.link now refl shut a refl) e
begun now a b shut (inr up) = and_then any_deed a (after (Began now) a) b (began a now shut) (given_up (after (Began now) a) b up)

-- ---- what was read

fed : (piece : List ℕ) (now : ℕ) (a b : App) → IsFed piece now a b → Reaches any_deed a b
fed piece now a b (there, goes_on, inl e) = one any_deed a b (Read piece now) refl (there, goes_on) e
fed piece now a b (there, goes_on, inr up) = given_up a b up

read_on : (piece : List ℕ) (now : ℕ) (a b : App) → IsReadOn piece now a b → Reaches any_deed a b
read_on piece now a b (there, goes_on, inl took) =
    and_then any_deed a (after (Read piece now) a) b (one any_deed a (after (Read piece now) a) (Read piece now) refl (there, goes_on) refl)
    (any takes (after (Read piece now) a) b took)
read_on piece now a b (there, goes_on, inr up) = given_up a b up

took_one : (a b : App) → DoesOne takes a b → Reaches any_deed a b
took_one a b (d, allowed, may, e) = one any_deed a b d refl may e

-- ---- a moment

both_of : (x y : Bool) → (x && y) ≡ true → (x ≡ true) × (y ≡ true)
both_of true true e = (refl, refl)
both_of true false e = absurd (true≢false (sym e))
both_of false y e = absurd (true≢false (sym e))

is_false : (x : Bool) → not x ≡ true → x ≡ false
is_false true e = absurd (true≢false (sym e))
is_false false e = refl

ping_of : (d : Due) → is_ping d ≡ true → d ≡ due.Ping
ping_of due.Ping e = refl
ping_of due.Connect e = absurd (true≢false (sym e))
ping_of due.End e = absurd (true≢false (sym e))
ping_of due.Nothing e = absurd (true≢false (sym e))

no_ping : (b : Bool) → is_ping (if b then due.Connect else due.Nothing) ≡ true → ⊥
no_ping true e = true≢false (sym e)
no_ping false e = true≢false (sym e)

ping_open : (keep : ℕ) (s : Stand) (now : ℕ) → is_ping (due_of keep s now) ≡ true → stands_open s ≡ true
ping_open keep (Off at) now e = absurd (no_ping _ e)
ping_open keep (On m) now e = refl

if_done : (c : Bool) (a m : App) → (c ≡ true → Reaches any_deed a m) → Reaches any_deed a (if c then m else a)
if_done true a m f = f refl
if_done false a m f = stays any_deed a

pings : (now : ℕ) (a : App) → Reaches any_deed a (pinged now a)
pings now a = if_done (not a.closing && is_ping (due_at a.connection.link now)) a (after (Pinged now) a)
    (λ e. let due = (both_of _ _ e).1 in
    one any_deed a (after (Pinged now) a) (Pinged now) refl
    (ping_open a.connection.link.keep a.connection.link.stand now due, ping_of (due_at a.connection.link now) due) refl)

ticks : (now : ℕ) (a : App) → Reaches any_deed a (ticked now a)
ticks now a = if_done (not a.closing && (not (is_full a) && (is_open a.connection && is_within a))) a (after (Ticked now Whole) a)
    (λ e. let (goes_on, rest) = both_of (not a.closing) _ e in
    let (room, others) = both_of (not (is_full a)) _ rest in
    let (there, within) = both_of (is_open a.connection) _ others in
    one any_deed a (after (Ticked now Whole) a) (Ticked now Whole) refl
    ((within, is_false a.closing goes_on, is_false (is_full a) room), there) refl)

ticked_by : (now : ℕ) (a b : App) → IsTicked now a b → Reaches any_deed a b
ticked_by now a b (inl (fate, may, e)) = one any_deed a b (Ticked now fate) refl may e
ticked_by now a b (inr up) = given_up a b up

moment : (now : ℕ) (a b : App) → IsDone a (CameTo now) b → Reaches any_deed a b
moment now a b (inl e) =
    at_end any_deed a (ticked now (pinged now a)) b (and_then any_deed a (pinged now a) (ticked now (pinged now a)) (pings now a) (ticks now (pinged now a))) (sym e)
moment now a b (inr (inl up)) = given_up a b up
moment now a b (inr (inr t)) = and_then any_deed a (pinged now a) b (pings now a) (ticked_by now (pinged now a) b t)

-- ---- the others

requested : (group node : List ℕ) (now : ℕ) (a b : App) → IsRequested group node now a b → Reaches any_deed a b
requested group node now a b (inl (fate, may, e)) = one any_deed a b (Requested group node now fate) refl may e
requested group node now a b (inr up) = given_up a b up

stopped : (now : ℕ) (a b : App) → IsStopped now a b → Reaches any_deed a b
stopped now a b (inl (fate, may, e)) = one any_deed a b (Stopped now fate) refl may e
stopped now a b (inr up) = given_up a b up

front_again : (count : ℕ) (xs : List ℕ) → take count xs ≡ take (length (take count xs)) xs
front_again zero xs = refl
front_again (suc n) [] = refl
front_again (suc n) (x ∷ xs) = ap (λ l. x ∷ l) (front_again n xs)

pub call_reaches : (call : Call) (a b : App) → IsDone a call b → Reaches any_deed a b
call_reaches (Opened now) a b (inl e) = same a b e
call_reaches (Opened now) a b (inr (shut, is)) = begun now a b shut is
call_reaches (Fed piece now) a b (inl e) = same a b e
call_reaches (Fed piece now) a b (inr is) = fed piece now a b is
call_reaches (HeardOne now) a b (inl e) = same a b e
call_reaches (HeardOne now) a b (inr is) = took_one a b is
call_reaches (WentOn now) a b is = any takes a b is
call_reaches (ReadAll piece now) a b (inl e) = same a b e
call_reaches (ReadAll piece now) a b (inr is) = read_on piece now a b is
call_reaches (CameTo now) a b is = moment now a b is
call_reaches (AskedFor group node now) a b (inl e) = same a b e
call_reaches (AskedFor group node now) a b (inr is) = requested group node now a b is
call_reaches (Left now) a b (inl e) = same a b e
call_reaches (Left now) a b (inr is) = stopped now a b is
call_reaches (Ended now) a b e = one any_deed a b (Over now) refl tt e
call_reaches (WroteSome count now) a b e =
    one any_deed a b (Wrote (take count a.connection.unwritten) now) refl (front_again count a.connection.unwritten) e
call_reaches TookWord a b (inl e) = same a b e
call_reaches TookWord a b (inr (w, may, e)) = one any_deed a b (Printed w) refl may e

pub calls_reach : (calls : List Call) (a b : App) → AreDone a calls b → Reaches any_deed a b
calls_reach [] a b e = same a b e
calls_reach (call ∷ calls) a b (m, before, done) = and_then any_deed a m b (calls_reach calls a m before) (call_reaches call m b done)
