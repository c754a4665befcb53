-- What is counted along a run of deeds.
use Rattle.std.proofs.Common.{◌≡◌, ℕ, ◌+◌, ◌==◌, min, if◌then◌else◌, Bool, true, false, cond, List, [], ◌∷◌, length, Option, Some, None, refl, sym, ◌∙◌, ap, arith}
use Rattle.std.specs.List.{filter}
use Rattle.std.specs.Option.{option_map_or}
use Rattle.spk_broker_rules.specs.Plan.{Event}
use Rattle.spk_broker_rules.specs.Plan as event
use Rattle.spk_broker_rules.specs.Step.{knows}
use Rattle.spk_clients.specs.declared.client.Offered.TheVariants.{Taken, Refused, Passed}
use Rattle.spk_clients.specs.declared.cause.Cause.TheVariants as cause
use Rattle.spk_clients.specs.Client.{awaited, leaves, most_number, told}
use Rattle.spk_server.specs.declared.tally.Tally.{Tally}
use Rattle.spk_server.specs.Data.{Deed, InHand, Room, Slow, Timed, Joined, Fed, Skipped, Took, Came, Broke, Left, Ticked, Handed, Shut, Told, Cut, Tried, Waited, Freed, Dropped, Wrote, Blocked, Named, Forgot, Kept, Begun}
use Rattle.spk_broker_notes.specs.Noted.{Noted}
use Rattle.spk_server.specs.Calls.{room_with}
use Rattle.spk_server.specs.Step.{after, behind, called, called_on, came, cause_why, changed, freed_from, grace, is_slow, later, slow_of, tried, tried_at}
use Rattle.spk_server.specs.Log.{IsRun, any_deed}
use Rattle.spk_server.specs.Past.{drops, hears_publish, how_many, sends_publish, stalls_at, stalls_from}
use Rattle.spk_server.specs.Tallies.{fresh_tally, handed_with, heard_with, is_message, is_publish, one_more, stalled}

-- ---- what a deed leaves of the counts

called_tally : (by : Option ℕ) (conn : ℕ) (e : Event) (r : Room) → (called_on by conn e r).tally ≡ r.tally
called_tally by conn e r = go (knows r.noted.broker conn)
  where
    go : (b : Bool) → (if b then called by e r else r).tally ≡ r.tally
    go true = refl
    go false = refl

came_tally : (h : Option InHand) (r : Room) → (came h r).tally ≡ r.tally
came_tally None r = refl
came_tally (Some h) r = called_tally _ h.conn _ (record r { in_hand = None })

freed_tally : (o : Option ℕ) (conn : ℕ) (r : Room) → (freed_from o conn r).tally ≡ r.tally
freed_tally None conn r = refl
freed_tally (Some slow) conn r = refl

tried_tally : (o : Option Slow) (r : Room) → (tried o r).tally ≡ (if option_map_or (λ s. is_slow s r) o false then stalled r.tally else r.tally)
tried_tally None r = refl
tried_tally (Some s) r = go (is_slow s r)
  where
    go : (b : Bool) → (tried_at b s (changed (awaited (s.client == s.publisher) r.now) s.client r)).tally ≡ (if b then stalled r.tally else r.tally)
    go true = refl
    go false = refl

abbrev tally_at : Room → Deed → Tally
tally_at r (Took conn p rest) = heard_with p r.tally
tally_at r (Handed o fate) = handed_with fate (is_message o.send.bytes) r.tally
tally_at r Tried = if stalls_at r Tried then stalled r.tally else r.tally
tally_at r _ = r.tally

tally_step : (d : Deed) (r : Room) → (after d r).tally ≡ tally_at r d
tally_step (Timed m) r = refl
tally_step (Joined c) r = refl
tally_step (Fed c p) r = refl
tally_step (Skipped c p) r = refl
tally_step (Took c p rest) r = refl
tally_step Came r = came_tally r.in_hand r
tally_step (Broke c f) r = called_tally None c (event.Fault c f r.now) r
tally_step (Left c w) r = called_tally None c (event.Closed c r.now) (record (changed (leaves (later grace r.now) (cause_why w)) c r) { in_hand = None })
tally_step Ticked r = refl
tally_step (Handed o f) r = refl
tally_step (Shut q) r = refl
tally_step (Told c s) r = called_tally None c (event.Refused c s r.now) (changed told c r)
tally_step (Cut c s) r = called_tally None c (event.Closed c r.now) (record (changed (leaves (later grace r.now) cause.Memory) c (changed told c r)) { in_hand = None })
tally_step Tried r = tried_tally r.slow r
tally_step (Waited c) r = refl
tally_step (Freed c) r = freed_tally (slow_of r.clients c) c (record r { held = behind r.held })
tally_step (Dropped c) r = refl
tally_step (Wrote c n) r = refl
tally_step (Blocked c) r = refl
tally_step (Named c) r = refl
tally_step (Kept b) r = refl
tally_step Begun r = refl
tally_step (Forgot c) r = refl

-- ---- each count by itself

abbrev stepped : Bool → ℕ → ℕ
stepped b n = if b then one_more n else n

either_way : (g : Tally → ℕ) (b : Bool) (x y : Tally) → g x ≡ g y → g (if b then x else y) ≡ g y
either_way g true x y e = e
either_way g false x y e = refl

heard_by : (b : Bool) (t : Tally) → (if b then record t { heard = one_more t.heard } else t).heard ≡ stepped b t.heard
heard_by true t = refl
heard_by false t = refl

sent_by : (b : Bool) (t : Tally) → (if b then record t { sent = one_more t.sent } else t).sent ≡ stepped b t.sent
sent_by true t = refl
sent_by false t = refl

stalls_by : (b : Bool) (t : Tally) → (if b then stalled t else t).stalls ≡ stepped b t.stalls
stalls_by true t = refl
stalls_by false t = refl

heard_at : (d : Deed) (r : Room) → (tally_at r d).heard ≡ stepped (hears_publish d) r.tally.heard
heard_at (Timed m) r = refl
heard_at (Joined c) r = refl
heard_at (Fed c p) r = refl
heard_at (Skipped c p) r = refl
heard_at (Took c p rest) r = heard_by (is_publish p) r.tally
heard_at Came r = refl
heard_at (Broke c f) r = refl
heard_at (Left c w) r = refl
heard_at Ticked r = refl
heard_at (Handed o Taken) r = either_way (λ (t : Tally). t.heard) (is_message o.send.bytes) (record r.tally { sent = one_more r.tally.sent }) r.tally refl
heard_at (Handed o Refused) r = refl
heard_at (Handed o Passed) r = refl
heard_at (Shut q) r = refl
heard_at (Told c s) r = refl
heard_at (Cut c s) r = refl
heard_at Tried r = either_way (λ (t : Tally). t.heard) (stalls_at r Tried) (stalled r.tally) r.tally refl
heard_at (Waited c) r = refl
heard_at (Freed c) r = refl
heard_at (Dropped c) r = refl
heard_at (Wrote c n) r = refl
heard_at (Blocked c) r = refl
heard_at (Named c) r = refl
heard_at (Kept b) r = refl
heard_at Begun r = refl
heard_at (Forgot c) r = refl

sent_at : (d : Deed) (r : Room) → (tally_at r d).sent ≡ stepped (sends_publish d) r.tally.sent
sent_at (Timed m) r = refl
sent_at (Joined c) r = refl
sent_at (Fed c p) r = refl
sent_at (Skipped c p) r = refl
sent_at (Took c p rest) r = either_way (λ (t : Tally). t.sent) (is_publish p) (record r.tally { heard = one_more r.tally.heard }) r.tally refl
sent_at Came r = refl
sent_at (Broke c f) r = refl
sent_at (Left c w) r = refl
sent_at Ticked r = refl
sent_at (Handed o Taken) r = sent_by (is_message o.send.bytes) r.tally
sent_at (Handed o Refused) r = refl
sent_at (Handed o Passed) r = refl
sent_at (Shut q) r = refl
sent_at (Told c s) r = refl
sent_at (Cut c s) r = refl
sent_at Tried r = either_way (λ (t : Tally). t.sent) (stalls_at r Tried) (stalled r.tally) r.tally refl
sent_at (Waited c) r = refl
sent_at (Freed c) r = refl
sent_at (Dropped c) r = refl
sent_at (Wrote c n) r = refl
sent_at (Blocked c) r = refl
sent_at (Named c) r = refl
sent_at (Kept b) r = refl
sent_at Begun r = refl
sent_at (Forgot c) r = refl

dropped_at : (d : Deed) (r : Room) → (tally_at r d).dropped ≡ stepped (drops d) r.tally.dropped
dropped_at (Timed m) r = refl
dropped_at (Joined c) r = refl
dropped_at (Fed c p) r = refl
dropped_at (Skipped c p) r = refl
dropped_at (Took c p rest) r = either_way (λ (t : Tally). t.dropped) (is_publish p) (record r.tally { heard = one_more r.tally.heard }) r.tally refl
dropped_at Came r = refl
dropped_at (Broke c f) r = refl
dropped_at (Left c w) r = refl
dropped_at Ticked r = refl
dropped_at (Handed o Taken) r = either_way (λ (t : Tally). t.dropped) (is_message o.send.bytes) (record r.tally { sent = one_more r.tally.sent }) r.tally refl
dropped_at (Handed o Refused) r = refl
dropped_at (Handed o Passed) r = refl
dropped_at (Shut q) r = refl
dropped_at (Told c s) r = refl
dropped_at (Cut c s) r = refl
dropped_at Tried r = either_way (λ (t : Tally). t.dropped) (stalls_at r Tried) (stalled r.tally) r.tally refl
dropped_at (Waited c) r = refl
dropped_at (Freed c) r = refl
dropped_at (Dropped c) r = refl
dropped_at (Wrote c n) r = refl
dropped_at (Blocked c) r = refl
dropped_at (Named c) r = refl
dropped_at (Kept b) r = refl
dropped_at Begun r = refl
dropped_at (Forgot c) r = refl

stalls_in : (d : Deed) (r : Room) → (tally_at r d).stalls ≡ stepped (stalls_at r d) r.tally.stalls
stalls_in (Timed m) r = refl
stalls_in (Joined c) r = refl
stalls_in (Fed c p) r = refl
stalls_in (Skipped c p) r = refl
stalls_in (Took c p rest) r = either_way (λ (t : Tally). t.stalls) (is_publish p) (record r.tally { heard = one_more r.tally.heard }) r.tally refl
stalls_in Came r = refl
stalls_in (Broke c f) r = refl
stalls_in (Left c w) r = refl
stalls_in Ticked r = refl
stalls_in (Handed o Taken) r = either_way (λ (t : Tally). t.stalls) (is_message o.send.bytes) (record r.tally { sent = one_more r.tally.sent }) r.tally refl
stalls_in (Handed o Refused) r = refl
stalls_in (Handed o Passed) r = refl
stalls_in (Shut q) r = refl
stalls_in (Told c s) r = refl
stalls_in (Cut c s) r = refl
stalls_in Tried r = stalls_by (stalls_at r Tried) r.tally
stalls_in (Waited c) r = refl
stalls_in (Freed c) r = refl
stalls_in (Dropped c) r = refl
stalls_in (Wrote c n) r = refl
stalls_in (Blocked c) r = refl
stalls_in (Named c) r = refl
stalls_in (Kept b) r = refl
stalls_in Begun r = refl
stalls_in (Forgot c) r = refl

-- ---- a run

abbrev count_from : (Room → Deed → Bool) → Room → List Deed → ℕ
count_from f r [] = 0
count_from f r (d ∷ ds) = (if f r d then 1 else 0) + count_from f (after d r) ds

stepped_min : (b : Bool) (n x : ℕ) → x ≡ min n most_number → stepped b x ≡ min (n + (if b then 1 else 0)) most_number
stepped_min true n x e = omega (arith, e)
stepped_min false n x e = omega (arith, e)

counts_from : (g : Tally → ℕ) (f : Room → Deed → Bool) → ((d : Deed) (r : Room) → g (after d r).tally ≡ stepped (f r d) (g r.tally))
    → (log : List Deed) (r s : Room) (n : ℕ) → IsRun any_deed r log s → g r.tally ≡ min n most_number → g s.tally ≡ min (n + count_from f r log) most_number
counts_from g f step [] r s n run is =
    let same : n ≡ n + 0 = omega arith in
    ap (λ (x : Room). g x.tally) (sym run) ∙ is ∙ ap (λ k. min k most_number) same
counts_from g f step (d ∷ ds) r s n run is =
    let here : ℕ = if f r d then 1 else 0 in
    let sum : (n + here) + count_from f (after d r) ds ≡ n + (here + count_from f (after d r) ds) = omega arith in
    counts_from g f step ds (after d r) s (n + here) run.2 (step d r ∙ stepped_min (f r d) n (g r.tally) is)
    ∙ ap (λ k. min k most_number) sum

many_is : (f : Deed → Bool) (log : List Deed) (r : Room) → count_from (λ q d. f d) r log ≡ how_many f log
many_is f [] r = refl
many_is f (d ∷ ds) r = go (f d) (many_is f ds (after d r))
  where
    go : (b : Bool) → count_from (λ q e. f e) (after d r) ds ≡ how_many f ds → (if b then 1 else 0) + count_from (λ q e. f e) (after d r) ds ≡ length (cond b (d ∷ filter f ds) (filter f ds))
    go true rest = omega (arith, rest)
    go false rest = omega (arith, rest)

stalls_are : (log : List Deed) (r : Room) → count_from stalls_at r log ≡ stalls_from r log
stalls_are [] r = refl
stalls_are (d ∷ ds) r = ap (λ k. (if stalls_at r d then 1 else 0) + k) (stalls_are ds (after d r))

plus_none : (n : ℕ) → 0 + n ≡ n
plus_none n = omega arith

count_of : (g : Tally → ℕ) (f : Deed → Bool) → ((d : Deed) (r : Room) → g (tally_at r d) ≡ stepped (f d) (g r.tally)) → g fresh_tally ≡ 0
    → (x : Noted) (log : List Deed) (r : Room) → IsRun any_deed (room_with x) log r → g r.tally ≡ min (how_many f log) most_number
count_of g f at none x log r run =
    counts_from g (λ q d. f d) (λ d q. ap g (tally_step d q) ∙ at d q) log (room_with x) r 0 run none
    ∙ ap (λ k. min k most_number) (plus_none (count_from (λ q d. f d) (room_with x) log) ∙ many_is f log (room_with x))

pub heard_is : (x : Noted) (log : List Deed) (r : Room) → IsRun any_deed (room_with x) log r → r.tally.heard ≡ min (how_many hears_publish log) most_number
heard_is = count_of (λ (t : Tally). t.heard) hears_publish heard_at refl

pub sent_is : (x : Noted) (log : List Deed) (r : Room) → IsRun any_deed (room_with x) log r → r.tally.sent ≡ min (how_many sends_publish log) most_number
sent_is = count_of (λ (t : Tally). t.sent) sends_publish sent_at refl

pub dropped_is : (x : Noted) (log : List Deed) (r : Room) → IsRun any_deed (room_with x) log r → r.tally.dropped ≡ min (how_many drops log) most_number
dropped_is = count_of (λ (t : Tally). t.dropped) drops dropped_at refl

pub stalls_is : (x : Noted) (log : List Deed) (r : Room) → IsRun any_deed (room_with x) log r → r.tally.stalls ≡ min (stalls_from (room_with x) log) most_number
stalls_is x log r run =
    counts_from (λ (t : Tally). t.stalls) stalls_at (λ d q. ap (λ (t : Tally). t.stalls) (tally_step d q) ∙ stalls_in d q) log (room_with x) r 0 run refl
    ∙ ap (λ k. min k most_number) (plus_none (count_from stalls_at (room_with x) log) ∙ stalls_are log (room_with x))
