-- What the rules look at: stepped from input to input, and asked of the list of what was done.
use Rattle.std.proofs.Common.{◌≡◌, ℕ, ◌+◌, ◌-◌, ◌%◌, Bool, true, false, cond, List, [], ◌∷◌, ◌++◌, map, Option, Some, None, is_some, refl, sym, ◌∙◌, ap, arith, inl, inr}
use Rattle.std.specs.Prelude.{◌==◌, if◌then◌else◌}
use Rattle.std.specs.List.{enumerate_from, last_or}
use Rattle.std.specs.Option.{option_map}
use Rattle.std.specs.Str.{bytes_eq}
use Rattle.std.proofs.lemmas.Bool.{cases_lt, lt-ltb, le-ltb}
use Rattle.std.proofs.lemmas.List.{map-append, length-drop}
use Rattle.spk_payload.specs.Typing.{Typed}
use Rattle.spk_device.specs.Book.{Book, DeviceData, GaugeData}
use Rattle.spk_device.specs.Step as device
use Rattle.spk_store.specs.Data.{Kept}
use Rattle.spk_store.specs.Calls.{Call, Push, DropFront, store_of}
use Rattle.spk_store.specs.Kept as kept
use Rattle.spk_store.specs.Law.{as_called}
use Rattle.spk_state.specs.Step.{after_heard}
use Rattle.spk_state.specs.Text.{state_at}
use Rattle.spk_state.specs.declared.state.State as read
use Rattle.spk_edge_rules.specs.Config.{Config, Setup}
use Rattle.spk_edge_rules.specs.Inputs.{Act, Open, Accepted, Change, Changes, Turn, Command, State, Drain, Stop, Cut, TurnedAway, Pass, Input, ChangeData}
use Rattle.spk_edge_rules.specs.Messages.{Draft, opens}
use Rattle.spk_edge_rules.specs.Rules.{Asked, Given, with_values}
use Rattle.spk_edge_rules.specs.Step.{asked_after, book_after, fresh_standing, heard_after, heard_by, is_open, stamp_after, store_after}
use Rattle.spk_edge_rules.specs.Run.{Done, Message, asked_of, book_of, calls_of, device_by, gauge_by, greater, greatest_of, heard_of, kept_of, last_set, last_turn, opened, posts, births_in, published, session_number, stamp_of, with_call}
use Rattle.spk_edge_rules.proofs.Courses.{KeepsLaw}

abbrev pub done_of : ℕ → Option ℕ → Act → Given → Done
done_of now ack act g = record { input = record { now = now; ack = ack; act = act }; given = g }

-- ---- the registry

-- a value that is set is the last one set
set-gauges : (h : List Done) (now : ℕ) (ack : Option ℕ) (given : Given) (alias : ℕ) (value : Option Typed) (n : ℕ) (gs : List GaugeData)
    → device.values_with n alias value (map (gauge_by h) (enumerate_from n gs)) ≡ map (gauge_by (done_of now ack (Change alias value) given ∷ h)) (enumerate_from n gs)
set-gauges h now ack given alias value n [] = refl
set-gauges h now ack given alias value n (g ∷ gs) = one (n + 1 == alias) (set-gauges h now ack given alias value (n + 1) gs)
  where
    one : (b : Bool) → device.values_with (n + 1) alias value (map (gauge_by h) (enumerate_from (n + 1) gs)) ≡ map (gauge_by (done_of now ack (Change alias value) given ∷ h)) (enumerate_from (n + 1) gs)
        → (if b then record (gauge_by h (n, g)) { value = value } else gauge_by h (n, g)) ∷ device.values_with (n + 1) alias value (map (gauge_by h) (enumerate_from (n + 1) gs))
        ≡ (record g { value = if b then value else last_set h (n + 1) g.value }) ∷ map (gauge_by (done_of now ack (Change alias value) given ∷ h)) (enumerate_from (n + 1) gs)
    one true rest = ap (λ l. (record g { value = value }) ∷ l) rest
    one false rest = ap (λ l. gauge_by h (n, g) ∷ l) rest

set-one : (s : Setup) (h : List Done) (now : ℕ) (ack : Option ℕ) (alias : ℕ) (value : Option Typed) (g : Given)
    → book_after (book_of s h) (Change alias value) ≡ book_of s (done_of now ack (Change alias value) g ∷ h)
set-one s h now ack alias value g =
    ap (λ (l : List GaugeData). let b : Book = record { devices = (book_of s h).devices; gauges = l; values = s.book.values } in b) (set-gauges h now ack g alias value 0 s.book.gauges)

-- of several that are set each is the last one set, where no later one has its alias
set-all : (s : Setup) (h : List Done) (now : ℕ) (ack : Option ℕ) (g : Given) (changes : List (ℕ × Option Typed))
    → with_values (book_of s h) changes ≡ book_of s (done_of now ack (Changes changes) g ∷ h)
set-all s h now ack g [] = refl
set-all s h now ack g (x ∷ xs) =
    ap (λ (b : Book). with_values b xs) (set-one s h now ack x.0 x.1 g) ∙ set-all s (done_of now ack (Change x.0 x.1) g ∷ h) now ack g xs

-- a turn is the last turn
turn-devices : (h : List Done) (now : ℕ) (ack : Option ℕ) (given : Given) (name : List ℕ) (up : Bool) (ds : List DeviceData)
    → map (device.turned name up) (map (device_by h) ds) ≡ map (device_by (done_of now ack (Turn name up) given ∷ h)) ds
turn-devices h now ack given name up [] = refl
turn-devices h now ack given name up (d ∷ ds) = one (bytes_eq name d.name) (turn-devices h now ack given name up ds)
  where
    one : (b : Bool) → map (device.turned name up) (map (device_by h) ds) ≡ map (device_by (done_of now ack (Turn name up) given ∷ h)) ds
        → (if b then record (device_by h d) { up = up } else device_by h d) ∷ map (device.turned name up) (map (device_by h) ds)
        ≡ (record d { up = if b then up else last_turn h d.name d.up }) ∷ map (device_by (done_of now ack (Turn name up) given ∷ h)) ds
    one true rest = ap (λ l. (record d { up = up }) ∷ l) rest
    one false rest = ap (λ l. device_by h d ∷ l) rest

pub book-step : (s : Setup) (h : List Done) (now : ℕ) (ack : Option ℕ) (act : Act) (g : Given) → book_after (book_of s h) act ≡ book_of s (done_of now ack act g ∷ h)
book-step s h now ack Open g = refl
book-step s h now ack Accepted g = refl
book-step s h now ack (Change alias value) g = set-one s h now ack alias value g
book-step s h now ack (Changes changes) g = set-all s h now ack g changes
book-step s h now ack (Turn name up) g =
    ap (λ (l : List DeviceData). let b : Book = record { devices = l; gauges = (book_of s h).gauges; values = s.book.values } in b) (turn-devices h now ack g name up s.book.devices)
book-step s h now ack (Command topic payload) g = refl
book-step s h now ack (State payload) g = refl
book-step s h now ack Drain g = refl
book-step s h now ack Stop g = refl
book-step s h now ack Cut g = refl
book-step s h now ack TurnedAway g = refl
book-step s h now ack Pass g = refl

-- ---- the kept changes

store-room : (capacity : ℕ) (calls : List (Call ChangeData)) → (store_of capacity calls).capacity ≡ capacity
store-room capacity [] = refl
store-room capacity (Push x ∷ calls) = store-room capacity calls
store-room capacity (DropFront n is_lost ∷ calls) = store-room capacity calls

same-kept : (a b : Kept ChangeData) → a.items ≡ b.items → a.capacity ≡ b.capacity → a.lost ≡ b.lost → a ≡ b
same-kept a b items capacity lost =
    ap (λ (xs : List ChangeData). let k : Kept ChangeData = record { items = xs; capacity = a.capacity; lost = a.lost } in k) items
    ∙ ap (λ n. let k : Kept ChangeData = record { items = b.items; capacity = n; lost = a.lost } in k) capacity
    ∙ ap (λ n. let k : Kept ChangeData = record { items = b.items; capacity = b.capacity; lost = n } in k) lost

kept-right : (s : Setup) (h : List Done) → kept.IsLawful s.capacity (calls_of h) → store_of s.capacity (calls_of h) ≡ kept_of s h
kept-right s h lawful =
    same-kept (store_of s.capacity (calls_of h)) (kept_of s h) (as_called s.capacity (calls_of h) lawful).kept (store-room s.capacity (calls_of h)) (as_called s.capacity (calls_of h) lawful).lost

pub keeps-lawful : (s : Setup) (h : List Done) (call : Option (Call ChangeData)) → KeepsLaw (asked_of s h) call → kept.IsLawful s.capacity (calls_of h) → kept.IsLawful s.capacity (with_call call (calls_of h))
keeps-lawful s h None keeps lawful = lawful
keeps-lawful s h (Some (Push x)) keeps lawful = lawful
keeps-lawful s h (Some (DropFront n is_lost)) keeps lawful =
    let size = length-drop (kept.place_of s.capacity (calls_of h)) (kept.pushed (calls_of h)) in
    (omega (arith, keeps, size), lawful)

store-call : (s : Setup) (h : List Done) (call : Option (Call ChangeData)) → kept.IsLawful s.capacity (calls_of h)
    → store_after (kept_of s h) call ≡ store_of s.capacity (with_call call (calls_of h))
store-call s h None lawful = sym (kept-right s h lawful)
store-call s h (Some call) lawful = ap (λ (k : Kept ChangeData). store_after k (Some call)) (sym (kept-right s h lawful))

pub store-step : (s : Setup) (h : List Done) (now : ℕ) (ack : Option ℕ) (act : Act) (g : Given) → KeepsLaw (asked_of s h) g.store → kept.IsLawful s.capacity (calls_of h)
    → store_after (kept_of s h) g.store ≡ kept_of s (done_of now ack act g ∷ h)
store-step s h now ack act g keeps lawful =
    store-call s h g.store lawful ∙ kept-right s (done_of now ack act g ∷ h) (keeps-lawful s h g.store keeps lawful)

-- ---- STATE

greater-heard : (heard : Option ℕ) (s : read.State) → after_heard heard s ≡ greater (Some s.timestamp) heard
greater-heard None s = refl
greater-heard (Some y) s = elim (cases_lt s.timestamp y) [
  | inl less ↦ ap (λ b. cond b (Some y) (Some s.timestamp)) (lt-ltb s.timestamp y less) ∙ ap (λ n. Some n) (omega (arith, less))
  | inr more ↦ ap (λ b. cond b (Some y) (Some s.timestamp)) (le-ltb s.timestamp y more) ∙ ap (λ n. Some n) (omega (arith, more))
]

heard-state : (primary : Option (List ℕ)) (heard : Option ℕ) (s : Option read.State)
    → heard_by primary (if is_some primary then heard else None) s ≡ (if is_some primary then greater (option_map (λ s. s.timestamp) s) heard else None)
heard-state None heard s = refl
heard-state (Some host) heard None = refl
heard-state (Some host) heard (Some s) = greater-heard heard s

heard-step : (c : Config) (h : List Done) (now : ℕ) (ack : Option ℕ) (act : Act) (g : Given) → heard_after c (heard_of c h) act ≡ heard_of c (done_of now ack act g ∷ h)
heard-step c h now ack Open g = refl
heard-step c h now ack Accepted g = refl
heard-step c h now ack (Change alias value) g = refl
heard-step c h now ack (Changes changes) g = refl
heard-step c h now ack (Turn name up) g = refl
heard-step c h now ack (Command topic payload) g = refl
heard-step c h now ack (State payload) g = heard-state c.primary (greatest_of h) (state_at payload)
heard-step c h now ack Drain g = refl
heard-step c h now ack Stop g = refl
heard-step c h now ack Cut g = refl
heard-step c h now ack TurnedAway g = refl
heard-step c h now ack Pass g = refl

-- ---- stamps and sessions

last_or-append : {X : Type 0} (o : Option X) (xs ys : List X) → last_or o (xs ++ ys) ≡ last_or (last_or o xs) ys
last_or-append o [] ys = refl
last_or-append o (x ∷ xs) ys = last_or-append (Some x) xs ys

stamps-posts : (session births : ℕ) (ds : List Draft) → map (λ (m : Message). m.draft.stamp) (posts session births ds) ≡ map (λ (d : Draft). d.stamp) ds
stamps-posts session births [] = refl
stamps-posts session births (d ∷ ds) = ap (λ (l : List ℕ). d.stamp ∷ l) (stamps-posts session (if opens d then births + 1 else births) ds)

stamp-step : (s : Setup) (h : List Done) (now : ℕ) (ack : Option ℕ) (act : Act) (g : Given) → stamp_after (stamp_of s h) g.drafts ≡ stamp_of s (done_of now ack act g ∷ h)
stamp-step s h now ack act g =
    ap (last_or (stamp_of s h)) (sym (stamps-posts (opened h - 1) (births_in (published h)) g.drafts))
    ∙ sym (last_or-append s.stamp (map (λ (m : Message). m.draft.stamp) (published h)) (map (λ (m : Message). m.draft.stamp) (posts (opened h - 1) (births_in (published h)) g.drafts)))
    ∙ ap (last_or s.stamp) (sym (map-append (λ (m : Message). m.draft.stamp) (published h) (posts (opened h - 1) (births_in (published h)) g.drafts)))

bd-step : (s : Setup) (n : ℕ) (b : Bool) → (if b then (session_number s n + 1) % 256 else session_number s n) ≡ session_number s (if b then n + 1 else n)
bd-step s n true = omega arith
bd-step s n false = refl

will-step : (s : Setup) (n : ℕ) (b : Bool) → (if b then session_number s n else session_number s (n - 1)) ≡ session_number s ((if b then n + 1 else n) - 1)
will-step s n true = omega arith
will-step s n false = refl

-- ---- all of it

same-asked : (a b : Asked) → a.phase ≡ b.phase → a.book ≡ b.book → a.store ≡ b.store → a.heard ≡ b.heard → a.stamp ≡ b.stamp → a.bd ≡ b.bd
    → a.will_bd ≡ b.will_bd → a.will_time ≡ b.will_time → a ≡ b
same-asked a b phase book store heard stamp bd will_bd will_time = rw (phase, book, store, heard, stamp, bd, will_bd, will_time) refl

pub asked-step : (s : Setup) (h : List Done) (i : Input) (g : Given) → KeepsLaw (asked_of s h) g.store → kept.IsLawful s.capacity (calls_of h)
    → asked_after s.config (asked_of s h) i g ≡ asked_of s ((record { input = i; given = g }) ∷ h)
asked-step s h i g keeps lawful =
    same-asked (asked_after s.config (asked_of s h) i g) (asked_of s (done_of i.now i.ack i.act g ∷ h))
    refl (book-step s h i.now i.ack i.act g) (store-step s h i.now i.ack i.act g keeps lawful) (heard-step s.config h i.now i.ack i.act g)
    (stamp-step s h i.now i.ack i.act g) (bd-step s (opened h) (is_open i.act)) (will-step s (opened h) (is_open i.act)) refl

devices-first : (ds : List DeviceData) → ds ≡ map (device_by []) ds
devices-first [] = refl
devices-first (d ∷ ds) = ap (λ l. d ∷ l) (devices-first ds)

gauges-first : (n : ℕ) (gs : List GaugeData) → gs ≡ map (gauge_by []) (enumerate_from n gs)
gauges-first n [] = refl
gauges-first n (g ∷ gs) = ap (λ l. g ∷ l) (gauges-first (n + 1) gs)

book-first : (s : Setup) → s.book ≡ book_of s []
book-first s =
    ap (λ (l : List DeviceData). let b : Book = record { devices = l; gauges = s.book.gauges; values = s.book.values } in b) (devices-first s.book.devices)
    ∙ ap (λ (l : List GaugeData). let b : Book = record { devices = map (device_by []) s.book.devices; gauges = l; values = s.book.values } in b) (gauges-first 0 s.book.gauges)

heard-first : (b : Bool) → None ≡ (if b then greatest_of [] else None)
heard-first true = refl
heard-first false = refl

pub asked-first : (s : Setup) → (fresh_standing s).asked ≡ asked_of s []
asked-first s =
    same-asked (fresh_standing s).asked (asked_of s [])
    refl (book-first s) (kept-right s [] tt) (heard-first (is_some s.config.primary)) refl (omega arith) (omega arith) refl
