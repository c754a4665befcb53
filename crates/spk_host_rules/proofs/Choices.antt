-- By whole values alone a view shows what a host shows that reads whole values alone.
use Rattle.std.proofs.Common.{◌≡◌, ℕ, ◌-◌, ◌*◌, ◌^◌, inl, inr, ℤ, pos, ◌-ℤ◌, Bool, true, false, not, eqb, ltb, ◌&&◌, ◌||◌, cond, List, [], ◌∷◌, ◌++◌, map, refl, sym, subst, ◌∙◌, ap, Option, Some, None}
use Rattle.std.specs.Prelude.{option_and_then}
use Rattle.std.specs.List.{find, list_any}
use Rattle.std.specs.Option.{option_map}
use Rattle.std.specs.Str.{bytes_eq}
use Rattle.std.proofs.lemmas.Bool.Decides.{eqb_tells}
use Rattle.std.proofs.lemmas.List.{map_push}
use Rattle.spk_payload.specs.Meaning.{Content, Int, Long, Flag, Words, Octets, Float, Double, Other, MetricData, whole_content, whole_metric}
use Rattle.spk_payload.specs.Typing.{Typed, Signed, Unsigned, int_in, long_in, int_or_long_in, truth_in, text_in, bytes_in, float_in, double_in, narrow_signed, signed_64, below, typed_of}
use Rattle.spk_host_rules.specs.Choice.{whole_shown, whole_row, whole_device, whole_view, whole_message, whole_event}
use Rattle.spk_host_rules.specs.Data.{Shown, Nothing, Row, Device, View, Message, NodeBirth, NodeData, DeviceBirth, DeviceData, DeviceDeath, Event, Consumed, Gap, NotLive, Over, Watch}
use Rattle.spk_host_rules.specs.Step.{show, show_all, put_device, unborn, stale_device, ended_device, changed_device, dead_device, devices_of, node_born, view_with, view_after, rows_of, rows_if_born, device_rows, is_device_lacking, is_unknown, is_cause, moment_of, is_birth, may_ask, asks, step, after}
use Rattle.spk_host_rules.specs.Table.{is_set, shown_typed, shown_with, shown_content, shown_of, is_alias, released, replaced, placed, row_of, with_named, with_metric, table_from, name_of, name_by, is_name, changes, changed, lacks, is_lacking}
use Rattle.spk_host_rules.proofs.Lists.{cond-ap, find-map, map-map}

-- ---- what is shown of one value

at_or_not : (P : ℕ → Type 0) (k n : ℕ) → P k → (eqb n k ≡ false → P n) → P n
at_or_not P k n at other =
    elim (eqb_tells n k) [
      | inl h ↦ subst P (sym h.1) at
      | inr h ↦ other h.0
    ]

abbrev IsWhole : Option Typed → Type 0
IsWhole o = whole_shown (shown_typed o) ≡ shown_typed o

narrow : (half : ℕ) (o : Option ℕ) → IsWhole (option_and_then (narrow_signed half) o)
narrow half None = refl
narrow half (Some n) = by (ltb n half) (ltb n (2 * half)) (ltb n (2 ^ 32 - half)) (pos n) (pos n -ℤ pos (2 * half)) (pos n -ℤ pos (2 ^ 32))
  where
    by : (a b c : Bool) (x y z : ℤ) → IsWhole (cond a (Some (Signed x)) (cond b (Some (Signed y)) (cond c None (Some (Signed z)))))
    by true b c x y z = refl
    by false true c x y z = refl
    by false false true x y z = refl
    by false false false x y z = refl

wide : (o : Option ℕ) → IsWhole (option_map signed_64 o)
wide None = refl
wide (Some n) = by (ltb n (2 ^ 63)) (pos n) (pos n -ℤ pos (2 ^ 64))
  where
    by : (b : Bool) (x y : ℤ) → IsWhole (Some (cond b (Signed x) (Signed y)))
    by true x y = refl
    by false x y = refl

limited : (limit : ℕ) (o : Option ℕ) → IsWhole (option_and_then (below limit) o)
limited limit None = refl
limited limit (Some n) = by (ltb n limit)
  where
    by : (b : Bool) → IsWhole (cond b (Some (Unsigned n)) None)
    by true = refl
    by false = refl

unsigned : (o : Option ℕ) → IsWhole (option_map Unsigned o)
unsigned None = refl
unsigned (Some n) = refl

same-int : (c : Content) → int_in c ≡ int_in (whole_content c)
same-int (Int n) = refl
same-int (Long n) = refl
same-int (Flag b) = refl
same-int (Words bytes) = refl
same-int (Octets bytes) = refl
same-int (Float n) = refl
same-int (Double n) = refl
same-int Other = refl

same-long : (c : Content) → long_in c ≡ long_in (whole_content c)
same-long (Int n) = refl
same-long (Long n) = refl
same-long (Flag b) = refl
same-long (Words bytes) = refl
same-long (Octets bytes) = refl
same-long (Float n) = refl
same-long (Double n) = refl
same-long Other = refl

same-number : (c : Content) → int_or_long_in c ≡ int_or_long_in (whole_content c)
same-number (Int n) = refl
same-number (Long n) = refl
same-number (Flag b) = refl
same-number (Words bytes) = refl
same-number (Octets bytes) = refl
same-number (Float n) = refl
same-number (Double n) = refl
same-number Other = refl

abbrev IsKept : (Content → Option Typed) → Content → Type 0
IsKept read c = whole_shown (shown_typed (read c)) ≡ shown_typed (read (whole_content c))

truths : (c : Content) → IsKept truth_in c
truths (Int n) = refl
truths (Long n) = refl
truths (Flag b) = refl
truths (Words bytes) = refl
truths (Octets bytes) = refl
truths (Float n) = refl
truths (Double n) = refl
truths Other = refl

texts : (c : Content) → IsKept text_in c
texts (Int n) = refl
texts (Long n) = refl
texts (Flag b) = refl
texts (Words bytes) = refl
texts (Octets bytes) = refl
texts (Float n) = refl
texts (Double n) = refl
texts Other = refl

octets : (c : Content) → IsKept bytes_in c
octets (Int n) = refl
octets (Long n) = refl
octets (Flag b) = refl
octets (Words bytes) = refl
octets (Octets bytes) = refl
octets (Float n) = refl
octets (Double n) = refl
octets Other = refl

floats : (c : Content) → IsKept float_in c
floats (Int n) = refl
floats (Long n) = refl
floats (Flag b) = refl
floats (Words bytes) = refl
floats (Octets bytes) = refl
floats (Float n) = refl
floats (Double n) = refl
floats Other = refl

doubles : (c : Content) → IsKept double_in c
doubles (Int n) = refl
doubles (Long n) = refl
doubles (Flag b) = refl
doubles (Words bytes) = refl
doubles (Octets bytes) = refl
doubles (Float n) = refl
doubles (Double n) = refl
doubles Other = refl

typed-whole : (d : ℕ) (c : Content) → IsKept (typed_of d) c
typed-whole d c =
    let P : ℕ → Type 0 = λ k. IsKept (typed_of k) c in
    let int : (half : ℕ) → IsKept (λ x. option_and_then (narrow_signed half) (int_in x)) c = λ half. narrow half (int_in c) ∙ ap (λ (o : Option ℕ). shown_typed (option_and_then (narrow_signed half) o)) (same-int c) in
    let low : (limit : ℕ) → IsKept (λ x. option_and_then (below limit) (int_in x)) c = λ limit. limited limit (int_in c) ∙ ap (λ (o : Option ℕ). shown_typed (option_and_then (below limit) o)) (same-int c) in
    let either : IsKept (λ x. option_and_then (below (2 ^ 32)) (int_or_long_in x)) c = limited (2 ^ 32) (int_or_long_in c) ∙ ap (λ (o : Option ℕ). shown_typed (option_and_then (below (2 ^ 32)) o)) (same-number c) in
    let long : IsKept (λ x. option_map signed_64 (long_in x)) c = wide (long_in c) ∙ ap (λ (o : Option ℕ). shown_typed (option_map signed_64 o)) (same-long c) in
    let plain : IsKept (λ x. option_map Unsigned (long_in x)) c = unsigned (long_in c) ∙ ap (λ (o : Option ℕ). shown_typed (option_map Unsigned o)) (same-long c) in
    let moment : IsKept (λ x. option_map Unsigned (int_or_long_in x)) c = unsigned (int_or_long_in c) ∙ ap (λ (o : Option ℕ). shown_typed (option_map Unsigned o)) (same-number c) in
    at_or_not P 1 d (int (2 ^ 7)) (λ f1. at_or_not P 2 d (int (2 ^ 15)) (λ f2. at_or_not P 3 d (int (2 ^ 31)) (λ f3. at_or_not P 4 d long (λ f4. at_or_not P 5 d (low (2 ^ 8)) (λ f5. at_or_not P 6 d (low (2 ^ 16)) (λ f6. at_or_not P 7 d either (λ f7. at_or_not P 8 d plain (λ f8.
    at_or_not P 9 d (floats c) (λ f9. at_or_not P 10 d (doubles c) (λ f10. at_or_not P 11 d (truths c) (λ f11. at_or_not P 12 d (texts c) (λ f12. at_or_not P 13 d moment (λ f13. at_or_not P 14 d (texts c) (λ f14. at_or_not P 15 d (texts c) (λ f15. at_or_not P 17 d (octets c) (λ f17. at_or_not P 18 d (octets c) (λ f18.
    rw (f1, f2, f3, f4, f5, f6, f7, f8, f9, f10, f11, f12, f13, f14, f15, f17, f18) refl)))))))))))))))))

with-whole : (d : Option ℕ) (null : Option Bool) (value : Option Content) → whole_shown (shown_with d null value) ≡ shown_with d null (option_map whole_content value)
with-whole d null value = by (is_set null)
  where
    content : (d : Option ℕ) (value : Option Content) → whole_shown (shown_content d value) ≡ shown_content d (option_map whole_content value)
    content d None = refl
    content None (Some c) = refl
    content (Some k) (Some c) = typed-whole k c

    by : (b : Bool) → whole_shown (cond b Nothing (shown_content d value)) ≡ cond b Nothing (shown_content d (option_map whole_content value))
    by true = refl
    by false = content d value

pub shown-whole : (d : Option ℕ) (m : MetricData) → whole_shown (shown_of d m) ≡ shown_of d (whole_metric m)
shown-whole d m = with-whole d m.null m.value

-- ---- rows

any-map : {X Y : Type 0} (f : X → Y) (p : Y → Bool) (q : X → Bool) → ((x : X) → p (f x) ≡ q x) → (xs : List X) → list_any p (map f xs) ≡ list_any q xs
any-map f p q h [] = refl
any-map f p q h (x ∷ xs) = ap (λ (b : Bool). b || list_any p (map f xs)) (h x) ∙ ap (λ (b : Bool). q x || b) (any-map f p q h xs)

-- a change that goes on with what was made whole
along : {X : Type 0} (whole f g : X → X) → ((x : X) → g (whole x) ≡ whole (f x)) → (xs : List X) → map g (map whole xs) ≡ map whole (map f xs)
along whole f g h xs = map-map whole g (λ x. whole (f x)) h xs ∙ sym (map-map f whole (λ x. whole (f x)) (λ x. refl) xs)

row-whole : (name : List ℕ) (m : MetricData) → row_of name (whole_metric m) ≡ whole_row (row_of name m)
row-whole name m = ap (λ (s : Shown). record (row_of name m) { shown = s }) (sym (shown-whole m.datatype m))

replaced-whole : (row r : Row) → replaced (whole_row row) (whole_row r) ≡ whole_row (replaced row r)
replaced-whole row r = sym (cond-ap whole_row (bytes_eq row.name r.name) row r)

placed-whole : (row : Row) (rows : List Row) → placed (whole_row row) (map whole_row rows) ≡ map whole_row (placed row rows)
placed-whole row rows =
    ap (λ (b : Bool). cond b (map (replaced (whole_row row)) (map whole_row rows)) (map whole_row rows ++ whole_row row ∷ [])) (any-map whole_row (λ r. bytes_eq row.name r.name) (λ r. bytes_eq row.name r.name) (λ r. refl) rows)
    ∙ by (list_any (λ r. bytes_eq row.name r.name) rows)
  where
    by : (b : Bool) → cond b (map (replaced (whole_row row)) (map whole_row rows)) (map whole_row rows ++ whole_row row ∷ []) ≡ map whole_row (cond b (map (replaced row) rows) (rows ++ row ∷ []))
    by true = along whole_row (replaced row) (replaced (whole_row row)) (replaced-whole row) rows
    by false = sym (map_push whole_row rows row)

released-whole : (alias : Option ℕ) (r : Row) → released alias (whole_row r) ≡ whole_row (released alias r)
released-whole None r = refl
released-whole (Some a) r = refl

metric-whole : (rows : List Row) (m : MetricData) → with_metric (map whole_row rows) (whole_metric m) ≡ map whole_row (with_metric rows m)
metric-whole rows m = by m.name
  where
    by : (name : Option (List ℕ)) → with_named name (whole_metric m) (map whole_row rows) ≡ map whole_row (with_named name m rows)
    by None = refl
    by (Some name) =
        ap (λ (row : Row). placed row (map (released m.alias) (map whole_row rows))) (row-whole name m)
        ∙ ap (placed (whole_row (row_of name m))) (along whole_row (released m.alias) (released m.alias) (released-whole m.alias) rows)
        ∙ placed-whole (row_of name m) (map (released m.alias) rows)

table-whole : (rows : List Row) (ms : List MetricData) → table_from (map whole_row rows) (map whole_metric ms) ≡ map whole_row (table_from rows ms)
table-whole rows [] = refl
table-whole rows (m ∷ ms) = ap (λ (r : List Row). table_from r (map whole_metric ms)) (metric-whole rows m) ∙ table-whole (with_metric rows m) ms

named-whole : (rows : List Row) (alias : Option ℕ) (name : Option (List ℕ)) → name_by (map whole_row rows) alias name ≡ name_by rows alias name
named-whole rows None name = refl
named-whole rows (Some a) name = ap (option_map name_of) (find-map whole_row (λ r. is_alias r.alias a) (λ r. is_alias r.alias a) (λ r. refl) rows) ∙ by (find (λ r. is_alias r.alias a) rows)
  where
    by : (o : Option Row) → option_map name_of (option_map whole_row o) ≡ option_map name_of o
    by None = refl
    by (Some r) = refl

show-whole : (m : MetricData) (rows : List Row) → show (whole_metric m) (map whole_row rows) ≡ map whole_row (show m rows)
show-whole m rows = map-map whole_row now both each rows ∙ sym (map-map before whole_row both (λ r. refl) rows)
  where
    before : Row → Row
    before r = cond (changes rows r.name m) (changed m r) r

    now : Row → Row
    now r = cond (changes (map whole_row rows) r.name (whole_metric m)) (changed (whole_metric m) r) r

    both : Row → Row
    both r = whole_row (before r)

    by : (b : Bool) (r : Row) → cond b (changed (whole_metric m) (whole_row r)) (whole_row r) ≡ whole_row (cond b (changed m r) r)
    by true r = ap (λ (s : Shown). record r { shown = s }) (sym (shown-whole r.datatype m))
    by false r = refl

    each : (r : Row) → now (whole_row r) ≡ both r
    each r =
        ap (λ (n : Option (List ℕ)). cond (not (is_set m.historical) && is_name n r.name) (changed (whole_metric m) (whole_row r)) (whole_row r)) (named-whole rows m.alias m.name)
        ∙ by (changes rows r.name m) r

all-whole : (ms : List MetricData) (rows : List Row) → show_all (map whole_metric ms) (map whole_row rows) ≡ map whole_row (show_all ms rows)
all-whole [] rows = refl
all-whole (m ∷ ms) rows = ap (show_all (map whole_metric ms)) (show-whole m rows) ∙ all-whole ms (show m rows)

lacks-whole : (rows : List Row) (alias : Option ℕ) → lacks (map whole_row rows) alias ≡ lacks rows alias
lacks-whole rows None = refl
lacks-whole rows (Some a) = ap not (any-map whole_row (λ r. is_alias r.alias a) (λ r. is_alias r.alias a) (λ r. refl) rows)

lacking-whole : (rows : List Row) (ms : List MetricData) → is_lacking (map whole_row rows) (map whole_metric ms) ≡ is_lacking rows ms
lacking-whole rows ms = any-map whole_metric (λ m. lacks (map whole_row rows) m.alias) (λ m. lacks rows m.alias) (λ m. lacks-whole rows m.alias) ms

-- ---- devices

put-whole : (d : Device) (ds : List Device) → put_device (whole_device d) (map whole_device ds) ≡ map whole_device (put_device d ds)
put-whole d [] = refl
put-whole d (e ∷ ds) = by (bytes_eq d.name e.name) (put-whole d ds)
  where
    by : (b : Bool) → put_device (whole_device d) (map whole_device ds) ≡ map whole_device (put_device d ds)
        → cond b (whole_device d ∷ map whole_device ds) (whole_device e ∷ put_device (whole_device d) (map whole_device ds)) ≡ map whole_device (cond b (d ∷ ds) (e ∷ put_device d ds))
    by true h = refl
    by false h = ap (λ (rest : List Device). whole_device e ∷ rest) h

changed-whole : (name : List ℕ) (ms : List MetricData) (d : Device) → changed_device name (map whole_metric ms) (whole_device d) ≡ whole_device (changed_device name ms d)
changed-whole name ms d = ap (λ (rows : List Row). record d { rows = rows }) (by (d.born && bytes_eq name d.name))
  where
    by : (b : Bool) → cond b (show_all (map whole_metric ms) (map whole_row d.rows)) (map whole_row d.rows) ≡ map whole_row (cond b (show_all ms d.rows) d.rows)
    by true = all-whole ms d.rows
    by false = refl

-- ---- the view

abbrev viewed : Bool → Bool → List Row → List Device → View
viewed online stale rows devices = record { online = online; stale = stale; rows = rows; devices = devices }

same-view : (online stale : Bool) {rows rows' : List Row} {devices devices' : List Device} → rows ≡ rows' → devices ≡ devices' → viewed online stale rows devices ≡ viewed online stale rows' devices'
same-view online stale r d = cc

devices-whole : (v : Option View) → devices_of (option_map whole_view v) ≡ map whole_device (devices_of v)
devices-whole None = refl
devices-whole (Some v) = refl

born-whole : (ms : List MetricData) (ds : List Device) → node_born (map whole_metric ms) (map whole_device ds) ≡ whole_view (node_born ms ds)
born-whole ms ds = same-view true false (table-whole [] ms) (along whole_device unborn unborn (λ d. refl) ds)

device-born-whole : (name : List ℕ) (ms : List MetricData) (v : View) →
    put_device (record { name = name; born = true; online = v.online; stale = v.stale; rows = table_from [] (map whole_metric ms) }) (map whole_device v.devices)
    ≡ map whole_device (put_device (record { name = name; born = true; online = v.online; stale = v.stale; rows = table_from [] ms }) v.devices)
device-born-whole name ms v =
    ap (λ (rows : List Row). put_device (record { name = name; born = true; online = v.online; stale = v.stale; rows = rows }) (map whole_device v.devices)) (table-whole [] ms)
    ∙ put-whole (record { name = name; born = true; online = v.online; stale = v.stale; rows = table_from [] ms }) v.devices

message-whole : (v : Option View) (m : Message) → view_with (option_map whole_view v) (whole_message m) ≡ option_map whole_view (view_with v m)
message-whole v (NodeBirth ms) = ap Some (ap (node_born (map whole_metric ms)) (devices-whole v) ∙ born-whole ms (devices_of v))
message-whole None (NodeData ms) = refl
message-whole (Some v) (NodeData ms) = ap Some (same-view v.online v.stale (all-whole ms v.rows) refl)
message-whole None (DeviceBirth name ms) = refl
message-whole (Some v) (DeviceBirth name ms) = ap Some (same-view v.online v.stale refl (device-born-whole name ms v))
message-whole None (DeviceData name ms) = refl
message-whole (Some v) (DeviceData name ms) = ap Some (same-view v.online v.stale refl (along whole_device (changed_device name ms) (changed_device name (map whole_metric ms)) (changed-whole name ms) v.devices))
message-whole None (DeviceDeath name) = refl
message-whole (Some v) (DeviceDeath name) = ap Some (same-view v.online v.stale refl (along whole_device (dead_device name) (dead_device name) (λ d. refl) v.devices))

event-whole : (v : Option View) (e : Event) → view_after (option_map whole_view v) (whole_event e) ≡ option_map whole_view (view_after v e)
event-whole v (Consumed m now) = message-whole v m
event-whole None (Gap now) = refl
event-whole (Some v) (Gap now) = ap Some (same-view v.online true refl (along whole_device stale_device stale_device (λ d. refl) v.devices))
event-whole v (NotLive now) = refl
event-whole None Over = refl
event-whole (Some v) Over = ap Some (same-view false true refl (along whole_device ended_device ended_device (λ d. refl) v.devices))

-- ---- requests

rows-whole : (v : Option View) → rows_of (option_map whole_view v) ≡ map whole_row (rows_of v)
rows-whole None = refl
rows-whole (Some v) = refl

if_born-whole : (o : Option Device) → rows_if_born (option_map whole_device o) ≡ option_map (map whole_row) (rows_if_born o)
if_born-whole None = refl
if_born-whole (Some d) = by d.born
  where
    by : (b : Bool) → cond b (Some (map whole_row d.rows)) None ≡ option_map (map whole_row) (cond b (Some d.rows) None)
    by true = refl
    by false = refl

device_rows-whole : (name : List ℕ) (v : Option View) → device_rows name (option_map whole_view v) ≡ option_map (map whole_row) (device_rows name v)
device_rows-whole name v =
    ap (λ (ds : List Device). rows_if_born (find (λ d. bytes_eq d.name name) ds)) (devices-whole v)
    ∙ ap rows_if_born (find-map whole_device (λ d. bytes_eq d.name name) (λ d. bytes_eq d.name name) (λ d. refl) (devices_of v))
    ∙ if_born-whole (find (λ d. bytes_eq d.name name) (devices_of v))

device_lacking-whole : (o : Option (List Row)) (ms : List MetricData) → is_device_lacking (option_map (map whole_row) o) (map whole_metric ms) ≡ is_device_lacking o ms
device_lacking-whole None ms = refl
device_lacking-whole (Some rows) ms = lacking-whole rows ms

unknown-whole : (v : Option View) (m : Message) → is_unknown (option_map whole_view v) (whole_message m) ≡ is_unknown v m
unknown-whole v (NodeBirth ms) = refl
unknown-whole v (NodeData ms) = ap (λ (rows : List Row). is_lacking rows (map whole_metric ms)) (rows-whole v) ∙ lacking-whole (rows_of v) ms
unknown-whole v (DeviceBirth name ms) = refl
unknown-whole v (DeviceData name ms) = ap (λ (o : Option (List Row)). is_device_lacking o (map whole_metric ms)) (device_rows-whole name v) ∙ device_lacking-whole (device_rows name v) ms
unknown-whole v (DeviceDeath name) = ap (λ (o : Option (List Row)). is_device_lacking o []) (device_rows-whole name v) ∙ device_lacking-whole (device_rows name v) []

cause-whole : (v : Option View) (e : Event) → is_cause (option_map whole_view v) (whole_event e) ≡ is_cause v e
cause-whole v (Consumed m now) = unknown-whole v m
cause-whole v (Gap now) = refl
cause-whole v (NotLive now) = refl
cause-whole v Over = refl

moment-whole : (e : Event) → moment_of (whole_event e) ≡ moment_of e
moment-whole (Consumed m now) = refl
moment-whole (Gap now) = refl
moment-whole (NotLive now) = refl
moment-whole Over = refl

birth-whole : (e : Event) → is_birth (whole_event e) ≡ is_birth e
birth-whole (Consumed (NodeBirth ms) now) = refl
birth-whole (Consumed (NodeData ms) now) = refl
birth-whole (Consumed (DeviceBirth name ms) now) = refl
birth-whole (Consumed (DeviceData name ms) now) = refl
birth-whole (Consumed (DeviceDeath name) now) = refl
birth-whole (Gap now) = refl
birth-whole (NotLive now) = refl
birth-whole Over = refl

-- ---- all of it

abbrev whole_watch : Watch → Watch
whole_watch w = record w { view = option_map whole_view w.view }

asks-whole : (wait : ℕ) (w : Watch) (e : Event) → asks wait (whole_watch w) (whole_event e) ≡ asks wait w e
asks-whole wait w e =
    ap (λ (b : Bool). b && may_ask wait (moment_of (whole_event e)) w.asked w.born_since) (cause-whole w.view e)
    ∙ ap (λ (now : ℕ). is_cause w.view e && may_ask wait now w.asked w.born_since) (moment-whole e)

abbrev watched : Option View → Option ℕ → Bool → Watch
watched view asked born_since = record { view = view; asked = asked; born_since = born_since }

same-watch : {v v' : Option View} {a a' : Option ℕ} {b b' : Bool} → v ≡ v' → a ≡ a' → b ≡ b' → watched v a b ≡ watched v' a' b'
same-watch v a b = cc

asked-same : (a a' : Bool) (m m' : ℕ) (old : Option ℕ) → a ≡ a' → m ≡ m' → cond a (Some m) old ≡ cond a' (Some m') old
asked-same a a' m m' old e f = cc

born-same : (a a' b b' old : Bool) → a ≡ a' → b ≡ b' → cond a false (b || old) ≡ cond a' false (b' || old)
born-same a a' b b' old e f = cc

step-whole : (wait : ℕ) (w : Watch) (e : Event) → step wait (whole_watch w) (whole_event e) ≡ whole_watch (step wait w e)
step-whole wait w e =
    same-watch (event-whole w.view e)
    (asked-same (asks wait (whole_watch w) (whole_event e)) (asks wait w e) (moment_of (whole_event e)) (moment_of e) w.asked (asks-whole wait w e) (moment-whole e))
    (born-same (asks wait (whole_watch w) (whole_event e)) (asks wait w e) (is_birth (whole_event e)) (is_birth e) w.born_since (asks-whole wait w e) (birth-whole e))

after-whole : (wait : ℕ) (events : List Event) → after wait (map whole_event events) ≡ whole_watch (after wait events)
after-whole wait [] = refl
after-whole wait (e ∷ before) = ap (λ (w : Watch). step wait w (whole_event e)) (after-whole wait before) ∙ step-whole wait (after wait before) e

pub view-whole : (wait : ℕ) (events : List Event) → (after wait (map whole_event events)).view ≡ option_map whole_view (after wait events).view
view-whole wait events = ap (λ (w : Watch). w.view) (after-whole wait events)

pub asked-whole : (wait : ℕ) (before : List Event) (e : Event) → asks wait (after wait (map whole_event before)) (whole_event e) ≡ asks wait (after wait before) e
asked-whole wait before e = ap (λ (w : Watch). asks wait w (whole_event e)) (after-whole wait before) ∙ asks-whole wait (after wait before) e
