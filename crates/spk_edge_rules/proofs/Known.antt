-- No message has a value that isn't known: each is one that its datatype writes.
use Rattle.std.proofs.Common.{◌≡◌, ℕ, Bool, true, false, not, ◌&&◌, cond, List, [], ◌∷◌, map, Option, Some, None, is_some, Ok, subst, ◌^◌, nat_lt}
use Rattle.std.specs.Prelude.{◌==◌}
use Rattle.std.specs.List.{AllByRecursion, enumerate_from, filter}
use Rattle.std.specs.Option.{option_and_then, option_map_or}
use Rattle.spk_payload.specs.Meaning.{Content, Int, Other, MetricData}
use Rattle.spk_payload.specs.Typing.{Typed, Signed, Unsigned, Truth, Text, Bytes, Binary32, Binary64, written_of, int_of_signed, is_signed_below, bits_32, long_of_signed, int_of_unsigned, long_of_unsigned, flag_of, words_of, octets_of, float_written, double_written}
use Rattle.spk_device.specs.Book.{Book, DeviceData, GaugeData, birth_of, gauge_at, number_of, owned}
use Rattle.spk_device.specs.Step.{set_refusal, turn_refusal}
use Rattle.spk_device.specs.declared.owner.Owner.{Owner}
use Rattle.spk_device.specs.declared.owner.Owner.TheVariants.{Node, Device}
use Rattle.spk_state.specs.Step.{heard_as}
use Rattle.spk_state.specs.Text.{state_at}
use Rattle.spk_state.specs.declared.primary.Heard.{Heard}
use Rattle.spk_state.specs.declared.primary.Heard.TheVariants.{Online, Offline, Ignored}
use Rattle.spk_state.specs.declared.state.State as read
use Rattle.spk_edge_rules.specs.declared.phase.Phase.TheVariants.{Idle}
use Rattle.spk_edge_rules.specs.Births.{births_at, birth_stamp, data_metric, device_birth, kept_metric, later_stamp, own_metrics, owner_at, owner_is_up, stamped, turn_draft}
use Rattle.spk_edge_rules.specs.Commands.{Order, command_of, wants_rebirth, writes_in}
use Rattle.spk_edge_rules.specs.Config.{Config}
use Rattle.spk_edge_rules.specs.History.{front_going}
use Rattle.spk_edge_rules.specs.Inputs.{Act, Open, Accepted, Change, Changes, Turn, Command, State, Drain, Stop, Cut, TurnedAway, Pass, ChangeData}
use Rattle.spk_edge_rules.specs.Messages.{Draft}
use Rattle.spk_edge_rules.specs.Rules as rule
use Rattle.spk_edge_rules.specs.Rules.{Given, acts, born, changing, commanded, draining, heard_in, hearing, is_born, is_connecting, is_waiting, joining, leaving, nothing, telling, turning}
use Rattle.spk_edge_rules.proofs.Courses.{by_if, faulted-gives, Gives, refused-gives, saying-gives}

abbrev pub IsKnown : Option Content → Type 0
IsKnown o = o ≡ Some Other → ⊥

abbrev pub AreKnown : List MetricData → Type 0
AreKnown metrics = AllByRecursion (λ m. m.value ≡ Some Other → ⊥) metrics

none-known : IsKnown None
none-known e = let x : ⊥ = cc in x

int-known : (half : ℕ) (v : Typed) → IsKnown (int_of_signed half v)
int-known half (Signed z) = by_if IsKnown (is_signed_below half z) (Some (Int (bits_32 z))) None (λ b. λ e. let x : ⊥ = cc in x) (λ b. none-known)
int-known half (Unsigned n) = λ e. let x : ⊥ = cc in x
int-known half (Truth b) = λ e. let x : ⊥ = cc in x
int-known half (Text bytes) = λ e. let x : ⊥ = cc in x
int-known half (Bytes bytes) = λ e. let x : ⊥ = cc in x
int-known half (Binary32 n) = λ e. let x : ⊥ = cc in x
int-known half (Binary64 n) = λ e. let x : ⊥ = cc in x

long-known : (v : Typed) → IsKnown (long_of_signed v)
long-known (Signed z) = λ e. let x : ⊥ = cc in x
long-known (Unsigned n) = λ e. let x : ⊥ = cc in x
long-known (Truth b) = λ e. let x : ⊥ = cc in x
long-known (Text bytes) = λ e. let x : ⊥ = cc in x
long-known (Bytes bytes) = λ e. let x : ⊥ = cc in x
long-known (Binary32 n) = λ e. let x : ⊥ = cc in x
long-known (Binary64 n) = λ e. let x : ⊥ = cc in x

unsigned-known : (limit : ℕ) (v : Typed) → IsKnown (int_of_unsigned limit v)
unsigned-known limit (Signed z) = λ e. let x : ⊥ = cc in x
unsigned-known limit (Unsigned n) = by_if IsKnown _ (Some (Int n)) None (λ b. λ e. let x : ⊥ = cc in x) (λ b. none-known)
unsigned-known limit (Truth b) = λ e. let x : ⊥ = cc in x
unsigned-known limit (Text bytes) = λ e. let x : ⊥ = cc in x
unsigned-known limit (Bytes bytes) = λ e. let x : ⊥ = cc in x
unsigned-known limit (Binary32 n) = λ e. let x : ⊥ = cc in x
unsigned-known limit (Binary64 n) = λ e. let x : ⊥ = cc in x

long_unsigned-known : (v : Typed) → IsKnown (long_of_unsigned v)
long_unsigned-known (Signed z) = λ e. let x : ⊥ = cc in x
long_unsigned-known (Unsigned n) = λ e. let x : ⊥ = cc in x
long_unsigned-known (Truth b) = λ e. let x : ⊥ = cc in x
long_unsigned-known (Text bytes) = λ e. let x : ⊥ = cc in x
long_unsigned-known (Bytes bytes) = λ e. let x : ⊥ = cc in x
long_unsigned-known (Binary32 n) = λ e. let x : ⊥ = cc in x
long_unsigned-known (Binary64 n) = λ e. let x : ⊥ = cc in x

flag-known : (v : Typed) → IsKnown (flag_of v)
flag-known (Signed z) = λ e. let x : ⊥ = cc in x
flag-known (Unsigned n) = λ e. let x : ⊥ = cc in x
flag-known (Truth b) = λ e. let x : ⊥ = cc in x
flag-known (Text bytes) = λ e. let x : ⊥ = cc in x
flag-known (Bytes bytes) = λ e. let x : ⊥ = cc in x
flag-known (Binary32 n) = λ e. let x : ⊥ = cc in x
flag-known (Binary64 n) = λ e. let x : ⊥ = cc in x

words-known : (v : Typed) → IsKnown (words_of v)
words-known (Signed z) = λ e. let x : ⊥ = cc in x
words-known (Unsigned n) = λ e. let x : ⊥ = cc in x
words-known (Truth b) = λ e. let x : ⊥ = cc in x
words-known (Text bytes) = λ e. let x : ⊥ = cc in x
words-known (Bytes bytes) = λ e. let x : ⊥ = cc in x
words-known (Binary32 n) = λ e. let x : ⊥ = cc in x
words-known (Binary64 n) = λ e. let x : ⊥ = cc in x

octets-known : (v : Typed) → IsKnown (octets_of v)
octets-known (Signed z) = λ e. let x : ⊥ = cc in x
octets-known (Unsigned n) = λ e. let x : ⊥ = cc in x
octets-known (Truth b) = λ e. let x : ⊥ = cc in x
octets-known (Text bytes) = λ e. let x : ⊥ = cc in x
octets-known (Bytes bytes) = λ e. let x : ⊥ = cc in x
octets-known (Binary32 n) = λ e. let x : ⊥ = cc in x
octets-known (Binary64 n) = λ e. let x : ⊥ = cc in x

float-known : (v : Typed) → IsKnown (float_written v)
float-known (Signed z) = λ e. let x : ⊥ = cc in x
float-known (Unsigned n) = λ e. let x : ⊥ = cc in x
float-known (Truth b) = λ e. let x : ⊥ = cc in x
float-known (Text bytes) = λ e. let x : ⊥ = cc in x
float-known (Bytes bytes) = λ e. let x : ⊥ = cc in x
float-known (Binary32 n) = λ e. let x : ⊥ = cc in x
float-known (Binary64 n) = λ e. let x : ⊥ = cc in x

double-known : (v : Typed) → IsKnown (double_written v)
double-known (Signed z) = λ e. let x : ⊥ = cc in x
double-known (Unsigned n) = λ e. let x : ⊥ = cc in x
double-known (Truth b) = λ e. let x : ⊥ = cc in x
double-known (Text bytes) = λ e. let x : ⊥ = cc in x
double-known (Bytes bytes) = λ e. let x : ⊥ = cc in x
double-known (Binary32 n) = λ e. let x : ⊥ = cc in x
double-known (Binary64 n) = λ e. let x : ⊥ = cc in x

either-known : (b : Bool) (x y : Option Content) → IsKnown x → IsKnown y → IsKnown (cond b x y)
either-known true x y p q = p
either-known false x y p q = q

abbrev from_18 : ℕ → Typed → Option Content
from_18 d v = cond (d == 18) (octets_of v) (None)

known-18 : (d : ℕ) (v : Typed) → IsKnown (from_18 d v)
known-18 d v = either-known (d == 18) (octets_of v) (None) (octets-known v) (none-known)

abbrev from_17 : ℕ → Typed → Option Content
from_17 d v = cond (d == 17) (octets_of v) (from_18 d v)

known-17 : (d : ℕ) (v : Typed) → IsKnown (from_17 d v)
known-17 d v = either-known (d == 17) (octets_of v) (from_18 d v) (octets-known v) (known-18 d v)

abbrev from_15 : ℕ → Typed → Option Content
from_15 d v = cond (d == 15) (words_of v) (from_17 d v)

known-15 : (d : ℕ) (v : Typed) → IsKnown (from_15 d v)
known-15 d v = either-known (d == 15) (words_of v) (from_17 d v) (words-known v) (known-17 d v)

abbrev from_14 : ℕ → Typed → Option Content
from_14 d v = cond (d == 14) (words_of v) (from_15 d v)

known-14 : (d : ℕ) (v : Typed) → IsKnown (from_14 d v)
known-14 d v = either-known (d == 14) (words_of v) (from_15 d v) (words-known v) (known-15 d v)

abbrev from_13 : ℕ → Typed → Option Content
from_13 d v = cond (d == 13) (long_of_unsigned v) (from_14 d v)

known-13 : (d : ℕ) (v : Typed) → IsKnown (from_13 d v)
known-13 d v = either-known (d == 13) (long_of_unsigned v) (from_14 d v) (long_unsigned-known v) (known-14 d v)

abbrev from_12 : ℕ → Typed → Option Content
from_12 d v = cond (d == 12) (words_of v) (from_13 d v)

known-12 : (d : ℕ) (v : Typed) → IsKnown (from_12 d v)
known-12 d v = either-known (d == 12) (words_of v) (from_13 d v) (words-known v) (known-13 d v)

abbrev from_11 : ℕ → Typed → Option Content
from_11 d v = cond (d == 11) (flag_of v) (from_12 d v)

known-11 : (d : ℕ) (v : Typed) → IsKnown (from_11 d v)
known-11 d v = either-known (d == 11) (flag_of v) (from_12 d v) (flag-known v) (known-12 d v)

abbrev from_10 : ℕ → Typed → Option Content
from_10 d v = cond (d == 10) (double_written v) (from_11 d v)

known-10 : (d : ℕ) (v : Typed) → IsKnown (from_10 d v)
known-10 d v = either-known (d == 10) (double_written v) (from_11 d v) (double-known v) (known-11 d v)

abbrev from_9 : ℕ → Typed → Option Content
from_9 d v = cond (d == 9) (float_written v) (from_10 d v)

known-9 : (d : ℕ) (v : Typed) → IsKnown (from_9 d v)
known-9 d v = either-known (d == 9) (float_written v) (from_10 d v) (float-known v) (known-10 d v)

abbrev from_8 : ℕ → Typed → Option Content
from_8 d v = cond (d == 8) (long_of_unsigned v) (from_9 d v)

known-8 : (d : ℕ) (v : Typed) → IsKnown (from_8 d v)
known-8 d v = either-known (d == 8) (long_of_unsigned v) (from_9 d v) (long_unsigned-known v) (known-9 d v)

abbrev from_7 : ℕ → Typed → Option Content
from_7 d v = cond (d == 7) (int_of_unsigned (2 ^ 32) v) (from_8 d v)

known-7 : (d : ℕ) (v : Typed) → IsKnown (from_7 d v)
known-7 d v = either-known (d == 7) (int_of_unsigned (2 ^ 32) v) (from_8 d v) (unsigned-known (2 ^ 32) v) (known-8 d v)

abbrev from_6 : ℕ → Typed → Option Content
from_6 d v = cond (d == 6) (int_of_unsigned (2 ^ 16) v) (from_7 d v)

known-6 : (d : ℕ) (v : Typed) → IsKnown (from_6 d v)
known-6 d v = either-known (d == 6) (int_of_unsigned (2 ^ 16) v) (from_7 d v) (unsigned-known (2 ^ 16) v) (known-7 d v)

abbrev from_5 : ℕ → Typed → Option Content
from_5 d v = cond (d == 5) (int_of_unsigned (2 ^ 8) v) (from_6 d v)

known-5 : (d : ℕ) (v : Typed) → IsKnown (from_5 d v)
known-5 d v = either-known (d == 5) (int_of_unsigned (2 ^ 8) v) (from_6 d v) (unsigned-known (2 ^ 8) v) (known-6 d v)

abbrev from_4 : ℕ → Typed → Option Content
from_4 d v = cond (d == 4) (long_of_signed v) (from_5 d v)

known-4 : (d : ℕ) (v : Typed) → IsKnown (from_4 d v)
known-4 d v = either-known (d == 4) (long_of_signed v) (from_5 d v) (long-known v) (known-5 d v)

abbrev from_3 : ℕ → Typed → Option Content
from_3 d v = cond (d == 3) (int_of_signed (2 ^ 31) v) (from_4 d v)

known-3 : (d : ℕ) (v : Typed) → IsKnown (from_3 d v)
known-3 d v = either-known (d == 3) (int_of_signed (2 ^ 31) v) (from_4 d v) (int-known (2 ^ 31) v) (known-4 d v)

abbrev from_2 : ℕ → Typed → Option Content
from_2 d v = cond (d == 2) (int_of_signed (2 ^ 15) v) (from_3 d v)

known-2 : (d : ℕ) (v : Typed) → IsKnown (from_2 d v)
known-2 d v = either-known (d == 2) (int_of_signed (2 ^ 15) v) (from_3 d v) (int-known (2 ^ 15) v) (known-3 d v)

abbrev from_1 : ℕ → Typed → Option Content
from_1 d v = cond (d == 1) (int_of_signed (2 ^ 7) v) (from_2 d v)

known-1 : (d : ℕ) (v : Typed) → IsKnown (from_1 d v)
known-1 d v = either-known (d == 1) (int_of_signed (2 ^ 7) v) (from_2 d v) (int-known (2 ^ 7) v) (known-2 d v)

written-known : (d : ℕ) (v : Typed) → IsKnown (written_of d v)
written-known d v = known-1 d v

maybe-known : (d : ℕ) (o : Option Typed) → IsKnown (option_and_then (written_of d) o)
maybe-known d None = none-known
maybe-known d (Some v) = written-known d v

own-known : (stamp : ℕ) (es : List (ℕ × GaugeData)) → AreKnown (map (stamped stamp) (map birth_of es))
own-known stamp [] = tt
own-known stamp (e ∷ es) = (maybe-known e.1.datatype e.1.value, own-known stamp es)

own_metrics-known : (b : Book) (stamp : ℕ) (owner : Owner) → AreKnown (own_metrics b stamp owner)
own_metrics-known b stamp owner = own-known stamp (owned owner b.gauges)

abbrev pub DraftsKnown : List Draft → Type 0
DraftsKnown drafts = AllByRecursion (λ d. AreKnown d.metrics) drafts

devices-known : (b : Book) (stamp : ℕ) (es : List (ℕ × DeviceData)) → DraftsKnown (map (device_birth b stamp) es)
devices-known b stamp [] = tt
devices-known b stamp (e ∷ es) = (own_metrics-known b stamp (Device e.0), devices-known b stamp es)

births-known : (b : Book) (bd stamp : ℕ) → DraftsKnown (births_at b bd stamp)
births-known b bd stamp =
    (((λ e. let x : ⊥ = cc in x), ((λ e. let x : ⊥ = cc in x), own_metrics-known b stamp Node)), devices-known b stamp (filter (λ (e : ℕ × DeviceData). e.1.up) (enumerate_from 0 b.devices)))

turn-known : (b : Book) (stamp : ℕ) (name : List ℕ) (up : Bool) → AreKnown (turn_draft b stamp name up).metrics
turn-known b stamp name false = tt
turn-known b stamp name true = by (number_of b name)
  where
    by : (o : Option ℕ) → AreKnown (option_map_or (λ n. own_metrics b stamp (Device n)) o [])
    by None = tt
    by (Some n) = own_metrics-known b stamp (Device n)

kept-known : (b : Book) (changes : List ChangeData) → AreKnown (map (kept_metric b) changes)
kept-known b [] = tt
kept-known b (c ∷ cs) = (maybe-known (option_map_or (λ g. g.datatype) (gauge_at b c.alias) 0) c.value, kept-known b cs)

changes-known : (b : Book) (stamp : ℕ) (xs : List (ℕ × Option Typed)) → AreKnown (map (λ (x : ℕ × Option Typed). data_metric b x.0 stamp None x.1) xs)
changes-known b stamp [] = tt
changes-known b stamp (x ∷ xs) = (maybe-known (option_map_or (λ g. g.datatype) (gauge_at b x.0) 0) x.1, changes-known b stamp xs)

-- ---- each act

abbrev Knows : Given → Type 0
Knows g = DraftsKnown g.drafts

hearing-known : (c : Config) (a : rule.Asked) (now : ℕ) (heard : Heard) → Knows (hearing c a now heard)
hearing-known c a now Online = by_if Knows (is_waiting a.phase) (born a now (nothing a)) (nothing a) (λ e. births-known a.book a.will_bd (birth_stamp a.stamp now)) (λ e. tt)
hearing-known c a now Offline = by_if Knows (is_born a.phase) (leaving c a) (nothing a) (λ e. tt) (λ e. tt)
hearing-known c a now Ignored = tt

heard-known : (c : Config) (a : rule.Asked) (now : ℕ) (s : Option read.State) → Gives Knows (heard_in c a now s)
heard-known c a now None = tt
heard-known c a now (Some s) = hearing-known c a now (heard_as a.heard s)

commanded-known : (a : rule.Asked) (now : ℕ) (orders : Option (List Order)) → Gives Knows (commanded a now orders)
commanded-known a now None = tt
commanded-known a now (Some orders) =
    let g = record (nothing a) { writes = writes_in orders } in
    by_if Knows (wants_rebirth orders && is_born a.phase) (born a now g) g (λ e. births-known a.book a.will_bd (birth_stamp a.stamp now)) (λ e. tt)

draining-known : (c : Config) (k : ℕ) (a : rule.Asked) (now : ℕ) (changes : List ChangeData) → Knows (draining c k a now changes)
draining-known c k a now [] = tt
draining-known c k a now (x ∷ xs) =
    by_if Knows (owner_is_up a.book x.owner) _ _
    (λ e. by_if Knows (nat_lt 0 (front_going c k a.book x.owner (later_stamp a.stamp now) (x ∷ xs))) _ _ (λ some. (kept-known a.book _, tt)) (λ none. tt)) (λ e. tt)

pub acts-known : (c : Config) (k : ℕ) (a : rule.Asked) (now : ℕ) (act : Act) → Gives Knows (acts c k a now act)
acts-known c k a now Open = tt
acts-known c k a now Accepted = by_if Knows (is_some c.primary) (joining c a) (born a now (joining c a)) (λ e. tt) (λ e. births-known a.book a.will_bd (birth_stamp a.stamp now))
acts-known c k a now (Change alias value) =
    refused-gives Knows (set_refusal a.book alias value) (changing a now alias value)
    (λ accepted. by_if Knows (not (rule.is_same_value a.book alias value) && owner_is_up a.book (owner_at a.book alias)) (telling a now alias value) (nothing a)
    (λ e. by_if Knows (is_born a.phase) _ _ (λ b. ((maybe-known (option_map_or (λ g. g.datatype) (gauge_at a.book alias) 0) value, tt), tt)) (λ b. tt)) (λ e. tt))
acts-known c k a now (Changes changes) =
    faulted-gives (Knows) (rule.changes_fault a.book changes) (rule.several a now changes)
    (λ accepted. saying-gives (Knows) a now (rule.owner_of a.book changes) (rule.others_in a.book changes) tt (λ ys up. (changes-known a.book (later_stamp a.stamp now) ys, tt)))
acts-known c k a now (Turn name up) =
    refused-gives Knows (turn_refusal a.book name) (turning a now name up)
    (λ accepted. by_if Knows (not (rule.is_so_already a.book name up) && is_born a.phase) _ (nothing a)
    (λ e. (turn-known a.book (later_stamp a.stamp now) name up, tt)) (λ e. tt))
acts-known c k a now (Command topic payload) = commanded-known a now (command_of c a.book topic payload)
acts-known c k a now (State payload) =
    by_if (Gives Knows) (is_some c.primary) (heard_in c a now (state_at payload)) (Ok (nothing a)) (λ e. heard-known c a now (state_at payload)) (λ e. tt)
acts-known c k a now Drain = draining-known c k a now a.store.items
acts-known c k a now Stop = tt
acts-known c k a now Cut = tt
acts-known c k a now TurnedAway = by_if Knows (is_connecting a.phase) (record (nothing a) { close = true; phase = Idle }) (nothing a) (λ e. tt) (λ e. tt)
acts-known c k a now Pass = tt

pub given-known : (c : Config) (k : ℕ) (a : rule.Asked) (now : ℕ) (act : Act) (g : Given) → acts c k a now act ≡ Ok g → DraftsKnown g.drafts
given-known c k a now act g is = subst (Gives Knows) is (acts-known c k a now act)
