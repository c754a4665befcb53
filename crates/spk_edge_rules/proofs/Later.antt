-- What is published of kept changes is, in order, what was sent of them.
use Rattle.std.proofs.Common.{◌≡◌, ℕ, zero, suc, ◌+◌, ◌-◌, ◌<◌, ◌≤◌, Bool, true, false, not, ◌&&◌, cond, List, [], ◌∷◌, ◌++◌, filter, length, map, take, nat_le, nat_lt, eqb, Option, Some, None, is_some, Ok, refl, sym, ◌∙◌, ap, subst, arith}
use Rattle.std.specs.Prelude.{slice_get}
use Rattle.std.specs.List.{AllByRecursion, enumerate_from, flat_map, prefix_len}
use Rattle.std.specs.Option.{option_map, option_map_or}
use Rattle.std.proofs.lemmas.Bool.{eqb-true}
use Rattle.std.proofs.lemmas.List.{append-nil, length-map, length-take, map-append}
use Rattle.std.proofs.lemmas.List.Elements.{filter-append}
use Rattle.std.proofs.lemmas.Grind.{flat_map-append}
use Rattle.spk_payload.specs.Typing.{Typed}
use Rattle.spk_payload.specs.Meaning.{MetricData}
use Rattle.spk_device.specs.Book.{Book, DeviceData, GaugeData, birth_of, gauge_at, number_of, owned, owner_number}
use Rattle.spk_device.specs.Step.{set_refusal, turn_refusal}
use Rattle.spk_device.specs.declared.owner.Owner.{Owner}
use Rattle.spk_device.specs.declared.owner.Owner.TheVariants.{Node, Device}
use Rattle.spk_state.specs.Step.{heard_as}
use Rattle.spk_state.specs.Text.{state_at}
use Rattle.spk_state.specs.declared.primary.Heard.{Heard}
use Rattle.spk_state.specs.declared.primary.Heard.TheVariants.{Online, Offline, Ignored}
use Rattle.spk_state.specs.declared.state.State as read
use Rattle.spk_store.specs.Calls.{Call, Push, DropFront}
use Rattle.spk_store.specs.Kept as kept
use Rattle.spk_topics.specs.declared.spark.Verb.TheVariants.{Data}
use Rattle.spk_edge_rules.specs.declared.phase.Phase.TheVariants.{Idle}
use Rattle.spk_edge_rules.specs.Births.{data_metric, births_at, birth_stamp, device_birth, device_of, kept_metric, later_stamp, own_metrics, owner_at, owner_is_up, stamped, turn_draft}
use Rattle.spk_edge_rules.specs.Commands.{Order, command_of, wants_rebirth, writes_in}
use Rattle.spk_edge_rules.specs.Config.{Config, Setup}
use Rattle.spk_edge_rules.specs.History.{can_go, front_going, front_run, have_one_owner, history}
use Rattle.spk_edge_rules.specs.Inputs.{Act, Open, Accepted, Change, Changes, Turn, Command, State, Drain, Stop, Cut, TurnedAway, Pass, ChangeData, Input}
use Rattle.spk_edge_rules.specs.Later.{all_historical, historical_in, is_historical, said_later}
use Rattle.spk_edge_rules.specs.Messages.{Draft, opens}
use Rattle.spk_edge_rules.specs.Rules as rule
use Rattle.spk_edge_rules.specs.Rules.{Given, acked, acts, born, changing, commanded, draining, heard_in, hearing, is_born, is_connecting, is_waiting, joining, leaving, nothing, rules, telling, turning}
use Rattle.spk_edge_rules.specs.Run.{Done, Message, asked_of, births_in, book_of, calls_of, device_by, gauge_by, next_number, opened, posts, published, run_of, with_call}
use Rattle.spk_edge_rules.proofs.Courses.{by_if, faulted-gives, Gives, longest-few, refused-gives, rules-taken, saying-gives}
use Rattle.spk_edge_rules.proofs.Records.{AllRight, told-all}

-- ---- messages without historical metrics

abbrev IsPlain : Draft → Type 0
IsPlain d = filter is_historical d.metrics ≡ []

births-plain : (stamp : ℕ) (es : List (ℕ × GaugeData)) → filter is_historical (map (stamped stamp) (map birth_of es)) ≡ []
births-plain stamp [] = refl
births-plain stamp (e ∷ es) = births-plain stamp es

own-plain : (b : Book) (stamp : ℕ) (owner : Owner) → filter is_historical (own_metrics b stamp owner) ≡ []
own-plain b stamp owner = births-plain stamp (owned owner b.gauges)

devices-plain : (b : Book) (stamp : ℕ) (es : List (ℕ × DeviceData)) → AllByRecursion IsPlain (map (device_birth b stamp) es)
devices-plain b stamp [] = tt
devices-plain b stamp (e ∷ es) = (own-plain b stamp (Device e.0), devices-plain b stamp es)

all-plain : (b : Book) (bd stamp : ℕ) → AllByRecursion IsPlain (births_at b bd stamp)
all-plain b bd stamp = (own-plain b stamp Node, devices-plain b stamp (filter (λ e. e.1.up) (enumerate_from 0 b.devices)))

turn-plain : (b : Book) (stamp : ℕ) (name : List ℕ) (up : Bool) → IsPlain (turn_draft b stamp name up)
turn-plain b stamp name false = refl
turn-plain b stamp name true = by (number_of b name)
  where
    by : (o : Option ℕ) → filter is_historical (option_map_or (λ n. own_metrics b stamp (Device n)) o []) ≡ []
    by None = refl
    by (Some n) = own-plain b stamp (Device n)

changes-plain : (b : Book) (stamp : ℕ) (xs : List (ℕ × Option Typed)) → filter is_historical (map (λ (x : ℕ × Option Typed). data_metric b x.0 stamp None x.1) xs) ≡ []
changes-plain b stamp [] = refl
changes-plain b stamp (x ∷ xs) = changes-plain b stamp xs

-- ---- what an act gives of the kept changes

-- the changes that a call to the store lets go as sent
abbrev gone_by : List ChangeData → Option (Call ChangeData) → List ChangeData
gone_by items None = []
gone_by items (Some (Push x)) = []
gone_by items (Some (DropFront n true)) = []
gone_by items (Some (DropFront n false)) = take n items

data Says (a : rule.Asked) (g : Given) : Type 0 where
  Plain : AllByRecursion IsPlain g.drafts → gone_by a.store.items g.store ≡ [] → Says a g
  Later : (d : Draft) → g.drafts ≡ d ∷ [] → d.verb ≡ Data → length d.metrics ≤ 32 → historical_in d ≡ map (said_later a.book) (gone_by a.store.items g.store) → Says a g

none-lost : (items : List ChangeData) (n : ℕ) → gone_by items (Some (DropFront n true)) ≡ []
none-lost items n = refl

-- owners of one number are one
pub same-owner : (x y : Owner) → owner_number x ≡ owner_number y → x ≡ y
same-owner Node Node e = refl
same-owner Node (Device n) e = absurd (omega (arith, e))
same-owner (Device m) Node e = absurd (omega (arith, e))
same-owner (Device m) (Device n) e = let same : m ≡ n = omega (arith, e) in ap (λ k. Device k) same

-- the first ones of a run of one owner
run-said : (b : Book) (x : ChangeData) (zs : List ChangeData) (n : ℕ) → n ≤ prefix_len (have_one_owner x) zs
    → map (λ (m : MetricData). (device_of b x.owner, m)) (filter is_historical (map (kept_metric b) (take n zs))) ≡ map (said_later b) (take n zs)
run-said b x [] zero few = refl
run-said b x [] (suc n) few = refl
run-said b x (z ∷ zs) zero few = refl
run-said b x (z ∷ zs) (suc n) few = by (have_one_owner x z) refl few (λ less. run-said b x zs n less)
  where
    by : (t : Bool) → have_one_owner x z ≡ t → suc n ≤ cond t (1 + prefix_len (have_one_owner x) zs) 0
        → (n ≤ prefix_len (have_one_owner x) zs → map (λ (m : MetricData). (device_of b x.owner, m)) (filter is_historical (map (kept_metric b) (take n zs))) ≡ map (said_later b) (take n zs))
        → map (λ (m : MetricData). (device_of b x.owner, m)) (filter is_historical (map (kept_metric b) (take (suc n) (z ∷ zs)))) ≡ map (said_later b) (take (suc n) (z ∷ zs))
    by false e few rest = absurd (omega (arith, few))
    by true e few rest =
        let same : x.owner ≡ z.owner = same-owner x.owner z.owner (eqb-true (owner_number x.owner) (owner_number z.owner) e) in
        ap (λ (l : List (Option (List ℕ) × MetricData)). (device_of b x.owner, kept_metric b z) ∷ l) (rest (omega (arith, few)))
        ∙ ap (λ (o : Owner). (device_of b o, kept_metric b z) ∷ map (said_later b) (take n zs)) same

kept-few : (b : Book) (n : ℕ) (zs : List ChangeData) → n ≤ 32 → length (map (kept_metric b) (take n zs)) ≤ 32
kept-few b n zs few = let size = length-map (take n zs) (kept_metric b) in let took = length-take n zs in omega (arith, size, took, few)

draining-says : (c : Config) (k : ℕ) (a : rule.Asked) (now : ℕ) (changes : List ChangeData) → a.store.items ≡ changes → Says a (draining c k a now changes)
draining-says c k a now [] is = Plain tt refl
draining-says c k a now (x ∷ xs) is =
    let stamp = later_stamp a.stamp now in
    let n = front_going c k a.book x.owner stamp (x ∷ xs) in
    let few = longest-few (can_go c k a.book x.owner stamp (x ∷ xs)) (front_run (x ∷ xs)) in
    by_if (Says a) (owner_is_up a.book x.owner) _ _
    (λ up. by_if (Says a) (nat_lt 0 n) _ _
    (λ some. Later (history a.book x.owner stamp (x ∷ xs) n) refl refl (kept-few a.book n (x ∷ xs) (omega (arith, few)))
    (run-said a.book x (x ∷ xs) n (omega (arith, few)) ∙ ap (λ (l : List ChangeData). map (said_later a.book) (take n l)) (sym is)))
    (λ none. Plain tt refl))
    (λ down. Plain tt refl)

hearing-says : (c : Config) (a : rule.Asked) (now : ℕ) (heard : Heard) → Says a (hearing c a now heard)
hearing-says c a now Online = by_if (Says a) (is_waiting a.phase) (born a now (nothing a)) (nothing a) (λ e. Plain (all-plain a.book a.will_bd (birth_stamp a.stamp now)) refl) (λ e. Plain tt refl)
hearing-says c a now Offline = by_if (Says a) (is_born a.phase) (leaving c a) (nothing a) (λ e. Plain tt refl) (λ e. Plain tt refl)
hearing-says c a now Ignored = Plain tt refl

heard-says : (c : Config) (a : rule.Asked) (now : ℕ) (s : Option read.State) → Gives (Says a) (heard_in c a now s)
heard-says c a now None = tt
heard-says c a now (Some s) = hearing-says c a now (heard_as a.heard s)

commanded-says : (a : rule.Asked) (now : ℕ) (orders : Option (List Order)) → Gives (Says a) (commanded a now orders)
commanded-says a now None = tt
commanded-says a now (Some orders) =
    let g = record (nothing a) { writes = writes_in orders } in
    by_if (Says a) (wants_rebirth orders && is_born a.phase) (born a now g) g (λ e. Plain (all-plain a.book a.will_bd (birth_stamp a.stamp now)) refl) (λ e. Plain tt refl)

acts-say : (c : Config) (k : ℕ) (a : rule.Asked) (now : ℕ) (act : Act) → Gives (Says a) (acts c k a now act)
acts-say c k a now Open = Plain tt refl
acts-say c k a now Accepted =
    by_if (Says a) (is_some c.primary) (joining c a) (born a now (joining c a)) (λ e. Plain tt refl) (λ e. Plain (all-plain a.book a.will_bd (birth_stamp a.stamp now)) refl)
acts-say c k a now (Change alias value) =
    refused-gives (Says a) (set_refusal a.book alias value) (changing a now alias value)
    (λ accepted. by_if (Says a) (not (rule.is_same_value a.book alias value) && owner_is_up a.book (owner_at a.book alias)) (telling a now alias value) (nothing a)
    (λ e. by_if (Says a) (is_born a.phase) _ _ (λ b. Plain (refl, tt) refl) (λ b. Plain tt refl)) (λ e. Plain tt refl))
acts-say c k a now (Changes changes) =
    faulted-gives (Says a) (rule.changes_fault a.book changes) (rule.several a now changes)
    (λ accepted. saying-gives (Says a) a now (rule.owner_of a.book changes) (rule.others_in a.book changes) (Plain tt refl) (λ ys up. Plain (changes-plain a.book (later_stamp a.stamp now) ys, tt) refl))
acts-say c k a now (Turn name up) =
    refused-gives (Says a) (turn_refusal a.book name) (turning a now name up)
    (λ accepted. by_if (Says a) (not (rule.is_so_already a.book name up) && is_born a.phase) _ (nothing a)
    (λ e. Plain (turn-plain a.book (later_stamp a.stamp now) name up, tt) refl) (λ e. Plain tt refl))
acts-say c k a now (Command topic payload) = commanded-says a now (command_of c a.book topic payload)
acts-say c k a now (State payload) =
    by_if (Gives (Says a)) (is_some c.primary) (heard_in c a now (state_at payload)) (Ok (nothing a)) (λ e. heard-says c a now (state_at payload)) (λ e. Plain tt refl)
acts-say c k a now Drain = draining-says c k a now a.store.items refl
acts-say c k a now Stop = Plain tt refl
acts-say c k a now Cut = Plain tt refl
acts-say c k a now TurnedAway = by_if (Says a) (is_connecting a.phase) (record (nothing a) { close = true; phase = Idle }) (nothing a) (λ e. Plain tt refl) (λ e. Plain tt refl)
acts-say c k a now Pass = Plain tt refl

acked-says : (a : rule.Asked) (ack : Option ℕ) (g : Given) → Says a g → Says a (acked ack g)
acked-says a None g says = says
acked-says a (Some id) g (Plain plain none) = Plain plain none
acked-says a (Some id) g (Later d one verb few said) = Later d one verb few said

rules-say : (c : Config) (k : ℕ) (a : rule.Asked) (i : Input) (g : Given) → rules c k a i ≡ Ok g → Says a g
rules-say c k a i g is =
    let t = rules-taken c k a i g is in
    subst (Says a) (sym t.is) (acked-says a i.ack t.given (subst (Gives (Says a)) t.acted (acts-say c k a i.now i.act)))

-- ---- all that is given says what went

abbrev drafts_say : List Draft → List (Option (List ℕ) × MetricData)
drafts_say ds = flat_map historical_in ds

plain-says : (ds : List Draft) → AllByRecursion IsPlain ds → drafts_say ds ≡ []
plain-says [] all = refl
plain-says (d ∷ ds) all =
    ap (λ (ms : List MetricData). map (λ (m : MetricData). (d.device, m)) ms ++ drafts_say ds) all.0 ∙ plain-says ds all.1

given-says : (a : rule.Asked) (g : Given) → Says a g → drafts_say g.drafts ≡ map (said_later a.book) (gone_by a.store.items g.store)
given-says a g (Plain plain none) = plain-says g.drafts plain ∙ ap (map (said_later a.book)) (sym none)
given-says a g (Later d one verb few said) = ap drafts_say one ∙ append-nil (historical_in d) ∙ said

-- ---- the registry's names and datatypes stay

device-stays : (h : List Done) (ds : List DeviceData) (n : ℕ) → option_map (λ (d : DeviceData). d.name) (slice_get (map (device_by h) ds) n) ≡ option_map (λ (d : DeviceData). d.name) (slice_get ds n)
device-stays h [] n = refl
device-stays h (d ∷ ds) zero = refl
device-stays h (d ∷ ds) (suc n) = device-stays h ds n

gauge-stays : (h : List Done) (k : ℕ) (gs : List GaugeData) (n : ℕ)
    → option_map_or (λ (g : GaugeData). g.datatype) (slice_get (map (gauge_by h) (enumerate_from k gs)) n) 0 ≡ option_map_or (λ (g : GaugeData). g.datatype) (slice_get gs n) 0
gauge-stays h k [] n = refl
gauge-stays h k (g ∷ gs) zero = refl
gauge-stays h k (g ∷ gs) (suc n) = gauge-stays h (k + 1) gs n

owner-stays : (s : Setup) (h : List Done) (owner : Owner) → device_of (book_of s h) owner ≡ device_of s.book owner
owner-stays s h Node = refl
owner-stays s h (Device n) = device-stays h s.book.devices n

datatype-stays : (s : Setup) (h : List Done) (alias : ℕ)
    → option_map_or (λ (g : GaugeData). g.datatype) (gauge_at (book_of s h) alias) 0 ≡ option_map_or (λ (g : GaugeData). g.datatype) (gauge_at s.book alias) 0
datatype-stays s h alias = by (eqb alias 0)
  where
    by : (b : Bool) → option_map_or (λ (g : GaugeData). g.datatype) (cond b None (slice_get (book_of s h).gauges (alias - 1))) 0
        ≡ option_map_or (λ (g : GaugeData). g.datatype) (cond b None (slice_get s.book.gauges (alias - 1))) 0
    by true = refl
    by false = gauge-stays h 0 s.book.gauges (alias - 1)

said-stays : (s : Setup) (h : List Done) (change : ChangeData) → said_later (book_of s h) change ≡ said_later s.book change
said-stays s h change = rw (owner-stays s h change.owner, datatype-stays s h change.alias) refl

all-stay : (s : Setup) (h : List Done) (changes : List ChangeData) → map (said_later (book_of s h)) changes ≡ map (said_later s.book) changes
all-stay s h [] = refl
all-stay s h (x ∷ xs) =
    ap (λ e. e ∷ map (said_later (book_of s h)) xs) (said-stays s h x) ∙ ap (λ (l : List (Option (List ℕ) × MetricData)). said_later s.book x ∷ l) (all-stay s h xs)

-- ---- what was sent

abbrev sent_in : List (ChangeData × Bool) → List ChangeData
sent_in left = map (λ e. e.0) (filter (λ e. not e.1) left)

sent-more : (front back : List (ChangeData × Bool)) → sent_in (front ++ back) ≡ sent_in front ++ sent_in back
sent-more front back =
    ap (map (λ (e : ChangeData × Bool). e.0)) (filter-append (λ (e : ChangeData × Bool). not e.1) front back)
    ∙ map-append (λ (e : ChangeData × Bool). e.0) (filter (λ (e : ChangeData × Bool). not e.1) front) (filter (λ (e : ChangeData × Bool). not e.1) back)

lost-none : (xs : List ChangeData) → sent_in (kept.fated true xs) ≡ []
lost-none [] = refl
lost-none (x ∷ xs) = lost-none xs

sent-all : (xs : List ChangeData) → sent_in (kept.fated false xs) ≡ xs
sent-all [] = refl
sent-all (x ∷ xs) = ap (λ (l : List ChangeData). x ∷ l) (sent-all xs)

pushed-none : (b : Bool) (xs : List ChangeData) → sent_in (cond b (kept.fated true xs) []) ≡ []
pushed-none true xs = lost-none xs
pushed-none false xs = refl

sent-call : (capacity : ℕ) (calls : List (Call ChangeData)) (call : Option (Call ChangeData))
    → kept.sent_of capacity (with_call call calls) ≡ kept.sent_of capacity calls ++ gone_by (kept.kept_of capacity calls) call
sent-call capacity calls None = sym (append-nil (kept.sent_of capacity calls))
sent-call capacity calls (Some (Push x)) =
    let full = nat_le capacity (kept.count_of capacity calls) in
    sent-more (kept.left_of capacity calls) (cond full (kept.fated true (take 1 (kept.kept_of capacity calls ++ x ∷ []))) [])
    ∙ ap (λ (l : List ChangeData). kept.sent_of capacity calls ++ l) (pushed-none full (take 1 (kept.kept_of capacity calls ++ x ∷ [])))
sent-call capacity calls (Some (DropFront n true)) =
    sent-more (kept.left_of capacity calls) (kept.fated true (take n (kept.kept_of capacity calls)))
    ∙ ap (λ (l : List ChangeData). kept.sent_of capacity calls ++ l) (lost-none (take n (kept.kept_of capacity calls)))
sent-call capacity calls (Some (DropFront n false)) =
    sent-more (kept.left_of capacity calls) (kept.fated false (take n (kept.kept_of capacity calls)))
    ∙ ap (λ (l : List ChangeData). kept.sent_of capacity calls ++ l) (sent-all (take n (kept.kept_of capacity calls)))

-- ---- every run

posts-say : (session births : ℕ) (ds : List Draft) → all_historical (posts session births ds) ≡ drafts_say ds
posts-say session births [] = refl
posts-say session births (d ∷ ds) =
    ap (λ (l : List (Option (List ℕ) × MetricData)). historical_in d ++ l) (posts-say session (cond (opens d) (births + 1) births) ds)

run-says : (s : Setup) (h : List Done) → AllRight s h → all_historical (published h) ≡ map (said_later s.book) (kept.sent_of s.capacity (calls_of h))
run-says s [] right = refl
run-says s (e ∷ h) right =
    let a = asked_of s h in
    let says = rules-say s.config (next_number s h) a e.input e.given right.0 in
    let gone = gone_by a.store.items e.given.store in
    flat_map-append (λ (m : Message). historical_in m.draft) (published h) (posts (opened h - 1) (births_in (published h)) e.given.drafts)
    ∙ ap (λ (l : List (Option (List ℕ) × MetricData)). l ++ all_historical (posts (opened h - 1) (births_in (published h)) e.given.drafts)) (run-says s h right.1)
    ∙ ap (λ (l : List (Option (List ℕ) × MetricData)). map (said_later s.book) (kept.sent_of s.capacity (calls_of h)) ++ l)
    (posts-say (opened h - 1) (births_in (published h)) e.given.drafts ∙ given-says a e.given says ∙ all-stay s h gone)
    ∙ sym (map-append (said_later s.book) (kept.sent_of s.capacity (calls_of h)) gone)
    ∙ ap (map (said_later s.book)) (sym (sent-call s.capacity (calls_of h) e.given.store))

pub history-is : (s : Setup) (is : List Input) → all_historical (published (run_of s is)) ≡ map (said_later s.book) (kept.sent_of s.capacity (calls_of (run_of s is)))
history-is s is = run-says s (run_of s is) (told-all s is).right

-- ---- each message

-- at most 32 of its metrics are historical, and only data has any
pub record IsModest (d : Draft) : Type 0 where
  pub few : length (historical_in d) ≤ 32
  pub data_ : 0 < length (historical_in d) → d.verb ≡ Data

abbrev with_device : Option (List ℕ) → MetricData → Option (List ℕ) × MetricData
with_device device m = (device, m)

filter-few : (ms : List MetricData) → length (filter is_historical ms) ≤ length ms
filter-few [] = omega arith
filter-few (m ∷ ms) =
    let rest = filter-few ms in
    by_if (λ (l : List MetricData). length l ≤ length (m ∷ ms)) (is_historical m) (m ∷ filter is_historical ms) (filter is_historical ms) (λ e. omega (arith, rest)) (λ e. omega (arith, rest))

plain-modest : (ds : List Draft) → AllByRecursion IsPlain ds → AllByRecursion IsModest ds
plain-modest [] all = tt
plain-modest (d ∷ ds) all =
    let none : length (historical_in d) ≡ 0 = ap (λ (ms : List MetricData). length (map (with_device d.device) ms)) all.0 in
    (record { few = omega (arith, none); data_ = λ some. absurd (omega (arith, none, some)) }, plain-modest ds all.1)

given-modest : (a : rule.Asked) (g : Given) → Says a g → AllByRecursion IsModest g.drafts
given-modest a g (Plain plain none) = plain-modest g.drafts plain
given-modest a g (Later d one verb few said) =
    let size = length-map (filter is_historical d.metrics) (with_device d.device) in
    let part = filter-few d.metrics in
    subst (AllByRecursion IsModest) (sym one) (record { few = omega (arith, size, part, few); data_ = λ some. verb }, tt)

posts-modest : (session births : ℕ) (ds : List Draft) → AllByRecursion IsModest ds → AllByRecursion (λ (m : Message). IsModest m.draft) (posts session births ds)
posts-modest session births [] all = tt
posts-modest session births (d ∷ ds) all = (all.0, posts-modest session (cond (opens d) (births + 1) births) ds all.1)

all-append : {X : Type 0} (P : X → Type 0) (xs ys : List X) → AllByRecursion P xs → AllByRecursion P ys → AllByRecursion P (xs ++ ys)
all-append P [] ys a b = b
all-append P (x ∷ xs) ys a b = (a.0, all-append P xs ys a.1 b)

run-modest : (s : Setup) (h : List Done) → AllRight s h → AllByRecursion (λ (m : Message). IsModest m.draft) (published h)
run-modest s [] right = tt
run-modest s (e ∷ h) right =
    let a = asked_of s h in
    all-append (λ (m : Message). IsModest m.draft) (published h) (posts (opened h - 1) (births_in (published h)) e.given.drafts) (run-modest s h right.1)
    (posts-modest (opened h - 1) (births_in (published h)) e.given.drafts (given-modest a e.given (rules-say s.config (next_number s h) a e.input e.given right.0)))

all-at : {X : Type 0} (P : X → Type 0) (xs : List X) (k : ℕ) (x : X) → AllByRecursion P xs → slice_get xs k ≡ Some x → P x
all-at P [] k x all e = absurd (let x : ⊥ = cc in x)
all-at P (y ∷ xs) zero x all e = let same : y ≡ x = cc in subst P same all.0
all-at P (y ∷ xs) (suc k) x all e = all-at P xs k x all.1 e

pub modest-at : (s : Setup) (is : List Input) (p : ℕ) (m : Message) → slice_get (published (run_of s is)) p ≡ Some m → IsModest m.draft
modest-at s is p m there = all-at (λ (m : Message). IsModest m.draft) (published (run_of s is)) p m (run-modest s (run_of s is) (told-all s is).right) there
