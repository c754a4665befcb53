-- Each message of a run: its kind, its stamp, its names, and that no metric behind the first of an NBIRTH is named `bdSeq`.
use Rattle.std.proofs.Common.{◌≡◌, ℕ, zero, suc, ◌+◌, ◌-◌, ◌<◌, ◌^◌, Bool, true, false, not, ◌&&◌, ◌||◌, cond, List, [], ◌∷◌, ◌++◌, drop, map, nat_lt, codes, option_map, Option, Some, None, is_some, Ok, refl, sym, ◌∙◌, ap, subst, append_assoc, length, arith, Result, Err}
use Rattle.std.specs.Prelude.{All, slice_get}
use Rattle.std.specs.List.{AllByRecursion, enumerate_from, filter, list_all, position_from}
use Rattle.std.specs.Str.{bytes_eq}
use Rattle.std.proofs.lemmas.Bool.{true≢false, and_parts, ltb-true}
use Rattle.std.proofs.lemmas.List.Elements.{All-head, All-tail}
use Rattle.std.proofs.lemmas.Slice.Eq.{bytes_eq-Decides}
use Rattle.spk_payload.specs.Meaning.{MetricData}
use Rattle.spk_device.specs.Book.{Book, DeviceData, GaugeData, birth_of, device_at, has_device, is_owner}
use Rattle.spk_device.specs.Lawful.{is_level}
use Rattle.spk_device.specs.Step.{is_taken, set_refusal, turn_refusal}
use Rattle.spk_device.specs.declared.fault.Refusal.TheVariants.{NoSuch}
use Rattle.spk_device.specs.declared.owner.Owner.{Owner}
use Rattle.spk_device.specs.declared.owner.Owner.TheVariants.{Node, Device}
use Rattle.spk_state.specs.Step.{heard_as}
use Rattle.spk_state.specs.Text.{state_at}
use Rattle.spk_state.specs.declared.primary.Heard.{Heard}
use Rattle.spk_state.specs.declared.primary.Heard.TheVariants.{Online, Offline, Ignored}
use Rattle.spk_state.specs.declared.state.State as read
use Rattle.spk_topics.specs.Spark.{has_names, is_name}
use Rattle.spk_edge_rules.specs.declared.phase.Phase.TheVariants.{Idle}
use Rattle.spk_edge_rules.specs.declared.fault.EdgeFault.{EdgeFault}
use Rattle.spk_edge_rules.specs.Answers.{Answer}
use Rattle.spk_edge_rules.specs.Step.{is_open}
use Rattle.std.proofs.lemmas.List.{append-nil}
use Rattle.spk_edge_rules.specs.Births.{births_at, birth_stamp, data_draft, device_birth, device_of, later_stamp, node_birth, owner_at, owner_is_up, stamped, turn_draft}
use Rattle.spk_edge_rules.specs.Claims.{HasNames, IsUnreserved, SaysSessionOnce, is_numbered, is_session, numbers_at, numbers_from}
use Rattle.spk_edge_rules.specs.Commands.{Order, command_of, wants_rebirth, writes_in}
use Rattle.spk_edge_rules.specs.Config.{Config, Setup}
use Rattle.spk_edge_rules.specs.History.{front_going}
use Rattle.spk_edge_rules.specs.Inputs.{Act, Open, Accepted, Change, Changes, Turn, Command, State, Drain, Stop, Cut, TurnedAway, Pass, Input, ChangeData}
use Rattle.spk_edge_rules.specs.Messages.{Draft, named_by, opens, spark_of}
use Rattle.spk_edge_rules.specs.Rules as rule
use Rattle.spk_edge_rules.specs.Rules.{Given, acked, acts, born, changing, commanded, draining, heard_in, hearing, is_born, is_connecting, is_waiting, joining, leaving, nothing, rules, telling, turning}
use Rattle.spk_edge_rules.specs.Run.{Done, Message, asked_of, births_in, book_of, device_by, gauge_by, next_number, opened, opened_at, posts, published, right_at, run_of, with_done}
use Rattle.spk_edge_rules.proofs.Courses.{by_if, faulted-gives, Gives, refused-gives, rules-lawful, rules-taken, saying-gives}
use Rattle.spk_edge_rules.proofs.Numbers.{numbers-right}
use Rattle.spk_edge_rules.specs.Step.{standing_of}
use Rattle.spk_edge_rules.proofs.Records.{AllRight, posted-of, right-given, runs-all, told-all}
use Rattle.spk_edge_rules.proofs.Told.{sessions}

-- ---- lists

all-at : {X : Type 0} (P : X → Type 0) (xs : List X) (k : ℕ) (x : X) → AllByRecursion P xs → slice_get xs k ≡ Some x → P x
all-at P [] k x all e = absurd (let x : ⊥ = cc in x)
all-at P (y ∷ xs) zero x all e = let same : y ≡ x = cc in subst P same all.0
all-at P (y ∷ xs) (suc k) x all e = all-at P xs k x all.1 e

all-of : {X : Type 0} (P : X → Type 0) (xs : List X) → All P xs → AllByRecursion P xs
all-of P [] all = tt
all-of P (x ∷ xs) all = (All-head P x xs all, all-of P xs (All-tail P x xs all))

all-append : {X : Type 0} (P : X → Type 0) (xs ys : List X) → AllByRecursion P xs → AllByRecursion P ys → AllByRecursion P (xs ++ ys)
all-append P [] ys a b = b
all-append P (x ∷ xs) ys a b = (a.0, all-append P xs ys a.1 b)

-- ---- names

-- a level that the registry takes is a name
level-name : (name : List ℕ) → is_level name ≡ true → is_name name ≡ true
level-name [] e = absurd (true≢false (sym e))
level-name (b ∷ bs) e = e

both : (a b : Bool) → a ≡ true → b ≡ true → (a && b) ≡ true
both a b p q = ap (λ x. x && b) p ∙ q

abbrev Levels : Book → Type 0
Levels b = AllByRecursion (λ d. is_level d.name ≡ true) b.devices

abbrev AreNames : Config → Type 0
AreNames c = (is_name c.group ≡ true) × (is_name c.node ≡ true)

abbrev IsLevelIn : Option (List ℕ) → Type 0
IsLevelIn None = Unit {0}
IsLevelIn (Some name) = is_level name ≡ true

-- of the node, or of a device whose name is a level
named-draft : (c : Config) (d : Draft) → AreNames c → IsLevelIn d.device → has_names (named_by c d) ≡ true
named-draft c d names level = by d.device level
  where
    by : (o : Option (List ℕ)) → IsLevelIn o → has_names (spark_of c d.verb o) ≡ true
    by None level = both (is_name c.group) (is_name c.node) names.0 names.1
    by (Some name) level =
        both (is_name c.group && is_name c.node) (is_name name) (both (is_name c.group) (is_name c.node) names.0 names.1) (level-name name level)

device-level : (b : Book) (n : ℕ) → Levels b → IsLevelIn (device_of b (Device n))
device-level b n levels = by (device_at b n) refl
  where
    by : (o : Option DeviceData) → device_at b n ≡ o → IsLevelIn (option_map (λ d. d.name) o)
    by None e = tt
    by (Some d) e = all-at (λ (d : DeviceData). is_level d.name ≡ true) b.devices n d levels e

owner-level : (b : Book) (owner : Owner) → Levels b → IsLevelIn (device_of b owner)
owner-level b Node levels = tt
owner-level b (Device n) levels = device-level b n levels

-- a name that leads to a device is that device's
found-level : (name : List ℕ) (k : ℕ) (ds : List DeviceData) → AllByRecursion (λ d. is_level d.name ≡ true) ds
    → is_some (position_from (λ d. bytes_eq name d.name) k ds) ≡ true → is_level name ≡ true
found-level name k [] levels e = absurd (true≢false (sym e))
found-level name k (d ∷ ds) levels e = by (bytes_eq name d.name) refl e (found-level name (k + 1) ds levels.1)
  where
    by : (b : Bool) → bytes_eq name d.name ≡ b
        → is_some (cond b (Some k) (position_from (λ d. bytes_eq name d.name) (k + 1) ds)) ≡ true
        → (is_some (position_from (λ d. bytes_eq name d.name) (k + 1) ds) ≡ true → is_level name ≡ true) → is_level name ≡ true
    by true same e later = subst (λ x. is_level x ≡ true) (sym ((bytes_eq-Decides name d.name).0 same)) levels.0
    by false other e later = later e

turn-level : (b : Book) (name : List ℕ) → Levels b → turn_refusal b name ≡ None → is_level name ≡ true
turn-level b name levels e = by (has_device b name) refl e
  where
    by : (there : Bool) → has_device b name ≡ there → cond there None (Some NoSuch) ≡ None → is_level name ≡ true
    by true there e = found-level name 0 b.devices levels there
    by false there e = absurd (let x : ⊥ = cc in x)

-- ---- metrics

abbrev Unreserved : Book → Type 0
Unreserved b = AllByRecursion (λ g. is_taken g.name ≡ false) b.gauges

abbrev AreOthers : List MetricData → Type 0
AreOthers metrics = AllByRecursion (λ metric. is_session metric ≡ false) metrics

or-first : (a b : Bool) → (a || b) ≡ false → a ≡ false
or-first true b e = absurd (true≢false e)
or-first false b e = refl

others-owned : (stamp : ℕ) (owner : Owner) (n : ℕ) (gs : List GaugeData) → AllByRecursion (λ g. is_taken g.name ≡ false) gs
    → AreOthers (map (stamped stamp) (map birth_of (filter (λ (e : ℕ × GaugeData). is_owner owner e.1.owner) (enumerate_from n gs))))
others-owned stamp owner n [] free = tt
others-owned stamp owner n (g ∷ gs) free =
    by_if (λ (es : List (ℕ × GaugeData)). AreOthers (map (stamped stamp) (map birth_of es))) (is_owner owner g.owner) _ _
    (λ e. (or-first (bytes_eq g.name (codes "bdSeq")) _ free.0, others-owned stamp owner (n + 1) gs free.1))
    (λ e. others-owned stamp owner (n + 1) gs free.1)

-- ---- each draft

-- What holds of a message that is given: its kind, its names, and of an NBIRTH the metrics behind the first.
record IsFine (c : Config) (b : Book) (d : Draft) : Type 0 where
  numbered : is_numbered d ≡ true
  named : AreNames c → Levels b → has_names (named_by c d) ≡ true
  others : Unreserved b → opens d ≡ true → AreOthers (drop 1 d.metrics)

abbrev AllFine : Config → Book → List Draft → Type 0
AllFine c b drafts = AllByRecursion (IsFine c b) drafts

fine-devices : (c : Config) (b : Book) (stamp n : ℕ) (ds : List DeviceData) → (Levels b → AllByRecursion (λ d. is_level d.name ≡ true) ds)
    → AllFine c b (map (device_birth b stamp) (filter (λ (e : ℕ × DeviceData). e.1.up) (enumerate_from n ds)))
fine-devices c b stamp n [] levels = tt
fine-devices c b stamp n (d ∷ ds) levels =
    by_if (λ (es : List (ℕ × DeviceData)). AllFine c b (map (device_birth b stamp) es)) d.up _ _
    (λ e. (
      record {
        numbered = refl;
        named = λ names all. named-draft c (device_birth b stamp (n, d)) names (levels all).0;
        others = λ free opening. absurd (true≢false (sym opening));
      },
      fine-devices c b stamp (n + 1) ds (λ all. (levels all).1),
    ))
    (λ e. fine-devices c b stamp (n + 1) ds (λ all. (levels all).1))

fine-births : (c : Config) (b : Book) (bd stamp : ℕ) → AllFine c b (births_at b bd stamp)
fine-births c b bd stamp = (
  record {
    numbered = refl;
    named = λ names all. named-draft c (node_birth b bd stamp) names tt;
    others = λ free opening. (refl, others-owned stamp Node 0 b.gauges free);
  },
  fine-devices c b stamp 0 b.devices (λ all. all),
)

fine-turn : (c : Config) (b : Book) (stamp : ℕ) (name : List ℕ) (up : Bool) → turn_refusal b name ≡ None → IsFine c b (turn_draft b stamp name up)
fine-turn c b stamp name true there = record {
  numbered = refl;
  named = λ names all. named-draft c (turn_draft b stamp name true) names (turn-level b name all there);
  others = λ free opening. absurd (true≢false (sym opening));
}
fine-turn c b stamp name false there = record {
  numbered = refl;
  named = λ names all. named-draft c (turn_draft b stamp name false) names (turn-level b name all there);
  others = λ free opening. absurd (true≢false (sym opening));
}

fine-data : (c : Config) (b : Book) (owner : Owner) (stamp : ℕ) (metrics : List MetricData) → IsFine c b (data_draft b owner stamp metrics)
fine-data c b owner stamp metrics = record {
  numbered = refl;
  named = λ names all. named-draft c (data_draft b owner stamp metrics) names (owner-level b owner all);
  others = λ free opening. absurd (true≢false (sym opening));
}

-- ---- each act

abbrev Fine : Config → rule.Asked → Given → Type 0
Fine c a g = AllFine c a.book g.drafts

hearing-fine : (c : Config) (a : rule.Asked) (now : ℕ) (heard : Heard) → Fine c a (hearing c a now heard)
hearing-fine c a now Online = by_if (Fine c a) (is_waiting a.phase) (born a now (nothing a)) (nothing a) (λ e. fine-births c a.book a.will_bd (birth_stamp a.stamp now)) (λ e. tt)
hearing-fine c a now Offline = by_if (Fine c a) (is_born a.phase) (leaving c a) (nothing a) (λ e. tt) (λ e. tt)
hearing-fine c a now Ignored = tt

heard-fine : (c : Config) (a : rule.Asked) (now : ℕ) (s : Option read.State) → Gives (Fine c a) (heard_in c a now s)
heard-fine c a now None = tt
heard-fine c a now (Some s) = hearing-fine c a now (heard_as a.heard s)

commanded-fine : (c : Config) (a : rule.Asked) (now : ℕ) (orders : Option (List Order)) → Gives (Fine c a) (commanded a now orders)
commanded-fine c a now None = tt
commanded-fine c a now (Some orders) =
    let g = record (nothing a) { writes = writes_in orders } in
    by_if (Fine c a) (wants_rebirth orders && is_born a.phase) (born a now g) g (λ e. fine-births c a.book a.will_bd (birth_stamp a.stamp now)) (λ e. tt)

draining-fine : (c : Config) (k : ℕ) (a : rule.Asked) (now : ℕ) (changes : List ChangeData) → Fine c a (draining c k a now changes)
draining-fine c k a now [] = tt
draining-fine c k a now (x ∷ xs) =
    by_if (Fine c a) (owner_is_up a.book x.owner) _ _
    (λ e. by_if (Fine c a) (nat_lt 0 (front_going c k a.book x.owner (later_stamp a.stamp now) (x ∷ xs))) _ _ (λ some. (fine-data c a.book x.owner _ _, tt)) (λ none. tt)) (λ e. tt)

acts-fine : (c : Config) (k : ℕ) (a : rule.Asked) (now : ℕ) (act : Act) → Gives (Fine c a) (acts c k a now act)
acts-fine c k a now Open = tt
acts-fine c k a now Accepted = by_if (Fine c a) (is_some c.primary) (joining c a) (born a now (joining c a)) (λ e. tt) (λ e. fine-births c a.book a.will_bd (birth_stamp a.stamp now))
acts-fine c k a now (Change alias value) =
    refused-gives (Fine c a) (set_refusal a.book alias value) (changing a now alias value)
    (λ accepted. by_if (Fine c a) (not (rule.is_same_value a.book alias value) && owner_is_up a.book (owner_at a.book alias)) (telling a now alias value) (nothing a)
    (λ e. by_if (Fine c a) (is_born a.phase) _ _ (λ b. (fine-data c a.book (owner_at a.book alias) _ _, tt)) (λ b. tt)) (λ e. tt))
acts-fine c k a now (Changes changes) =
    faulted-gives (Fine c a) (rule.changes_fault a.book changes) (rule.several a now changes)
    (λ accepted. saying-gives (Fine c a) a now (rule.owner_of a.book changes) (rule.others_in a.book changes) tt (λ ys up. (fine-data c a.book (rule.owner_of a.book changes) _ _, tt)))
acts-fine c k a now (Turn name up) =
    refused-gives (Fine c a) (turn_refusal a.book name) (turning a now name up)
    (λ accepted. by_if (Fine c a) (not (rule.is_so_already a.book name up) && is_born a.phase) _ (nothing a)
    (λ e. (fine-turn c a.book (later_stamp a.stamp now) name up accepted, tt)) (λ e. tt))
acts-fine c k a now (Command topic payload) = commanded-fine c a now (command_of c a.book topic payload)
acts-fine c k a now (State payload) =
    by_if (Gives (Fine c a)) (is_some c.primary) (heard_in c a now (state_at payload)) (Ok (nothing a)) (λ e. heard-fine c a now (state_at payload)) (λ e. tt)
acts-fine c k a now Drain = draining-fine c k a now a.store.items
acts-fine c k a now Stop = tt
acts-fine c k a now Cut = tt
acts-fine c k a now TurnedAway = by_if (Fine c a) (is_connecting a.phase) (record (nothing a) { close = true; phase = Idle }) (nothing a) (λ e. tt) (λ e. tt)
acts-fine c k a now Pass = tt

pub acked-drafts : (ack : Option ℕ) (g : Given) → (acked ack g).drafts ≡ g.drafts
acked-drafts None g = refl
acked-drafts (Some id) g = refl

-- ---- every run

-- the registry as set so far has the devices and the metrics that it began with
levels-by : (h : List Done) (ds : List DeviceData) → AllByRecursion (λ d. is_level d.name ≡ true) ds
    → AllByRecursion (λ d. is_level d.name ≡ true) (map (device_by h) ds)
levels-by h [] all = tt
levels-by h (d ∷ ds) all = (all.0, levels-by h ds all.1)

free-by : (h : List Done) (n : ℕ) (gs : List GaugeData) → AllByRecursion (λ g. is_taken g.name ≡ false) gs
    → AllByRecursion (λ g. is_taken g.name ≡ false) (map (gauge_by h) (enumerate_from n gs))
free-by h n [] all = tt
free-by h n (g ∷ gs) all = (all.0, free-by h (n + 1) gs all.1)

-- What holds of a message that was published.
pub record IsGood (s : Setup) (d : Draft) : Type 0 where
  pub numbered : is_numbered d ≡ true
  pub stamp : d.stamp < 2 ^ 63
  pub named : HasNames s → has_names (named_by s.config d) ≡ true
  pub others : IsUnreserved s → opens d ≡ true → AreOthers (drop 1 d.metrics)

good-drafts : (s : Setup) (h : List Done) (ds : List Draft) → AllFine s.config (book_of s h) ds → list_all (λ d. nat_lt d.stamp (2 ^ 63)) ds ≡ true
    → AllByRecursion (IsGood s) ds
good-drafts s h [] fine timely = tt
good-drafts s h (d ∷ ds) fine timely =
    let parts = and_parts (nat_lt d.stamp (2 ^ 63)) (list_all (λ (d : Draft). nat_lt d.stamp (2 ^ 63)) ds) timely in (
      record {
        numbered = fine.0.numbered;
        stamp = ltb-true d.stamp (2 ^ 63) parts.0;
        named = λ names. fine.0.named (names.group, names.node)
            (levels-by h s.book.devices (all-of (λ (d : DeviceData). is_level d.name ≡ true) s.book.devices names.devices));
        others = λ free. fine.0.others (free-by h 0 s.book.gauges (all-of (λ (g : GaugeData). is_taken g.name ≡ false) s.book.gauges free));
      },
      good-drafts s h ds fine.1 parts.1,
    )

good-given : (s : Setup) (h : List Done) (i : Input) (g : Given) → rules s.config (next_number s h) (asked_of s h) i ≡ Ok g → AllByRecursion (IsGood s) g.drafts
good-given s h i g is =
    let t = rules-taken s.config (next_number s h) (asked_of s h) i g is in
    let same : g.drafts ≡ t.given.drafts = ap (λ (g : Given). g.drafts) t.is ∙ acked-drafts i.ack t.given in
    let fine : AllFine s.config (book_of s h) t.given.drafts = subst (Gives (Fine s.config (asked_of s h))) t.acted (acts-fine s.config (next_number s h) (asked_of s h) i.now i.act) in
    subst (AllByRecursion (IsGood s)) (sym same)
    (good-drafts s h t.given.drafts fine
    (ap (λ (ds : List Draft). list_all (λ (d : Draft). nat_lt d.stamp (2 ^ 63)) ds) (sym (acked-drafts i.ack t.given)) ∙ t.in_time))

good-posts : (s : Setup) (session births : ℕ) (ds : List Draft) → AllByRecursion (IsGood s) ds
    → AllByRecursion (λ (m : Message). IsGood s m.draft) (posts session births ds)
good-posts s session births [] all = tt
good-posts s session births (d ∷ ds) all = (all.0, good-posts s session (cond (opens d) (births + 1) births) ds all.1)

good-run : (s : Setup) (h : List Done) → AllRight s h → AllByRecursion (λ (m : Message). IsGood s m.draft) (published h)
good-run s [] right = tt
good-run s (e ∷ h) right =
    all-append (λ (m : Message). IsGood s m.draft) (published h) (posts (opened h - 1) (births_in (published h)) e.given.drafts)
    (good-run s h right.1)
    (good-posts s (opened h - 1) (births_in (published h)) e.given.drafts (good-given s h e.input e.given right.0))

pub good-at : (s : Setup) (is : List Input) (p : ℕ) (m : Message) → slice_get (published (run_of s is)) p ≡ Some m → IsGood s m.draft
good-at s is p m there =
    all-at (λ (m : Message). IsGood s m.draft) (published (run_of s is)) p m (good-run s (run_of s is) (told-all s is).right) there

pub session-once : (s : Setup) (is : List Input) (p : ℕ) (m : Message) → IsUnreserved s → slice_get (published (run_of s is)) p ≡ Some m → SaysSessionOnce s m
session-once s is p m free there = λ opening.
    let first = all-at _ (published (run_of s is)) p m (sessions s is) there opening in
    (first.0, first.1, subst (λ (ms : List MetricData). AreOthers (drop 1 ms)) first.1 ((good-at s is p m there).others free opening))

-- ---- more inputs

grows-one : (s : Setup) (is : List Input) (i : Input) → (more : List Message) × (published (run_of s (i ∷ is)) ≡ published (run_of s is) ++ more)
grows-one s is i = by (right_at s (run_of s is) i)
  where
    by : (r : Result Answer EdgeFault) → (more : List Message) × (published (with_done (run_of s is) i r) ≡ published (run_of s is) ++ more)
    by (Ok answer) = (posts (opened (run_of s is) - 1) (births_in (published (run_of s is))) answer.given.drafts, refl)
    by (Err fault) = ([], sym (append-nil (published (run_of s is))))

pub grows : (s : Setup) (later is : List Input) → (more : List Message) × (published (run_of s (later ++ is)) ≡ published (run_of s is) ++ more)
grows s [] is = ([], sym (append-nil (published (run_of s is))))
grows s (i ∷ later) is =
    let one = grows-one s (later ++ is) i in
    let rest = grows s later is in
    (rest.0 ++ one.0, one.1 ∙ ap (λ (ms : List Message). ms ++ one.0) rest.1 ∙ append_assoc (published (run_of s is)) rest.0 one.0)

-- ---- moments

pub moment-of : (s : Setup) (is : List Input) (i : Input) (answer : Answer) → right_at s (run_of s is) i ≡ Ok answer → i.now < 2 ^ 63
moment-of s is i answer e =
    ltb-true i.now (2 ^ 63) (rules-taken s.config (next_number s (run_of s is)) (asked_of s (run_of s is)) i answer.given (right-given s (run_of s is) i answer e)).now

opened-run : (s : Setup) (h : List Done) → AllRight s h → opened_at h < 2 ^ 63
opened-run s [] right = omega arith
opened-run s (e ∷ h) right = by (is_open e.input.act) (opened-run s h right.1)
  where
    now : e.input.now < 2 ^ 63
    now = ltb-true e.input.now (2 ^ 63) (rules-taken s.config (next_number s h) (asked_of s h) e.input e.given right.0).now

    by : (b : Bool) → opened_at h < 2 ^ 63 → cond b e.input.now (opened_at h) < 2 ^ 63
    by true before = now
    by false before = before

pub opened-at : (s : Setup) (is : List Input) → opened_at (run_of s is) < 2 ^ 63
opened-at s is = opened-run s (run_of s is) (told-all s is).right

-- ---- numbers

pub sent-under : (s : Setup) (is : List Input) (i : Input) (answer : Answer) → right_at s (run_of s is) i ≡ Ok answer
    → numbers_from s.config (standing_of s is).seq answer.given.drafts ≡ numbers_at s (published (run_of s (i ∷ is))) (length (published (run_of s is))) answer.given.drafts
sent-under s is i answer e =
    let h = run_of s is in
    let told = told-all s is in
    let given = right-given s h i answer e in
    let posted = posted-of s h i answer.given (runs-all s h told.right) (rules-lawful s.config (next_number s h) (asked_of s h) i answer.given given).course in
    numbers-right s (opened h - 1) answer.given.drafts (published h) (standing_of s is).seq posted told.seq
    ∙ ap (λ (ms : List Message). numbers_at s ms (length (published h)) answer.given.drafts) (sym (ap (λ r. published (with_done h i r)) e))
