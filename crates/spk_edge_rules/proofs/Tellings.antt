-- What births list, and when messages are given.
use Rattle.std.proofs.Common.{◌≡◌, ℕ, suc, ◌+◌, ◌<◌, Bool, true, false, not, ◌&&◌, cond, List, [], ◌∷◌, ◌++◌, length, map, Option, Some, None, is_some, Ok, refl, sym, ◌∙◌, ap, subst, arith, inl, inr, append_assoc, length-append, nat_lt}
use Rattle.std.specs.Prelude.{slice_get}
use Rattle.std.specs.List.{AllByRecursion, enumerate_from, filter, position_from}
use Rattle.std.specs.Option.{option_map_or}
use Rattle.std.specs.Str.{bytes_eq}
use Rattle.std.proofs.lemmas.Bool.{true≢false}
use Rattle.std.proofs.lemmas.Slice.Eq.{bytes_eq-Decides}
use Rattle.spk_device.specs.Book.{Book, DeviceData, number_of}
use Rattle.spk_device.specs.Step.{set_refusal, turn_refusal}
use Rattle.spk_device.specs.declared.fault.Refusal.TheVariants.{NoSuch}
use Rattle.spk_device.specs.declared.owner.Owner.TheVariants.{Device}
use Rattle.spk_state.specs.Step.{heard_as}
use Rattle.spk_state.specs.Text.{state_at}
use Rattle.spk_state.specs.declared.primary.Heard.{Heard}
use Rattle.spk_state.specs.declared.primary.Heard.TheVariants.{Online, Offline, Ignored}
use Rattle.spk_state.specs.declared.state.State as read
use Rattle.spk_edge_rules.specs.declared.phase.Phase.{Phase}
use Rattle.spk_edge_rules.specs.declared.phase.Phase.TheVariants.{Idle, Connecting, Waiting, Born}
use Rattle.spk_edge_rules.specs.Births.{births_at, birth_stamp, device_birth, later_stamp, own_metrics, owner_at, owner_is_up, turn_draft}
use Rattle.spk_edge_rules.specs.Claims.{AreWholeBirths, Joined, IsDeviceBirth, ListsWhatIs}
use Rattle.spk_edge_rules.specs.Commands.{Order, command_of, wants_rebirth, writes_in}
use Rattle.spk_edge_rules.specs.Config.{Config}
use Rattle.spk_edge_rules.specs.History.{front_going}
use Rattle.spk_edge_rules.specs.Inputs.{Act, Open, Accepted, Change, Changes, Turn, Command, State, Drain, Stop, Cut, TurnedAway, Pass, Input, ChangeData}
use Rattle.spk_edge_rules.specs.Messages.{Draft, opens}
use Rattle.spk_edge_rules.specs.Rules as rule
use Rattle.spk_edge_rules.specs.Rules.{Given, acked, acts, born, changing, commanded, draining, heard_in, hearing, is_born, is_connecting, is_waiting, joining, leaving, nothing, rules, telling, turning}
use Rattle.spk_edge_rules.proofs.Courses.{Births, by_if, Course, faulted-gives, Gives, link_in, One, Quiet, refused-gives, rules-taken, saying-gives}

-- ---- births

-- each element of a list with places stands at its place
places : (front xs : List DeviceData) → AllByRecursion (λ (e : ℕ × DeviceData). slice_get (front ++ xs) e.0 ≡ Some e.1) (enumerate_from (length front) xs)
places front [] = tt
places front (x ∷ xs) =
    let long : length (front ++ x ∷ []) ≡ length front + 1 = length-append front (x ∷ []) in
    let same : (front ++ x ∷ []) ++ xs ≡ front ++ x ∷ xs = append_assoc front (x ∷ []) xs in (
      here front,
      subst (λ (ds : List DeviceData). AllByRecursion (λ (e : ℕ × DeviceData). slice_get ds e.0 ≡ Some e.1) (enumerate_from (length front + 1) xs)) same
          (subst (λ n. AllByRecursion (λ (e : ℕ × DeviceData). slice_get ((front ++ x ∷ []) ++ xs) e.0 ≡ Some e.1) (enumerate_from n xs)) long (places (front ++ x ∷ []) xs)),
    )
  where
    here : (front : List DeviceData) → slice_get (front ++ x ∷ xs) (length front) ≡ Some x
    here [] = refl
    here (y ∷ front) = here front

filter-keeps : {X : Type 0} (P : X → Type 0) (t : X → Bool) (xs : List X) → AllByRecursion P xs → AllByRecursion P (filter t xs)
filter-keeps P t [] all = tt
filter-keeps P t (x ∷ xs) all = by_if (AllByRecursion P) (t x) (x ∷ filter t xs) (filter t xs) (λ e. (all.0, filter-keeps P t xs all.1)) (λ e. filter-keeps P t xs all.1)

device-lists : (b : Book) (bd stamp : ℕ) (es : List (ℕ × DeviceData)) → AllByRecursion (λ (e : ℕ × DeviceData). slice_get b.devices e.0 ≡ Some e.1) es
    → AllByRecursion (ListsWhatIs b bd) (map (device_birth b stamp) es)
device-lists b bd stamp [] all = tt
device-lists b bd stamp (e ∷ es) all =
    ((λ birth. record { number = e.0; device = e.1; there = all.0; named = refl; metrics = refl }), device-lists b bd stamp es all.1)

births-list : (b : Book) (bd stamp : ℕ) → AllByRecursion (ListsWhatIs b bd) (births_at b bd stamp)
births-list b bd stamp = (
  (λ birth. refl),
  device-lists b bd stamp (filter (λ (e : ℕ × DeviceData). e.1.up) (enumerate_from 0 b.devices))
      (filter-keeps (λ (e : ℕ × DeviceData). slice_get b.devices e.0 ≡ Some e.1) (λ (e : ℕ × DeviceData). e.1.up) (enumerate_from 0 b.devices) (places [] b.devices)),
)

-- ---- a device that comes up

pub record IsFound (t : DeviceData → Bool) (k : ℕ) (xs : List DeviceData) (n : ℕ) : Type 0 where
  pub place : ℕ
  pub device : DeviceData
  pub counted : n ≡ k + place
  pub there : slice_get xs place ≡ Some device
  pub passes : t device ≡ true

pub found : (t : DeviceData → Bool) (k n : ℕ) (xs : List DeviceData) → position_from t k xs ≡ Some n → IsFound t k xs n
found t k n [] e = absurd (let x : ⊥ = cc in x)
found t k n (x ∷ xs) e = by (t x) refl e (found t (k + 1) n xs)
  where
    by : (b : Bool) → t x ≡ b → cond b (Some k) (position_from t (k + 1) xs) ≡ Some n → (position_from t (k + 1) xs ≡ Some n → IsFound t (k + 1) xs n) → IsFound t k (x ∷ xs) n
    by true passes e later = let same : k ≡ n = cc in record { place = 0; device = x; counted = omega (arith, same); there = refl; passes = passes }
    by false fails e later =
        let f = later e in
        record { place = suc f.place; device = f.device; counted = (let c = f.counted in omega (arith, c)); there = f.there; passes = f.passes }

pub known : (b : Book) (name : List ℕ) → turn_refusal b name ≡ None → is_some (number_of b name) ≡ true
known b name h = by (is_some (number_of b name)) h
  where
    by : (k : Bool) → cond k None (Some NoSuch) ≡ None → k ≡ true
    by true e = refl
    by false e = absurd (let x : ⊥ = cc in x)

turn-lists : (b : Book) (bd stamp : ℕ) (name : List ℕ) (up : Bool) → turn_refusal b name ≡ None → ListsWhatIs b bd (turn_draft b stamp name up)
turn-lists b bd stamp name false accepted = λ birth. absurd (true≢false (sym birth))
turn-lists b bd stamp name true accepted = λ birth. by (number_of b name) refl (known b name accepted)
  where
    by : (o : Option ℕ) → number_of b name ≡ o → is_some o ≡ true → IsDeviceBirth b name (turn_draft b stamp name true)
    by None e there = absurd (true≢false (sym there))
    by (Some n) e there =
        let f = found (λ d. bytes_eq name d.name) 0 n b.devices e in
        let here : f.place ≡ n = (let c = f.counted in omega (arith, c)) in
        record {
          number = n;
          device = f.device;
          there = ap (slice_get b.devices) (sym here) ∙ f.there;
          named = sym ((bytes_eq-Decides name f.device.name).0 f.passes);
          metrics = ap (λ o. option_map_or (λ n. own_metrics b stamp (Device n)) o []) e;
        }

-- ---- each act

abbrev Lists : rule.Asked → Given → Type 0
Lists a g = AllByRecursion (ListsWhatIs a.book a.will_bd) g.drafts

no_birth : {P : Type 0} → false ≡ true → P
no_birth e = absurd (true≢false (sym e))

hearing-lists : (c : Config) (a : rule.Asked) (now : ℕ) (heard : Heard) → Lists a (hearing c a now heard)
hearing-lists c a now Online = by_if (Lists a) (is_waiting a.phase) (born a now (nothing a)) (nothing a) (λ e. births-list a.book a.will_bd (birth_stamp a.stamp now)) (λ e. tt)
hearing-lists c a now Offline = by_if (Lists a) (is_born a.phase) (leaving c a) (nothing a) (λ e. tt) (λ e. tt)
hearing-lists c a now Ignored = tt

heard-lists : (c : Config) (a : rule.Asked) (now : ℕ) (s : Option read.State) → Gives (Lists a) (heard_in c a now s)
heard-lists c a now None = tt
heard-lists c a now (Some s) = hearing-lists c a now (heard_as a.heard s)

commanded-lists : (a : rule.Asked) (now : ℕ) (orders : Option (List Order)) → Gives (Lists a) (commanded a now orders)
commanded-lists a now None = tt
commanded-lists a now (Some orders) =
    let g = record (nothing a) { writes = writes_in orders } in
    by_if (Lists a) (wants_rebirth orders && is_born a.phase) (born a now g) g (λ e. births-list a.book a.will_bd (birth_stamp a.stamp now)) (λ e. tt)

draining-lists : (c : Config) (k : ℕ) (a : rule.Asked) (now : ℕ) (changes : List ChangeData) → Lists a (draining c k a now changes)
draining-lists c k a now [] = tt
draining-lists c k a now (x ∷ xs) =
    by_if (Lists a) (owner_is_up a.book x.owner) _ _
    (λ e. by_if (Lists a) (nat_lt 0 (front_going c k a.book x.owner (later_stamp a.stamp now) (x ∷ xs))) _ _ (λ some. ((λ birth. no_birth birth), tt)) (λ none. tt)) (λ e. tt)

acts-lists : (c : Config) (k : ℕ) (a : rule.Asked) (now : ℕ) (act : Act) → Gives (Lists a) (acts c k a now act)
acts-lists c k a now Open = tt
acts-lists c k a now Accepted =
    by_if (Lists a) (is_some c.primary) (joining c a) (born a now (joining c a)) (λ e. tt) (λ e. births-list a.book a.will_bd (birth_stamp a.stamp now))
acts-lists c k a now (Change alias value) =
    refused-gives (Lists a) (set_refusal a.book alias value) (changing a now alias value)
    (λ accepted. by_if (Lists a) (not (rule.is_same_value a.book alias value) && owner_is_up a.book (owner_at a.book alias)) (telling a now alias value) (nothing a)
    (λ e. by_if (Lists a) (is_born a.phase) _ _ (λ b. ((λ birth. no_birth birth), tt)) (λ b. tt)) (λ e. tt))
acts-lists c k a now (Changes changes) =
    faulted-gives (Lists a) (rule.changes_fault a.book changes) (rule.several a now changes)
    (λ accepted. saying-gives (Lists a) a now (rule.owner_of a.book changes) (rule.others_in a.book changes) tt (λ ys up. ((λ birth. no_birth birth), tt)))
acts-lists c k a now (Turn name up) =
    refused-gives (Lists a) (turn_refusal a.book name) (turning a now name up)
    (λ accepted. by_if (Lists a) (not (rule.is_so_already a.book name up) && is_born a.phase) _ (nothing a)
    (λ e. (turn-lists a.book a.will_bd (later_stamp a.stamp now) name up accepted, tt)) (λ e. tt))
acts-lists c k a now (Command topic payload) = commanded-lists a now (command_of c a.book topic payload)
acts-lists c k a now (State payload) =
    by_if (Gives (Lists a)) (is_some c.primary) (heard_in c a now (state_at payload)) (Ok (nothing a)) (λ e. heard-lists c a now (state_at payload)) (λ e. tt)
acts-lists c k a now Drain = draining-lists c k a now a.store.items
acts-lists c k a now Stop = tt
acts-lists c k a now Cut = tt
acts-lists c k a now TurnedAway = by_if (Lists a) (is_connecting a.phase) (record (nothing a) { close = true; phase = Idle }) (nothing a) (λ e. tt) (λ e. tt)
acts-lists c k a now Pass = tt

acked-lists : (a : rule.Asked) (ack : Option ℕ) (g : Given) → Lists a g → Lists a (acked ack g)
acked-lists a None g all = all
acked-lists a (Some id) g all = all

pub rules-list : (c : Config) (k : ℕ) (a : rule.Asked) (i : Input) (g : Given) → rules c k a i ≡ Ok g → Lists a g
rules-list c k a i g is =
    let t = rules-taken c k a i g is in
    subst (Lists a) (sym t.is) (acked-lists a i.ack t.given (subst (Gives (Lists a)) t.acted (acts-lists c k a i.now i.act)))

-- ---- whole births

no_openings : (b : Book) (stamp : ℕ) (es : List (ℕ × DeviceData)) → AllByRecursion (λ d. opens d ≡ false) (map (device_birth b stamp) es)
no_openings b stamp [] = tt
no_openings b stamp (e ∷ es) = (refl, no_openings b stamp es)

pub course-births : (a : rule.Asked) (now : ℕ) (act : Act) (g : Given) → Course a now act g → AreWholeBirths a.book a.will_bd g.drafts
course-births a now act g (Quiet none p) = inl (subst (AllByRecursion (λ d. opens d ≡ false)) (sym none) tt)
course-births a now act g (One d one closed of_stamp is_up stays not_open) = inl (subst (AllByRecursion (λ d. opens d ≡ false)) (sym one) (closed, tt))
course-births a now act g (Births all busy stays not_open) = inr (birth_stamp a.stamp now, all)

-- ---- only while the connection is joined

born-joined : (p : Phase) → is_born p ≡ true → link_in p ≡ Joined
born-joined Idle e = absurd (true≢false (sym e))
born-joined Connecting e = absurd (true≢false (sym e))
born-joined Waiting e = absurd (true≢false (sym e))
born-joined Born e = refl

pub course-joined : (a : rule.Asked) (now : ℕ) (act : Act) (g : Given) → Course a now act g → 0 < length g.drafts → link_in g.phase ≡ Joined
course-joined a now act g (Quiet none p) some =
    let empty : length g.drafts ≡ 0 = ap (λ (ds : List Draft). length ds) none in absurd (omega (arith, some, empty))
course-joined a now act g (One d one closed of_stamp is_up stays not_open) some = born-joined g.phase stays
course-joined a now act g (Births all busy stays not_open) some = born-joined g.phase stays
