-- A device's data and deaths stand only where it is born.
use Rattle.std.proofs.Common.{◌≡◌, ◌⊎◌, ℕ, zero, suc, ◌+◌, ◌-◌, ◌≤◌, Bool, true, false, not, ◌&&◌, cond, List, [], ◌∷◌, ◌++◌, map, take, Option, Some, None, is_some, option_map, Ok, refl, sym, ◌∙◌, ap, subst, inl, inr, arith, append_assoc, nat_lt}
use Rattle.std.specs.Prelude.{slice_get}
use Rattle.std.specs.List.{AllByRecursion, position_from, enumerate_from, filter}
use Rattle.std.specs.Option.{option_and_then, option_map_or}
use Rattle.std.specs.Str.{bytes_eq}
use Rattle.std.proofs.lemmas.Bool.{true≢false, and_parts}
use Rattle.std.proofs.lemmas.List.{append-nil}
use Rattle.std.proofs.lemmas.Slice.Eq.{bytes_eq-Decides}
use Rattle.spk_device.specs.Book.{Book, DeviceData, device_at, is_up, number_of}
use Rattle.spk_payload.specs.Typing.{Typed}
use Rattle.spk_device.specs.Step.{set_refusal, turn_refusal, turned, with_value}
use Rattle.spk_device.specs.Values.{flag_eq}
use Rattle.spk_device.specs.declared.owner.Owner.{Owner}
use Rattle.spk_device.specs.declared.owner.Owner.TheVariants.{Node, Device}
use Rattle.spk_state.specs.Step.{heard_as}
use Rattle.spk_state.specs.Text.{state_at}
use Rattle.spk_state.specs.declared.primary.Heard.{Heard}
use Rattle.spk_state.specs.declared.primary.Heard.TheVariants.{Online, Offline, Ignored}
use Rattle.spk_state.specs.declared.state.State as read
use Rattle.spk_edge_rules.specs.declared.phase.Phase.TheVariants.{Idle}
use Rattle.spk_edge_rules.specs.Births.{births_at, birth_stamp, device_birth, device_of, later_stamp, node_birth, owner_at, owner_is_up, turn_draft}
use Rattle.spk_edge_rules.specs.Claims.{AreNumbered, IsAlive, is_birth_of, is_death_of}
use Rattle.spk_edge_rules.specs.Commands.{Order, command_of, wants_rebirth, writes_in}
use Rattle.spk_edge_rules.specs.Config.{Config, Setup}
use Rattle.spk_edge_rules.specs.History.{front_going}
use Rattle.spk_edge_rules.specs.Inputs.{Act, Open, Accepted, Change, Changes, Turn, Command, State, Drain, Stop, Cut, TurnedAway, Pass, Input, ChangeData}
use Rattle.spk_edge_rules.specs.Messages.{Draft, is_birth, opens}
use Rattle.spk_edge_rules.specs.Rules as rule
use Rattle.spk_edge_rules.specs.Rules.{Given, acked, acts, born, changing, commanded, draining, heard_in, hearing, is_born, is_connecting, is_so_already, is_waiting, joining, leaving, nothing, opening, rules, telling, turning}
use Rattle.spk_edge_rules.specs.Run.{Done, Message, asked_of, births_in, book_of, device_by, next_number, opened, phase_of, published, run_of, with_posts}
use Rattle.spk_edge_rules.specs.Step.{book_after, is_open}
use Rattle.spk_edge_rules.proofs.Chains.{births-snoc}
use Rattle.spk_edge_rules.proofs.Courses.{by_if, faulted-gives, Gives, refused-gives, rules-taken, saying-gives}
use Rattle.spk_edge_rules.proofs.Moments.{book-step}
use Rattle.spk_edge_rules.proofs.Numbers.{post, posted-cons, with_post}
use Rattle.spk_edge_rules.proofs.Records.{AllRight, Runs, runs-all, told-all}
use Rattle.spk_edge_rules.proofs.Tellings.{found, known}

-- ---- devices that are up

abbrev AnyUp : List DeviceData → List ℕ → Type 0
AnyUp [] name = ⊥
AnyUp (d ∷ ds) name = ((d.up ≡ true) × (d.name ≡ name)) ⊎ AnyUp ds name

up-at : (ds : List DeviceData) (n : ℕ) (d : DeviceData) → slice_get ds n ≡ Some d → d.up ≡ true → AnyUp ds d.name
up-at [] n d there up = absurd (let x : ⊥ = cc in x)
up-at (x ∷ ds) zero d there up = let same : x ≡ d = cc in inl (ap (λ (d : DeviceData). d.up) same ∙ up, ap (λ (d : DeviceData). d.name) same)
up-at (x ∷ ds) (suc n) d there up = inr (up-at ds n d there up)

turned-up : (other : List ℕ) (ds : List DeviceData) (name : List ℕ) → AnyUp (map (turned other true) ds) name → (other ≡ name) ⊎ AnyUp ds name
turned-up other [] name none = absurd none
turned-up other (d ∷ ds) name any = by (bytes_eq other d.name) refl any (turned-up other ds name)
  where
    later : (other ≡ name) ⊎ AnyUp ds name → (other ≡ name) ⊎ AnyUp (d ∷ ds) name
    later (inl same) = inl same
    later (inr up) = inr (inr up)

    by : (b : Bool) → bytes_eq other d.name ≡ b → AnyUp (cond b (record d { up = true }) d ∷ map (turned other true) ds) name
        → (AnyUp (map (turned other true) ds) name → (other ≡ name) ⊎ AnyUp ds name) → (other ≡ name) ⊎ AnyUp (d ∷ ds) name
    by true e (inl here) more = inl ((bytes_eq-Decides other d.name).0 e ∙ here.1)
    by true e (inr there) more = later (more there)
    by false e (inl here) more = inr (inl here)
    by false e (inr there) more = later (more there)

turned-down : (other : List ℕ) (ds : List DeviceData) (name : List ℕ) → AnyUp (map (turned other false) ds) name → AnyUp ds name × (bytes_eq other name ≡ false)
turned-down other [] name none = absurd none
turned-down other (d ∷ ds) name any = by (bytes_eq other d.name) refl any (turned-down other ds name)
  where
    later : AnyUp ds name × (bytes_eq other name ≡ false) → AnyUp (d ∷ ds) name × (bytes_eq other name ≡ false)
    later p = (inr p.0, p.1)

    by : (b : Bool) → bytes_eq other d.name ≡ b → AnyUp (cond b (record d { up = false }) d ∷ map (turned other false) ds) name
        → (AnyUp (map (turned other false) ds) name → AnyUp ds name × (bytes_eq other name ≡ false)) → AnyUp (d ∷ ds) name × (bytes_eq other name ≡ false)
    by true e (inl here) more = absurd (true≢false (sym here.0))
    by true e (inr there) more = later (more there)
    by false e (inl here) more = (inl here, ap (bytes_eq other) (sym here.1) ∙ e)
    by false e (inr there) more = later (more there)

-- a name whose device is up
named-up : (b : Book) (name : List ℕ) → is_up b name ≡ Some true → AnyUp b.devices name
named-up b name e = by (number_of b name) refl e
  where
    at : (n : ℕ) → number_of b name ≡ Some n → (o : Option DeviceData) → device_at b n ≡ o → option_map (λ (d : DeviceData). d.up) o ≡ Some true → AnyUp b.devices name
    at n found_at None there e = absurd (let x : ⊥ = cc in x)
    at n found_at (Some d) there e =
        let up : d.up ≡ true = cc in
        let f = found (λ (d : DeviceData). bytes_eq name d.name) 0 n b.devices found_at in
        let here : f.place ≡ n = (let c = f.counted in omega (arith, c)) in
        let first : (let o : Option DeviceData = Some f.device in o) ≡ Some d = sym f.there ∙ ap (slice_get b.devices) here ∙ there in
        let same : f.device ≡ d = cc in
        let of_name : name ≡ d.name = (bytes_eq-Decides name f.device.name).0 f.passes ∙ ap (λ (d : DeviceData). d.name) same in
        subst (AnyUp b.devices) (sym of_name) (up-at b.devices n d there up)

    by : (o : Option ℕ) → number_of b name ≡ o → option_and_then (λ n. option_map (λ (d : DeviceData). d.up) (device_at b n)) o ≡ Some true → AnyUp b.devices name
    by None found_at e = absurd (let x : ⊥ = cc in x)
    by (Some n) found_at e = at n found_at (device_at b n) refl e

-- a name that leads to a device, up or down
turned-is : (b : Book) (name : List ℕ) → turn_refusal b name ≡ None → (was : Bool) × (is_up b name ≡ Some was)
turned-is b name there = by (number_of b name) refl (known b name there)
  where
    by : (o : Option ℕ) → number_of b name ≡ o → is_some o ≡ true → (was : Bool) × (option_and_then (λ n. option_map (λ (d : DeviceData). d.up) (device_at b n)) o ≡ Some was)
    by None e some = absurd (true≢false (sym some))
    by (Some n) e some =
        let f = found (λ (d : DeviceData). bytes_eq name d.name) 0 n b.devices e in
        let here : f.place ≡ n = (let c = f.counted in omega (arith, c)) in
        (f.device.up, ap (option_map (λ (d : DeviceData). d.up)) (ap (slice_get b.devices) (sym here) ∙ f.there))

flag-same : (was : Bool) → flag_eq was true ≡ true → was ≡ true
flag-same true e = refl
flag-same false e = absurd (true≢false (sym e))

flag-other : (was : Bool) → flag_eq was false ≡ false → was ≡ true
flag-other true e = refl
flag-other false e = absurd (true≢false e)

already-up : (b : Book) (name : List ℕ) → turn_refusal b name ≡ None → is_so_already b name true ≡ true → AnyUp b.devices name
already-up b name there so =
    let was = turned-is b name there in
    let test : flag_eq was.0 true ≡ true = ap (λ (o : Option Bool). option_map_or (λ was. flag_eq was true) o false) (sym was.1) ∙ so in
    named-up b name (was.1 ∙ ap (λ b. Some b) (flag-same was.0 test))

goes-down : (b : Book) (name : List ℕ) → turn_refusal b name ≡ None → is_so_already b name false ≡ false → AnyUp b.devices name
goes-down b name there so =
    let was = turned-is b name there in
    let test : flag_eq was.0 false ≡ false = ap (λ (o : Option Bool). option_map_or (λ was. flag_eq was false) o false) (sym was.1) ∙ so in
    named-up b name (was.1 ∙ ap (λ b. Some b) (flag-other was.0 test))

owner-any : (b : Book) (owner : Owner) (name : List ℕ) → owner_is_up b owner ≡ true → device_of b owner ≡ Some name → AnyUp b.devices name
owner-any b Node name up e = absurd (let x : ⊥ = cc in x)
owner-any b (Device n) name up e = by (device_at b n) refl up e
  where
    by : (o : Option DeviceData) → device_at b n ≡ o → option_map_or (λ (d : DeviceData). d.up) o false ≡ true → option_map (λ (d : DeviceData). d.name) o ≡ Some name → AnyUp b.devices name
    by None there up e = absurd (true≢false (sym up))
    by (Some d) there up e = let same : d.name ≡ name = cc in subst (AnyUp b.devices) same (up-at b.devices n d there up)

-- values that are set leave devices as they are
set-devices : (b : Book) (changes : List (ℕ × Option Typed)) → (rule.with_values b changes).devices ≡ b.devices
set-devices b [] = refl
set-devices b (x ∷ xs) = set-devices (with_value b x.0 x.1) xs

set-up : (b : Book) (changes : List (ℕ × Option Typed)) (name : List ℕ) → AnyUp (rule.with_values b changes).devices name → AnyUp b.devices name
set-up b changes name up = subst (λ (ds : List DeviceData). AnyUp ds name) (set-devices b changes) up

up-set : (b : Book) (changes : List (ℕ × Option Typed)) (name : List ℕ) → AnyUp b.devices name → AnyUp (rule.with_values b changes).devices name
up-set b changes name up = subst (λ (ds : List DeviceData). AnyUp ds name) (sym (set-devices b changes)) up

-- ---- what each act does

-- no device is up that wasn't
abbrev Covered : rule.Asked → Act → Type 0
Covered a act = (name : List ℕ) → AnyUp (book_after a.book act).devices name → AnyUp a.book.devices name

-- data and deaths are of devices that were up
abbrev OfUp : rule.Asked → Draft → Type 0
OfUp a d = (name : List ℕ) → d.device ≡ Some name → is_birth d.verb ≡ false → AnyUp a.book.devices name

-- a device is up that was, and isn't dead now, or that is born now
abbrev Turns : rule.Asked → Act → Draft → Type 0
Turns a act d = (name : List ℕ) → AnyUp (book_after a.book act).devices name → (AnyUp a.book.devices name × (is_death_of name d ≡ false)) ⊎ (is_birth_of name d ≡ true)

-- every device that was up still is, where no two devices have one name
abbrev Recovered : rule.Asked → Act → Type 0
Recovered a act = AreNumbered a.book → (name : List ℕ) → AnyUp a.book.devices name → AnyUp (book_after a.book act).devices name

-- and so it is where a message is given, but for a device that is dead now
abbrev Returns : rule.Asked → Act → Draft → Type 0
Returns a act d = (name : List ℕ) → (AnyUp a.book.devices name × (is_death_of name d ≡ false)) ⊎ (is_birth_of name d ≡ true) → AnyUp (book_after a.book act).devices name

data Lives (a : rule.Asked) (act : Act) (g : Given) : Type 0 where
  Silent : g.drafts ≡ [] → (is_born g.phase ≡ true → (is_born a.phase ≡ true) × (is_open act ≡ false) × Covered a act × Recovered a act) → Lives a act g
  Single : (d : Draft) → g.drafts ≡ d ∷ [] → opens d ≡ false → is_born a.phase ≡ true → is_open act ≡ false → OfUp a d → Turns a act d → Returns a act d → Lives a act g
  Whole : (stamp : ℕ) → g.drafts ≡ births_at a.book a.will_bd stamp → is_open act ≡ false → book_after a.book act ≡ a.book → Lives a act g

ends-it : (a : rule.Asked) (act : Act) (g : Given) → g.drafts ≡ [] → is_born g.phase ≡ false → Lives a act g
ends-it a act g none not_born = Silent none (λ b. absurd (true≢false (sym b ∙ not_born)))

hearing-lives : (c : Config) (a : rule.Asked) (now : ℕ) (payload : List ℕ) (heard : Heard) → Lives a (State payload) (hearing c a now heard)
hearing-lives c a now payload Online =
    by_if (Lives a (State payload)) (is_waiting a.phase) (born a now (nothing a)) (nothing a)
    (λ e. Whole (birth_stamp a.stamp now) refl refl refl) (λ e. Silent refl (λ b. (b, refl, (λ name up. up), (λ numbered name up. up))))
hearing-lives c a now payload Offline =
    by_if (Lives a (State payload)) (is_born a.phase) (leaving c a) (nothing a)
    (λ e. ends-it a (State payload) (leaving c a) refl refl) (λ e. Silent refl (λ b. (b, refl, (λ name up. up), (λ numbered name up. up))))
hearing-lives c a now payload Ignored = Silent refl (λ b. (b, refl, (λ name up. up), (λ numbered name up. up)))

heard-lives : (c : Config) (a : rule.Asked) (now : ℕ) (payload : List ℕ) (s : Option read.State) → Gives (Lives a (State payload)) (heard_in c a now s)
heard-lives c a now payload None = tt
heard-lives c a now payload (Some s) = hearing-lives c a now payload (heard_as a.heard s)

commanded-lives : (a : rule.Asked) (now : ℕ) (topic payload : List ℕ) (orders : Option (List Order)) → Gives (Lives a (Command topic payload)) (commanded a now orders)
commanded-lives a now topic payload None = tt
commanded-lives a now topic payload (Some orders) =
    let g = record (nothing a) { writes = writes_in orders } in
    by_if (Lives a (Command topic payload)) (wants_rebirth orders && is_born a.phase) (born a now g) g
    (λ e. Whole (birth_stamp a.stamp now) refl refl refl) (λ e. Silent refl (λ b. (b, refl, (λ name up. up), (λ numbered name up. up))))

data-returns : (b : Book) (name : List ℕ) → (AnyUp b.devices name × (false ≡ false)) ⊎ (false ≡ true) → AnyUp b.devices name
data-returns b name (inl was) = was.0
data-returns b name (inr never) = absurd (true≢false (sym never))

draining-lives : (c : Config) (k : ℕ) (a : rule.Asked) (now : ℕ) (changes : List ChangeData) → is_born a.phase ≡ true → Lives a Drain (draining c k a now changes)
draining-lives c k a now [] is_up = Silent refl (λ b. (b, refl, (λ name up. up), (λ numbered name up. up)))
draining-lives c k a now (x ∷ xs) is_up =
    by_if (Lives a Drain) (owner_is_up a.book x.owner) _ _
    (λ e. by_if (Lives a Drain) (nat_lt 0 (front_going c k a.book x.owner (later_stamp a.stamp now) (x ∷ xs))) _ _
    (λ some. Single _ refl refl is_up refl (λ name of_it other_verb. owner-any a.book x.owner name e of_it) (λ name up. inl (up, refl)) (λ name was. data-returns a.book name was))
    (λ none. Silent refl (λ b. (b, refl, (λ name up. up), (λ numbered name up. up)))))
    (λ e. Silent refl (λ b. (b, refl, (λ name up. up), (λ numbered name up. up))))

-- a device that is so already
so-covered : (a : rule.Asked) (name : List ℕ) (up : Bool) → turn_refusal a.book name ≡ None → (not (is_so_already a.book name up) && is_born a.phase) ≡ false → is_born a.phase ≡ true
    → Covered a (Turn name up)
so-covered a name up there e is_up = by up (so (is_so_already a.book name up) (is_born a.phase) e is_up)
  where
    so : (b p : Bool) → (not b && p) ≡ false → p ≡ true → b ≡ true
    so true p e q = refl
    so false p e q = absurd (true≢false (sym q ∙ e))

    from : (other : List ℕ) → (name ≡ other) ⊎ AnyUp a.book.devices other → AnyUp a.book.devices name → AnyUp a.book.devices other
    from other (inl same) was = subst (AnyUp a.book.devices) same was
    from other (inr was) also = was

    by : (up : Bool) → is_so_already a.book name up ≡ true → Covered a (Turn name up)
    by true so = λ other now_up. from other (turned-up name a.book.devices other now_up) (already-up a.book name there so)
    by false so = λ other now_up. (turned-down name a.book.devices other now_up).0

turn-up : (a : rule.Asked) (stamp : ℕ) (name : List ℕ) (up : Bool) → turn_refusal a.book name ≡ None → is_so_already a.book name up ≡ false → OfUp a (turn_draft a.book stamp name up)
turn-up a stamp name true there so = λ other of_it other_verb. absurd (true≢false other_verb)
turn-up a stamp name false there so = λ other of_it other_verb. let same : name ≡ other = cc in subst (AnyUp a.book.devices) same (goes-down a.book name there so)

turn-turns : (a : rule.Asked) (stamp : ℕ) (name : List ℕ) (up : Bool) → Turns a (Turn name up) (turn_draft a.book stamp name up)
turn-turns a stamp name true = λ other now_up. by other (turned-up name a.book.devices other now_up)
  where
    by : (other : List ℕ) → (name ≡ other) ⊎ AnyUp a.book.devices other
        → (AnyUp a.book.devices other × (is_death_of other (turn_draft a.book stamp name true) ≡ false)) ⊎ (is_birth_of other (turn_draft a.book stamp name true) ≡ true)
    by other (inl same) = inr ((bytes_eq-Decides name other).1 same)
    by other (inr was) = inl (was, refl)
turn-turns a stamp name false = λ other now_up. inl (turned-down name a.book.devices other now_up)

stays-up : (other : List ℕ) (ds : List DeviceData) (name : List ℕ) → AnyUp ds name → AnyUp (map (turned other true) ds) name
stays-up other [] name none = absurd none
stays-up other (d ∷ ds) name any = by (bytes_eq other d.name) any (stays-up other ds name)
  where
    by : (b : Bool) → AnyUp (d ∷ ds) name → (AnyUp ds name → AnyUp (map (turned other true) ds) name) → AnyUp (cond b (record d { up = true }) d ∷ map (turned other true) ds) name
    by true (inl here) more = inl (refl, here.1)
    by true (inr there) more = inr (more there)
    by false (inl here) more = inl here
    by false (inr there) more = inr (more there)

others-stay : (other : List ℕ) (ds : List DeviceData) (name : List ℕ) → bytes_eq other name ≡ false → AnyUp ds name → AnyUp (map (turned other false) ds) name
others-stay other [] name apart none = absurd none
others-stay other (d ∷ ds) name apart any = by (bytes_eq other d.name) refl any (others-stay other ds name apart)
  where
    by : (b : Bool) → bytes_eq other d.name ≡ b → AnyUp (d ∷ ds) name → (AnyUp ds name → AnyUp (map (turned other false) ds) name) → AnyUp (cond b (record d { up = false }) d ∷ map (turned other false) ds) name
    by true e (inl here) more = absurd (true≢false (sym e ∙ ap (bytes_eq other) here.1 ∙ apart))
    by true e (inr there) more = inr (more there)
    by false e (inl here) more = inl here
    by false e (inr there) more = inr (more there)

-- a device that comes up is up
comes-up : (ds : List DeviceData) (n : ℕ) (d : DeviceData) (name : List ℕ) → slice_get ds n ≡ Some d → bytes_eq name d.name ≡ true → AnyUp (map (turned name true) ds) name
comes-up [] n d name there of_name = absurd (let x : ⊥ = cc in x)
comes-up (x ∷ ds) zero d name there of_name =
    let same : x ≡ d = cc in
    let mine : bytes_eq name x.name ≡ true = ap (λ (d : DeviceData). bytes_eq name d.name) same ∙ of_name in
    inl (ap (λ b. (cond b (record x { up = true }) x).up) mine, ap (λ b. (cond b (record x { up = true }) x).name) mine ∙ sym ((bytes_eq-Decides name x.name).0 mine))
comes-up (x ∷ ds) (suc n) d name there of_name = inr (comes-up ds n d name there of_name)

turned-there : (b : Book) (name : List ℕ) → turn_refusal b name ≡ None → AnyUp (map (turned name true) b.devices) name
turned-there b name there = by (number_of b name) refl (known b name there)
  where
    by : (o : Option ℕ) → number_of b name ≡ o → is_some o ≡ true → AnyUp (map (turned name true) b.devices) name
    by None e some = absurd (true≢false (sym some))
    by (Some n) e some =
        let f = found (λ (d : DeviceData). bytes_eq name d.name) 0 n b.devices e in
        comes-up b.devices f.place f.device name f.there f.passes

-- where no two devices have one name, a device that is up is the one that its name leads to
any-at : (ds : List DeviceData) (name : List ℕ) → AnyUp ds name → (n : ℕ) × (d : DeviceData) × (slice_get ds n ≡ Some d) × (d.up ≡ true) × (d.name ≡ name)
any-at [] name none = absurd none
any-at (d ∷ ds) name (inl here) = (zero, d, refl, here.0, here.1)
any-at (d ∷ ds) name (inr there) =
    let (n, x, at, up, of_name) = any-at ds name there in
    (suc n, x, at, up, of_name)

only-up : (b : Book) (name : List ℕ) → AreNumbered b → AnyUp b.devices name → is_up b name ≡ Some true
only-up b name numbered any =
    let (n, d, at, up, of_name) = any-at b.devices name any in
    let number : number_of b name ≡ Some n = ap (number_of b) (sym of_name) ∙ numbered n d at in
    ap (λ (o : Option ℕ). option_and_then (λ n. option_map (λ (d : DeviceData). d.up) (device_at b n)) o) number
    ∙ ap (option_map (λ (d : DeviceData). d.up)) at ∙ ap (λ b. Some b) up

so-recovered : (a : rule.Asked) (name : List ℕ) (up : Bool) → turn_refusal a.book name ≡ None → (not (is_so_already a.book name up) && is_born a.phase) ≡ false → is_born a.phase ≡ true
    → Recovered a (Turn name up)
so-recovered a name up there e busy = by up (so (is_so_already a.book name up) (is_born a.phase) e busy)
  where
    so : (b p : Bool) → (not b && p) ≡ false → p ≡ true → b ≡ true
    so true p e q = refl
    so false p e q = absurd (true≢false (sym q ∙ e))

    down : (other : List ℕ) → is_so_already a.book name false ≡ true → AreNumbered a.book → AnyUp a.book.devices other → (b : Bool) → bytes_eq name other ≡ b → AnyUp (map (turned name false) a.book.devices) other
    down other so numbered any false e = others-stay name a.book.devices other e any
    down other so numbered any true e =
        let same : name ≡ other = (bytes_eq-Decides name other).0 e in
        let up : is_up a.book name ≡ Some true = only-up a.book name numbered (subst (AnyUp a.book.devices) (sym same) any) in
        absurd (true≢false (sym so ∙ ap (λ (o : Option Bool). option_map_or (λ was. flag_eq was false) o false) up))

    by : (up : Bool) → is_so_already a.book name up ≡ true → Recovered a (Turn name up)
    by true so = λ numbered other any. stays-up name a.book.devices other any
    by false so = λ numbered other any. down other so numbered any (bytes_eq name other) refl

turn-returns : (a : rule.Asked) (stamp : ℕ) (name : List ℕ) (up : Bool) → turn_refusal a.book name ≡ None → Returns a (Turn name up) (turn_draft a.book stamp name up)
turn-returns a stamp name true there = λ other was. by other was
  where
    by : (other : List ℕ) → (AnyUp a.book.devices other × (is_death_of other (turn_draft a.book stamp name true) ≡ false)) ⊎ (is_birth_of other (turn_draft a.book stamp name true) ≡ true)
        → AnyUp (map (turned name true) a.book.devices) other
    by other (inl was) = stays-up name a.book.devices other was.0
    by other (inr new) = let same : name ≡ other = (bytes_eq-Decides name other).0 new in subst (AnyUp (map (turned name true) a.book.devices)) same (turned-there a.book name there)
turn-returns a stamp name false there = λ other was. by other was
  where
    by : (other : List ℕ) → (AnyUp a.book.devices other × (is_death_of other (turn_draft a.book stamp name false) ≡ false)) ⊎ (is_birth_of other (turn_draft a.book stamp name false) ≡ true)
        → AnyUp (map (turned name false) a.book.devices) other
    by other (inl was) = others-stay name a.book.devices other was.1 was.0
    by other (inr never) = absurd (true≢false (sym never))

turn-opens : (a : rule.Asked) (stamp : ℕ) (name : List ℕ) (up : Bool) → opens (turn_draft a.book stamp name up) ≡ false
turn-opens a stamp name true = refl
turn-opens a stamp name false = refl

not-true : (b : Bool) → not b ≡ true → b ≡ false
not-true true e = absurd (true≢false (sym e))
not-true false e = refl

acts-lives : (c : Config) (k : ℕ) (a : rule.Asked) (now : ℕ) (act : Act) → rule.fits a.phase act ≡ true → Gives (Lives a act) (acts c k a now act)
acts-lives c k a now Open fit = ends-it a Open (opening c a now) refl refl
acts-lives c k a now Accepted fit =
    by_if (Lives a Accepted) (is_some c.primary) (joining c a) (born a now (joining c a))
    (λ e. ends-it a Accepted (joining c a) refl refl) (λ e. Whole (birth_stamp a.stamp now) refl refl refl)
acts-lives c k a now (Change alias value) fit =
    refused-gives (Lives a (Change alias value)) (set_refusal a.book alias value) (changing a now alias value)
    (λ accepted. by_if (Lives a (Change alias value)) (not (rule.is_same_value a.book alias value) && owner_is_up a.book (owner_at a.book alias)) (telling a now alias value) (nothing a)
    (λ e. by_if (Lives a (Change alias value)) (is_born a.phase) _ _
    (λ b. Single _ refl refl b refl
    (λ name of_it other_verb. owner-any a.book (owner_at a.book alias) name (and_parts (not (rule.is_same_value a.book alias value)) (owner_is_up a.book (owner_at a.book alias)) e).1 of_it)
    (λ name up. inl (up, refl)) (λ name was. data-returns a.book name was))
    (λ b. Silent refl (λ k. (k, refl, (λ name up. up), (λ numbered name up. up)))))
    (λ e. Silent refl (λ b. (b, refl, (λ name up. up), (λ numbered name up. up)))))
acts-lives c k a now (Changes changes) fit =
    faulted-gives (Lives a (Changes changes)) (rule.changes_fault a.book changes) (rule.several a now changes)
    (λ accepted. saying-gives (Lives a (Changes changes)) a now (rule.owner_of a.book changes) (rule.others_in a.book changes)
    (Silent refl (λ b. (b, refl, (λ name up. set-up a.book changes name up), (λ numbered name up. up-set a.book changes name up))))
    (λ ys owner_up. Single _ refl refl fit refl (λ name of_it other_verb. owner-any a.book (rule.owner_of a.book changes) name owner_up of_it)
    (λ name up. inl (set-up a.book changes name up, refl)) (λ name was. up-set a.book changes name (data-returns a.book name was))))
acts-lives c k a now (Turn name up) fit =
    refused-gives (Lives a (Turn name up)) (turn_refusal a.book name) (turning a now name up)
    (λ accepted. by_if (Lives a (Turn name up)) (not (is_so_already a.book name up) && is_born a.phase) _ (nothing a)
    (λ e. let parts = and_parts (not (is_so_already a.book name up)) (is_born a.phase) e in
    Single (turn_draft a.book (later_stamp a.stamp now) name up) refl (turn-opens a (later_stamp a.stamp now) name up) parts.1 refl
    (turn-up a (later_stamp a.stamp now) name up accepted (not-true (is_so_already a.book name up) parts.0)) (turn-turns a (later_stamp a.stamp now) name up)
    (turn-returns a (later_stamp a.stamp now) name up accepted))
    (λ e. Silent refl (λ b. (b, refl, so-covered a name up accepted e b, so-recovered a name up accepted e b))))
acts-lives c k a now (Command topic payload) fit = commanded-lives a now topic payload (command_of c a.book topic payload)
acts-lives c k a now (State payload) fit =
    by_if (Gives (Lives a (State payload))) (is_some c.primary) (heard_in c a now (state_at payload)) (Ok (nothing a))
    (λ e. heard-lives c a now payload (state_at payload)) (λ e. Silent refl (λ b. (b, refl, (λ name up. up), (λ numbered name up. up))))
acts-lives c k a now Drain fit = draining-lives c k a now a.store.items fit
acts-lives c k a now Stop fit = ends-it a Stop (leaving c a) refl refl
acts-lives c k a now Cut fit = ends-it a Cut (record (nothing a) { phase = Idle }) refl refl
acts-lives c k a now TurnedAway fit =
    by_if (Lives a TurnedAway) (is_connecting a.phase) (record (nothing a) { close = true; phase = Idle }) (nothing a)
    (λ e. ends-it a TurnedAway (record (nothing a) { close = true; phase = Idle }) refl refl) (λ e. Silent refl (λ b. (b, refl, (λ name up. up), (λ numbered name up. up))))
acts-lives c k a now Pass fit = Silent refl (λ b. (b, refl, (λ name up. up), (λ numbered name up. up)))

acked-lives : (a : rule.Asked) (act : Act) (ack : Option ℕ) (g : Given) → Lives a act g → Lives a act (acked ack g)
acked-lives a act None g lives = lives
acked-lives a act (Some id) g (Silent e p) = Silent e p
acked-lives a act (Some id) g (Single d e o b n u t r) = Single d e o b n u t r
acked-lives a act (Some id) g (Whole stamp e n b) = Whole stamp e n b

rules-live : (c : Config) (k : ℕ) (a : rule.Asked) (i : Input) (g : Given) → rules c k a i ≡ Ok g → Lives a i.act g
rules-live c k a i g is =
    let t = rules-taken c k a i g is in
    subst (Lives a i.act) (sym t.is) (acked-lives a i.act i.ack t.given (subst (Gives (Lives a i.act)) t.acted (acts-lives c k a i.now i.act t.fitting)))

-- ---- one message more

all-snoc : {X : Type 0} (P : X → Type 0) (xs : List X) (y : X) → AllByRecursion P xs → P y → AllByRecursion P (xs ++ y ∷ [])
all-snoc P [] y all one = (one, tt)
all-snoc P (x ∷ xs) y all one = (all.0, all-snoc P xs y all.1 one)

alive-more : (name : List ℕ) (birth session : ℕ) (ms : List Message) (m : Message) → IsAlive name birth session ms → is_death_of name m.draft ≡ false → IsAlive name birth session (ms ++ m ∷ [])
alive-more name birth session [] m none lives = absurd none
alive-more name birth session (x ∷ ms) m (inl here) lives =
    inl (record {
      is_birth = here.is_birth;
      under = here.under;
      of_session = here.of_session;
      lives = all-snoc (λ (x : Message). is_death_of name x.draft ≡ false) ms m here.lives lives;
    })
alive-more name birth session (x ∷ ms) m (inr later) lives = inr (alive-more name birth session ms m later lives)

alive-new : (name : List ℕ) (birth session : ℕ) (ms : List Message) (m : Message) → is_birth_of name m.draft ≡ true → m.birth ≡ birth → m.session ≡ session → IsAlive name birth session (ms ++ m ∷ [])
alive-new name birth session [] m is under of_session = inl (record { is_birth = is; under = under; of_session = of_session; lives = tt })
alive-new name birth session (x ∷ ms) m is under of_session = inr (alive-new name birth session ms m is under of_session)

-- a message of a device, but for births, is of one that is born before it
abbrev pub Spoken : List Message → Message → Type 0
Spoken front m = (name : List ℕ) → m.draft.device ≡ Some name → is_birth m.draft.verb ≡ false → IsAlive name m.birth m.session front

abbrev AllSpoken : List Message → List Message → Type 0
AllSpoken front [] = Unit {0}
AllSpoken front (m ∷ ms) = Spoken front m × AllSpoken (front ++ m ∷ []) ms

spoken-snoc : (front ms : List Message) (m : Message) → AllSpoken front ms → Spoken (front ++ ms) m → AllSpoken front (ms ++ m ∷ [])
spoken-snoc front [] m all one = (subst (λ (l : List Message). Spoken l m) (append-nil front) one, tt)
spoken-snoc front (x ∷ ms) m all one =
    (all.0, spoken-snoc (front ++ x ∷ []) ms m all.1 (subst (λ (l : List Message). Spoken l m) (sym (append_assoc front (x ∷ []) ms)) one))

spoken-at : (front ms : List Message) (p : ℕ) (m : Message) → AllSpoken front ms → slice_get ms p ≡ Some m → Spoken (front ++ take p ms) m
spoken-at front [] p m all there = absurd (let x : ⊥ = cc in x)
spoken-at front (x ∷ ms) zero m all there =
    let same : x ≡ m = cc in
    subst (Spoken (front ++ [])) same (subst (λ (l : List Message). Spoken l x) (sym (append-nil front)) all.0)
spoken-at front (x ∷ ms) (suc p) m all there =
    subst (λ (l : List Message). Spoken l m) (append_assoc front (x ∷ []) (take p ms)) (spoken-at (front ++ x ∷ []) ms p m all.1 there)

-- ---- births

abbrev AnyNamed : List (ℕ × DeviceData) → List ℕ → Type 0
AnyNamed [] name = ⊥
AnyNamed (e ∷ es) name = (e.1.name ≡ name) ⊎ AnyNamed es name

named-of : (n : ℕ) (ds : List DeviceData) (name : List ℕ) → AnyUp ds name → AnyNamed (filter (λ (e : ℕ × DeviceData). e.1.up) (enumerate_from n ds)) name
named-of n [] name none = absurd none
named-of n (d ∷ ds) name any = by d.up refl any (named-of (n + 1) ds name)
  where
    by : (b : Bool) → d.up ≡ b → AnyUp (d ∷ ds) name → (AnyUp ds name → AnyNamed (filter (λ (e : ℕ × DeviceData). e.1.up) (enumerate_from (n + 1) ds)) name)
        → AnyNamed (cond b ((n, d) ∷ filter (λ (e : ℕ × DeviceData). e.1.up) (enumerate_from (n + 1) ds)) (filter (λ (e : ℕ × DeviceData). e.1.up) (enumerate_from (n + 1) ds))) name
    by true e (inl here) more = inl here.1
    by true e (inr there) more = inr (more there)
    by false e (inl here) more = absurd (true≢false (sym here.0 ∙ e))
    by false e (inr there) more = more there

record IsGrown (session : ℕ) (ms after : List Message) (es : List (ℕ × DeviceData)) : Type 0 where
  spoken : AllSpoken [] after
  births : births_in after ≡ births_in ms
  alive : (name : List ℕ) → IsAlive name (births_in ms - 1) session ms ⊎ AnyNamed es name → IsAlive name (births_in ms - 1) session after

-- DBIRTHs behind others
grown : (b : Book) (stamp session : ℕ) (es : List (ℕ × DeviceData)) (ms : List Message) → AllSpoken [] ms → IsGrown session ms (with_posts ms session (map (device_birth b stamp) es)) es
grown b stamp session [] ms spoken = subst (λ (l : List Message). IsGrown session ms l []) (sym (append-nil ms)) (record {
  spoken = spoken;
  births = refl;
  alive = λ name any. first name any;
})
  where
    first : (name : List ℕ) → IsAlive name (births_in ms - 1) session ms ⊎ ⊥ → IsAlive name (births_in ms - 1) session ms
    first name (inl was) = was
    first name (inr none) = absurd none
grown b stamp session (e ∷ es) ms spoken =
    let d = device_birth b stamp e in
    let next = with_post session ms d in
    let after = with_posts next session (map (device_birth b stamp) es) in
    let same : births_in next ≡ births_in ms = births-snoc ms (post session ms d) ∙ omega arith in
    let rest = grown b stamp session es next (spoken-snoc [] ms (post session ms d) spoken (λ name of_it other_verb. absurd (true≢false other_verb))) in
    subst (λ (l : List Message). IsGrown session ms l (e ∷ es)) (sym (posted-cons session ms d (map (device_birth b stamp) es))) (record {
      spoken = rest.spoken;
      births = rest.births ∙ same;
      alive = λ name any. subst (λ n. IsAlive name (n - 1) session after) same (rest.alive name (by name any same));
    })
  where
    by : (name : List ℕ) → IsAlive name (births_in ms - 1) session ms ⊎ AnyNamed (e ∷ es) name → births_in (with_post session ms (device_birth b stamp e)) ≡ births_in ms
        → IsAlive name (births_in (with_post session ms (device_birth b stamp e)) - 1) session (with_post session ms (device_birth b stamp e)) ⊎ AnyNamed es name
    by name (inl was) same =
        inl (subst (λ n. IsAlive name (n - 1) session (with_post session ms (device_birth b stamp e))) (sym same)
        (alive-more name (births_in ms - 1) session ms (post session ms (device_birth b stamp e)) was refl))
    by name (inr (inl here)) same =
        inl (subst (λ n. IsAlive name (n - 1) session (with_post session ms (device_birth b stamp e))) (sym same)
        (alive-new name (births_in ms - 1) session ms (post session ms (device_birth b stamp e)) ((bytes_eq-Decides e.1.name name).1 here) refl refl))
    by name (inr (inr later)) same = inr later

-- ---- every run

record Living (s : Setup) (h : List Done) : Type 0 where
  alive : is_born (phase_of h) ≡ true → (name : List ℕ) → AnyUp (book_of s h).devices name → IsAlive name (births_in (published h) - 1) (opened h - 1) (published h)
  spoken : AllSpoken [] (published h)

abbrev after_it : List Done → Input → Given → List Done
after_it h i g = (record { input = i; given = g }) ∷ h

same-opened : (h : List Done) (i : Input) (g : Given) → is_open i.act ≡ false → opened (after_it h i g) ≡ opened h
same-opened h i g not_open = ap (λ b. cond b (opened h + 1) (opened h)) not_open

-- devices that are up behind the input are those that its act leaves so
up-before : (s : Setup) (h : List Done) (i : Input) (g : Given) (name : List ℕ) → AnyUp (book_of s (after_it h i g)).devices name → AnyUp (book_after (book_of s h) i.act).devices name
up-before s h i g name up = subst (λ (b : Book). AnyUp b.devices name) (sym (book-step s h i.now i.ack i.act g)) up

-- as the clause says it, behind messages whose number of births and whose session are these
abbrev AliveAt : List ℕ → ℕ → ℕ → List Message → Type 0
AliveAt name births sessions ms = IsAlive name (births - 1) (sessions - 1) ms

living-step : (s : Setup) (h : List Done) (i : Input) (g : Given) → Living s h → Lives (asked_of s h) i.act g → Living s (after_it h i g)
living-step s h i g living (Silent none p) =
    let same : published (after_it h i g) ≡ published h = ap (with_posts (published h) (opened h - 1)) none ∙ append-nil (published h) in
    record {
      alive = λ is_up name up.
          let q = p is_up in
          subst (λ n. AliveAt name (births_in (published (after_it h i g))) n (published (after_it h i g))) (sym (same-opened h i g q.1))
          (subst (λ (ms : List Message). AliveAt name (births_in ms) (opened h) ms) (sym same)
          (living.alive q.0 name (q.2 name (up-before s h i g name up))));
      spoken = subst (AllSpoken []) (sym same) living.spoken;
    }
living-step s h i g living (Single d one closed is_up not_open of_up turns returns_) =
    let session = opened h - 1 in
    let m = post session (published h) d in
    let same : published (after_it h i g) ≡ with_post session (published h) d =
    ap (with_posts (published h) session) one ∙ posted-cons session (published h) d [] ∙ append-nil (with_post session (published h) d) in
    let births : births_in (with_post session (published h) d) ≡ births_in (published h) = births-snoc (published h) m ∙ ap (λ b. births_in (published h) + cond b 1 0) closed ∙ omega arith in
    let number : m.birth ≡ births_in (published h) - 1 = ap (λ b. cond b (births_in (published h) + 1) (births_in (published h)) - 1) closed in
    record {
      alive = λ still name up.
          subst (λ n. AliveAt name (births_in (published (after_it h i g))) n (published (after_it h i g))) (sym (same-opened h i g not_open))
          (subst (λ (ms : List Message). AliveAt name (births_in ms) (opened h) ms) (sym same)
          (subst (λ n. AliveAt name n (opened h) (with_post session (published h) d)) (sym births)
          (by name number (turns name (up-before s h i g name up)))));
      spoken = subst (AllSpoken []) (sym same) (spoken-snoc [] (published h) m living.spoken
          (λ name of_it other_verb. subst (λ n. IsAlive name n session (published h)) (sym number) (living.alive is_up name (of_up name of_it other_verb))));
    }
  where
    by : (name : List ℕ) → (post (opened h - 1) (published h) d).birth ≡ births_in (published h) - 1 → (AnyUp (book_of s h).devices name × (is_death_of name d ≡ false)) ⊎ (is_birth_of name d ≡ true)
        → AliveAt name (births_in (published h)) (opened h) (with_post (opened h - 1) (published h) d)
    by name number (inl was) =
        alive-more name (births_in (published h) - 1) (opened h - 1) (published h) (post (opened h - 1) (published h) d) (living.alive is_up name was.0) was.1
    by name number (inr new) =
        alive-new name (births_in (published h) - 1) (opened h - 1) (published h) (post (opened h - 1) (published h) d) new number refl
living-step s h i g living (Whole stamp all not_open stays) =
    let a = asked_of s h in
    let session = opened h - 1 in
    let d = node_birth a.book a.will_bd stamp in
    let es = filter (λ (e : ℕ × DeviceData). e.1.up) (enumerate_from 0 a.book.devices) in
    let first = with_post session (published h) d in
    let more = grown a.book stamp session es first (spoken-snoc [] (published h) (post session (published h) d) living.spoken (λ name of_it other_verb. absurd (true≢false other_verb))) in
    let same : published (after_it h i g) ≡ with_posts first session (map (device_birth a.book stamp) es) =
    ap (with_posts (published h) session) all ∙ posted-cons session (published h) d (map (device_birth a.book stamp) es) in
    record {
      alive = λ still name up.
          subst (λ n. AliveAt name (births_in (published (after_it h i g))) n (published (after_it h i g))) (sym (same-opened h i g not_open))
          (subst (λ (ms : List Message). AliveAt name (births_in ms) (opened h) ms) (sym same)
          (subst (λ n. AliveAt name n (opened h) (with_posts first session (map (device_birth a.book stamp) es))) (sym more.births)
          (more.alive name (inr (named-of 0 a.book.devices name (subst (λ (b : Book). AnyUp b.devices name) stays (up-before s h i g name up)))))));
      spoken = subst (AllSpoken []) (sym same) more.spoken;
    }

living : (s : Setup) (h : List Done) → AllRight s h → Living s h
living s [] right = record { alive = λ is_up. absurd (true≢false (sym is_up)); spoken = tt }
living s (e ∷ h) right = living-step s h e.input e.given (living s h right.1) (rules-live s.config (next_number s h) (asked_of s h) e.input e.given right.0)

pub devices-born : (s : Setup) (is : List Input) (p : ℕ) (m : Message) (name : List ℕ) → slice_get (published (run_of s is)) p ≡ Some m → m.draft.device ≡ Some name
    → is_birth m.draft.verb ≡ false → IsAlive name m.birth m.session (take p (published (run_of s is)))
devices-born s is p m name there of_it other_verb = spoken-at [] (published (run_of s is)) p m (living s (run_of s is) (told-all s is).right).spoken there name of_it other_verb

pub up-born : (s : Setup) (is : List Input) (n : ℕ) (d : DeviceData) → is_born (phase_of (run_of s is)) ≡ true → slice_get (book_of s (run_of s is)).devices n ≡ Some d → d.up ≡ true
    → IsAlive d.name (births_in (published (run_of s is)) - 1) (opened (run_of s is) - 1) (published (run_of s is))
up-born s is n d is_up there up =
    (living s (run_of s is) (told-all s is).right).alive is_up d.name (up-at (book_of s (run_of s is)).devices n d there up)

-- ---- a device that isn't up is dead

-- DBIRTHs are no NBIRTHs
grown-births : (b : Book) (stamp session : ℕ) (es : List (ℕ × DeviceData)) (ms : List Message) → births_in (with_posts ms session (map (device_birth b stamp) es)) ≡ births_in ms
grown-births b stamp session [] ms = ap births_in (append-nil ms)
grown-births b stamp session (e ∷ es) ms =
    ap births_in (posted-cons session ms (device_birth b stamp e) (map (device_birth b stamp) es))
    ∙ grown-births b stamp session es (with_post session ms (device_birth b stamp e))
    ∙ births-snoc ms (post session ms (device_birth b stamp e)) ∙ omega arith

alive-back : (name : List ℕ) (birth session : ℕ) (ms : List Message) (m : Message) → IsAlive name birth session (ms ++ m ∷ [])
    → (IsAlive name birth session ms × (is_death_of name m.draft ≡ false)) ⊎ (is_birth_of name m.draft ≡ true)
alive-back name birth session [] m (inl new) = inr new.is_birth
alive-back name birth session [] m (inr none) = absurd none
alive-back name birth session (x ∷ ms) m (inl here) =
    let parts = all-unsnoc (λ (x : Message). is_death_of name x.draft ≡ false) ms m here.lives in
    inl (inl (record { is_birth = here.is_birth; under = here.under; of_session = here.of_session; lives = parts.0 }), parts.1)
  where
    all-unsnoc : (P : Message → Type 0) (xs : List Message) (y : Message) → AllByRecursion P (xs ++ y ∷ []) → AllByRecursion P xs × P y
    all-unsnoc P [] y all = (tt, all.0)
    all-unsnoc P (x ∷ xs) y all = let rest = all-unsnoc P xs y all.1 in ((all.0, rest.0), rest.1)
alive-back name birth session (x ∷ ms) m (inr there) = by (alive-back name birth session ms m there)
  where
    by : (IsAlive name birth session ms × (is_death_of name m.draft ≡ false)) ⊎ (is_birth_of name m.draft ≡ true)
        → (IsAlive name birth session (x ∷ ms) × (is_death_of name m.draft ≡ false)) ⊎ (is_birth_of name m.draft ≡ true)
    by (inl was) = inl (inr was.0, was.1)
    by (inr new) = inr new

-- births below a number
abbrev Below : ℕ → List Message → Type 0
Below k ms = AllByRecursion (λ (m : Message). m.birth + 1 ≤ k) ms

below-more : (j k : ℕ) (ms : List Message) → Below j ms → j ≤ k → Below k ms
below-more j k [] below le = tt
below-more j k (m ∷ ms) below le = let b = below.0 in (omega (arith, b, le), below-more j k ms below.1 le)

not-yet : (name : List ℕ) (k session : ℕ) (ms : List Message) → Below k ms → IsAlive name k session ms → ⊥
not-yet name k session [] below none = none
not-yet name k session (m ∷ ms) below (inl here) = let b = below.0 in let u = here.under in absurd (omega (arith, b, u))
not-yet name k session (m ∷ ms) below (inr there) = not-yet name k session ms below.1 there

record IsBack (session : ℕ) (ms after : List Message) (es : List (ℕ × DeviceData)) : Type 0 where
  below : Below (births_in after) after
  back : (name : List ℕ) → IsAlive name (births_in ms - 1) session after → IsAlive name (births_in ms - 1) session ms ⊎ AnyNamed es name

back-of : (b : Book) (stamp session : ℕ) (es : List (ℕ × DeviceData)) (ms : List Message) → Below (births_in ms) ms → 1 ≤ births_in ms
    → IsBack session ms (with_posts ms session (map (device_birth b stamp) es)) es
back-of b stamp session [] ms below some = subst (λ (l : List Message). IsBack session ms l []) (sym (append-nil ms)) (record { below = below; back = λ name alive. inl alive })
back-of b stamp session (e ∷ es) ms below some =
    let d = device_birth b stamp e in
    let next = with_post session ms d in
    let after = with_posts next session (map (device_birth b stamp) es) in
    let same : births_in next ≡ births_in ms = births-snoc ms (post session ms d) ∙ omega arith in
    let last : (births_in ms - 1) + 1 ≤ births_in ms = omega (arith, some) in
    let all : Below (births_in ms) next = all-snoc (λ (m : Message). m.birth + 1 ≤ births_in ms) ms (post session ms d) below last in
    let rest = back-of b stamp session es next (subst (λ n. Below n next) (sym same) all) (subst (λ n. 1 ≤ n) (sym same) some) in
    subst (λ (l : List Message). IsBack session ms l (e ∷ es)) (sym (posted-cons session ms d (map (device_birth b stamp) es))) (record {
      below = rest.below;
      back = λ name alive. by name same (rest.back name (subst (λ n. IsAlive name (n - 1) session after) (sym same) alive));
    })
  where
    one : (name : List ℕ) → (IsAlive name (births_in ms - 1) session ms × (is_death_of name (device_birth b stamp e) ≡ false)) ⊎ (is_birth_of name (device_birth b stamp e) ≡ true)
        → IsAlive name (births_in ms - 1) session ms ⊎ AnyNamed (e ∷ es) name
    one name (inl was) = inl was.0
    one name (inr new) = inr (inl ((bytes_eq-Decides e.1.name name).0 new))

    by : (name : List ℕ) → births_in (with_post session ms (device_birth b stamp e)) ≡ births_in ms
        → IsAlive name (births_in (with_post session ms (device_birth b stamp e)) - 1) session (with_post session ms (device_birth b stamp e)) ⊎ AnyNamed es name
        → IsAlive name (births_in ms - 1) session ms ⊎ AnyNamed (e ∷ es) name
    by name same (inl was) =
        one name (alive-back name (births_in ms - 1) session ms (post session ms (device_birth b stamp e))
        (subst (λ n. IsAlive name (n - 1) session (with_post session ms (device_birth b stamp e))) same was))
    by name same (inr later) = inr (inr later)

up-of : (n : ℕ) (ds : List DeviceData) (name : List ℕ) → AnyNamed (filter (λ (e : ℕ × DeviceData). e.1.up) (enumerate_from n ds)) name → AnyUp ds name
up-of n [] name none = absurd none
up-of n (d ∷ ds) name any = by d.up refl any (up-of (n + 1) ds name)
  where
    by : (b : Bool) → d.up ≡ b → AnyNamed (cond b ((n, d) ∷ filter (λ (e : ℕ × DeviceData). e.1.up) (enumerate_from (n + 1) ds)) (filter (λ (e : ℕ × DeviceData). e.1.up) (enumerate_from (n + 1) ds))) name
        → (AnyNamed (filter (λ (e : ℕ × DeviceData). e.1.up) (enumerate_from (n + 1) ds)) name → AnyUp ds name) → AnyUp (d ∷ ds) name
    by true e (inl here) more = inl (e, here)
    by true e (inr there) more = inr (more there)
    by false e any more = inr (more any)

-- the registry as set so far has the names that it began with
numbers-by : (h : List Done) (name : List ℕ) (k : ℕ) (ds : List DeviceData)
    → position_from (λ (d : DeviceData). bytes_eq name d.name) k (map (device_by h) ds) ≡ position_from (λ (d : DeviceData). bytes_eq name d.name) k ds
numbers-by h name k [] = refl
numbers-by h name k (d ∷ ds) = ap (cond (bytes_eq name d.name) (Some k)) (numbers-by h name (k + 1) ds)

at-by : (h : List Done) (ds : List DeviceData) (n : ℕ) (d : DeviceData) → slice_get (map (device_by h) ds) n ≡ Some d → (first : DeviceData) × (slice_get ds n ≡ Some first) × (first.name ≡ d.name)
at-by h [] n d e = absurd (let x : ⊥ = cc in x)
at-by h (x ∷ ds) zero d e = let same : device_by h x ≡ d = cc in (x, refl, ap (λ (d : DeviceData). d.name) same)
at-by h (x ∷ ds) (suc n) d e = at-by h ds n d e

numbered-by : (s : Setup) (h : List Done) → AreNumbered s.book → AreNumbered (book_of s h)
numbered-by s h numbered = λ n d e.
    let (first, there, same) = at-by h s.book.devices n d e in
    numbers-by h d.name 0 s.book.devices ∙ ap (number_of s.book) (sym same) ∙ numbered n first there

record Dying (s : Setup) (h : List Done) : Type 0 where
  below : Below (births_in (published h)) (published h)
  back : is_born (phase_of h) ≡ true → (name : List ℕ) → AliveAt name (births_in (published h)) (opened h) (published h) → AnyUp (book_of s h).devices name

up-after : (s : Setup) (h : List Done) (i : Input) (g : Given) (name : List ℕ) → AnyUp (book_after (book_of s h) i.act).devices name → AnyUp (book_of s (after_it h i g)).devices name
up-after s h i g name up = subst (λ (b : Book). AnyUp b.devices name) (book-step s h i.now i.ack i.act g) up

some-births : (s : Setup) (h : List Done) → Runs s h → is_born (phase_of h) ≡ true → 1 ≤ births_in (published h)
some-births s h runs is_up = let (m, ends, last) = runs.born is_up in let n = ends.births in omega (arith, n)

dying-step : (s : Setup) (h : List Done) (i : Input) (g : Given) → AreNumbered s.book → Runs s h → Dying s h → Lives (asked_of s h) i.act g → Dying s (after_it h i g)
dying-step s h i g numbered runs dying (Silent none p) =
    let same : published (after_it h i g) ≡ published h = ap (with_posts (published h) (opened h - 1)) none ∙ append-nil (published h) in
    record {
      below = subst (λ (ms : List Message). Below (births_in ms) ms) (sym same) dying.below;
      back = λ is_up name alive.
          let q = p is_up in
          up-after s h i g name (q.3 (numbered-by s h numbered) name (dying.back q.0 name
          (subst (λ (ms : List Message). AliveAt name (births_in ms) (opened h) ms) same
          (subst (λ n. AliveAt name (births_in (published (after_it h i g))) n (published (after_it h i g))) (same-opened h i g q.1) alive))));
    }
dying-step s h i g numbered runs dying (Single d one closed is_up not_open of_up turns back_) =
    let session = opened h - 1 in
    let m = post session (published h) d in
    let same : published (after_it h i g) ≡ with_post session (published h) d =
    ap (with_posts (published h) session) one ∙ posted-cons session (published h) d [] ∙ append-nil (with_post session (published h) d) in
    let births : births_in (with_post session (published h) d) ≡ births_in (published h) = births-snoc (published h) m ∙ ap (λ b. births_in (published h) + cond b 1 0) closed ∙ omega arith in
    let number : m.birth ≡ births_in (published h) - 1 = ap (λ b. cond b (births_in (published h) + 1) (births_in (published h)) - 1) closed in
    let some = some-births s h runs is_up in
    let last : m.birth + 1 ≤ births_in (published h) = omega (arith, number, some) in
    let all : Below (births_in (published h)) (with_post session (published h) d) = all-snoc (λ (m : Message). m.birth + 1 ≤ births_in (published h)) (published h) m dying.below last in
    record {
      below = subst (λ (ms : List Message). Below (births_in ms) ms) (sym same) (subst (λ n. Below n (with_post session (published h) d)) (sym births) all);
      back = λ still name alive. up-after s h i g name (back_ name (by name
          (alive-back name (births_in (published h) - 1) session (published h) m
          (subst (λ n. AliveAt name n (opened h) (with_post session (published h) d)) births
          (subst (λ (ms : List Message). AliveAt name (births_in ms) (opened h) ms) same
          (subst (λ n. AliveAt name (births_in (published (after_it h i g))) n (published (after_it h i g))) (same-opened h i g not_open) alive))))));
    }
  where
    by : (name : List ℕ) → (AliveAt name (births_in (published h)) (opened h) (published h) × (is_death_of name d ≡ false)) ⊎ (is_birth_of name d ≡ true)
        → (AnyUp (book_of s h).devices name × (is_death_of name d ≡ false)) ⊎ (is_birth_of name d ≡ true)
    by name (inl was) = inl (dying.back is_up name was.0, was.1)
    by name (inr new) = inr new
dying-step s h i g numbered runs dying (Whole stamp all not_open stays) =
    let a = asked_of s h in
    let session = opened h - 1 in
    let d = node_birth a.book a.will_bd stamp in
    let es = filter (λ (e : ℕ × DeviceData). e.1.up) (enumerate_from 0 a.book.devices) in
    let first = with_post session (published h) d in
    let count : births_in first ≡ births_in (published h) + 1 = births-snoc (published h) (post session (published h) d) in
    let old : Below (births_in (published h) + 1) (published h) = below-more (births_in (published h)) (births_in (published h) + 1) (published h) dying.below (omega arith) in
    let below : Below (births_in (published h) + 1) first = all-snoc (λ (m : Message). m.birth + 1 ≤ births_in (published h) + 1) (published h) (post session (published h) d) old (omega arith) in
    let some : 1 ≤ births_in first = omega (arith, count) in
    let more = back-of a.book stamp session es first (subst (λ n. Below n first) (sym count) below) some in
    let same : published (after_it h i g) ≡ with_posts first session (map (device_birth a.book stamp) es) =
    ap (with_posts (published h) session) all ∙ posted-cons session (published h) d (map (device_birth a.book stamp) es) in
    let births : births_in (with_posts first session (map (device_birth a.book stamp) es)) ≡ births_in first = (grown-births a.book stamp session es first) in
    record {
      below = subst (λ (ms : List Message). Below (births_in ms) ms) (sym same) more.below;
      back = λ still name alive.
          up-after s h i g name (subst (λ (b : Book). AnyUp b.devices name) (sym stays) (by name count (more.back name
          (subst (λ n. AliveAt name n (opened h) (with_posts first session (map (device_birth a.book stamp) es))) births
          (subst (λ (ms : List Message). AliveAt name (births_in ms) (opened h) ms) same
          (subst (λ n. AliveAt name (births_in (published (after_it h i g))) n (published (after_it h i g))) (same-opened h i g not_open) alive))))));
    }
  where
    not-node : (name : List ℕ) → (IsAlive name (births_in (published h)) (opened h - 1) (published h) × (is_death_of name (node_birth (book_of s h) (asked_of s h).will_bd stamp) ≡ false)) ⊎ (false ≡ true) → ⊥
    not-node name (inl was) = not-yet name (births_in (published h)) (opened h - 1) (published h) dying.below was.0
    not-node name (inr never) = true≢false (sym never)

    by : (name : List ℕ) → births_in (with_post (opened h - 1) (published h) (node_birth (book_of s h) (asked_of s h).will_bd stamp)) ≡ births_in (published h) + 1
        → IsAlive name (births_in (with_post (opened h - 1) (published h) (node_birth (book_of s h) (asked_of s h).will_bd stamp)) - 1) (opened h - 1) (with_post (opened h - 1) (published h) (node_birth (book_of s h) (asked_of s h).will_bd stamp))
        ⊎ AnyNamed (filter (λ (e : ℕ × DeviceData). e.1.up) (enumerate_from 0 (book_of s h).devices)) name → AnyUp (book_of s h).devices name
    by name count (inl was) =
        let number : births_in (with_post (opened h - 1) (published h) (node_birth (book_of s h) (asked_of s h).will_bd stamp)) - 1 ≡ births_in (published h) = omega (arith, count) in
        absurd (not-node name (alive-back name (births_in (published h)) (opened h - 1) (published h) (post (opened h - 1) (published h) (node_birth (book_of s h) (asked_of s h).will_bd stamp))
        (subst (λ n. IsAlive name n (opened h - 1) (with_post (opened h - 1) (published h) (node_birth (book_of s h) (asked_of s h).will_bd stamp))) number was)))
    by name count (inr new) = up-of 0 (book_of s h).devices name new

dying : (s : Setup) (h : List Done) → AreNumbered s.book → AllRight s h → Dying s h
dying s [] numbered right = record { below = tt; back = λ is_up. absurd (true≢false (sym is_up)) }
dying s (e ∷ h) numbered right = dying-step s h e.input e.given numbered (runs-all s h right.1) (dying s h numbered right.1) (rules-live s.config (next_number s h) (asked_of s h) e.input e.given right.0)

pub down-dead : (s : Setup) (is : List Input) (n : ℕ) (d : DeviceData) → AreNumbered s.book → is_born (phase_of (run_of s is)) ≡ true → slice_get (book_of s (run_of s is)).devices n ≡ Some d → d.up ≡ false
    → IsAlive d.name (births_in (published (run_of s is)) - 1) (opened (run_of s is) - 1) (published (run_of s is)) → ⊥
down-dead s is n d numbered is_up there down alive =
    let b = book_of s (run_of s is) in
    let any = (dying s (run_of s is) numbered (told-all s is).right).back is_up d.name alive in
    let all = numbered-by s (run_of s is) numbered in
    let (m, x, at, up, of_name) = any-at b.devices d.name any in
    let here : (let o : Option ℕ = Some m in o) ≡ Some n = sym (all m x at) ∙ ap (number_of b) of_name ∙ all n d there in
    let place : m ≡ n = cc in
    let found_ : (let o : Option DeviceData = Some x in o) ≡ Some d = sym at ∙ ap (slice_get b.devices) place ∙ there in
    let same : x ≡ d = cc in
    true≢false (sym up ∙ ap (λ (d : DeviceData). d.up) same ∙ down)
