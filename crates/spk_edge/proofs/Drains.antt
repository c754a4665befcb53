-- Kept changes, one place after the other, and the run at their front.
use Rattle.std.proofs.Common.{◌≡◌, ◌∙◌, ap, sym, refl, ℕ, zero, suc, ◌+◌, ◌<◌, min, nat_lt, cond, true, false, List, [], ◌∷◌, length, map, slice_get, Some, None, arith}
use Rattle.std.specs.Option.{option_map}
use Rattle.std.specs.List.{prefix_len}
use Rattle.std.proofs.lemmas.Bool.{lt-ltb}
use Rattle.spk_device.specs.declared.owner.Owner.{Owner}
use Rattle.spk_store.specs.Calls.{DropFront}
use Rattle.spk_store.specs.Owners as store
use Rattle.spk_store.specs.Step.{run_of}
use Rattle.spk_store.specs.declared.change.Change.{Change}
use Rattle.spk_edge_rules.specs.Births.{later_stamp, owner_is_up}
use Rattle.spk_edge_rules.specs.History as rules
use Rattle.spk_edge_rules.specs.History.{can_go, longest}
use Rattle.spk_edge_rules.specs.Inputs.{ChangeData}
use Rattle.spk_edge_rules.specs.Rules as rule
use Rattle.spk_edge.specs.History.{Asks, dropped, going, sending, sent}
use Rattle.spk_edge.specs.View.{NodeData, change_view}

pub get-view : (xs : List Change) (i : ℕ) → slice_get (map change_view xs) i ≡ option_map change_view (slice_get xs i)
get-view [] i = refl
get-view (x ∷ xs) zero = refl
get-view (x ∷ xs) (suc i) = get-view xs i

same-run : (x : Change) (ys : List Change) → prefix_len (rules.have_one_owner (change_view x)) (map change_view ys) ≡ prefix_len (store.have_one_owner x) ys
same-run x [] = refl
same-run x (y ∷ ys) = ap (λ n. cond (store.have_one_owner x y) (1 + n) 0) (same-run x ys)

run-view : (xs : List Change) → run_of rules.have_one_owner (map change_view xs) ≡ run_of store.have_one_owner xs
run-view [] = refl
run-view (x ∷ xs) = same-run x (x ∷ xs)

-- nothing is kept
pub front-none : (n : NodeData) (now : ℕ) (xs : List Change) → n.standing.asked.store.items ≡ map change_view xs → None ≡ slice_get xs 0 → Asks n now (rule.nothing n.standing.asked)
front-none n now [] is none = ap (rule.draining n.config n.standing.seq n.standing.asked now) is
front-none n now (x ∷ xs) is none = absurd (let z : ⊥ = cc in z)

-- what is sent of changes, where at most so many go
abbrev sent_of : NodeData → ℕ → Owner → List ChangeData → ℕ → rule.Given
sent_of n now owner changes count =
    let a = n.standing.asked in
    let stamp = later_stamp a.stamp now in
    let many = longest (can_go n.config n.standing.seq a.book owner stamp changes) count in
    cond (nat_lt 0 many) (record (rule.nothing a) { drafts = rules.history a.book owner stamp changes many ∷ []; store = Some (DropFront many false) }) (dropped a 1)

-- the run at the front is that of the first one's owner
run-size : (y : Change) (ys : List Change) (count : ℕ) → count ≡ min 32 (run_of store.have_one_owner (y ∷ ys)) → rules.front_run (map change_view (y ∷ ys)) ≡ count
run-size y ys count size = ap (min 32) (run-view (y ∷ ys)) ∙ sym size

pub front-up : (n : NodeData) (now : ℕ) (xs : List Change) (x : Change) (count : ℕ) → n.standing.asked.store.items ≡ map change_view xs → Some x ≡ slice_get xs 0
    → count ≡ min 32 (run_of store.have_one_owner xs) → owner_is_up n.standing.asked.book x.owner ≡ true
    → Asks n now (sending n.standing.asked now x.owner (going n now x.owner count))
front-up n now [] x count is some size up = absurd (let z : ⊥ = cc in z)
front-up n now (y ∷ ys) x count is some size up =
    let same : x ≡ y = cc in
    let l = map change_view (y ∷ ys) in
    let up_y : owner_is_up n.standing.asked.book y.owner ≡ true = ap (λ (z : Change). owner_is_up n.standing.asked.book z.owner) (sym same) ∙ up in
    ap (rule.draining n.config n.standing.seq n.standing.asked now) is
    ∙ ap (λ b. cond b (sent_of n now y.owner l (rules.front_run l)) (dropped n.standing.asked (rules.front_run l))) up_y
    ∙ ap (sent_of n now y.owner l) (run-size y ys count size)
    ∙ ap (λ (z : Change). sent_of n now z.owner l count) (sym same)
    ∙ ap (λ (changes : List ChangeData). sent_of n now x.owner changes count) (sym is)

pub front-down : (n : NodeData) (now : ℕ) (xs : List Change) (x : Change) (count : ℕ) → n.standing.asked.store.items ≡ map change_view xs → Some x ≡ slice_get xs 0
    → count ≡ min 32 (run_of store.have_one_owner xs) → owner_is_up n.standing.asked.book x.owner ≡ false
    → Asks n now (dropped n.standing.asked count)
front-down n now [] x count is some size down = absurd (let z : ⊥ = cc in z)
front-down n now (y ∷ ys) x count is some size down =
    let same : x ≡ y = cc in
    let l = map change_view (y ∷ ys) in
    let down_y : owner_is_up n.standing.asked.book y.owner ≡ false = ap (λ (z : Change). owner_is_up n.standing.asked.book z.owner) (sym same) ∙ down in
    ap (rule.draining n.config n.standing.seq n.standing.asked now) is
    ∙ ap (λ b. cond b (sent_of n now y.owner l (rules.front_run l)) (dropped n.standing.asked (rules.front_run l))) down_y
    ∙ ap (dropped n.standing.asked) (run-size y ys count size)

-- where some go, they are sent; where none do, the first one is dropped
pub asks-sent : (n : NodeData) (now : ℕ) (owner : Owner) (count : ℕ) → Asks n now (sending n.standing.asked now owner count) → 0 < count → Asks n now (sent n.standing.asked now owner count)
asks-sent n now owner count asked some =
    asked ∙ ap (λ b. cond b (sent n.standing.asked now owner count) (dropped n.standing.asked 1)) (lt-ltb 0 count some)

pub asks-lost : (n : NodeData) (now : ℕ) (owner : Owner) (count : ℕ) → Asks n now (sending n.standing.asked now owner count) → count ≡ 0 → Asks n now (dropped n.standing.asked 1)
asks-lost n now owner count asked none =
    asked ∙ ap (sending n.standing.asked now owner) none

-- a first change is kept
pub some-first : (n : NodeData) (xs : List Change) (x : Change) → n.standing.asked.store.items ≡ map change_view xs → Some x ≡ slice_get xs 0 → 0 < length n.standing.asked.store.items
some-first n [] x is some = absurd (let z : ⊥ = cc in z)
some-first n (y ∷ ys) x is some = let size : length n.standing.asked.store.items ≡ length (map change_view (y ∷ ys)) = ap (λ (l : List ChangeData). length l) is in omega (arith, size)
