-- What gives nothing and sets nothing takes no memory.
use Rattle.std.proofs.Common.{◌≡◌, ◌∙◌, ap, sym, refl, subst, ℕ, zero, suc, ◌+◌, ◌-◌, ◌<◌, Bool, true, false, not, ◌&&◌, cond, List, [], ◌∷◌, length, map, Option, Some, None, is_none, Result, Ok, Err, arith}
use Rattle.std.specs.Prelude.{◌==◌, IfErr, OnErr, slice_get}
use Rattle.std.specs.Option.{option_map_or}
use Rattle.std.proofs.lemmas.Bool.{true≢false, and_parts, eqb-true}
use Rattle.spk_payload.specs.Typing.{Typed}
use Rattle.spk_device.specs.Book.{Book, GaugeData, gauge_at}
use Rattle.spk_device.specs.Calls.{unless_refused}
use Rattle.spk_device.specs.Step.{change_unless, set_change, set_refusal, values_with, with_value}
use Rattle.spk_device.specs.Values.{value_eq}
use Rattle.spk_device.specs.declared.fault.Refusal.{Refusal}
use Rattle.spk_device.specs.declared.outcome.Outcome.TheVariants.{Changed, Same}
use Rattle.spk_device.proofs.ValueLemmas.{value_eq-Decides}
use Rattle.spk_packets.specs.Message as packets
use Rattle.spk_store.specs.declared.change.Change.{Change}
use Rattle.spk_edge_rules.specs.declared.fault.EdgeFault.{EdgeFault}
use Rattle.spk_edge_rules.specs.declared.phase.Phase.TheVariants.{Idle}
use Rattle.spk_edge_rules.specs.Births.{owner_at, owner_is_up}
use Rattle.spk_edge_rules.specs.Config.{Config}
use Rattle.spk_edge_rules.specs.Inputs as inputs
use Rattle.spk_edge_rules.specs.Messages.{Draft}
use Rattle.spk_edge_rules.specs.Rules as rule
use Rattle.spk_edge_rules.proofs.Courses.{by_if}
use Rattle.spk_edge.specs.Patch.{IsGivenBy, IsShort, acked_data, is_still, takes_no_memory}
use Rattle.spk_edge.specs.View.{GivenData, NodeData, change_view, given_view, unnumbered}
use Rattle.spk_edge.specs.declared.message.Given.{Given}

-- ---- a value that is the present one

same-at : (value : Option Typed) (n alias : ℕ) (gs : List GaugeData) → ((k : ℕ) (g : GaugeData) → slice_get gs k ≡ Some g → n + k + 1 ≡ alias → g.value ≡ value)
    → values_with n alias value gs ≡ gs
same-at value n alias [] equal = refl
same-at value n alias (g ∷ gs) equal =
    by (n + 1 == alias) refl (same-at value (n + 1) alias gs (λ k x there e. equal (suc k) x there (omega (arith, e))))
  where
    by : (b : Bool) → (n + 1 == alias) ≡ b → values_with (n + 1) alias value gs ≡ gs
        → cond b (record g { value = value }) g ∷ values_with (n + 1) alias value gs ≡ g ∷ gs
    by false e rest = ap (λ (l : List GaugeData). g ∷ l) rest
    by true e rest =
        let here : n + 1 ≡ alias = eqb-true (n + 1) alias e in
        let present : g.value ≡ value = equal zero g refl (omega (arith, here)) in
        ap (λ (v : Option Typed). (record g { value = v }) ∷ values_with (n + 1) alias value gs) (sym present) ∙ ap (λ (l : List GaugeData). g ∷ l) rest

positive : (n : ℕ) → 0 < n → (n == 0) ≡ false
positive n more = by (n == 0) refl
  where
    by : (b : Bool) → (n == 0) ≡ b → b ≡ false
    by true e = let none : n ≡ 0 = eqb-true n 0 e in absurd (omega (arith, none, more))
    by false e = refl

-- setting it changes nothing
pub same-book : (b : Book) (alias : ℕ) (value : Option Typed) → rule.is_same_value b alias value ≡ true → with_value b alias value ≡ b
same-book b alias value same =
    ap (λ (gs : List GaugeData). record b { gauges = gs }) (same-at value 0 alias b.gauges (λ k g there e. present k g there e))
  where
    found : (k : ℕ) (g : GaugeData) → slice_get b.gauges k ≡ Some g → 0 + k + 1 ≡ alias → gauge_at b alias ≡ Some g
    found k g there e =
        let not_zero : (alias == 0) ≡ false = positive alias (omega (arith, e)) in
        let place : alias - 1 ≡ k = omega (arith, e) in
        ap (λ t. cond t None (slice_get b.gauges (alias - 1))) not_zero ∙ ap (slice_get b.gauges) place ∙ there

    present : (k : ℕ) (g : GaugeData) → slice_get b.gauges k ≡ Some g → 0 + k + 1 ≡ alias → g.value ≡ value
    present k g there e =
        (value_eq-Decides g.value value).0 (ap (λ (o : Option GaugeData). option_map_or (λ g. value_eq g.value value) o false) (sym (found k g there e)) ∙ same)

unless-same : (same : Bool) → Same ≡ change_unless same → same ≡ true
unless-same true e = refl
unless-same false e = absurd (let x : ⊥ = cc in x)

unless-changed : (same : Bool) → Changed ≡ change_unless same → same ≡ false
unless-changed true e = absurd (let x : ⊥ = cc in x)
unless-changed false e = refl

pub is-same : (b : Book) (alias : ℕ) (value : Option Typed) → Same ≡ set_change b alias value → rule.is_same_value b alias value ≡ true
is-same b alias value e = unless-same (rule.is_same_value b alias value) e

pub isnt-same : (b : Book) (alias : ℕ) (value : Option Typed) → Changed ≡ set_change b alias value → rule.is_same_value b alias value ≡ false
isnt-same b alias value e = unless-changed (rule.is_same_value b alias value) e

-- nothing is set, and that is right, where the value is the present one or is refused
pub set-same : (b : Book) (alias : ℕ) (value : Option Typed) → Same ≡ set_change b alias value → b ≡ unless_refused (set_refusal b alias value) (with_value b alias value) b
set-same b alias value e = by (set_refusal b alias value)
  where
    by : (r : Option Refusal) → b ≡ unless_refused r (with_value b alias value) b
    by None = sym (same-book b alias value (is-same b alias value e))
    by (Some why) = refl

-- ---- what is still gives nothing

empty : {X : Type 0} (xs : List X) → (length xs == 0) ≡ true → xs ≡ []
empty [] e = refl
empty (x ∷ xs) e = let none : length (x ∷ xs) ≡ 0 = eqb-true (length (x ∷ xs)) 0 e in absurd (omega (arith, none))

abbrev IsSilent : rule.Given → Type 0
IsSilent g = (g.plain ≡ []) × (g.drafts ≡ [])

from-ok : (g h : rule.Given) → (let r : Result rule.Given EdgeFault = Ok g in r) ≡ Ok h → IsSilent g → IsSilent h
from-ok g h e silent = let same : g ≡ h = cc in subst IsSilent same silent

from-refused : (r : Option Refusal) (g h : rule.Given) → rule.refused_or r g ≡ Ok h → IsSilent g → IsSilent h
from-refused None g h e silent = from-ok g h e silent
from-refused (Some why) g h e silent = absurd (let x : ⊥ = cc in x)

pub still-silent : (c : Config) (k : ℕ) (a : rule.Asked) (now : ℕ) (act : inputs.Act) (g : rule.Given) → is_still a act ≡ true → rule.acts c k a now act ≡ Ok g → IsSilent g
still-silent c k a now (inputs.Change alias value) g still ok =
    from-refused (set_refusal a.book alias value) (rule.changing a now alias value) g ok
    (subst (λ b. IsSilent (cond (not b && owner_is_up a.book (owner_at a.book alias)) (rule.telling a now alias value) (rule.nothing a))) (sym still) (refl, refl))
still-silent c k a now inputs.Drain g still ok =
    from-ok (rule.draining c k a now a.store.items) g ok
    (subst (λ (l : List inputs.ChangeData). IsSilent (rule.draining c k a now l)) (sym (empty a.store.items still)) (refl, refl))
still-silent c k a now inputs.Cut g still ok = from-ok (record (rule.nothing a) { phase = Idle }) g ok (refl, refl)
still-silent c k a now inputs.TurnedAway g still ok =
    from-ok (rule.turned_away a) g ok
    (by_if IsSilent (rule.is_connecting a.phase) (record (rule.nothing a) { close = true; phase = Idle }) (rule.nothing a) (λ e. (refl, refl)) (λ e. (refl, refl)))
still-silent c k a now inputs.Pass g still ok = from-ok (rule.nothing a) g ok (refl, refl)
still-silent c k a now inputs.Open g still ok = absurd (true≢false (sym still))
still-silent c k a now inputs.Accepted g still ok = absurd (true≢false (sym still))
still-silent c k a now (inputs.Changes changes) g still ok = absurd (true≢false (sym still))
still-silent c k a now (inputs.Turn name up) g still ok = absurd (true≢false (sym still))
still-silent c k a now (inputs.Command topic payload) g still ok = absurd (true≢false (sym still))
still-silent c k a now (inputs.State payload) g still ok = absurd (true≢false (sym still))
still-silent c k a now inputs.Stop g still ok = absurd (true≢false (sym still))

-- ---- refusals

-- a test that isn't passed
pub unless-true : (b : Bool) → (b ≡ true → ⊥) → b ≡ false
unless-true true never = absurd (never refl)
unless-true false never = refl

pub on-err : {X E : Type 0} (P : Type 0) (Q : E → Type 0) (r : Result X E) → (P → (e : E) → Q e) → OnErr r P → IfErr r Q
on-err P Q (Ok x) f p = tt
on-err P Q (Err e) f p = f p e

pub any-err : {X E : Type 0} (Q : E → Type 0) (r : Result X E) → ((e : E) → Q e) → IfErr r Q
any-err Q (Ok x) f = tt
any-err Q (Err e) f = f e

pub any-on : {X E : Type 0} (P : Type 0) (r : Result X E) → P → OnErr r P
any-on P (Ok x) p = tt
any-on P (Err e) p = p

unacknowledged : (ack : Option ℕ) (g : GivenData) → is_none ack ≡ true → acked_data ack g ≡ g
unacknowledged None g e = refl
unacknowledged (Some id) g e = absurd (true≢false (sym e))

-- what takes no memory gives no packet and no message
silent : (n : NodeData) (i : inputs.Input) (g g' : Given) → IsGivenBy n i g → given_view g' ≡ acked_data i.ack (given_view g) → takes_no_memory n i ≡ true
    → length (given_view g').plain + length (given_view g').messages ≡ 0
silent n i g g' given is still =
    let parts = and_parts (is_none i.ack) (is_still n.standing.asked i.act) still in
    let none = still-silent n.config n.standing.seq n.standing.asked i.now i.act given.given parts.1 given.acted in
    ap (λ (d : GivenData). length d.plain + length d.messages) (is ∙ unacknowledged i.ack (given_view g) parts.0 ∙ given.is)
    ∙ ap (λ (l : List packets.Message). length l + length (map (unnumbered n.config) given.given.drafts)) none.0
    ∙ ap (λ (l : List Draft). 0 + length (map (unnumbered n.config) l)) none.1

pub sealed-short : (n : NodeData) (i : inputs.Input) (g g' : Given) (e : EdgeFault) → IsGivenBy n i g → given_view g' ≡ acked_data i.ack (given_view g)
    → 0 < length (given_view g').plain + length (given_view g').messages → IsShort n i e
sealed-short n i g g' e given is some = λ memory. unless-true (takes_no_memory n i) (λ still. let none = silent n i g g' given is still in let x : ⊥ = absurd (omega (arith, none, some)) in x)

pub ack-short : (n : NodeData) (i : inputs.Input) (e : EdgeFault) → is_none i.ack ≡ false → IsShort n i e
ack-short n i e some = λ memory. ap (λ b. b && is_still n.standing.asked i.act) some

pub act-short : (n : NodeData) (i : inputs.Input) → is_still n.standing.asked i.act ≡ false → takes_no_memory n i ≡ false
act-short n i moved = by (is_none i.ack) (is_still n.standing.asked i.act) moved
  where
    by : (a b : Bool) → b ≡ false → (a && b) ≡ false
    by true b e = e
    by false b e = refl

-- a first change is kept, so that some are
pub some-kept : (items : List inputs.ChangeData) (kept : List Change) (x : Change) → items ≡ map change_view kept → Some x ≡ slice_get kept 0 → (length items == 0) ≡ false
some-kept items [] x is first = absurd (let z : ⊥ = cc in z)
some-kept items (y ∷ kept) x is first = positive (length items) (let size : length items ≡ length (map change_view (y ∷ kept)) = ap (λ (l : List inputs.ChangeData). length l) is in omega (arith, size))
