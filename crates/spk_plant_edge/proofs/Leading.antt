-- Logs that grow, step by step.
use Rattle.std.proofs.Common.{◌≡◌, ◌≤◌, ◌<◌, ◌∙◌, ap, sym, refl, subst, ℕ, zero, suc, ◌+◌, arith, Bool, true, false, not, ◌&&◌, List, [], ◌∷◌, ◌++◌, length, Some}
use Rattle.std.specs.Prelude.{nat_lt}
use Rattle.spk_payload.specs.Typing.{Typed}
use Rattle.spk_edge.specs.View.{NodeData}
use Rattle.spk_edge_rules.specs.Rules.{is_born}
use Rattle.spk_plan.specs.declared.script.Sort.{Sort}
use Rattle.std.proofs.lemmas.List.{append_assoc, append-nil}
use Rattle.spk_edge_rules.specs.Config.{Setup}
use Rattle.spk_edge_rules.specs.Inputs.{Act, Change, Drain, Input}
use Rattle.spk_plan.specs.declared.script.Step.{Step}
use Rattle.spk_rings.specs.Ring.{SameInlet, popped}
use Rattle.spk_rings.specs.declared.inlet.Inlet.{Inlet}
use Rattle.spk_rings.specs.declared.item.Item.{Item}
use Rattle.spk_plant_edge.specs.At.{Draining, Goes, IsAt, IsOf, Origin, Stands}
use Rattle.spk_plant_edge.specs.Log.{Asks, Hears, MayMove, Move, Passes, asked_at, asked_in, inputs_of, items_of}
use Rattle.spk_plant_edge.specs.Script.{AreDrains, Asked, Drained, Leads, StepLeads, goes_on, is_refused, may_drain, number_of, ramp, was_refused}
use Rattle.spk_plant_edge.specs.declared.desk.Desk.{Desk}

pub inlet-then : (a b c : Inlet) → SameInlet a b → SameInlet b c → SameInlet a c
inlet-then a b c s t = (t.0 ∙ s.0, t.1 ∙ s.1, t.2 ∙ s.2, t.3 ∙ s.3)

-- ---- what the script asked

pub asked-append : (a b : List Move) → asked_in (a ++ b) ≡ asked_in a ++ asked_in b
asked-append [] b = refl
asked-append (Asks i ∷ a) b = ap (λ (l : List Act). i.act ∷ l) (asked-append a b)
asked-append (Hears x i ∷ a) b = asked-append a b
asked-append (Passes x ∷ a) b = asked-append a b

pub asked-none : (l : List Move) → Asked [] l l
asked-none l = ([], refl, refl)

pub asked-then : (xs ys : List Act) (l m n : List Move) → Asked xs l m → Asked ys m n → Asked (ys ++ xs) l n
asked-then xs ys l m n f g = (
  g.0 ++ f.0,
  g.1 ∙ ap (λ k. g.0 ++ k) f.1 ∙ sym (append_assoc g.0 f.0 l),
  asked-append g.0 f.0 ∙ ap (λ k. k ++ asked_in f.0) g.2 ∙ ap (λ k. ys ++ k) f.2,
)

-- ---- from one place to the next

pub goes-then : (P Q R : Setup → List Move → List Move → Type 0) → ((s : Setup) (l m n : List Move) → P s l m → Q s m n → R s l n)
    → (a b c : Desk) → Goes P a b → Goes Q b c → Goes R a c
goes-then P Q R then a b c f g = λ o log at.
    let h = f o log at in
    let k = g o h.0 h.1 in (k.0, k.1, then o.setup log h.0 k.0 h.2 k.2)

pub goes-weaker : (P Q : Setup → List Move → List Move → Type 0) → ((s : Setup) (l m : List Move) → P s l m → Q s l m)
    → (a b : Desk) → Goes P a b → Goes Q a b
goes-weaker P Q weaker a b f = λ o log at. let h = f o log at in (h.0, h.1, weaker o.setup log h.0 h.2)

-- what isn't looked at may change
pub at-same : (o : Origin) (log : List Move) (d e : Desk) → Stands o (inputs_of log) e → popped e.inlet ≡ popped d.inlet → SameInlet d.inlet e.inlet
    → IsAt o log d → IsAt o log e
at-same o log d e stands items inlet h = record {
  stands = stands;
  lawful = h.lawful;
  items = items ∙ h.items;
  inlet = inlet-then o.inlet d.inlet e.inlet h.inlet inlet;
}

-- the script asked
pub at-asks : (o : Origin) (log : List Move) (d e : Desk) (act : Act) → IsAt o log d → Stands o (asked_at log act ∷ inputs_of log) e → e.inlet ≡ d.inlet
    → IsAt o (Asks (asked_at log act) ∷ log) e
at-asks o log d e act h stands inlet = record {
  stands = stands;
  lawful = (refl, h.lawful);
  items = ap popped inlet ∙ h.items;
  inlet = subst (SameInlet o.inlet) (sym inlet) h.inlet;
}

-- an item was taken out, and this was made of it
pub at-reads : (o : Origin) (log : List Move) (d e : Desk) (f : Inlet) (item : Item) (move : Move) → IsAt o log d → SameInlet d.inlet f → popped f ≡ popped d.inlet ++ item ∷ []
    → e.inlet ≡ f → Stands o (inputs_of (move ∷ log)) e → MayMove o.setup log move → IsOf item move
    → (after : List Move) × IsAt o after e × Asked [] log after
at-reads o log d e f item (Asks i) h same took inlet stands may is = absurd is
at-reads o log d e f item (Hears x i) h same took inlet stands may is = (
  Hears x i ∷ log,
  record {
    stands = stands;
    lawful = (may, h.lawful);
    items = ap popped inlet ∙ took ∙ ap (λ l. l ++ item ∷ []) h.items ∙ append_assoc (popped o.inlet) (items_of log) (item ∷ [])
        ∙ ap (λ y. popped o.inlet ++ (items_of log ++ y ∷ [])) (sym is);
    inlet = subst (SameInlet o.inlet) (sym inlet) (inlet-then o.inlet d.inlet f h.inlet same);
  },
  (Hears x i ∷ [], refl, refl),
)
at-reads o log d e f item (Passes x) h same took inlet stands may is = (
  Passes x ∷ log,
  record {
    stands = stands;
    lawful = (may, h.lawful);
    items = ap popped inlet ∙ took ∙ ap (λ l. l ++ item ∷ []) h.items ∙ append_assoc (popped o.inlet) (items_of log) (item ∷ [])
        ∙ ap (λ y. popped o.inlet ++ (items_of log ++ y ∷ [])) (sym is);
    inlet = subst (SameInlet o.inlet) (sym inlet) (inlet-then o.inlet d.inlet f h.inlet same);
  },
  (Passes x ∷ [], refl, refl),
)

-- ---- reading and asking

abbrev pub Reading : Setup → List Move → List Move → Type 0
Reading s before after = Asked [] before after

pub reads-then : (a b c : Desk) → Goes Reading a b → Goes Reading b c → Goes Reading a c
reads-then a b c f g = goes-then Reading Reading Reading (λ s l m n x y. asked-then [] [] l m n x y) a b c f g

pub reads-same : (a b c : Desk) → Goes Reading a b → ((o : Origin) (log : List Move) → IsAt o log b → IsAt o log c) → Goes Reading a c
reads-same a b c f same = λ o log at. let h = f o log at in (h.0, same o h.0 h.1, h.2)

pub asks-one : (before after : List Move) (act : Act) → after ≡ Asks (asked_at before act) ∷ before → Asked (act ∷ []) before after
asks-one before after act is = (Asks (asked_at before act) ∷ [], is, refl)

pub ramp-more : (alias n : ℕ) (s : Sort) (v : Typed) → v ≡ number_of s (n + 1) → Change alias (Some v) ∷ ramp alias s n ≡ ramp alias s (n + 1)
ramp-more alias n s v is =
    let next : n + 1 ≡ suc n = omega arith in
    ap (λ (t : Typed). Change alias (Some t) ∷ ramp alias s n) (is ∙ ap (λ k. number_of s k) next) ∙ ap (λ k. ramp alias s k) (sym next)

-- ---- a script

pub leads-snoc : (s : Setup) (xs : List Step) (x : Step) (l m n : List Move) → Leads s xs l m → StepLeads s x m n → Leads s (xs ++ x ∷ []) l n
leads-snoc s [] x l m n same step = (n, subst (λ (k : List Move). StepLeads s x k n) (sym same) step, refl)
leads-snoc s (y ∷ ys) x l m n f step = (f.0, f.1, leads-snoc s ys x f.0 m n f.2 step)

-- ---- drains

and-true : (x y : Bool) → x ≡ true → y ≡ false → (x && not y) ≡ true
and-true true false p q = refl
and-true true true p q = sym q
and-true false false p q = p
and-true false true p q = p

and-not : (x y : Bool) → y ≡ true → (x && not y) ≡ false
and-not true true p = refl
and-not false true p = refl
and-not true false p = sym p
and-not false false p = refl

pub may-drain-at : (o : Origin) (log : List Move) (d : Desk) (b : Bool) → IsAt o log d
    → b ≡ (is_born d.node.standing.asked.phase && nat_lt 0 (length d.node.standing.asked.store.items)) → b ≡ may_drain o.setup log
may-drain-at o log d b h is = is ∙ ap (λ (n : NodeData). is_born n.standing.asked.phase && nat_lt 0 (length n.standing.asked.store.items)) h.stands.node

pub drains-more : (s : Setup) (log m after : List Move) → Draining s log m → may_drain s m ≡ true → after ≡ Asks (asked_at m Drain) ∷ m
    → is_refused s m (asked_at m Drain) ≡ false → Draining s log after
drains-more s log m after h may is taken =
    let may_here : may_drain s (h.drains ++ log) ≡ true = sym (ap (λ k. may_drain s k) h.grown) ∙ may in
    record {
      drains = Asks (asked_at (h.drains ++ log) Drain) ∷ h.drains;
      grown = is ∙ ap (λ (k : List Move). Asks (asked_at k Drain) ∷ k) h.grown;
      each = (refl, and-true (may_drain s (h.drains ++ log)) (was_refused s log h.drains) may_here h.taken, h.each);
      taken = sym (ap (λ k. is_refused s k (asked_at k Drain)) h.grown) ∙ taken;
    }

pub drains-end : (s : Setup) (log m after : List Move) → Draining s log m → may_drain s m ≡ true → after ≡ Asks (asked_at m Drain) ∷ m
    → is_refused s m (asked_at m Drain) ≡ true → Drained s log after
drains-end s log m after h may is refused =
    let may_here : may_drain s (h.drains ++ log) ≡ true = sym (ap (λ k. may_drain s k) h.grown) ∙ may in
    let last : is_refused s (h.drains ++ log) (asked_at (h.drains ++ log) Drain) ≡ true = sym (ap (λ k. is_refused s k (asked_at k Drain)) h.grown) ∙ refused in
    record {
      drains = Asks (asked_at (h.drains ++ log) Drain) ∷ h.drains;
      grown = is ∙ ap (λ (k : List Move). Asks (asked_at k Drain) ∷ k) h.grown;
      each = (refl, and-true (may_drain s (h.drains ++ log)) (was_refused s log h.drains) may_here h.taken, h.each);
      over = and-not (may_drain s (Asks (asked_at (h.drains ++ log) Drain) ∷ (h.drains ++ log))) (is_refused s (h.drains ++ log) (asked_at (h.drains ++ log) Drain)) last;
    }
