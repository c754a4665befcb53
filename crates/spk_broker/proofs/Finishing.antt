-- A call as a whole: what it drafted stands for the rules' step, and is settled or taken back.
use Rattle.std.proofs.Common.{◌≡◌, ℕ, Bool, true, false, not, List, Option, map, refl, sym, ap, subst, ◌∙◌, Result, Ok, Err, cond}
use Rattle.std.specs.Result.{IfErr, IfOk, OnErr, OnOk, is_ok}
use Rattle.std.specs.declared.alloc.AllocError.{AllocError}
use Rattle.spk_broker_rules.specs.Data as plain
use Rattle.spk_broker_rules.specs.Lawful.{IsLawful, Rises}
use Rattle.spk_broker_rules.specs.Plan.{Event, Tick}
use Rattle.spk_broker_rules.specs.Step.{Turn, begun, knows, noted, step}
use Rattle.spk_broker.specs.declared.state.State.{State}
use Rattle.spk_broker.specs.declared.fault.BrokerFault.{BrokerFault}
use Rattle.spk_broker.specs.declared.fault.BrokerFault.TheVariants.{NoMemory}
use Rattle.spk_broker.specs.Fault.{IsUnknown}
use Rattle.spk_broker.specs.declared.out.Draft.{Draft}
use Rattle.spk_broker.specs.declared.out.Out.{Out}
use Rattle.spk_broker.specs.Called.{AreOrdered}
use Rattle.spk_broker.specs.Calm.{IsCalm}
use Rattle.spk_broker.specs.Drafts.{draft_view, empty_draft}
use Rattle.spk_broker.specs.Sent.{outgoing, sent_view}
use Rattle.spk_broker.specs.View.{IsSound, IsSettled, Stands, state_now, state_was, stepped}
use Rattle.spk_broker_rules.proofs.AnyList.{step-lawful}
use Rattle.spk_broker.specs.Endings.{Leads, ended}
use Rattle.spk_broker.specs.declared.packet_end.Ending.{Ending}
use Rattle.spk_topics.specs.Grants.{Grants}
use Rattle.spk_broker.specs.Filing.{IsHeld, IsIndex}
use Rattle.spk_broker.proofs.Follows.{held-index}
use Rattle.spk_broker.proofs.Silence.{calm-step, calm-tick}
use Rattle.spk_broker.proofs.Standing.{begun-stands}

pub stepped-is : (e : Event) (b : plain.Broker) → stepped e (begun b) ≡ step b e
unfolding step
stepped-is e b = refl

-- ---- a call after which something follows

pub record CallTo (e : Event) (b : plain.Broker) (d0 d1 : State) (x0 x1 : Draft) (drafted : Result Ending AllocError) : Type 0 where
  pub is : state_was d0 ≡ b
  pub kept : IsSound d0
  pub empty : draft_view x0 ≡ empty_draft
  pub done : IfOk drafted (λ n. (t : Turn) → Stands d0 x0 t → Leads d1 x1 n (stepped e t))
  pub same : state_was d1 ≡ state_was d0

pub record Concluded (d1 d2 : State) (x1 : Draft) (drafted : Result Ending AllocError) (r : Result Out BrokerFault) : Type 0 where
  pub done : IfOk drafted (λ n. OnOk r ((t : Turn) → Stands d1 x1 t → state_was d2 ≡ ended n t.broker))
  pub sends : IfOk r (λ out. map sent_view out.sends.items ≡ (draft_view x1).sends)
  pub closes : IfOk r (λ out. out.closes.items ≡ (draft_view x1).closes)
  pub variant : is_ok r ≡ is_ok drafted
  pub same : OnErr r (state_was d2 ≡ state_was d1)
  pub settled : IsSettled d2

leads-for : (e : Event) (b : plain.Broker) (d0 d1 : State) (x0 x1 : Draft) (n : Ending) → CallTo e b d0 d1 x0 x1 (Ok n) → Leads d1 x1 n (step b e)
leads-for e b d0 d1 x0 x1 n k =
    subst (λ t. Leads d1 x1 n t) (stepped-is e b)
    (k.done (begun b) (begun-stands d0 x0 b (k.kept.settled ∙ k.is) k.empty (subst IsLawful k.is k.kept.lawful)))

pub stands-to : (e : Event) (b : plain.Broker) (d0 d1 : State) (x0 x1 : Draft) (drafted : Result Ending AllocError) → CallTo e b d0 d1 x0 x1 drafted
    → OnOk drafted ((t : Turn) × Stands d1 x1 t)
stands-to e b d0 d1 x0 x1 (Ok n) k = let l = leads-for e b d0 d1 x0 x1 n k in (l.before, l.stands)
stands-to e b d0 d1 x0 x1 (Err x) k = tt

pub sends-to : (e : Event) (b : plain.Broker) (d0 d1 d2 : State) (x0 x1 : Draft) (drafted : Result Ending AllocError) (r : Result Out BrokerFault)
    → CallTo e b d0 d1 x0 x1 drafted → Concluded d1 d2 x1 drafted r → IfOk r (λ out. map sent_view out.sends.items ≡ map outgoing (step b e).sends)
sends-to e b d0 d1 d2 x0 x1 (Ok n) (Ok out) k f =
    let l = leads-for e b d0 d1 x0 x1 n k in f.sends ∙ l.stands.sends ∙ ap (λ (t : Turn). map outgoing t.sends) l.is
sends-to e b d0 d1 d2 x0 x1 (Err x) (Ok out) k f = absurd (let v = f.variant in let z : ⊥ = cc in z)
sends-to e b d0 d1 d2 x0 x1 (Ok n) (Err x) k f = tt
sends-to e b d0 d1 d2 x0 x1 (Err y) (Err x) k f = tt

pub closes-to : (e : Event) (b : plain.Broker) (d0 d1 d2 : State) (x0 x1 : Draft) (drafted : Result Ending AllocError) (r : Result Out BrokerFault)
    → CallTo e b d0 d1 x0 x1 drafted → Concluded d1 d2 x1 drafted r → IfOk r (λ out. out.closes.items ≡ (step b e).closes)
closes-to e b d0 d1 d2 x0 x1 (Ok n) (Ok out) k f =
    let l = leads-for e b d0 d1 x0 x1 n k in f.closes ∙ l.stands.closes ∙ ap (λ (t : Turn). t.closes) l.is
closes-to e b d0 d1 d2 x0 x1 (Err x) (Ok out) k f = absurd (let v = f.variant in let z : ⊥ = cc in z)
closes-to e b d0 d1 d2 x0 x1 (Ok n) (Err x) k f = tt
closes-to e b d0 d1 d2 x0 x1 (Err y) (Err x) k f = tt

pub done-to : (e : Event) (b : plain.Broker) (d0 d1 d2 : State) (x0 x1 : Draft) (drafted : Result Ending AllocError) (r : Result Out BrokerFault)
    → CallTo e b d0 d1 x0 x1 drafted → Concluded d1 d2 x1 drafted r → OnOk r (state_was d2 ≡ (step b e).broker)
done-to e b d0 d1 d2 x0 x1 (Ok n) (Ok out) k f =
    let l = leads-for e b d0 d1 x0 x1 n k in f.done l.before l.stands ∙ ap (λ (t : Turn). t.broker) l.is
done-to e b d0 d1 d2 x0 x1 (Err x) (Ok out) k f = absurd (let v = f.variant in let z : ⊥ = cc in z)
done-to e b d0 d1 d2 x0 x1 (Ok n) (Err x) k f = tt
done-to e b d0 d1 d2 x0 x1 (Err y) (Err x) k f = tt

pub kept-to : (e : Event) (b : plain.Broker) (d0 d1 d2 : State) (x0 x1 : Draft) (drafted : Result Ending AllocError) (r : Result Out BrokerFault)
    → CallTo e b d0 d1 x0 x1 drafted → Concluded d1 d2 x1 drafted r → IsSound d2
kept-to e b d0 d1 d2 x0 x1 drafted (Ok out) k f =
    record { settled = f.settled; lawful = subst IsLawful (sym (done-to e b d0 d1 d2 x0 x1 drafted (Ok out) k f)) (step-lawful b e (subst IsLawful k.is k.kept.lawful)) }
kept-to e b d0 d1 d2 x0 x1 drafted (Err x) k f = record { settled = f.settled; lawful = subst IsLawful (sym (f.same ∙ k.same)) k.kept.lawful }

pub not-false : (b : Bool) → not b ≡ false → b ≡ true
not-false true e = refl
not-false false e = sym e

-- a call for a connection that is open is refused for want of memory alone
pub refused-to : (conn : ℕ) (b : plain.Broker) (d : State) (known : Bool) (r : Result Out BrokerFault) → IsSound d → state_was d ≡ b → known ≡ knows (state_now d) conn → known ≡ true
    → IfErr r (λ e. e ≡ NoMemory) → IfErr r (IsUnknown (knows b conn))
refused-to conn b d known (Ok out) sound is same there fault = tt
refused-to conn b d known (Err e) sound is same there fault =
    subst (λ x. IsUnknown (knows b conn) x) (sym fault) (ap (λ x. knows x conn) (sym (sound.settled ∙ is)) ∙ sym same ∙ there)

-- ---- silence

calm-was : (m : ℕ) (b c : plain.Broker) → b ≡ c → IsCalm m b → IsCalm m c
calm-was m b c is h = subst (IsCalm m) is h

pub calm-to : (m : ℕ) (e : Event) (b : plain.Broker) (d0 d1 d2 : State) (x0 x1 : Draft) (drafted : Result Ending AllocError) (r : Result Out BrokerFault)
    → CallTo e b d0 d1 x0 x1 drafted → Concluded d1 d2 x1 drafted r → IsCalm m (state_was d0) → IsCalm m (state_was d2)
calm-to m e b d0 d1 d2 x0 x1 drafted (Err x) k f h = calm-was m (state_was d0) (state_was d2) (sym (f.same ∙ k.same)) h
calm-to m e b d0 d1 d2 x0 x1 drafted (Ok out) k f h =
    calm-was m (step b e).broker (state_was d2) (sym (done-to e b d0 d1 d2 x0 x1 drafted (Ok out) k f)) (calm-step m b e (calm-was m (state_was d0) b k.is h))

-- a tick that is done may have found the moment anew
pub calm-found : (m n moment : ℕ) (b : plain.Broker) (d0 d1 d2 : State) (x0 x1 : Draft) (drafted : Result Ending AllocError) (r : Result Out BrokerFault) (ok : Bool)
    → CallTo (Tick moment) b d0 d1 x0 x1 drafted → Concluded d1 d2 x1 drafted r → ok ≡ is_ok r → IsCalm m (noted (state_was d0) (Tick moment)).broker → IsCalm n (state_was d0)
    → IsCalm (cond ok m n) (state_was d2)
calm-found m n moment b d0 d1 d2 x0 x1 drafted (Err x) ok k f is found h =
    subst (λ c. IsCalm (cond c m n) (state_was d2)) (sym is) (calm-was n (state_was d0) (state_was d2) (sym (f.same ∙ k.same)) h)
calm-found m n moment b d0 d1 d2 x0 x1 drafted (Ok out) ok k f is found h =
    subst (λ c. IsCalm (cond c m n) (state_was d2)) (sym is)
    (calm-was m (step b (Tick moment)).broker (state_was d2) (sym (done-to (Tick moment) b d0 d1 d2 x0 x1 drafted (Ok out) k f))
    (calm-tick m moment b (subst (λ (c : plain.Broker). IsCalm m (noted c (Tick moment)).broker) k.is found)))

-- ---- the index

-- what a call as a whole leaves
pub held-to : (i j : Option Grants) (m n : ℕ) (b : plain.Broker) (d0 d1 d2 : State) → IsSound d0 → state_was d1 ≡ state_was d0
    → (AreOrdered d1.sessions.items → IsHeld i m (state_was d1).sessions → IsHeld j n (state_was d2).sessions)
    → IsHeld i m (state_was d0).sessions → IsHeld j n (state_was d2).sessions
held-to i j m n b d0 d1 d2 sound same follow h =
    let sessions : (state_was d1).sessions ≡ (state_was d0).sessions = ap (λ (x : plain.Broker). x.sessions) same in
    follow (0, (state_was d0).made, subst (λ (ss : List plain.Session). Rises 0 (state_was d0).made ss) (sym sessions) sound.lawful.keys) (subst (IsHeld i m) (sym sessions) h)

-- what stands for turns has the index of its turn
pub index-on : (i : Option Grants) (d d2 : State) (x x2 : Draft) (t t2 : Turn) → Stands d x t → Stands d2 x2 t2 → (IsIndex i t.broker.sessions → IsIndex i t2.broker.sessions)
    → IsIndex i (state_now d).sessions → IsIndex i (state_now d2).sessions
index-on i d d2 x x2 t t2 s s2 on h =
    subst (λ (ss : List plain.Session). IsIndex i ss) (sym (ap (λ (b : plain.Broker). b.sessions) s2.broker)) (on (subst (λ (ss : List plain.Session). IsIndex i ss) (ap (λ (b : plain.Broker). b.sessions) s.broker) h))

-- between calls the index of before is the one of now
pub now-index : (i : Option Grants) (n : ℕ) (d : State) → IsSound d → IsHeld i n (state_was d).sessions → IsIndex i (state_now d).sessions
now-index i n d sound h = subst (λ (b : plain.Broker). IsIndex i b.sessions) (sym sound.settled) (held-index i n (state_was d).sessions h)

pub now-held : (i : Option Grants) (n : ℕ) (d : State) → IsSound d → IsHeld i n (state_was d).sessions → IsHeld i n (state_now d).sessions
now-held i n d sound h = subst (λ (b : plain.Broker). IsHeld i n b.sessions) (sym sound.settled) h

pub was-held : (i : Option Grants) (n : ℕ) (d : State) → IsSound d → IsHeld i n (state_now d).sessions → IsHeld i n (state_was d).sessions
was-held i n d sound h = subst (λ (b : plain.Broker). IsHeld i n b.sessions) sound.settled h

-- at its beginning a call stands for its turn
pub begun-for : (d : State) (x : Draft) → IsSound d → draft_view x ≡ empty_draft → (t : Turn) × Stands d x t
begun-for d x sound empty = (begun (state_was d), begun-stands d x (state_was d) sound.settled empty sound.lawful)
