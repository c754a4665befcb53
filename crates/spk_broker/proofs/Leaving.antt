-- A connection that leaves takes no grants of a session that stays, and no session gets another number.
use Rattle.std.proofs.Common.{◌≡◌, ℕ, zero, suc, Bool, true, false, cond, List, [], ◌∷◌, ◌++◌, get_or, set, sym, ap, subst, Option, Some, None}
use Rattle.std.specs.List.{flat_map}
use Rattle.spk_topics.specs.Grants.{Grants}
use Rattle.spk_broker_rules.specs.Data as plain
use Rattle.spk_broker_rules.specs.Step.{left_behind}
use Rattle.spk_broker_rules.specs.Table.{Table}
use Rattle.spk_broker_rules.specs.Words.{option_list}
use Rattle.spk_broker_rules.proofs.Lists.{all-append}
use Rattle.spk_broker.specs.Both.{Both}
use Rattle.spk_broker.specs.Called.{AreInOrder, AreKeyed}
use Rattle.spk_broker.specs.Filing.{AllOf, IsFiled, IsIndex}
use Rattle.spk_broker.specs.View.{IsSound, state_was, session_now}
use Rattle.spk_broker.specs.declared.state.State.{State}
use Rattle.spk_broker.proofs.Touched.{settled-keyed}
use Rattle.spk_broker.proofs.Visits.{order-as, some-order}

all-split : (Q : ℕ → Table ℕ → Type 0) (xs ys : List plain.Session) → AllOf Q (xs ++ ys) → (AllOf Q xs) × (AllOf Q ys)
all-split Q [] ys all = (tt, all)
all-split Q (x ∷ xs) ys all = let rest = all-split Q xs ys all.1 in ((all.0, rest.0), rest.1)

all-set : (Q : ℕ → Table ℕ → Type 0) (bs : List Both) (p : ℕ) (d x : Both) → (AllOf Q (session_now (get_or bs p d)) → AllOf Q (session_now x)) → AllOf Q (flat_map session_now bs) → AllOf Q (flat_map session_now (set bs p x))
all-set Q [] p d x h all = all
all-set Q (b ∷ bs) zero d x h all =
    let parts = all-split Q (session_now b) (flat_map session_now bs) all in
    all-append (λ (s : plain.Session). Q s.key s.grants) (session_now x) (flat_map session_now bs) (h parts.0) parts.1
all-set Q (b ∷ bs) (suc p) d x h all =
    let parts = all-split Q (session_now b) (flat_map session_now bs) all in
    all-append (λ (s : plain.Session). Q s.key s.grants) (session_now b) (flat_map session_now (set bs p x)) parts.0 (all-set Q bs p d x h parts.1)

left-all : (Q : ℕ → Table ℕ → Type 0) (o : Option plain.Session) → AllOf Q (option_list o) → AllOf Q (flat_map left_behind (option_list o))
left-all Q None all = tt
left-all Q (Some s) all = by s.kept
  where
    by : (b : Bool) → AllOf Q (cond b ((record s { here = None }) ∷ []) [] ++ [])
    by true = (all.0, tt)
    by false = tt

pub index-left : (i : Option Grants) (bs : List Both) (p : ℕ) (d x : Both) → option_list x.now ≡ flat_map left_behind (option_list (get_or bs p d).now)
    → IsIndex i (flat_map session_now bs) → IsIndex i (flat_map session_now (set bs p x))
index-left None bs p d x left h = tt
index-left (Some index) bs p d x left h =
    all-set (IsFiled index) bs p d x (λ all. subst (λ (l : List plain.Session). AllOf (IsFiled index) l) (sym left) (left-all (IsFiled index) (get_or bs p d).now all)) h

-- and so sessions are found by their numbers as before
pub order-left : (i : Option Grants) (d0 d1 : State) → state_was d1 ≡ state_was d0 → (AreKeyed d0.sessions.items → AreKeyed d1.sessions.items) → AreInOrder i d0.sessions.items → AreInOrder i d1.sessions.items
order-left i d0 d1 same keyed = order-as i d0.sessions.items d1.sessions.items (ap (λ (b : plain.Broker). b.sessions) same) keyed

-- between calls they are
pub sound-order : (i : Option Grants) (d : State) → IsSound d → AreInOrder i d.sessions.items
sound-order i d sound = some-order i d.sessions.items (state_was d).made sound.lawful.keys (settled-keyed d sound.settled)
