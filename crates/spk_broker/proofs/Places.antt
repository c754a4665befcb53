-- A change of one session is a change at the place of its key.
use Rattle.std.proofs.Common.{◌≡◌, ℕ, ◌<◌, ◌≤◌, suc, zero, Bool, true, false, cond, eqb, List, [], ◌∷◌, ◌++◌, length, get_or, refl, ◌∙◌, ap, subst, Option, Some, None, arith}
use Rattle.std.proofs.Math.ListN.{set}
use Rattle.spk_broker_rules.specs.Data.{Session}
use Rattle.spk_broker_rules.specs.Lawful.{Rises}
use Rattle.spk_broker_rules.specs.Step.{swap}
use Rattle.spk_broker_rules.specs.Words.{option_list}
use Rattle.spk_broker_rules.proofs.Lists.{eqb-is, eqb-self}
use Rattle.spk_broker.specs.Asking.{sessions_now}
use Rattle.spk_broker.specs.Both.{Both}
use Rattle.spk_broker.specs.View.{session_now}

pub unequal : (a b : ℕ) → (a ≡ b → ⊥) → eqb a b ≡ false
unequal a b n = by (eqb a b) refl
  where
    by : (t : Bool) → eqb a b ≡ t → t ≡ false
    by true e = absurd (n (eqb-is a b e))
    by false e = refl

-- keys above a number stand above it
pub key-above : (bs : List Both) (i : ℕ) (d : Both) (s : Session) (low top : ℕ) → Rises low top (sessions_now bs) → i < length bs → (get_or bs i d).now ≡ Some s
    → low < s.key
key-above [] i d s low top r lt e = absurd (omega arith)
key-above (b ∷ bs) zero d s low top r lt e = let at = subst (λ o. Rises low top (option_list o ++ sessions_now bs)) e r in at.0
key-above (b ∷ bs) (suc i) d s low top r lt e = by b.now r (λ k q. key-above bs i d s k top q (omega arith) e)
  where
    by : (o : Option Session) → Rises low top (option_list o ++ sessions_now bs) → ((k : ℕ) → Rises k top (sessions_now bs) → k < s.key) → low < s.key
    by None q f = f low q
    by (Some x) q f = let here : low < x.key = q.0 in let there : x.key < s.key = f x.key q.1 in omega arith

-- where no key is that low, nothing is swapped
pub swap-past : (ss : List Session) (low top key : ℕ) (new : List Session) → Rises low top ss → key ≤ low → swap key new ss ≡ ss
swap-past [] low top key new r le = refl
swap-past (s ∷ ss) low top key new r le =
    let here : low < s.key = r.0 in
    ap (λ b. cond b new (s ∷ []) ++ swap key new ss) (unequal s.key key (λ e. omega arith))
    ∙ ap (λ xs. s ∷ xs) (swap-past ss s.key top key new r.1 (omega arith))

-- what stands at the place of the key of the session at i
pub swap-at : (bs : List Both) (i : ℕ) (d b : Both) (s : Session) (low top : ℕ) → Rises low top (sessions_now bs) → i < length bs → (get_or bs i d).now ≡ Some s
    → swap s.key (session_now b) (sessions_now bs) ≡ sessions_now (set bs i b)
swap-at [] i d b s low top r lt e = absurd (omega arith)
swap-at (x ∷ xs) zero d b s low top r lt e =
    let at : Rises low top (s ∷ sessions_now xs) = subst (λ o. Rises low top (option_list o ++ sessions_now xs)) e r in
    ap (λ o. swap s.key (session_now b) (option_list o ++ sessions_now xs)) e
    ∙ ap (λ t. cond t (session_now b) (s ∷ []) ++ swap s.key (session_now b) (sessions_now xs)) (eqb-self s.key)
    ∙ ap (λ ys. session_now b ++ ys) (swap-past (sessions_now xs) s.key top s.key (session_now b) at.1 (omega arith))
swap-at (x ∷ xs) (suc i) d b s low top r lt e =
    by x.now r (λ k q. key-above xs i d s k top q (omega arith) e) (λ k q. swap-at xs i d b s k top q (omega arith) e)
  where
    by : (o : Option Session) → Rises low top (option_list o ++ sessions_now xs) → ((k : ℕ) → Rises k top (sessions_now xs) → k < s.key)
        → ((k : ℕ) → Rises k top (sessions_now xs) → swap s.key (session_now b) (sessions_now xs) ≡ sessions_now (set xs i b))
        → swap s.key (session_now b) (option_list o ++ sessions_now xs) ≡ option_list o ++ sessions_now (set xs i b)
    by None q low_key rest = rest low q
    by (Some y) q low_key rest =
        let less : y.key < s.key = low_key y.key q.1 in
        ap (λ t. cond t (session_now b) (y ∷ []) ++ swap s.key (session_now b) (sessions_now xs)) (unequal y.key s.key (λ f. omega arith))
        ∙ ap (λ ys. y ∷ ys) (rest y.key q.1)
