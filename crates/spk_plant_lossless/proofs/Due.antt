-- What is due of a node that publishes nothing before the host is subscribed, and only while its connection stands.
use Rattle.std.proofs.Common.{◌≡◌, sym, ap, refl, ◌∙◌, ℕ, suc, ◌+◌, Bool, true, false, ◌&&◌, cond, eqb, List, [], ◌∷◌, ◌++◌, is_some, arith}
use Rattle.spk_ingress.specs.declared.rule.Message.{Message}
use Rattle.spk_packets.specs.Message.{Subscribe}
use Rattle.spk_plant_broker.specs.Data.{Entry, Took, Accepted, Refused, Passed, Told, Says}
use Rattle.spk_plant_broker.specs.Log.{room_of}
use Rattle.spk_plant_broker.specs.Step.{conn_at}
use Rattle.spk_plant_relay.specs.Due.{due, is_heard}
use Rattle.spk_plant_relay.specs.Shown.{count_numbered, is_numbered}
use Rattle.spk_plant_laws.specs.Standing.{taken_since}
use Rattle.spk_plant_lossless.specs.Subscribed.{HasConnection}
use Rattle.spk_plant_lossless.specs.Whole.{all_below}

pub due-none : (limit edges : ℕ) (on : List ℕ → Bool) (k host : ℕ) (l : List Entry) → count_numbered on k l ≡ 0 → due limit edges on k host l ≡ []
due-none limit edges on k host [] e = refl
due-none limit edges on k host (Took m i ∷ l) e = by (is_numbered on k m i) e (due-none limit edges on k host l)
  where
    by : (b : Bool) → cond b (count_numbered on k l + 1) (count_numbered on k l) ≡ 0 → (count_numbered on k l ≡ 0 → due limit edges on k host l ≡ [])
        → cond (b && is_heard limit k host (room_of limit edges l) i) (count_numbered on k l ∷ due limit edges on k host l) (due limit edges on k host l) ≡ []
    by true f rest = absurd (omega (arith, f))
    by false f rest = rest f
due-none limit edges on k host (Accepted j o ∷ l) e = due-none limit edges on k host l e
due-none limit edges on k host (Refused j o ∷ l) e = due-none limit edges on k host l e
due-none limit edges on k host (Passed o ∷ l) e = due-none limit edges on k host l e
due-none limit edges on k host (Told o ∷ l) e = due-none limit edges on k host l e

pub since-all : (limit edges : ℕ) (on : List ℕ → Bool) (k : ℕ) (later before : List Entry) → count_numbered on k before ≡ 0 → HasConnection limit edges on k later before
    → taken_since limit edges on k later before ≡ all_below (count_numbered on k (later ++ before))
since-all limit edges on k [] before none x = sym (ap all_below none)
since-all limit edges on k (Took m i ∷ l) before none x =
    by (is_numbered on k m i) (is_some (conn_at limit (room_of limit edges (l ++ before)) k)) x.0 (since-all limit edges on k l before none x.1)
  where
    n : ℕ
    n = count_numbered on k (l ++ before)

    size : (x : ℕ) → suc x ≡ x + 1
    size x = omega arith

    by : (b c : Bool) → (b ≡ true → c ≡ true) → taken_since limit edges on k l before ≡ all_below (count_numbered on k (l ++ before))
        → cond (b && c) (count_numbered on k (l ++ before) ∷ taken_since limit edges on k l before) (taken_since limit edges on k l before)
        ≡ all_below (cond b (count_numbered on k (l ++ before) + 1) (count_numbered on k (l ++ before)))
    by true true there rest = ap (λ xs. count_numbered on k (l ++ before) ∷ xs) rest ∙ ap all_below (size (count_numbered on k (l ++ before)))
    by true false there rest = absurd (no (there refl))
      where
        no : false ≡ true → ⊥
        no e = cc
    by false c there rest = rest
since-all limit edges on k (Accepted j o ∷ l) before none x = since-all limit edges on k l before none x
since-all limit edges on k (Refused j o ∷ l) before none x = since-all limit edges on k l before none x
since-all limit edges on k (Passed o ∷ l) before none x = since-all limit edges on k l before none x
since-all limit edges on k (Told o ∷ l) before none x = since-all limit edges on k l before none x

-- a SUBSCRIBE is no numbered message
pub count-subscribe : (on : List ℕ → Bool) (k : ℕ) (m : Message) (id : ℕ) (entries : List (List ℕ × ℕ)) (l : List Entry) → count_numbered on k l ≡ 0 → count_numbered on k (Took m (Says (Subscribe id entries)) ∷ l) ≡ 0
count-subscribe on k m id entries l e = by (eqb m.sender k)
  where
    by : (b : Bool) → cond (b && false) (count_numbered on k l + 1) (count_numbered on k l) ≡ 0
    by true = e
    by false = e
