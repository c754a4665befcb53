-- What enters.
use Rattle.std.proofs.Common.{◌≡◌, ℕ, zero, suc, ◌≤◌, Bool, true, false, not, ◌==◌, cond, List, [], ◌∷◌, ◌++◌, length, map, take, drop, refl, sym, ap, ◌∙◌, arith}
use Rattle.std.specs.List.{filter, flat_map}
use Rattle.spk_broker_rules.specs.Step.{other_newcomers}
use Rattle.spk_broker_rules.specs.Words.{handed_out, without_id}
use Rattle.spk_broker_rules.proofs.Lists.{filter-map}
use Rattle.spk_broker.specs.Asking.{newcomers_now}
use Rattle.spk_broker.specs.Parts.{in_flight_view}
use Rattle.spk_broker.specs.View.{newcomer_now, newcomer_was}
use Rattle.spk_broker.specs.declared.newcomer.Newcomer.{Newcomer}
use Rattle.spk_broker.specs.declared.session.InFlight.{InFlight}
use Rattle.spk_broker.proofs.Alive.{plain_of}

abbrev pub out_of_hand : InFlight → InFlight
out_of_hand c = record c { handed = true }

pub handed-all : (cs : List InFlight) → map in_flight_view (map out_of_hand cs) ≡ map handed_out (map in_flight_view cs)
handed-all [] = refl
handed-all (c ∷ cs) = ap (λ xs. handed_out (in_flight_view c) ∷ xs) (handed-all cs)

pub in_flight-without : (id : ℕ) (cs : List InFlight) → map in_flight_view (filter (λ c. not (c.id == id)) cs) ≡ without_id id (map in_flight_view cs)
in_flight-without id cs = sym (filter-map in_flight_view (λ c. not (c.id == id)) (λ c. not (c.id == id)) (λ c. refl) cs)

pub was-without : (conn : ℕ) (gs : List Newcomer) → map newcomer_was (filter (λ g. not (g.conn == conn)) gs) ≡ other_newcomers conn (map newcomer_was gs)
was-without conn gs = sym (filter-map newcomer_was (λ g. not (g.conn == conn)) (λ g. not (g.conn == conn)) (λ g. refl) gs)

pub now-without : (conn : ℕ) (gs : List Newcomer) → newcomers_now (filter (λ g. not (g.conn == conn)) gs) ≡ other_newcomers conn (newcomers_now gs)
now-without conn [] = refl
now-without conn (g ∷ gs) = by g.gone (g.conn == conn) refl (now-without conn gs)
  where
    others : List Newcomer
    others = filter (λ g. not (g.conn == conn)) gs

    by : (gone same : Bool) → (g.conn == conn) ≡ same → newcomers_now others ≡ other_newcomers conn (newcomers_now gs)
        → flat_map newcomer_now (cond (not same) (record g { gone = gone } ∷ others) others) ≡ other_newcomers conn (cond gone [] (plain_of g ∷ []) ++ newcomers_now gs)
    by true true e r = r
    by true false e r = r
    by false true e r = r ∙ ap (λ b. cond (not b) (plain_of g ∷ other_newcomers conn (newcomers_now gs)) (other_newcomers conn (newcomers_now gs))) (sym e)
    by false false e r = ap (λ xs. plain_of g ∷ xs) r ∙ ap (λ b. cond (not b) (plain_of g ∷ other_newcomers conn (newcomers_now gs)) (other_newcomers conn (newcomers_now gs))) (sym e)

-- a change of each that has come to the end
pub mapped-all : {X : Type 0} (f : X → X) (xs : List X) (i : ℕ) → length xs ≤ i → map f (take i xs) ++ drop i xs ≡ map f xs
mapped-all f [] zero le = refl
mapped-all f [] (suc i) le = refl
mapped-all f (x ∷ xs) zero le = absurd (omega (arith, le))
mapped-all f (x ∷ xs) (suc i) le = ap (λ ys. f x ∷ ys) (mapped-all f xs i (omega (arith, le)))
