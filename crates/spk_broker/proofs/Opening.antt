-- One more connection, and how many there are.
use Rattle.std.proofs.Common.{◌≡◌, ℕ, Bool, true, false, ◌+◌, ◌<◌, max, cond, List, [], ◌∷◌, ◌++◌, map, length, take, get_or, refl, sym, ◌∙◌, ap}
use Rattle.std.specs.List.{filter, flat_map}
use Rattle.std.specs.Option.{is_some}
use Rattle.std.proofs.lemmas.List.{length-append, map_more, map_push}
use Rattle.std.proofs.lemmas.List.Elements.{filter-append}
use Rattle.spk_broker_rules.specs.Data as plain
use Rattle.spk_broker_rules.specs.Plan.{Open}
use Rattle.spk_broker_rules.specs.Step.{step}
use Rattle.spk_broker_rules.proofs.Lists.{flat_map-append}
use Rattle.spk_broker.specs.Both.{Both}
use Rattle.spk_broker.specs.declared.state.State.{State}
use Rattle.spk_broker.specs.declared.newcomer.Newcomer.{Newcomer}
use Rattle.spk_broker.specs.View.{session_was, newcomer_was, newcomer_now, state_was, state_now, IsSettled}

abbrev pub newcomer : ℕ → ℕ → plain.Newcomer
newcomer conn clock = record { conn = conn; heard = clock; drops = 0 }

abbrev pub with_newcomers : plain.Broker → ℕ → List plain.Newcomer → plain.Broker
with_newcomers b clock gs = record b { given = b.given + 1; clock = clock; newcomers = gs }

-- what opening adds is what the rules say
pub opened : (b : plain.Broker) (now clock : ℕ) (gs : List plain.Newcomer) → clock ≡ max b.clock now → gs ≡ b.newcomers ++ newcomer (b.given + 1) clock ∷ []
    → with_newcomers b clock gs ≡ (step b (Open now)).broker
unfolding step
opened b now clock gs e f = ap (with_newcomers b clock) f ∙ ap (λ k. with_newcomers b k (b.newcomers ++ newcomer (b.given + 1) k ∷ [])) e

abbrev pub had : Both → Bool
had b = is_some b.was.here

abbrev pub connections_in : List Both → ℕ
connections_in bs = length (filter (λ (s : plain.Session). is_some s.here) (map session_was bs))

-- one session more
pub connections-more : (bs : List Both) (i : ℕ) (d : Both) → i < length bs → connections_in (take (i + 1) bs) ≡ connections_in (take i bs) + cond (is_some (get_or bs i d).was.here) 1 0
connections-more bs i d low =
    ap (λ xs. length (filter (λ (s : plain.Session). is_some s.here) xs)) (map_more session_was bs i d low)
    ∙ ap length (filter-append (λ (s : plain.Session). is_some s.here) (map session_was (take i bs)) ((get_or bs i d).was ∷ []))
    ∙ length-append (filter (λ (s : plain.Session). is_some s.here) (map session_was (take i bs))) (filter (λ (s : plain.Session). is_some s.here) ((get_or bs i d).was ∷ []))
    ∙ ap (λ n. connections_in (take i bs) + n) (by (get_or bs i d).was (is_some (get_or bs i d).was.here))
  where
    by : (s : plain.Session) (b : Bool) → length (cond b (s ∷ []) []) ≡ cond b 1 0
    by s true = refl
    by s false = refl

-- the newcomers by now and of before are alike with one more
pub newcomers-more : (gs more : List Newcomer) (g : Newcomer) → more ≡ gs ++ g ∷ [] → flat_map newcomer_now gs ≡ map newcomer_was gs → newcomer_now g ≡ newcomer_was g ∷ [] → flat_map newcomer_now more ≡ map newcomer_was more
newcomers-more gs more g is e f =
    ap (flat_map newcomer_now) is ∙ flat_map-append newcomer_now gs (g ∷ [])
    ∙ ap (λ xs. flat_map newcomer_now gs ++ (xs ++ [])) f
    ∙ ap (λ xs. xs ++ newcomer_was g ∷ []) e
    ∙ sym (map_push newcomer_was gs g) ∙ ap (map newcomer_was) (sym is)

-- a state that was settled is so with one more newcomer
pub opened-settled : (d : State) (clock : ℕ) (more : List Newcomer) → IsSettled d → flat_map newcomer_now more ≡ map newcomer_was more
    → with_newcomers (state_now d) clock (flat_map newcomer_now more) ≡ with_newcomers (state_was d) clock (map newcomer_was more)
opened-settled d clock more e f =
    ap (λ b. with_newcomers b clock (flat_map newcomer_now more)) e ∙ ap (with_newcomers (state_was d) clock) f
