use Rattle.std.proofs.Common.{◌∙◌, ◌<◌, ◌≤◌, Bool, true, false, arith, ap, cond, leb, List, [], ◌∷◌, length, sym}
use Rattle.std.proofs.lemmas.List.{length-map}
use Rattle.std.proofs.lemmas.Bool.{lt-leb}
use Rattle.std.specs.List.{filter}
use Rattle.std.specs.Option.{is_some}
use Rattle.spk_broker_rules.specs.Data as plain
use Rattle.spk_broker_rules.specs.Step.{open_count}
use Rattle.spk_broker.specs.View.{state_was, newcomer_was, session_was}
use Rattle.spk_broker.proofs.broker.Broker.has_most_open.Goals as goal

few-pass : {X : Type 0} (p : X → Bool) (xs : List X) → length (filter p xs) ≤ length xs
few-pass p [] = omega arith
few-pass {X} p (x ∷ xs) = by (p x) (few-pass p xs)
  where
    by : (b : Bool) → length (filter p xs) ≤ length xs → length (cond b (x ∷ filter p xs) (filter p xs)) ≤ length (x ∷ xs)
    by true h = omega (arith, h)
    by false h = omega (arith, h)

pub returns-then-saturating_add-lt-MOST_OPEN : goal.returns-then-saturating_add-lt-MOST_OPEN
returns-then-saturating_add-lt-MOST_OPEN c =
    let b = state_was c.self.inside.state in
    let connections = few-pass (λ (s : plain.Session). is_some s.here) b.sessions in
    let sessions = length-map c.self.inside.state.sessions.items session_was in
    let newcomers = length-map c.self.inside.state.newcomers.items newcomer_was in
    let few : open_count b < 1000 = omega (arith, connections, sessions, newcomers, c.if-saturating_add-lt-MOST_OPEN.true, c.saturating_add.ensures, c.len.ensures, c.len-2.ensures) in
    sym (lt-leb 1000 (open_count b) few) ∙ ap (λ (x : plain.Broker). leb 1000 (open_count x)) c.self.view_is
