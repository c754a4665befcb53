-- What items put together: the lines of a broker, and events behind them.
use Rattle.std.proofs.Common.{◌≡◌, ℕ, List, [], ◌∷◌, ◌++◌, map, refl, ap, ◌∙◌}
use Rattle.std.specs.List.{fold}
use Rattle.std.proofs.lemmas.List.Sums.{fold-append}
use Rattle.spk_broker_rules.specs.Data.{Broker}
use Rattle.spk_broker_rules.specs.Plan.{Event}
use Rattle.spk_broker_rules.specs.Step.{step}
use Rattle.spk_broker_replay.specs.Replay.{restored, run}
use Rattle.spk_broker_events.specs.Line.{Kept}
use Rattle.spk_broker_snapshot.specs.Lines.{lines}
use Rattle.spk_broker_snapshot.specs.Together.{Stand, after, apart, ended}
use Rattle.spk_broker_journal.specs.Fitting.{Came, Row, after_item}
use Rattle.spk_broker_journal.specs.Replayed.{first, together}

module _ (limit : ℕ) where
  rows : (ls : List Kept) (st : Stand) → fold (after_item limit) st (map Row ls) ≡ fold (after limit) st ls
  rows [] st = refl
  rows (l ∷ ls) st = rows ls (after limit st l)

  events : (es : List Event) (st : Stand) → ended (fold (after_item limit) st (map Came es)) ≡ run (ended st) es
  events [] st = refl
  events (e ∷ es) st = events es (apart (step (ended st) e).broker)

pub together-is : (limit : ℕ) (b : Broker) (es : List Event) → ((before : Stand) → ended (fold (after limit) before (lines b)) ≡ restored limit b)
    → together limit (map Row (lines b) ++ map Came es) ≡ run (restored limit b) es
together-is limit b es again =
    ap ended (fold-append (after_item limit) (first limit) (map Row (lines b)) (map Came es) ∙ ap (λ x. fold (after_item limit) x (map Came es)) (rows limit (lines b) (first limit)))
    ∙ events limit es (fold (after limit) (first limit) (lines b))
    ∙ ap (λ x. run x es) (again (first limit))
