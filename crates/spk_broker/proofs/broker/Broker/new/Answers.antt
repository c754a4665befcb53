use Rattle.std.proofs.Common.{◌∙◌, ap, map}
use Rattle.spk_broker.specs.Parts.{retained_view}
use Rattle.spk_broker.specs.Sendable.{are_sendable}
use Rattle.spk_broker.proofs.Keepers.{none-sendable}
use Rattle.spk_broker.proofs.broker.Broker.new.Goals as goal

pub invariant_of-result : goal.invariant_of-result
invariant_of-result c = record { sendable = ap (λ es. are_sendable (map retained_view es)) c.new-3.ensures.empty ∙ none-sendable }
