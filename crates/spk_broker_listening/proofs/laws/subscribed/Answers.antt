use Rattle.std.proofs.Common.{◌≡◌, ◌∷◌, ◌++◌, ◌∙◌, sym, inl, inr, true}
use Rattle.spk_packets.specs.Message.{Subscribe}
use Rattle.spk_broker_rules.specs.Plan.{Packet}
use Rattle.spk_broker_rules.specs.Step.{after}
use Rattle.spk_broker_listening.specs.Granted.{holds}
use Rattle.spk_broker_listening.proofs.Fine.{yes_no}
use Rattle.spk_broker_listening.proofs.Given.{answered, granted}
use Rattle.spk_broker_listening.proofs.Held.{lasts, matched, stays}
use Rattle.spk_broker_listening.proofs.Room.{roomy}
use Rattle.spk_broker_listening.proofs.laws.subscribed.Goals as goal

pub returns-clause-answered : goal.returns-clause-answered
returns-clause-answered c = answered

pub returns-clause-room : goal.returns-clause-room
returns-clause-room c = roomy

pub returns-clause-granted : goal.returns-clause-granted
returns-clause-granted c = granted

pub returns-clause-stays : goal.returns-clause-stays
returns-clause-stays c = stays

pub returns-clause-matched : goal.returns-clause-matched
returns-clause-matched c = matched

pub returns-clause-listening : goal.returns-clause-listening
returns-clause-listening c = λ limit later before conn id moment entries codes filter topic answer given still through match.
    let now : holds (after limit (Packet conn (Subscribe id entries) moment ∷ before)) conn filter ≡ true =
    elim (granted (after limit before) conn id moment entries codes filter (c.any_list.ensures.lawful limit before) answer given) [
      | inl x ↦ x
      | inr x ↦ absurd (yes_no (sym x ∙ still))
    ] in
    matched (after limit (later ++ Packet conn (Subscribe id entries) moment ∷ before)) conn filter topic (lasts c.any_list.ensures.lawful limit conn filter later (Packet conn (Subscribe id entries) moment ∷ before) through now) match
