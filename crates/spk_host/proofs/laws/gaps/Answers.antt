use Rattle.std.proofs.Common.{refl}
use Rattle.spk_host.specs.Step.{tick_entry}
use Rattle.spk_host.proofs.GapPlaces.{nodes-there, none-told, steps-there}
use Rattle.spk_host.proofs.Indexed.{names-still}
use Rattle.spk_host.proofs.laws.gaps.Goals as goal

pub returns-clause-nodes : goal.returns-clause-nodes
returns-clause-nodes c = λ nodes now. nodes-there now nodes

pub returns-clause-steps : goal.returns-clause-steps
returns-clause-steps c = λ nodes now. steps-there now nodes

pub returns-clause-stay : goal.returns-clause-stay
returns-clause-stay c = λ h now. names-still (tick_entry now) (λ e. refl) h.nodes

pub returns-clause-packet : goal.returns-clause-packet
returns-clause-packet c = none-told
