use Rattle.std.proofs.Common.{Result, subst}
use Rattle.spk_payload.specs.View.{payload_view, Gives}
use Rattle.spk_payload.specs.Meaning.{PayloadData}
use Rattle.spk_payload.specs.declared.fault.PayloadFault.{PayloadFault}
use Rattle.spk_payload.proofs.Payloads.{found, fault_is, payload_again, payload_fault_again}
use Rattle.spk_payload.proofs.payload.decode_as.Goals as goal

pub returns-clause-found : goal.returns-clause-found
returns-clause-found c = found c.args.values c.args.bytes.now c.payload_at.result c.payload_at.ensures.gives

pub returns-clause-only : goal.returns-clause-only
returns-clause-only c = λ p h. subst (λ (due : Result PayloadData PayloadFault). Gives payload_view c.payload_at.result due) (payload_again c.args.values c.args.bytes.now p h) c.payload_at.ensures.gives

pub returns-clause-fault : goal.returns-clause-fault
returns-clause-fault c = fault_is c.args.values c.args.bytes.now c.payload_at.result c.payload_at.ensures.gives

pub returns-clause-only_fault : goal.returns-clause-only_fault
returns-clause-only_fault c = λ f h. subst (λ (due : Result PayloadData PayloadFault). Gives payload_view c.payload_at.result due) (payload_fault_again c.args.values c.args.bytes.now f h) c.payload_at.ensures.gives
