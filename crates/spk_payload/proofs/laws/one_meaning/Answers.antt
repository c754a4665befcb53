use Rattle.spk_payload.specs.declared.values.Values.TheVariants as choice
use Rattle.spk_payload.proofs.Payloads.{one_fault, one_payload, payload_or_fault}
use Rattle.spk_payload.proofs.laws.one_meaning.Goals as goal

pub returns-clause-meaning : goal.returns-clause-meaning
returns-clause-meaning c = one_payload

pub returns-clause-fault : goal.returns-clause-fault
returns-clause-fault c = one_fault choice.All

pub returns-clause-apart : goal.returns-clause-apart
returns-clause-apart c = payload_or_fault
