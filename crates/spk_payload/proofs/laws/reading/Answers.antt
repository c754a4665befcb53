use Rattle.spk_payload.proofs.Payloads.{payload_again, payload_fault, payload_fault_again, payload_takes}
use Rattle.spk_payload.proofs.laws.reading.Goals as goal

pub returns-clause-meaning : goal.returns-clause-meaning
returns-clause-meaning c = λ values bytes p. (payload_takes values bytes p, payload_again values bytes p)

pub returns-clause-fault : goal.returns-clause-fault
returns-clause-fault c = λ values bytes f. (payload_fault values bytes f, payload_fault_again values bytes f)
