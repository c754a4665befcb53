use Rattle.spk_heard.proofs.Grows.{inputs_still, message_still, messages_still}
use Rattle.spk_heard.proofs.laws.grows.Goals as goal

pub returns-clause-message : goal.returns-clause-message
returns-clause-message c = message_still (record { number = c.records.ensures.same_number; message = c.records.ensures.same_message; opens = c.records.ensures.same_opens })

pub returns-clause-messages : goal.returns-clause-messages
returns-clause-messages c = messages_still (record { number = c.records.ensures.same_number; message = c.records.ensures.same_message; opens = c.records.ensures.same_opens })

pub returns-clause-inputs : goal.returns-clause-inputs
returns-clause-inputs c = inputs_still (record { number = c.records.ensures.same_number; message = c.records.ensures.same_message; opens = c.records.ensures.same_opens })

pub returns-clause-nothing : goal.returns-clause-nothing
returns-clause-nothing c = λ s published. tt
