use Rattle.spk_sequence.proofs.Tied.{number_below}
use Rattle.spk_sequence.proofs.Grows.{message_same, opens_same, start_same, number_same}
use Rattle.spk_sequence.proofs.Restarts.{start_opens, start_below, handed_below}
use Rattle.spk_sequence.proofs.laws.records.Goals as goal

pub returns-clause-start_opens : goal.returns-clause-start_opens
returns-clause-start_opens c = start_opens

pub returns-clause-start_below : goal.returns-clause-start_below
returns-clause-start_below c = start_below

pub returns-clause-handed : goal.returns-clause-handed
returns-clause-handed c s inputs p may there = handed_below s inputs may p there

pub returns-clause-same_message : goal.returns-clause-same_message
returns-clause-same_message c = message_same

pub returns-clause-same_opens : goal.returns-clause-same_opens
returns-clause-same_opens c = opens_same

pub returns-clause-same_start : goal.returns-clause-same_start
returns-clause-same_start c = start_same

pub returns-clause-same_number : goal.returns-clause-same_number
returns-clause-same_number c = number_same

pub returns-clause-byte : goal.returns-clause-byte
returns-clause-byte c = number_below
