use Rattle.spk_world_run.proofs.Sending.{death-sent, message-sent}
use Rattle.spk_world_run.proofs.laws.sent.Goals as goal

pub returns-clause-messages : goal.returns-clause-messages
returns-clause-messages c = message-sent c.messages.ensures

pub returns-clause-deaths : goal.returns-clause-deaths
returns-clause-deaths c = death-sent c.deaths.ensures.read c.spelling_spells.ensures
