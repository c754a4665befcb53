use Rattle.spk_plant_relay.proofs.Window.{lawful, near-birth, near-deaths, relayed-before}
use Rattle.spk_plant_relay.proofs.laws.relayed.Goals as goal

pub returns-clause-lawful : goal.returns-clause-lawful
returns-clause-lawful c = lawful

pub returns-clause-near_deaths : goal.returns-clause-near_deaths
returns-clause-near_deaths c = near-deaths

pub returns-clause-near_birth : goal.returns-clause-near_birth
returns-clause-near_birth c = near-birth

pub returns-clause-before : goal.returns-clause-before
returns-clause-before c = relayed-before
