use Rattle.spk_state.proofs.Listening.{stands, greatest_one, ignored, heard_else}
use Rattle.spk_state.proofs.laws.any_list.Goals as goal

pub returns-clause-stands : goal.returns-clause-stands
returns-clause-stands c = stands

pub returns-clause-one : goal.returns-clause-one
returns-clause-one c = greatest_one

pub returns-clause-ignored : goal.returns-clause-ignored
returns-clause-ignored c = ignored

pub returns-clause-heard : goal.returns-clause-heard
returns-clause-heard c = heard_else
