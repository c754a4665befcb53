use Rattle.spk_link.proofs.Dues.{connects, ends, pings}
use Rattle.spk_link.proofs.Histories.{pause_is, stand_is}
use Rattle.spk_link.proofs.laws.any_list.Goals as goal

pub returns-clause-stand : goal.returns-clause-stand
returns-clause-stand c = stand_is

pub returns-clause-pause : goal.returns-clause-pause
returns-clause-pause c = pause_is

pub returns-clause-connect : goal.returns-clause-connect
returns-clause-connect c = connects

pub returns-clause-end : goal.returns-clause-end
returns-clause-end c = ends

pub returns-clause-ping : goal.returns-clause-ping
returns-clause-ping c = pings
