use Rattle.spk_plant_relay.proofs.Origins.{relayed-from}
use Rattle.spk_plant_relay.proofs.laws.origins.Goals as goal

pub returns : goal.returns
returns c = λ limit edges log is_log. relayed-from (record { origins = c.origins.ensures }) limit edges log is_log
