use Rattle.spk_plant_broker.proofs.Ringing.{broke_once}
use Rattle.spk_plant_broker.proofs.run.run_broker.Goals as goal

pub returns-clause-broke : goal.returns-clause-broke
returns-clause-broke g c =
    broke_once c.run_frames-ended.result c.args.bells.now c.run_frames-ended.new.bells c.ring_all.new.self c.run_frames-ended.ensures.broke c.ring_all.ensures
