use Rattle.spk_host.specs.Inputs.{Ticked}
use Rattle.spk_plant_host.proofs.Answering.{answers, still_whole, within_ok}
use Rattle.spk_plant_host.proofs.asking.tick.Goals as goal

pub returns-clause-answers : goal.returns-clause-answers
returns-clause-answers c =
    rw c.answered.ensures
    (answers (Ticked c.args.now) c.args.host.now c.tick.new.self c.tick.result c.tick.ensures.answer
    (within_ok c.args.host.now.session.began c.tick.result c.tick.ensures.outside) c.tick.ensures.data c.tick.ensures.unchanged)

pub returns-clause-whole : goal.returns-clause-whole
returns-clause-whole c = rw c.answered.ensures (still_whole c.tick.result c.tick.ensures.whole)
