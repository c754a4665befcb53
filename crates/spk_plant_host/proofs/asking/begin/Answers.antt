use Rattle.spk_plant_host.proofs.Answering.{begin_answers, still_whole}
use Rattle.spk_plant_host.proofs.asking.begin.Goals as goal

pub returns-clause-answers : goal.returns-clause-answers
returns-clause-answers c =
    rw c.answered.ensures
    (begin_answers c.args.host.now c.connected.new.self c.args.now c.connected.result c.connected.ensures.said c.connected.ensures.alone
    c.connected.ensures.data c.connected.ensures.unchanged)

pub returns-clause-whole : goal.returns-clause-whole
returns-clause-whole c = rw c.answered.ensures (still_whole c.connected.result c.connected.ensures.whole)
