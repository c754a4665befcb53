use Rattle.spk_host.specs.Inputs.{Heard}
use Rattle.spk_reading.specs.View.{heard_view}
use Rattle.spk_plant_host.proofs.Answering.{answers, still_whole, within_ok}
use Rattle.spk_plant_host.proofs.asking.hear.Goals as goal

pub returns-clause-answers : goal.returns-clause-answers
returns-clause-answers c =
    rw c.answered.ensures
    (answers (Heard (heard_view c.args.heard) c.args.now) c.args.host.now c.heard.new.self c.heard.result c.heard.ensures.answer
    (within_ok c.args.host.now.session.began c.heard.result c.heard.ensures.outside) c.heard.ensures.data c.heard.ensures.unchanged)

pub returns-clause-whole : goal.returns-clause-whole
returns-clause-whole c =
    rw c.answered.ensures (still_whole c.heard.result (c.heard.ensures.whole c.requires.0 c.requires.1))
