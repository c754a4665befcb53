use Rattle.spk_host.proofs.Heard.{after_at, fails_as, gives_at, identified, one_meaning}
use Rattle.spk_reading.specs.View.{heard_view}
use Rattle.spk_host.proofs.host.Host.packet.Goals as goal

pub returns-in-Ok-clause-answer : goal.returns-in-Ok-clause-answer
returns-in-Ok-clause-answer c = λ h inside says.
    gives_at c.args.self.now c.hear.result h (heard_view c.in-Ok.heard) c.args.now (one_meaning (c.in-Ok.ensures.only h says)) c.hear.ensures.out

pub returns-in-Ok-clause-data : goal.returns-in-Ok-clause-data
returns-in-Ok-clause-data c = λ h says.
    after_at c.args.self.now c.hear.new.self c.hear.result h (heard_view c.in-Ok.heard) c.args.now (one_meaning (c.in-Ok.ensures.only h says)) c.hear.ensures.data

pub returns-in-Err-clause-answer : goal.returns-in-Err-clause-answer
returns-in-Err-clause-answer c = λ h inside says. rw (c.fault_of.ensures) (fails_as c.in-Err.fault h _ (c.in-Err.ensures.only h says))

pub returns-in-Ok-clause-whole : goal.returns-in-Ok-clause-whole
returns-in-Ok-clause-whole c = c.hear.ensures.whole (identified c.args.bytes.now (heard_view c.in-Ok.heard) c.in-Ok.ensures.found)
