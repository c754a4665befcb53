use Rattle.std.specs.Option.{option_map}
use Rattle.spk_broker.specs.Parts.{connection_now, app_message_view}
use Rattle.spk_broker.proofs.Accepting.{accepts, is-lower}
use Rattle.spk_broker.proofs.state.State.accept.Goals as goal

pub returns-in_ok-prepare-in-Some-clause-done : goal.returns-in_ok-prepare-in-Some-clause-done
returns-in_ok-prepare-in-Some-clause-done c t s =
    accepts c.args.self.now c.prepare.new.self c.args.draft.now c.prepare.new.draft t c.args.conn c.args.client.now c.args.kept c.args.alive (option_map app_message_view c.args.will)
    (connection_now c.in-Some.connection) c.in_ok-prepare-in-Some.field-0 c.in-Some.ensures.value c.in_ok-prepare-in-Some.ensures.entry c.in_ok-prepare-in-Some.ensures.sends
    c.prepare.ensures.now c.prepare.ensures.retained s

pub prepare-requires-clause-number : goal.prepare-requires-clause-number
prepare-requires-clause-number c =
    is-lower c.args.self.now c.args.conn c.args.alive (option_map app_message_view c.args.will) (connection_now c.in-Some.connection) c.in-Some.ensures.value c.requires.lawful
