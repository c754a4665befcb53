use Rattle.std.proofs.Common.{◌^◌}
use Rattle.std.specs.Option.{option_map}
use Rattle.std.proofs.lemmas.Bool.{lt-ltb}
use Rattle.spk_payload.specs.Typing.{typed_view}
use Rattle.spk_edge.proofs.Told.{down-done}
use Rattle.spk_edge.proofs.node.EdgeNode.set_change.Goals as goal

pub returns-clause-done : goal.returns-clause-done
returns-clause-done c =
    down-done c.args.self.now c.args.now c.args.alias c.in_ok-value.value (option_map typed_view c.args.value.now) c.put_value.new.self c.silence.result
    (lt-ltb c.args.now (2 ^ 63) c.requires.moment) c.requires.accepted c.requires.asked c.in_ok-value.ensures
    c.silence.ensures.packets c.silence.ensures.writes c.silence.ensures.close c.put_value.ensures
