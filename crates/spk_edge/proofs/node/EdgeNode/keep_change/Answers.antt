use Rattle.std.proofs.Common.{◌^◌}
use Rattle.std.specs.Option.{option_map}
use Rattle.std.proofs.lemmas.Bool.{lt-ltb}
use Rattle.spk_payload.specs.Typing.{typed_view}
use Rattle.spk_edge.specs.View.{change_view}
use Rattle.spk_edge.proofs.Told.{kept-done}
use Rattle.spk_edge.proofs.node.EdgeNode.keep_change.Goals as goal

pub returns-clause-done : goal.returns-clause-done
returns-clause-done c =
    kept-done c.args.self.now c.args.now c.args.alias c.in_ok-value.value (option_map typed_view c.args.value.now) (change_view c.in_ok-change.change) c.put_value.new.self c.keep_one.new.self c.silence.result
    (lt-ltb c.args.now (2 ^ 63) c.requires.moment) c.requires.accepted c.requires.asked c.in_ok-value.ensures c.in_ok-change.ensures
    c.silence.ensures.packets c.silence.ensures.writes c.silence.ensures.close c.put_value.ensures c.keep_one.ensures
