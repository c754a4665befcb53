use Rattle.std.proofs.Common.{◌^◌}
use Rattle.std.proofs.lemmas.Bool.{lt-ltb}
use Rattle.spk_edge.specs.Several.{pairs}
use Rattle.spk_edge.proofs.Severals.{set-done}
use Rattle.spk_edge.proofs.node.EdgeNode.set_others.Goals as goal

pub returns : goal.returns
returns c =
    set-done c.args.self.now c.args.now (pairs c.args.changes.now) (pairs c.args.others.items) c.put_values.new.self c.silence.result (lt-ltb c.args.now (2 ^ 63) c.requires.moment)
    c.requires.accepted c.requires.others c.requires.down c.silence.ensures.packets c.silence.ensures.writes c.silence.ensures.close c.put_values.ensures
