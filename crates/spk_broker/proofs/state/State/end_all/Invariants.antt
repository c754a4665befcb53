use Rattle.std.proofs.Common.{◌≡◌, Option, take}
use Rattle.std.specs.List.{flat_map}
use Rattle.spk_topics.specs.Grants.{Grants}
use Rattle.spk_broker_rules.specs.Step.{Turn, acts}
use Rattle.spk_broker.specs.Called.{AreKeyed}
use Rattle.spk_broker.specs.Filing.{IsIndex}
use Rattle.spk_broker.specs.View.{Stands, state_now, state_was, ends}
use Rattle.spk_broker.proofs.state.State.end_all.Given as goal

abbrev pub invariant-loop-conn : goal.invariant-loop-conn
invariant-loop-conn l = record {
  same : state_was l.self ≡ state_was l.initial.self;
  index : (i : Option Grants) → IsIndex i (state_now l.initial.self).sessions → IsIndex i (state_now l.self).sessions;
  keyed : AreKeyed l.initial.self.sessions.items → AreKeyed l.self.sessions.items;
  done : (t : Turn) → Stands l.initial.self l.initial.draft t → Stands l.self l.draft (acts (flat_map ends (take l.conn-index l.conns)) t);
}
