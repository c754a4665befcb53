use Rattle.std.proofs.Common.{ℕ, ◌≤◌, ◌+◌, length, arith}
use Rattle.std.specs.List.{filter}
use Rattle.spk_broker_rules.specs.Data.{Broker}
use Rattle.spk_broker_rules.specs.Lawful.{IsLawful}
use Rattle.spk_broker_rules.specs.Step.{after, is_newcomer, sits}
use Rattle.spk_broker_limits.proofs.Giving.{beyond, bounded, nothing, within}
use Rattle.spk_broker_limits.proofs.laws.giving.Goals as goal

one_session : (b : Broker) (conn : ℕ) → IsLawful b → length (filter (sits conn) b.sessions) ≤ 1
one_session b conn l = let most : length (filter (is_newcomer conn) b.newcomers) + length (filter (sits conn) b.sessions) ≤ 1 = l.apart conn in omega arith

pub returns-clause-bounded : goal.returns-clause-bounded
returns-clause-bounded c = λ limit es conn id moment entries. bounded c.routing.ensures.done (after limit es) conn id moment entries (one_session (after limit es) conn (c.any_list.ensures.lawful limit es))

pub returns-clause-within : goal.returns-clause-within
returns-clause-within c = within

pub returns-clause-beyond : goal.returns-clause-beyond
returns-clause-beyond c = beyond

pub returns-clause-nothing : goal.returns-clause-nothing
returns-clause-nothing c = λ b conn id moment entries l. nothing b conn id moment entries (one_session b conn l)
