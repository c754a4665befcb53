use Rattle.std.proofs.Common.{ℕ, ◌≤◌, ◌+◌, length, arith}
use Rattle.std.specs.List.{filter}
use Rattle.spk_broker_rules.specs.Data.{Broker}
use Rattle.spk_broker_rules.specs.Lawful.{IsLawful}
use Rattle.spk_broker_rules.specs.Step.{is_newcomer, sits}
use Rattle.spk_broker_limits.proofs.Alone.{adds, forgets}
use Rattle.spk_broker_limits.proofs.Fates.{accepted, its_will, once, stands, discarded, ended, nobody_lost, now_lost}
use Rattle.spk_broker_limits.proofs.laws.wills.Goals as goal

pub returns-clause-accepted : goal.returns-clause-accepted
returns-clause-accepted c = λ limit es h conn moment client clean alive will l n w.
    accepted limit (record { asked = c.any_list.ensures.asked limit; lawful = c.any_list.ensures.lawful limit; ended = c.knowing.ensures.ended }) c.joining.ensures.accepted (c.any_list.ensures.known limit) es h conn moment client clean alive will l n w

pub returns-clause-same : goal.returns-clause-same
returns-clause-same c = λ limit es e h conn l j k. (its_will limit (record { asked = c.any_list.ensures.asked limit; lawful = c.any_list.ensures.lawful limit; ended = c.knowing.ensures.ended }) es e h conn l k).0 j

pub returns-clause-unjoined : goal.returns-clause-unjoined
returns-clause-unjoined c = λ limit es e conn j. nobody_lost limit (record { lawful = c.any_list.ensures.lawful limit; stays = c.staying.ensures.joined; closed = c.knowing.ensures.closed; ended = c.knowing.ensures.ended; gone = c.knowing.ensures.gone; given = c.knowing.ensures.given }) es e conn j

one_session : (b : Broker) (conn : ℕ) → IsLawful b → length (filter (sits conn) b.sessions) ≤ 1
one_session b conn l = let most : length (filter (is_newcomer conn) b.newcomers) + length (filter (sits conn) b.sessions) ≤ 1 = l.apart conn in omega arith

pub returns-clause-adds : goal.returns-clause-adds
returns-clause-adds c = λ b conn e l j f. adds c.routing.ensures.done b conn e (one_session b conn l) j f

pub returns-clause-forgotten : goal.returns-clause-forgotten
returns-clause-forgotten c = λ b conn moment l j. forgets b conn moment (one_session b conn l) j

pub returns-clause-once : goal.returns-clause-once
returns-clause-once c = λ limit es conn. once limit (record { lawful = c.any_list.ensures.lawful limit; stays = c.staying.ensures.joined; closed = c.knowing.ensures.closed; ended = c.knowing.ensures.ended; gone = c.knowing.ensures.gone; given = c.knowing.ensures.given }) es conn

pub returns-clause-stands : goal.returns-clause-stands
returns-clause-stands c = λ limit es conn j. stands limit (record { lawful = c.any_list.ensures.lawful limit; stays = c.staying.ensures.joined; closed = c.knowing.ensures.closed; ended = c.knowing.ensures.ended; gone = c.knowing.ensures.gone; given = c.knowing.ensures.given }) es conn j

pub returns-clause-discarded : goal.returns-clause-discarded
returns-clause-discarded c = λ limit es later conn moment j. discarded limit (record { lawful = c.any_list.ensures.lawful limit; stays = c.staying.ensures.joined; closed = c.knowing.ensures.closed; ended = c.knowing.ensures.ended; gone = c.knowing.ensures.gone; given = c.knowing.ensures.given }) es conn moment later j

pub returns-clause-ended : goal.returns-clause-ended
returns-clause-ended c = λ limit es later e conn will j w n d.
    (now_lost limit (record { lawful = c.any_list.ensures.lawful limit; stays = c.staying.ensures.joined; closed = c.knowing.ensures.closed; ended = c.knowing.ensures.ended; gone = c.knowing.ensures.gone; given = c.knowing.ensures.given }) es e conn will w n d, ended limit (record { lawful = c.any_list.ensures.lawful limit; stays = c.staying.ensures.joined; closed = c.knowing.ensures.closed; ended = c.knowing.ensures.ended; gone = c.knowing.ensures.gone; given = c.knowing.ensures.given }) es e conn will later j w n d)
