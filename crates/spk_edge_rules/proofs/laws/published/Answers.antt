use Rattle.spk_edge_rules.specs.Run.{published, run_of, setting_of}
use Rattle.std.proofs.Common.{ap}
use Rattle.spk_edge_rules.specs.Rules.{is_born}
use Rattle.spk_edge_rules.proofs.Alive.{devices-born, down-dead, up-born}
use Rattle.spk_edge_rules.proofs.Published.{good-at, grows, moment-of, opened-at, sent-under, session-once}
use Rattle.spk_edge_rules.proofs.laws.published.Goals as goal

pub returns-clause-kinds : goal.returns-clause-kinds
returns-clause-kinds c = λ s is p m there. (good-at s is p m there).numbered

pub returns-clause-stamps : goal.returns-clause-stamps
returns-clause-stamps c = λ s is p m there. (good-at s is p m there).stamp

pub returns-clause-numbers : goal.returns-clause-numbers
returns-clause-numbers c = λ s is p. c.records.ensures.byte (setting_of s (published (run_of s is))) p

pub returns-clause-names : goal.returns-clause-names
returns-clause-names c = λ s is p m names there. (good-at s is p m there).named names

pub returns-clause-one_session : goal.returns-clause-one_session
returns-clause-one_session c = session-once

pub returns-clause-grows : goal.returns-clause-grows
returns-clause-grows c = grows

pub returns-clause-moments : goal.returns-clause-moments
returns-clause-moments c = moment-of

pub returns-clause-opened_at : goal.returns-clause-opened_at
returns-clause-opened_at c = opened-at

pub returns-clause-sent : goal.returns-clause-sent
returns-clause-sent c = sent-under

pub returns-clause-devices : goal.returns-clause-devices
returns-clause-devices c = devices-born

pub returns-clause-up : goal.returns-clause-up
returns-clause-up c = λ s is n d is_up there up. up-born s is n d (ap is_born is_up) there up

pub returns-clause-down : goal.returns-clause-down
returns-clause-down c = λ s is n d numbered is_up there down alive. down-dead s is n d numbered (ap is_born is_up) there down alive
