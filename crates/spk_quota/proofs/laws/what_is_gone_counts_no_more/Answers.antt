use Rattle.spk_quota.specs.Step.{is_filter, is_retained_on, is_session, is_will_of}
use Rattle.spk_quota.proofs.Lists.{none-left}
use Rattle.spk_quota.proofs.laws.what_is_gone_counts_no_more.Goals as goal

pub returns-clause-session : goal.returns-clause-session
returns-clause-session c = λ d user client. none-left (is_session user client) d.sessions

pub returns-clause-filters : goal.returns-clause-filters
returns-clause-filters c = λ d user client. none-left (is_filter user client) d.filters

pub returns-clause-retained : goal.returns-clause-retained
returns-clause-retained c = λ d topic. none-left (is_retained_on topic) d.messages

pub returns-clause-will : goal.returns-clause-will
returns-clause-will c = λ d conn. none-left (is_will_of conn) d.messages
