use Rattle.spk_host_node.specs.Inputs.{events_of}
use Rattle.spk_host_node.proofs.Along.{asked_is, gap_is, order_is, watch_is}
use Rattle.spk_host_node.proofs.laws.any_list.Goals as goal

pub returns-clause-order : goal.returns-clause-order
returns-clause-order c = order_is

pub returns-clause-watch : goal.returns-clause-watch
returns-clause-watch c = watch_is

pub returns-clause-shows : goal.returns-clause-shows
returns-clause-shows c = λ wait width inputs.
    rw (watch_is wait width inputs) (c.shows.ensures.any_list wait (events_of wait width inputs))

pub returns-clause-requests : goal.returns-clause-requests
returns-clause-requests c = asked_is

pub returns-clause-ticks : goal.returns-clause-ticks
returns-clause-ticks c = gap_is
