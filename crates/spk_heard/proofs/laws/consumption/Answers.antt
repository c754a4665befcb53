use Rattle.std.proofs.Common.{ap}
use Rattle.spk_sequence.specs.Calls as call
use Rattle.spk_sequence.specs.Data.{Standing}
use Rattle.spk_sequence.specs.HostRecord.{consumed_of, record_of, standing_of}
use Rattle.spk_sequence.specs.Step as sequence
use Rattle.spk_host_node.specs.Inputs.{order_after}
use Rattle.spk_tie.specs.Tie.{host_setting}
use Rattle.spk_heard.proofs.Runs.{consumed_is, session_is}
use Rattle.spk_heard.proofs.Steps.{match_is, standing_is, step_is}
use Rattle.spk_heard.proofs.laws.consumption.Goals as goal

pub returns-clause-standing : goal.returns-clause-standing
returns-clause-standing c = standing_is

pub returns-clause-steps : goal.returns-clause-steps
returns-clause-steps c = λ s published wait width is js p now m read are at.
    step_is s published wait width p now m read (order_after wait width js).standing (standing_of (host_setting s published wait width) is)
    (standing_is s published wait width is js are) at

pub returns-clause-deaths : goal.returns-clause-deaths
returns-clause-deaths c = λ s published wait width is js session now bd are at.
    match_is s published wait width session now bd (order_after wait width js).standing (standing_of (host_setting s published wait width) is)
    (standing_is s published wait width is js are) at

pub returns-clause-ticks : goal.returns-clause-ticks
returns-clause-ticks c = λ s published wait width is js now are.
    ap (λ (d : Standing). call.Ticked (sequence.is_over d now)) (standing_is s published wait width is js are)

pub returns-clause-consumed : goal.returns-clause-consumed
returns-clause-consumed c = consumed_is (record {
  hand = c.numbers.ensures.hand;
  tick_whole = c.numbers.ensures.tick_whole;
  death_whole = c.numbers.ensures.death_whole;
  tick = c.numbers.ensures.tick;
  death = c.numbers.ensures.death;
  byte = c.records.ensures.byte;
})

pub returns-clause-session : goal.returns-clause-session
returns-clause-session c = session_is (record {
  hand = c.numbers.ensures.hand;
  tick_whole = c.numbers.ensures.tick_whole;
  death_whole = c.numbers.ensures.death_whole;
  tick = c.numbers.ensures.tick;
  death = c.numbers.ensures.death;
  byte = c.records.ensures.byte;
})

pub returns-clause-births : goal.returns-clause-births
returns-clause-births c = λ s published wait width is js lawful are. record {
  positions = consumed_of (record_of (host_setting s published wait width) is);
  are = session_is (record {
    hand = c.numbers.ensures.hand;
    tick_whole = c.numbers.ensures.tick_whole;
    death_whole = c.numbers.ensures.death_whole;
    tick = c.numbers.ensures.tick;
    death = c.numbers.ensures.death;
    byte = c.records.ensures.byte;
  }) s published wait width is js lawful.some_places lawful.few_places are;
  fronts = c.positions.ensures.fronts (host_setting s published wait width) is lawful;
}
