use Rattle.std.proofs.Common.{◌∙◌, map, sym, true, false, string_bytes}
use Rattle.spk_packets.specs.Message.{UnsubAck}
use Rattle.spk_broker_rules.specs.Plan.{Take}
use Rattle.spk_broker_rules.specs.Step.{act}
use Rattle.spk_broker.specs.declared.packet_end.Ending.TheVariants.{One}
use Rattle.spk_broker.proofs.Packeted.{leads-one}
use Rattle.spk_broker.proofs.Ruled.{unsubscribe-leads}
use Rattle.spk_broker.proofs.Sendables.{unsuback-writable}
use Rattle.spk_broker.proofs.Standing.{say-stands}
use Rattle.spk_broker.proofs.state.State.unsubscribe.Goals as goal

pub say-requires : goal.say-requires
say-requires c = unsuback-writable c.args.id _ c.requires.writable

pub returns-then-has_bad_filter-clause-done : goal.returns-then-has_bad_filter-clause-done
returns-then-has_bad_filter-clause-done c t s =
    unsubscribe-leads c.shut_at.new.self c.shut_at.new.draft c.in_ok-ending.ending c.args.conn c.args.id (map (λ name. string_bytes name) c.args.names.now) t true
    (sym c.has_bad_filter.ensures ∙ c.if-has_bad_filter.true) (c.in_ok-ending.ensures.done t s)

pub returns-clause-done : goal.returns-clause-done
returns-clause-done c t s =
    let names = map (λ name. string_bytes name) c.args.names.now in
    unsubscribe-leads c.take.new.self c.say.new.self (One c.args.place) c.args.conn c.args.id names t false
    (sym c.has_bad_filter.ensures ∙ c.if-has_bad_filter.false)
    (leads-one c.take.new.self c.say.new.self _ c.args.place
    (say-stands c.take.new.self c.args.draft.now c.say.new.self (act (Take c.args.conn names) t) (record { conn = c.args.conn; packet = UnsubAck c.args.id }) c.in_ok-say.ensures
    (c.in_ok-take.ensures.done c.args.draft.now t s)))
