use Rattle.spk_packets.specs.View.{publish_view, view}
use Rattle.spk_reading.proofs.Told.{one_packet, only_said, its_fault, only_fault, none_said, none_fault, none_only}
use Rattle.spk_reading.proofs.reading.read.Goals as goal

pub returns-in-Ok-clause-only : goal.returns-in-Ok-clause-only
returns-in-Ok-clause-only c =
    only_said c.args.bytes.now c.published.result (publish_view c.in-Ok.packet) (one_packet c.prefix_free.ensures c.args.bytes.now) c.in-Ok.ensures.found c.published.ensures

pub returns-in-Ok-clause-fault : goal.returns-in-Ok-clause-fault
returns-in-Ok-clause-fault c = its_fault c.args.bytes.now c.published.result (publish_view c.in-Ok.packet) c.in-Ok.ensures.found c.published.ensures

pub returns-in-Ok-clause-only_fault : goal.returns-in-Ok-clause-only_fault
returns-in-Ok-clause-only_fault c =
    only_fault c.args.bytes.now c.published.result (publish_view c.in-Ok.packet) (one_packet c.prefix_free.ensures c.args.bytes.now) c.in-Ok.ensures.found c.published.ensures

pub returns-in-Err-clause-only : goal.returns-in-Err-clause-only
returns-in-Err-clause-only c = none_said c.args.bytes.now c.in-Err.fault c.in-Err.ensures.fault

pub returns-in-Err-clause-fault : goal.returns-in-Err-clause-fault
returns-in-Err-clause-fault c = none_fault c.args.bytes.now c.in-Err.fault c.in-Err.ensures.fault

pub returns-in-Err-clause-only_fault : goal.returns-in-Err-clause-only_fault
returns-in-Err-clause-only_fault c = none_only c.args.bytes.now c.in-Err.fault c.in-Err.ensures.fault

pub returns-in-Ok-packet_in-clause-only : goal.returns-in-Ok-packet_in-clause-only
returns-in-Ok-packet_in-clause-only c =
    only_said c.args.bytes.now c.heard_of.result (view c.in-Ok-packet_in.packet) (one_packet c.prefix_free.ensures c.args.bytes.now) c.in-Ok-packet_in.ensures.found c.heard_of.ensures

pub returns-in-Ok-packet_in-clause-fault : goal.returns-in-Ok-packet_in-clause-fault
returns-in-Ok-packet_in-clause-fault c = its_fault c.args.bytes.now c.heard_of.result (view c.in-Ok-packet_in.packet) c.in-Ok-packet_in.ensures.found c.heard_of.ensures

pub returns-in-Ok-packet_in-clause-only_fault : goal.returns-in-Ok-packet_in-clause-only_fault
returns-in-Ok-packet_in-clause-only_fault c =
    only_fault c.args.bytes.now c.heard_of.result (view c.in-Ok-packet_in.packet) (one_packet c.prefix_free.ensures c.args.bytes.now) c.in-Ok-packet_in.ensures.found c.heard_of.ensures

pub returns-in-Err-packet_in-clause-only : goal.returns-in-Err-packet_in-clause-only
returns-in-Err-packet_in-clause-only c = none_said c.args.bytes.now c.in-Err-packet_in.fault c.in-Err-packet_in.ensures.fault

pub returns-in-Err-packet_in-clause-fault : goal.returns-in-Err-packet_in-clause-fault
returns-in-Err-packet_in-clause-fault c = none_fault c.args.bytes.now c.in-Err-packet_in.fault c.in-Err-packet_in.ensures.fault

pub returns-in-Err-packet_in-clause-only_fault : goal.returns-in-Err-packet_in-clause-only_fault
returns-in-Err-packet_in-clause-only_fault c = none_only c.args.bytes.now c.in-Err-packet_in.fault c.in-Err-packet_in.ensures.fault
