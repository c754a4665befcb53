use Rattle.spk_edge_app.specs.Run.{of_connection}
use Rattle.spk_edge_app.proofs.Connections.{connection_of}
use Rattle.spk_edge_app.proofs.Nodes.{node_after}
use Rattle.spk_edge_app.proofs.Records.{always_covered, opened_waits, run_waits}
use Rattle.spk_edge_app.proofs.laws.any_list.Goals as goal

pub returns-clause-read : goal.returns-clause-read
returns-clause-read c = λ n login kept spread deeds a run.
    c.any_list.ensures.read n.config.keep spread (of_connection deeds) a.connection (connection_of n login kept spread deeds a run)

pub returns-clause-written : goal.returns-clause-written
returns-clause-written c = λ n login kept spread deeds a run.
    c.any_list.ensures.written n.config.keep spread (of_connection deeds) a.connection (connection_of n login kept spread deeds a run)

pub returns-clause-connection : goal.returns-clause-connection
returns-clause-connection c = connection_of

pub returns-clause-node : goal.returns-clause-node
returns-clause-node c = node_after

pub returns-clause-record_kept : goal.returns-clause-record_kept
returns-clause-record_kept c = always_covered

pub returns-clause-written_behind : goal.returns-clause-written_behind
returns-clause-written_behind c = λ n login kept spread deeds a b first now others run step. always_covered n login kept spread deeds a run step.0

pub returns-clause-own_record : goal.returns-clause-own_record
returns-clause-own_record c = λ n login kept spread now out bytes sent before since a b m d first moment others run opens more none_saved writes.
    run_waits since b m more none_saved (opened_waits now out bytes sent a b (always_covered n login kept spread before a run) opens) writes.0
