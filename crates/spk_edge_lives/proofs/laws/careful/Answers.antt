use Rattle.spk_edge_app.specs.Run.{of_node}
use Rattle.spk_edge_lives.proofs.Careful.{Laws, Stands, may_hold_wanted, stands}
use Rattle.spk_edge_lives.proofs.Disk.{holds_until}
use Rattle.spk_edge_lives.proofs.Said.{said_life}
use Rattle.spk_edge_lives.proofs.laws.careful.Goals as goal

pub returns-clause-careful : goal.returns-clause-careful
returns-clause-careful c =
    let laws : Laws = record {
      node = λ s login kept spread ds a run. c.calls.ensures.data s (of_node s.config ds) a.node (c.any_list.ensures.node s login kept spread ds a run);
      standing = c.any_list-2.ensures.standing;
      moments = c.published.ensures.stamps;
      earlier = c.records.ensures.earlier;
    } in
    λ s login kept spread ds a begins run. (stands laws s login kept spread begins ds a run).lived.careful

pub returns-clause-said : goal.returns-clause-said
returns-clause-said c = said_life

pub returns-clause-kept : goal.returns-clause-kept
returns-clause-kept c =
    let laws : Laws = record {
      node = λ s login kept spread ds a run. c.calls.ensures.data s (of_node s.config ds) a.node (c.any_list.ensures.node s login kept spread ds a run);
      standing = c.any_list-2.ensures.standing;
      moments = c.published.ensures.stamps;
      earlier = c.records.ensures.earlier;
    } in
    λ s login kept spread ds a begins run. (stands laws s login kept spread begins ds a run).lived.holds

pub returns-clause-wanted : goal.returns-clause-wanted
returns-clause-wanted c =
    let laws : Laws = record {
      node = λ s login kept spread ds a run. c.calls.ensures.data s (of_node s.config ds) a.node (c.any_list.ensures.node s login kept spread ds a run);
      standing = c.any_list-2.ensures.standing;
      moments = c.published.ensures.stamps;
      earlier = c.records.ensures.earlier;
    } in
    λ s login kept wanted spread ds a begins run is. may_hold_wanted s kept ds a wanted (stands laws s login kept spread begins ds a run) is

pub returns-clause-until : goal.returns-clause-until
returns-clause-until c = holds_until
