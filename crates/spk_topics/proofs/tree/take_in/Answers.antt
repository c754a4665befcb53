use Rattle.std.proofs.Common.{◌∙◌, sym, ap}
use Rattle.std.specs.Prelude.{is_some}
use Rattle.std.specs.FinMap as map
use Rattle.spk_topics.specs.Nodes.{child_of, links_of, rows_of, up_of}
use Rattle.spk_topics.specs.Rows.{grants_of}
use Rattle.spk_topics.proofs.NodeLemmas.{get-absent, remove_absent}
use Rattle.spk_topics.proofs.WholeChanges.{seat_place, seat_text, whole_taken}
use Rattle.spk_topics.proofs.tree.take_in.Goals as goal

pub returns-in-None-clause-stood : goal.returns-in-None-clause-stood
returns-in-None-clause-stood c = ap is_some (sym (get-absent (rows_of c.args.nodes.now) c.args.filter.now c.args.key c.in-None.ensures.none))

pub returns-in-None-clause-gone : goal.returns-in-None-clause-gone
returns-in-None-clause-gone c = remove_absent (grants_of (rows_of c.args.nodes.now)) (c.args.filter.now, c.args.key) (get-absent (rows_of c.args.nodes.now) c.args.filter.now c.args.key c.in-None.ensures.none)

pub take_at-stood-requires : goal.take_at-stood-requires
take_at-stood-requires c =
    let n = c.args.nodes.now in
    seat_place (rows_of n) (child_of n) (up_of n) c.args.filter.now c.in-Some.place c.requires.sound.tree c.requires.sound.empty c.in-Some.ensures.seat

pub prune-requires : goal.prune-requires
prune-requires c =
    let n = c.args.nodes.now in
    let t = c.take_at-stood.new.self in
    whole_taken (rows_of n) (rows_of t) (links_of n) (links_of t) n.unused t.unused c.in-Some.place c.in-Some.ensures.seat.edge
    c.take_at-stood.ensures.links c.take_at-stood.ensures.unused c.in-Some.ensures.seat.hung c.take_at-stood.ensures.rows c.requires

pub returns-in-Some-clause-stood : goal.returns-in-Some-clause-stood
returns-in-Some-clause-stood c =
    let n = c.args.nodes.now in
    c.take_at-stood.ensures.stood ∙ ap (λ f. is_some (map.get (grants_of (rows_of n)) (f, c.args.key))) (seat_text (rows_of n) (up_of n) c.args.filter.now c.in-Some.place c.in-Some.ensures.seat)

pub returns-in-Some-clause-gone : goal.returns-in-Some-clause-gone
returns-in-Some-clause-gone c =
    let n = c.args.nodes.now in
    c.prune.ensures.keeps.same ∙ c.take_at-stood.ensures.gone ∙ ap (λ f. map.remove (grants_of (rows_of n)) (f, c.args.key)) (seat_text (rows_of n) (up_of n) c.args.filter.now c.in-Some.place c.in-Some.ensures.seat)
