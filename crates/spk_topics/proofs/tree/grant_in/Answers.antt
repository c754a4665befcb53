use Rattle.std.proofs.Common.{◌∙◌, Ok, Err, Result, ap, sym}
use Rattle.std.specs.Prelude.{OnErr, is_none}
use Rattle.std.specs.FinMap as map
use Rattle.spk_topics.specs.Grants.{Grants}
use Rattle.spk_topics.specs.Nodes.{child_of, rows_of, links_of, up_of}
use Rattle.spk_topics.specs.Rows.{grants_of}
use Rattle.spk_topics.proofs.NodeLemmas.{get-absent}
use Rattle.spk_topics.proofs.WholeChanges.{seat_place, seat_text, whole_but_same, whole_filled}
use Rattle.spk_topics.proofs.tree.grant_in.Goals as goal

either_way : {A E : Type 0} (r : Result A E) (P : Type 0) → P → OnErr r P
either_way (Ok a) P p = tt
either_way (Err e) P p = p

pub returns-in_err-place-clause-fails_new : goal.returns-in_err-place-clause-fails_new
returns-in_err-place-clause-fails_new c = either_way c.from_residual.result _ (get-absent (rows_of c.args.nodes.now) c.args.filter.now c.args.key c.in_err-place.ensures.fails_new)

pub set_at-requires : goal.set_at-requires
set_at-requires c =
    let n = c.place_for.new.nodes in
    let w = c.in_ok-place.ensures.whole in
    seat_place (rows_of n) (child_of n) (up_of n) c.args.filter.now c.in_ok-place.place w.sound.tree w.sound.empty c.in_ok-place.ensures.seat

pub returns-in-Ok-clause-whole : goal.returns-in-Ok-clause-whole
returns-in-Ok-clause-whole c =
    let n = c.place_for.new.nodes in
    let s = c.set_at.new.self in
    whole_filled (rows_of n) (rows_of s) (links_of n) (links_of s) n.unused s.unused c.in_ok-place.place c.in_ok-place.ensures.seat.edge
    c.set_at.ensures.links c.set_at.ensures.unused c.in_ok-place.ensures.seat.hung c.set_at.ensures.rows c.in-Ok.ensures.filled c.in_ok-place.ensures.whole

pub returns-in-Ok-clause-is_new : goal.returns-in-Ok-clause-is_new
returns-in-Ok-clause-is_new c =
    let n = c.place_for.new.nodes in
    c.in-Ok.ensures.is_new
    ∙ ap (λ f. is_none (map.get (grants_of (rows_of n)) (f, c.args.key))) (seat_text (rows_of n) (up_of n) c.args.filter.now c.in_ok-place.place c.in_ok-place.ensures.seat)
    ∙ ap (λ (g : Grants). is_none (map.get g (c.args.filter.now, c.args.key))) c.in_ok-place.ensures.same

pub returns-in-Ok-clause-ok : goal.returns-in-Ok-clause-ok
returns-in-Ok-clause-ok c =
    let n = c.place_for.new.nodes in
    c.in-Ok.ensures.ok
    ∙ ap (λ f. map.insert (grants_of (rows_of n)) (f, c.args.key) c.args.qos) (seat_text (rows_of n) (up_of n) c.args.filter.now c.in_ok-place.place c.in_ok-place.ensures.seat)
    ∙ ap (λ (g : Grants). map.insert g (c.args.filter.now, c.args.key) c.args.qos) c.in_ok-place.ensures.same

pub prune-requires : goal.prune-requires
prune-requires c =
    let n = c.place_for.new.nodes in
    let s = c.set_at.new.self in
    whole_but_same (rows_of n) (rows_of s) (links_of n) (links_of s) n.unused s.unused c.in_ok-place.place
    c.in-Err.ensures.err c.set_at.ensures.links c.set_at.ensures.unused c.in_ok-place.ensures.whole

pub returns-in-Err-clause-fails_new : goal.returns-in-Err-clause-fails_new
returns-in-Err-clause-fails_new c =
    let n = c.place_for.new.nodes in
    ap (λ (g : Grants). map.get g (c.args.filter.now, c.args.key)) (sym c.in_ok-place.ensures.same)
    ∙ ap (λ f. map.get (grants_of (rows_of n)) (f, c.args.key)) (sym (seat_text (rows_of n) (up_of n) c.args.filter.now c.in_ok-place.place c.in_ok-place.ensures.seat))
    ∙ c.in-Err.ensures.fails_new

pub returns-in-Err-clause-err : goal.returns-in-Err-clause-err
returns-in-Err-clause-err c = c.prune.ensures.keeps.same ∙ ap grants_of c.in-Err.ensures.err ∙ c.in_ok-place.ensures.same
