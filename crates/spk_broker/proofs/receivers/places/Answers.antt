use Rattle.spk_broker.proofs.Visits.{all-found, met-found, met-gone, met-start}
use Rattle.spk_broker.proofs.receivers.places.Goals as goal
use Rattle.spk_broker.proofs.receivers.places.Goals.{in-Some+in_ok-push, in_default}

pub loop-entry-init : goal.loop-entry-init
loop-entry-init c = rw c.new-places.ensures.items (met-start c.args.found.now c.args.sessions.now)

pub loop-entry-preserved : goal.loop-entry-preserved
loop-entry-preserved c =
    elim c.match-place_from.branch [
      | in-Some+in_ok-push w ↦
          rw (w.places-is, w.from-is, w.in_ok-push.ensures.items)
          (met-found c.args.found.now c.loop-entry.entry-index _ c.loop-entry.places.items c.loop-entry.from w.in-Some.place c.args.sessions.now c.loop-entry.invariant c.loop-entry-test.true w.in-Some.ensures.low w.in-Some.ensures.behind
          w.in-Some.ensures.there)
      | in_default w ↦
          rw (w.places-is, w.from-is)
          (met-gone c.args.found.now c.loop-entry.entry-index _ c.loop-entry.places.items c.loop-entry.from c.args.sessions.now c.loop-entry.invariant c.loop-entry-test.true (c.place_from.ensures.none w.in_default.is))
    ]

pub returns-clause-others : goal.returns-clause-others
returns-clause-others c =
    all-found c.args.found.now c.loop-entry.entry-index c.loop-entry.places.items c.args.sessions.now c.loop-entry.invariant.met c.loop-entry-test.false
