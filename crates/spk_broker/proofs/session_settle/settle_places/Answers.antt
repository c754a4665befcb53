use Rattle.std.proofs.Common.{◌+◌, ◌++◌, ◌∷◌, [], ◌||◌, set}
use Rattle.spk_broker.proofs.Touched.{Settling, all-places, front-low, last-low, settled-ended, settled-left, settled-now, settled-stay, settling-front, settling-last, settling-start}
use Rattle.spk_broker.proofs.session_settle.settle_places.Goals as goal

pub bounds-sessions-place : goal.bounds-sessions-place
bounds-sessions-place c = front-low c.args.places.now c.args.last c.loop-place.place-index c.args.sessions.now c.loop-place.sessions c.requires c.loop-place.invariant.long c.loop-place-test.true

pub bounds-sessions-last : goal.bounds-sessions-last
bounds-sessions-last c = last-low c.args.places.now c.args.last c.args.sessions.now c.loop-place.sessions c.requires c.loop-place.invariant.long

pub loop-place-init : goal.loop-place-init
loop-place-init c = settling-start (c.args.places.now ++ c.args.last ∷ []) c.args.sessions.now

pub loop-place-preserved : goal.loop-place-preserved
loop-place-preserved c =
    settling-front c.args.places.now c.args.last c.loop-place.place-index c.args.sessions.now c.loop-place.sessions c.loop-place.ended c.settle_ended-gone.result c.index-sessions-place.result c.settle_ended-gone.new.self
    c.loop-place.invariant c.requires c.loop-place-test.true c.settle_ended-gone.ensures.now c.settle_ended-gone.ensures.left c.settle_ended-gone.ensures.ended

-- all are settled
all-settled : (c : goal.After-settle_ended-other)
    → Settling (c.args.places.now ++ c.args.last ∷ []) (c.loop-place.place-index + 1) c.args.sessions.now (set c.loop-place.sessions c.args.last c.settle_ended-other.new.self) (c.loop-place.ended || c.settle_ended-other.result)
all-settled c =
    settling-last c.args.places.now c.args.last c.loop-place.place-index c.args.sessions.now c.loop-place.sessions c.loop-place.ended c.settle_ended-other.result c.index-sessions-last.result c.settle_ended-other.new.self
    c.loop-place.invariant c.requires c.loop-place-test.false c.loop-place.auto.place-index-end c.settle_ended-other.ensures.now c.settle_ended-other.ensures.left c.settle_ended-other.ensures.ended

pub returns-clause-now : goal.returns-clause-now
returns-clause-now c =
    settled-now (c.args.places.now ++ c.args.last ∷ []) (c.loop-place.place-index + 1) c.args.sessions.now (set c.loop-place.sessions c.args.last c.settle_ended-other.new.self)
    (c.loop-place.ended || c.settle_ended-other.result) (all-settled c)

pub returns-clause-left : goal.returns-clause-left
returns-clause-left c =
    settled-left (c.args.places.now ++ c.args.last ∷ []) (c.loop-place.place-index + 1) c.args.sessions.now (set c.loop-place.sessions c.args.last c.settle_ended-other.new.self)
    (c.loop-place.ended || c.settle_ended-other.result) (all-settled c) c.requires (all-places c.args.places.now c.args.last c.loop-place.place-index c.loop-place-test.false)

pub returns-clause-ended : goal.returns-clause-ended
returns-clause-ended c =
    settled-ended (c.args.places.now ++ c.args.last ∷ []) (c.loop-place.place-index + 1) c.args.sessions.now (set c.loop-place.sessions c.args.last c.settle_ended-other.new.self)
    (c.loop-place.ended || c.settle_ended-other.result) (all-settled c) c.requires (all-places c.args.places.now c.args.last c.loop-place.place-index c.loop-place-test.false)

pub returns-clause-stay : goal.returns-clause-stay
returns-clause-stay c i d lt out =
    settled-stay (c.args.places.now ++ c.args.last ∷ []) (c.loop-place.place-index + 1) c.args.sessions.now (set c.loop-place.sessions c.args.last c.settle_ended-other.new.self)
    (c.loop-place.ended || c.settle_ended-other.result) (all-settled c) c.requires i d lt out

pub returns-clause-long : goal.returns-clause-long
returns-clause-long c = (all-settled c).long
