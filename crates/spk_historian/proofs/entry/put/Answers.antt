use Rattle.std.proofs.Common.{refl, ap}
use Rattle.spk_historian.specs.Event.{event_view}
use Rattle.spk_historian.specs.Told.{entry_with}
use Rattle.spk_historian.proofs.Telling.{adds}
use Rattle.spk_historian.proofs.entry.put.Goals as goal

pub returns-in-Began-clause-stands : goal.returns-in-Began-clause-stands
returns-in-Began-clause-stands c = adds c.put.result c.args.parts.now c.put.new.self _ _ refl (ap (λ event. entry_with c.args.position (event_view event)) c.in-Began.is) c.put.ensures.stands c.put.ensures.named

pub returns-in-Ended-clause-stands : goal.returns-in-Ended-clause-stands
returns-in-Ended-clause-stands c = adds c.put-in-Ended.result c.args.parts.now c.put-in-Ended.new.self _ _ refl (ap (λ event. entry_with c.args.position (event_view event)) c.in-Ended.is) c.put-in-Ended.ensures.stands c.put-in-Ended.ensures.named

pub returns-in-Died-clause-stands : goal.returns-in-Died-clause-stands
returns-in-Died-clause-stands c = adds c.put-in-Died.result c.args.parts.now c.put-in-Died.new.self _ _ refl (ap (λ event. entry_with c.args.position (event_view event)) c.in-Died.is) c.put-in-Died.ensures.stands c.put-in-Died.ensures.named

pub returns-in-Gap-clause-stands : goal.returns-in-Gap-clause-stands
returns-in-Gap-clause-stands c = adds c.put-in-Gap.result c.args.parts.now c.put-in-Gap.new.self _ _ refl (ap (λ event. entry_with c.args.position (event_view event)) c.in-Gap.is) c.put-in-Gap.ensures.stands c.put-in-Gap.ensures.named

pub returns-in-Hole-clause-stands : goal.returns-in-Hole-clause-stands
returns-in-Hole-clause-stands c = adds c.put-in-Hole.result c.args.parts.now c.put-in-Hole.new.self _ _ refl (ap (λ event. entry_with c.args.position (event_view event)) c.in-Hole.is) c.put-in-Hole.ensures.stands c.put-in-Hole.ensures.named
