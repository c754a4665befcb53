use Rattle.std.proofs.Common.{refl, ap}
use Rattle.std.proofs.lemmas.Result.{IfOk-weaker}
use Rattle.spk_broker_rules.specs.Plan as event
use Rattle.spk_plant_broker.specs.Step.{called_on, conn_at}
use Rattle.spk_plant_broker.proofs.Hubs.{cut_taken}
use Rattle.spk_plant_broker.proofs.Rings.{cuts_fit, on_ok_any, rings_noted, rings_same}
use Rattle.spk_plant_broker.proofs.hub.Hub.cut.Goals as goal

pub returns-clause-taken : goal.returns-clause-taken
returns-clause-taken c =
    IfOk-weaker c.cut.result _ _
    (λ out g. cut_taken c.args.self.now c.note.new.self _ c.args.sender c.in_ok-now.now out
    (λ limit now r. called_on limit r (λ conn. event.Closed conn now) (conn_at limit r c.args.sender)) c.in_ok-now.ensures (λ limit edges taken r. refl) g
    c.note_cut.ensures.fits c.cut.ensures.sized c.note_cut.ensures.sized refl refl refl refl refl refl)
    c.cut.ensures.done

pub note_cut-requires-clause-few : goal.note_cut-requires-clause-few
note_cut-requires-clause-few c =
    cuts_fit _ c.in_ok-now.now c.args.sender c.args.self.now c.note.new.self c.in_ok-now.ensures c.requires.cuts

pub returns-clause-rings : goal.returns-clause-rings
returns-clause-rings c =
    on_ok_any c.cut.result
    (rings_same c.note.new.self _ (ap (λ v. v.items) c.cut.ensures.openers) c.note_cut.ensures.sized (rings_noted _ c.in_ok-now.now c.args.self.now c.note.new.self c.in_ok-now.ensures c.requires.rings))
