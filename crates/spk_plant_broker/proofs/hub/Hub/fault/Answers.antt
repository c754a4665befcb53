use Rattle.std.proofs.Common.{refl, ap}
use Rattle.std.proofs.lemmas.Result.{IfOk-weaker}
use Rattle.spk_ingress.specs.declared.frame.Frame.TheVariants as frame
use Rattle.spk_broker_rules.specs.Plan as event
use Rattle.spk_plant_broker.specs.Data.{Breaks}
use Rattle.spk_plant_broker.specs.Step.{called_on, conn_at}
use Rattle.spk_plant_broker.proofs.Hubs.{frame_taken}
use Rattle.spk_plant_broker.proofs.Rings.{on_ok_any, rings_noted, rings_same}
use Rattle.spk_plant_broker.proofs.hub.Hub.fault.Goals as goal

pub returns-clause-taken : goal.returns-clause-taken
returns-clause-taken c =
    IfOk-weaker c.fault.result _ _
    (λ out g. frame_taken c.args.self.now c.note.new.self c.fault.new.self (record { sender = c.args.sender; frame = frame.Fault c.args.fault }) (Breaks c.args.fault) c.in_ok-now.now out
    (λ limit now r. called_on limit r (λ conn. event.Fault conn c.args.fault now) (conn_at limit r c.args.sender)) refl refl refl c.in_ok-now.ensures (λ limit edges taken r. refl) g c.fault.ensures.sized)
    c.fault.ensures.done

pub returns-clause-rings : goal.returns-clause-rings
returns-clause-rings c =
    on_ok_any c.fault.result
    (rings_same c.note.new.self _ (ap (λ v. v.items) c.fault.ensures.openers) refl (rings_noted _ c.in_ok-now.now c.args.self.now c.note.new.self c.in_ok-now.ensures c.requires.rings))
