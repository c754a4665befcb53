use Rattle.std.proofs.Common.{◌≡◌, ◌<◌, ◌-◌, [], length, subst, arith}
use Rattle.spk_plant_broker.specs.Holding.{HasAllEnded, setting_of}
use Rattle.spk_plant_broker.proofs.Hubs.{run_done}
use Rattle.spk_plant_broker.proofs.Ringing.{not_rung, on_err_any}
use Rattle.spk_plant_broker.proofs.run.run_frames.Goals as goal

pub end_of-requires : goal.end_of-requires
end_of-requires g c =
    let start = c.in_ok-hub.ensures.idle c.requires.fresh in
    let all : HasAllEnded (setting_of c.budget.result c.args.start.outlets.items) c.take_all.new.hub = c.in_ok-take_all.ensures.idle _ [] start c.requires.rings in
    let held = all.idle.rests.holds in
    let edges : c.take_all.new.hub.edges ≡ length c.args.start.outlets.items - 1 = held.edges in
    let sized : length c.take_all.new.hub.desk.clients.items ≡ length c.args.start.outlets.items = held.clients in
    let rings : length c.args.start.outlets.items ≡ c.args.ingress.now.senders = c.requires.rings in
    let some : 0 < c.args.ingress.now.senders = c.requires.some in
    omega (arith, edges, sized, rings, some)

pub returns-clause-done : goal.returns-clause-done
returns-clause-done g c =
    let start = c.in_ok-hub.ensures.idle c.requires.fresh in
    let all : HasAllEnded (setting_of c.budget.result c.args.start.outlets.items) c.take_all.new.hub = c.in_ok-take_all.ensures.idle _ [] start c.requires.rings in
    run_done c.args.ingress.now c.args.start c.take_all.new.pass c.take_all.new.hub c.in_ok-end.end c.requires
    (subst (λ n. HasAllEnded (setting_of n c.args.start.outlets.items) c.take_all.new.hub) c.budget.ensures.value all)
    c.in_ok-take_all.ensures.pass c.in_ok-take_all.ensures.taken c.in_ok-take_all.ensures.senders c.in_ok-end.ensures.done

pub returns-in_err-hub-clause-broke : goal.returns-in_err-hub-clause-broke
returns-in_err-hub-clause-broke g c = on_err_any c.from_residual.result (0, not_rung c.args.bells.now)
