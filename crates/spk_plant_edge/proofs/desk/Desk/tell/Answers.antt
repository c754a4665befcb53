use Rattle.std.proofs.Common.{◌≡◌, refl}
use Rattle.spk_edge.specs.View.{input_view}
use Rattle.spk_plant_edge.proofs.Standing.{stands-same, tell-passed, tell-taken}
use Rattle.spk_plant_edge.proofs.desk.Desk.tell.Goals as goal

pub returns-in-Err-clause-told : goal.returns-in-Err-clause-told
returns-in-Err-clause-told g c = λ o is h.
    tell-passed o is c.args.self.now (record c.args.self.now { node = c.taken_up.new.node; in_vain = c.in_ok-in_vain-in-Err.in_vain; inputs = c.push.new.self }) c.in_ok-told.told _ c.in-Err.fault c.in_ok-told.ensures c.stepping.ensures.passed h
    c.in-Err.ensures.refused c.in_ok-unless_memory-in-Err.ensures.other c.in-Err.ensures.err c.in_ok-push-in-Err.ensures.items refl refl c.in_ok-in_vain-in-Err.ensures.vain

pub returns-clause-told : goal.returns-clause-told
returns-clause-told g c = λ o is h.
    tell-taken o is c.args.self.now c.put.new.self c.in_ok-told.told (input_view c.args.input) c.taken_up.new.node c.in-Ok.taken c.in_ok-told.ensures c.stepping.ensures.taken h c.in-Ok.ensures.taken
    (λ up. c.in_ok-put.ensures.taken o is c.args.self.now.node (stands-same o is c.args.self.now _ refl refl refl refl refl h) up)
