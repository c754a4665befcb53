use Rattle.std.proofs.Common.{[], sym, ap, ◌∙◌}
use Rattle.spk_server.specs.Data.{Room}
use Rattle.spk_server.specs.Log.{follows}
use Rattle.spk_server.specs.Rooms.{amid}
use Rattle.spk_server.proofs.Rooms.{all_stay_is, tells_is, untold_stays}
use Rattle.spk_server.proofs.Runs.{at_end, stays}
use Rattle.spk_server.proofs.server.Server.tell.Goals as goal

pub returns-in_default-clause-tells : goal.returns-in_default-clause-tells
returns-in_default-clause-tells c before =
    at_end follows _ _ _ (stays follows _)
    (ap {B = Room} (λ cs. record (amid c.args.self.now [] [] before) { clients = cs }) (sym (all_stay_is c.args.self.now.clients c.next_to_tell.new.self c.in_default.ensures.none.1)))

pub returns-in_default-sort-clause-tells : goal.returns-in_default-sort-clause-tells
returns-in_default-sort-clause-tells c before =
    at_end follows _ _ _ (stays follows _)
    (ap {B = Room} (λ cs. record (amid c.args.self.now [] [] before) { clients = cs }) (sym (untold_stays _ c.args.self.now.clients c.next_to_tell.new.self c.in-Some.ensures.some (sym c.in-Some.ensures.sort ∙ c.in_default-sort.is))))

pub returns-clause-tells : goal.returns-clause-tells
returns-clause-tells c before =
    tells_is c.args.self.now c.next_to_tell.new.self _ c.in-Some-sort.sort c.come_refused.new.self before c.in-Some.ensures.some (sym c.in-Some-sort.is ∙ c.in-Some.ensures.sort) (c.in_ok-come_refused.ensures.tells before)
