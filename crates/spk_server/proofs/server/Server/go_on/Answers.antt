use Rattle.std.proofs.Common.{◌≡◌, ◌<◌, refl, sym, subst, [], arith, length}
use Rattle.spk_clients.specs.Data.{IsSettled}
use Rattle.spk_server.specs.Log.{LooksAt}
use Rattle.spk_server.specs.Rooms.{room_of}
use Rattle.spk_server.proofs.Looking.{LookedFor, looked_all, looks_on}
use Rattle.spk_server.proofs.server.Server.go_on.Goals as goal

pub loop-init : goal.loop-init
loop-init c = record { goes = λ settled. ([], refl, refl); all = c.held_count-end.ensures; within = omega arith; settled = λ settled. settled }

pub loop-preserved : goal.loop-preserved
loop-preserved c =
    let low : c.loop.counter < length c.at.new.self.held.items = omega (arith, c.loop.invariant.all, c.loop-test.true) in
    record {
      goes = λ settled. looks_on c.loop.counter _ _ _ low (c.loop.invariant.goes settled) (c.in_ok-go_on_with_next.ensures.goes (c.loop.invariant.settled settled));
      all = c.loop.invariant.all;
      within = omega (arith, c.loop-test.true);
      settled = λ settled. c.in_ok-go_on_with_next.ensures.settled (c.loop.invariant.settled settled);
    }

pub returns-clause-done : goal.returns-clause-done
returns-clause-done c settled =
    let before = subst IsSettled (sym c.at.ensures.clients) settled in
    let count : c.loop.counter ≡ length c.at.new.self.held.items = omega (arith, c.loop.invariant.all, c.loop.invariant.within, c.loop-test.false) in
    subst (λ r. LooksAt r.held r (room_of c.loop.self)) c.at.ensures.timed
    (looked_all _ _ (subst (λ n. LookedFor n (room_of c.at.new.self) (room_of c.loop.self)) count (c.loop.invariant.goes before)))

pub returns-clause-settled : goal.returns-clause-settled
returns-clause-settled c settled = c.loop.invariant.settled (subst IsSettled (sym c.at.ensures.clients) settled)
