use Rattle.std.proofs.Common.{◌≡◌, subst, [], ◌++◌, arith}
use Rattle.std.specs.Vec.Iter.{into_iter_items}
use Rattle.spk_server.specs.Log.{Reaches, follows}
use Rattle.spk_server.specs.Step.{close_of, closes_of}
use Rattle.spk_server.specs.Rooms.{amid}
use Rattle.spk_server.proofs.Rooms.{nothing_left, shut_is}
use Rattle.spk_server.proofs.Runs.{and_then, stays}
use Rattle.spk_server.proofs.server.Server.end_all.Goals as goal

pub loop-conn-init : goal.loop-conn-init
loop-conn-init c = record {
  hands = λ more slow. subst (λ cs. Reaches follows (amid c.args.self.now [] (closes_of c.args.own c.args.why cs ++ more) slow) (amid c.args.self.now [] (closes_of c.args.own c.args.why (into_iter_items c.into_iter-conn-iterator.result) ++ more) slow)) c.into_iter-conn-iterator.ensures.into_iter_gives.0 (stays follows _);
  noted = λ noted. noted;
}

pub loop-conn-preserved : goal.loop-conn-preserved
loop-conn-preserved c = record {
  hands = λ more slow.
      and_then follows _ _ _
      (subst (λ cs. Reaches follows (amid c.args.self.now [] (closes_of c.args.own c.args.why c.args.closes.items ++ more) slow) (amid c.loop-conn.self [] (closes_of c.args.own c.args.why cs ++ more) slow)) c.in-Some.ensures.steps.0 (c.loop-conn.invariant.hands more slow))
      (shut_is c.loop-conn.self c.close.new.self (close_of c.args.own c.args.why c.in-Some.conn) _ slow c.in_ok-close.ensures.ended);
  noted = λ noted. c.in_ok-close.ensures.noted (c.loop-conn.invariant.noted noted);
}

pub returns-clause-hands : goal.returns-clause-hands
returns-clause-hands c more slow =
    let done : into_iter_items c.loop-conn.conn-iterator ≡ [] = nothing_left (into_iter_items c.loop-conn.conn-iterator) (omega (arith, c.in-None.ensures.steps.0, c.loop-conn.conn-iterator.rest.ok.0)) in
    subst (λ cs. Reaches follows (amid c.args.self.now [] (closes_of c.args.own c.args.why c.args.closes.items ++ more) slow) (amid c.loop-conn.self [] (closes_of c.args.own c.args.why cs ++ more) slow)) done (c.loop-conn.invariant.hands more slow)

pub returns-clause-noted : goal.returns-clause-noted
returns-clause-noted c = c.loop-conn.invariant.noted
