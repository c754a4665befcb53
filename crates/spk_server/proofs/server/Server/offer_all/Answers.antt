use Rattle.std.proofs.Common.{◌≡◌, subst, [], arith}
use Rattle.std.specs.Vec.Iter.{into_iter_items}
use Rattle.spk_server.specs.Log.{Reaches, follows}
use Rattle.spk_server.specs.Rooms.{amid, offers_of, pressed}
use Rattle.spk_server.proofs.Rooms.{nothing_left}
use Rattle.spk_server.proofs.Runs.{and_then, stays}
use Rattle.spk_server.proofs.server.Server.offer_all.Goals as goal

pub loop-send-init : goal.loop-send-init
loop-send-init c = record {
  hands = λ by closes before. subst (λ ss. Reaches follows (amid c.args.self.now (offers_of by ss) closes before) (amid c.args.self.now (offers_of by (into_iter_items c.into_iter-send-iterator.result)) closes before)) c.into_iter-send-iterator.ensures.into_iter_gives.0 (stays follows _);
  noted = λ noted. noted;
}

pub loop-send-preserved : goal.loop-send-preserved
loop-send-preserved c = record {
  hands = λ by closes before.
      and_then follows _ _ _
      (subst (λ ss. Reaches follows (amid c.args.self.now (offers_of by c.args.sends.items) closes before) (amid c.loop-send.self (offers_of by ss) closes (pressed by c.loop-send.slow before))) c.in-Some.ensures.steps.0 (c.loop-send.invariant.hands by closes before))
      (c.in_ok-slow.ensures.hands by _ closes before);
  noted = λ noted. c.in_ok-slow.ensures.noted (c.loop-send.invariant.noted noted);
}

pub returns-clause-hands : goal.returns-clause-hands
returns-clause-hands c by closes before =
    let done : into_iter_items c.loop-send.send-iterator ≡ [] = nothing_left (into_iter_items c.loop-send.send-iterator) (omega (arith, c.in-None.ensures.steps.0, c.loop-send.send-iterator.rest.ok.0)) in
    subst (λ ss. Reaches follows (amid c.args.self.now (offers_of by c.args.sends.items) closes before) (amid c.loop-send.self (offers_of by ss) closes (pressed by c.loop-send.slow before))) done (c.loop-send.invariant.hands by closes before)

pub returns-clause-noted : goal.returns-clause-noted
returns-clause-noted c = c.loop-send.invariant.noted
