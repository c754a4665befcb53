use Rattle.std.proofs.Common.{◌≡◌, ◌∙◌, ◌<◌, [], ◌∷◌, ◌++◌, sym, ap, length, arith}
use Rattle.spk_ingress.specs.declared.rule.Message.{Message}
use Rattle.spk_plant_broker.specs.Log.{got_of, room_of, taken_of}
use Rattle.spk_plant_broker.specs.Step.{have_ended, is_dropped}
use Rattle.spk_plant_broker.proofs.Ringing.{all_more, on_err_any, rung_frame}
use Rattle.spk_plant_broker.proofs.Rings.{counts_cuts}
use Rattle.spk_plant_broker.proofs.run.take_all.Goals as goal

pub returns-then-have_ended-clause-idle : goal.returns-then-have_ended-clause-idle
returns-then-have_ended-clause-idle g c s log f count =
    let h = c.loop.invariant.idle s log f in
    let t = c.in_ok-take.ensures.idle s h.0 h.1 in
    let held = t.1.rests.holds in
    let sized : length c.take-in-loop.new.self.lines.items ≡ s.count = held.sized in
    let all : c.len.result ≡ s.count = omega (arith, sized, c.len.ensures, c.take-in-loop.new.self.lines.ok.0) in
    record {
      log = t.0;
      idle = t.1;
      ended = ap (λ n. have_ended n (taken_of t.0)) (sym all) ∙ (sym (c.have_ended.ensures s.outlets (is_dropped (room_of s.limit s.edges t.0).over (room_of s.limit s.edges t.0).closed) (λ k. got_of k t.0) (taken_of t.0) held.lines) ∙ c.if-have_ended.true);
    }

pub take-requires-in-loop-clause-cuts : goal.take-requires-in-loop-clause-cuts
take-requires-in-loop-clause-cuts g c =
    let known = c.requires.known in
    let now = c.loop.invariant.idle known.0 known.1 known.2 in
    counts_cuts known.0 now.0 c.loop.hub _ now.1

pub returns-in-Err-clause-closed : goal.returns-in-Err-clause-closed
returns-in-Err-clause-closed g c = λ _. (c.in-Err.ensures.closed ∙ c.loop.invariant.taken, c.loop.invariant.rung)

pub returns-in-Err-clause-broke : goal.returns-in-Err-clause-broke
returns-in-Err-clause-broke g c = (length c.loop.hub.taken.items, c.loop.invariant.rung)

pub returns-in_err-take-clause-broke : goal.returns-in_err-take-clause-broke
returns-in_err-take-clause-broke g c = on_err_any c.from_residual.result (length c.loop.hub.taken.items, c.loop.invariant.rung)

pub returns-then-have_ended-clause-rung : goal.returns-then-have_ended-clause-rung
returns-then-have_ended-clause-rung g c =
    rung_frame c.loop.hub.taken.items c.take-in-loop.new.self.taken.items _ c.args.bells.now c.loop.bells c.ring_all.new.self
    c.in_ok-take.ensures.taken c.loop.invariant.rung c.ring_all.ensures

pub loop-preserved : goal.loop-preserved
loop-preserved g c =
    let more = c.in_ok-take.ensures.taken in
    let m : Message = record { sender = c.in-Ok.taken.sender; frame = c.in-Ok.taken.frame } in
    record {
      pass = c.in-Ok.ensures.pass;
      taken = c.in-Ok.ensures.ok ∙ (ap (λ l. l ++ m ∷ []) c.loop.invariant.taken ∙ sym more);
      senders = all_more (λ (m : Message). m.sender < c.args.ingress.now.senders) c.loop.hub.taken.items c.take-in-loop.new.self.taken.items _ more
          c.in-Ok.ensures.sender c.loop.invariant.senders;
      rings = c.in_ok-take.ensures.rings;
      rung = rung_frame c.loop.hub.taken.items c.take-in-loop.new.self.taken.items _ c.args.bells.now c.loop.bells c.ring_all.new.self
          more c.loop.invariant.rung c.ring_all.ensures;
      idle = λ s log f.
          let h = c.loop.invariant.idle s log f in
          c.in_ok-take.ensures.idle s h.0 h.1;
    }
