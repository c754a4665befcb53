use Rattle.std.proofs.Common.{◌∙◌, [], sym, subst, map}
use Rattle.std.proofs.lemmas.List.{append-nil}
use Rattle.spk_ingress.specs.Passes.{frames_put}
use Rattle.spk_rings.specs.Ring.{popped}
use Rattle.spk_reading.specs.View.{numbered_view}
use Rattle.spk_plant_host.specs.Steps.{IsAlong}
use Rattle.spk_plant_host.proofs.Running.{after_begin, ran_more, same_inlet, same_then}
use Rattle.spk_plant_host.proofs.body.run.Goals as goal

pub loop-init : goal.loop-init
loop-init g c = record {
  pass = c.in-Ok-begin.ensures.pass;
  same = same_inlet c.args.inlet.now;
  ran = record {
    items = [];
    taken = sym (append-nil (popped c.args.inlet.now));
    along = subst (λ l. IsAlong c.args.desk.now.host.session.config (frames_put c.args.desk.now.line.pass) [] l c.begin.new.self.host (frames_put c.begin.new.self.line.pass))
        (sym c.new-given.ensures.items)
        (after_begin c.args.desk.now.host.session.config (frames_put c.args.desk.now.line.pass) (frames_put c.begin.new.self.line.pass)
        c.args.desk.now.host c.begin.new.self.host (map numbered_view c.in-Ok-begin._consumed.items) c.requires.fresh c.in-Ok-begin.ensures.took);
  };
}

pub loop-preserved-in-Ok-take_in : goal.loop-preserved-in-Ok-take_in
loop-preserved-in-Ok-take_in g c = record {
  pass = record {
    puts_into = c.in-Ok-take_in.ensures.pass.puts_into;
    sender = c.in-Ok-take_in.ensures.pass.sender ∙ c.loop.invariant.pass.sender;
    ends = c.in-Ok-take_in.ensures.pass.ends ∙ c.loop.invariant.pass.ends;
  };
  same = same_then c.args.inlet.now c.loop.inlet c.next-in-loop.new.self c.loop.invariant.same
      (same_then c.loop.inlet c.gone-gone.new.self c.next-in-loop.new.self c.gone-gone.ensures.end c.in-Some-next.ensures.end);
  ran = ran_more c.args.desk.now.host.session.config (frames_put c.args.desk.now.line.pass) c.args.inlet.now c.loop.inlet c.gone-gone.new.self
      c.next-in-loop.new.self c.loop.given.items c.take_in.new.given.items c.in-Some-next.item c.loop.desk.host c.take_in.new.desk.host
      (frames_put c.loop.desk.line.pass) (frames_put c.take_in.new.desk.line.pass) c.loop.invariant.ran c.gone-gone.ensures.same c.in-Some-next.ensures.some
      (c.in-Ok-take_in.ensures.along c.args.desk.now.host.session.config (frames_put c.args.desk.now.line.pass));
}

pub loop-preserved : goal.loop-preserved
loop-preserved g c = record {
  pass = record {
    puts_into = c.in-Ok-take_in.ensures.pass.puts_into;
    sender = c.in-Ok-take_in.ensures.pass.sender ∙ c.loop.invariant.pass.sender;
    ends = c.in-Ok-take_in.ensures.pass.ends ∙ c.loop.invariant.pass.ends;
  };
  same = same_then c.args.inlet.now c.loop.inlet c.next-in-loop.new.self c.loop.invariant.same
      (same_then c.loop.inlet c.gone-gone.new.self c.next-in-loop.new.self c.gone-gone.ensures.end c.in-Some-next.ensures.end);
  ran = ran_more c.args.desk.now.host.session.config (frames_put c.args.desk.now.line.pass) c.args.inlet.now c.loop.inlet c.gone-gone.new.self
      c.next-in-loop.new.self c.loop.given.items c.take_in.new.given.items c.in-Some-next.item c.loop.desk.host c.take_in.new.desk.host
      (frames_put c.loop.desk.line.pass) (frames_put c.take_in.new.desk.line.pass) c.loop.invariant.ran c.gone-gone.ensures.same c.in-Some-next.ensures.some
      (c.in-Ok-take_in.ensures.along c.args.desk.now.host.session.config (frames_put c.args.desk.now.line.pass));
}

pub loop-preserved-in-Ok-take_in-2 : goal.loop-preserved-in-Ok-take_in-2
loop-preserved-in-Ok-take_in-2 g c = record {
  pass = record {
    puts_into = c.in-Ok-take_in.ensures.pass.puts_into;
    sender = c.in-Ok-take_in.ensures.pass.sender ∙ c.loop.invariant.pass.sender;
    ends = c.in-Ok-take_in.ensures.pass.ends ∙ c.loop.invariant.pass.ends;
  };
  same = same_then c.args.inlet.now c.loop.inlet c.next-in-loop.new.self c.loop.invariant.same
      (same_then c.loop.inlet c.gone-gone.new.self c.next-in-loop.new.self c.gone-gone.ensures.end c.in-Some-next.ensures.end);
  ran = ran_more c.args.desk.now.host.session.config (frames_put c.args.desk.now.line.pass) c.args.inlet.now c.loop.inlet c.gone-gone.new.self
      c.next-in-loop.new.self c.loop.given.items c.take_in.new.given.items c.in-Some-next.item c.loop.desk.host c.take_in.new.desk.host
      (frames_put c.loop.desk.line.pass) (frames_put c.take_in.new.desk.line.pass) c.loop.invariant.ran c.gone-gone.ensures.same c.in-Some-next.ensures.some
      (c.in-Ok-take_in.ensures.along c.args.desk.now.host.session.config (frames_put c.args.desk.now.line.pass));
}
