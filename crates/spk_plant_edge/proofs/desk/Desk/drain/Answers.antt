use Rattle.std.proofs.Common.{◌≡◌, ◌∙◌, sym, true, false}
use Rattle.spk_plant_edge.specs.Script.{may_drain}
use Rattle.spk_plant_edge.proofs.Leading.{drains-end, drains-more, may-drain-at}
use Rattle.spk_plant_edge.proofs.Putting.{puts-then}
use Rattle.spk_plant_edge.proofs.desk.Desk.drain.Goals as goal

pub returns-then-refused-clause-drained : goal.returns-then-refused-clause-drained
returns-then-refused-clause-drained g c = λ o log at.
    let so_far = c.loop.invariant.went o log at in
    let asked = c.in_ok-refused.ensures.asked o so_far.0 so_far.1 in
    let may : c.may_drain.result ≡ true = cc in (
      asked.0,
      asked.1,
      drains-end o.setup log so_far.0 asked.0 so_far.2 (sym (may-drain-at o so_far.0 c.loop.self c.may_drain.result so_far.1 c.may_drain.ensures) ∙ may) asked.2.0 (sym asked.2.1 ∙ c.if-refused.true),
    )

pub loop-preserved : goal.loop-preserved
loop-preserved g c = record {
  puts = puts-then c.args.ingress.now c.args.self.now.sender.pass c.loop.self.sender.pass c.ask.new.self.sender.pass c.loop.invariant.puts c.in_ok-refused.ensures.pass;
  went = λ o log at.
      let so_far = c.loop.invariant.went o log at in
      let asked = c.in_ok-refused.ensures.asked o so_far.0 so_far.1 in
      let may : c.may_drain.result ≡ true = cc in (
        asked.0,
        asked.1,
        drains-more o.setup log so_far.0 asked.0 so_far.2 (sym (may-drain-at o so_far.0 c.loop.self c.may_drain.result so_far.1 c.may_drain.ensures) ∙ may) asked.2.0 (sym asked.2.1 ∙ c.if-refused.false),
      );
}
