use Rattle.std.proofs.Common.{refl}
use Rattle.spk_edge.specs.Several.{pairs}
use Rattle.spk_edge_app.specs.View.{app_view}
use Rattle.spk_edge_app.proofs.Severals.{all-told}
use Rattle.spk_edge_app.proofs.app.EdgeApp.changes.Goals as goal

pub returns-then-is_told_something-clause-told : goal.returns-then-is_told_something-clause-told
returns-then-is_told_something-clause-told c =
    all-told (app_view c.self.inside) c.args.self.now c.changes.new.self c.args.now (pairs c.args.changes.now) c.in-Ok.out c.answer.new.self c.self.view_is
    c.in-Ok.ensures.done (c.if-is_told_something.ensures.each refl) c.answer.ensures
