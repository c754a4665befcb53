use Rattle.std.proofs.Common.{◌≡◌, ◌∙◌, ap, sym, false}
use Rattle.spk_connection.specs.Step.{is_open}
use Rattle.spk_edge_app.specs.Data.{App}
use Rattle.spk_edge_app.proofs.Runs.{on_ok, opens, unlogged_on}
use Rattle.spk_edge_app.proofs.app.EdgeApp.opened.Goals as goal

off : (c : goal.After-connect) → is_open c.args.self.now.connection ≡ false
off c = ap (λ (k : App). is_open k.connection) (sym c.self.view_is) ∙ sym c.is_open.ensures ∙ c.if-is_open.false

going : (c : goal.After-connect) → c.args.self.now.stopped ≡ false
going c = ap (λ (k : App). k.stopped) (sym c.self.view_is) ∙ c.if-self.false

pub returns-in-Ok-clause-opened : goal.returns-in-Ok-clause-opened
returns-in-Ok-clause-opened c =
    let (n, done, e) = c.in-Ok.ensures.opened in
    on_ok c.connect.result _ _
    (opens c.args.self.now n c.args.now c.in-Ok.out c.open.new.self c.begin.new.self c.connect.new.self (off c) (going c) done e c.begin.ensures)
    c.connect.ensures.sent

pub returns-in-Ok-clause-refused : goal.returns-in-Ok-clause-refused
returns-in-Ok-clause-refused c =
    let (n, done, e) = c.in-Ok.ensures.opened in
    unlogged_on c.connect.result c.args.self.now n c.args.now c.in-Ok.out c.open.new.self c.begin.new.self c.connect.new.self (off c) (going c) done e c.begin.ensures c.connect.ensures.refused c.connect.ensures.dropped
