use Rattle.std.proofs.Common.{rules, subst}
use Rattle.std.specs.Option.{option_map}
use Rattle.spk_host_app.specs.View.{login_view}
use Rattle.spk_host_app.proofs.Opening.{IsDone, IsFailed, done_by, failed_by, on_err, on_ok}
use Rattle.spk_host_app.proofs.app.HostApp.opened.Goals as goal

pub returns-in-Ok-clause-done : goal.returns-in-Ok-clause-done
returns-in-Ok-clause-done c =
    on_ok c.greet.result c.greet.ensures.ok (λ e. subst (λ a. IsDone c.args.now a c.greet.new.self) c.self.view_is
    (done_by (record {
      host = c.self.inside.host;
      connection = c.self.inside.connection;
      login = option_map login_view c.self.inside.login;
      words = c.self.inside.words;
      closing = c.self.inside.closing;
    }) (record {
      host = c.connected.new.self;
      connection = c.opened.new.self;
      login = option_map login_view c.self.inside.login;
      words = c.begin.new.self;
      closing = c.self.inside.closing;
    }) c.greet.new.self c.args.now _ c.connected.new.self (search rules) c.in-Ok.ensures.said c.in-Ok.ensures.data e (search rules)))

pub returns-in-Ok-clause-failed : goal.returns-in-Ok-clause-failed
returns-in-Ok-clause-failed c =
    on_err c.greet.result (λ closing. subst (λ a. IsFailed c.args.now a c.greet.new.self) c.self.view_is
    (failed_by _ _ c.greet.new.self c.args.now _ c.connected.new.self (search rules) c.in-Ok.ensures.said c.in-Ok.ensures.data c.greet.ensures.answered (search rules) closing)) c.greet.ensures.err
