use Rattle.std.proofs.Common.{◌≡◌, ◌||◌, List, ◌∙◌, ap, is_some, refl, sym, true}
use Rattle.std.specs.List.{list_any}
use Rattle.spk_broker_rules.specs.Step.{is_newcomer, session_by}
use Rattle.spk_broker.specs.Asking.{newcomers_now}
use Rattle.spk_broker.specs.View.{state_now}
use Rattle.spk_broker.specs.declared.newcomer.Newcomer.{Newcomer}
use Rattle.spk_broker.proofs.Near.{newcomer-nowhere}
use Rattle.spk_broker.proofs.hints.Hints.seek_in.Goals as goal

pub returns-then-is_newcomer : goal.returns-then-is_newcomer
returns-then-is_newcomer c =
    let any : list_any (is_newcomer c.args.conn) (newcomers_now c.args.state.now.newcomers.items) ≡ true =
    ap (λ (gs : List Newcomer). list_any (is_newcomer c.args.conn) (newcomers_now gs)) (sym c.deref-then-near-len.ensures.value) ∙ sym c.is_newcomer.ensures ∙ c.if-is_newcomer.true in
    record {
      place = newcomer-nowhere c.args.conn (state_now c.args.state.now) c.args.state.now.sessions.items refl c.requires any;
      known = sym (ap (λ b. b || is_some (session_by c.args.conn (state_now c.args.state.now).sessions)) any);
    }
