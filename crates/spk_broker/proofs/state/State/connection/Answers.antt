use Rattle.std.proofs.Common.{◌∙◌, ap, sym, Some}
use Rattle.std.specs.List.{position}
use Rattle.std.specs.Option.{option_map}
use Rattle.spk_broker_rules.specs.Data as plain
use Rattle.spk_broker_rules.specs.Step.{is_newcomer, connection_of}
use Rattle.spk_broker.specs.Asking.{newcomer_here, test_at}
use Rattle.spk_broker.specs.Parts.{app_message_view}
use Rattle.spk_broker.specs.declared.newcomer.Newcomer.{Newcomer}
use Rattle.spk_broker.proofs.Accepting.{newcomer-gone, newcomer-there}
use Rattle.spk_broker.proofs.Alive.{plain_of}
use Rattle.spk_broker.proofs.state.State.connection.Goals as goal

pub returns-in-Some-clause-value : goal.returns-in-Some-clause-value
returns-in-Some-clause-value c =
    ap (λ (g : Newcomer). Some (connection_of (plain_of g) c.args.alive (option_map app_message_view c.args.will))) c.index-newcomer.ensures
    ∙ ap (option_map (λ (g : plain.Newcomer). connection_of g c.args.alive (option_map app_message_view c.args.will)))
    (sym (newcomer-there c.args.conn c.args.self.now.newcomers.items c.in-Some.place c.index-newcomer.result.now
    (ap (position (test_at newcomer_here (is_newcomer c.args.conn))) (sym c.deref.ensures.value) ∙ sym c.newcomer_place.ensures ∙ c.in-Some.is)))

pub returns-in-None-clause-value : goal.returns-in-None-clause-value
returns-in-None-clause-value c =
    ap (option_map (λ (g : plain.Newcomer). connection_of g c.args.alive (option_map app_message_view c.args.will)))
    (sym (newcomer-gone c.args.conn c.args.self.now.newcomers.items
    (ap (position (test_at newcomer_here (is_newcomer c.args.conn))) (sym c.deref.ensures.value) ∙ sym c.newcomer_place.ensures ∙ c.in-None.is)))
