use Rattle.std.proofs.Common.{◌∙◌, ap}
use Rattle.std.specs.Option.{option_map_or}
use Rattle.std.specs.List.{find}
use Rattle.spk_broker_rules.specs.Data as plain
use Rattle.spk_broker_rules.specs.Step.{is_newcomer}
use Rattle.spk_broker.specs.Asking.{drops_at, newcomers_now}
use Rattle.spk_broker.specs.Both.{Both}
use Rattle.spk_broker.proofs.Near.{drops-at-place, drops-nowhere}
use Rattle.spk_broker.proofs.state.State.drops.Goals as goal

pub returns-in-Some : goal.returns-in-Some
returns-in-Some c apart =
    c.drops.ensures ∙ ap (λ (b : Both). option_map_or drops_at b.now 0) c.index.ensures
    ∙ drops-at-place c.args.conn c.args.self.now c.in-Some.place c.index.result.now (c.requires ∙ c.in-Some.is) apart

pub returns-in-None : goal.returns-in-None
returns-in-None c apart =
    c.newcomer_drops.ensures
    ∙ ap (λ gs. option_map_or (λ (g : plain.Newcomer). g.drops) (find (is_newcomer c.args.conn) (newcomers_now gs)) 0) c.deref.ensures.value
    ∙ drops-nowhere c.args.conn c.args.self.now (c.requires ∙ c.in-None.is)
