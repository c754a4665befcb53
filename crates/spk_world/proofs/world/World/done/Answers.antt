use Rattle.std.proofs.Common.{sym, subst}
use Rattle.std.specs.Prelude.{IfErr}
use Rattle.spk_world.specs.declared.event.Event.{Event}
use Rattle.spk_world.specs.Outcome.{IsRefused}
use Rattle.spk_world.specs.Steps.{deed_at}
use Rattle.spk_world.specs.View.{event_view}
use Rattle.spk_world.proofs.world.World.done.Goals as goal

pub returns-in-Rebirth-clause-refused : goal.returns-in-Rebirth-clause-refused
returns-in-Rebirth-clause-refused c =
    subst (λ (e : Event). IfErr c.ask_rebirth.result (IsRefused c.args.self.now (deed_at c.args.self.now (event_view e)))) (sym c.in-Rebirth.is) c.ask_rebirth.ensures.refused

pub returns-in-State-clause-refused : goal.returns-in-State-clause-refused
returns-in-State-clause-refused c =
    subst (λ (e : Event). IfErr c.tell_state.result (IsRefused c.args.self.now (deed_at c.args.self.now (event_view e)))) (sym c.in-State.is) c.tell_state.ensures.refused
