use Rattle.std.proofs.Common.{◌∷◌, refl, sym, ◌∙◌, ap}
use Rattle.spk_broker_rules.specs.Data.{Broker}
use Rattle.spk_broker_rules.specs.Step.{after, step}
use Rattle.spk_broker_rules.specs.Story.{Story}
use Rattle.spk_broker_rules.specs.Telling.{Answers}
use Rattle.spk_broker_limits.proofs.Routed.{at_once, in_all}
use Rattle.spk_broker_limits.proofs.laws.routing.Goals as goal

pub returns-clause-at_once : goal.returns-clause-at_once
returns-clause-at_once c = λ limit es h e l m t such.
    at_once limit (record { asked = c.any_list.ensures.asked limit; lawful = c.any_list.ensures.lawful limit; ended = c.knowing.ensures.ended }) es h e l m t such

pub returns-clause-told : goal.returns-clause-told
returns-clause-told c = λ limit es h e l m t.
    let a : Answers limit h e (step (after limit es) e) = c.any_list.ensures.answers limit es h e l in
    let is = c.any_list.ensures.one limit h e t a.telling in
    (ap (λ (s : Story). s.sends) is ∙ a.sends, ap (λ (s : Story). s.closes) is ∙ a.closes, ap (λ (b : Broker). b.retained) (sym (c.any_list.ensures.asked limit (e ∷ es) t.end.past (h, l, m, t, refl))))

pub returns-clause-in_all : goal.returns-clause-in_all
returns-clause-in_all c = λ limit es h l such.
    in_all limit (record { asked = c.any_list.ensures.asked limit; lawful = c.any_list.ensures.lawful limit; ended = c.knowing.ensures.ended }) es h l such
