use Rattle.std.proofs.Common.{◌≡◌, ◌∙◌, ◌++◌, ◌∷◌, ◌||◌, [], ℕ, List, false, ap, ne_eqb, rules, sym}
use Rattle.std.proofs.lemmas.Fn.{filter_same}
use Rattle.spk_broker_rules.proofs.Lists.{eqb-is}
use Rattle.spk_broker.specs.Called.{is_place}
use Rattle.spk_broker.proofs.Refilled.{without-length}
use Rattle.spk_broker.proofs.Stayers.{one-gone, stays}
use Rattle.spk_broker.proofs.session_settle.drop_ended.Goals as goal

pub returns-then-is_empty : goal.returns-then-is_empty
returns-then-is_empty c =
    let none : c.args.places.now ≡ [] = without-length c.args.places.now (eqb-is _ 0 (sym c.is_empty.ensures ∙ c.if-is_empty.true)) in
    c.remove.ensures.by_index.2
    ∙ one-gone c.args.sessions.now.items c.args.place c.requires.low c.requires.some
    (λ j d lt n. c.requires.stay j d lt
    (ap (λ (ps : List ℕ). is_place j (ps ++ c.args.place ∷ [])) none ∙ ap (λ t. t || false) (ne_eqb c.args.place j (λ e. n (sym e)))))

pub returns : goal.returns
returns c = filter_same _ stays _ (λ x b f' k. search rules) _ _ c.retain.ensures.filtered
