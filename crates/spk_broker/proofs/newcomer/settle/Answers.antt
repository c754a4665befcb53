use Rattle.std.proofs.Common.{◌≡◌, ◌∙◌, Bool, true, false, not, [], ◌∷◌, refl, ap, map, arith, rules, vec_len}
use Rattle.std.specs.List.{filter, flat_map}
use Rattle.std.proofs.lemmas.Fn.{filter_same}
use Rattle.spk_broker.specs.Settling.{newcomer_left}
use Rattle.spk_broker.specs.View.{newcomer_now, newcomer_was}
use Rattle.spk_broker.specs.declared.newcomer.Newcomer.{Newcomer}
use Rattle.spk_broker.proofs.Flats.{filter-flat, filter-map}
use Rattle.spk_broker.proofs.Refilled.{refilled}
use Rattle.spk_broker.proofs.newcomer.settle.Goals as goal

abbrev stays : Newcomer → Bool
stays g = not g.gone

gone-now : (g : Newcomer) → stays g ≡ false → newcomer_now g ≡ []
gone-now g e = by g.gone e
  where
    by : (b : Bool) → not b ≡ false → newcomer_now (record g { gone = b }) ≡ []
    by true h = refl
    by false h = absurd (let z : ⊥ = cc in z)

gone-left : (g : Newcomer) → stays g ≡ false → newcomer_left g ≡ []
gone-left g e = by g.gone e
  where
    by : (b : Bool) → not b ≡ false → newcomer_left (record g { gone = b }) ≡ []
    by true h = refl
    by false h = absurd (let z : ⊥ = cc in z)

here-left : (g : Newcomer) → stays g ≡ true → newcomer_left g ≡ newcomer_was g ∷ []
here-left g e = by g.gone e
  where
    by : (b : Bool) → not b ≡ true → newcomer_left (record g { gone = b }) ≡ newcomer_was g ∷ []
    by false h = refl
    by true h = absurd (let z : ⊥ = cc in z)

pub returns-clause-was : goal.returns-clause-was
returns-clause-was c =
    let back = refilled (vec_len c.args.newcomers.now) c.settle_each.new.newcomers c.args.newcomers.now.items (omega arith) (omega arith) in
    let kept = filter_same _ stays _ (λ x b f' k. search rules) _ _ c.retain.ensures.filtered in
    ap (map newcomer_was) kept ∙ ap (λ l. map newcomer_was (filter stays l)) back
    ∙ filter-map stays newcomer_was newcomer_left here-left gone-left c.settle_each.new.newcomers
    ∙ c.settle_each.ensures.left ∙ ap (flat_map newcomer_now) c.deref_mut.ensures.value

pub returns-clause-now : goal.returns-clause-now
returns-clause-now c =
    let back = refilled (vec_len c.args.newcomers.now) c.settle_each.new.newcomers c.args.newcomers.now.items (omega arith) (omega arith) in
    let kept = filter_same _ stays _ (λ x b f' k. search rules) _ _ c.retain.ensures.filtered in
    ap (flat_map newcomer_now) kept ∙ ap (λ l. flat_map newcomer_now (filter stays l)) back
    ∙ filter-flat stays newcomer_now gone-now c.settle_each.new.newcomers
    ∙ c.settle_each.ensures.now ∙ ap (flat_map newcomer_now) c.deref_mut.ensures.value
