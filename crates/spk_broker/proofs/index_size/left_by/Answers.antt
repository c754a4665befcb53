use Rattle.std.proofs.Common.{◌≡◌, ◌∙◌, ◌+◌, ◌<◌, ◌≤◌, ap, arith, get_or, map, subst, sym}
use Rattle.std.specs.Option.{MatchOption}
use Rattle.spk_broker.specs.Parts.{grant_view}
use Rattle.spk_broker.specs.Sizes.{size_of, size_of_grants}
use Rattle.spk_broker.specs.declared.session.Grant.{Grant}
use Rattle.spk_broker.proofs.Sizes.{grants-within}
use Rattle.spk_broker.proofs.index_size.left_by.Goals as goal

pub returns-in_err-rest : goal.returns-in_err-rest
returns-in_err-rest c =
    let gs = c.args.grants.now in
    let i = c.loop-grant.grant-index in
    let test = c.loop-grant-test.true in
    let within = grants-within gs i c.grant-item.result test in
    let before = c.loop-grant.invariant in
    let size : c.size.result ≡ size_of (grant_view (get_or gs i c.grant-item.result)).0 =
    c.size.ensures ∙ ap size_of c.as_str.ensures.value ∙ ap (λ (g : Grant). size_of (grant_view g).0) c.grant-item.is in
    let none : c.size.result ≤ c.loop-grant.rest → ⊥ = c.in_err-rest.ensures in
    let more : c.loop-grant.rest < c.size.result = omega (arith, none) in
    let over : c.args.left < size_of_grants (map grant_view gs) = omega (arith, within, before, size, more) in
    subst (λ o. MatchOption o (c.args.left < size_of_grants (map grant_view gs)) (λ rest. rest + size_of_grants (map grant_view gs) ≡ c.args.left)) (sym c.from_residual.ensures) over
