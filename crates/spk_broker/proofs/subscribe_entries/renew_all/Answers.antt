use Rattle.std.proofs.Common.{◌∙◌, ap, map, set, sym}
use Rattle.std.proofs.lemmas.List.Edits.{map_over_more}
use Rattle.spk_broker.specs.Parts.{grant_view}
use Rattle.spk_broker.specs.Tables.{found, renewed}
use Rattle.spk_broker.specs.declared.session.Grant.{Grant}
use Rattle.spk_broker.proofs.Entered.{mapped-all}
use Rattle.spk_broker.proofs.Requested.{renewed-all}
use Rattle.spk_broker.proofs.subscribe_entries.renew_all.Goals as goal

pub loop-grant-preserved : goal.loop-grant-preserved
loop-grant-preserved c =
    let f = found c.args.standing.now in
    ap (λ (g : Grant). set c.loop-grant.grants c.loop-grant.grant-index g) (c.renew.ensures ∙ ap (renewed f) (sym c.grant-item.is))
    ∙ map_over_more (renewed f) c.args.grants.now c.loop-grant.grants c.loop-grant.grant-index c.grant-item.result c.loop-grant-test.true
    c.loop-grant.invariant c.grant-item.is

pub returns : goal.returns
returns c = ap (map grant_view) (c.loop-grant.invariant ∙ mapped-all (renewed (found c.args.standing.now)) c.args.grants.now c.loop-grant.grant-index c.loop-grant-test.false)
    ∙ renewed-all (found c.args.standing.now) c.args.grants.now
