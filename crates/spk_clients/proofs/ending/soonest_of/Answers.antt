use Rattle.std.proofs.Common.{◌≡◌, ◌∙◌, ap, sym, subst, refl, nat_eq}
use Rattle.std.specs.HashMap.{get}
use Rattle.spk_clients.specs.Client.{most_number}
use Rattle.spk_clients.specs.Data.{IsSoonest}
use Rattle.spk_clients.proofs.Moments.{among_soonest, soonest_among}
use Rattle.spk_clients.proofs.ending.soonest_of.Goals as goal

pub returns : goal.returns
returns c =
    let all : c.loop-entry.soonest ≡ soonest_among most_number c.args.table.now.entries =
    sym (ap (soonest_among c.loop-entry.soonest) c.in-None.ensures.steps.0) ∙ c.loop-entry.invariant in
    subst (IsSoonest (get nat_eq c.args.table.now)) (sym all) (among_soonest (get nat_eq c.args.table.now) c.args.table.now.entries c.iter-entry-items.ensures.found (λ k. refl))
