use Rattle.std.proofs.Common.{◌∙◌, [], ap, map, List, ℕ}
use Rattle.spk_broker.specs.Granting.{Grown}
use Rattle.spk_broker.specs.Parts.{grant_view}
use Rattle.spk_broker.specs.Tables.{found, with_last}
use Rattle.spk_broker.specs.declared.session.Grant.{Grant}
use Rattle.spk_broker.proofs.Requested.{no-entry}
use Rattle.spk_broker.proofs.subscribe_entries.Requests.new.Goals as goal

pub returns-clause-view : goal.returns-clause-view
returns-clause-view c =
    let f = found c.in_ok-standing.standing in
    let t = map grant_view c.args.grants.now in
    let of : List (List ℕ × ℕ) → List ℕ → List Grant → Grown = λ grants codes given. record { grants = grants; codes = codes; given = map grant_view given } in
    ap (λ l. of (map (with_last f) l) c.new.result.items c.new-2.result.items) c.in_ok-copied.ensures
    ∙ ap (λ l. of l c.new.result.items c.new-2.result.items) (no-entry f t c.in_ok-standing.ensures)
    ∙ ap (λ l. of t l c.new-2.result.items) c.new.ensures.items
    ∙ ap (of t []) c.new-2.ensures.items
