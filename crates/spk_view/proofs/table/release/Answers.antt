use Rattle.std.proofs.Common.{◌≡◌, ◌<◌, ◌∙◌, sym, ap, set, length, map, Some, ℕ, refl, arith}
use Rattle.std.proofs.lemmas.Option.{slice_get_read, slice_get_within}
use Rattle.std.specs.Prelude.{slice_get}
use Rattle.spk_host_rules.specs.Data.{Row}
use Rattle.spk_host_rules.specs.Table.{released}
use Rattle.spk_view.specs.Indexed.{place_in}
use Rattle.spk_view.proofs.Places.{none≢some, same-some}
use Rattle.spk_view.proofs.Rows.{released-none, released-nowhere, released-there}
use Rattle.spk_view.proofs.table.release.Goals as goal

pub returns-in_default : goal.returns-in_default
returns-in_default c =
    sym (ap (λ a. map (released a) c.args.rows.now.items) c.in_default.is ∙ released-none c.args.rows.now.items)

pub returns-in_default-find : goal.returns-in_default-find
returns-in_default-find c =
    sym (ap (λ a. map (released a) c.args.rows.now.items) c.in-Some.is
    ∙ released-nowhere c.args.rows.now.items c.args.aliases.now c.requires c.in-Some.alias
    (λ k r leads at. none≢some (c.in_default-find.ensures ∙ leads)))

pub returns-then-place-len : goal.returns-then-place-len
returns-then-place-len c =
    let rows = c.args.rows.now.items in
    let low : c.in-Some-find.place < length rows = omega (arith, c.args.rows.now.ok.0) in
    let at : slice_get rows c.in-Some-find.place ≡ Some c.index_mut.result.now =
    slice_get_read rows (length rows) c.in-Some-find.place c.index_mut.result.now refl low c.index_mut.ensures.value in
    ap (set rows c.in-Some-find.place) c.release.ensures
    ∙ sym (ap (λ a. map (released a) rows) c.in-Some.is
    ∙ released-there rows c.args.aliases.now c.requires c.in-Some.alias c.in-Some-find.place c.index_mut.result.now (sym c.in-Some-find.ensures) at)

pub returns-else-place-len : goal.returns-else-place-len
returns-else-place-len c =
    sym (ap (λ a. map (released a) c.args.rows.now.items) c.in-Some.is
    ∙ released-nowhere c.args.rows.now.items c.args.aliases.now c.requires c.in-Some.alias past)
  where
    past : (k : ℕ) (r : Row) → place_in c.args.aliases.now c.in-Some.alias ≡ Some k → slice_get c.args.rows.now.items k ≡ Some r → ⊥
    past k r leads at =
        let same : c.in-Some-find.place ≡ k = same-some (c.in-Some-find.ensures ∙ leads) in
        let within = slice_get_within c.args.rows.now.items k r at in
        absurd (omega (arith, c.args.rows.now.ok.0))
