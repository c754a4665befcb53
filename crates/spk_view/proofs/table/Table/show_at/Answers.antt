use Rattle.std.proofs.Common.{◌≡◌, ◌<◌, ◌∙◌, sym, ap, refl, set, length, Some, ℕ, List, arith}
use Rattle.std.proofs.lemmas.Option.{slice_get_read}
use Rattle.std.specs.Option.{option_map}
use Rattle.std.specs.Prelude.{slice_get}
use Rattle.spk_payload.specs.View.{content_of}
use Rattle.spk_host_rules.specs.Data.{Row}
use Rattle.spk_host_rules.specs.Table.{shown_with}
use Rattle.spk_view.proofs.Places.{same-some}
use Rattle.spk_view.proofs.Rows.{aliased-shown, named-shown}
use Rattle.spk_view.proofs.table.Table.show_at.Goals as goal

pub invariant_of-self : goal.invariant_of-self
invariant_of-self c =
    let rows = c.self.inside.rows.items in
    let low : c.in-Some.place < length rows = omega (arith, c.self.inside.rows.ok.0) in
    let at : slice_get rows c.in-Some.place ≡ Some c.index_mut.result.now =
    slice_get_read rows (length rows) c.in-Some.place c.index_mut.result.now refl low c.index_mut.ensures.value in
    record {
      named = named-shown rows c.self.inside.names.keys c.in-Some.place c.index_mut.result.now c.show.new.self c.self.invariant.named at
          (ap (λ (r : Row). r.name) c.show.ensures);
      aliased = aliased-shown rows c.self.inside.aliases c.in-Some.place c.index_mut.result.now c.show.new.self c.self.invariant.aliased at
          (ap (λ (r : Row). r.alias) c.show.ensures);
    }

pub returns-then-place-len-clause-there : goal.returns-then-place-len-clause-there
returns-then-place-len-clause-there c = λ k r place there.
    let rows = c.self.inside.rows.items in
    let low : c.in-Some.place < length rows = omega (arith, c.self.inside.rows.ok.0) in
    let at : slice_get rows c.in-Some.place ≡ Some c.index_mut.result.now =
    slice_get_read rows (length rows) c.in-Some.place c.index_mut.result.now refl low c.index_mut.ensures.value in
    let here : c.in-Some.place ≡ k = same-some (sym c.in-Some.is ∙ place) in
    let one : c.index_mut.result.now ≡ r =
    same-some (sym at ∙ ap (λ (l : List Row). slice_get l c.in-Some.place) c.self.view_is ∙ ap (slice_get c.args.self.now) here ∙ there) in
    ap (set rows c.in-Some.place) (c.show.ensures
    ∙ ap (λ (x : Row). record x { shown = shown_with x.datatype c.args.null (option_map content_of c.args.value) }) one)
    ∙ ap (λ (l : List Row). set l c.in-Some.place (record r { shown = shown_with r.datatype c.args.null (option_map content_of c.args.value) })) c.self.view_is
    ∙ ap (λ (i : ℕ). set c.args.self.now i (record r { shown = shown_with r.datatype c.args.null (option_map content_of c.args.value) })) here
