use Rattle.std.proofs.Common.{◌≡◌, ◌<◌, ◌∙◌, sym, ap, refl, length, Some, arith}
use Rattle.std.proofs.lemmas.Option.{slice_get_read}
use Rattle.std.specs.Prelude.{slice_get}
use Rattle.spk_view.specs.Indexed.{place_in}
use Rattle.spk_view.proofs.PlacesIn.{place_in-last, place_in-none}
use Rattle.spk_view.proofs.aliases.Aliases.find.Goals as goal

pub returns-in_err-at : goal.returns-in_err-at
returns-in_err-at c =
    c.from_residual.ensures
    ∙ sym (place_in-none c.self.inside.keys.keys c.self.inside.places.items c.args.alias c.in_err-at.ensures)
    ∙ ap (λ l. place_in l c.args.alias) c.self.view_is

pub returns : goal.returns
returns c =
    let keys = c.self.inside.keys.keys in
    let places = c.self.inside.places.items in
    let low : c.in_ok-at.at < length places = omega (arith, c.in_ok-at.ensures.0, c.self.invariant) in
    let at : slice_get places c.in_ok-at.at ≡ Some c.index.result.now = slice_get_read places (length places) c.in_ok-at.at c.index.result.now refl low c.index.ensures in
    sym (place_in-last keys places c.args.alias c.in_ok-at.at c.index.result.now c.in_ok-at.ensures.1 c.in_ok-at.ensures.2 at)
    ∙ ap (λ l. place_in l c.args.alias) c.self.view_is
