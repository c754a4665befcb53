use Rattle.std.proofs.Common.{◌≡◌, ◌<◌, ◌∙◌, sym, ap, refl, subst, length, map, Some, ℕ, arith}
use Rattle.std.proofs.lemmas.List.{length-map}
use Rattle.std.proofs.lemmas.Option.{slice_get_read}
use Rattle.std.specs.Prelude.{slice_get}
use Rattle.spk_view.specs.Keyed.{IsLastOf, KeyList, key_in}
use Rattle.spk_view.proofs.Chains.{linked}
use Rattle.spk_view.proofs.Places.{same-some}
use Rattle.spk_view.proofs.keys.Keys.before.Goals as goal

pub index-link-requires : goal.index-link-requires
index-link-requires c =
    let size : length (map key_in c.self.inside.links.items) ≡ length c.args.self.now.keys = ap (λ (s : KeyList). length s.keys) c.self.view_is in
    omega (arith, c.requires, length-map c.self.inside.links.items key_in, c.self.inside.links.ok.0)

pub seek-requires : goal.seek-requires
seek-requires c =
    let links = c.self.inside.links.items in
    let size : length (map key_in links) ≡ length c.args.self.now.keys = ap (λ (s : KeyList). length s.keys) c.self.view_is in
    let low : c.args.place < length links = omega (arith, c.requires, length-map links key_in) in
    let at : slice_get links c.args.place ≡ Some c.index-link.result.now = slice_get_read links (length links) c.args.place c.index-link.result.now refl low c.index-link.ensures in
    (linked c.self.inside.ends.items links c.args.self.now c.self.invariant c.self.view_is c.args.place c.index-link.result.now at).1

pub returns : goal.returns
returns c = λ key there.
    let links = c.self.inside.links.items in
    let size : length (map key_in links) ≡ length c.args.self.now.keys = ap (λ (s : KeyList). length s.keys) c.self.view_is in
    let low : c.args.place < length links = omega (arith, c.requires, length-map links key_in) in
    let at : slice_get links c.args.place ≡ Some c.index-link.result.now = slice_get_read links (length links) c.args.place c.index-link.result.now refl low c.index-link.ensures in
    let is = linked c.self.inside.ends.items links c.args.self.now c.self.invariant c.self.view_is c.args.place c.index-link.result.now at in
    subst (λ (k : ℕ). IsLastOf c.args.self.now.keys c.args.place k c.seek.result) (same-some (sym is.0 ∙ there)) c.seek.ensures
