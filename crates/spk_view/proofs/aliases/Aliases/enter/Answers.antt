use Rattle.std.proofs.Common.{◌<◌, ◌∙◌, sym, ap, cond, length, [], ◌∷◌, ◌++◌, Some, arith}
use Rattle.std.specs.List.{zip}
use Rattle.spk_host_rules.specs.Table.{is_alias}
use Rattle.spk_view.specs.Indexed.{place_in}
use Rattle.spk_view.proofs.PlacesIn.{place_in-more, place_in-put, zip-more}
use Rattle.spk_view.proofs.aliases.Aliases.enter.Goals as goal

pub returns-in-Some-last : goal.returns-in-Some-last
returns-in-Some-last c = λ q.
    let keys = c.self.inside.keys.keys in
    let places = c.self.inside.places.items in
    let low : c.in-Some-last.at < length places = omega (arith, c.in-Some-last.ensures.0, c.self.invariant) in
    place_in-put keys places c.in-Some.alias c.in-Some-last.at c.args.place q c.in-Some-last.ensures.1 c.in-Some-last.ensures.2 low
    ∙ ap (λ l. cond (is_alias (Some c.in-Some.alias) q) (Some c.args.place) (place_in l q)) c.self.view_is
    ∙ ap (λ a. cond (is_alias a q) (Some c.args.place) (place_in c.args.self.now q)) (sym c.in-Some.is)

pub returns : goal.returns
returns c = λ q.
    let keys = c.self.inside.keys.keys in
    let places = c.self.inside.places.items in
    let alias = c.in-Some.alias in
    ap (λ l. place_in (zip l c.push_reserved.new.self.items) q) c.in_ok-push.ensures.ok
    ∙ ap (λ l. place_in (zip (keys ++ alias ∷ []) l) q) (c.push_reserved.ensures.items ∙ ap (λ l. l ++ c.args.place ∷ []) c.in_ok-reserve.ensures.items)
    ∙ ap (λ l. place_in l q) (zip-more keys places alias c.args.place c.self.invariant)
    ∙ place_in-more (zip keys places) alias c.args.place q
    ∙ ap (λ l. cond (is_alias (Some alias) q) (Some c.args.place) (place_in l q)) c.self.view_is
    ∙ ap (λ a. cond (is_alias a q) (Some c.args.place) (place_in c.args.self.now q)) (sym c.in-Some.is)
