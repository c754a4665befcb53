use Rattle.std.proofs.Common.{◌≡◌, ◌∙◌, sym, ap, ℕ, List, Some, None, cond, get_or, length, ◌<◌, ◌++◌, ◌∷◌, [], string_bytes}
use Rattle.std.proofs.lemmas.Option.{slice_get-get_or}
use Rattle.std.specs.Option.{option_or}
use Rattle.std.specs.Prelude.{slice_get}
use Rattle.std.specs.Str.{bytes_eq}
use Rattle.spk_names.specs.Names.{entered, number_in}
use Rattle.spk_host.specs.Index.{IndexData, in_group, place_in}
use Rattle.spk_host.specs.Inputs.{is_same}
use Rattle.spk_host.proofs.Found.{on_ok}
use Rattle.spk_host.proofs.Indexed.{at_number, entered-first, entered-there, leading-there}
use Rattle.spk_host.proofs.index.Index.enter.Goals as goal

pub invariant_of-self : goal.invariant_of-self
invariant_of-self c =
    leading-there c.self.inside.groups c.self.inside.tables.items c.enter_at.new.tables.items c.self.invariant c.enter_at.ensures.count

pub returns-in-Some-clause-entered : goal.returns-in-Some-clause-entered
returns-in-Some-clause-entered c =
    let groups = c.self.inside.groups in
    let tables = c.self.inside.tables.items in
    let number = c.in-Some.number in
    let name = string_bytes c.in_ok-name.name in
    let group = c.args.group.now in
    let same : name ≡ c.args.node.now = c.in_ok-name.ensures.ok in
    let at : number_in groups group ≡ Some number = sym c.in-Some.ensures in
    let low : number < length tables = c.self.invariant.low group number at in
    let names : List (List ℕ × ℕ) = get_or tables number [] in
    let there : slice_get tables number ≡ Some names = slice_get-get_or tables number [] low in
    let absent : number_in names name ≡ None =
    ap (number_in names) same ∙ sym (at_number tables number names c.args.node.now there)
    ∙ ap (λ o. in_group tables o c.args.node.now) (sym at)
    ∙ ap (λ (i : IndexData). place_in i group c.args.node.now) c.self.view_is ∙ c.requires in
    on_ok c.enter_at.result (c.enter_at.ensures.entered names there) (λ is g n.
    ap (λ t. in_group t (number_in groups g) n) is
    ∙ entered-there groups tables c.self.invariant group name number c.args.place names (entered names name c.args.place) at there absent
    (λ other. c.found_again.ensures names name other c.args.place) g n
    ∙ ap (λ x. cond (is_same g n group x) (Some c.args.place) (in_group tables (number_in groups g) n)) same
    ∙ ap (λ (i : IndexData). cond (is_same g n group c.args.node.now) (Some c.args.place) (place_in i g n)) c.self.view_is)

pub returns-in_ok-enter-in-None-clause-entered : goal.returns-in_ok-enter-in-None-clause-entered
returns-in_ok-enter-in-None-clause-entered c =
    let groups = c.self.inside.groups in
    let tables = c.self.inside.tables.items in
    let group = string_bytes c.in_ok-group-in-None.group in
    let node = string_bytes c.in_ok-name.name in
    let same_group : group ≡ c.args.group.now = c.in_ok-group-in-None.ensures.ok in
    let same_node : node ≡ c.args.node.now = c.in_ok-name.ensures.ok in
    let absent : number_in groups group ≡ None = ap (number_in groups) same_group ∙ sym c.in-None.ensures in
    let count : c.len.result ≡ length tables =
    c.len.ensures ∙ c.reserve.new.self.ok.0 ∙ ap length c.in_ok-reserve-in-None.ensures.items in
    let all : c.push_reserved.new.self.items ≡ tables ++ ((node, c.args.place) ∷ []) ∷ [] =
    c.push_reserved.ensures.items
    ∙ ap (λ (l : List (List (List ℕ × ℕ))). l ++ c.in_ok-table-in-None.table ∷ []) c.in_ok-reserve-in-None.ensures.items
    ∙ ap (λ (t : List (List ℕ × ℕ)). tables ++ t ∷ []) c.in_ok-table-in-None.ensures in
    λ g n.
    ap (λ t. in_group t (number_in c.enter.new.self g) n) all
    ∙ entered-first groups c.enter.new.self tables c.self.invariant group node c.args.place absent
    (λ other. ap (λ (es : List (List ℕ × ℕ)). number_in es other) c.in_ok-enter-in-None.ensures.ok
    ∙ c.found_again.ensures groups group other c.len.result
    ∙ ap (λ k. option_or (number_in groups other) (cond (bytes_eq other group) (Some k) None)) count) g n
    ∙ ap (λ x. cond (is_same g n x node) (Some c.args.place) (in_group tables (number_in groups g) n)) same_group
    ∙ ap (λ x. cond (is_same g n c.args.group.now x) (Some c.args.place) (in_group tables (number_in groups g) n)) same_node
    ∙ ap (λ (i : IndexData). cond (is_same g n c.args.group.now c.args.node.now) (Some c.args.place) (place_in i g n)) c.self.view_is
