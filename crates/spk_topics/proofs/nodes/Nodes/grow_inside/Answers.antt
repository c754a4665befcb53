use Rattle.std.proofs.Common.{◌≡◌, ◌++◌, ◌∷◌, ◌∙◌, [], List, ℕ, Some, None, ap, append_assoc, cond, inl, inr, subst, sym}
use Rattle.std.specs.Option.{option_map}
use Rattle.std.specs.String.{string_bytes}
use Rattle.spk_topics.specs.Edges.{IsSeat}
use Rattle.spk_topics.specs.Levels.{levels, levels_left}
use Rattle.spk_topics.specs.Nodes.{child_of, rows_of, up_of}
use Rattle.spk_topics.specs.Parting.{PartsAt}
use Rattle.spk_topics.specs.Paths.{path}
use Rattle.spk_topics.proofs.ChangeLemmas.{keeps_more}
use Rattle.spk_topics.proofs.FitLemmas.{bytes_self}
use Rattle.spk_topics.proofs.LevelLemmas.{same_front, same_levels}
use Rattle.spk_topics.proofs.PathLemmas.{to_end}
use Rattle.spk_topics.proofs.WholeChanges.{path_hung, seat_text}
use Rattle.spk_topics.proofs.nodes.Nodes.grow_inside.Goals as goal

not_nothing : (a : List (List ℕ)) (l : List ℕ) (x : List (List ℕ)) → a ++ l ∷ x ≡ [] → ⊥
not_nothing [] l x h = cc
not_nothing (k ∷ a) l x h = cc

-- the filter's levels in front of what is left
in_front : (above : List (List ℕ)) (level : List ℕ) (below rest : List (List ℕ)) (key : List ℕ) (left all : List (List ℕ)) (p : PartsAt above level below rest key left) → all ≡ above ++ level ∷ rest → all ≡ (above ++ level ∷ p.common) ++ left
in_front above level below rest key left all p e = e ∙ ap (λ x. above ++ level ∷ x) p.rest_is ∙ sym (append_assoc above (level ∷ p.common) left)

pub before-requires : goal.before-requires
before-requires c =
    let rows = rows_of c.args.self.now in
    let p = c.in_ok-key.ensures.parts in (
      path rows c.args.number ++ c.args.level.now ∷ p.common,
      not_nothing (path rows c.args.number) c.args.level.now p.common,
      in_front (path rows c.args.number) c.args.level.now (path rows c.args.child) (levels_left (option_map (λ t. t.now) c.args.rest)) (string_bytes c.in_ok-key.key) (levels_left (option_map (λ t. t.now) c.in_ok-key.left)) (levels c.args.filter.now) p c.requires.goes_on,
    )

pub split-requires-clause-inside : goal.split-requires-clause-inside
split-requires-clause-inside c =
    let rows = rows_of c.args.self.now in
    let p = c.in_ok-key.ensures.parts in
    let above = path rows c.args.number in
    let level = c.args.level.now in
    let left = levels_left (option_map (λ t. t.now) c.in_ok-key.left) in
    let key = string_bytes c.in_ok-key.key in
    let whole = in_front above level (path rows c.args.child) (levels_left (option_map (λ t. t.now) c.args.rest)) key left (levels c.args.filter.now) p c.requires.goes_on in
    let between : levels c.before-2.result.now ≡ above ++ level ∷ p.common = same_front (levels c.before-2.result.now) (above ++ level ∷ p.common) left (sym c.before-2.ensures ∙ whole) in
    record {
      common = p.common;
      more = p.more;
      between_is = between;
      below_is = p.below_is ∙ sym (append_assoc above (level ∷ p.common) (key ∷ p.more)) ∙ ap (λ x. x ++ key ∷ p.more) (sym between);
    }

pub returns-in_default-clause-seat : goal.returns-in_default-clause-seat
returns-in_default-clause-seat c =
    let nothing : levels c.args.filter.now ≡ levels c.before-2.result.now = c.before-2.ensures ∙ ap (λ o. levels c.before-2.result.now ++ levels_left (option_map (λ t. t.now) o)) c.in_default.is ∙ to_end (levels c.before-2.result.now) in
    subst (λ t. IsSeat (rows_of c.split.new.self) (up_of c.split.new.self) t c.in_ok-place.place) (same_levels c.before-2.result.now c.args.filter.now (sym nothing)) c.in_ok-place.ensures.seat

pub add_leaf-requires-clause-goes_on : goal.add_leaf-requires-clause-goes_on
add_leaf-requires-clause-goes_on c =
    let s = c.split.new.self in
    let place = c.in_ok-place.place in
    let seat = c.in_ok-place.ensures.seat in
    let rest = levels_left (option_map (λ t. t.now) c.cut.result.1) in
    let at : path (rows_of s) place ≡ levels c.before-2.result.now =
    path_hung (rows_of s) (child_of s) (up_of s) place seat.edge c.in_ok-place.ensures.whole.sound.tree seat.hung ∙ ap levels (seat_text (rows_of s) (up_of s) c.before-2.result.now place seat) in (
      rest,
      c.before-2.ensures
          ∙ ap (λ o. levels c.before-2.result.now ++ levels_left (option_map (λ t. t.now) o)) c.in-Some.is
          ∙ ap (λ ls. levels c.before-2.result.now ++ ls) c.cut.ensures.levels
          ∙ ap (λ p. p ++ c.cut.result.0.now ∷ rest) (sym at),
    )

pub add_leaf-requires-clause-stays : goal.add_leaf-requires-clause-stays
add_leaf-requires-clause-stays c =
    let key = string_bytes c.in_ok-key.key in
    inl (inr (key, c.args.child, c.in_ok-place.ensures.leads key ∙ ap (λ b. cond b (Some c.args.child) None) (bytes_self key)))

pub returns-clause-keeps : goal.returns-clause-keeps
returns-clause-keeps c = keeps_more (rows_of c.args.self.now) (rows_of c.split.new.self) (rows_of c.add_leaf.new.self) c.split.ensures.keeps c.add_leaf.ensures.keeps
