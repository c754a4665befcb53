use Rattle.std.proofs.Common.{◌≡◌, ◌++◌, ◌∷◌, ◌∙◌, List, ℕ, Option, Bor, Some, None, ap, append_assoc, subst, sym}
use Rattle.std.specs.Prelude.{unwrap_or}
use Rattle.std.specs.Option.{option_map}
use Rattle.spk_topics.specs.Levels.{IsParted, levels, levels_left}
use Rattle.spk_topics.specs.Nodes.{rows_of}
use Rattle.spk_topics.specs.Parting.{PartsAt}
use Rattle.spk_topics.specs.Paths.{path}
use Rattle.spk_topics.proofs.PathLemmas.{to_end}
use Rattle.spk_topics.proofs.nodes.Nodes.parting.Goals as goal

parts : (above : List (List ℕ)) (level : List ℕ) (below edge rest left : List (List ℕ)) (own : Option (Bor (List ℕ))) (d u : Bor (List ℕ)) (key : List ℕ) (more : List (List ℕ)) → u ≡ unwrap_or own d → levels u.now ≡ key ∷ more
    → IsParted edge rest (levels_left (option_map (λ t. t.now) own)) left → below ≡ above ++ level ∷ edge → ((tail : List (List ℕ)) → below ++ tail ≡ above ++ level ∷ rest → ⊥) → PartsAt above level below rest key left
parts above level below edge rest left None d u key more is cut p e stops =
    absurd (stops left
    (ap (λ x. x ++ left) e
    ∙ append_assoc above (level ∷ edge) left
    ∙ ap (λ x. above ++ level ∷ (x ++ left)) (p.one_is ∙ to_end p.common)
    ∙ ap (λ x. above ++ level ∷ x) (sym p.other_is)))
parts above level below edge rest left (Some t) d u key more is cut p e stops =
    let own : levels t.now ≡ key ∷ more = ap (λ (b : Bor (List ℕ)). levels b.now) (sym is) ∙ cut in
    record {
      common = p.common;
      more = more;
      below_is = e ∙ ap (λ x. above ++ level ∷ x) (p.one_is ∙ ap (λ x. p.common ++ x) own);
      rest_is = p.other_is;
      apart = λ tail h. p.apart key more tail own h;
    }

pub returns-clause-parts : goal.returns-clause-parts
returns-clause-parts c =
    let rows = rows_of c.args.self.now in
    let rest = levels_left (option_map (λ t. t.now) c.args.rest) in
    let left = levels_left (option_map (λ t. t.now) c.part.result.1) in
    subst (λ k. PartsAt (path rows c.args.number) c.args.level.now (path rows c.args.child) rest k left) (sym c.in_ok-key.ensures.ok)
    (parts (path rows c.args.number) c.args.level.now (path rows c.args.child) (levels_left (option_map (λ t. t.now) c.left_of.result)) rest left c.part.result.0 _ c.unwrap_or.result c.cut.result.0.now
    (levels_left (option_map (λ t. t.now) c.cut.result.1)) c.unwrap_or.ensures c.cut.ensures.levels c.part.ensures.parted c.left_of.ensures c.requires.stops)
