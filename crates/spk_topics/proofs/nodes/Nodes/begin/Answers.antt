use Rattle.std.proofs.Common.{◌≡◌, ◌++◌, ◌∷◌, [], List, ℕ, Some, None, sym, ap, ◌∙◌, subst}
use Rattle.std.specs.Prelude.{Contains}
use Rattle.std.specs.Option.{option_map}
use Rattle.std.specs.Ordering.{nat_cmp}
use Rattle.std.specs.BTreeMap.{get}
use Rattle.spk_topics.specs.declared.nodes.Nodes.{Nodes}
use Rattle.spk_topics.specs.declared.walk.Ahead.{Ahead}
use Rattle.spk_topics.specs.Levels.{levels, levels_left}
use Rattle.spk_topics.specs.Nodes.{rows_of, child_of, up_of}
use Rattle.spk_topics.specs.Paths.{path}
use Rattle.spk_topics.specs.Walk.{IsAheadOf, IsOnTheWay, Way, front_of, way_of}
use Rattle.spk_topics.proofs.FitLemmas.{dollar_is}
use Rattle.spk_topics.proofs.PathLemmas.{none_some, one}
use Rattle.spk_topics.proofs.WalkLemmas.{front_last, way_barred, way_begun}
use Rattle.spk_topics.proofs.nodes.Nodes.begin.Goals as goal

abbrev Enters : Nodes → ℕ → List ℕ → List Way → Type 0
Enters nodes n level next = (m : ℕ) → child_of nodes n level ≡ Some m → (left : List (List ℕ)) × (path (rows_of nodes) m ≡ path (rows_of nodes) n ++ level ∷ left) × Contains next (m, left)

entered : (nodes : Nodes) (n : ℕ) (level : List ℕ) (way : Way) (next : List Way) → IsAheadOf nodes n level way → Contains next way → Enters nodes n level next
entered nodes n level way next (edge, is) among m e =
    let at : way.0 ≡ m = one way.0 m (sym edge ∙ e) in
    (way.1, ap (path (rows_of nodes)) (sym at) ∙ is, subst (λ x. Contains next (x, way.1)) at among)

nowhere : (nodes : Nodes) (n : ℕ) (level : List ℕ) (next : List Way) → child_of nodes n level ≡ None → Enters nodes n level next
nowhere nodes n level next none m e = absurd (none_some m (sym none ∙ e))

pub returns-in-Some-clause-way : goal.returns-in-Some-clause-way
returns-in-Some-clause-way c = λ found.
    let n = c.args.self.now in
    let next = front_of c.push.new.self.items in
    way_barred (rows_of n) c.args.topic.now (child_of n) (up_of n) c.requires.sound.tree c.requires.sound.empty c.cut.result.0.now (levels_left (option_map (λ rest. rest.now) c.cut.result.1)) (get nat_cmp found) next
    (dollar_is c.args.topic.now (sym c.begins_with_dollar.ensures ∙ c.if-begins_with_dollar.true)) c.cut.ensures.levels
    (entered n 0 c.cut.result.0.now (way_of c.in-Some.ahead) next c.in-Some.ensures.some (front_last c.new-front.result.items c.push.new.self.items c.in-Some.ahead c.in_ok-push.ensures.items))

pub returns-then-begins_with_dollar-clause-way : goal.returns-then-begins_with_dollar-clause-way
returns-then-begins_with_dollar-clause-way c = λ found.
    let n = c.args.self.now in
    let next = front_of c.new-front.result.items in
    way_barred (rows_of n) c.args.topic.now (child_of n) (up_of n) c.requires.sound.tree c.requires.sound.empty c.cut.result.0.now (levels_left (option_map (λ rest. rest.now) c.cut.result.1)) (get nat_cmp found) next
    (dollar_is c.args.topic.now (sym c.begins_with_dollar.ensures ∙ c.if-begins_with_dollar.true)) c.cut.ensures.levels
    (nowhere n 0 c.cut.result.0.now next c.in_default.ensures.none)

pub returns-clause-way : goal.returns-clause-way
returns-clause-way c = λ found.
    let n = c.args.self.now in
    let items : c.push-2.new.self.items ≡ c.root.result ∷ [] = c.in_ok-push-2.ensures.items ∙ ap (λ (xs : List Ahead). xs ++ c.root.result ∷ []) c.new-front.ensures.items in
    let front : front_of c.push-2.new.self.items ≡ (0, []) ∷ [] = ap front_of items ∙ ap (λ (w : Way). w ∷ []) c.root.ensures in
    subst (λ (ws : List Way). IsOnTheWay (rows_of n) c.args.topic.now (up_of n) (get nat_cmp found) ws (levels c.args.topic.now)) (sym front)
    (way_begun (rows_of n) c.args.topic.now (child_of n) (up_of n) c.requires.sound.tree c.requires.sound.empty (get nat_cmp found))
