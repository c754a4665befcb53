use Rattle.std.proofs.Common.{◌∷◌, subst, sym, ◌∙◌}
use Rattle.std.specs.Option.{option_map}
use Rattle.std.specs.Ordering.{nat_cmp}
use Rattle.std.specs.BTreeMap.{get}
use Rattle.std.proofs.lemmas.Bool.{false≢true}
use Rattle.spk_topics.specs.Levels.{levels_left}
use Rattle.spk_topics.specs.Nodes.{child_of, rows_of, up_of}
use Rattle.spk_topics.specs.Walk.{IsSettled, front_of}
use Rattle.spk_topics.proofs.WalkLemmas.{front_last, settled_along}
use Rattle.spk_topics.proofs.nodes.Nodes.step_along.Goals as goal

pub returns-in_ok-push-clause-settled : goal.returns-in_ok-push-clause-settled
returns-in_ok-push-clause-settled c = λ rest.
    let n = c.args.self.now in
    let own = c.cut.result.0.now in
    let own_rest = levels_left (option_map (λ t. t.now) c.cut.result.1) in
    let found = get nat_cmp c.gather_at_hash.new.found in
    let next = front_of c.push.new.self.items in
    subst (λ ls. IsSettled (rows_of n) c.args.topic.now (up_of n) found next (c.args.number, ls) (c.args.level.now ∷ rest) rest) (sym c.cut.ensures.levels)
    (settled_along (rows_of n) c.args.topic.now (child_of n) (up_of n) c.requires.sound.tree c.requires.sound.empty found next c.args.number own c.args.level.now own_rest rest
    c.in_ok-gather_at_hash.ensures.taken (λ _. front_last c.args.next.now.items c.push.new.self.items _ c.in_ok-push.ensures.items))

pub returns-else-leads-clause-settled : goal.returns-else-leads-clause-settled
returns-else-leads-clause-settled c = λ rest.
    let n = c.args.self.now in
    let own = c.cut.result.0.now in
    let own_rest = levels_left (option_map (λ t. t.now) c.cut.result.1) in
    let found = get nat_cmp c.gather_at_hash.new.found in
    let next = front_of c.args.next.now.items in
    subst (λ ls. IsSettled (rows_of n) c.args.topic.now (up_of n) found next (c.args.number, ls) (c.args.level.now ∷ rest) rest) (sym c.cut.ensures.levels)
    (settled_along (rows_of n) c.args.topic.now (child_of n) (up_of n) c.requires.sound.tree c.requires.sound.empty found next c.args.number own c.args.level.now own_rest rest
    c.in_ok-gather_at_hash.ensures.taken (λ w. absurd (false≢true (sym c.if-leads.false ∙ c.leads.ensures w))))
