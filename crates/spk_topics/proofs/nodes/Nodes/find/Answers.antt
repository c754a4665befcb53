use Rattle.std.proofs.Common.{◌≡◌, ◌∷◌, [], ap, ◌∙◌, sym, subst, List, length, arith}
use Rattle.std.proofs.lemmas.Grind.{common_steps}
use Rattle.std.specs.Prelude.{Vec}
use Rattle.std.specs.declared.alloc.Global.{Global}
use Rattle.std.specs.Option.{option_map}
use Rattle.std.specs.Ordering.{nat_cmp}
use Rattle.std.specs.BTreeMap.{get}
use Rattle.spk_topics.specs.declared.walk.Ahead.{Ahead}
use Rattle.spk_topics.specs.Levels.{levels_left}
use Rattle.spk_topics.specs.Nodes.{rows_of, up_of}
use Rattle.spk_topics.specs.Walk.{IsOnTheWay, front_of}
use Rattle.spk_topics.proofs.WalkLemmas.{none_held, all_found, sound_more, nothing_ahead}
use Rattle.spk_topics.proofs.nodes.Nodes.find.Goals as goal

pub loop-left-preserved : goal.loop-left-preserved
loop-left-preserved c =
    let rows = rows_of c.args.self.now in
    let up = up_of c.args.self.now in
    let topic = c.args.topic.now in
    let a = get nat_cmp c.loop-left.found in
    let b = get nat_cmp c.pass.new.found in
    let rest = levels_left (option_map (λ rest. rest.now) c.cut.result.1) in
    let begun : IsOnTheWay rows topic up a (front_of c.loop-left.front.items) (c.cut.result.0.now ∷ rest) =
    subst (IsOnTheWay rows topic up a (front_of c.loop-left.front.items)) (ap (λ o. levels_left (option_map (λ rest. rest.now) o)) c.in-Some.is ∙ c.cut.ensures.levels) c.loop-left.invariant.way in
    let here : IsOnTheWay rows topic up a (front_of c.deref.result.now) (c.cut.result.0.now ∷ rest) =
    subst (λ (f : List Ahead). IsOnTheWay rows topic up a (front_of f) (c.cut.result.0.now ∷ rest)) (sym c.deref.ensures.value) begun in
    record {
      sound = sound_more rows topic a b c.loop-left.invariant.sound c.in_ok-pass.ensures.gains;
      way = subst (λ (v : Vec Ahead Global). IsOnTheWay rows topic up b (front_of v.items) rest) (sym c.swap.ensures.x_after) (c.in_ok-pass.ensures.way rest here);
    }

pub returns-then-is_empty-clause-ok : goal.returns-then-is_empty-clause-ok
returns-then-is_empty-clause-ok c =
    let rows = rows_of c.args.self.now in
    let found = get nat_cmp c.loop-left.found in
    let none : length c.loop-left.front.items ≡ 0 = grind (arith, common_steps, c.loop-left.front.ok) in
    record {
      sound = c.loop-left.invariant.sound;
      all = nothing_ahead rows c.args.topic.now (up_of c.args.self.now) found c.loop-left.front.items (levels_left (option_map (λ rest. rest.now) c.loop-left.left)) none c.loop-left.invariant.way;
    }

pub returns-clause-ok : goal.returns-clause-ok
returns-clause-ok c =
    let rows = rows_of c.args.self.now in
    let up = up_of c.args.self.now in
    let topic = c.args.topic.now in
    let a = get nat_cmp c.loop-left.found in
    let begun : IsOnTheWay rows topic up a (front_of c.deref-2.result.now) [] =
    subst (λ (f : List Ahead). IsOnTheWay rows topic up a (front_of f) []) (sym c.deref-2.ensures.value)
    (subst (IsOnTheWay rows topic up a (front_of c.loop-left.front.items)) (ap (λ o. levels_left (option_map (λ rest. rest.now) o)) c.in_default.is) c.loop-left.invariant.way) in
    all_found rows topic a (get nat_cmp c.arrive.new.found) c.loop-left.invariant.sound c.in_ok-arrive.ensures.gains (c.in_ok-arrive.ensures.all begun)

pub loop-left-init : goal.loop-left-init
loop-left-init c = record {
  sound = λ k q h. absurd (none_held c.new-found.result.entries k q h c.new-found.ensures.empty);
  way = c.in_ok-begun.ensures.way c.new-found.result;
}
