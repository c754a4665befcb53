use Rattle.std.proofs.Common.{map, sym, ap, subst, ◌∙◌}
use Rattle.spk_history.specs.Entry.{said}
use Rattle.spk_history_rows.specs.Data.{Follows, RowsData}
use Rattle.spk_history_rows.specs.Keeping.{IsNaming, birth_at}
use Rattle.spk_history_rows.specs.View.{node_view}
use Rattle.spk_history_rows.proofs.Taking.{Steps, follows_is, row_is}
use Rattle.spk_history_rows.proofs.rows.Rows.take.Goals as goal

pub returns-clause-row : goal.returns-clause-row
returns-clause-row c =
    let e = said c.args.entry.now in
    let i = c.self.inside in
    let j = c.self-2.inside in
    let r : RowsData = record { names = map node_view i.names.items; births = i.births.items; numbers = i.numbers.items; count = i.count } in
    let b : RowsData = record { names = map node_view j.names.items; births = j.births.items; numbers = j.numbers.items; count = j.count } in
    let steps : Steps r c.learn.new.self b e c.place_of-node.result c.birth_at-birth.result = record {
      naming = subst (λ x. IsNaming x e c.learn.new.self) (sym c.self.view_is) c.in_ok-learn.ensures.named;
      place = c.place_of-node.ensures;
      births = c.self-2.view_is ∙ c.bear.ensures;
      birth = c.birth_at-birth.ensures ∙ ap (λ (x : RowsData). birth_at x.births c.place_of-node.result) (sym c.self-2.view_is);
    } in
    λ rows part f. row_is r c.learn.new.self b e c.place_of-node.result c.birth_at-birth.result rows part steps
    (subst (λ x. Follows x rows part) (sym c.self.view_is) f)

pub returns-clause-follows : goal.returns-clause-follows
returns-clause-follows c =
    let e = said c.args.entry.now in
    let i = c.self.inside in
    let j = c.self-2.inside in
    let r : RowsData = record { names = map node_view i.names.items; births = i.births.items; numbers = i.numbers.items; count = i.count } in
    let b : RowsData = record { names = map node_view j.names.items; births = j.births.items; numbers = j.numbers.items; count = j.count } in
    let steps : Steps r c.learn.new.self b e c.place_of-node.result c.birth_at-birth.result = record {
      naming = subst (λ x. IsNaming x e c.learn.new.self) (sym c.self.view_is) c.in_ok-learn.ensures.named;
      place = c.place_of-node.ensures;
      births = c.self-2.view_is ∙ c.bear.ensures;
      birth = c.birth_at-birth.ensures ∙ ap (λ (x : RowsData). birth_at x.births c.place_of-node.result) (sym c.self-2.view_is);
    } in
    λ rows part f. follows_is r c.learn.new.self b e c.place_of-node.result c.birth_at-birth.result rows part steps
    (subst (λ x. Follows x rows part) (sym c.self.view_is) f)
