use Rattle.std.proofs.Common.{◌≡◌, List, ℕ, Ok, Err, Result, sym, subst}
use Rattle.std.specs.Prelude.{IfOk, OnOk}
use Rattle.spk_topics.specs.Grants.{Finds}
use Rattle.spk_topics.specs.Nodes.{rows_of, child_of, up_of}
use Rattle.spk_topics.specs.Rows.{grants_of}
use Rattle.spk_topics.proofs.FindLemmas.{finds}
use Rattle.spk_topics.proofs.ListLemmas.{apart_single}
use Rattle.spk_topics.proofs.WholeChanges.{apart_of}
use Rattle.spk_topics.proofs.tree.find_in.Goals as goal

-- what a list holds that has certain items
if_ok : {A E : Type 0} (r : Result A E) (items : A → List (ℕ × ℕ)) (is : List (ℕ × ℕ)) (Q : Type 0) (P : List (ℕ × ℕ) → Type 0) → IfOk r (λ a. items a ≡ is) → OnOk r Q → (Q → P is) → IfOk r (λ a. P (items a))
if_ok (Ok a) items is Q P e q f = subst P (sym e) (f q)
if_ok (Err e) items is Q P h q f = tt

pub returns-clause-ok : goal.returns-clause-ok
returns-clause-ok c =
    let n = c.args.nodes.now in
    let rows = rows_of n in
    if_ok c.listed.result (λ list. list.items) c.in_ok-found.found.entries _ (Finds (grants_of rows) c.args.topic.now) c.listed.ensures.ok c.listed.ensures.ordered
    (λ ordered. finds rows c.args.topic.now c.in_ok-found.found (apart_single rows (apart_of rows (child_of n) (up_of n) c.requires.sound.tree c.requires.sound.empty)) ordered c.in_ok-found.ensures.ok)
