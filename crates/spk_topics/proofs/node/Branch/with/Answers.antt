use Rattle.std.proofs.Common.{◌∙◌, List, ℕ, Option, String, Global, Some, ap, cond}
use Rattle.std.specs.Cmp.Lexicographic.{slice_cmp}
use Rattle.std.specs.Map.{lookup}
use Rattle.std.specs.Ordering.{is_eq, nat_cmp}
use Rattle.std.specs.Str.{bytes_eq}
use Rattle.std.specs.String.{string_bytes}
use Rattle.std.specs.BTreeMap.{get_by_text}
use Rattle.std.proofs.lemmas.Map.Text.{btree_map_updates_text}
use Rattle.spk_topics.proofs.node.Branch.with.Goals as goal

abbrev by : List ℕ → List (String Global × ℕ) → Option ℕ
by l es = lookup (λ k. is_eq (slice_cmp nat_cmp l (string_bytes k))) es

pub returns-clause-ok : goal.returns-clause-ok
returns-clause-ok c = λ l.
    let first = c.insert.new.self in
    btree_map_updates_text (string_bytes c.args.level) first c.insert-2.new.self (Some c.args.number) c.in_ok-insert-2.ensures.updates l
    ∙ ap (cond (bytes_eq (string_bytes c.args.level) l) (Some c.args.number))
    (btree_map_updates_text (string_bytes c.in_ok-text.text) c.new-both.result first (Some c.args.self.now.number) c.in_ok-insert.ensures.updates l
    ∙ ap (λ (bs : List ℕ). cond (bytes_eq bs l) (Some c.args.self.now.number) (get_by_text c.new-both.result l)) (c.in_ok-text.ensures.ok ∙ c.as_str.ensures.value)
    ∙ ap (λ es. cond (bytes_eq (string_bytes c.args.self.now.level) l) (Some c.args.self.now.number) (by l es)) c.new-both.ensures.empty)
