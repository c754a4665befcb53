-- Texts by their order.
use Rattle.std.specs.Prelude.{◌≡◌, ◌||◌, ℕ, Bool, List, is_some}
use Rattle.std.specs.List.{list_any}
use Rattle.std.specs.BTreeMap.{get_by}
use Rattle.std.specs.Cmp.Lexicographic.{slice_cmp}
use Rattle.std.specs.Ordering.{nat_cmp}
use Rattle.spk_quota.specs.Data.{FilterData}
use Rattle.spk_quota.specs.Step.{is_it}
use Rattle.spk_quota.specs.declared.names.Names.{Names}

-- whether a text is one of them
abbrev pub has : Names → List ℕ → Bool
has t name = is_some (get_by (λ k. slice_cmp nat_cmp name k.now) t.by_text)

-- the filters of a session among these are those texts, its own and others that were named
abbrev pub AreKnown : ℕ → List ℕ → Names → Names → List FilterData → Type 0
AreKnown user client own named filters = (name : List ℕ) → (has own name || has named name) ≡ list_any (is_it user client name) filters
