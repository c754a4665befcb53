-- Topic filters (MQTT 3.1.1, section 4.7).
use Rattle.std.specs.Prelude.{◌≡◌, ℕ, Bool, true, List, is_none}
use Rattle.std.specs.List.{list_all}
use Rattle.spk_topics.specs.Text.{filter_refusal}

-- a text that nothing refuses
unfoldable pub is_filter : List ℕ → Bool
is_filter name = is_none (filter_refusal name)

-- each entry of a SUBSCRIBE has one
abbrev pub AreFilters : List (List ℕ × ℕ) → Type 0
AreFilters entries = list_all (λ e. is_filter e.0) entries ≡ true
