-- What nodes lose at a moment, one by one.
use Rattle.std.proofs.Common.{◌≡◌, refl, ℕ, Bool, true, false, cond, List, [], ◌∷◌, ◌++◌, map}
use Rattle.spk_sequence.specs.Calls.{Tick}
use Rattle.spk_sequence.specs.Losses.{Called}
use Rattle.spk_host.specs.Data.{Entry}
use Rattle.spk_host.specs.Losses.{entry_loss, losing, loses_at}
use Rattle.spk_host_app.specs.Step.{losing_word, lost_at, lost_word}

first : (now : ℕ) (e : Entry) (b : Bool) (nodes : List Entry) → map (losing_word now) (cond b (e ∷ nodes) nodes) ≡ cond b (losing_word now e ∷ []) [] ++ map (losing_word now) nodes
first now e true nodes = refl
first now e false nodes = refl

pub lost_first : (now : ℕ) (e : Entry) (nodes : List Entry)
    → lost_at now (e ∷ nodes) ≡ lost_word e.group e.node (entry_loss (Called (Tick now)) e) ++ lost_at now nodes
lost_first now e nodes = first now e (loses_at now e) (losing now nodes)
