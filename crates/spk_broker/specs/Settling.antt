-- What is left where a call is settled.
use Rattle.std.specs.Prelude.{Bool, not, List, [], ◌∷◌, is_some, if◌then◌else◌}
use Rattle.spk_broker_rules.specs.Data as plain
use Rattle.spk_broker.specs.Both.{Both}
use Rattle.spk_broker.specs.View.{newcomer_was}
use Rattle.spk_broker.specs.declared.newcomer.Newcomer.{Newcomer}

-- as before the call, unless it left in it
abbrev pub newcomer_left : Newcomer → List plain.Newcomer
newcomer_left g = if g.gone then [] else newcomer_was g ∷ []

-- as before the call, unless it ended in it
abbrev pub session_left : Both → List plain.Session
session_left b = if is_some b.now then b.was ∷ [] else []

-- whether it ended in this call
abbrev pub has_ended : Both → Bool
has_ended b = not (is_some b.now)
