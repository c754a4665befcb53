-- A change of one session between calls: of the first that passes.
use Rattle.std.specs.Prelude.{◌≡◌, ℕ, Bool, List, [], ◌∷◌, map, Option, Some, None}
use Rattle.std.specs.List.{find}
use Rattle.spk_broker_rules.specs.Data as plain
use Rattle.spk_broker_rules.specs.Lawful.{Rises}
use Rattle.spk_broker_rules.specs.Step.{swap}
use Rattle.spk_broker.specs.Asking.{sessions_now}
use Rattle.spk_broker.specs.Both.{Both}
use Rattle.spk_broker.specs.View.{session_was}

abbrev pub changed_at : Option plain.Session → (plain.Session → plain.Session) → List plain.Session → List plain.Session
changed_at None change sessions = sessions
changed_at (Some s) change sessions = swap s.key (change s ∷ []) sessions

-- the sessions are settled, and the first that passed is changed
pub record IsChanged (old new : List Both) (test : plain.Session → Bool) (change : plain.Session → plain.Session) : Type 0 where
  pub done : (top : ℕ) → Rises 0 top (map session_was old) → map session_was new ≡ changed_at (find test (map session_was old)) change (map session_was old)
  pub settled : sessions_now new ≡ map session_was new

-- the sessions without this one
abbrev pub forgot : Option plain.Session → List plain.Session → List plain.Session
forgot None sessions = sessions
forgot (Some s) sessions = swap s.key [] sessions
