-- Data that are put together part by part.
use Rattle.std.proofs.Common.{◌≡◌, ℕ, List, [], ◌∷◌, ◌++◌, map, sym, ap, ◌∙◌}
use Rattle.std.specs.List.{fold}
use Rattle.std.proofs.lemmas.List.{append-nil, append_assoc}
use Rattle.std.proofs.lemmas.List.Sums.{fold-append}
use Rattle.spk_broker_rules.specs.Data.{Newcomer, Session, Stored, Broker}
use Rattle.spk_broker_rules.specs.Table.{Table}
use Rattle.spk_broker_replay.specs.Parts.{begun, parts, retained_of, session_of, waiting_of, with_part}
use Rattle.spk_broker_replay.specs.Replay.{bare_newcomer, restored, timed_session}

abbrev with_newcomers : Broker → List Newcomer → Broker
with_newcomers b gs = record b { newcomers = gs }

abbrev with_sessions : Broker → List Session → Broker
with_sessions b ss = record b { sessions = ss }

abbrev with_retained : Broker → Table Stored → Broker
with_retained b t = record b { retained = t }

all-newcomers : (gs : List Newcomer) (b : Broker) → fold with_part b (map waiting_of gs) ≡ with_newcomers b (b.newcomers ++ map bare_newcomer gs)
all-newcomers [] b = ap (with_newcomers b) (sym (append-nil b.newcomers))
all-newcomers (g ∷ gs) b =
    all-newcomers gs (with_newcomers b (b.newcomers ++ bare_newcomer g ∷ [])) ∙ ap (with_newcomers b) (append_assoc b.newcomers (bare_newcomer g ∷ []) (map bare_newcomer gs))

all-sessions : (ss : List Session) (b : Broker) → fold with_part b (map session_of ss) ≡ with_sessions b (b.sessions ++ map timed_session ss)
all-sessions [] b = ap (with_sessions b) (sym (append-nil b.sessions))
all-sessions (s ∷ ss) b =
    all-sessions ss (with_sessions b (b.sessions ++ timed_session s ∷ [])) ∙ ap (with_sessions b) (append_assoc b.sessions (timed_session s ∷ []) (map timed_session ss))

all-retained : (t : Table Stored) (b : Broker) → fold with_part b (map retained_of t) ≡ with_retained b (b.retained ++ t)
all-retained [] b = ap (with_retained b) (sym (append-nil b.retained))
all-retained (e ∷ t) b =
    all-retained t (with_retained b (b.retained ++ e ∷ [])) ∙ ap (with_retained b) (append_assoc b.retained (e ∷ []) t)

pub together : (limit : ℕ) (b : Broker) → fold with_part (begun limit b.given b.made) (parts b) ≡ restored limit b
together limit b =
    let start = begun limit b.given b.made in
    let behind = with_newcomers start (map bare_newcomer b.newcomers) in
    fold-append with_part start (map waiting_of b.newcomers) (map session_of b.sessions ++ map retained_of b.retained)
    ∙ ap (λ x. fold with_part x (map session_of b.sessions ++ map retained_of b.retained)) (all-newcomers b.newcomers start)
    ∙ fold-append with_part behind (map session_of b.sessions) (map retained_of b.retained)
    ∙ ap (λ x. fold with_part x (map retained_of b.retained)) (all-sessions b.sessions behind)
    ∙ all-retained b.retained (with_sessions behind (map timed_session b.sessions))
