use Rattle.std.proofs.Common.{◌≡◌, ◌∙◌, ◌&&◌, ◌==◌, ℕ, Bool, true, false, not, cond, List, [], Option, Some, None, arith, ap, count_by, map, refl}
use Rattle.std.specs.List.{filter, list_any}
use Rattle.std.specs.Str.{bytes_eq}
use Rattle.std.proofs.lemmas.Bool.{eq-eqb}
use Rattle.std.proofs.lemmas.List.Sums.{sum_by_push}
use Rattle.std.proofs.lemmas.Slice.Eq.{bytes_eq-Decides}
use Rattle.spk_quota.specs.Data.{MessageData, QuotaData, SessionData}
use Rattle.spk_quota.specs.Step.{connected, goes_on, has_conn, is_retained, is_session, published, with_conn, with_session, without_session}
use Rattle.spk_quota.proofs.Lists.{any-last, any-map, any-wider, none-left}
use Rattle.spk_quota.proofs.Weights.{and-first, and-second, one_if}
use Rattle.spk_quota.proofs.laws.what_is_let_in_counts.Goals as goal

both : (a b : Bool) → a ≡ true → b ≡ true → (a && b) ≡ true
both true b h k = k
both false b h k = cc

is-here : (d : QuotaData) (user conn : ℕ) (client : List ℕ) (clean : Bool) (will : Option (List ℕ × ℕ))
    → list_any (λ s. is_session user client s && has_conn s.conn conn) (connected d user conn client clean will).sessions ≡ true
is-here d user conn client clean will = by (goes_on d user client clean) refl
  where
    session : SessionData
    session = record { user = user; client = client; kept = not clean; conn = Some conn; since = 0 }

    here : SessionData → Bool
    here s = is_session user client s && has_conn s.conn conn

    stands : SessionData → Bool
    stands s = is_session user client s && s.kept

    seated-one : (s : SessionData) (b : Bool) → is_session user client s ≡ b → b ≡ true → here (cond b (record s { conn = Some conn }) s) ≡ true
    seated-one s true is h = both (is_session user client s) (conn == conn) is (eq-eqb conn conn refl)
    seated-one s false is h = cc

    by : (on : Bool) → goes_on d user client clean ≡ on
        → list_any here (cond on (record d { sessions = map (with_conn user client conn) d.sessions }) (with_session session [] d)).sessions ≡ true
    by true is =
        any-map here (with_conn user client conn) d.sessions
        ∙ any-wider stands (λ s. here (with_conn user client conn s)) d.sessions
        (λ s h. seated-one s (is_session user client s) refl (and-first (is_session user client s) s.kept h))
        (and-second (not clean) (list_any stands d.sessions) is)
    by false is =
        any-last here (without_session user client d).sessions session
        (both ((user == user) && bytes_eq client client) (conn == conn)
        (both (user == user) (bytes_eq client client) (eq-eqb user user refl) ((bytes_eq-Decides client client).1 refl))
        (eq-eqb conn conn refl))

exactly-one : (d : QuotaData) (user : ℕ) (topic : List ℕ) (bytes : ℕ) → count_by (is_retained user topic) (published d user topic bytes).messages ≡ 1
exactly-one d user topic bytes =
    let m : MessageData = record { user = user; topic = topic; bytes = bytes; will_of = None } in
    omega (
      arith,
      sum_by_push (λ x. one_if (is_retained user topic x)) (filter (λ x. not (is_retained user topic x)) d.messages) m,
      none-left (is_retained user topic) d.messages,
      ap one_if (both (user == user) (bytes_eq topic topic) (eq-eqb user user refl) ((bytes_eq-Decides topic topic).1 refl)),
    )

pub returns-clause-connection : goal.returns-clause-connection
returns-clause-connection c = is-here

pub returns-clause-published : goal.returns-clause-published
returns-clause-published c = exactly-one
