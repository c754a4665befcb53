-- A call changes nothing of what a user holds whose call it isn't.
use Rattle.std.proofs.Common.{◌≡◌, ◌∙◌, ◌&&◌, ◌||◌, ◌==◌, ℕ, Bool, true, false, not, cond, List, [], ◌∷◌, ◌++◌, Option, Some, None, map, slice_get, refl, sym, ap, arith}
use Rattle.std.specs.List.{filter, find, fold, list_any, sum_by}
use Rattle.std.specs.Option.{option_map_or}
use Rattle.std.specs.Str.{bytes_eq}
use Rattle.std.proofs.lemmas.List.Sums.{sum_by_push, sum_by-append}
use Rattle.spk_quota.specs.Calls.{Call, Clear, Connect, DiscardWill, Ended, Forget, Publish, Resume, Subscribe, Unsubscribe, is_by, is_clear, is_owner, step}
use Rattle.spk_quota.specs.Data.{FilterData, MessageData, QuotaData, SessionData}
use Rattle.spk_quota.specs.Held.{bytes_for, held}
use Rattle.spk_quota.specs.Step.{connected, discarded, ended, goes_on, is_filter, is_here, is_left, is_retained, is_session, bytes_on, is_will_of, left_at, lets_in, lets_retain, lets_subscribe, published, resumed, retained_of, seated, settled, stays_beside, subscribed, user_of, will_message, with_conn, with_filter, with_session, with_will, without_session}
use Rattle.spk_quota.specs.declared.limits.Held.{Held}
use Rattle.spk_quota.specs.declared.limits.Limits.{Limits}
use Rattle.spk_quota.proofs.Figures.{five, seated-count}
use Rattle.spk_quota.proofs.Lists.{any-found, any-keeps, filter-keeps, filter-twice, sum-map}
use Rattle.spk_quota.proofs.Settling.{settled_by}
use Rattle.spk_quota.proofs.Weights.{IsOfUser, and-first, fails-not, filter_weight, filters-keep, here_weight, kept_weight, light-bytes, light-filter, light-here, light-message, light-session, message_weight, other, put-all-keeps, retained-whose, sessions-keep}

pub without-keeps : (d : QuotaData) (owner user : ℕ) (client : List ℕ) → (owner == user) ≡ false → held (without_session owner client d) user ≡ held d user
without-keeps d owner user client apart =
    five _ _ _ _ _ _ _ _ _ _
    (sessions-keep (here_weight user) owner user client d.sessions (light-here user) apart)
    (sessions-keep (kept_weight user) owner user client d.sessions (light-session user) apart)
    (filters-keep owner user client d.filters apart)
    refl refl

-- a session that is made anew, with filters of its own
with-keeps : (d : QuotaData) (user : ℕ) (s : SessionData) (fs : List FilterData) → (s.user == user) ≡ false → sum_by (filter_weight user) fs ≡ 0
    → held (with_session s fs d) user ≡ held d user
with-keeps d user s fs apart light =
    five _ _ _ _ _ _ _ _ _ _
    (put (here_weight user) (light-here user))
    (put (kept_weight user) (light-session user))
    (omega (arith, sum_by-append (filter_weight user) (without_session s.user s.client d).filters fs, light, filters-keep s.user user s.client d.filters apart))
    refl refl
  where
    put : (g : SessionData → ℕ) → IsOfUser user g → sum_by g ((without_session s.user s.client d).sessions ++ s ∷ []) ≡ sum_by g d.sessions
    put g light =
        omega (arith, sum_by_push g (without_session s.user s.client d).sessions s, light s apart, sessions-keep g s.user user s.client d.sessions light apart)

will-keeps : (d : QuotaData) (owner user conn : ℕ) (will : Option (List ℕ × ℕ)) → (owner == user) ≡ false → held (with_will owner conn will d) user ≡ held d user
will-keeps d owner user conn None apart = refl
will-keeps d owner user conn (Some w) apart =
    let m = will_message owner conn w in
    five _ _ _ _ _ _ _ _ _ _ refl refl refl
    (omega (arith, sum_by_push (message_weight user) d.messages m, light-message user m apart))
    (omega (arith, sum_by_push (bytes_for user) d.messages m, light-bytes user m apart))

-- another user's session that has another connection
seated-apart : (user owner conn : ℕ) (client : List ℕ) (ss : List SessionData) → (owner == user) ≡ false
    → sum_by (here_weight user) (map (with_conn owner client conn) ss) ≡ sum_by (here_weight user) ss
seated-apart user owner conn client ss apart = sum-map (with_conn owner client conn) (here_weight user) ss (λ s. one s (is_session owner client s) refl)
  where
    one : (s : SessionData) (b : Bool) → is_session owner client s ≡ b → here_weight user (cond b (record s { conn = Some conn }) s) ≡ here_weight user s
    one s true is =
        let gone = other s.user owner user (and-first (s.user == owner) (bytes_eq s.client client) is) apart in
        light-here user (record s { conn = Some conn }) gone ∙ sym (light-here user s gone)
    one s false is = refl

pub connect-keeps : (d : QuotaData) (owner user conn : ℕ) (client : List ℕ) (clean : Bool) (will : Option (List ℕ × ℕ)) → (owner == user) ≡ false
    → held (connected d owner conn client clean will) user ≡ held d user
connect-keeps d owner user conn client clean will apart = will-keeps (seated d owner conn client clean) owner user conn will apart ∙ by (goes_on d owner client clean)
  where
    by : (b : Bool)
        → held (cond b (record d { sessions = map (with_conn owner client conn) d.sessions })
        (with_session (record { user = owner; client = client; kept = not clean; conn = Some conn; since = 0 }) [] d)) user ≡ held d user
    by true = five _ _ _ _ _ _ _ _ _ _ (seated-apart user owner conn client d.sessions apart) (seated-count user owner conn client d.sessions) refl refl refl
    by false = with-keeps d user (record { user = owner; client = client; kept = not clean; conn = Some conn; since = 0 }) [] apart refl

resume-keeps : (d : QuotaData) (owner user : ℕ) (client : List ℕ) (names : List (List ℕ)) (now : ℕ) → (owner == user) ≡ false → held (resumed d owner client names now) user ≡ held d user
resume-keeps d owner user client names now apart = by (slice_get d.limits owner)
  where
    s : SessionData
    s = record { user = owner; client = client; kept = true; conn = None; since = now }

    by : (o : Option Limits) → held (option_map_or (λ (l : Limits). with_session s (fold (with_filter owner client) [] names) d) o d) user ≡ held d user
    by None = refl
    by (Some l) = with-keeps d user s (fold (with_filter owner client) [] names) apart (put-all-keeps owner user client names [] apart)

-- a session that has more filters
pub more-keeps : (d : QuotaData) (owner user : ℕ) (client : List ℕ) (names : List (List ℕ)) → (owner == user) ≡ false
    → held (record d { filters = fold (with_filter owner client) d.filters names }) user ≡ held d user
more-keeps d owner user client names apart = five _ _ _ _ _ _ _ _ _ _ refl refl (put-all-keeps owner user client names d.filters apart) refl refl

abbrev pub subscribed_by : QuotaData → List ℕ → List (List ℕ) → Option ℕ → QuotaData
subscribed_by d client names o = option_map_or (λ owner. record d { filters = fold (with_filter owner client) d.filters names }) o d

subscribe-keeps : (d : QuotaData) (user : ℕ) (client : List ℕ) (names : List (List ℕ)) (o : Option ℕ) → option_map_or (λ owner. owner == user) o false ≡ false
    → held (subscribed_by d client names o) user ≡ held d user
subscribe-keeps d user client names None apart = refl
subscribe-keeps d user client names (Some owner) apart = more-keeps d owner user client names apart

unsubscribe-keeps : (d : QuotaData) (user : ℕ) (client : List ℕ) (names : List (List ℕ)) (o : Option ℕ) → option_map_or (λ owner. owner == user) o false ≡ false
    → held (option_map_or (λ owner. record d { filters = filter (λ (f : FilterData). not (is_filter owner client f && list_any (λ n. bytes_eq n f.filter) names)) d.filters }) o d) user ≡ held d user
unsubscribe-keeps d user client names None apart = refl
unsubscribe-keeps d user client names (Some owner) apart =
    five _ _ _ _ _ _ _ _ _ _ refl refl
    (filter-keeps (λ (f : FilterData). not (is_filter owner client f && list_any (λ n. bytes_eq n f.filter) names)) (filter_weight user) d.filters
    (λ f fails. light-filter user f (other f.user owner user
    (and-first (f.user == owner) (bytes_eq f.client client) (and-first (is_filter owner client f) (list_any (λ n. bytes_eq n f.filter) names) (fails-not _ fails))) apart)))
    refl refl

pub publish-keeps : (d : QuotaData) (owner user : ℕ) (topic : List ℕ) (bytes : ℕ) → (owner == user) ≡ false → held (published d owner topic bytes) user ≡ held d user
publish-keeps d owner user topic bytes apart =
    five _ _ _ _ _ _ _ _ _ _ refl refl refl
    (omega (
      arith,
      sum_by_push (message_weight user) (filter others d.messages) m,
      light-message user m apart,
      filter-keeps others (message_weight user) d.messages (λ x fails. light-message user x (other x.user owner user (retained-whose owner topic x (fails-not _ fails)) apart)),
    ))
    (omega (
      arith,
      sum_by_push (bytes_for user) (filter others d.messages) m,
      light-bytes user m apart,
      filter-keeps others (bytes_for user) d.messages (λ x fails. light-bytes user x (other x.user owner user (retained-whose owner topic x (fails-not _ fails)) apart)),
    ))
  where
    m : MessageData
    m = record { user = owner; topic = topic; bytes = bytes; will_of = None }

    others : MessageData → Bool
    others x = not (is_retained owner topic x)

discard-keeps : (d : QuotaData) (conn user : ℕ) → list_any (λ (m : MessageData). is_will_of conn m && m.user == user) d.messages ≡ false → held (discarded d conn) user ≡ held d user
discard-keeps d conn user none =
    five _ _ _ _ _ _ _ _ _ _ refl refl refl
    (any-keeps (is_will_of conn) (λ m. m.user == user) (message_weight user) d.messages (light-message user) none)
    (any-keeps (is_will_of conn) (λ m. m.user == user) (bytes_for user) d.messages (light-bytes user) none)

-- a connection ends: the session that it leaves, and its will

left-keeps : (d : QuotaData) (conn user : ℕ) (client : List ℕ) (now : ℕ) (o : Option SessionData) → is_owner user o ≡ false
    → held (option_map_or (λ (s : SessionData). cond s.kept (record d { sessions = map (left_at s.user conn client now) d.sessions }) (without_session s.user client d)) o d) user ≡ held d user
left-keeps d conn user client now None apart = refl
left-keeps d conn user client now (Some s) apart = by s.kept
  where
    one : (b : Bool) (x : SessionData) → kept_weight user (cond b (record x { conn = None; since = now }) x) ≡ kept_weight user x
    one true x = refl
    one false x = refl

    here : (x : SessionData) (b : Bool) → (x.user == s.user && is_here conn client x) ≡ b → here_weight user (cond b (record x { conn = None; since = now }) x) ≡ here_weight user x
    here x true is =
        let gone = other x.user s.user user (and-first (x.user == s.user) (is_here conn client x) is) apart in
        light-here user (record x { conn = None; since = now }) gone ∙ sym (light-here user x gone)
    here x false is = refl

    by : (k : Bool) → held (cond k (record d { sessions = map (left_at s.user conn client now) d.sessions }) (without_session s.user client d)) user ≡ held d user
    by true =
        five _ _ _ _ _ _ _ _ _ _
        (sum-map (left_at s.user conn client now) (here_weight user) d.sessions (λ x. here x (x.user == s.user && is_here conn client x) refl))
        (sum-map (left_at s.user conn client now) (kept_weight user) d.sessions (λ x. one (x.user == s.user && is_here conn client x) x))
        refl refl refl
    by false = without-keeps d s.user user client apart

-- of what weighs for a user nothing goes with another one's will
settled-keeps : (g : MessageData → ℕ) (conn user : ℕ) (messages : List MessageData) → ((m : MessageData) → (m.user == user) ≡ false → g m ≡ 0)
    → list_any (λ (m : MessageData). is_will_of conn m && m.user == user) messages ≡ false → sum_by g (settled conn messages) ≡ sum_by g messages
settled-keeps g conn user messages light none = by (find (is_will_of conn) messages) refl
  where
    both-kept : (will : MessageData) → (will.user == user) ≡ false → sum_by g (filter (stays_beside conn will) messages) ≡ sum_by g messages
    both-kept will gone =
        ap (sum_by g) (filter-twice (λ m. not (is_will_of conn m)) (λ m. not (is_retained will.user will.topic m)) messages)
        ∙ filter-keeps (λ m. not (is_retained will.user will.topic m)) g (filter (λ m. not (is_will_of conn m)) messages)
        (λ x fails. light x (other x.user will.user user (retained-whose will.user will.topic x (fails-not _ fails)) gone))
        ∙ any-keeps (is_will_of conn) (λ m. m.user == user) g messages light none

    by : (o : Option MessageData) → find (is_will_of conn) messages ≡ o → sum_by g (settled_by conn messages o) ≡ sum_by g messages
    by None is = refl
    by (Some will) is =
        let gone = any-found (is_will_of conn) (λ m. m.user == user) messages will none is in
        omega (
          arith,
          sum_by_push g (filter (stays_beside conn will) messages) (retained_of will (bytes_on will.user will.topic messages)),
          light (retained_of will (bytes_on will.user will.topic messages)) gone,
          both-kept will gone,
        )

ended-keeps : (d : QuotaData) (conn user : ℕ) (client : List ℕ) (now : ℕ) → list_any (λ (m : MessageData). is_will_of conn m && m.user == user) d.messages ≡ false
    → is_owner user (find (is_here conn client) d.sessions) ≡ false → held (ended d conn client now) user ≡ held d user
ended-keeps d conn user client now none apart =
    let of_session = left-keeps d conn user client now (find (is_here conn client) d.sessions) apart in
    five _ _ _ _ _ _ _ _ _ _ (ap (λ (h : Held). h.connections) of_session) (ap (λ (h : Held). h.sessions) of_session) (ap (λ (h : Held). h.filters) of_session)
    (settled-keeps (message_weight user) conn user d.messages (light-message user) none)
    (settled-keeps (bytes_for user) conn user d.messages (light-bytes user) none)

forget-keeps : (d : QuotaData) (user : ℕ) (client : List ℕ) (o : Option SessionData) → is_owner user o ≡ false
    → held (option_map_or (λ (s : SessionData). without_session s.user client d) o d) user ≡ held d user
forget-keeps d user client None apart = refl
forget-keeps d user client (Some s) apart = without-keeps d s.user user client apart

-- ---- each call

neither : (a b : Bool) → (a || b) ≡ false → (a ≡ false) × (b ≡ false)
neither true b h = cc
neither false b h = (refl, h)

let-in : (b : Bool) (new old : QuotaData) (user : ℕ) → held new user ≡ held old user → held (cond b new old) user ≡ held old user
let-in true new old user same = same
let-in false new old user same = refl

pub call-keeps : (d : QuotaData) (call : Call) (user : ℕ) → is_clear call ≡ false → is_by d call user ≡ false → held (step d call) user ≡ held d user
call-keeps d (Resume owner client names now) user other_one apart = resume-keeps d owner user client names now apart
call-keeps d (Connect owner conn client clean will) user other_one apart =
    let-in (lets_in d owner conn client clean will) (connected d owner conn client clean will) d user (connect-keeps d owner user conn client clean will apart)
call-keeps d (Subscribe client names) user other_one apart =
    let-in (lets_subscribe d client names) (subscribed d client names) d user (subscribe-keeps d user client names (user_of d client) apart)
call-keeps d (Unsubscribe client names) user other_one apart = unsubscribe-keeps d user client names (user_of d client) apart
call-keeps d (Publish owner topic bytes) user other_one apart =
    let-in (lets_retain d owner topic bytes) (published d owner topic bytes) d user (publish-keeps d owner user topic bytes apart)
call-keeps d (Clear topic) user other_one apart = cc
call-keeps d (DiscardWill conn) user other_one apart = discard-keeps d conn user apart
call-keeps d (Ended conn client now) user other_one apart =
    let both = neither _ _ apart in
    ended-keeps d conn user client now both.0 both.1
call-keeps d (Forget client) user other_one apart = forget-keeps d user client (find (is_left client) d.sessions) apart
