-- The figures behind a CONNECT, a PUBLISH and a SUBSCRIBE.
use Rattle.std.proofs.Common.{◌≡◌, ◌∙◌, ◌+◌, ◌&&◌, ◌||◌, ◌==◌, ◌≤◌, ℕ, Bool, true, false, not, cond, List, [], ◌∷◌, ◌++◌, Option, Some, None, length, map, count_by, slice_get, refl, sym, ap, arith, append-nil}
use Rattle.std.specs.List.{filter, fold, list_any, sum_by}
use Rattle.std.specs.Option.{option_map, option_map_or}
use Rattle.std.specs.Str.{bytes_eq}
use Rattle.std.proofs.lemmas.Bool.{eq-eqb}
use Rattle.std.proofs.lemmas.List.Sums.{sum_by_push, sum_by-append}
use Rattle.spk_quota.specs.Data.{FilterData, MessageData, QuotaData, SessionData}
use Rattle.spk_quota.specs.Figures.{is_here_with, more_filters, more_of, others_of, sum_of}
use Rattle.spk_quota.specs.Held.{bytes_for, fits, held, is_filter_by, is_here_by, is_kept_by, is_message_by, lets}
use Rattle.spk_quota.specs.Step.{connected, goes_on, is_filter, is_session, is_retained, lets_in, lets_retain, lets_subscribe, published, user_of, will_message, with_conn, with_filter, with_message, with_session, with_will, without_retained, without_session}
use Rattle.spk_quota.specs.declared.limits.Held.{Held}
use Rattle.spk_quota.proofs.Lists.{any-weighs, sum-map, sum-mapped}
use Rattle.spk_quota.proofs.Weights.{and-first, and-second}

abbrev pub made : ℕ → ℕ → ℕ → ℕ → ℕ → Held
made a b c d e = record { connections = a; sessions = b; filters = c; retained = d; bytes = e }

pub five : (a a' b b' c c' d d' e e' : ℕ) → a ≡ a' → b ≡ b' → c ≡ c' → d ≡ d' → e ≡ e' → made a b c d e ≡ made a' b' c' d' e'
five a a' b b' c c' d d' e e' p q r s t =
    ap (λ x. made x b c d e) p ∙ ap (λ x. made a' x c d e) q ∙ ap (λ x. made a' b' x d e) r ∙ ap (λ x. made a' b' c' x e) s ∙ ap (λ x. made a' b' c' d' x) t

same-user : (user : ℕ) → (user == user) ≡ true
same-user user = eq-eqb user user refl

-- a will comes to the messages
will-count : (user conn : ℕ) (will : Option (List ℕ × ℕ)) (ms : List MessageData)
    → count_by (is_message_by user) (with_message (option_map (will_message user conn) will) ms) ≡ count_by (is_message_by user) ms + (more_of true will).retained
will-count user conn None ms = omega arith
will-count user conn (Some w) ms =
    let count : Bool → ℕ = λ b. cond b 1 0 in
    omega (arith, sum_by_push (λ m. count (is_message_by user m)) ms (will_message user conn w), ap count (same-user user))

will-bytes : (user conn : ℕ) (will : Option (List ℕ × ℕ)) (ms : List MessageData)
    → sum_by (bytes_for user) (with_message (option_map (will_message user conn) will) ms) ≡ sum_by (bytes_for user) ms + (more_of true will).bytes
will-bytes user conn None ms = omega arith
will-bytes user conn (Some w) ms =
    omega (arith, sum_by_push (bytes_for user) ms (will_message user conn w), ap (λ b. cond b w.1 0) (same-user user))

-- a session that has another connection counts as before
pub seated-count : (by user conn : ℕ) (client : List ℕ) (ss : List SessionData) → count_by (is_kept_by by) (map (with_conn user client conn) ss) ≡ count_by (is_kept_by by) ss
seated-count by user conn client ss =
    let count : Bool → ℕ = λ b. cond b 1 0 in
    sum-map (with_conn user client conn) (λ s. count (is_kept_by by s)) ss (λ s. ap count (one (is_session user client s) s))
  where
    one : (b : Bool) (s : SessionData) → is_kept_by by (cond b (record s { conn = Some conn }) s) ≡ is_kept_by by s
    one true s = refl
    one false s = refl

-- a session of this client has it, and of the others those that had one
seated-here : (user conn : ℕ) (client : List ℕ) (ss : List SessionData)
    → count_by (is_here_by user) (map (with_conn user client conn) ss) ≡ count_by (is_here_with user client) ss
seated-here user conn client ss =
    let count : Bool → ℕ = λ b. cond b 1 0 in
    sum-mapped (with_conn user client conn) (λ s. count (is_here_by user s)) (λ s. count (is_here_with user client s)) ss
    (λ s. ap count (one s (s.user == user) refl (bytes_eq s.client client)))
  where
    one : (s : SessionData) (a : Bool) → (s.user == user) ≡ a → (b : Bool) → is_here_by user (cond (a && b) (record s { conn = Some conn }) s) ≡ ((a && b) || is_here_by user s)
    one s true is true = is
    one s true is false = refl
    one s false is b = refl

-- where a kept session goes on, this is one at least
here-at-least : (d : QuotaData) (user : ℕ) (client : List ℕ) (clean : Bool) → goes_on d user client clean ≡ true → 1 ≤ count_by (is_here_with user client) d.sessions
here-at-least d user client clean on =
    any-weighs (λ s. is_session user client s && s.kept) (λ s. cond (is_here_with user client s) 1 0) d.sessions
    (λ s is. one (is_session user client s) (is_here_by user s) (and-first (is_session user client s) s.kept is))
    (and-second (not clean) (list_any (λ s. is_session user client s && s.kept) d.sessions) on)
  where
    one : (a b : Bool) → a ≡ true → 1 ≤ cond (a || b) 1 0
    one true b h = omega arith
    one false b h = cc

-- what a user holds behind a CONNECT that is let in
pub connected-held : (d : QuotaData) (user conn : ℕ) (client : List ℕ) (clean : Bool) (will : Option (List ℕ × ℕ))
    → held (connected d user conn client clean will) user
    ≡ sum_of (others_of d user client (goes_on d user client clean)) (more_of (not (goes_on d user client clean) && not clean) will)
connected-held d user conn client clean will = by (goes_on d user client clean) refl
  where
    session : SessionData
    session = record { user = user; client = client; kept = not clean; conn = Some conn; since = 0 }

    by : (on : Bool) → goes_on d user client clean ≡ on
        → held (with_will user conn will (cond on (record d { sessions = map (with_conn user client conn) d.sessions }) (with_session session [] d))) user
        ≡ sum_of (others_of d user client on) (more_of (not on && not clean) will)
    by true is =
        five _ _ _ _ _ _ _ _ _ _
        (omega (arith, seated-here user conn client d.sessions, here-at-least d user client clean is))
        (omega (arith, seated-count user user conn client d.sessions))
        (omega arith)
        (will-count user conn will d.messages)
        (will-bytes user conn will d.messages)
    by false is =
        five _ _ _ _ _ _ _ _ _ _
        here
        new
        (omega (arith, ap (count_by (is_filter_by user)) (append-nil (filter (λ f. not (is_filter user client f)) d.filters))))
        (will-count user conn will d.messages)
        (will-bytes user conn will d.messages)
      where
        here : count_by (is_here_by user) ((without_session user client d).sessions ++ session ∷ []) ≡ count_by (is_here_by user) (without_session user client d).sessions + 1
        here =
            let count : Bool → ℕ = λ b. cond b 1 0 in
            omega (arith, sum_by_push (λ s. count (is_here_by user s)) (without_session user client d).sessions session, ap count (same-user user))

        counts : (kept b : Bool) → b ≡ true → (kept && b) ≡ kept
        counts true b h = h
        counts false b h = refl

        new : count_by (is_kept_by user) ((without_session user client d).sessions ++ session ∷ []) ≡ count_by (is_kept_by user) (without_session user client d).sessions + cond (not clean) 1 0
        new =
            let count : Bool → ℕ = λ b. cond b 1 0 in
            omega (arith, sum_by_push (λ s. count (is_kept_by user s)) (without_session user client d).sessions session, ap count (counts (not clean) (user == user) (same-user user)))

-- whether a user may come to hold this
abbrev pub lets_by : QuotaData → ℕ → Held → Held → Bool
lets_by d user others more = option_map_or (λ l. fits l (held d user) (sum_of others more)) (slice_get d.limits user) false

pub lets-in : (d : QuotaData) (user conn : ℕ) (client : List ℕ) (clean : Bool) (will : Option (List ℕ × ℕ))
    → lets_by d user (others_of d user client (goes_on d user client clean)) (more_of (not (goes_on d user client clean) && not clean) will) ≡ lets_in d user conn client clean will
lets-in d user conn client clean will =
    ap (λ h. option_map_or (λ l. fits l (held d user) h) (slice_get d.limits user) false) (sym (connected-held d user conn client clean will))

-- a message of so many bytes comes to a user
abbrev pub more_bytes : ℕ → Held
more_bytes bytes = made 0 0 0 1 bytes

-- what a user holds behind a PUBLISH that is let in
published-held : (d : QuotaData) (user : ℕ) (topic : List ℕ) (bytes : ℕ)
    → held (published d user topic bytes) user ≡ sum_of (held (without_retained user topic d) user) (more_bytes bytes)
published-held d user topic bytes =
    let count : Bool → ℕ = λ b. cond b 1 0 in
    let m : MessageData = record { user = user; topic = topic; bytes = bytes; will_of = None } in
    let others = filter (λ x. not (is_retained user topic x)) d.messages in
    five _ _ _ _ _ _ _ _ _ _
    (omega arith)
    (omega arith)
    (omega arith)
    (omega (arith, sum_by_push (λ x. count (is_message_by user x)) others m, ap count (same-user user)))
    (omega (arith, sum_by_push (bytes_for user) others m, ap (λ b. cond b bytes 0) (same-user user)))

pub lets-retain : (d : QuotaData) (user : ℕ) (topic : List ℕ) (bytes : ℕ) (others : Held) → others ≡ held (without_retained user topic d) user
    → lets_by d user others (more_bytes bytes) ≡ lets_retain d user topic bytes
lets-retain d user topic bytes others are =
    ap (λ h. option_map_or (λ l. fits l (held d user) h) (slice_get d.limits user) false)
    (ap (λ o. sum_of o (more_bytes bytes)) are ∙ sym (published-held d user topic bytes))

-- what a user holds with so many filters more
more-held : (d : QuotaData) (user : ℕ) (missing : List FilterData) → count_by (is_filter_by user) missing ≡ length missing
    → held (record d { filters = d.filters ++ missing }) user ≡ sum_of (held d user) (more_filters (length missing))
more-held d user missing whose =
    let count : Bool → ℕ = λ b. cond b 1 0 in
    five _ _ _ _ _ _ _ _ _ _
    (omega arith)
    (omega arith)
    (omega (arith, whose, sum_by-append (λ f. count (is_filter_by user f)) d.filters missing))
    (omega arith)
    (omega arith)

pub lets-subscribe : (d : QuotaData) (user : ℕ) (client : List ℕ) (names : List (List ℕ)) (missing : List FilterData) (others more : Held)
    → user_of d client ≡ Some user → d.filters ++ missing ≡ fold (with_filter user client) d.filters names → count_by (is_filter_by user) missing ≡ length missing
    → others ≡ held d user → more ≡ more_filters (length missing)
    → lets_by d user others more ≡ lets_subscribe d client names
lets-subscribe d user client names missing others more is whole whose are more_is =
    let by : Held → Bool = λ h. option_map_or (λ l. fits l (held d user) h) (slice_get d.limits user) false in
    let of_user : Option ℕ → Bool = λ o.
    option_map_or (λ u. lets d (option_map_or (λ owner. record d { filters = fold (with_filter owner client) d.filters names }) o d) u) o false in
    ap by (ap (λ o. sum_of o more) are ∙ ap (λ m. sum_of (held d user) m) more_is ∙ sym (more-held d user missing whose) ∙ ap (λ fs. held (record d { filters = fs }) user) whole)
    ∙ ap of_user (sym is)
