-- No call but that of the start makes a user hold more than its limit, or than before.
use Rattle.std.proofs.Common.{◌≡◌, ◌+◌, ◌≤◌, ◌&&◌, ◌||◌, ◌==◌, ℕ, Bool, true, false, not, cond, max, nat_le, List, [], ◌∷◌, ◌++◌, Option, Some, None, map, length, slice_get, refl, ap, arith, subst}
use Rattle.std.specs.Prelude.{unwrap_or}
use Rattle.std.specs.List.{filter, find, fold, list_any, sum_by}
use Rattle.std.specs.Option.{option_map_or}
use Rattle.std.specs.Str.{bytes_eq}
use Rattle.std.proofs.lemmas.Bool.{eqb-true, leb-true}
use Rattle.std.proofs.lemmas.List.Sums.{sum_by_push, sum_by-append}
use Rattle.spk_quota.specs.Calls.{Call, Clear, Connect, DiscardWill, Ended, Forget, HoldsAtMost, HoldsGiven, HoldsLess, HoldsWithin, Publish, Resume, Subscribe, Unsubscribe, is_resume, limits_of, step}
use Rattle.spk_quota.specs.Data.{FilterData, MessageData, QuotaData, SessionData, fresh}
use Rattle.spk_quota.specs.Held.{bytes_for, fits, held, lets, may_be}
use Rattle.spk_quota.specs.Step.{connected, ended, goes_on, is_filter, is_here, is_it, is_left, is_retained_on, is_session, is_will_of, left_at, lets_in, lets_retain, lets_subscribe, published, resumed, subscribed, user_of, with_conn, with_filter, with_session, without_session}
use Rattle.spk_quota.specs.declared.limits.Held.{Held}
use Rattle.spk_quota.specs.declared.limits.Limits.{Limits}
use Rattle.spk_quota.proofs.Bounds.{bytes-shared}
use Rattle.spk_quota.proofs.Lists.{filter-less, map-less, sum-map}
use Rattle.spk_quota.proofs.Others.{connect-keeps, more-keeps, publish-keeps, subscribed_by}
use Rattle.spk_quota.proofs.Settling.{settled-less}
use Rattle.spk_quota.proofs.Weights.{filter_weight, here_weight, kept_weight, message_weight, one_if}

-- ---- orders of what is held

pub within-less : (l : Limits) (before behind : Held) → HoldsLess behind before → HoldsWithin l before behind
within-less l before behind h = record {
  connections = omega (arith, h.connections);
  sessions = omega (arith, h.sessions);
  filters = omega (arith, h.filters);
  retained = omega (arith, h.retained);
  bytes = omega (arith, h.bytes);
}

pub within-same : (l : Limits) (before behind : Held) → behind ≡ before → HoldsWithin l before behind
within-same l before behind h = within-less l before behind (record {
  connections = omega (arith, ap (λ (x : Held). x.connections) h);
  sessions = omega (arith, ap (λ (x : Held). x.sessions) h);
  filters = omega (arith, ap (λ (x : Held). x.filters) h);
  retained = omega (arith, ap (λ (x : Held). x.retained) h);
  bytes = omega (arith, ap (λ (x : Held). x.bytes) h);
})

pub within-more : (l : Limits) (a b c : Held) → HoldsWithin l a b → HoldsWithin l b c → HoldsWithin l a c
within-more l a b c h k = record {
  connections = omega (arith, h.connections, k.connections);
  sessions = omega (arith, h.sessions, k.sessions);
  filters = omega (arith, h.filters, k.filters);
  retained = omega (arith, h.retained, k.retained);
  bytes = omega (arith, h.bytes, k.bytes);
}

may-be : (most before behind : ℕ) → may_be most before behind ≡ true → behind ≤ max most before
may-be most before behind h = by (nat_le behind most) refl (nat_le behind before) refl h
  where
    by : (a : Bool) → nat_le behind most ≡ a → (b : Bool) → nat_le behind before ≡ b → (a || b) ≡ true → behind ≤ max most before
    by true is b also either = omega (arith, leb-true behind most is)
    by false is true also either = omega (arith, leb-true behind before also)
    by false is false also either = cc

all-five : (a b c d e : Bool) → ((((a && b) && c) && d) && e) ≡ true → (a ≡ true) × (b ≡ true) × (c ≡ true) × (d ≡ true) × (e ≡ true)
all-five true true true true true h = (refl, refl, refl, refl, refl)
all-five true true true true false h = cc
all-five true true true false e h = cc
all-five true true false d e h = cc
all-five true false c d e h = cc
all-five false b c d e h = cc

fits-within : (l : Limits) (before behind : Held) → fits l before behind ≡ true → HoldsWithin l before behind
fits-within l before behind h =
    let each = all-five (may_be l.connections before.connections behind.connections) (may_be l.sessions before.sessions behind.sessions) (may_be l.filters before.filters behind.filters)
    (may_be l.retained before.retained behind.retained) (may_be l.bytes before.bytes behind.bytes) h in
    record {
      connections = may-be _ _ _ each.0;
      sessions = may-be _ _ _ each.1;
      filters = may-be _ _ _ each.2;
      retained = may-be _ _ _ each.3;
      bytes = may-be _ _ _ each.4;
    }

-- what is let through is within the limits
lets-within : (d new : QuotaData) (user : ℕ) → lets d new user ≡ true → HoldsWithin (limits_of d.limits user) (held d user) (held new user)
lets-within d new user h = by (slice_get d.limits user) h
  where
    by : (o : Option Limits) → option_map_or (λ l. fits l (held d user) (held new user)) o false ≡ true
        → HoldsWithin (unwrap_or o (record { connections = 0; sessions = 0; filters = 0; retained = 0; bytes = 0; waiting = 0 })) (held d user) (held new user)
    by None none = cc
    by (Some l) some = fits-within l (held d user) (held new user) some

-- of a call that is let through or changes nothing
let-through : (d new : QuotaData) (owner user : ℕ) (b : Bool) → lets d new owner ≡ b → ((owner == user) ≡ false → held new user ≡ held d user)
    → HoldsWithin (limits_of d.limits user) (held d user) (held (cond b new d) user)
let-through d new owner user false is keeps = within-same _ (held d user) (held d user) refl
let-through d new owner user true is keeps = by (owner == user) refl
  where
    by : (c : Bool) → (owner == user) ≡ c → HoldsWithin (limits_of d.limits user) (held d user) (held new user)
    by true same =
        let P : ℕ → Type 0 = λ u. HoldsWithin (limits_of d.limits u) (held d u) (held new u) in
        subst P (eqb-true owner user same) (lets-within d new owner is)
    by false apart = within-same _ (held d user) (held new user) (keeps apart)

-- ---- calls that take away

pub without-less : (d : QuotaData) (owner user : ℕ) (client : List ℕ) → HoldsLess (held (without_session owner client d) user) (held d user)
without-less d owner user client = record {
  connections = filter-less (λ s. not (is_session owner client s)) (here_weight user) d.sessions;
  sessions = filter-less (λ s. not (is_session owner client s)) (kept_weight user) d.sessions;
  filters = filter-less (λ f. not (is_filter owner client f)) (filter_weight user) d.filters;
  retained = omega arith;
  bytes = omega arith;
}

pub messages-less : (d : QuotaData) (p : MessageData → Bool) (user : ℕ) → HoldsLess (held (record d { messages = filter p d.messages }) user) (held d user)
messages-less d p user = record {
  connections = omega arith;
  sessions = omega arith;
  filters = omega arith;
  retained = filter-less p (message_weight user) d.messages;
  bytes = filter-less p (bytes_for user) d.messages;
}

same-less : (h : Held) → HoldsLess h h
same-less h = record { connections = omega arith; sessions = omega arith; filters = omega arith; retained = omega arith; bytes = omega arith }

unsubscribe-less : (d : QuotaData) (user : ℕ) (client : List ℕ) (names : List (List ℕ)) (o : Option ℕ)
    → HoldsLess (held (option_map_or (λ owner. record d { filters = filter (λ (f : FilterData). not (is_filter owner client f && list_any (λ n. bytes_eq n f.filter) names)) d.filters }) o d) user) (held d user)
unsubscribe-less d user client names None = same-less (held d user)
unsubscribe-less d user client names (Some owner) = record {
  connections = omega arith;
  sessions = omega arith;
  filters = filter-less (λ (f : FilterData). not (is_filter owner client f && list_any (λ n. bytes_eq n f.filter) names)) (filter_weight user) d.filters;
  retained = omega arith;
  bytes = omega arith;
}

forget-less : (d : QuotaData) (user : ℕ) (client : List ℕ) (o : Option SessionData)
    → HoldsLess (held (option_map_or (λ (s : SessionData). without_session s.user client d) o d) user) (held d user)
forget-less d user client None = same-less (held d user)
forget-less d user client (Some s) = without-less d s.user user client

left-less : (d : QuotaData) (conn user : ℕ) (client : List ℕ) (now : ℕ) (o : Option SessionData)
    → HoldsLess (held (option_map_or (λ (s : SessionData). cond s.kept (record d { sessions = map (left_at s.user conn client now) d.sessions }) (without_session s.user client d)) o d) user) (held d user)
left-less d conn user client now None = same-less (held d user)
left-less d conn user client now (Some s) = by s.kept
  where
    one : (b : Bool) (x : SessionData) → kept_weight user (cond b (record x { conn = None; since = now }) x) ≡ kept_weight user x
    one true x = refl
    one false x = refl

    less : (b : Bool) (x : SessionData) → here_weight user (cond b (record x { conn = None; since = now }) x) ≤ here_weight user x
    less true x = omega arith
    less false x = omega arith

    by : (k : Bool) → HoldsLess (held (cond k (record d { sessions = map (left_at s.user conn client now) d.sessions }) (without_session s.user client d)) user) (held d user)
    by true = record {
      connections = map-less (left_at s.user conn client now) (here_weight user) d.sessions (λ x. less (x.user == s.user && is_here conn client x) x);
      sessions = omega (arith, sum-map (left_at s.user conn client now) (kept_weight user) d.sessions (λ x. one (x.user == s.user && is_here conn client x) x));
      filters = omega arith;
      retained = omega arith;
      bytes = omega arith;
    }
    by false = without-less d s.user user client

ended-less : (d : QuotaData) (conn user : ℕ) (client : List ℕ) (now : ℕ) → HoldsLess (held (ended d conn client now) user) (held d user)
ended-less d conn user client now =
    let of_session = left-less d conn user client now (find (is_here conn client) d.sessions) in
    record {
      connections = of_session.connections;
      sessions = of_session.sessions;
      filters = of_session.filters;
      retained = settled-less (message_weight user) conn d.messages (λ will. omega arith);
      bytes = settled-less (bytes_for user) conn d.messages (bytes-shared user d.messages);
    }

-- ---- SUBSCRIBE

subscribe-within : (d : QuotaData) (user : ℕ) (client : List ℕ) (names : List (List ℕ)) (o : Option ℕ)
    → HoldsWithin (limits_of d.limits user) (held d user)
    (held (cond (option_map_or (λ owner. lets d (subscribed_by d client names o) owner) o false) (subscribed_by d client names o) d) user)
subscribe-within d user client names None = within-same _ (held d user) (held d user) refl
subscribe-within d user client names (Some owner) =
    let-through d (subscribed_by d client names (Some owner)) owner user (lets d (subscribed_by d client names (Some owner)) owner) refl (more-keeps d owner user client names)

-- ---- each call, and any list of them

pub call-within : (d : QuotaData) (call : Call) (user : ℕ) → is_resume call ≡ false → HoldsWithin (limits_of d.limits user) (held d user) (held (step d call) user)
call-within d (Resume owner client names now) user ordinary = cc
call-within d (Connect owner conn client clean will) user ordinary =
    let-through d (connected d owner conn client clean will) owner user (lets_in d owner conn client clean will) refl (connect-keeps d owner user conn client clean will)
call-within d (Subscribe client names) user ordinary = subscribe-within d user client names (user_of d client)
call-within d (Unsubscribe client names) user ordinary = within-less _ _ _ (unsubscribe-less d user client names (user_of d client))
call-within d (Publish owner topic bytes) user ordinary =
    let-through d (published d owner topic bytes) owner user (lets_retain d owner topic bytes) refl (publish-keeps d owner user topic bytes)
call-within d (Clear topic) user ordinary = within-less _ _ _ (messages-less d (λ m. not (is_retained_on topic m)) user)
call-within d (DiscardWill conn) user ordinary = within-less _ _ _ (messages-less d (λ m. not (is_will_of conn m)) user)
call-within d (Ended conn client now) user ordinary = within-less _ _ _ (ended-less d conn user client now)
call-within d (Forget client) user ordinary = within-less _ _ _ (forget-less d user client (find (is_left client) d.sessions))

-- the limits stay
same-limits : (b : Bool) (new old : QuotaData) → new.limits ≡ old.limits → (cond b new old).limits ≡ old.limits
same-limits true new old h = h
same-limits false new old h = refl

connect-limits : (d : QuotaData) (owner conn : ℕ) (client : List ℕ) (clean : Bool) (will : Option (List ℕ × ℕ)) → (connected d owner conn client clean will).limits ≡ d.limits
connect-limits d owner conn client clean will = by (goes_on d owner client clean)
  where
    by : (b : Bool)
        → (cond b (record d { sessions = map (with_conn owner client conn) d.sessions })
        (with_session (record { user = owner; client = client; kept = not clean; conn = Some conn; since = 0 }) [] d)).limits ≡ d.limits
    by true = refl
    by false = refl

resume-limits : (d : QuotaData) (s : SessionData) (fs : List FilterData) (o : Option Limits) → (option_map_or (λ (l : Limits). with_session s fs d) o d).limits ≡ d.limits
resume-limits d s fs None = refl
resume-limits d s fs (Some l) = refl

subscribe-limits : (d : QuotaData) (client : List ℕ) (names : List (List ℕ)) (o : Option ℕ) → (subscribed_by d client names o).limits ≡ d.limits
subscribe-limits d client names None = refl
subscribe-limits d client names (Some owner) = refl

unsubscribe-limits : (d : QuotaData) (p : ℕ → FilterData → Bool) (o : Option ℕ) → (option_map_or (λ owner. record d { filters = filter (p owner) d.filters }) o d).limits ≡ d.limits
unsubscribe-limits d p None = refl
unsubscribe-limits d p (Some owner) = refl

left-limits : (d : QuotaData) (conn : ℕ) (client : List ℕ) (now : ℕ) (o : Option SessionData)
    → (option_map_or (λ (s : SessionData). cond s.kept (record d { sessions = map (left_at s.user conn client now) d.sessions }) (without_session s.user client d)) o d).limits ≡ d.limits
left-limits d conn client now None = refl
left-limits d conn client now (Some s) = by s.kept
  where
    by : (k : Bool) → (cond k (record d { sessions = map (left_at s.user conn client now) d.sessions }) (without_session s.user client d)).limits ≡ d.limits
    by true = refl
    by false = refl

forget-limits : (d : QuotaData) (client : List ℕ) (o : Option SessionData) → (option_map_or (λ (s : SessionData). without_session s.user client d) o d).limits ≡ d.limits
forget-limits d client None = refl
forget-limits d client (Some s) = refl

pub call-limits : (d : QuotaData) (call : Call) → (step d call).limits ≡ d.limits
call-limits d (Resume owner client names now) =
    resume-limits d (record { user = owner; client = client; kept = true; conn = None; since = now }) (fold (with_filter owner client) [] names) (slice_get d.limits owner)
call-limits d (Connect owner conn client clean will) =
    same-limits (lets_in d owner conn client clean will) (connected d owner conn client clean will) d (connect-limits d owner conn client clean will)
call-limits d (Subscribe client names) =
    same-limits (lets_subscribe d client names) (subscribed d client names) d (subscribe-limits d client names (user_of d client))
call-limits d (Unsubscribe client names) = unsubscribe-limits d (λ owner f. not (is_filter owner client f && list_any (λ n. bytes_eq n f.filter) names)) (user_of d client)
call-limits d (Publish owner topic bytes) = same-limits (lets_retain d owner topic bytes) (published d owner topic bytes) d refl
call-limits d (Clear topic) = refl
call-limits d (DiscardWill conn) = refl
call-limits d (Ended conn client now) = left-limits d conn client now (find (is_here conn client) d.sessions)
call-limits d (Forget client) = forget-limits d client (find (is_left client) d.sessions)

first-false : (a b : Bool) → (a || b) ≡ false → (a ≡ false) × (b ≡ false)
first-false true b h = cc
first-false false b h = (refl, h)

pub calls-within : (d : QuotaData) (calls : List Call) (user : ℕ) → list_any is_resume calls ≡ false
    → HoldsWithin (limits_of d.limits user) (held d user) (held (fold step d calls) user)
calls-within d [] user ordinary = within-same _ (held d user) (held d user) refl
calls-within d (call ∷ calls) user ordinary =
    let both = first-false (is_resume call) (list_any is_resume calls) ordinary in
    let P : List Limits → Type 0 = λ ls. HoldsWithin (limits_of ls user) (held (step d call) user) (held (fold step (step d call) calls) user) in
    within-more (limits_of d.limits user) (held d user) (held (step d call) user) (held (fold step (step d call) calls) user)
    (call-within d call user both.0)
    (subst P (call-limits d call) (calls-within (step d call) calls user both.1))

pub fresh-within : (limits : List Limits) (calls : List Call) (user : ℕ) → list_any is_resume calls ≡ false
    → HoldsAtMost (limits_of limits user) (held (fold step (fresh limits) calls) user)
fresh-within limits calls user ordinary =
    let h = calls-within (fresh limits) calls user ordinary in
    record {
      connections = omega (arith, h.connections);
      sessions = omega (arith, h.sessions);
      filters = omega (arith, h.filters);
      retained = omega (arith, h.retained);
      bytes = omega (arith, h.bytes);
    }

-- ---- the start

put-count : (owner user : ℕ) (client name : List ℕ) (fs : List FilterData) → sum_by (filter_weight user) (with_filter owner client fs name) ≤ sum_by (filter_weight user) fs + 1
put-count owner user client name fs = by (list_any (is_it owner client name) fs)
  where
    row : FilterData
    row = record { user = owner; client = client; filter = name }

    one-at-most : (b : Bool) → one_if b ≤ 1
    one-at-most true = omega arith
    one-at-most false = omega arith

    by : (b : Bool) → sum_by (filter_weight user) (cond b fs (fs ++ row ∷ [])) ≤ sum_by (filter_weight user) fs + 1
    by true = omega arith
    by false = omega (arith, sum_by_push (filter_weight user) fs row, one-at-most (owner == user))

put-all-count : (owner user : ℕ) (client : List ℕ) (names : List (List ℕ)) (fs : List FilterData)
    → sum_by (filter_weight user) (fold (with_filter owner client) fs names) ≤ sum_by (filter_weight user) fs + length names
put-all-count owner user client [] fs = omega arith
put-all-count owner user client (n ∷ names) fs = omega (arith, put-all-count owner user client names (with_filter owner client fs n), put-count owner user client n fs)

pub resume-given : (d : QuotaData) (user : ℕ) (client : List ℕ) (names : List (List ℕ)) (now : ℕ) → HoldsGiven (length names) (held d user) (held (resumed d user client names now) user)
resume-given d user client names now = by (slice_get d.limits user)
  where
    s : SessionData
    s = record { user = user; client = client; kept = true; conn = None; since = now }

    fs : List FilterData
    fs = fold (with_filter user client) [] names

    one-at-most : (b : Bool) → one_if b ≤ 1
    one-at-most true = omega arith
    one-at-most false = omega arith

    by : (o : Option Limits) → HoldsGiven (length names) (held d user) (held (option_map_or (λ (l : Limits). with_session s fs d) o d) user)
    by None = record { connections = omega arith; sessions = omega arith; filters = omega arith; retained = refl; bytes = refl }
    by (Some l) =
        let gone = without-less d user user client in
        record {
          connections = omega (arith, gone.connections, sum_by_push (here_weight user) (without_session user client d).sessions s);
          sessions = omega (arith, gone.sessions, sum_by_push (kept_weight user) (without_session user client d).sessions s, one-at-most (user == user));
          filters = omega (arith, gone.filters, sum_by-append (filter_weight user) (without_session user client d).filters fs, put-all-count user user client names []);
          retained = refl;
          bytes = refl;
        }
