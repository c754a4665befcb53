-- What weighs for a user.
use Rattle.std.proofs.Common.{◌≡◌, ◌∙◌, ◌&&◌, ◌==◌, ℕ, Bool, true, false, not, cond, List, [], ◌∷◌, ◌++◌, is_none, is_some, refl, ap, arith}
use Rattle.std.specs.List.{filter, fold, list_any, sum_by}
use Rattle.std.specs.Str.{bytes_eq}
use Rattle.std.proofs.lemmas.Bool.{eqb-true}
use Rattle.std.proofs.lemmas.List.Sums.{sum_by_push}
use Rattle.spk_quota.specs.Data.{FilterData, MessageData, SessionData}
use Rattle.spk_quota.specs.Held.{bytes_for, is_filter_by, is_here_by, is_kept_by, is_message_by}
use Rattle.spk_quota.specs.Step.{is_filter, is_it, is_retained, is_session, with_filter}
use Rattle.spk_quota.proofs.Lists.{filter-keeps}

abbrev pub one_if : Bool → ℕ
one_if b = cond b 1 0

abbrev pub here_weight : ℕ → SessionData → ℕ
here_weight user s = cond (is_here_by user s) 1 0

abbrev pub kept_weight : ℕ → SessionData → ℕ
kept_weight user s = cond (is_kept_by user s) 1 0

abbrev pub filter_weight : ℕ → FilterData → ℕ
filter_weight user f = cond (is_filter_by user f) 1 0

abbrev pub message_weight : ℕ → MessageData → ℕ
message_weight user m = cond (is_message_by user m) 1 0

pub other : (a b c : ℕ) → (a == b) ≡ true → (b == c) ≡ false → (a == c) ≡ false
other a b c same apart = ap (λ n. n == c) (eqb-true a b same) ∙ apart

pub fails-not : (b : Bool) → not b ≡ false → b ≡ true
fails-not true h = refl
fails-not false h = cc

pub and-first : (a b : Bool) → (a && b) ≡ true → a ≡ true
and-first true b h = refl
and-first false b h = h

pub and-second : (a b : Bool) → (a && b) ≡ true → b ≡ true
and-second true b h = h
and-second false b h = cc

-- ---- what is another user's weighs nothing

second-fails : (a b : Bool) → b ≡ false → one_if (a && b) ≡ 0
second-fails true true h = cc
second-fails true false h = refl
second-fails false b h = refl

pub light-here : (user : ℕ) (s : SessionData) → (s.user == user) ≡ false → here_weight user s ≡ 0
light-here user s apart = second-fails (is_some s.conn) (s.user == user) apart

pub light-session : (user : ℕ) (s : SessionData) → (s.user == user) ≡ false → kept_weight user s ≡ 0
light-session user s apart = second-fails s.kept (s.user == user) apart

pub light-filter : (user : ℕ) (f : FilterData) → (f.user == user) ≡ false → filter_weight user f ≡ 0
light-filter user f apart = ap one_if apart

pub light-message : (user : ℕ) (m : MessageData) → (m.user == user) ≡ false → message_weight user m ≡ 0
light-message user m apart = ap one_if apart

pub light-bytes : (user : ℕ) (m : MessageData) → (m.user == user) ≡ false → bytes_for user m ≡ 0
light-bytes user m apart = let count : Bool → ℕ = λ b. cond b m.bytes 0 in ap count apart

-- ---- of another user's session, filters and messages nothing is felt

-- a session weighs for its user alone
abbrev pub IsOfUser : ℕ → (SessionData → ℕ) → Type 0
IsOfUser user g = (s : SessionData) → (s.user == user) ≡ false → g s ≡ 0

pub sessions-keep : (g : SessionData → ℕ) (owner user : ℕ) (client : List ℕ) (ss : List SessionData) → IsOfUser user g → (owner == user) ≡ false
    → sum_by g (filter (λ s. not (is_session owner client s)) ss) ≡ sum_by g ss
sessions-keep g owner user client ss light apart =
    filter-keeps (λ s. not (is_session owner client s)) g ss
    (λ s fails. light s (other s.user owner user (and-first (s.user == owner) (bytes_eq s.client client) (fails-not _ fails)) apart))

pub filters-keep : (owner user : ℕ) (client : List ℕ) (fs : List FilterData) → (owner == user) ≡ false
    → sum_by (filter_weight user) (filter (λ f. not (is_filter owner client f)) fs) ≡ sum_by (filter_weight user) fs
filters-keep owner user client fs apart =
    filter-keeps (λ f. not (is_filter owner client f)) (filter_weight user) fs
    (λ f fails. light-filter user f (other f.user owner user (and-first (f.user == owner) (bytes_eq f.client client) (fails-not _ fails)) apart))

pub retained-whose : (owner : ℕ) (topic : List ℕ) (m : MessageData) → is_retained owner topic m ≡ true → (m.user == owner) ≡ true
retained-whose owner topic m is = and-second (is_none m.will_of) (m.user == owner) (and-first (is_none m.will_of && m.user == owner) (bytes_eq m.topic topic) is)

-- ---- one filter more

pub put-keeps : (owner user : ℕ) (client name : List ℕ) (fs : List FilterData) → (owner == user) ≡ false
    → sum_by (filter_weight user) (with_filter owner client fs name) ≡ sum_by (filter_weight user) fs
put-keeps owner user client name fs apart = by (list_any (is_it owner client name) fs)
  where
    row : FilterData
    row = record { user = owner; client = client; filter = name }

    by : (b : Bool) → sum_by (filter_weight user) (cond b fs (fs ++ row ∷ [])) ≡ sum_by (filter_weight user) fs
    by true = refl
    by false = omega (arith, sum_by_push (filter_weight user) fs row, light-filter user row apart)

pub put-all-keeps : (owner user : ℕ) (client : List ℕ) (names : List (List ℕ)) (fs : List FilterData) → (owner == user) ≡ false
    → sum_by (filter_weight user) (fold (with_filter owner client) fs names) ≡ sum_by (filter_weight user) fs
put-all-keeps owner user client [] fs apart = refl
put-all-keeps owner user client (n ∷ names) fs apart = put-all-keeps owner user client names (with_filter owner client fs n) apart ∙ put-keeps owner user client n fs apart
