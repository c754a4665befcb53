-- Lists of connections, and an end of a connection that isn't there.
use Rattle.std.proofs.Common.{◌≡◌, ℕ, ◌+◌, max, Bool, true, false, not, ◌||◌, List, [], ◌∷◌, ◌++◌, map, drop, refl, sym, ap, ◌∙◌, append_assoc, arith, Option, Some, None, is_some}
use Rattle.std.specs.Prelude.{slice_get}
use Rattle.std.specs.List.{flat_map, list_any}
use Rattle.std.specs.Option.{option_map, option_map_or}
use Rattle.std.proofs.lemmas.Bool.{false≢true}
use Rattle.std.proofs.lemmas.List.{append-nil}
use Rattle.spk_broker_rules.specs.Data.{Newcomer, Session, Broker}
use Rattle.spk_broker_rules.specs.Plan.{Closed, Leave}
use Rattle.spk_broker_rules.specs.Step.{Turn, act, begun, is_newcomer, knows, leave_at, noted, other_newcomers, route, session_by, step}
use Rattle.spk_broker_journal.specs.Ending.{newcomer_conn}
use Rattle.spk_broker_journal.proofs.Records.{drop-at, drop-none, one-more}

-- ---- lists that are gathered place by place

pub next-mapped : {X : Type 0} (f : X → ℕ) (xs : List X) (at : ℕ) (x : X) (a b whole : List ℕ) → a ++ map f (drop at xs) ≡ whole → slice_get xs at ≡ Some x → b ≡ a ++ f x ∷ []
    → b ++ map f (drop (at + 1) xs) ≡ whole
next-mapped {X} f xs at x a b whole e is more =
    ap (λ t. t ++ map f (drop (at + 1) xs)) more ∙ append_assoc a (f x ∷ []) (map f (drop (at + 1) xs))
    ∙ ap (λ t. a ++ map f t) (ap (λ n. x ∷ drop n xs) (sym (one-more at)) ∙ sym (drop-at xs at x is)) ∙ e

pub no-mapped : {X : Type 0} (f : X → ℕ) (xs : List X) (at : ℕ) (a whole : List ℕ) → a ++ map f (drop at xs) ≡ whole → slice_get xs at ≡ None → a ≡ whole
no-mapped {X} f xs at a whole e is = sym (append-nil a) ∙ ap (λ t. a ++ map f t) (sym (drop-none xs at is)) ∙ e

pub next-joined : {X : Type 0} (f : X → List ℕ) (xs : List X) (at : ℕ) (x : X) (a b whole : List ℕ) → a ++ flat_map f (drop at xs) ≡ whole → slice_get xs at ≡ Some x → b ≡ a ++ f x
    → b ++ flat_map f (drop (at + 1) xs) ≡ whole
next-joined {X} f xs at x a b whole e is more =
    ap (λ t. t ++ flat_map f (drop (at + 1) xs)) more ∙ append_assoc a (f x) (flat_map f (drop (at + 1) xs))
    ∙ ap (λ t. a ++ flat_map f t) (ap (λ n. x ∷ drop n xs) (sym (one-more at)) ∙ sym (drop-at xs at x is)) ∙ e

pub no-joined : {X : Type 0} (f : X → List ℕ) (xs : List X) (at : ℕ) (a whole : List ℕ) → a ++ flat_map f (drop at xs) ≡ whole → slice_get xs at ≡ None → a ≡ whole
no-joined {X} f xs at a whole e is = sym (append-nil a) ∙ ap (λ t. a ++ flat_map f t) (sym (drop-none xs at is)) ∙ e

-- ---- connections without CONNECT, place by place

pub next-newcomer : (gs : List Newcomer) (at conn : ℕ) (a b whole : List ℕ) → a ++ map newcomer_conn (drop at gs) ≡ whole → Some conn ≡ option_map (λ (g : Newcomer). g.conn) (slice_get gs at)
    → b ≡ a ++ conn ∷ [] → b ++ map newcomer_conn (drop (at + 1) gs) ≡ whole
next-newcomer gs at conn a b whole e is more = by (slice_get gs at) refl is
  where
    by : (o : Option Newcomer) → slice_get gs at ≡ o → Some conn ≡ option_map (λ (g : Newcomer). g.conn) o → b ++ map newcomer_conn (drop (at + 1) gs) ≡ whole
    by None place same = cc
    by (Some g) place same = next-mapped newcomer_conn gs at g a b whole e place (more ∙ ap (λ o. a ++ option_map_or (λ (d : ℕ). d) o 0 ∷ []) same)

pub no-newcomers : (gs : List Newcomer) (at : ℕ) (a whole : List ℕ) → a ++ map newcomer_conn (drop at gs) ≡ whole → None ≡ option_map (λ (g : Newcomer). g.conn) (slice_get gs at) → a ≡ whole
no-newcomers gs at a whole e is = by (slice_get gs at) refl is
  where
    by : (o : Option Newcomer) → slice_get gs at ≡ o → None ≡ option_map (λ (g : Newcomer). g.conn) o → a ≡ whole
    by None place same = no-mapped newcomer_conn gs at a whole e place
    by (Some g) place same = cc

-- ---- a connection that isn't there

no-newcomer : (c : ℕ) (gs : List Newcomer) → list_any (is_newcomer c) gs ≡ false → other_newcomers c gs ≡ gs
no-newcomer c [] none = refl
no-newcomer c (g ∷ gs) none = by (is_newcomer c g) refl (no-newcomer c gs)
  where
    by : (b : Bool) → is_newcomer c g ≡ b → (list_any (is_newcomer c) gs ≡ false → other_newcomers c gs ≡ gs) → other_newcomers c (g ∷ gs) ≡ g ∷ gs
    by true e rest = absurd (false≢true (sym (ap (λ x. x || list_any (is_newcomer c) gs) (sym e) ∙ none)))
    by false e rest = keep (ap not e) (rest (ap (λ x. x || list_any (is_newcomer c) gs) (sym e) ∙ none))
      where
        keep : not (is_newcomer c g) ≡ true → other_newcomers c gs ≡ gs → other_newcomers c (g ∷ gs) ≡ g ∷ gs
        keep p q = cc

no-session : (o : Option Session) → is_some o ≡ false → o ≡ None
no-session None none = refl
no-session (Some s) none = cc

or-false : (a b : Bool) → (a || b) ≡ false → (a ≡ false) × (b ≡ false)
or-false true b none = cc
or-false false b none = (refl, none)

max-zero : (n : ℕ) → max n 0 ≡ n
max-zero n = omega arith

gone-turn : (b : Broker) (c : ℕ) → knows b c ≡ false → act (Leave c true) (noted b (Closed c 0)) ≡ begun b
gone-turn b c none =
    let f = or-false (list_any (is_newcomer c) b.newcomers) (is_some (session_by c b.sessions)) none in
    ap (λ o. leave_at o c true (noted b (Closed c 0))) (no-session (session_by c b.sessions) f.1)
    ∙ ap (λ gs. begun (record b { clock = max b.clock 0; newcomers = gs })) (no-newcomer c b.newcomers f.0)
    ∙ ap (λ n. begun (record b { clock = n })) (max-zero b.clock)

pub unknown-end : (b : Broker) (c : ℕ) → ((t : Turn) → t.waiting ≡ [] → route t ≡ t) → knows b c ≡ false → b ≡ (step b (Closed c 0)).broker
unfolding step
unknown-end b c done none =
    sym (ap (λ t. (route t).broker) (gone-turn b c none) ∙ ap (λ t. t.broker) (done (begun b) refl))
