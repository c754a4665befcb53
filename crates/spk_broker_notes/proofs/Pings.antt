-- Sessions, one after the other: who is silent, and who is heard.
use Rattle.std.proofs.Common.{◌≡◌, ℕ, zero, suc, ◌+◌, ◌≤◌, max, Bool, true, false, List, [], ◌∷◌, ◌++◌, map, drop, length, take, refl, sym, ap, ap₂, ◌∙◌, append_assoc, arith, Option, Some, None, is_some}
use Rattle.std.specs.Prelude.{slice_get}
use Rattle.std.specs.List.{flat_map}
use Rattle.std.proofs.lemmas.List.{append-nil}
use Rattle.spk_broker_events.specs.Record.{record_of}
use Rattle.spk_broker_replay.specs.Replay.{heard_at, late, pause, ping}
use Rattle.spk_broker_rules.specs.Data.{Session, Broker}
use Rattle.spk_broker_rules.specs.Plan.{Tick}
use Rattle.spk_broker_rules.specs.Step.{silent_at}
use Rattle.spk_broker_rules.specs.Words.{option_list}
use Rattle.spk_broker_notes.specs.Logs.{Begins, with_late}
use Rattle.spk_broker_notes.specs.Noted.{Notes, clock_behind, is_late, records}
use Rattle.spk_broker_notes.proofs.Noting.{front, records-both}

-- ---- places

drop-at : {X : Type 0} (xs : List X) (at : ℕ) (x : X) → slice_get xs at ≡ Some x → drop at xs ≡ x ∷ drop (suc at) xs
drop-at [] at x e = cc
drop-at (y ∷ ys) zero x e = cc
drop-at (y ∷ ys) (suc at) x e = drop-at ys at x e

drop-none : {X : Type 0} (xs : List X) (at : ℕ) → slice_get xs at ≡ None → drop at xs ≡ []
drop-none [] zero e = refl
drop-none [] (suc at) e = refl
drop-none (y ∷ ys) zero e = cc
drop-none (y ∷ ys) (suc at) e = drop-none ys at e

one-more : (at : ℕ) → suc at ≡ at + 1
one-more at = omega arith

next-place : {X : Type 0} (xs : List X) (at : ℕ) (x : X) → slice_get xs at ≡ Some x → drop at xs ≡ x ∷ drop (at + 1) xs
next-place xs at x e = drop-at xs at x e ∙ ap (λ n. x ∷ drop n xs) (one-more at)

-- ---- who is silent

pub first-late : (clock : ℕ) (sessions : List Session) → is_late clock (drop 0 sessions) ≡ is_late clock sessions
first-late clock sessions = refl

pub next-late : (clock : ℕ) (sessions : List Session) (at : ℕ) (s : Session) (o : Option ℕ) (late : Bool) → is_late clock (drop at sessions) ≡ late → Some s ≡ slice_get sessions at
    → option_list o ≡ silent_at clock s → is_some o ≡ false → is_late clock (drop (at + 1) sessions) ≡ late
next-late clock sessions at s None late same is silent none =
    ap {B = Bool} (λ cs. elim (cs ++ flat_map (silent_at clock) (drop (at + 1) sessions)) [ [] ↦ false | c ∷ cs ↦ true ]) silent
    ∙ sym (ap (is_late clock) (next-place sessions at s (sym is))) ∙ same
next-late clock sessions at s (Some c) late same is silent none = cc

pub is-late : (clock : ℕ) (sessions : List Session) (at : ℕ) (s : Session) (o : Option ℕ) (late : Bool) → is_late clock (drop at sessions) ≡ late → Some s ≡ slice_get sessions at
    → option_list o ≡ silent_at clock s → is_some o ≡ true → true ≡ late
is-late clock sessions at s None late same is silent some = cc
is-late clock sessions at s (Some c) late same is silent some =
    ap {B = Bool} (λ cs. elim (cs ++ flat_map (silent_at clock) (drop (at + 1) sessions)) [ [] ↦ false | d ∷ ds ↦ true ]) silent
    ∙ sym (ap (is_late clock) (next-place sessions at s (sym is))) ∙ same

pub none-late : (clock : ℕ) (sessions : List Session) (at : ℕ) (late : Bool) → is_late clock (drop at sessions) ≡ late → None ≡ slice_get sessions at → false ≡ late
none-late clock sessions at late same is = sym (ap (is_late clock) (drop-none sessions at (sym is))) ∙ same

-- ---- who is heard

abbrev pings : ℕ → ℕ → List Session → List ℕ
pings clock moment sessions = records (map (ping moment) (flat_map (heard_at clock) sessions))

map-both : (moment : ℕ) (cs ds : List ℕ) → map (ping moment) (cs ++ ds) ≡ map (ping moment) cs ++ map (ping moment) ds
map-both moment [] ds = refl
map-both moment (c ∷ cs) ds = ap (λ es. ping moment c ∷ es) (map-both moment cs ds)

pings-next : (clock moment : ℕ) (s : Session) (sessions : List Session) → pings clock moment (s ∷ sessions) ≡ records (map (ping moment) (heard_at clock s)) ++ pings clock moment sessions
pings-next clock moment s sessions =
    ap records (map-both moment (heard_at clock s) (flat_map (heard_at clock) sessions))
    ∙ records-both (map (ping moment) (heard_at clock s)) (map (ping moment) (flat_map (heard_at clock) sessions))

-- of all these sessions the rest is still to be heard
pub record Going (clock moment : ℕ) (rest all : List Session) (old new : List ℕ) : Type 0 where
  pub begins : Begins old new
  pub are : new ++ pings clock moment rest ≡ old ++ pings clock moment all

pub going-first : (clock moment : ℕ) (sessions : List Session) (old : List ℕ) → Going clock moment (drop 0 sessions) sessions old old
going-first clock moment sessions old = record { begins = record { more = []; are = sym (append-nil old) }; are = refl }

pub going-on : (clock moment : ℕ) (sessions : List Session) (at : ℕ) (s : Session) (o : Option ℕ) (old new newer : List ℕ) → Going clock moment (drop at sessions) sessions old new
    → Some s ≡ slice_get sessions at → option_list o ≡ heard_at clock s → newer ≡ new ++ records (map (ping moment) (option_list o))
    → Going clock moment (drop (at + 1) sessions) sessions old newer
going-on clock moment sessions at s o old new newer g is heard more = record {
  begins = record {
    more = g.begins.more ++ records (map (ping moment) (option_list o));
    are = more ∙ ap (λ t. t ++ records (map (ping moment) (option_list o))) g.begins.are ∙ append_assoc old g.begins.more (records (map (ping moment) (option_list o)));
  };
  are = ap (λ t. t ++ pings clock moment (drop (at + 1) sessions)) more
      ∙ append_assoc new (records (map (ping moment) (option_list o))) (pings clock moment (drop (at + 1) sessions))
      ∙ ap (λ cs. new ++ (records (map (ping moment) cs) ++ pings clock moment (drop (at + 1) sessions))) heard
      ∙ ap (λ t. new ++ t) (sym (pings-next clock moment s (drop (at + 1) sessions)))
      ∙ ap (λ ss. new ++ pings clock moment ss) (sym (next-place sessions at s (sym is)))
      ∙ g.are;
}

pub going-over : (clock moment : ℕ) (sessions : List Session) (at : ℕ) (old new : List ℕ) → Going clock moment (drop at sessions) sessions old new → None ≡ slice_get sessions at
    → new ≡ old ++ pings clock moment sessions
going-over clock moment sessions at old new g is =
    sym (append-nil new) ∙ ap (λ ss. new ++ pings clock moment ss) (sym (drop-none sessions at (sym is))) ∙ g.are

-- ---- a tick

pub all-added : (clock moment : ℕ) (sessions : List Session) (a b c : List ℕ) → b ≡ a ++ pings clock moment sessions → c ≡ b ++ record_of (Tick moment)
    → c ≡ a ++ records (map (ping moment) (flat_map (heard_at clock) sessions) ++ Tick moment ∷ [])
all-added clock moment sessions a b c e f =
    f ∙ ap (λ t. t ++ record_of (Tick moment)) e ∙ append_assoc a (pings clock moment sessions) (record_of (Tick moment))
    ∙ ap (λ t. a ++ (pings clock moment sessions ++ t)) (sym (append-nil (record_of (Tick moment))))
    ∙ ap (λ t. a ++ t) (sym (records-both (map (ping moment) (flat_map (heard_at clock) sessions)) (Tick moment ∷ [])))

pub begins-added : (a b c d : List ℕ) → b ≡ a ++ c → d ≡ b → Begins a d
begins-added a b c d e f = record { more = c; are = f ∙ e }

pub begun-again : (a b : List ℕ) → Begins a b → take (length a) b ≡ a
begun-again a b p = ap (take (length a)) p.are ∙ front a p.more

ticked : (k moment : ℕ) (cs : List ℕ) → k ≤ moment → clock_behind k (map (ping moment) cs ++ Tick moment ∷ []) ≡ moment
ticked k moment [] low = omega (arith, low)
ticked k moment (c ∷ cs) low = ticked (max k moment) moment cs (omega (arith, low))

pub no-late : (clock : ℕ) (b : Broker) (n : Notes) → is_late clock b.sessions ≡ false → n ≡ with_late clock b n
no-late clock b n none = by (flat_map (silent_at clock) b.sessions) none
  where
    by : (cs : List ℕ) → elim cs [ [] ↦ false | d ∷ ds ↦ true ] ≡ false
        → n ≡ record { clock = clock_behind n.clock (late cs clock (n.clock + pause) b.sessions); bytes = n.bytes ++ records (late cs clock (n.clock + pause) b.sessions) }
    by [] e = ap (λ t. record n { bytes = t }) (sym (append-nil n.bytes))
    by (d ∷ ds) e = cc

pub so-late : (clock : ℕ) (b : Broker) (n : Notes) (moment : ℕ) (bytes : List ℕ) → is_late clock b.sessions ≡ true → n.clock + pause ≡ moment
    → bytes ≡ n.bytes ++ records (map (ping moment) (flat_map (heard_at clock) b.sessions) ++ Tick moment ∷ [])
    → ◌≡◌ {A = Notes} (record { clock = moment; bytes = bytes }) (with_late clock b n)
so-late clock b n moment bytes some at are = by (flat_map (silent_at clock) b.sessions) some
  where
    heard : List ℕ
    heard = flat_map (heard_at clock) b.sessions

    by : (cs : List ℕ) → elim cs [ [] ↦ false | d ∷ ds ↦ true ] ≡ true
        → ◌≡◌ {A = Notes} (record { clock = moment; bytes = bytes })
        (record { clock = clock_behind n.clock (late cs clock (n.clock + pause) b.sessions); bytes = n.bytes ++ records (late cs clock (n.clock + pause) b.sessions) })
    by [] e = cc
    by (d ∷ ds) e = ap₂ (λ k t. record { clock = k; bytes = t })
        (sym (ticked n.clock (n.clock + pause) heard (omega arith) ∙ at))
        (are ∙ ap (λ m. n.bytes ++ records (map (ping m) heard ++ Tick m ∷ [])) (sym at))
