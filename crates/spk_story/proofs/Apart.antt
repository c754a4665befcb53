-- Holes stand in order and apart, and those that are over tell what ended them.
use Rattle.std.proofs.Common.{◌≡◌, ◌∙◌, sym, ap, refl, subst, ℕ, ◌≤◌, Bool, true, false, true≢false, ◌&&◌, List, [], ◌∷◌, Option, Some, None, is_some, IfSome, if◌then◌else◌, arith}
use Rattle.std.specs.List.{cons_option, list_all}
use Rattle.std.specs.Option.{option_map, option_or, unwrap_or}
use Rattle.spk_story.specs.declared.hole.End.{End}
use Rattle.spk_story.specs.declared.hole.End.TheVariants.{Birth}
use Rattle.spk_story.specs.declared.hole.Hole.{Hole}
use Rattle.spk_story.specs.Events.{Event, Born, Used, Dropped, Gap, Died, Ignored, Ended, Asked, moment}
use Rattle.spk_story.specs.Gaps.{ended_at, first_end, holes, is_open, open_hole, opened, over}
use Rattle.spk_story.specs.Order.{AreApart, AreOverBy, NeverFalls, latest, tells_its_end}
use Rattle.spk_story.specs.Standing.{used_at}

-- the newest of these holes was over before a message was used
abbrev AreOverBefore : List Hole → Option ℕ → Type 0
AreOverBefore [] used = Unit {0}
AreOverBefore (h ∷ hs) used = (until at : ℕ) × (h.until ≡ Some until) × (used ≡ Some at) × (until ≤ at)

record Fine (es : List Event) : Type 0 where
  apart : AreApart (over es)
  used : AreOverBefore (over es) (used_at es)
  used_by : IfSome (used_at es) (λ at. at ≤ latest es)
  opened_by : is_open es ≡ true → opened es ≤ latest es
  behind : is_open es ≡ true → AreOverBy (opened es) (over es)

abbrev open_if : List Event → Bool → Option Hole
open_if es b = if b then Some (open_hole es) else None

at_most : (used : Option ℕ) (at latest : ℕ) → used ≡ Some at → IfSome used (λ at. at ≤ latest) → at ≤ latest
at_most used at latest is few = subst (λ o. IfSome o (λ at. at ≤ latest)) is few

later : (hs : List Hole) (used : Option ℕ) (latest now : ℕ) → AreOverBefore hs used → IfSome used (λ at. at ≤ latest) → latest ≤ now → AreOverBefore hs (Some now)
later [] used latest now before few le = tt
later (h ∷ hs) used latest now (until, at, is, was, early) few le =
    let most = at_most used at latest was few in (until, now, is, refl, omega (arith, early, most, le))

still : (used : Option ℕ) (latest now : ℕ) → IfSome used (λ at. at ≤ latest) → latest ≤ now → IfSome used (λ at. at ≤ now)
still None latest now few le = few
still (Some at) latest now few le = omega (arith, few, le)

begins_by : (used : Option ℕ) (latest now : ℕ) → IfSome used (λ at. at ≤ latest) → latest ≤ now → unwrap_or used now ≤ now
begins_by None latest now few le = omega arith
begins_by (Some at) latest now few le = omega (arith, few, le)

begins_behind : (hs : List Hole) (used : Option ℕ) (now : ℕ) → AreOverBefore hs used → AreOverBy (unwrap_or used now) hs
begins_behind [] used now before = tt
begins_behind (h ∷ hs) used now (until, at, is, was, early) = (until, is, subst (λ o. until ≤ unwrap_or o now) (sym was) early)

-- with another event in front
opens_by : (e : Event) (es : List Event) → Fine es → latest es ≤ moment e → opened (e ∷ es) ≤ moment e
opens_by e es fine le = at (is_open es) refl
  where
    at : (b : Bool) → is_open es ≡ b → (if b then opened es else unwrap_or (used_at es) (moment e)) ≤ moment e
    at true is = let few = fine.opened_by is in omega (arith, few, le)
    at false is = begins_by (used_at es) (latest es) (moment e) fine.used_by le

opened_behind : (e : Event) (es : List Event) → Fine es → AreOverBy (opened (e ∷ es)) (over es)
opened_behind e es fine = at (is_open es) refl
  where
    at : (b : Bool) → is_open es ≡ b → AreOverBy (if b then opened es else unwrap_or (used_at es) (moment e)) (over es)
    at true is = fine.behind is
    at false is = begins_behind (over es) (used_at es) (moment e) fine.used

-- an event that is neither a birth nor a use
passed : (e : Event) (es : List Event) → used_at (e ∷ es) ≡ used_at es → over (e ∷ es) ≡ over es → Fine es → latest es ≤ moment e → Fine (e ∷ es)
passed e es same none fine le = record {
  apart = subst AreApart (sym none) fine.apart;
  used = subst (λ hs. AreOverBefore hs (used_at (e ∷ es))) (sym none) (subst (AreOverBefore (over es)) (sym same) fine.used);
  used_by = subst (λ o. IfSome o (λ at. at ≤ moment e)) (sym same) (still (used_at es) (latest es) (moment e) fine.used_by le);
  opened_by = λ is. opens_by e es fine le;
  behind = λ is. subst (AreOverBy (opened (e ∷ es))) (sym none) (opened_behind e es fine);
}

born : (now : ℕ) (es : List Event) → Fine es → latest es ≤ now → Fine (Born now ∷ es)
born now es fine le = record {
  apart = apart (is_open es) refl;
  used = used (is_open es) refl;
  used_by = omega arith;
  opened_by = λ is. absurd (true≢false (sym is));
  behind = λ is. absurd (true≢false (sym is));
}
  where
    apart : (b : Bool) → is_open es ≡ b → AreApart (cons_option (option_map (ended_at now) (open_if es b)) (over es))
    apart true is = let few = fine.opened_by is in (omega (arith, few, le), fine.behind is, fine.apart)
    apart false is = fine.apart

    used : (b : Bool) → is_open es ≡ b → AreOverBefore (cons_option (option_map (ended_at now) (open_if es b)) (over es)) (Some now)
    used true is = (now, now, refl, refl, omega arith)
    used false is = later (over es) (used_at es) (latest es) now fine.used fine.used_by le

consumed : (now : ℕ) (es : List Event) → Fine es → latest es ≤ now → Fine (Used now ∷ es)
consumed now es fine le = record {
  apart = fine.apart;
  used = later (over es) (used_at es) (latest es) now fine.used fine.used_by le;
  used_by = omega arith;
  opened_by = λ is. opens_by (Used now) es fine le;
  behind = λ is. opened_behind (Used now) es fine;
}

fine : (es : List Event) → NeverFalls es → Fine es
fine [] rising = record { apart = tt; used = tt; used_by = tt; opened_by = λ is. absurd (true≢false (sym is)); behind = λ is. tt }
fine (Born now ∷ es) rising = born now es (fine es rising.1) rising.0
fine (Used now ∷ es) rising = consumed now es (fine es rising.1) rising.0
fine (Dropped loss now ∷ es) rising = passed (Dropped loss now) es refl refl (fine es rising.1) rising.0
fine (Gap now ∷ es) rising = passed (Gap now) es refl refl (fine es rising.1) rising.0
fine (Died now ∷ es) rising = passed (Died now) es refl refl (fine es rising.1) rising.0
fine (Ignored now ∷ es) rising = passed (Ignored now) es refl refl (fine es rising.1) rising.0
fine (Ended now ∷ es) rising = passed (Ended now) es refl refl (fine es rising.1) rising.0
fine (Asked now ∷ es) rising = passed (Asked now) es refl refl (fine es rising.1) rising.0

pub apart_are : (es : List Event) → NeverFalls es → AreApart (holes es)
apart_are es rising = at (is_open es) refl
  where
    all : Fine es
    all = fine es rising

    at : (b : Bool) → is_open es ≡ b → AreApart (cons_option (open_if es b) (over es))
    at true is = (tt, all.behind is, all.apart)
    at false is = all.apart

-- ---- what ended them

some_end : (o : Option End) → is_some (option_or o (Some Birth)) ≡ true
some_end None = refl
some_end (Some end) = refl

told_with : (now : ℕ) (es : List Event) (b : Bool) → list_all tells_its_end (over es) ≡ true
    → list_all tells_its_end (cons_option (option_map (ended_at now) (open_if es b)) (over es)) ≡ true
told_with now es false all = all
told_with now es true all = ap (λ b. b && list_all tells_its_end (over es)) (some_end (first_end es)) ∙ all

pub ends_told : (es : List Event) → list_all tells_its_end (over es) ≡ true
ends_told [] = refl
ends_told (Born now ∷ es) = told_with now es (is_open es) (ends_told es)
ends_told (e ∷ es) = ends_told es
