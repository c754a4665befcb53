-- Where a node stands current, and where a hole is open.
use Rattle.std.proofs.Common.{◌≡◌, ◌∙◌, sym, ap, refl, Bool, true, false, true≢false, ◌&&◌, ◌||◌, ◌↔◌, List, [], ◌∷◌, Option, Some, None, is_some, if◌then◌else◌}
use Rattle.std.specs.List.{list_any}
use Rattle.std.specs.Option.{unwrap_or}
use Rattle.spk_story.specs.declared.stand.Stand.{Stand}
use Rattle.spk_story.specs.declared.stand.Stand.TheVariants.{Unborn, Current, Lost}
use Rattle.spk_story.specs.Events.{Event, Born, Used, Dropped, Gap, Died, Ignored, Ended, Asked, newest, since_birth}
use Rattle.spk_story.specs.Gaps.{is_open}
use Rattle.spk_story.specs.Order.{begins_with_death, drops, has_causes, stops}
use Rattle.spk_story.specs.Standing.{born_at, is_same, stand, stand_by}

abbrev newest_stand : List Event → Stand
newest_stand es = unwrap_or (newest stand_by es) Unborn

-- by the newest event that says it: current where nothing stopped it since the birth
stopped : (es : List Event) → is_some (born_at es) ≡ true → list_any stops (since_birth es) ≡ true → is_same (newest_stand es) Current ≡ false
stopped [] born is = absurd (true≢false (sym born))
stopped (Born now ∷ es) born is = absurd (true≢false (sym is))
stopped (Gap now ∷ es) born is = refl
stopped (Died now ∷ es) born is = refl
stopped (Ended now ∷ es) born is = refl
stopped (Used now ∷ es) born is = stopped es born is
stopped (Dropped loss now ∷ es) born is = stopped es born is
stopped (Ignored now ∷ es) born is = stopped es born is
stopped (Asked now ∷ es) born is = stopped es born is

going_on : (es : List Event) → is_some (born_at es) ≡ true → list_any stops (since_birth es) ≡ false → newest_stand es ≡ Current
going_on [] born is = absurd (true≢false (sym born))
going_on (Born now ∷ es) born is = refl
going_on (Gap now ∷ es) born is = absurd (true≢false is)
going_on (Died now ∷ es) born is = absurd (true≢false is)
going_on (Ended now ∷ es) born is = absurd (true≢false is)
going_on (Used now ∷ es) born is = going_on es born is
going_on (Dropped loss now ∷ es) born is = going_on es born is
going_on (Ignored now ∷ es) born is = going_on es born is
going_on (Asked now ∷ es) born is = going_on es born is

pub current_is : (es : List Event) → (stand es ≡ Current) ↔ ((is_some (born_at es) ≡ true) × (list_any stops (since_birth es) ≡ false))
current_is es = (to (is_some (born_at es)) refl, λ p. ap (λ (b : Bool). if b then newest_stand es else Unborn) p.0 ∙ going_on es p.0 p.1)
  where
    none : (b : Bool) → list_any stops (since_birth es) ≡ b → is_some (born_at es) ≡ true → newest_stand es ≡ Current → list_any stops (since_birth es) ≡ false
    none false is born same = is
    none true is born same = absurd (true≢false (sym (ap (λ s. is_same s Current) same) ∙ stopped es born is))

    to : (b : Bool) → is_some (born_at es) ≡ b → (if b then newest_stand es else Unborn) ≡ Current → (is_some (born_at es) ≡ true) × (list_any stops (since_birth es) ≡ false)
    to true born same = (born, none (list_any stops (since_birth es)) refl born same)
    to false born same = absurd (true≢false (sym (ap (λ s. is_same s Current) same)))

-- ---- a hole is open

is_gap_newest : (es : List Event) → is_same (newest_stand es) Lost ≡ true → is_open es ≡ true
is_gap_newest [] is = absurd (true≢false (sym is))
is_gap_newest (Born now ∷ es) is = absurd (true≢false (sym is))
is_gap_newest (Gap now ∷ es) is = refl
is_gap_newest (Died now ∷ es) is = absurd (true≢false (sym is))
is_gap_newest (Ended now ∷ es) is = absurd (true≢false (sym is))
is_gap_newest (Used now ∷ es) is = is_gap_newest es is
is_gap_newest (Dropped loss now ∷ es) is = refl
is_gap_newest (Ignored now ∷ es) is = is_gap_newest es is
is_gap_newest (Asked now ∷ es) is = is_gap_newest es is

pub lost_is : (es : List Event) → stand es ≡ Lost → is_open es ≡ true
lost_is es is = at (is_some (born_at es)) is
  where
    at : (b : Bool) → (if b then newest_stand es else Unborn) ≡ Lost → is_open es ≡ true
    at true same = is_gap_newest es (ap (λ s. is_same s Lost) same)
    at false same = absurd (true≢false (sym (ap (λ s. is_same s Lost) same)))

right_of : (a b : Bool) → (a && b) ≡ true → b ≡ true
right_of true b is = is
right_of false b is = absurd (true≢false (sym is))

left_of : (a b : Bool) → (a && b) ≡ true → a ≡ true
left_of true b is = refl
left_of false b is = is

death_first : (es : List Event) → begins_with_death es ≡ true → list_any stops (since_birth es) ≡ true
death_first (Died now ∷ es) is = refl
death_first [] is = absurd (true≢false (sym is))
death_first (_ ∷ es) is = absurd (true≢false (sym is))

no_loss : (next : Option Event) (es : List Event) → drops next ≡ false → has_causes next es ≡ true → list_any stops (since_birth es) ≡ false → is_open es ≡ false
no_loss next [] not_by has is = refl
no_loss next (Born now ∷ es) not_by has is = refl
no_loss next (Gap now ∷ es) not_by has is = absurd (true≢false is)
no_loss next (Died now ∷ es) not_by has is = absurd (true≢false is)
no_loss next (Ended now ∷ es) not_by has is = absurd (true≢false is)
no_loss next (Used now ∷ es) not_by has is = no_loss (Some (Used now)) es refl has is
no_loss next (Ignored now ∷ es) not_by has is = no_loss (Some (Ignored now)) es refl has is
no_loss next (Asked now ∷ es) not_by has is = no_loss (Some (Asked now)) es refl has is
no_loss next (Dropped loss now ∷ es) not_by has is =
    let here : (drops next || begins_with_death es) ≡ true = left_of _ (has_causes (Some (Dropped loss now)) es) has in
    let dead : begins_with_death es ≡ true = sym (ap (λ b. b || begins_with_death es) not_by) ∙ here in
    absurd (true≢false (sym (death_first es dead) ∙ is))

pub followed_is : (es : List Event) → has_causes None es ≡ true → stand es ≡ Current → is_open es ≡ false
followed_is es has is = no_loss None es refl has ((current_is es).0 is).1
