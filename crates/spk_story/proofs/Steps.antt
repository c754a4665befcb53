-- What a call makes of the story that a list tells is the story that the list tells with the event in front.
use Rattle.std.proofs.Common.{◌≡◌, ◌∙◌, sym, ap, refl, ℕ, ◌+◌, Bool, true, false, true≢false, ◌&&◌, not, List, ◌∷◌, map, take, length, Option, Some, None, is_some, if◌then◌else◌, arith}
use Rattle.std.specs.List.{cons_option, count_by, sum_by}
use Rattle.std.specs.Option.{option_map, unwrap_or}
use Rattle.std.proofs.lemmas.List.{take-take}
use Rattle.spk_story.specs.declared.hole.End.TheVariants.{Birth}
use Rattle.spk_story.specs.declared.hole.Hole.{Hole}
use Rattle.spk_story.specs.declared.hole.Loss.{Loss}
use Rattle.spk_story.specs.declared.stand.Stand.{Stand}
use Rattle.spk_story.specs.declared.stand.Stand.TheVariants.{Unborn, Current, Lost, Dead, OutOfReach}
use Rattle.spk_story.specs.Data.{Story, capped, capped_hole, fresh_hole, most_kept, with_end}
use Rattle.spk_story.specs.Events.{Event, Born, Dropped, Gap, is_birth, is_gap, is_use, missing_by, newest, unused_by}
use Rattle.spk_story.specs.Gaps.{ended_at, is_open, open_hole, over}
use Rattle.spk_story.specs.Standing.{born_at, is_same, since, stand, stand_by}
use Rattle.spk_story.specs.Told.{told}
use Rattle.spk_story.proofs.Opening.{dropped_hole, gap_hole, sum_step}

-- ---- a turn

same_is : (s t : Stand) → is_same s t ≡ true → s ≡ t
same_is Unborn Unborn is = refl
same_is Current Current is = refl
same_is Lost Lost is = refl
same_is Dead Dead is = refl
same_is OutOfReach OutOfReach is = refl
same_is _ _ is = absurd (true≢false (sym is))

same_itself : (s : Stand) → is_same s s ≡ true
same_itself Unborn = refl
same_itself Current = refl
same_itself Lost = refl
same_itself Dead = refl
same_itself OutOfReach = refl

abbrev pub turned : Stand → ℕ → Story → Story
turned to now d = if is_some d.born_at && not (is_same d.stand to) then record d { stand = to; since = now } else d

abbrev turned_to : Stand → ℕ → Story → Story
turned_to to now d = record d { stand = to; since = if is_same d.stand to then d.since else now }

stays : (now : ℕ) (d : Story) (to : Stand) → d.stand ≡ to → d ≡ turned_to to now d
stays now d to is =
    ap (λ (b : Bool). let e : Story = record d { since = if b then d.since else now } in e) (sym (same_itself d.stand))
    ∙ ap (λ s. turned_to s now d) is

turn_is : (to : Stand) (now : ℕ) (d : Story) → (is_some d.born_at ≡ false → d.stand ≡ Unborn) → turned to now d ≡ turned_to (if is_some d.born_at then to else Unborn) now d
turn_is to now d unborn = at (is_some d.born_at) unborn
  where
    turning : (q : Bool) → is_same d.stand to ≡ q
        → ◌≡◌ {A = Story} (if not q then record d { stand = to; since = now } else d) (record d { stand = to; since = if q then d.since else now })
    turning true is = ap (λ s. let e : Story = record d { stand = s } in e) (same_is d.stand to is)
    turning false is = refl

    at : (b : Bool) → (b ≡ false → d.stand ≡ Unborn)
        → ◌≡◌ {A = Story} (if b && not (is_same d.stand to) then record d { stand = to; since = now } else d) (turned_to (if b then to else Unborn) now d)
    at true none = turning (is_same d.stand to) refl
    at false none = stays now d Unborn (none refl)

-- ---- counts

one_more : (p : Event → Bool) (e : Event) (es : List Event) → p e ≡ true → capped (capped (count_by p es) + 1) ≡ capped (count_by p (e ∷ es))
one_more p e es is =
    let one : Bool → ℕ = λ b. if b then 1 else 0 in
    let step = sum_step (λ x. one (p x)) e es in
    let here : one (p e) ≡ 1 = ap one is in omega (arith, step, here)

more : (f : Event → ℕ) (e : Event) (es : List Event) → capped (capped (sum_by f es) + f e) ≡ capped (sum_by f (e ∷ es))
more f e es = let step = sum_step f e es in omega (arith, step)

-- ---- a gap

abbrev pub opening : ℕ → Story → Hole
opening now d = unwrap_or d.hole (fresh_hole (unwrap_or d.used_at now) d.stand)

abbrev pub after_gap : ℕ → Story → Story
after_gap now d = turned Lost now (record d { hole = Some (opening now d); counts = record d.counts { gaps = capped (d.counts.gaps + 1) } })

unborn : (es : List Event) → is_some (born_at es) ≡ false → stand es ≡ Unborn
unborn es is = ap (λ (b : Bool). if b then unwrap_or (newest stand_by es) Unborn else Unborn) is

pub gap_is : (first now : ℕ) (es : List Event) → after_gap now (told first es) ≡ told first (Gap now ∷ es)
gap_is first now es =
    let d : Story = told first es in
    let e : Story = told first (Gap now ∷ es) in
    turn_is Lost now (record d { hole = Some (opening now d); counts = record d.counts { gaps = capped (d.counts.gaps + 1) } }) (unborn es)
    ∙ ap (λ h. let s : Story = record e { hole = Some h; counts = record e.counts { gaps = capped (d.counts.gaps + 1) } } in s) (gap_hole now es)
    ∙ ap (λ n. let s : Story = record e { counts = record e.counts { gaps = n } } in s) (one_more is_gap (Gap now) es refl)

-- ---- a loss

abbrev pub after_dropped : Loss → ℕ → Story → Story
after_dropped loss now d =
    let h : Hole = opening now d in
    record d {
      hole = Some (record h { missing = capped (h.missing + loss.missing); unused = capped (h.unused + loss.unused) });
      counts = record d.counts { missing = capped (d.counts.missing + loss.missing); unused = capped (d.counts.unused + loss.unused) };
    }

pub dropped_is : (loss : Loss) (first now : ℕ) (es : List Event) → after_dropped loss now (told first es) ≡ told first (Dropped loss now ∷ es)
dropped_is loss first now es =
    let d : Story = told first es in
    let e : Story = told first (Dropped loss now ∷ es) in
    ap (λ h. let s : Story = record d { hole = Some h; counts = record d.counts { missing = capped (d.counts.missing + loss.missing); unused = capped (d.counts.unused + loss.unused) } } in s) (dropped_hole loss now es)
    ∙ ap (λ (b : Bool). let s : Story = record e { since = if b then since first es else now; counts = record d.counts { missing = capped (d.counts.missing + loss.missing); unused = capped (d.counts.unused + loss.unused) } } in s) (sym (same_itself (stand es)))
    ∙ ap (λ n. let s : Story = record e { counts = record e.counts { missing = n; unused = capped (d.counts.unused + loss.unused) } } in s) (more missing_by (Dropped loss now) es)
    ∙ ap (λ n. let s : Story = record e { counts = record e.counts { unused = n } } in s) (more unused_by (Dropped loss now) es)

-- ---- a birth

-- a hole that is open is over
abbrev pub closed : ℕ → Story → Story
closed now d =
    elim (option_map (with_end Birth) d.hole) [
      | None ↦ record d { hole = None }
      | Some h ↦ record d { hole = None; kept = take most_kept ((record h { until = Some now }) ∷ d.kept); counts = record d.counts { holes = capped (d.counts.holes + 1) } }
    ]

abbrev begun : ℕ → Story → Story
begun now c = record c { born_at = Some now; used_at = Some now; counts = record c.counts { births = capped (c.counts.births + 1); used = capped (c.counts.used + 1) } }

abbrev pub after_born : ℕ → Story → Story
after_born now d = turned Current now (begun now (closed now d))

put : (h : Hole) (hs : List Hole) → take most_kept (h ∷ take most_kept hs) ≡ take most_kept (h ∷ hs)
put h hs = ap (λ l. h ∷ l) (take-take 63 64 hs (omega arith))

longer : (n k : ℕ) → k ≡ n + 1 → capped (capped n + 1) ≡ capped k
longer n k is = omega (arith, is)

-- one hole more is over, or none
abbrev over_with : Option Hole → List Event → List Hole
over_with o es = cons_option o (over es)

abbrev open_if : List Event → Bool → Option Hole
open_if es b = if b then Some (open_hole es) else None

closed_is : (first now : ℕ) (es : List Event)
    → ◌≡◌ {A = Story} (closed now (told first es))
    (record (told first es) {
      hole = None;
      kept = take most_kept (map capped_hole (over (Born now ∷ es)));
      counts = record (told first es).counts { holes = capped (length (over (Born now ∷ es))) };
    })
closed_is first now es = at (is_open es)
  where
    at : (b : Bool) → ◌≡◌ {A = Story} (closed now (record (told first es) { hole = option_map capped_hole (open_if es b) }))
        (record (told first es) {
          hole = None;
          kept = take most_kept (map capped_hole (over_with (option_map (ended_at now) (open_if es b)) es));
          counts = record (told first es).counts { holes = capped (length (over_with (option_map (ended_at now) (open_if es b)) es)) };
        })
    at false = refl
    at true =
        let d : Story = told first es in
        let h : Hole = ended_at now (open_hole es) in
        ap (λ l. let s : Story = record d { hole = None; kept = l; counts = record d.counts { holes = capped (capped (length (over es)) + 1) } } in s)
        (put (capped_hole h) (map capped_hole (over es)))
        ∙ ap (λ n. let s : Story = record d { hole = None; kept = take most_kept (map capped_hole (h ∷ over es)); counts = record d.counts { holes = n } } in s)
        (longer (length (over es)) (length (h ∷ over es)) (omega arith))

pub born_is : (first now : ℕ) (es : List Event) → after_born now (told first es) ≡ told first (Born now ∷ es)
born_is first now es =
    let d : Story = told first es in
    let e : Story = told first (Born now ∷ es) in
    let c : Story = record d { hole = None; kept = e.kept; counts = record d.counts { holes = e.counts.holes } } in
    ap (λ s. turned Current now (begun now s)) (closed_is first now es)
    ∙ turn_is Current now (begun now c) (λ is. absurd (true≢false is))
    ∙ ap (λ n. let s : Story = record e { counts = record e.counts { births = n; used = capped (d.counts.used + 1) } } in s) (one_more is_birth (Born now) es refl)
    ∙ ap (λ n. let s : Story = record e { counts = record e.counts { used = n } } in s) (one_more is_use (Born now) es refl)
