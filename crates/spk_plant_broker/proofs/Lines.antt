-- The lines of all clients.
use Rattle.std.proofs.Common.{◌≡◌, ◌≢◌, ℕ, zero, suc, ◌+◌, ◌<◌, ◌≤◌, ◌==◌, ◌&&◌, ◌||◌, if◌then◌else◌, Bool, true, false, List, [], ◌∷◌, ◌++◌, length, Option, Some, None, set, get_or, refl, sym, ◌∙◌, ap, subst, arith, eq-eqb, add-one, inl, inr, true≢false}
use Rattle.std.proofs.Math.Bool.{or-true}
use Rattle.std.proofs.lemmas.Option.{slice_get_within}
use Rattle.std.proofs.lemmas.List.Folds.{list_any-append}
use Rattle.std.specs.Option.{IfSome}
use Rattle.spk_ingress.specs.declared.frame.Frame.TheVariants as frame
use Rattle.spk_rings.specs.Ring.{FinishedFrom, all_offered, offered}
use Rattle.spk_rings.specs.declared.token.Token.{Token}
use Rattle.spk_plant_broker.specs.Done.{AreFresh, AreTokens, IsTokenAt, IsTokenOf}
use Rattle.std.proofs.lemmas.Bool.{eqb-true}
use Rattle.std.specs.List.{slice_get}
use Rattle.spk_ingress.specs.declared.rule.Message.{Message}
use Rattle.spk_rings.specs.declared.item.Item.{Item}
use Rattle.spk_rings.specs.declared.outlet.Outlet.{Outlet}
use Rattle.spk_plant_broker.specs.declared.line.Line.{Line}
use Rattle.spk_plant_broker.specs.Holding.{FitLine, FitLines, FitsLine, LinesGive, IsRing, OfferGives}
use Rattle.spk_plant_broker.specs.Step.{cuts_in, has_ended, have_ended, is_client, is_cut, is_end}
use Rattle.spk_plant_broker.proofs.Each.{each_push, each_set, read_at, same_or_not}

pub and_false : (a b : Bool) → b ≡ false → (a && b) ≡ false
and_false true b e = e
and_false false b e = refl

pub differ : (j k : ℕ) → j ≢ k → (k == j) ≡ false
differ j k ne = go (k == j) refl
  where
    go : (b : Bool) → (k == j) ≡ b → (k == j) ≡ false
    go true e = absurd (ne (sym (eqb-true k j e)))
    go false e = e

-- an offer to one client
pub offers_line : (firsts : List Outlet) (dropped : ℕ → Bool) (got : ℕ → List Item) (taken : List Message) (ls : List Line) (k : ℕ) (bytes : List ℕ) (old new : Line) (r : Option Bool) →
    FitLines firsts dropped got taken ls → k < length ls → old ≡ get_or ls k old →
    ((first : Outlet) (d : Bool) (g : List Item) (cuts : ℕ) (ended : Bool) → FitsLine first d g cuts ended old → OfferGives first d g cuts ended bytes new r) →
    LinesGive firsts dropped got taken k bytes (set ls k new) r
offers_line firsts dropped got taken ls k bytes old new r fits below is offers =
    go r (offers f.0 (dropped k) (got k) (cuts_in k taken) (has_ended k taken) f.2)
  where
    f : FitLine firsts dropped got taken k old
    f = fits k old (read_at ls k old below is)

    go : (r : Option Bool) → OfferGives f.0 (dropped k) (got k) (cuts_in k taken) (has_ended k taken) bytes new r → LinesGive firsts dropped got taken k bytes (set ls k new) r
    go None g = (g.0, each_set (FitLine firsts dropped got taken) (FitLine firsts dropped got taken) ls k new fits (f.0, f.1, g.1) (λ j y ne p. p))
    go (Some true) g = (
      g.0,
      each_set (FitLine firsts dropped got taken) (FitLine firsts dropped (λ j. if k == j then got j ++ (record { bytes = bytes; cuts = cuts_in j taken }) ∷ [] else got j) taken) ls k new fits
          (f.0, f.1, subst (λ b. FitsLine f.0 (dropped k) (if b then got k ++ (record { bytes = bytes; cuts = cuts_in k taken }) ∷ [] else got k) (cuts_in k taken) (has_ended k taken) new) (sym (eq-eqb k k refl)) g.1)
          (λ j y ne p. (p.0, p.1, subst (λ b. FitsLine p.0 (dropped j) (if b then got j ++ (record { bytes = bytes; cuts = cuts_in j taken }) ∷ [] else got j) (cuts_in j taken) (has_ended j taken) y) (sym (differ j k ne)) p.2)),
    )
    go (Some false) g = (g.0, each_set (FitLine firsts dropped got taken) (FitLine firsts dropped got taken) ls k new fits (f.0, f.1, g.1) (λ j y ne p. p), (f.0, f.1, g.2))

-- ---- which of them have ended

pub ended_at : (firsts : List Outlet) (dropped : ℕ → Bool) (got : ℕ → List Item) (taken : List Message) (ls : List Line) (k : ℕ) (l : Line) → FitLines firsts dropped got taken ls → k < length ls → l ≡ get_or ls k l → l.ended ≡ has_ended k taken
ended_at firsts dropped got taken ls k l fits below is = (fits k l (read_at ls k l below is)).2.over

pub one_has_not : (n i : ℕ) (taken : List Message) → i < n → has_ended i taken ≡ false → have_ended n taken ≡ false
one_has_not zero i taken below h = absurd (omega (arith, below))
one_has_not (suc n) i taken below h = elim (same_or_not i n) [
  | inl same ↦ ap (λ b. b && have_ended n taken) (ap (λ j. has_ended j taken) (sym same) ∙ h)
  | inr other ↦ and_false (has_ended n taken) (have_ended n taken) (one_has_not n i taken (omega (arith, below, other)) h)
]

pub one_more_has : (n : ℕ) (taken : List Message) → have_ended n taken ≡ true → has_ended n taken ≡ true → have_ended (n + 1) taken ≡ true
one_more_has n taken h e = ap (λ m. have_ended m taken) (add-one n) ∙ (ap (λ b. b && have_ended n taken) e ∙ h)

-- ---- dropped rings

pub token_is : (first : Outlet) (got : List Item) (cuts : ℕ) (ended : Bool) (l : Line) → FitsLine first true got cuts ended l → IsTokenOf first l.token got
token_is first got cuts ended l f = go l.outlet l.token f.ring
  where
    some : (t : Option Token) → IfSome t (λ t. FinishedFrom first t × (all_offered t ≡ got)) → IsTokenOf first t got
    some None h = tt
    some (Some t) h = h

    go : (o : Option Outlet) (t : Option Token) → IsRing first o t true got → IsTokenOf first t got
    go (Some o) t h = absurd (true≢false h.0)
    go None t h = some t h.1

-- ---- one frame more

pub cuts_push : (k : ℕ) (ms : List Message) (m : Message) → cuts_in k (ms ++ m ∷ []) ≡ cuts_in k ms + (if (m.sender == k) && is_cut m.frame then 1 else 0)
cuts_push k [] m = omega arith
cuts_push k (n ∷ ms) m = let h : cuts_in k (ms ++ m ∷ []) ≡ cuts_in k ms + (if (m.sender == k) && is_cut m.frame then 1 else 0) = cuts_push k ms m in omega (arith, h)

pub or_none : (b : Bool) → (b || false) ≡ b
or_none true = refl
or_none false = refl

pub ended_push : (k : ℕ) (ms : List Message) (m : Message) → has_ended k (ms ++ m ∷ []) ≡ (has_ended k ms || ((m.sender == k) && is_end m.frame))
ended_push k ms m = list_any-append (λ (n : Message). (n.sender == k) && is_end n.frame) ms (m ∷ []) ∙ ap (λ b. has_ended k ms || b) (or_none ((m.sender == k) && is_end m.frame))

-- of a frame that is neither Cut nor End
pub lines_noted : (firsts : List Outlet) (dropped : ℕ → Bool) (got : ℕ → List Item) (taken : List Message) (m : Message) (ls : List Line) → is_cut m.frame ≡ false → is_end m.frame ≡ false →
    FitLines firsts dropped got taken ls → FitLines firsts dropped got (taken ++ m ∷ []) ls
lines_noted firsts dropped got taken m ls no_cut no_end fits k l is =
    let f : FitLine firsts dropped got taken k l = fits k l is in (
      f.0,
      f.1,
      record {
        ring = f.2.ring;
        count = f.2.count ∙ sym (cuts_push k taken m ∙ (ap (λ b. cuts_in k taken + (if b then 1 else 0)) (and_false (m.sender == k) (is_cut m.frame) no_cut) ∙ (let z : cuts_in k taken + 0 ≡ cuts_in k taken = omega arith in z)));
        over = f.2.over ∙ sym (ended_push k taken m ∙ (ap (λ b. has_ended k taken || b) (and_false (m.sender == k) (is_end m.frame) no_end) ∙ or_none (has_ended k taken)));
      },
    )

-- of another sender nothing changes
pub line_other : (firsts : List Outlet) (dropped : ℕ → Bool) (got : ℕ → List Item) (taken : List Message) (m : Message) (k : ℕ) (l : Line) → k ≢ m.sender →
    FitLine firsts dropped got taken k l → FitLine firsts dropped got (taken ++ m ∷ []) k l
line_other firsts dropped got taken m k l ne f = (
  f.0,
  f.1,
  record {
    ring = f.2.ring;
    count = f.2.count ∙ sym (cuts_push k taken m ∙ (ap (λ b. cuts_in k taken + (if b && is_cut m.frame then 1 else 0)) (differ k m.sender ne) ∙ (let z : cuts_in k taken + 0 ≡ cuts_in k taken = omega arith in z)));
    over = f.2.over ∙ sym (ended_push k taken m ∙ (ap (λ b. has_ended k taken || (b && is_end m.frame)) (differ k m.sender ne) ∙ or_none (has_ended k taken)));
  },
)

-- a Cut of this sender
pub lines_cut : (firsts : List Outlet) (dropped : ℕ → Bool) (got : ℕ → List Item) (taken : List Message) (k : ℕ) (ls : List Line) (old new : Line) →
    FitLines firsts dropped got taken ls → k < length ls → old ≡ get_or ls k old →
    ((first : Outlet) (d : Bool) (g : List Item) (cuts : ℕ) (ended : Bool) → FitsLine first d g cuts ended old → FitsLine first d g (cuts + 1) ended new) →
    FitLines firsts dropped got (taken ++ (record { sender = k; frame = frame.Cut }) ∷ []) (set ls k new)
lines_cut firsts dropped got taken k ls old new fits below is cut =
    let m : Message = record { sender = k; frame = frame.Cut } in
    let f : FitLine firsts dropped got taken k old = fits k old (read_at ls k old below is) in
    let g : FitsLine f.0 (dropped k) (got k) (cuts_in k taken + 1) (has_ended k taken) new = cut f.0 (dropped k) (got k) (cuts_in k taken) (has_ended k taken) f.2 in
    each_set (FitLine firsts dropped got taken) (FitLine firsts dropped got (taken ++ m ∷ [])) ls k new fits (
      f.0,
      f.1,
      record {
        ring = g.ring;
        count = g.count ∙ sym (cuts_push k taken m ∙ ap (λ b. cuts_in k taken + (if b && true then 1 else 0)) (eq-eqb k k refl));
        over = g.over ∙ sym (ended_push k taken m ∙ (ap (λ b. has_ended k taken || (b && false)) (eq-eqb k k refl) ∙ or_none (has_ended k taken)));
      },
    )
    (λ j y ne p. line_other firsts dropped got taken m j y ne p)

-- the End of this sender
pub lines_ended : (firsts : List Outlet) (dropped : ℕ → Bool) (got : ℕ → List Item) (taken : List Message) (k : ℕ) (ls : List Line) (old : Line) →
    FitLines firsts dropped got taken ls → k < length ls → old ≡ get_or ls k old →
    FitLines firsts dropped got (taken ++ (record { sender = k; frame = frame.End }) ∷ []) (set ls k (record old { ended = true }))
lines_ended firsts dropped got taken k ls old fits below is =
    let m : Message = record { sender = k; frame = frame.End } in
    let f : FitLine firsts dropped got taken k old = fits k old (read_at ls k old below is) in
    each_set (FitLine firsts dropped got taken) (FitLine firsts dropped got (taken ++ m ∷ [])) ls k (record old { ended = true }) fits (
      f.0,
      f.1,
      record {
        ring = f.2.ring;
        count = f.2.count ∙ sym (cuts_push k taken m ∙ (ap (λ b. cuts_in k taken + (if b && false then 1 else 0)) (eq-eqb k k refl) ∙ (let z : cuts_in k taken + 0 ≡ cuts_in k taken = omega arith in z)));
        over = sym (ended_push k taken m ∙ (ap (λ b. has_ended k taken || (b && true)) (eq-eqb k k refl) ∙ or-true (has_ended k taken)));
      },
    )
    (λ j y ne p. line_other firsts dropped got taken m j y ne p)

-- ---- rings are dropped

pub lines_ext : (firsts : List Outlet) (d e : ℕ → Bool) (got : ℕ → List Item) (taken : List Message) (ls : List Line) → ((k : ℕ) → k < length ls → d k ≡ e k) → FitLines firsts d got taken ls → FitLines firsts e got taken ls
lines_ext firsts d e got taken ls same fits k l is =
    let f : FitLine firsts d got taken k l = fits k l is in
    (f.0, f.1, subst (λ b. FitsLine f.0 b (got k) (cuts_in k taken) (has_ended k taken) l) (same k (slice_get_within ls k l is)) f.2)

pub finished_at : (firsts : List Outlet) (d : ℕ → Bool) (got : ℕ → List Item) (taken : List Message) (ls : List Line) (k : ℕ) (old new : Line) →
    FitLines firsts d got taken ls → k < length ls → old ≡ get_or ls k old →
    ((first : Outlet) (b : Bool) (g : List Item) (cuts : ℕ) (ended : Bool) → FitsLine first b g cuts ended old → FitsLine first true g cuts ended new) →
    FitLines firsts (λ j. d j || is_client j (Some k)) got taken (set ls k new)
finished_at firsts d got taken ls k old new fits below is finish =
    let f : FitLine firsts d got taken k old = fits k old (read_at ls k old below is) in
    each_set (FitLine firsts d got taken) (FitLine firsts (λ j. d j || is_client j (Some k)) got taken) ls k new fits
    (f.0, f.1, subst (λ b. FitsLine f.0 b (got k) (cuts_in k taken) (has_ended k taken) new) (sym (ap (λ b. d k || b) (eq-eqb k k refl) ∙ or-true (d k))) (finish f.0 (d k) (got k) (cuts_in k taken) (has_ended k taken) f.2))
    (λ j y ne p. (p.0, p.1, subst (λ b. FitsLine p.0 b (got j) (cuts_in j taken) (has_ended j taken) y) (sym (ap (λ b. d j || b) (differ j k ne) ∙ or_none (d j))) p.2))

-- there is no such client
pub finished_past : (firsts : List Outlet) (d : ℕ → Bool) (got : ℕ → List Item) (taken : List Message) (ls : List Line) (k : ℕ) → length ls ≤ k → FitLines firsts d got taken ls → FitLines firsts (λ j. d j || is_client j (Some k)) got taken ls
finished_past firsts d got taken ls k past fits =
    lines_ext firsts d (λ j. d j || is_client j (Some k)) got taken ls (λ j below. sym (ap (λ b. d j || b) (differ j k (omega (arith, below, past))) ∙ or_none (d j))) fits

-- all of those before a place
pub one_more_finished : (d : ℕ → Bool) (i : ℕ) → ((k : ℕ) → k < i → d k ≡ true) → (k : ℕ) → k < i + 1 → (d k || is_client k (Some i)) ≡ true
one_more_finished d i before k below = elim (same_or_not k i) [
  | inl same ↦ ap (λ b. d k || b) (eq-eqb i k (sym same)) ∙ or-true (d k)
  | inr other ↦ ap (λ b. b || is_client k (Some i)) (before k (omega (arith, below, other)))
]

-- ---- new lines

pub lines_none : (firsts : List Outlet) (ls : List Line) → ls ≡ [] → FitLines firsts (λ k. false) (λ k. []) [] ls
lines_none firsts ls none = subst (λ xs. FitLines firsts (λ k. false) (λ k. []) [] xs) (sym none) (λ k l is. absurd cc)

pub seam_get : {X : Type 0} (front : List X) (x : X) (rest : List X) → slice_get (front ++ x ∷ rest) (length front) ≡ Some x
seam_get [] x rest = refl
seam_get (y ∷ front) x rest = seam_get front x rest

pub lines_push : (firsts front rest : List Outlet) (ls more : List Line) (o : Outlet) (l : Line) → firsts ≡ front ++ o ∷ rest → length ls ≡ length front → more ≡ ls ++ l ∷ [] → AreFresh firsts
    → (offered o ≡ [] → FitsLine o false [] 0 false l) → FitLines firsts (λ k. false) (λ k. []) [] ls → FitLines firsts (λ k. false) (λ k. []) [] more
lines_push firsts front rest ls more o l split sized is_more fresh fits old =
    let here : slice_get firsts (length ls) ≡ Some o = ap (λ os. slice_get os (length ls)) split ∙ (ap (slice_get (front ++ o ∷ rest)) sized ∙ seam_get front o rest) in
    subst (λ xs. FitLines firsts (λ k. false) (λ k. []) [] xs) (sym is_more)
    (each_push (FitLine firsts (λ k. false) (λ k. []) []) ls l old (o, here, fits (fresh (length ls) o here)))

-- ---- tokens

pub tokens_none : (firsts : List Outlet) (got : ℕ → List Item) (ts : List (Option Token)) → ts ≡ [] → AreTokens firsts got ts
tokens_none firsts got ts none = subst (λ xs. AreTokens firsts got xs) (sym none) (λ k t is. absurd cc)

pub tokens_push : (firsts : List Outlet) (dropped : ℕ → Bool) (got : ℕ → List Item) (taken : List Message) (lines front rest : List Line) (ts more : List (Option Token)) (l : Line) (t : Option Token) → lines ≡ front ++ l ∷ rest → length ts ≡ length front → more ≡ ts ++ t ∷ []
    → ((first : Outlet) (d : Bool) (g : List Item) (cuts : ℕ) (ended : Bool) → FitsLine first d g cuts ended l → IsTokenOf first t g) → FitLines firsts dropped got taken lines → AreTokens firsts got ts → AreTokens firsts got more
tokens_push firsts dropped got taken lines front rest ts more l t split sized is_more token fits old =
    let here : slice_get lines (length ts) ≡ Some l = ap (λ ls. slice_get ls (length ts)) split ∙ (ap (slice_get (front ++ l ∷ rest)) sized ∙ seam_get front l rest) in
    let f : FitLine firsts dropped got taken (length ts) l = fits (length ts) l here in
    subst (λ xs. AreTokens firsts got xs) (sym is_more)
    (each_push (IsTokenAt firsts got) ts t old (f.0, f.1, token f.0 (dropped (length ts)) (got (length ts)) (cuts_in (length ts) taken) (has_ended (length ts) taken) f.2))
