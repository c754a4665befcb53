-- Whether a node lives, event by event of what was done.
use Rattle.std.proofs.Common.{◌≡◌, ◌∙◌, sym, ap, refl, ℕ, Bool, true, false, not, ◌&&◌, ◌||◌, List, [], ◌∷◌, Option, Some, None, is_some, if◌then◌else◌}
use Rattle.std.proofs.lemmas.Bool.{and_from, and_parts, and_right, not-true, or_from}
use Rattle.std.specs.List.{list_any}
use Rattle.spk_sequence.specs.Following.{is_matching_death, is_session_dead, last_opening, taken, takes}
use Rattle.spk_sequence.specs.HostRecord.{Done, HostRecord, Input, MessageComes, consumed_by}
use Rattle.spk_sequence.specs.Calls.{Reply}
use Rattle.spk_sequence.specs.NodeRecord.{NodeRecord, Setting, opens}
use Rattle.spk_shown.specs.Shown.{is_alive}

abbrev pub done_with : Setting → HostRecord → Input → Reply → Done
done_with s h i reply = record { input = i; reply = reply; consumed = consumed_by s h i reply }

some_stays : (published : NodeRecord) (ps : List ℕ) (o : Option ℕ) → is_some o ≡ true → is_some (last_opening published o ps) ≡ true
some_stays published [] o e = e
some_stays published (p ∷ ps) o e = go (opens published p) (some_stays published ps (Some p) refl) (some_stays published ps o e)
  where
    go : (b : Bool) → is_some (last_opening published (Some p) ps) ≡ true → is_some (last_opening published o ps) ≡ true
        → is_some (last_opening published (if b then Some p else o) ps) ≡ true
    go true x y = x
    go false x y = y

opening_some : (published : NodeRecord) (ps : List ℕ) (o : Option ℕ) → list_any (opens published) ps ≡ true → is_some (last_opening published o ps) ≡ true
opening_some published [] o e = cc
opening_some published (p ∷ ps) o e =
    go (opens published p) refl (some_stays published ps (Some p) refl)
    (λ q. opening_some published ps o (sym (ap (λ b. b || list_any (opens published) ps) q) ∙ e))
  where
    go : (b : Bool) → opens published p ≡ b → is_some (last_opening published (Some p) ps) ≡ true
        → (opens published p ≡ false → is_some (last_opening published o ps) ≡ true) → is_some (last_opening published (if b then Some p else o) ps) ≡ true
    go true q x y = x
    go false q x y = y q

-- it lives behind a birth that is taken
pub taken_lives : (s : Setting) (h : HostRecord) (e : Done) → takes s e ≡ true → is_alive s (e ∷ h) ≡ true
taken_lives s h e t =
    and_from (is_some (taken s (e ∷ h))) (not (is_session_dead s (e ∷ h)))
    (opening_some s.published e.consumed (taken s h) t)
    (ap (λ b. not (not b && (is_matching_death s h e.input || is_session_dead s h))) t)

-- and goes on to live where no matching death comes
pub lives_on : (s : Setting) (h : HostRecord) (e : Done) → is_matching_death s h e.input ≡ false → is_alive s h ≡ true → is_alive s (e ∷ h) ≡ true
lives_on s h e none alive =
    let parts = and_parts (is_some (taken s h)) (not (is_session_dead s h)) alive in
    let still : (is_matching_death s h e.input || is_session_dead s h) ≡ false =
    or_from (is_matching_death s h e.input) (is_session_dead s h) none (not-true (is_session_dead s h) parts.1) in
    and_from (is_some (taken s (e ∷ h))) (not (is_session_dead s (e ∷ h)))
    (some_stays s.published e.consumed (taken s h) parts.0)
    (ap (λ d. not (not (takes s e) && d)) still ∙ ap not (and_right (not (takes s e)) false refl))
