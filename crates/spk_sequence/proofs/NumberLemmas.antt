-- What a step does to what is held.
use Rattle.std.proofs.Common.{◌≡◌, ℕ, ◌+◌, ◌-◌, ◌%◌, ◌<◌, ◌≤◌, ◌≢◌, ◌&&◌, Bool, true, false, cond, nat_lt, nat_le, eqb, List, length, refl, sym, ◌∙◌, ap, arith, Option, Some, None, is_some, inl, inr, subst}
use Rattle.std.proofs.lemmas.List.{get_or-set_same, get_or-set_other, length-set, length-replicate}
use Rattle.std.proofs.lemmas.List.FromFn.{length-map-range_with_len}
use Rattle.std.proofs.lemmas.List.Sums.{prefix_len_passes, prefix_len_stops}
use Rattle.std.proofs.lemmas.Bool.{true≢false, cases_lt, cases_Bool, eqb-true, eqb-false, ltb-true, le-ltb}
use Rattle.spk_sequence.specs.declared.phase.Phase.{Phase}
use Rattle.spk_sequence.specs.declared.phase.Phase.TheVariants as phase
use Rattle.spk_sequence.specs.declared.message.Kind.{Kind}
use Rattle.spk_sequence.specs.declared.message.Kind.TheVariants.{Birth, Other}
use Rattle.spk_sequence.specs.declared.answer.Step.{Step}
use Rattle.spk_sequence.specs.declared.answer.Step.TheVariants as step
use Rattle.spk_sequence.specs.Data.{Standing, IsWhole, held_at}
use Rattle.spk_sequence.specs.Step.{is_live, is_known, is_dead, is_below, is_kept, is_match, is_over, ahead, places_from, kept_places, run_of, hand, hand_birth, hand_other, after_consumed, after_held, after_stop, tick, death}
use Rattle.spk_sequence.specs.Numbers.{held_as, Remains, KeepsNumbers}
use Rattle.spk_sequence.proofs.Places.{held_at-made, held_at-past, held_at-empty}
use Rattle.spk_sequence.proofs.WindowLemmas.{held_at-places_from, length-places_from}
use Rattle.spk_sequence.proofs.Outcomes.{not_live, too_old, next_one, again, held_now, too_far, behind}

-- nothing changes
same_numbers : (s : Standing) (number : ℕ) (r : Step) → IsWhole s → r ≢ step.Held → ((n : ℕ) → r ≢ step.Consumed n) → KeepsNumbers s s number r
same_numbers s number r whole not_held not_eaten = record {
  whole = whole;
  remains = λ other x byte own e. e;
  eaten = λ n e. absurd (not_eaten n e);
  added = λ e. absurd (not_held e);
}

pub whole_stop : (s : Standing) (to : Phase) → IsWhole s → IsWhole (after_stop s to)
whole_stop s to w = record {
  some_places = w.some_places;
  few_places = w.few_places;
  one_byte = w.one_byte;
  all_places = length-replicate {A = Option (Option ℕ)} s.width None;
  next_not_held = held_at-empty s.width 0;
}

-- nothing is held any more
pub remains_stop : (s : Standing) (to : Phase) → Remains s (after_stop s to)
remains_stop s to x byte own e = absurd (let i : None ≡ Some own = sym (held_at-empty s.width (ahead x s.next)) ∙ e in cc)

stop_numbers : (s : Standing) (number : ℕ) (r : Step) (to : Phase) → IsWhole s → r ≢ step.Held → ((n : ℕ) → r ≢ step.Consumed n) → KeepsNumbers s (after_stop s to) number r
stop_numbers s number r to whole not_held not_eaten = record {
  whole = whole_stop s to whole;
  remains = λ other. remains_stop s to;
  eaten = λ n e. absurd (not_eaten n e);
  added = λ e. absurd (not_held e);
}

held_numbers : (s : Standing) (number now : ℕ) (own : Option ℕ) → number < 256 → IsWhole s → 0 < ahead number s.next → ahead number s.next < s.width → held_at s.held (ahead number s.next) ≡ None →
    KeepsNumbers s (after_held s (ahead number s.next) own now) number step.Held
held_numbers s number now own byte w ahead_of within free =
    let place : ℕ = ahead number s.next in
    let few : s.width ≤ 96 = w.few_places in
    let next : s.next < 256 = w.one_byte in
    let sized : length s.held ≡ s.width = w.all_places in
    let inside : place < length s.held = omega arith in
    record {
      whole = record {
        some_places = w.some_places;
        few_places = few;
        one_byte = next;
        all_places = length-set s.held place (Some own) ∙ sized;
        next_not_held = get_or-set_other s.held place 0 (Some own) None (λ e. absurd (omega arith)) ∙ w.next_not_held;
      };
      remains = λ other. absurd (other refl);
      eaten = λ n e. absurd (cc);
      added = λ e. record {
        ahead_of = ahead_of;
        within = within;
        next = refl;
        was_free = free;
        is_held = ap is_some (get_or-set_same s.held place (Some own) None inside);
        others = λ x fits other. get_or-set_other s.held place (ahead x s.next) (Some own) None (λ e. absurd (omega arith));
      };
    }

some_is : (o : Option (Option ℕ)) → is_some o ≡ true → (own : Option ℕ) × (o ≡ Some own)
some_is (Some own) e = (own, refl)
some_is None e = absurd (true≢false (sym e))

none_or : (o : Option (Option ℕ)) → is_some o ≡ false → o ≡ None
none_or None e = refl
none_or (Some own) e = absurd (true≢false e)

eaten_numbers : (s t : Standing) (number now : ℕ) (held : List (Option (Option ℕ))) → number < 256 → IsWhole s → t.width ≡ s.width → length held ≡ s.width → held_at held (s.width - 1) ≡ None →
    ((i : ℕ) → i < s.width → (own : Option ℕ) → held_at held i ≡ Some own → held_as s ((number + 1 + i) % 256) ≡ Some own) →
    KeepsNumbers s (after_consumed t number held now) number (step.Consumed (1 + run_of held))
eaten_numbers s t number now held byte w same sized last was =
    let k : ℕ = run_of held in
    let some : 0 < s.width = w.some_places in
    let few : s.width ≤ 96 = w.few_places in
    let short : k < s.width = elim (cases_lt k s.width) [
      | inl inside ↦ inside
      | inr past ↦ absurd (true≢false (sym (prefix_len_passes is_some held (s.width - 1) None (omega arith)) ∙ ap is_some last))
    ] in
    record {
      whole = record {
        some_places = omega arith;
        few_places = omega arith;
        one_byte = omega arith;
        all_places = length-places_from held t.width k;
        next_not_held = held_at-places_from held t.width k 0 (omega arith) ∙ (elim (cases_lt k (length held)) [
          | inl inside ↦ (let at : k + 0 ≡ k = omega arith in ap (held_at held) at ∙ none_or _ (prefix_len_stops is_some held None inside))
          | inr past ↦ held_at-past held (k + 0) (omega arith)
        ]);
      };
      remains = λ other x fits own e.
          let j : ℕ = ahead x ((number + 1 + k) % 256) in
          elim (cases_lt j s.width) [
            | inr past ↦ absurd (let i : None ≡ Some own = sym (held_at-past (places_from held t.width k) j (omega (arith, length-places_from held t.width k))) ∙ e in cc)
            | inl inside ↦
                let there : held_at held (k + j) ≡ Some own = sym (held_at-places_from held t.width k j (omega arith)) ∙ e in
                elim (cases_lt (k + j) s.width) [
                  | inr out ↦ absurd (let i : None ≡ Some own = sym (held_at-past held (k + j) (omega arith)) ∙ there in cc)
                  | inl within ↦ (let at : (number + 1 + (k + j)) % 256 ≡ x = omega arith in ap (held_as s) (sym at) ∙ was (k + j) within own there)
                ]
          ];
      eaten = λ n e.
          let count : 1 + k ≡ n = cc in
          record {
            few = omega arith;
            next = (let at : (number + 1 + k) % 256 ≡ (number + n) % 256 = omega arith in at);
            were_held = λ i low high.
                let full : (own : Option ℕ) × (held_at held (i - 1) ≡ Some own) = some_is (held_at held (i - 1)) (prefix_len_passes is_some held (i - 1) None (omega arith)) in
                let at : (number + 1 + (i - 1)) % 256 ≡ (number + i) % 256 = omega arith in
                ap is_some (ap (held_as s) (sym at) ∙ was (i - 1) (omega arith) full.0 full.1);
          };
      added = λ e. absurd (cc);
    }

kept_some : (b : Bool) (x : Option (Option ℕ)) (own : Option ℕ) → cond b x None ≡ Some own → x ≡ Some own
kept_some true x own e = e
kept_some false x own e = absurd (cc)

-- what a birth keeps was held
pub kept_was : (s : Standing) (number stamp : ℕ) → IsWhole s → (i : ℕ) → i < s.width → (own : Option ℕ) → held_at (kept_places s number stamp) i ≡ Some own → held_as s ((number + 1 + i) % 256) ≡ Some own
kept_was s number stamp w i below own there =
    let next : s.next < 256 = w.one_byte in
    let at : ahead (number + 1 + i) s.next ≡ ahead ((number + 1 + i) % 256) s.next = omega arith in
    ap (held_at s.held) (sym at) ∙ kept_some (nat_lt (i + 1) s.width && is_kept (held_at s.held (ahead (number + 1 + i) s.next)) stamp) (held_at s.held (ahead (number + 1 + i) s.next)) own
    (sym (held_at-made (λ i. cond (nat_lt (i + 1) s.width && is_kept (held_at s.held (ahead (number + 1 + i) s.next)) stamp) (held_at s.held (ahead (number + 1 + i) s.next)) None) s.width i below) ∙ there)

-- what follows the message that comes next was held
pub rest_was : (s : Standing) (number : ℕ) → IsWhole s → number < 256 → ahead number s.next ≡ 0 → (i : ℕ) → i < s.width → (own : Option ℕ) → held_at (places_from s.held s.width 1) i ≡ Some own → held_as s ((number + 1 + i) % 256) ≡ Some own
rest_was s number w byte here i below own there =
    let few : s.width ≤ 96 = w.few_places in
    let next : s.next < 256 = w.one_byte in
    let at : ahead ((number + 1 + i) % 256) s.next ≡ 1 + i = omega arith in
    ap (held_at s.held) at ∙ sym (held_at-places_from s.held s.width 1 i below) ∙ there

birth_numbers : (s : Standing) (number stamp bd now : ℕ) → number < 256 → IsWhole s → KeepsNumbers s (hand_birth s number stamp bd now).1 number (hand_birth s number stamp bd now).0
birth_numbers s number stamp bd now byte w = elim (cases_Bool (is_known s.phase && nat_le stamp s.stamp)) [
  | inl old ↦ rw old (same_numbers s number step.OldBirth w (λ e. cc) (λ n e. cc))
  | inr newer ↦ elim (cases_Bool (is_dead s.phase && eqb bd s.bd)) [
    | inl dead ↦ rw (newer, dead) (same_numbers s number step.DeadSession w (λ e. cc) (λ n e. cc))
    | inr alive ↦
        let few : s.width ≤ 96 = w.few_places in
        let next : s.next < 256 = w.one_byte in
        let e : Standing = record s { stamp = stamp; bd = bd } in
        rw (newer, alive) (eaten_numbers s e number now (kept_places s number stamp) byte w refl (length-map-range_with_len (λ i. cond (nat_lt (i + 1) s.width && is_kept (held_at s.held (ahead (number + 1 + i) s.next)) stamp) (held_at s.held (ahead (number + 1 + i) s.next)) None) 0 s.width)
        (let top : s.width - 1 + 1 ≡ s.width = (let some : 0 < s.width = w.some_places in omega arith) in
        held_at-made (λ i. cond (nat_lt (i + 1) s.width && is_kept (held_at s.held (ahead (number + 1 + i) s.next)) stamp) (held_at s.held (ahead (number + 1 + i) s.next)) None) s.width (s.width - 1) (let some : 0 < s.width = w.some_places in omega arith)
        ∙ ap (λ b. cond (b && is_kept (held_at s.held (ahead (number + 1 + (s.width - 1)) s.next)) stamp) (held_at s.held (ahead (number + 1 + (s.width - 1)) s.next)) None) (le-ltb (s.width - 1 + 1) s.width (omega arith)))
        (kept_was s number stamp w))
  ]
]

abbrev Keeps : Standing → ℕ → (Step × Standing) → Type 0
Keeps s number y = KeepsNumbers s y.1 number y.0

other_numbers : (s : Standing) (number now : ℕ) (own : Option ℕ) → number < 256 → IsWhole s → Keeps s number (hand_other s number own now)
other_numbers s number now own byte w =
    let few : s.width ≤ 96 = w.few_places in
    let next : s.next < 256 = w.one_byte in
    let sized : length s.held ≡ s.width = w.all_places in
    let place : ℕ = ahead number s.next in
    elim (cases_Bool (is_live s.phase)) [
      | inr off ↦ subst (Keeps s number) (sym (not_live s number now own off)) (same_numbers s number step.NotLive w (λ e. cc) (λ n e. cc))
      | inl live ↦ elim (cases_Bool (is_below own s.stamp)) [
        | inl old ↦ subst (Keeps s number) (sym (too_old s number now own live old)) (same_numbers s number step.Old w (λ e. cc) (λ n e. cc))
        | inr fresh ↦ elim (cases_Bool (eqb place 0)) [
          | inl first ↦ subst (Keeps s number) (sym (next_one s number now own live fresh first))
              (eaten_numbers s s number now (places_from s.held s.width 1) byte w refl (length-places_from s.held s.width 1)
              (held_at-places_from s.held s.width 1 (s.width - 1) (let some : 0 < s.width = w.some_places in omega arith) ∙ held_at-past s.held (1 + (s.width - 1)) (omega arith)) (rest_was s number w byte (eqb-true place 0 first)))
          | inr later ↦
              let some : place ≢ 0 = λ z. eqb-false place 0 later z in
              elim (cases_Bool (nat_lt place s.width)) [
                | inl inside ↦ elim (cases_Bool (is_some (held_at s.held place))) [
                  | inl twice ↦ subst (Keeps s number) (sym (again s number now own live fresh later inside twice)) (same_numbers s number step.Old w (λ e. cc) (λ n e. cc))
                  | inr free ↦ subst (Keeps s number) (sym (held_now s number now own live fresh later inside free))
                      (held_numbers s number now own byte w (omega arith) (ltb-true place s.width inside) (none_or (held_at s.held place) free))
                ]
                | inr outside ↦ elim (cases_Bool (nat_lt place (256 - s.width))) [
                  | inl far ↦ subst (Keeps s number) (sym (too_far s number now own live fresh later outside far)) (stop_numbers s number step.Gap phase.Gap w (λ e. cc) (λ n e. cc))
                  | inr back ↦ subst (Keeps s number) (sym (behind s number now own live fresh later outside back)) (same_numbers s number step.Old w (λ e. cc) (λ n e. cc))
                ]
              ]
        ]
      ]
    ]

pub keeps_numbers : (s : Standing) (number now : ℕ) (kind : Kind) → number < 256 → IsWhole s → KeepsNumbers s (hand s number kind now).1 number (hand s number kind now).0
keeps_numbers s number now (Birth stamp bd) byte w = birth_numbers s number stamp bd now byte w
keeps_numbers s number now (Other own) byte w = other_numbers s number now own byte w

pub tick_whole : (s : Standing) (now : ℕ) → IsWhole s → IsWhole (tick s now)
tick_whole s now w = elim (cases_Bool (is_over s now)) [
  | inl over ↦ rw over (whole_stop s phase.Gap w)
  | inr idle ↦ rw idle w
]

pub death_whole : (s : Standing) (bd : ℕ) → IsWhole s → IsWhole (death s bd)
death_whole s bd w = elim (cases_Bool (is_match s bd)) [
  | inl matched ↦ rw matched (whole_stop s phase.Dead w)
  | inr ignored ↦ rw ignored w
]

pub tick_remains : (s : Standing) (now : ℕ) → Remains s (tick s now)
tick_remains s now = elim (cases_Bool (is_over s now)) [
  | inl over ↦ rw over (remains_stop s phase.Gap)
  | inr idle ↦ rw idle (λ x byte own e. e)
]

pub death_remains : (s : Standing) (bd : ℕ) → Remains s (death s bd)
death_remains s bd = elim (cases_Bool (is_match s bd)) [
  | inl matched ↦ rw matched (remains_stop s phase.Dead)
  | inr ignored ↦ rw ignored (λ x byte own e. e)
]
