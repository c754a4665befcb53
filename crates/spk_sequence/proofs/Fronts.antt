-- What was consumed, birth by birth; what comes after a gap and after a death.
use Rattle.std.proofs.Common.{◌≡◌, ℕ, zero, suc, ◌+◌, ◌-◌, ◌<◌, ◌≤◌, ◌&&◌, ◌||◌, Bool, true, false, cond, not, nat_lt, eqb, List, [], ◌∷◌, ◌++◌, length, refl, sym, ◌∙◌, ap, arith, Option, Some, None, is_some, inl, inr, subst, append_assoc, append-nil}
use Rattle.std.specs.List.{range_with_len}
use Rattle.std.proofs.lemmas.Bool.{true≢false, cases_lt, cases_eq, or_cases, ltb-true, lt-ltb, eqb-true, leb-false}
use Rattle.spk_sequence.specs.Data.{Standing}
use Rattle.spk_sequence.specs.NodeRecord.{Setting, NodeRecord, IsNodeRecord, opens, birth_at}
use Rattle.spk_sequence.specs.HostRecord.{Input, MessageComes, DeathComes, TickComes, Done, HostRecord, record_of, standing_of, done_at, next_after, consumed_of, after_last}
use Rattle.spk_sequence.specs.Following.{taken, last_opening, is_empty}
use Rattle.spk_sequence.specs.Window.{AllMayCome}
use Rattle.spk_sequence.specs.Positions.{is_taken_before}
use Rattle.spk_sequence.specs.Claims.{Part, positions_of, IsAbove, AreFronts, BirthPrefixes, EndsWithTaken, AfterGap, taken_by}
use Rattle.spk_sequence.proofs.Ranges.{after_last-range, last_opening-none, range-append}
use Rattle.spk_sequence.proofs.Tied.{Tied, IsTaken}
use Rattle.spk_sequence.proofs.Outcomes.{Eats, Ate, live_is_known}
use Rattle.spk_sequence.proofs.Always.{AllStep, outcome, tied_always}

-- births never fall
births_rise : (published : NodeRecord) → IsNodeRecord published → (p k : ℕ) → p + k < length published → birth_at published p ≤ birth_at published (p + k)
births_rise published node p zero below = (let at : p + 0 ≡ p = omega arith in subst (λ x. birth_at published p ≤ birth_at published x) (sym at) (omega arith))
births_rise published node p (suc k) below =
    let at : p + k + 1 ≡ p + suc k = omega arith in
    let less : birth_at published p ≤ birth_at published (p + k) = births_rise published node p k (omega arith) in
    subst (λ x. birth_at published p ≤ birth_at published x) at (elim (node.births (p + k) (omega arith)) [
      | inl same ↦ omega arith
      | inr more ↦ omega arith
    ])

-- positions after an NBIRTH up to the next one are of its birth
one_birth_along : (published : NodeRecord) → IsNodeRecord published → (b k : ℕ) → b + k < length published → ((q : ℕ) → b < q → q < b + suc k → opens published q ≡ false) → birth_at published (b + k) ≡ birth_at published b
one_birth_along published node b zero below closed = (let at : b + 0 ≡ b = omega arith in ap (birth_at published) at)
one_birth_along published node b (suc k) below closed =
    let at : b + suc k ≡ b + k + 1 = omega arith in
    let back : b + k + 1 - 1 ≡ b + k = omega arith in
    let shut : opens published (b + k + 1) ≡ false = closed (b + k + 1) (omega arith) (omega arith) in
    ap (birth_at published) at ∙ (elim (node.births (b + k) (omega arith)) [
      | inl same ↦ same
      | inr more ↦ absurd (true≢false (sym (or_right' (eqb (b + k + 1) 0) (nat_lt (birth_at published (b + k + 1 - 1)) (birth_at published (b + k + 1)))
          (ap (λ x. nat_lt (birth_at published x) (birth_at published (b + k + 1))) back ∙ lt-ltb (birth_at published (b + k)) (birth_at published (b + k + 1)) (omega arith))) ∙ shut))
    ]) ∙ one_birth_along published node b k (omega arith) (λ q low high. closed q low (omega arith))
  where
    or_right' : (x y : Bool) → y ≡ true → (x || y) ≡ true
    or_right' true y e = refl
    or_right' false y e = e

-- the newest part is that of the birth taken, up to the last one consumed
abbrev HeadIs : List Part → Option ℕ → ℕ → Type 0
HeadIs [] None n = Unit {0}
HeadIs [] (Some b) n = ⊥
HeadIs (part ∷ parts) None n = ⊥
HeadIs (part ∷ parts) (Some b) n = (part.start ≡ b) × (part.start + part.count ≡ n)

pub record Fronted (s : Setting) (h : HostRecord) : Type 0 where
  pub parts : List Part
  pub fronts : AreFronts s.published parts
  pub all : consumed_of h ≡ positions_of parts
  pub head : HeadIs parts (taken s h) (next_after h)

-- an event that consumes nothing
fronted_idle : (s : Setting) (h : HostRecord) (e : Done) → Fronted s h → e.consumed ≡ [] → Fronted s (e ∷ h)
fronted_idle s h e f none = record {
  parts = f.parts;
  fronts = f.fronts;
  all = ap (λ ps. consumed_of h ++ ps) none ∙ append-nil (consumed_of h) ∙ f.all;
  head = subst (λ ps. HeadIs f.parts (last_opening s.published (taken s h) ps) (after_last (next_after h) ps)) (sym none) f.head;
}

-- the parts after an NBIRTH
fronted_birth : (s : Setting) (h : HostRecord) (d : Standing) (e : Done) (p k : ℕ) → IsNodeRecord s.published → Tied s h d → Fronted s h → Eats s h p k → e.consumed ≡ range_with_len p (suc k) →
    opens s.published p ≡ true → is_taken_before (taken s h) p ≡ false → Fronted s (e ∷ h)
fronted_birth s h d e p k node t f ate ran opening newer = record {
  parts = record { start = p; count = suc k } ∷ f.parts;
  fronts = (
    record {
      opening = opening;
      some = omega arith;
      within = ate.within;
      one_birth = λ q low high.
          let at : p + (q - p) ≡ q = omega arith in
          let fits : p + suc k ≤ length s.published = ate.within in
          ap (birth_at s.published) (sym at) ∙ one_birth_along s.published node p (q - p) (omega arith) (λ r above below. ate.closed r above (omega arith));
    },
    above f.parts (taken s h) f.head newer (λ b tb. (t.birth b tb)),
    f.fronts,
  );
  all = ap (λ ps. consumed_of h ++ ps) ran ∙ ap (λ ps. ps ++ range_with_len p (suc k)) f.all;
  head = subst (λ ps. HeadIs (record { start = p; count = suc k } ∷ f.parts) (last_opening s.published (taken s h) ps) (after_last (next_after h) ps)) (sym ran)
      (subst (λ o. HeadIs (record { start = p; count = suc k } ∷ f.parts) o (after_last (next_after h) (range_with_len p (suc k))))
      (sym (ap (λ x. last_opening s.published (cond x (Some p) (taken s h)) (range_with_len (p + 1) k)) opening ∙ last_opening-none s.published (Some p) (p + 1) k (λ q low high. ate.closed q (omega arith) (omega arith))))
      (refl, sym (after_last-range (next_after h) p k)));
}
  where
    above : (parts : List Part) (o : Option ℕ) → HeadIs parts o (next_after h) → is_taken_before o p ≡ false → ((b : ℕ) → o ≡ Some b → IsTaken s h d b) → IsAbove s.published p parts
    above [] o hd nb tb = tt
    above (part ∷ parts) None hd nb tb = absurd hd
    above (part ∷ parts) (Some b) hd nb tb =
        let after : b < p = leb-false p b nb in
        let at : b + (p - 1 - b) ≡ p - 1 = omega arith in
        let fits : p + suc k ≤ length s.published = ate.within in
        let rise : birth_at s.published b ≤ birth_at s.published (b + (p - 1 - b)) = births_rise s.published node b (p - 1 - b) (omega arith) in
        let up : nat_lt (birth_at s.published (p - 1)) (birth_at s.published p) ≡ true = elim (or_cases (eqb p 0) (nat_lt (birth_at s.published (p - 1)) (birth_at s.published p)) opening) [
          | inl nought ↦ absurd (let z : p ≡ 0 = eqb-true p 0 nought in omega arith)
          | inr up ↦ up
        ] in
        let lt : birth_at s.published (p - 1) < birth_at s.published p = ltb-true _ _ up in
        let same : birth_at s.published (b + (p - 1 - b)) ≡ birth_at s.published (p - 1) = ap (birth_at s.published) at in
        subst (λ x. birth_at s.published x < birth_at s.published p) (sym hd.0) (omega arith)

-- the newest part grows
fronted_next : (s : Setting) (h : HostRecord) (d : Standing) (e : Done) (p k : ℕ) → IsNodeRecord s.published → Tied s h d → Fronted s h → Eats s h p k → e.consumed ≡ range_with_len p (suc k) →
    opens s.published p ≡ false → p ≡ next_after h → is_some (taken s h) ≡ true → Fronted s (e ∷ h)
fronted_next s h d e p k node t f ate ran closed at tk = go f.parts (taken s h) refl f.fronts f.all f.head tk
  where
    go : (parts : List Part) (o : Option ℕ) → taken s h ≡ o → AreFronts s.published parts → consumed_of h ≡ positions_of parts → HeadIs parts o (next_after h) → is_some o ≡ true → Fronted s (e ∷ h)
    go parts None to fr al hd tk = absurd (true≢false (sym tk))
    go [] (Some b) to fr al hd tk = absurd hd
    go (part ∷ parts) (Some b) to fr al hd tk =
        let grown : Part = record { start = part.start; count = part.count + suc k } in
        let joined : part.start + part.count ≡ p = hd.1 ∙ sym at in
        let start : part.start ≡ b = hd.0 in
        let o : IsTaken s h d b = t.birth b to in
        let bn : b < next_after h = o.below in
        let fits : p + suc k ≤ length s.published = ate.within in
        let shut : (q : ℕ) → b < q → q < p + suc k → opens s.published q ≡ false = λ q low high. elim (cases_lt q p) [
          | inl before ↦ o.one_birth q low (omega arith)
          | inr from ↦ elim (cases_eq q p) [
            | inl here ↦ ap (opens s.published) here ∙ closed
            | inr after ↦ ate.closed q (omega arith) high
          ]
        ] in
        record {
          parts = grown ∷ parts;
          fronts = (
            record {
              opening = fr.0.opening;
              some = omega arith;
              within = omega arith;
              one_birth = λ q low high.
                  let away : part.start + (q - part.start) ≡ q = omega arith in
                  ap (birth_at s.published) (sym away) ∙ one_birth_along s.published node part.start (q - part.start) (omega arith) (λ r above below. shut r (omega arith) (omega arith));
            },
            fr.1,
            fr.2,
          );
          all = ap (λ ps. consumed_of h ++ ps) ran ∙ ap (λ ps. ps ++ range_with_len p (suc k)) al
              ∙ append_assoc (positions_of parts) (range_with_len part.start part.count) (range_with_len p (suc k))
              ∙ ap (λ x. positions_of parts ++ (range_with_len part.start part.count ++ range_with_len x (suc k))) (sym joined)
              ∙ ap (λ ps. positions_of parts ++ ps) (sym (range-append part.start part.count (suc k)));
          head = subst (λ ps. HeadIs (grown ∷ parts) (last_opening s.published (taken s h) ps) (after_last (next_after h) ps)) (sym ran)
              (subst (λ y. HeadIs (grown ∷ parts) y (after_last (next_after h) (range_with_len p (suc k))))
              (sym (ap (λ x. last_opening s.published (cond x (Some p) (taken s h)) (range_with_len (p + 1) k)) closed ∙ ap (λ x. last_opening s.published x (range_with_len (p + 1) k)) to ∙ last_opening-none s.published (Some b) (p + 1) k (λ q low high. ate.closed q (omega arith) (omega arith))))
              (start, (let last : part.start + (part.count + suc k) ≡ p + suc k = omega arith in last) ∙ sym (after_last-range (next_after h) p k)));
        }

fronted_event : (s : Setting) (h : HostRecord) (d : Standing) (input : Input) (e : Done) → IsNodeRecord s.published → Tied s h d → Fronted s h → Ate s h input e.consumed → Fronted s (e ∷ h)
fronted_event s h d (DeathComes j now) e node t f ate = fronted_idle s h e f ate
fronted_event s h d (TickComes now) e node t f ate = fronted_idle s h e f ate
fronted_event s h d (MessageComes p now) e node t f ate = elim ate [
  | inl none ↦ fronted_idle s h e f none
  | inr some ↦ elim some.1.which [
    | inl birth ↦ fronted_birth s h d e p some.0 node t f some.1 some.2 birth.0 birth.1
    | inr next ↦ fronted_next s h d e p some.0 node t f some.1 some.2 next.0 next.1 (sym t.known ∙ live_is_known d.phase (t.live ∙ next.2))
  ]
]

pub fronted_always : (s : Setting) → IsNodeRecord s.published → 0 < s.width → s.width ≤ 96 → (inputs : List Input) → AllMayCome s inputs → AllStep s inputs → Fronted s (record_of s inputs)
fronted_always s node low high [] may steps = record { parts = []; fronts = tt; all = refl; head = tt }
fronted_always s node low high (input ∷ inputs) may steps =
    let t : Tied s (record_of s inputs) (standing_of s inputs) = tied_always s node low high inputs may.1 steps.1 in
    fronted_event s (record_of s inputs) (standing_of s inputs) input (done_at s (record_of s inputs) (standing_of s inputs) input) node t
    (fronted_always s node low high inputs may.1 steps.1)
    (outcome s (record_of s inputs) (standing_of s inputs) input node t may.0 steps.0).ate

pub prefixes_of : (s : Setting) (h : HostRecord) → Fronted s h → BirthPrefixes s.published (consumed_of h)
prefixes_of s h f = (f.parts, f.fronts, f.all)

-- the consumed list ends with the part of the birth taken
pub ends_of : (s : Setting) (h : HostRecord) → Fronted s h → EndsWithTaken s h
ends_of s h f b tk = go f.parts (taken s h) tk f.all f.head
  where
    go : (parts : List Part) (o : Option ℕ) → o ≡ Some b → consumed_of h ≡ positions_of parts → HeadIs parts o (next_after h) → (earlier : List ℕ) × (consumed_of h ≡ earlier ++ range_with_len b (next_after h - b))
    go [] None e al hd = absurd (cc)
    go (part ∷ parts) None e al hd = absurd hd
    go [] (Some c) e al hd = absurd hd
    go (part ∷ parts) (Some c) e al hd =
        let start : part.start ≡ b = hd.0 ∙ (let i : c ≡ b = cc in i) in
        let last : part.start + part.count ≡ next_after h = hd.1 in
        let count : part.count ≡ next_after h - b = omega arith in
        (positions_of parts, al ∙ ap (λ x. positions_of parts ++ range_with_len x part.count) start ∙ ap (λ x. positions_of parts ++ range_with_len b x) count)

-- while the host does not follow, nothing is consumed but a newer NBIRTH
pub after_gap_of : (s : Setting) (h : HostRecord) (input : Input) (e : Done) → Ate s h input e.consumed → AfterGap s h e
after_gap_of s h (DeathComes j now) e ate off = inl ate
after_gap_of s h (TickComes now) e ate off = inl ate
after_gap_of s h (MessageComes p now) e ate off = elim ate [
  | inl none ↦ inl none
  | inr some ↦ elim some.1.which [
    | inl birth ↦ inr (p, some.2 ∙ ap (λ k. range_with_len p (suc k)) (some.1.alone off), birth.0, birth.1)
    | inr next ↦ absurd (true≢false (sym next.2 ∙ off))
  ]
]

-- the birth taken after an event
pub taken_by_is : (s : Setting) (h : HostRecord) (input : Input) (e : Done) → Ate s h input e.consumed → taken s (e ∷ h) ≡ taken_by s h input e.consumed
taken_by_is s h (DeathComes j now) e ate = ap (last_opening s.published (taken s h)) ate
taken_by_is s h (TickComes now) e ate = ap (last_opening s.published (taken s h)) ate
taken_by_is s h (MessageComes p now) e ate = elim ate [
  | inl none ↦ ap (last_opening s.published (taken s h)) none ∙ sym (ap (λ ps. cond (opens s.published p && not (is_empty ps)) (Some p) (taken s h)) none ∙ nothing (opens s.published p))
  | inr some ↦ ap (last_opening s.published (taken s h)) some.2
      ∙ last_opening-none s.published (cond (opens s.published p) (Some p) (taken s h)) (p + 1) some.0 (λ q low high. some.1.closed q (omega arith) (omega arith))
      ∙ sym (ap (λ ps. cond (opens s.published p && not (is_empty ps)) (Some p) (taken s h)) some.2 ∙ something (opens s.published p))
]
  where
    nothing : (b : Bool) → cond (b && false) (Some p) (taken s h) ≡ taken s h
    nothing true = refl
    nothing false = refl

    something : (b : Bool) → cond (b && true) (Some p) (taken s h) ≡ cond b (Some p) (taken s h)
    something true = refl
    something false = refl
