-- A number that begins with 0 at each NBIRTH.
use Rattle.std.proofs.Common.{◌≡◌, ℕ, zero, suc, ◌+◌, ◌-◌, ◌%◌, ◌<◌, ◌≤◌, ◌&&◌, ◌⊎◌, true, false, cond, nat_le, eqb, List, [], ◌∷◌, length, refl, sym, ◌∙◌, ap, arith, Option, Some, None, is_some, inl, inr, subst}
use Rattle.std.specs.List.{range_with_len}
use Rattle.std.proofs.lemmas.Bool.{true≢false, cases_lt, cases_eq, cases_Bool, or_cases, eq-eqb, eqb-true, and_left, and_parts, leb-true, leb-false, false_from_ne_true}
use Rattle.spk_sequence.specs.declared.phase.Phase.{Phase}
use Rattle.spk_sequence.specs.declared.phase.Phase.TheVariants as phase
use Rattle.spk_sequence.specs.declared.message.Kind.TheVariants.{Birth, Other}
use Rattle.spk_sequence.specs.declared.answer.Step.{Step}
use Rattle.spk_sequence.specs.declared.answer.Step.TheVariants as step
use Rattle.spk_sequence.specs.Data.{Standing}
use Rattle.spk_sequence.specs.Step.{is_live, is_dead, is_known, is_any_held, is_over, is_match, hand, hand_birth, run_of, kept_places, after_birth, after_stop}
use Rattle.spk_sequence.specs.Calls.{Stepped, after_call}
use Rattle.spk_sequence.specs.NodeRecord.{Setting, NodeRecord, Restarts, IsNodeRecord, opens, session_at, stamp_at, start_of, number_by, written_number, written_session}
use Rattle.spk_sequence.specs.HostRecord.{Input, MessageComes, DeathComes, TickComes, Done, HostRecord, record_of, standing_of, done_at, consumed_by, call_of, kind_of}
use Rattle.spk_sequence.specs.Following.{contains, taken, following, last_opening}
use Rattle.spk_sequence.specs.Window.{AllMayCome, AllAfterBirth, IsAfterOwnBirth, IsNear, IsNearTo, IsNearBirth, handed_of}
use Rattle.spk_sequence.specs.Positions.{is_taken_before}
use Rattle.spk_sequence.proofs.Places.{none_held-from}
use Rattle.spk_sequence.proofs.Ranges.{last_opening-none}
use Rattle.spk_sequence.proofs.Tied.{Tied, IsTaken, InStep}
use Rattle.spk_sequence.proofs.Outcomes.{Outcome, Eats, Ate, live_is_alive, not_live}
use Rattle.spk_sequence.proofs.Births.{birth_kind, old_birth, dead_birth, new_birth, near_sessions}
use Rattle.spk_sequence.proofs.Always.{StepsOf, AllStep, outcome, tied_always}

pub start_opens : (published : NodeRecord) (p : ℕ) → opens published (start_of published p) ≡ true
start_opens published zero = refl
start_opens published (suc p) = elim (cases_Bool (opens published (suc p))) [
  | inl opening ↦ ap (λ b. opens published (cond b (suc p) (start_of published p))) opening ∙ opening
  | inr closed ↦ ap (λ b. opens published (cond b (suc p) (start_of published p))) closed ∙ start_opens published p
]

-- no NBIRTH stands between the start of a birth and a message of it
start_greatest : (published : NodeRecord) (p c : ℕ) → opens published c ≡ true → c ≤ p → c ≤ start_of published p
start_greatest published zero c opening below = below
start_greatest published (suc p) c opening below = elim (cases_Bool (opens published (suc p))) [
  | inl here ↦ subst (λ b. c ≤ cond b (suc p) (start_of published p)) (sym here) below
  | inr closed ↦ subst (λ b. c ≤ cond b (suc p) (start_of published p)) (sym closed) (elim (cases_eq c (suc p)) [
    | inl same ↦ absurd (true≢false (sym opening ∙ ap (opens published) same ∙ closed))
    | inr other ↦ start_greatest published p c opening (omega arith)
  ])
]

pub start_below : (published : NodeRecord) (p : ℕ) → start_of published p ≤ p
start_below published zero = omega arith
start_below published (suc p) = elim (cases_Bool (opens published (suc p))) [
  | inl here ↦ subst (λ b. cond b (suc p) (start_of published p) ≤ suc p) (sym here) (omega arith)
  | inr closed ↦ subst (λ b. cond b (suc p) (start_of published p) ≤ suc p) (sym closed) (let l : start_of published p ≤ p = start_below published p in omega arith)
]

-- a message of the birth at b is in step with it
in_step_own : (s : Setting) (p b : ℕ) → s.numbering ≡ Restarts → opens s.published b ≡ true → start_of s.published p ≡ b → InStep s p b
in_step_own s p b e opening start = record {
  counted = λ c opens_c low high.
      let most : c ≤ start_of s.published p = start_greatest s.published p c opens_c high in
      let same : b ≡ c = omega arith in
      let one : written_number s p ≡ (p - start_of s.published p) % 256 = ap (λ n. number_by n s p) e in
      let self : b ≤ start_of s.published b = start_greatest s.published b b opening (omega arith) in
      let other : written_number s b ≡ (b - start_of s.published b) % 256 = ap (λ n. number_by n s b) e in
      subst (λ x. written_number s p ≡ (written_number s x + (p - x)) % 256) same (omega arith);
}

-- A handed NBIRTH is at most the one taken, or it has its session, and the phase is Dead.
record IsOpened (s : Setting) (h : HostRecord) (d : Standing) (q : ℕ) : Type 0 where
  birth : ℕ
  is_taken : taken s h ≡ Some birth
  below : (q ≤ birth) ⊎ ((session_at s.published q ≡ session_at s.published birth) × (is_dead d.phase ≡ true))

abbrev AllOpened : Setting → HostRecord → Standing → Type 0
AllOpened s h d = (q : ℕ) → opens s.published q ≡ true → contains q (handed_of h) ≡ true → IsOpened s h d q

-- what a handed NBIRTH consumes, by the rule that decides
birth_eats : (s : Setting) (h : HostRecord) (d e : Standing) (p now : ℕ) (r : Step) → opens s.published p ≡ true → hand_birth d (written_number s p) (stamp_at s.published p) (written_session s (session_at s.published p)) now ≡ (r, e) →
    ((done_at s h d (MessageComes p now)).consumed ≡ consumed_by s h (MessageComes p now) (Stepped r)) × (after_call d (call_of s (MessageComes p now)) ≡ e)
birth_eats s h d e p now r opening rule =
    let is : hand d (written_number s p) (kind_of s p) now ≡ (r, e) = ap (λ y. hand d (written_number s p) y now) (birth_kind s p opening) ∙ rule in
    (ap (λ (y : Step × Standing). consumed_by s h (MessageComes p now) (Stepped y.0)) is, ap (λ (y : Step × Standing). y.1) is)

-- An NBIRTH that consumes nothing is not newer than the birth taken, or has its bdSeq while the phase is Dead; the data stays.
pub record IsRefused (s : Setting) (h : HostRecord) (d : Standing) (p now : ℕ) : Type 0 where
  pub why : ((is_known d.phase && nat_le (stamp_at s.published p) d.stamp) ≡ true) ⊎ ((is_dead d.phase && eqb (written_session s (session_at s.published p)) d.bd) ≡ true)
  pub still : after_call d (call_of s (MessageComes p now)) ≡ d

pub refused_is : (s : Setting) (h : HostRecord) (d : Standing) (p now : ℕ) → opens s.published p ≡ true → (done_at s h d (MessageComes p now)).consumed ≡ [] → IsRefused s h d p now
refused_is s h d p now opening none =
    let x : ℕ = written_number s p in
    let st : ℕ = stamp_at s.published p in
    let bd : ℕ = written_session s (session_at s.published p) in
    elim (cases_Bool (is_known d.phase && nat_le st d.stamp)) [
      | inl old ↦ (let parts : (is_known d.phase ≡ true) × (nat_le st d.stamp ≡ true) = and_parts (is_known d.phase) (nat_le st d.stamp) old in
          record { why = inl old; still = (birth_eats s h d d p now step.OldBirth opening (old_birth d x st bd now parts.0 parts.1)).1 })
      | inr newer ↦ elim (cases_Bool (is_dead d.phase && eqb bd d.bd)) [
        | inl dead ↦ (let parts : (is_dead d.phase ≡ true) × (eqb bd d.bd ≡ true) = and_parts (is_dead d.phase) (eqb bd d.bd) dead in
            record { why = inr dead; still = (birth_eats s h d d p now step.DeadSession opening (dead_birth d x st bd now newer parts.0 parts.1)).1 })
        | inr alive ↦ absurd (let i : (done_at s h d (MessageComes p now)).consumed ≡ consumed_by s h (MessageComes p now) (Stepped (step.Consumed (1 + run_of (kept_places d x st)))) =
            (birth_eats s h d (after_birth d x st bd now) p now (step.Consumed (1 + run_of (kept_places d x st))) opening (new_birth d x st bd now newer alive)).0 in
            not_empty _ _ (sym i ∙ none))
      ]
    ]
  where
    not_empty : (q : ℕ) (qs : List ℕ) → (q ∷ qs) ≡ [] → ⊥
    not_empty q qs e = absurd (cc)

-- an NBIRTH with the bdSeq of the birth taken consumes nothing while the phase is Dead
dead_refuses : (s : Setting) (h : HostRecord) (d : Standing) (p now : ℕ) → opens s.published p ≡ true → is_dead d.phase ≡ true → eqb (written_session s (session_at s.published p)) d.bd ≡ true → (done_at s h d (MessageComes p now)).consumed ≡ []
dead_refuses s h d p now opening dead same =
    let x : ℕ = written_number s p in
    let st : ℕ = stamp_at s.published p in
    let bd : ℕ = written_session s (session_at s.published p) in
    elim (cases_Bool (is_known d.phase && nat_le st d.stamp)) [
      | inl old ↦ (let parts : (is_known d.phase ≡ true) × (nat_le st d.stamp ≡ true) = and_parts (is_known d.phase) (nat_le st d.stamp) old in
          (birth_eats s h d d p now step.OldBirth opening (old_birth d x st bd now parts.0 parts.1)).0)
      | inr newer ↦ (birth_eats s h d d p now step.DeadSession opening (dead_birth d x st bd now newer dead same)).0
    ]

pub dead_off : (s : Setting) (h : HostRecord) (d : Standing) → Tied s h d → is_dead d.phase ≡ true → (following s h).on ≡ false
dead_off s h d t dead = false_from_ne_true (following s h).on (λ on. true≢false (sym dead ∙ live_is_alive d.phase (t.live ∙ on)))

-- while nothing is consumed the phase stays Dead
still_dead : (s : Setting) (h : HostRecord) (d : Standing) (input : Input) → Tied s h d → is_dead d.phase ≡ true → (done_at s h d input).consumed ≡ [] → is_dead (after_call d (call_of s input)).phase ≡ true
still_dead s h d (TickComes now) t dead none =
    let idle : is_over d now ≡ false = and_left (is_any_held d.held) (nat_le d.wait (now - d.since)) (none_held-from d.held (λ i below. t.off_held (dead_off s h d t dead) i)) in
    ap (λ x. is_dead (cond x (after_stop d phase.Gap) d).phase) idle ∙ dead
still_dead s h d (DeathComes j now) t dead none = elim (cases_Bool (is_match d (written_session s j))) [
  | inl matched ↦ ap (λ x. is_dead (cond x (after_stop d phase.Dead) d).phase) matched
  | inr ignored ↦ ap (λ x. is_dead (cond x (after_stop d phase.Dead) d).phase) ignored ∙ dead
]
still_dead s h d (MessageComes p now) t dead none = elim (cases_Bool (opens s.published p)) [
  | inl opening ↦ ap (λ (e : Standing). is_dead e.phase) (refused_is s h d p now opening none).still ∙ dead
  | inr closed ↦
      let off : is_live d.phase ≡ false = t.live ∙ dead_off s h d t dead in
      let is : hand d (written_number s p) (kind_of s p) now ≡ (step.NotLive, d) =
      ap (λ x. hand d (written_number s p) (cond x (Birth (stamp_at s.published p) (written_session s (session_at s.published p))) (Other (Some (stamp_at s.published p)))) now) closed
      ∙ not_live d (written_number s p) now (Some (stamp_at s.published p)) off in
      ap (λ (y : Step × Standing). is_dead y.1.phase) is ∙ dead
]

opened_idle : (s : Setting) (h : HostRecord) (d : Standing) (input : Input) (q : ℕ) → Tied s h d → (done_at s h d input).consumed ≡ [] → IsOpened s h d q → IsOpened s (done_at s h d input ∷ h) (after_call d (call_of s input)) q
opened_idle s h d input q t none o = record {
  birth = o.birth;
  is_taken = ap (last_opening s.published (taken s h)) none ∙ o.is_taken;
  below = elim o.below [
    | inl less ↦ inl less
    | inr dead ↦ inr (dead.0, still_dead s h d input t dead.1 none)
  ];
}

taken_birth : (s : Setting) (h : HostRecord) (e : Done) (p k : ℕ) → Eats s h p k → e.consumed ≡ range_with_len p (suc k) → opens s.published p ≡ true → taken s (e ∷ h) ≡ Some p
taken_birth s h e p k a ran opening =
    ap (last_opening s.published (taken s h)) ran ∙ ap (λ x. last_opening s.published (cond x (Some p) (taken s h)) (range_with_len (p + 1) k)) opening
    ∙ last_opening-none s.published (Some p) (p + 1) k (λ q low high. a.closed q (omega arith) (omega arith))

ran_some : (p k : ℕ) (ps : List ℕ) → ps ≡ range_with_len p (suc k) → ps ≡ [] → ⊥
ran_some p k ps ran none = (let i : (p ∷ range_with_len (p + 1) k) ≡ [] = sym ran ∙ none in absurd (cc))

-- those handed before
opened_before : (s : Setting) (h : HostRecord) (d : Standing) (p now q : ℕ) → IsNodeRecord s.published → Tied s h d → q < length s.published → Ate s h (MessageComes p now) (done_at s h d (MessageComes p now)).consumed → IsOpened s h d q →
    IsOpened s (done_at s h d (MessageComes p now) ∷ h) (after_call d (call_of s (MessageComes p now))) q
opened_before s h d p now q node t published ate o = elim ate [
  | inl none ↦ opened_idle s h d (MessageComes p now) q t none o
  | inr some ↦
      let k : ℕ = some.0 in
      let a : Eats s h p k = some.1 in
      elim a.which [
        | inl birth ↦
            let b : ℕ = o.birth in
            let own : IsTaken s h d b = t.birth b o.is_taken in
            let after : b < p = leb-false p b (sym (ap (λ x. is_taken_before x p) o.is_taken) ∙ birth.1) in
            let fits : p + suc k ≤ length s.published = a.within in
            record {
              birth = p;
              is_taken = taken_birth s h (done_at s h d (MessageComes p now)) p k a some.2 birth.0;
              below = inl (elim o.below [
                | inl less ↦ omega arith
                | inr dead ↦ elim (cases_lt q p) [
                  | inl less ↦ omega arith
                  | inr past ↦
                      let up : session_at s.published b ≤ session_at s.published p = node.sessions b p (omega arith) (omega arith) in
                      let more : session_at s.published p ≤ session_at s.published q = node.sessions p q past published in
                      let same : session_at s.published q ≡ session_at s.published b = dead.0 in
                      let one : session_at s.published p ≡ session_at s.published b = omega arith in
                      let byte : eqb (written_session s (session_at s.published p)) d.bd ≡ true = eq-eqb (written_session s (session_at s.published p)) d.bd (ap (written_session s) one ∙ sym own.bd) in
                      absurd (ran_some p k (done_at s h d (MessageComes p now)).consumed some.2 (dead_refuses s h d p now birth.0 dead.1 byte))
                ]
              ]);
            }
        | inr next ↦ record {
          birth = o.birth;
          is_taken = ap (last_opening s.published (taken s h)) some.2 ∙ ap (λ x. last_opening s.published (cond x (Some p) (taken s h)) (range_with_len (p + 1) k)) next.0
              ∙ last_opening-none s.published (taken s h) (p + 1) k (λ r low high. a.closed r (omega arith) (omega arith)) ∙ o.is_taken;
          below = elim o.below [
            | inl less ↦ inl less
            | inr dead ↦ absurd (true≢false (sym next.2 ∙ dead_off s h d t dead.1))
          ];
        }
      ]
]

-- a birth was taken where the phase says so
taken_of : (s : Setting) (h : HostRecord) (d : Standing) → Tied s h d → is_known d.phase ≡ true → (b : ℕ) × (taken s h ≡ Some b)
taken_of s h d t known = go (taken s h) refl
  where
    go : (o : Option ℕ) → taken s h ≡ o → (b : ℕ) × (taken s h ≡ Some b)
    go None tk = absurd (true≢false (sym known ∙ t.known ∙ ap is_some tk))
    go (Some b) tk = (b, tk)

-- the one handed now
opened_now : (s : Setting) (h : HostRecord) (d : Standing) (p now : ℕ) → IsNodeRecord s.published → Tied s h d → p < length s.published → opens s.published p ≡ true → IsNear s h (session_at s.published p) →
    Ate s h (MessageComes p now) (done_at s h d (MessageComes p now)).consumed → IsOpened s (done_at s h d (MessageComes p now) ∷ h) (after_call d (call_of s (MessageComes p now))) p
opened_now s h d p now node t published opening near ate = elim ate [
  | inr some ↦ record { birth = p; is_taken = taken_birth s h (done_at s h d (MessageComes p now)) p some.0 some.1 some.2 opening; below = inl (omega arith) }
  | inl none ↦ opened_idle s h d (MessageComes p now) p t none (elim (refused_is s h d p now opening none).why [
    | inl old ↦
        let parts : (is_known d.phase ≡ true) × (nat_le (stamp_at s.published p) d.stamp ≡ true) = and_parts (is_known d.phase) (nat_le (stamp_at s.published p) d.stamp) old in
        let b : (c : ℕ) × (taken s h ≡ Some c) = taken_of s h d t parts.0 in
        let own : IsTaken s h d b.0 = t.birth b.0 b.1 in
        let stamp : d.stamp ≡ stamp_at s.published b.0 = own.stamp in
        let low : stamp_at s.published p ≤ d.stamp = leb-true (stamp_at s.published p) d.stamp parts.1 in
        record {
          birth = b.0;
          is_taken = b.1;
          below = inl (elim (cases_lt b.0 p) [
            | inl newer ↦ (let above : stamp_at s.published b.0 < stamp_at s.published p = node.newer b.0 p newer published opening in omega arith)
            | inr before ↦ before
          ]);
        }
    | inr dead ↦
        let parts : (is_dead d.phase ≡ true) × (eqb (written_session s (session_at s.published p)) d.bd ≡ true) = and_parts (is_dead d.phase) (eqb (written_session s (session_at s.published p)) d.bd) dead in
        let b : (c : ℕ) × (taken s h ≡ Some c) = taken_of s h d t (dead_is_known d.phase parts.0) in
        let own : IsTaken s h d b.0 = t.birth b.0 b.1 in
        let close : IsNearTo s (Some b.0) (session_at s.published p) = subst (λ y. IsNearTo s y (session_at s.published p)) b.1 near in
        record {
          birth = b.0;
          is_taken = b.1;
          below = inr (near_sessions s (session_at s.published p) (session_at s.published b.0) close.0 close.1 (eqb-true (written_session s (session_at s.published p)) d.bd parts.1 ∙ own.bd), parts.0);
        }
  ])
]
  where
    dead_is_known : (x : Phase) → is_dead x ≡ true → is_known x ≡ true
    dead_is_known phase.Dead e = refl
    dead_is_known phase.Unknown e = absurd (true≢false (sym e))
    dead_is_known phase.Live e = absurd (true≢false (sym e))
    dead_is_known phase.Gap e = absurd (true≢false (sym e))

-- handed positions are published
pub handed_below : (s : Setting) → (inputs : List Input) → AllMayCome s inputs → (q : ℕ) → contains q (handed_of (record_of s inputs)) ≡ true → q < length s.published
handed_below s [] may q there = absurd (true≢false (sym there))
handed_below s (DeathComes j now ∷ inputs) may q there = handed_below s inputs may.1 q there
handed_below s (TickComes now ∷ inputs) may q there = handed_below s inputs may.1 q there
handed_below s (MessageComes p now ∷ inputs) may q there = elim (or_cases (eqb p q) (contains q (handed_of (record_of s inputs))) there) [
  | inl here ↦ (let same : p ≡ q = eqb-true p q here in let k : p < length s.published = may.0.published in omega arith)
  | inr before ↦ handed_below s inputs may.1 q before
]

opened_event : (s : Setting) (inputs : List Input) (input : Input) → IsNodeRecord s.published → Tied s (record_of s inputs) (standing_of s inputs) → AllMayCome s (input ∷ inputs) → Outcome s (record_of s inputs) (standing_of s inputs) input → IsNearBirth s (record_of s inputs) input →
    AllOpened s (record_of s inputs) (standing_of s inputs) → AllOpened s (record_of s (input ∷ inputs)) (standing_of s (input ∷ inputs))
opened_event s inputs (DeathComes j now) node t may out near old q opening there = opened_idle s (record_of s inputs) (standing_of s inputs) (DeathComes j now) q t out.ate (old q opening there)
opened_event s inputs (TickComes now) node t may out near old q opening there = opened_idle s (record_of s inputs) (standing_of s inputs) (TickComes now) q t out.ate (old q opening there)
opened_event s inputs (MessageComes p now) node t may out near old q opening there =
    let h : HostRecord = record_of s inputs in
    let d : Standing = standing_of s inputs in
    elim (or_cases (eqb p q) (contains q (handed_of h)) there) [
      | inl here ↦
          let same : p ≡ q = eqb-true p q here in
          let opens_p : opens s.published p ≡ true = ap (opens s.published) same ∙ opening in
          subst (IsOpened s (done_at s h d (MessageComes p now) ∷ h) (after_call d (call_of s (MessageComes p now)))) same (opened_now s h d p now node t may.0.published opens_p (near opens_p) out.ate)
      | inr before ↦ opened_before s h d p now q node t (handed_below s inputs may.1 q before) out.ate (old q opening before)
    ]

-- the message that comes next is of the birth that is followed
step_restarts : (s : Setting) (inputs : List Input) (input : Input) → s.numbering ≡ Restarts → Tied s (record_of s inputs) (standing_of s inputs) → AllOpened s (record_of s inputs) (standing_of s inputs) → IsAfterOwnBirth s (record_of s inputs) input → StepsOf s (record_of s inputs) input
step_restarts s inputs (DeathComes j now) e t old after = tt
step_restarts s inputs (TickComes now) e t old after = tt
step_restarts s inputs (MessageComes p now) e t old after = λ b closed tk on low.
    let h : HostRecord = record_of s inputs in
    let d : Standing = standing_of s inputs in
    let o : IsTaken s h d b = t.birth b tk in
    elim after [
      | inl opening ↦ absurd (true≢false (sym opening ∙ closed))
      | inr handed ↦
          let i : IsOpened s h d (start_of s.published p) = old (start_of s.published p) (start_opens s.published p) handed in
          let one : i.birth ≡ b = (let x : Some i.birth ≡ Some b = sym i.is_taken ∙ tk in cc) in
          let most : b ≤ start_of s.published p = start_greatest s.published p b o.opening low in
          let least : start_of s.published p ≤ b = elim i.below [
            | inl less ↦ omega arith
            | inr dead ↦ absurd (true≢false (sym on ∙ dead_off s h d t dead.1))
          ] in
          in_step_own s p b e o.opening (omega arith)
    ]

record Both (s : Setting) (inputs : List Input) : Type 0 where
  steps : AllStep s inputs
  opened : AllOpened s (record_of s inputs) (standing_of s inputs)

both_always : (s : Setting) → s.numbering ≡ Restarts → IsNodeRecord s.published → 0 < s.width → s.width ≤ 96 → (inputs : List Input) → AllMayCome s inputs → AllAfterBirth s inputs → Both s inputs
both_always s e node low high [] may after = record { steps = tt; opened = λ q opening there. absurd (true≢false (sym there)) }
both_always s e node low high (input ∷ inputs) may after =
    let both : Both s inputs = both_always s e node low high inputs may.1 after.2 in
    let t : Tied s (record_of s inputs) (standing_of s inputs) = tied_always s node low high inputs may.1 both.steps in
    let step : StepsOf s (record_of s inputs) input = step_restarts s inputs input e t both.opened after.0 in
    record {
      steps = (step, both.steps);
      opened = opened_event s inputs input node t may (outcome s (record_of s inputs) (standing_of s inputs) input node t may.0 step) after.1 both.opened;
    }

pub all_step_restarts : (s : Setting) → s.numbering ≡ Restarts → IsNodeRecord s.published → 0 < s.width → s.width ≤ 96 → (inputs : List Input) → AllMayCome s inputs → AllAfterBirth s inputs → AllStep s inputs
all_step_restarts s e node low high inputs may after = (both_always s e node low high inputs may after).steps
