-- What a host holds of a node: under each number the message of the position that is held there by positions.
use Rattle.std.proofs.Common.{◌≡◌, ◌∙◌, sym, ap, subst, refl, inl, inr, ℕ, zero, suc, ◌<◌, ◌≤◌, Bool, true, false, cond, List, [], ◌∷◌, length, replicate, set, get_or, get_or-set_other, Option, Some, None, is_some, arith}
use Rattle.std.proofs.lemmas.Bool.{cases_eq, eq-eqb, ne_eqb}
use Rattle.std.proofs.lemmas.List.{get_or-set_same, length-replicate}
use Rattle.std.proofs.lemmas.List.FromFn.{get_or-map-range_with_len, length-map-range_with_len}
use Rattle.spk_sequence.specs.declared.answer.Step.{Step}
use Rattle.spk_sequence.specs.declared.answer.Step.TheVariants as step
use Rattle.spk_sequence.specs.declared.message.Kind.{Kind}
use Rattle.spk_sequence.specs.Calls as call
use Rattle.spk_sequence.specs.Calls.{Reply, reply_of}
use Rattle.spk_sequence.specs.Data.{Standing, IsWhole}
use Rattle.spk_sequence.specs.HostRecord.{Done, HostRecord, Input, MessageComes, DeathComes, TickComes, done_at, held_under, is_held_under, position_of, record_of, standing_of}
use Rattle.spk_sequence.specs.NodeRecord.{Setting, written_number}
use Rattle.spk_sequence.specs.Numbers.{KeepsNumbers, Remains, held_as}
use Rattle.spk_sequence.specs.Step as sequence
use Rattle.spk_order.specs.Ordered.{Ordered, kept_at}
use Rattle.spk_order.specs.Step.{fresh_order, handed, left_at, left_by, placed, stands_so}
use Rattle.spk_reading.specs.Data.{NumberedData}
use Rattle.spk_host_node.specs.Inputs as node
use Rattle.spk_host_node.specs.Inputs.{Comes, Dies, Ticks, Ends, order_after, order_with}
use Rattle.spk_edge_rules.specs.Config.{Setup}
use Rattle.spk_edge_rules.specs.Run as edge
use Rattle.spk_tie.specs.Tie.{IsMessageAt, host_setting}
use Rattle.spk_heard.specs.Read.{AreRead, IsRead}
use Rattle.spk_heard.proofs.Steps.{number_is, standing_is, step_is}

-- what each call does to what is held, by the laws on numbers and on records
pub record Numbers : Type 0 where
  pub hand : (s : Standing) (number now : ℕ) (kind : Kind) → number < 256 → IsWhole s →
      KeepsNumbers s (sequence.hand s number kind now).1 number (sequence.hand s number kind now).0
  pub tick_whole : (s : Standing) (now : ℕ) → IsWhole s → IsWhole (sequence.tick s now)
  pub death_whole : (s : Standing) (bd : ℕ) → IsWhole s → IsWhole (sequence.death s bd)
  pub tick : (s : Standing) (now : ℕ) → Remains s (sequence.tick s now)
  pub death : (s : Standing) (bd : ℕ) → Remains s (sequence.death s bd)
  pub byte : (s : Setting) (p : ℕ) → written_number s p < 256

-- a message that is held under a number, by positions
pub record IsHeldAt (s : Setup) (published : List edge.Message) (setting : Setting) (h : HostRecord) (x : ℕ) (read : NumberedData) : Type 0 where
  pub position : ℕ
  pub message : edge.Message
  pub held : held_under setting h x ≡ Some position
  pub is : IsMessageAt s published position message read

abbrev pub ReadsHeld : (s : Setup) (published : List edge.Message) (setting : Setting) (h : HostRecord) → List (Option NumberedData) → Type 0
ReadsHeld s published setting h kept =
    (x : ℕ) → x < 256 → (read : NumberedData) → kept_at kept x ≡ Some read → IsHeldAt s published setting h x read

abbrev pub HasEach : Standing → List (Option NumberedData) → Type 0
HasEach standing kept = (x : ℕ) → x < 256 → is_some (held_as standing x) ≡ true → is_some (kept_at kept x) ≡ true

-- each message that the order holds is there, and is that of the position held under its number
pub record Holds (s : Setup) (published : List edge.Message) (setting : Setting) (h : HostRecord) (o : Ordered NumberedData) : Type 0 where
  pub whole : IsWhole o.standing
  pub sized : length o.kept ≡ 256
  pub each : HasEach o.standing o.kept
  pub reads : ReadsHeld s published setting h o.kept

-- ---- once the order stands so

picked : {T : Type 0} (b : Bool) (x : Option T) (y : T) → cond b x None ≡ Some y → x ≡ Some y
picked true x y e = e
picked false x y e = absurd (let z : ⊥ = cc in z)

left_is : (standing : Standing) (kept : List (Option NumberedData)) (x : ℕ) → x < 256 → kept_at (left_by standing kept) x ≡ left_at standing kept x
unfolding left_by
left_is standing kept x byte = get_or-map-range_with_len (left_at standing kept) 0 256 x x None byte (omega arith)

left_length : (standing : Standing) (kept : List (Option NumberedData)) → length (left_by standing kept) ≡ 256
unfolding left_by
left_length standing kept = length-map-range_with_len (left_at standing kept) 0 256

settled : (s : Setup) (published : List edge.Message) (setting : Setting) (h : HostRecord) (standing : Standing) (kept : List (Option NumberedData)) →
    IsWhole standing → HasEach standing kept → ReadsHeld s published setting h kept → Holds s published setting h (stands_so standing kept)
settled s published setting h standing kept whole each reads = record {
  whole = whole;
  sized = left_length standing kept;
  each = λ x byte held.
      ap is_some (left_is standing kept x byte ∙ ap (λ b. cond b (kept_at kept x) None) held) ∙ each x byte held;
  reads = λ x byte read there.
      reads x byte read (picked (is_some (held_as standing x)) (kept_at kept x) read (sym (left_is standing kept x byte) ∙ there));
}

pub some_of : {X : Type 0} (o : Option X) → is_some o ≡ true → (x : X) × (o ≡ Some x)
some_of (Some x) e = (x, refl)
some_of None e = absurd (let z : ⊥ = cc in z)

-- what remains held is there
remains_each : (old new : Standing) (kept : List (Option NumberedData)) → HasEach old kept → Remains old new → HasEach new kept
remains_each old new kept each remains x byte held =
    let there = some_of (held_as new x) held in
    each x byte (ap is_some (remains x byte there.0 there.1))

-- ---- a message is handed

held_each : (old new : Standing) (kept : List (Option NumberedData)) (number : ℕ) (read : NumberedData) → length kept ≡ 256 → HasEach old kept →
    KeepsNumbers old new number step.Held → number < 256 → HasEach new (set kept number (Some read))
held_each old new kept number read sized each keeps low x byte held = elim (cases_eq x number) [
  | inl e ↦ let within : number < length kept = omega (arith, sized) in
      ap (λ y. is_some (kept_at (set kept number (Some read)) y)) e ∙ ap is_some (get_or-set_same kept number (Some read) None within)
  | inr other ↦ ap is_some (get_or-set_other kept number x (Some read) None other)
      ∙ each x byte (ap is_some (sym ((keeps.added refl).others x byte other)) ∙ held)
]

placed_each : (old new : Standing) (kept : List (Option NumberedData)) (number : ℕ) (read : NumberedData) (answer : Step) → length kept ≡ 256 →
    HasEach old kept → KeepsNumbers old new number answer → number < 256 → HasEach new (placed kept number read answer)
placed_each old new kept number read step.Held sized each keeps low = held_each old new kept number read sized each keeps low
placed_each old new kept number read (step.Consumed n) sized each keeps low = remains_each old new kept each (keeps.remains (λ e. absurd (cc)))
placed_each old new kept number read step.Old sized each keeps low = remains_each old new kept each (keeps.remains (λ e. absurd (cc)))
placed_each old new kept number read step.Gap sized each keeps low = remains_each old new kept each (keeps.remains (λ e. absurd (cc)))
placed_each old new kept number read step.OldBirth sized each keeps low = remains_each old new kept each (keeps.remains (λ e. absurd (cc)))
placed_each old new kept number read step.DeadSession sized each keeps low = remains_each old new kept each (keeps.remains (λ e. absurd (cc)))
placed_each old new kept number read step.NotLive sized each keeps low = remains_each old new kept each (keeps.remains (λ e. absurd (cc)))

-- what was held under a number stays the last one there, unless an event holds another
still_held : (s : Setup) (published : List edge.Message) (setting : Setting) (h : HostRecord) (e : Done) (x : ℕ) (read : NumberedData) →
    is_held_under setting x e.input e.reply ≡ false → IsHeldAt s published setting h x read → IsHeldAt s published setting (e ∷ h) x read
still_held s published setting h e x read other is = record {
  position = is.position;
  message = is.message;
  held = ap (λ b. cond b (position_of e.input) (held_under setting h x)) other ∙ is.held;
  is = is.is;
}

abbrev event : Input → Reply → List ℕ → Done
event i r ps = record { input = i; reply = r; consumed = ps }

now_held : (s : Setup) (published : List edge.Message) (setting : Setting) (h : HostRecord) (p now : ℕ) (ps : List ℕ) (m : edge.Message)
    (kept : List (Option NumberedData)) (number : ℕ) (read : NumberedData) → length kept ≡ 256 → number < 256 → number ≡ written_number setting p →
    IsMessageAt s published p m read → ReadsHeld s published setting h kept →
    ReadsHeld s published setting (event (MessageComes p now) (call.Stepped step.Held) ps ∷ h) (set kept number (Some read))
now_held s published setting h p now ps m kept number read sized low is at reads x byte other there = elim (cases_eq x number) [
  | inl e ↦ let within : number < length kept = omega (arith, sized) in
      let same : Some read ≡ Some other = sym (ap (kept_at (set kept number (Some read))) e ∙ get_or-set_same kept number (Some read) None within) ∙ there in
      let here : read ≡ other = cc in
      record {
        position = p;
        message = m;
        held = ap (λ b. cond b (Some p) (held_under setting h x)) (eq-eqb (written_number setting p) x (sym is ∙ sym e));
        is = subst (IsMessageAt s published p m) here at;
      }
  | inr away ↦ still_held s published setting h (event (MessageComes p now) (call.Stepped step.Held) ps) x other
      (ne_eqb (written_number setting p) x (λ e. away (sym e ∙ sym is)))
      (reads x byte other (sym (get_or-set_other kept number x (Some read) None away) ∙ there))
]

placed_reads : (s : Setup) (published : List edge.Message) (setting : Setting) (h : HostRecord) (p now : ℕ) (ps : List ℕ) (m : edge.Message)
    (kept : List (Option NumberedData)) (number : ℕ) (read : NumberedData) (answer : Step) → length kept ≡ 256 → number < 256 →
    number ≡ written_number setting p → IsMessageAt s published p m read → ReadsHeld s published setting h kept →
    ReadsHeld s published setting (event (MessageComes p now) (call.Stepped answer) ps ∷ h) (placed kept number read answer)
placed_reads s published setting h p now ps m kept number read step.Held sized low is at reads =
    now_held s published setting h p now ps m kept number read sized low is at reads
placed_reads s published setting h p now ps m kept number read (step.Consumed n) sized low is at reads = λ x byte r there.
    still_held s published setting h (event (MessageComes p now) (call.Stepped (step.Consumed n)) ps) x r refl (reads x byte r there)
placed_reads s published setting h p now ps m kept number read step.Old sized low is at reads = λ x byte r there.
    still_held s published setting h (event (MessageComes p now) (call.Stepped step.Old) ps) x r refl (reads x byte r there)
placed_reads s published setting h p now ps m kept number read step.Gap sized low is at reads = λ x byte r there.
    still_held s published setting h (event (MessageComes p now) (call.Stepped step.Gap) ps) x r refl (reads x byte r there)
placed_reads s published setting h p now ps m kept number read step.OldBirth sized low is at reads = λ x byte r there.
    still_held s published setting h (event (MessageComes p now) (call.Stepped step.OldBirth) ps) x r refl (reads x byte r there)
placed_reads s published setting h p now ps m kept number read step.DeadSession sized low is at reads = λ x byte r there.
    still_held s published setting h (event (MessageComes p now) (call.Stepped step.DeadSession) ps) x r refl (reads x byte r there)
placed_reads s published setting h p now ps m kept number read step.NotLive sized low is at reads = λ x byte r there.
    still_held s published setting h (event (MessageComes p now) (call.Stepped step.NotLive) ps) x r refl (reads x byte r there)

-- ---- along a session

with_message : Numbers → (s : Setup) (published : List edge.Message) (wait width : ℕ) (h : HostRecord) (d : Standing) (o : Ordered NumberedData)
    (p now at : ℕ) (m : edge.Message) (read : NumberedData) → at ≡ now → o.standing ≡ d → IsMessageAt s published p m read →
    Holds s published (host_setting s published wait width) h o →
    Holds s published (host_setting s published wait width) (done_at (host_setting s published wait width) h d (MessageComes p now) ∷ h)
    (handed o read.number read.kind read at)
with_message laws s published wait width h d o p now at m read same stands is holds =
    let setting = host_setting s published wait width in
    let number = number_is s published wait width p m read is in
    let low : read.number < 256 = subst (λ n. n < 256) (sym number) (laws.byte setting p) in
    let keeps = laws.hand o.standing read.number at read.kind low holds.whole in
    let answer = (sequence.hand o.standing read.number read.kind at).0 in
    let kept = placed o.kept read.number read answer in
    let done = done_at setting h d (MessageComes p now) in
    let reply : call.Stepped answer ≡ done.reply =
    ap (λ t. call.Stepped (sequence.hand o.standing read.number read.kind t).0) same ∙ step_is s published wait width p now m read o.standing d stands is in
    settled s published setting (done ∷ h) (sequence.hand o.standing read.number read.kind at).1 kept keeps.whole
    (placed_each o.standing (sequence.hand o.standing read.number read.kind at).1 o.kept read.number read answer holds.sized holds.each keeps low)
    (subst (λ r. ReadsHeld s published setting (event (MessageComes p now) r done.consumed ∷ h) kept) reply
    (placed_reads s published setting h p now done.consumed m o.kept read.number read answer holds.sized low number is holds.reads))

with_death : Numbers → (s : Setup) (published : List edge.Message) (setting : Setting) (h : HostRecord) (d : Standing) (o : Ordered NumberedData)
    (session now bd : ℕ) → Holds s published setting h o →
    Holds s published setting (done_at setting h d (DeathComes session now) ∷ h) (stands_so (sequence.death o.standing bd) o.kept)
with_death laws s published setting h d o session now bd holds =
    settled s published setting (done_at setting h d (DeathComes session now) ∷ h) (sequence.death o.standing bd) o.kept (laws.death_whole o.standing bd holds.whole)
    (remains_each o.standing (sequence.death o.standing bd) o.kept holds.each (laws.death o.standing bd))
    (λ x byte r there. still_held s published setting h (done_at setting h d (DeathComes session now)) x r refl (holds.reads x byte r there))

with_tick : Numbers → (s : Setup) (published : List edge.Message) (setting : Setting) (h : HostRecord) (d : Standing) (o : Ordered NumberedData)
    (now at : ℕ) → Holds s published setting h o →
    Holds s published setting (done_at setting h d (TickComes now) ∷ h) (stands_so (sequence.tick o.standing at) o.kept)
with_tick laws s published setting h d o now at holds =
    settled s published setting (done_at setting h d (TickComes now) ∷ h) (sequence.tick o.standing at) o.kept (laws.tick_whole o.standing at holds.whole)
    (remains_each o.standing (sequence.tick o.standing at) o.kept holds.each (laws.tick o.standing at))
    (λ x byte r there. still_held s published setting h (done_at setting h d (TickComes now)) x r refl (holds.reads x byte r there))

with_input : Numbers → (s : Setup) (published : List edge.Message) (wait width : ℕ) (h : HostRecord) (d : Standing) (o : Ordered NumberedData)
    (i : Input) (j : node.Input) → IsRead s published i j → o.standing ≡ d → Holds s published (host_setting s published wait width) h o →
    Holds s published (host_setting s published wait width) (done_at (host_setting s published wait width) h d i ∷ h) (order_with o j)
with_input laws s published wait width h d o (MessageComes p now) (Comes read at) is stands holds =
    with_message laws s published wait width h d o p now at is.1.0 read is.0 stands is.1.1 holds
with_input laws s published wait width h d o (DeathComes session now) (Dies bd) is stands holds =
    with_death laws s published (host_setting s published wait width) h d o session now bd holds
with_input laws s published wait width h d o (TickComes now) (Ticks at) is stands holds =
    with_tick laws s published (host_setting s published wait width) h d o now at holds
with_input laws s published wait width h d o (MessageComes p now) (Dies bd) is stands holds = absurd is
with_input laws s published wait width h d o (MessageComes p now) (Ticks at) is stands holds = absurd is
with_input laws s published wait width h d o (MessageComes p now) Ends is stands holds = absurd is
with_input laws s published wait width h d o (DeathComes session now) (Comes read at) is stands holds = absurd is
with_input laws s published wait width h d o (DeathComes session now) (Ticks at) is stands holds = absurd is
with_input laws s published wait width h d o (DeathComes session now) Ends is stands holds = absurd is
with_input laws s published wait width h d o (TickComes now) (Comes read at) is stands holds = absurd is
with_input laws s published wait width h d o (TickComes now) (Dies bd) is stands holds = absurd is
with_input laws s published wait width h d o (TickComes now) Ends is stands holds = absurd is

none_at : {T : Type 0} (n i : ℕ) → get_or (replicate {A = Option T} n None) i None ≡ None
none_at zero i = refl
none_at (suc n) zero = refl
none_at (suc n) (suc i) = none_at n i

begins : (s : Setup) (published : List edge.Message) (setting : Setting) (wait width : ℕ) → 0 < width → width ≤ 96 →
    Holds s published setting [] (fresh_order wait width)
begins s published setting wait width some few = record {
  whole = record {
    some_places = some;
    few_places = few;
    one_byte = omega arith;
    all_places = length-replicate {A = Option (Option ℕ)} width None;
    next_not_held = none_at width 0;
  };
  sized = length-replicate {A = Option NumberedData} 256 None;
  each = λ x byte held. absurd (nothing (held_as (sequence.fresh_standing wait width) x) (none_at width (sequence.ahead x 0)) held);
  reads = λ x byte read there. absurd (never read (sym (none_at 256 x) ∙ there));
}
  where
    nothing : {X : Type 0} (o : Option X) → o ≡ None → is_some o ≡ true → ⊥
    nothing o e h = let f : is_some o ≡ false = ap is_some e in cc

    never : (r : NumberedData) → None ≡ Some r → ⊥
    never r e = cc

pub holds_along : Numbers → (s : Setup) (published : List edge.Message) (wait width : ℕ) (is : List Input) (js : List node.Input) → 0 < width →
    width ≤ 96 → AreRead s published is js →
    Holds s published (host_setting s published wait width) (record_of (host_setting s published wait width) is) (order_after wait width js)
holds_along laws s published wait width [] [] some few are = begins s published (host_setting s published wait width) wait width some few
holds_along laws s published wait width [] (j ∷ js) some few are = absurd are
holds_along laws s published wait width (i ∷ is) [] some few are = absurd are
holds_along laws s published wait width (i ∷ is) (j ∷ js) some few are =
    let setting = host_setting s published wait width in
    with_input laws s published wait width (record_of setting is) (standing_of setting is) (order_after wait width js) i j are.0
    (standing_is s published wait width is js are.1) (holds_along laws s published wait width is js some few are.1)
