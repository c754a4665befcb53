-- Whom the view shows as followed and online, call by call: as the node's order stands, and as what was done says.
use Rattle.std.proofs.Common.{◌≡◌, ◌∙◌, sym, ap, subst, refl, ℕ, zero, suc, ◌+◌, ◌-◌, ◌%◌, ◌==◌, nat_lt, nat_le, Bool, true, false, not, ◌&&◌, ◌||◌, List, [], ◌∷◌, ◌++◌, map, reverse, replicate, Option, Some, None, is_some, if◌then◌else◌, arith}
use Rattle.std.proofs.lemmas.Bool.{and_parts, and_right, not-true, or_left}
use Rattle.std.specs.List.{filter_map, list_any, range_with_len}
use Rattle.spk_sequence.specs.declared.answer.Match.TheVariants.{Matched, Ignored}
use Rattle.spk_sequence.specs.declared.answer.Step.{Step}
use Rattle.spk_sequence.specs.declared.answer.Step.TheVariants as step
use Rattle.spk_sequence.specs.declared.message.Kind.{Kind}
use Rattle.spk_sequence.specs.declared.message.Kind.TheVariants.{Birth, Other}
use Rattle.spk_sequence.specs.declared.phase.Phase.{Phase}
use Rattle.spk_sequence.specs.declared.phase.Phase.TheVariants as phase
use Rattle.spk_sequence.specs.Calls as call
use Rattle.spk_sequence.specs.Calls.{Reply}
use Rattle.spk_sequence.specs.Claims.{IsLawful, SameStep}
use Rattle.spk_sequence.specs.Data.{Standing, held_at}
use Rattle.spk_sequence.specs.Following.{is_matching_death, is_session_dead, taken, takes}
use Rattle.spk_sequence.specs.HostRecord.{HostRecord, Input, MessageComes, DeathComes, TickComes, call_of, done_at, kind_of, record_of, standing_of}
use Rattle.spk_sequence.specs.NodeRecord.{Numbering, RunsOn, Restarts, Setting, opens}
use Rattle.spk_sequence.specs.Positions.{right_at}
use Rattle.spk_sequence.specs.Step as sequence
use Rattle.spk_sequence.specs.Step.{after_stop, ahead, empty_places, hand_ahead, hand_birth, hand_other, is_any_held, is_below, is_dead, is_known, is_live}
use Rattle.spk_sequence.specs.Window.{AllNearDeaths, IsNearBirth, NumbersFit}
use Rattle.spk_order.specs.Ordered.{Ordered, kept_at}
use Rattle.spk_order.specs.Step.{consumed_with}
use Rattle.spk_reading.specs.Data.{NumberedData, SubjectData, NodeBirth}
use Rattle.spk_host_rules.specs.Data.{Event, Consumed, Gap, NotLive, Over}
use Rattle.spk_host_rules.specs.Values.{is_followed, is_node_birth, is_online}
use Rattle.spk_host_node.specs.Inputs as node
use Rattle.spk_host_node.specs.Inputs.{Comes, Dies, Ticks, Ends, events_of, heard_at, order_after, since_end}
use Rattle.spk_host_node.specs.Step.{consumed_at, heard_by, message_of}
use Rattle.spk_edge_rules.specs.Config.{Setup}
use Rattle.spk_edge_rules.specs.Run as edge
use Rattle.spk_tie.specs.Tie.{IsMessageAt, host_setting}
use Rattle.spk_heard.specs.Read.{AreRead, IsRead}
use Rattle.spk_shown.specs.Shown.{AreMarked, AreOver, IsMarked, is_alive}
use Rattle.spk_shown.proofs.Alive.{done_with, lives_on, taken_lives}
use Rattle.spk_shown.proofs.Events.{IsOfBirths, birth_makes, stays_true}

-- the phases in which a node is online
abbrev pub is_up : Phase → Bool
is_up phase.Unknown = false
is_up phase.Live = true
is_up phase.Gap = true
is_up phase.Dead = false

live_up : (p : Phase) → is_live p ≡ true → is_up p ≡ true
live_up phase.Unknown e = cc
live_up phase.Live e = refl
live_up phase.Gap e = cc
live_up phase.Dead e = cc

-- How the order stands, what the view heard and what was done agree: whether the node is followed and whether it lives. Messages are
-- held only while it is followed.
pub record Agrees (s : Setting) (h : HostRecord) (d : Standing) (es : List Event) : Type 0 where
  pub followed : is_followed es ≡ is_live d.phase
  pub online : is_online es ≡ is_up d.phase
  pub lives : is_up d.phase ≡ is_alive s h
  pub held : is_live d.phase ≡ false → is_any_held d.held ≡ false

pub none_held : (n : ℕ) → is_any_held (empty_places n) ≡ false
none_held zero = refl
none_held (suc n) = none_held n

followed_of : IsOfBirths is_followed
followed_of m now es = refl

online_of : IsOfBirths is_online
online_of m now es = refl

-- ---- a message

abbrev taken_by : Ordered NumberedData → NumberedData → Step → List NumberedData
taken_by o m st = filter_map (λ p. p) (consumed_with o.kept m.number m st)

-- what a step and the standing behind it leave
abbrev Steps : Setting → HostRecord → ℕ → ℕ → Ordered NumberedData → NumberedData → List Event → Step × Standing → Type 0
Steps s h p now o m es r =
    Agrees s (done_with s h (MessageComes p now) (call.Stepped r.0) ∷ h) r.1 (reverse (heard_by r.0 (taken_by o m r.0) now) ++ es)

-- consumed in line, while the node is followed
in_line : (s : Setting) (h : HostRecord) (p now n : ℕ) (o : Ordered NumberedData) (m : NumberedData) (es : List Event) (d after : Standing) →
    Agrees s h d es → is_live d.phase ≡ true → after.phase ≡ phase.Live → Steps s h p now o m es (step.Consumed n, after)
in_line s h p now n o m es d after a live to =
    let ms = taken_by o m (step.Consumed n) in
    let up : is_alive s h ≡ true = sym a.lives ∙ live_up d.phase live in
    record {
      followed = stays_true is_followed followed_of now ms es (a.followed ∙ live) ∙ sym (ap is_live to);
      online = stays_true is_online online_of now ms es (a.online ∙ live_up d.phase live) ∙ sym (ap is_up to);
      lives = ap is_up to ∙ sym (lives_on s h (done_with s h (MessageComes p now) (call.Stepped (step.Consumed n))) refl up);
      held = λ e. absurd (no_live after.phase to e);
    }
  where
    no_live : (q : Phase) → q ≡ phase.Live → is_live q ≡ false → ⊥
    no_live q to e = cc

-- a birth is taken
born : (s : Setting) (h : HostRecord) (p now n : ℕ) (o : Ordered NumberedData) (m : NumberedData) (es : List Event) (after : Standing) →
    is_node_birth (message_of m) ≡ true → opens s.published p ≡ true → after.phase ≡ phase.Live → Steps s h p now o m es (step.Consumed n, after)
born s h p now n o m es after birth opening to =
    let e = done_with s h (MessageComes p now) (call.Stepped (step.Consumed n)) in
    let takes_it : takes s e ≡ true = or_left (opens s.published p) _ opening in
    let ms : List NumberedData = filter_map (λ (x : Option NumberedData). x) (map (λ i. kept_at o.kept ((m.number + i) % 256)) (range_with_len 1 (n - 1))) in
    record {
      followed = birth_makes is_followed followed_of now m ms es birth ∙ sym (ap is_live to);
      online = birth_makes is_online online_of now m ms es birth ∙ sym (ap is_up to);
      lives = ap is_up to ∙ sym (taken_lives s h e takes_it);
      held = λ q. absurd (no_live after.phase to q);
    }
  where
    no_live : (q : Phase) → q ≡ phase.Live → is_live q ≡ false → ⊥
    no_live q to e = cc

-- messages were lost
lost : (s : Setting) (h : HostRecord) (p now : ℕ) (o : Ordered NumberedData) (m : NumberedData) (es : List Event) (d : Standing) →
    Agrees s h d es → is_live d.phase ≡ true → Steps s h p now o m es (step.Gap, after_stop d phase.Gap)
lost s h p now o m es d a live = record {
  followed = refl;
  online = a.online ∙ live_up d.phase live;
  lives = sym (live_up d.phase live) ∙ a.lives;
  held = λ e. none_held d.width;
}

-- held: the order goes on as it was
kept : (s : Setting) (h : HostRecord) (p now place : ℕ) (stamp : Option ℕ) (o : Ordered NumberedData) (m : NumberedData) (es : List Event) (d : Standing) →
    Agrees s h d es → is_live d.phase ≡ true → Steps s h p now o m es (step.Held, sequence.after_held d place stamp now)
kept s h p now place stamp o m es d a live = record {
  followed = a.followed;
  online = a.online;
  lives = a.lives;
  held = λ e. absurd (both (is_live d.phase) live e);
}
  where
    both : (b : Bool) → b ≡ true → b ≡ false → ⊥
    both b e f = cc

-- dropped: nothing changes
dropped : (s : Setting) (h : HostRecord) (p now : ℕ) (o : Ordered NumberedData) (m : NumberedData) (es : List Event) (d : Standing) →
    Agrees s h d es → Steps s h p now o m es (step.Old, d)
dropped s h p now o m es d a = record { followed = a.followed; online = a.online; lives = a.lives; held = a.held }

old_birth : (s : Setting) (h : HostRecord) (p now : ℕ) (o : Ordered NumberedData) (m : NumberedData) (es : List Event) (d : Standing) →
    Agrees s h d es → Steps s h p now o m es (step.OldBirth, d)
old_birth s h p now o m es d a = record { followed = a.followed; online = a.online; lives = a.lives; held = a.held }

dead_session : (s : Setting) (h : HostRecord) (p now : ℕ) (o : Ordered NumberedData) (m : NumberedData) (es : List Event) (d : Standing) →
    Agrees s h d es → Steps s h p now o m es (step.DeadSession, d)
dead_session s h p now o m es d a = record { followed = a.followed; online = a.online; lives = a.lives; held = a.held }

-- it came while the node wasn't followed
not_live : (s : Setting) (h : HostRecord) (p now : ℕ) (o : Ordered NumberedData) (m : NumberedData) (es : List Event) (d : Standing) →
    Agrees s h d es → Steps s h p now o m es (step.NotLive, d)
not_live s h p now o m es d a = record { followed = a.followed; online = a.online; lives = a.lives; held = a.held }

with_birth : (s : Setting) (h : HostRecord) (p now number stamp bd : ℕ) (o : Ordered NumberedData) (m : NumberedData) (es : List Event) (d : Standing) →
    Agrees s h d es → is_node_birth (message_of m) ≡ true → opens s.published p ≡ true → Steps s h p now o m es (hand_birth d number stamp bd now)
with_birth s h p now number stamp bd o m es d a birth opening =
    go (is_known d.phase && nat_le stamp d.stamp) (is_dead d.phase && (bd == d.bd))
  where
    go : (x y : Bool) → Steps s h p now o m es
        (if x then (step.OldBirth, d) else if y then (step.DeadSession, d)
        else (step.Consumed (1 + sequence.run_of (sequence.kept_places d number stamp)), sequence.after_birth d number stamp bd now))
    go true y = old_birth s h p now o m es d a
    go false true = dead_session s h p now o m es d a
    go false false = born s h p now _ o m es _ birth opening refl

with_ahead : (s : Setting) (h : HostRecord) (p now place : ℕ) (stamp : Option ℕ) (o : Ordered NumberedData) (m : NumberedData) (es : List Event) (d : Standing) →
    Agrees s h d es → is_live d.phase ≡ true → Steps s h p now o m es (hand_ahead d place stamp now)
with_ahead s h p now place stamp o m es d a live =
    go (nat_lt place d.width) (is_some (held_at d.held place)) (nat_lt place (256 - d.width))
  where
    go : (x y z : Bool) → Steps s h p now o m es
        (if x then (if y then (step.Old, d) else (step.Held, sequence.after_held d place stamp now))
        else if z then (step.Gap, after_stop d phase.Gap) else (step.Old, d))
    go true true z = dropped s h p now o m es d a
    go true false z = kept s h p now place stamp o m es d a live
    go false y true = lost s h p now o m es d a live
    go false y false = dropped s h p now o m es d a

with_other : (s : Setting) (h : HostRecord) (p now number : ℕ) (stamp : Option ℕ) (o : Ordered NumberedData) (m : NumberedData) (es : List Event) (d : Standing) →
    Agrees s h d es → Steps s h p now o m es (hand_other d number stamp now)
with_other s h p now number stamp o m es d a =
    go (is_live d.phase) refl (is_below stamp d.stamp) (ahead number d.next == 0)
  where
    go : (x : Bool) → is_live d.phase ≡ x → (y z : Bool) → Steps s h p now o m es
        (if not x then (step.NotLive, d) else if y then (step.Old, d)
        else if z then (step.Consumed (1 + sequence.run_of (sequence.places_after d)), sequence.after_consumed d number (sequence.places_after d) now)
        else hand_ahead d (ahead number d.next) stamp now)
    go false q y z = not_live s h p now o m es d a
    go true q true z = dropped s h p now o m es d a
    go true q false true = in_line s h p now _ o m es d _ a q refl
    go true q false false = with_ahead s h p now (ahead number d.next) stamp o m es d a q

pub with_message : (s : Setting) (h : HostRecord) (p now number : ℕ) (kind : Kind) (o : Ordered NumberedData) (m : NumberedData) (es : List Event) (d : Standing) →
    Agrees s h d es → ((stamp bd : ℕ) → kind ≡ Birth stamp bd → is_node_birth (message_of m) ≡ true) → ((stamp bd : ℕ) → kind ≡ Birth stamp bd → opens s.published p ≡ true) →
    Steps s h p now o m es (sequence.hand d number kind now)
with_message s h p now number (Birth stamp bd) o m es d a birth opening =
    with_birth s h p now number stamp bd o m es d a (birth stamp bd refl) (opening stamp bd refl)
with_message s h p now number (Other stamp) o m es d a birth opening = with_other s h p now number stamp o m es d a

-- what is about the node's birth is one
pub birth_of : (m : NumberedData) → m.subject ≡ NodeBirth → is_node_birth (message_of m) ≡ true
birth_of m e = ap (λ (x : SubjectData). is_node_birth (message_of (record m { subject = x }))) e

-- what is handed as an NBIRTH opens a birth
pub kind_opens : (b : Bool) (x y stamp bd : ℕ) (t : Option ℕ) (kind : Kind) → kind ≡ (if b then Birth x y else Other t) → kind ≡ Birth stamp bd → b ≡ true
kind_opens true x y stamp bd t kind e f = refl
kind_opens false x y stamp bd t kind e f = absurd (apart kind e f)
  where
    apart : (kind : Kind) → kind ≡ Other t → kind ≡ Birth stamp bd → ⊥
    apart kind e f = cc

pub same_kind : (number other : ℕ) (k l : Kind) (now later : ℕ) → call.Hand number k now ≡ call.Hand other l later → k ≡ l
same_kind number other k l now later e = cc

-- ---- a death

pub told_same : (a b : Bool) → call.Told (if a then Matched else Ignored) ≡ call.Told (if b then Matched else Ignored) → a ≡ b
told_same true true e = refl
told_same false false e = refl
told_same true false e = cc
told_same false true e = cc

dies : (s : Setting) (h : HostRecord) (session now : ℕ) (reply : Reply) → true ≡ is_matching_death s h (DeathComes session now) →
    false ≡ is_alive s (done_with s h (DeathComes session now) reply ∷ h)
dies s h session now reply q =
    sym (and_right (is_some (taken s h)) false refl) ∙ ap (λ b. is_some (taken s h) && not (b || is_session_dead s h)) q

passes : (s : Setting) (h : HostRecord) (session now : ℕ) (reply : Reply) → false ≡ is_matching_death s h (DeathComes session now) →
    is_alive s h ≡ is_alive s (done_with s h (DeathComes session now) reply ∷ h)
passes s h session now reply q = ap (λ b. is_some (taken s h) && not (b || is_session_dead s h)) q

pub with_death : (s : Setting) (h : HostRecord) (session now bd : ℕ) (reply : Reply) (es : List Event) (d : Standing) → Agrees s h d es →
    sequence.is_match d bd ≡ is_matching_death s h (DeathComes session now) →
    Agrees s (done_with s h (DeathComes session now) reply ∷ h) (sequence.death d bd) ((if sequence.is_match d bd then Over ∷ [] else []) ++ es)
with_death s h session now bd reply es d a same = go (sequence.is_match d bd) same
  where
    go : (b : Bool) → b ≡ is_matching_death s h (DeathComes session now) →
        Agrees s (done_with s h (DeathComes session now) reply ∷ h) (if b then after_stop d phase.Dead else d) ((if b then Over ∷ [] else []) ++ es)
    go true q = record { followed = refl; online = refl; lives = dies s h session now reply q; held = λ e. none_held d.width }
    go false q = record { followed = a.followed; online = a.online; lives = a.lives ∙ passes s h session now reply q; held = a.held }

-- ---- a moment

pub with_tick : (s : Setting) (h : HostRecord) (now at : ℕ) (reply : Reply) (es : List Event) (d : Standing) → Agrees s h d es →
    Agrees s (done_with s h (TickComes now) reply ∷ h) (sequence.tick d at) ((if sequence.is_over d at then Gap at ∷ [] else []) ++ es)
with_tick s h now at reply es d a = go (sequence.is_over d at) refl
  where
    no_held : (b : Bool) → is_live d.phase ≡ b → is_any_held d.held ≡ true → is_live d.phase ≡ true
    no_held true q some = q
    no_held false q some = absurd (both (is_any_held d.held) some (a.held q))
      where
        both : (b : Bool) → b ≡ true → b ≡ false → ⊥
        both b e f = cc

    go : (b : Bool) → sequence.is_over d at ≡ b →
        Agrees s (done_with s h (TickComes now) reply ∷ h) (if b then after_stop d phase.Gap else d) ((if b then Gap at ∷ [] else []) ++ es)
    go true q =
        let live : is_live d.phase ≡ true = no_held (is_live d.phase) refl (and_parts (is_any_held d.held) _ q).0 in
        record {
          followed = refl;
          online = a.online ∙ live_up d.phase live;
          lives = sym (live_up d.phase live) ∙ a.lives;
          held = λ e. none_held d.width;
        }
    go false q = record { followed = a.followed; online = a.online; lives = a.lives; held = a.held }
