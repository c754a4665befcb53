-- Along a session of the host, behind those before it.
use Rattle.std.proofs.Common.{◌≡◌, ◌∙◌, sym, ap, subst, refl, ℕ, ◌<◌, ◌≤◌, if◌then◌else◌, Bool, true, false, not, List, [], ◌∷◌, ◌++◌, Option, Some, None}
use Rattle.spk_sequence.specs.declared.answer.Match.TheVariants.{Matched, Ignored}
use Rattle.spk_sequence.specs.declared.message.Kind.TheVariants.{Birth}
use Rattle.spk_sequence.specs.Calls as call
use Rattle.spk_sequence.specs.Calls.{reply_of}
use Rattle.spk_sequence.specs.Claims.{IsLawful, SameStep}
use Rattle.spk_sequence.specs.Following.{is_matching_death}
use Rattle.spk_sequence.specs.HostRecord.{Done, HostRecord, Input, MessageComes, DeathComes, TickComes, call_of, done_at, record_of, standing_of}
use Rattle.spk_sequence.specs.NodeRecord.{Numbering, RunsOn, Restarts, Setting, opens}
use Rattle.spk_sequence.specs.Step as sequence
use Rattle.spk_sequence.specs.Window.{AllNearDeaths, IsNearBirth, NumbersFit}
use Rattle.spk_reading.specs.Data.{NumberedData}
use Rattle.spk_host_rules.specs.Data.{Event, View}
use Rattle.spk_host_rules.specs.Showing.{IsShown, Shows, ShowsDevice, device_in}
use Rattle.spk_host_rules.specs.Values.{consumed_of, device_at, is_followed, is_online}
use Rattle.spk_host_node.specs.Inputs as node
use Rattle.spk_host_node.specs.Inputs.{Comes, Dies, Ticks, Ends, events_of, heard_at, order_after, since_end}
use Rattle.spk_host_node.specs.Step.{heard_by, step_of}
use Rattle.spk_edge_rules.specs.Config.{Setup}
use Rattle.spk_edge_rules.specs.Run as edge
use Rattle.spk_tie.specs.Tie.{IsMessageAt, host_setting}
use Rattle.spk_heard.specs.Read.{AreRead, IsRead}
use Rattle.spk_shown.specs.Shown.{AreMarked, AreOver, IsMarked, IsShownSo, is_alive}
use Rattle.spk_shown.proofs.Alive.{done_with}
use Rattle.spk_shown.proofs.Calls.{Agrees, birth_of, kind_opens, none_held, same_kind, told_same, with_death, with_message, with_tick}

-- what the laws below say
pub record Laws : Type 0 where
  pub same : (s : Setting) (inputs : List Input) (input : Input) → IsLawful s (input ∷ inputs) → AllNearDeaths s (input ∷ inputs) →
      IsNearBirth s (record_of s inputs) input → SameStep s inputs input
  pub steps : (s : Setup) (published : List edge.Message) (wait width : ℕ) (is : List Input) (js : List node.Input) (p now : ℕ) (m : edge.Message) (read : NumberedData) →
      AreRead s published is js → IsMessageAt s published p m read →
      call.Stepped (step_of (order_after wait width js) read now)
      ≡ (done_at (host_setting s published wait width) (record_of (host_setting s published wait width) is) (standing_of (host_setting s published wait width) is) (MessageComes p now)).reply
  pub deaths : (s : Setup) (published : List edge.Message) (wait width : ℕ) (is : List Input) (js : List node.Input) (session now bd : ℕ) →
      AreRead s published is js → IsRead s published (DeathComes session now) (Dies bd) →
      call.Told (sequence.match_of (order_after wait width js).standing bd)
      ≡ (done_at (host_setting s published wait width) (record_of (host_setting s published wait width) is) (standing_of (host_setting s published wait width) is) (DeathComes session now)).reply

-- ---- the present session is behind the end of the last one

pub since_over : (earlier : List node.Input) → AreOver earlier → since_end earlier ≡ []
since_over [] over = refl
since_over (Comes read now ∷ older) over = absurd over
since_over (Dies bd ∷ older) over = absurd over
since_over (Ticks now ∷ older) over = absurd over
since_over (Ends ∷ older) over = refl

not_ends : {X : Type 0} (s : Setup) (published : List edge.Message) (i : Input) → IsRead s published i Ends → X
not_ends s published (MessageComes p now) is = absurd is
not_ends s published (DeathComes session now) is = absurd is
not_ends s published (TickComes now) is = absurd is

pub since_is : (s : Setup) (published : List edge.Message) (is : List Input) (js earlier : List node.Input) → AreRead s published is js → AreOver earlier →
    since_end (js ++ earlier) ≡ js
since_is s published [] [] earlier are over = since_over earlier over
since_is s published [] (j ∷ js) earlier are over = absurd are
since_is s published (i ∷ is) [] earlier are over = absurd are
since_is s published (i ∷ is) (Comes read now ∷ js) earlier are over = ap (λ ks. Comes read now ∷ ks) (since_is s published is js earlier are.1 over)
since_is s published (i ∷ is) (Dies bd ∷ js) earlier are over = ap (λ ks. Dies bd ∷ ks) (since_is s published is js earlier are.1 over)
since_is s published (i ∷ is) (Ticks now ∷ js) earlier are over = ap (λ ks. Ticks now ∷ ks) (since_is s published is js earlier are.1 over)
since_is s published (i ∷ is) (Ends ∷ js) earlier are over = not_ends s published i are.0

-- ---- lists of inputs that are lawful

fit_before : (n : Numbering) (s : Setting) (i : Input) (is : List Input) → NumbersFit n s (i ∷ is) → NumbersFit n s is
fit_before RunsOn s i is fit = tt
fit_before Restarts s i is fit = fit.2

pub lawful_before : (s : Setting) (i : Input) (is : List Input) → IsLawful s (i ∷ is) → IsLawful s is
lawful_before s i is l = record {
  node = l.node;
  some_places = l.some_places;
  few_places = l.few_places;
  may_come = l.may_come.1;
  numbered = fit_before s.numbering s i is l.numbered;
}

-- ---- the session

begins : (s : Setting) (wait width : ℕ) (earlier : List node.Input) → AreOver earlier → Agrees s [] (sequence.fresh_standing wait width) (events_of wait width earlier)
begins s wait width [] over = record { followed = refl; online = refl; lives = refl; held = λ e. none_held width }
begins s wait width (Comes read now ∷ older) over = absurd over
begins s wait width (Dies bd ∷ older) over = absurd over
begins s wait width (Ticks now ∷ older) over = absurd over
begins s wait width (Ends ∷ older) over = record { followed = refl; online = refl; lives = refl; held = λ e. none_held width }

with_comes : Laws → (s : Setup) (published : List edge.Message) (wait width : ℕ) (is : List Input) (js earlier : List node.Input) (p now : ℕ) (m : edge.Message) (read : NumberedData) →
    AreRead s published is js → AreOver earlier → IsMessageAt s published p m read → IsMarked read →
    Agrees (host_setting s published wait width) (record_of (host_setting s published wait width) is) (order_after wait width js).standing (events_of wait width (js ++ earlier)) →
    Agrees (host_setting s published wait width) (record_of (host_setting s published wait width) (MessageComes p now ∷ is)) (order_after wait width (Comes read now ∷ js)).standing
    (events_of wait width (Comes read now ∷ (js ++ earlier)))
with_comes laws s published wait width is js earlier p now m read are over at marked a =
    let setting = host_setting s published wait width in
    let h = record_of setting is in
    let o = order_after wait width js in
    let es = events_of wait width (js ++ earlier) in
    let main = with_message setting h p now read.number read.kind o read es o.standing a
    (λ stamp bd e. birth_of read (marked stamp bd e))
    (λ stamp bd e. kind_opens (opens setting.published p) _ _ stamp bd _ read.kind (same_kind _ _ _ _ _ _ (at.call wait width now)) e) in
    let done = subst (λ r. Agrees setting (done_with setting h (MessageComes p now) r ∷ h) (order_after wait width (Comes read now ∷ js)).standing (heard_at o (Comes read now) ++ es))
    (laws.steps s published wait width is js p now m read are at) main in
    subst (λ ks. Agrees setting (record_of setting (MessageComes p now ∷ is)) (order_after wait width (Comes read now ∷ js)).standing (heard_at (order_after wait width ks) (Comes read now) ++ es))
    (sym (since_is s published is js earlier are over)) done

with_dies : Laws → (s : Setup) (published : List edge.Message) (wait width : ℕ) (is : List Input) (js earlier : List node.Input) (session now bd : ℕ) →
    AreRead s published is js → AreOver earlier → IsRead s published (DeathComes session now) (Dies bd) →
    IsLawful (host_setting s published wait width) (DeathComes session now ∷ is) → AllNearDeaths (host_setting s published wait width) (DeathComes session now ∷ is) →
    Agrees (host_setting s published wait width) (record_of (host_setting s published wait width) is) (order_after wait width js).standing (events_of wait width (js ++ earlier)) →
    Agrees (host_setting s published wait width) (record_of (host_setting s published wait width) (DeathComes session now ∷ is)) (order_after wait width (Dies bd ∷ js)).standing
    (events_of wait width (Dies bd ∷ (js ++ earlier)))
with_dies laws s published wait width is js earlier session now bd are over at lawful near a =
    let setting = host_setting s published wait width in
    let h = record_of setting is in
    let d = standing_of setting is in
    let o = order_after wait width js in
    let es = events_of wait width (js ++ earlier) in
    let told : call.Told (sequence.match_of o.standing bd) ≡ call.Told (if is_matching_death setting h (DeathComes session now) then Matched else Ignored) =
    laws.deaths s published wait width is js session now bd are at ∙ ap (λ (e : Done). e.reply) (laws.same setting is (DeathComes session now) lawful near tt) in
    let done = with_death setting h session now bd (reply_of d (call_of setting (DeathComes session now))) es o.standing a
    (told_same (sequence.is_match o.standing bd) (is_matching_death setting h (DeathComes session now)) told) in
    subst (λ ks. Agrees setting (record_of setting (DeathComes session now ∷ is)) (order_after wait width (Dies bd ∷ js)).standing (heard_at (order_after wait width ks) (Dies bd) ++ es))
    (sym (since_is s published is js earlier are over)) done

with_ticks : (s : Setup) (published : List edge.Message) (wait width : ℕ) (is : List Input) (js earlier : List node.Input) (now at : ℕ) →
    AreRead s published is js → AreOver earlier →
    Agrees (host_setting s published wait width) (record_of (host_setting s published wait width) is) (order_after wait width js).standing (events_of wait width (js ++ earlier)) →
    Agrees (host_setting s published wait width) (record_of (host_setting s published wait width) (TickComes now ∷ is)) (order_after wait width (Ticks at ∷ js)).standing
    (events_of wait width (Ticks at ∷ (js ++ earlier)))
with_ticks s published wait width is js earlier now at are over a =
    let setting = host_setting s published wait width in
    let h = record_of setting is in
    let o = order_after wait width js in
    let es = events_of wait width (js ++ earlier) in
    let done = with_tick setting h now at (reply_of (standing_of setting is) (call_of setting (TickComes now))) es o.standing a in
    subst (λ ks. Agrees setting (record_of setting (TickComes now ∷ is)) (order_after wait width (Ticks at ∷ js)).standing (heard_at (order_after wait width ks) (Ticks at) ++ es))
    (sym (since_is s published is js earlier are over)) done

with_input : Laws → (s : Setup) (published : List edge.Message) (wait width : ℕ) (is : List Input) (js earlier : List node.Input) (i : Input) (j : node.Input) →
    AreRead s published is js → AreOver earlier → IsRead s published i j → AreMarked (j ∷ js) →
    IsLawful (host_setting s published wait width) (i ∷ is) → AllNearDeaths (host_setting s published wait width) (i ∷ is) →
    Agrees (host_setting s published wait width) (record_of (host_setting s published wait width) is) (order_after wait width js).standing (events_of wait width (js ++ earlier)) →
    Agrees (host_setting s published wait width) (record_of (host_setting s published wait width) (i ∷ is)) (order_after wait width (j ∷ js)).standing
    (events_of wait width (j ∷ (js ++ earlier)))
with_input laws s published wait width is js earlier (MessageComes p now) (Comes read at) are over at_it marked lawful near a =
    subst (λ t. Agrees (host_setting s published wait width) (record_of (host_setting s published wait width) (MessageComes p now ∷ is)) (order_after wait width (Comes read t ∷ js)).standing
    (events_of wait width (Comes read t ∷ (js ++ earlier)))) (sym at_it.0)
    (with_comes laws s published wait width is js earlier p now at_it.1.0 read are over at_it.1.1 marked.0 a)
with_input laws s published wait width is js earlier (DeathComes session now) (Dies bd) are over at_it marked lawful near a =
    with_dies laws s published wait width is js earlier session now bd are over at_it lawful near a
with_input laws s published wait width is js earlier (TickComes now) (Ticks at) are over at_it marked lawful near a =
    with_ticks s published wait width is js earlier now at are over a
with_input laws s published wait width is js earlier (MessageComes p now) (Dies bd) are over at_it marked lawful near a = absurd at_it
with_input laws s published wait width is js earlier (MessageComes p now) (Ticks at) are over at_it marked lawful near a = absurd at_it
with_input laws s published wait width is js earlier (MessageComes p now) Ends are over at_it marked lawful near a = absurd at_it
with_input laws s published wait width is js earlier (DeathComes session now) (Comes read at) are over at_it marked lawful near a = absurd at_it
with_input laws s published wait width is js earlier (DeathComes session now) (Ticks at) are over at_it marked lawful near a = absurd at_it
with_input laws s published wait width is js earlier (DeathComes session now) Ends are over at_it marked lawful near a = absurd at_it
with_input laws s published wait width is js earlier (TickComes now) (Comes read at) are over at_it marked lawful near a = absurd at_it
with_input laws s published wait width is js earlier (TickComes now) (Dies bd) are over at_it marked lawful near a = absurd at_it
with_input laws s published wait width is js earlier (TickComes now) Ends are over at_it marked lawful near a = absurd at_it

marked_before : (j : node.Input) (js : List node.Input) → AreMarked (j ∷ js) → AreMarked js
marked_before (Comes read now) js m = m.1
marked_before (Dies bd) js m = m
marked_before (Ticks now) js m = m
marked_before Ends js m = m

pub agrees_along : Laws → (s : Setup) (published : List edge.Message) (wait width : ℕ) (is : List Input) (js earlier : List node.Input) →
    IsLawful (host_setting s published wait width) is → AllNearDeaths (host_setting s published wait width) is → AreRead s published is js → AreMarked js → AreOver earlier →
    Agrees (host_setting s published wait width) (record_of (host_setting s published wait width) is) (order_after wait width js).standing (events_of wait width (js ++ earlier))
agrees_along laws s published wait width [] [] earlier lawful near are marked over = begins (host_setting s published wait width) wait width earlier over
agrees_along laws s published wait width [] (j ∷ js) earlier lawful near are marked over = absurd are
agrees_along laws s published wait width (i ∷ is) [] earlier lawful near are marked over = absurd are
agrees_along laws s published wait width (i ∷ is) (j ∷ js) earlier lawful near are marked over =
    with_input laws s published wait width is js earlier i j are.1 over are.0 marked lawful near
    (agrees_along laws s published wait width is js earlier (lawful_before (host_setting s published wait width) i is lawful) near.1 are.1 (marked_before j js marked) over)

-- ---- what is shown

device_so : (a b c d : Bool) (device : List ℕ) (es : List Event) (x : Option _) (y : Option _) → a ≡ b → c ≡ d → ShowsDevice a c x y → ShowsDevice b d x y
device_so a b c d device es x y e f h = subst (λ q. ShowsDevice b q x y) f (subst (λ q. ShowsDevice q c x y) e h)

pub shown_so : (es : List Event) (alive followed : Bool) (v : Option View) → is_online es ≡ alive → is_followed es ≡ followed → IsShown es v → IsShownSo alive followed (consumed_of es) v
shown_so es alive followed None e f h = h
shown_so es alive followed (Some v) e f h = record {
  part = h.part;
  is_last = h.is_last;
  rows = h.rows;
  online = h.online ∙ e;
  stale = h.stale ∙ ap not f;
  devices = λ device. device_so (is_online es) alive (is_followed es) followed device es (device_at device h.part.since) (device_in device v.devices) e f (h.devices device);
}
