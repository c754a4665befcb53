-- The packet at the front of what was read is taken.
use Rattle.std.proofs.Common.{◌≡◌, ◌∙◌, sym, ap, refl, subst, ℕ, Bool, true, false, ◌||◌, ◌⊎◌, inl, inr, List, [], ◌∷◌, ◌++◌, drop, Option, Some, None, is_some, Result, Ok, Err, IfOk, OnOk, OnErr}
use Rattle.spk_packets.specs.Message.{Message}
use Rattle.spk_packets.specs.Stream.{TakesPacket}
use Rattle.spk_reading.specs.Data.{HeardData}
use Rattle.spk_reading.specs.Meaning.{heard}
use Rattle.spk_host_session.specs.declared.fault.HostFault.{HostFault}
use Rattle.spk_host.specs.Data.{HostData, OutData}
use Rattle.spk_host.specs.Inputs as host
use Rattle.spk_host.specs.Inputs.{host_with}
use Rattle.spk_host.specs.Step.{acks, packet_out, spelled}
use Rattle.spk_connection.specs.Step.{stands_open}
use Rattle.spk_host_app.specs.Data.{App, Deed, Fate, Word}
use Rattle.spk_host_app.specs.Data as word
use Rattle.spk_host_app.specs.Data.{Whole, Unsent, Lost, Began, Connected, Read, Told, Denied, Unsubscribed, Ticked, Requested, Pinged, Stopped, GaveUp, Wrote, Over, Printed}
use Rattle.spk_host_app.specs.Log.{DoesOne, IsAnswered, IsFate, IsGivenUp, IsTakenUp, IsTold, Reaches, takes, takes_packet}
use Rattle.spk_host_app.specs.Meant.{IsRefused, id_in, refuses, topic_in}
use Rattle.spk_host_app.specs.Step.{answered, first_of_heard, ends_heard, lost_by, is_full, is_within, join, out_words, put_words, taken}
use Rattle.spk_host_app.proofs.Runs.{at_end, one, stays}

-- ---- what came to the host

abbrev pub given : OutData → Result OutData HostFault
given o = Ok o

abbrev out_in : OutData → Result OutData HostFault → OutData
out_in d (Ok o) = o
out_in d (Err f) = d

pub same_out : (o q : OutData) → given o ≡ given q → o ≡ q
same_out o q e = ap (out_in o) e

pub within_by : (began : Option ℕ) → (began ≡ None → ⊥) → is_some began ≡ true
within_by None f = absurd (f refl)
within_by (Some n) f = refl

pub no_err : {A : Type 0} (x : A) (f : HostFault) (r : Result A HostFault) → r ≡ Ok x → r ≡ Err f → ⊥
no_err x f r a b = absurd cc

fate_same : (f : Fate) (a x : App) → x.connection.link ≡ a.connection.link → IsFate f x → IsFate f a
fate_same Whole a x e here = subst (λ l. stands_open l.stand ≡ true) e here
fate_same Unsent a x e here = here
fate_same Lost a x e here = here

abbrev pub taken_with : App → ℕ → HostData → Bool → App
taken_with a size k over = record a { host = k; connection = record a.connection { unread = drop size a.connection.unread }; closing = a.closing || over }

pub told_by : (a x b : App) (size : ℕ) (h : HeardData) (now : ℕ) (ws : List Word) (o : OutData) (k : HostData) (over : Bool)
    → ws ≡ first_of_heard h ++ lost_by a.host.nodes h now → is_within a ≡ true → given (packet_out a.host h now) ≡ given o → k ≡ host_with a.host (host.Heard h now) → over ≡ ends_heard h
    → x ≡ taken_with a size k over → IsAnswered (ws ++ out_words o) (join o.packets) x b → IsTold size h now a b
told_by a x b size h now ws o k over first within out kept ends is (fate, here, e) = (
  fate,
  fate_same fate a x (ap (λ y. y.connection.link) is) here,
  within,
  e ∙ ap (λ w. answered fate (w ++ out_words o) (join o.packets) x) first
      ∙ ap (λ q. answered fate ((first_of_heard h ++ lost_by a.host.nodes h now) ++ out_words q) (join q.packets) x) (sym (same_out _ _ out))
      ∙ ap (answered fate ((first_of_heard h ++ lost_by a.host.nodes h now) ++ out_words (packet_out a.host h now)) (join (packet_out a.host h now).packets))
      (is ∙ ap (λ q. taken_with a size q over) kept ∙ ap (taken_with a size (host_with a.host (host.Heard h now))) ends),
)

-- ---- as deeds

pub with_ok : {X E A : Type 0} (r : Result X E) → A → OnOk r A
with_ok (Ok x) a = a
with_ok (Err e) a = tt

pub with_err : {X E A : Type 0} (r : Result X E) → A → OnErr r A
with_err (Ok x) a = tt
with_err (Err e) a = a

pub any_packet : (d : Deed) → takes_packet d ≡ true → takes d ≡ true
any_packet (Told p rest h now fate) e = refl
any_packet (Denied p rest fault fate) e = refl
any_packet (Unsubscribed p rest) e = refl
any_packet (Began now) e = absurd cc
any_packet (Connected now fate) e = absurd cc
any_packet (Read piece now) e = absurd cc
any_packet (Ticked now fate) e = absurd cc
any_packet (Requested group node now fate) e = absurd cc
any_packet (Pinged now) e = absurd cc
any_packet (Stopped now fate) e = absurd cc
any_packet (GaveUp fault) e = absurd cc
any_packet (Wrote bytes now) e = absurd cc
any_packet (Over now) e = absurd cc
any_packet (Printed w) e = absurd cc

pub packet_taken : (a b : App) → DoesOne takes_packet a b → DoesOne takes a b
packet_taken a b (d, allowed, may, e) = (d, any_packet d allowed, may, e)

pub given_up : (a b : App) → IsGivenUp a b → DoesOne takes a b
given_up a b (f, reason, e) = (GaveUp f, refl, reason, e)

pub reaches : (a b : App) → DoesOne takes a b → Reaches takes a b
reaches a b (d, allowed, may, e) = one takes a b d allowed may e

pub heard_reaches : {E : Type 0} (r : Result Bool E) (a b : App) → IfOk r (λ more. more ≡ true → DoesOne takes_packet a b)
    → IfOk r (λ more. more ≡ false → (b ≡ a) × IsTakenUp b) → OnErr r (DoesOne takes a b) → Reaches takes a b
heard_reaches (Ok true) a b took none failed = reaches a b (packet_taken a b (took refl))
heard_reaches (Ok false) a b took none failed = at_end takes a a b (stays takes a) (sym (none refl).0)
heard_reaches (Err e) a b took none failed = reaches a b failed

module _ (a b : App) (p : Message) (rest : List ℕ) (front : TakesPacket a.connection.unread p rest) (closing : a.closing ≡ false) (full : is_full a ≡ false) where
  pub denied : (fault : HostFault) (topic : List ℕ) (id : Option ℕ) → IsRefused p fault → topic ≡ topic_in p → id ≡ id_in p
      → IsAnswered (word.Refused fault topic ∷ []) (join (spelled (acks id))) (taken rest a) b → DoesOne takes_packet a b
  denied fault topic id is same_topic same_id (fate, here, e) = (
    Denied p rest fault fate,
    refl,
    (closing, full, fate_same fate a (taken rest a) refl here, front, is),
    e ∙ ap (λ t. answered fate (word.Refused fault t ∷ []) (join (spelled (acks id))) (taken rest a)) same_topic
        ∙ ap (λ i. answered fate (word.Refused fault (topic_in p) ∷ []) (join (spelled (acks i))) (taken rest a)) same_id,
  )

  pub unsubscribed : refuses p ≡ true → b ≡ record (taken rest a) { words = put_words (word.SubscriptionRefused ∷ []) a.words; closing = true } → DoesOne takes_packet a b
  unsubscribed is e = (Unsubscribed p rest, refl, (closing, full, front, is), e)

pub told : (a b : App) (p : Message) (size : ℕ) (h : HeardData) (now : ℕ) → TakesPacket a.connection.unread p (drop size a.connection.unread)
    → a.closing ≡ false → is_full a ≡ false → refuses p ≡ false → heard p ≡ Ok h → IsTold size h now a b → DoesOne takes_packet a b
told a b p size h now front closing full other says (fate, here, within, e) =
    (Told p (drop size a.connection.unread) h now fate, refl, ((within, closing, full), here, front, other, says), e)

pub on_ok : {X E A B : Type 0} (r : Result X E) → OnOk r A → (A → B) → OnOk r B
on_ok (Ok x) a f = f a
on_ok (Err e) a f = a

pub on_err : {X E A B : Type 0} (r : Result X E) → OnErr r A → (A → B) → OnErr r B
on_err (Ok x) a f = a
on_err (Err e) a f = f a

pub either_way : (a b : App) {P : Type 0} → (P → DoesOne takes_packet a b) → P ⊎ IsGivenUp a b → DoesOne takes a b
either_way a b f (inl x) = packet_taken a b (f x)
either_way a b f (inr up) = given_up a b up
