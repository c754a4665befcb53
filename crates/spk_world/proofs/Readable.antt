-- What a node published can be read.
use Rattle.std.proofs.Common.{◌≡◌, ◌∙◌, ◌⊎◌, inl, inr, refl, sym, ap, subst, ℕ, zero, suc, ◌+◌, List, [], ◌∷◌, ◌++◌, map, Option, Some, None, length, ◌<◌, ◌≤◌, arith, Bor}
use Rattle.std.specs.Prelude.{slice_get, IfSome, MatchOption, if◌then◌else◌}
use Rattle.spk_packets.specs.Grammar.{Spells}
use Rattle.spk_reading.specs.Answer.{Fails}
use Rattle.spk_reading.specs.Meaning.{Refused, heard}
use Rattle.spk_reading.specs.declared.fault.ReadFault.{ReadFault}
use Rattle.spk_reading.specs.declared.fault.ReadFault.TheVariants as read
use Rattle.spk_host.specs.View.{fault_of}
use Rattle.spk_world.specs.declared.fault.WorldFault.TheVariants.{NoMemory}
use Rattle.spk_world.specs.Fault.{host_fault}
use Rattle.spk_world.specs.Outcome.{IsUnsendable, Unread}
use Rattle.spk_host.specs.Data.{HostData}
use Rattle.spk_packets.specs.Spelling.{spelling}
use Rattle.std.proofs.lemmas.Option.{get_or_from_slice_get}
use Rattle.std.specs.List.{HoldsAt}
use Rattle.spk_edge.specs.Sealing.{AreWhole}
use Rattle.spk_edge.specs.View.{MessageData}
use Rattle.spk_world_run.specs.Data.{PublishedData}
use Rattle.spk_world_run.specs.Step.{packet_of, posts_from}
use Rattle.spk_world.specs.Parts.{AreReadable, IsReadable}
use Rattle.spk_world.specs.View.{published_view}
use Rattle.spk_world.specs.declared.records.Published.{Published}

pub both : (a b : List PublishedData) → AreReadable a → AreReadable b → AreReadable (a ++ b)
both [] b h k = k
both (x ∷ xs) b h k = (h.0, both xs b h.1 k)

pub posts : (s b : ℕ) (ms : List MessageData) → AreWhole ms → AreReadable (posts_from s b ms)
posts s b [] h = tt
posts s b (m ∷ ms) h = (record { spelled = h.0.spelled; fits = h.0.fits }, posts s (if m.opens then b + 1 else b) ms h.1)

abbrev found_one : Published → Option Published
found_one x = Some x

within : (xs : List Published) (k : ℕ) → k < length xs → (y : Published) × (slice_get xs k ≡ Some y)
within [] k low = absurd (omega (arith, low))
within (x ∷ xs) zero low = (x, refl)
within (x ∷ xs) (suc k) low = within xs k (omega (arith, low))

pub one : (xs : List Published) (k : ℕ) (x : Published) → AreReadable (map published_view xs) → slice_get xs k ≡ Some x → IsReadable (published_view x)
one [] k x h e = absurd cc
one (y ∷ ys) zero x h e =
    let same : y ≡ x = cc in
    subst (λ z. IsReadable (published_view z)) same h.0
one (y ∷ ys) (suc k) x h e = one ys k x h.1 e

-- what is found in a list that can be read
pub found : (xs ys : List Published) (k : ℕ) (x : Published) → ys ≡ xs → HoldsAt (λ y. x ≡ y) ys k → k < length ys → AreReadable (map published_view xs) → IsReadable (published_view x)
found xs ys k x same at low h =
    let there : (y : Published) × (slice_get ys k ≡ Some y) = within ys k low in
    let e : slice_get xs k ≡ Some x = ap (λ (zs : List Published). slice_get zs k) (sym same) ∙ there.1
    ∙ ap found_one (sym (get_or_from_slice_get ys k there.0 x there.1) ∙ sym (at x)) in
    one xs k x h e

pub found_in : (xs ys : List Published) (k : ℕ) (r : Option (Bor Published)) → ys ≡ xs → MatchOption r (length ys ≤ k) (λ x. (k < length ys) × HoldsAt (λ y. x.now ≡ y) ys k) → AreReadable (map published_view xs) → IfSome r (λ m. IsReadable (published_view m.now))
found_in xs ys k None same h all = tt
found_in xs ys k (Some m) same h all = found xs ys k m.now same h.1 h.0 all

-- what a message's bytes are refused for
pub refused : (m : PublishedData) (f : ReadFault) → Spells (spelling (packet_of m)) (packet_of m) → Fails f (heard (packet_of m)) → (host_fault (fault_of f) ≡ NoMemory) ⊎ ((h : HostData) → IsUnsendable h m (host_fault (fault_of f)))
refused m read.NoMemory s h = inl refl
refused m read.NotSparkplug s h = inr (λ host. inr (inr (Unread read.NotSparkplug (Refused (packet_of m) s h))))
refused m read.BadPayload s h = inr (λ host. inr (inr (Unread read.BadPayload (Refused (packet_of m) s h))))
refused m read.NoSeq s h = inr (λ host. inr (inr (Unread read.NoSeq (Refused (packet_of m) s h))))
refused m read.NoStamp s h = inr (λ host. inr (inr (Unread read.NoStamp (Refused (packet_of m) s h))))
refused m read.NoBdSeq s h = inr (λ host. inr (inr (Unread read.NoBdSeq (Refused (packet_of m) s h))))
