-- What a host refuses of bytes, as the world's refusal.
use Rattle.std.proofs.Common.{◌≡◌, ◌⊎◌, inl, inr, sym, ap, subst, refl, true, ℕ, List, Option, Some, None, Result, Ok, Err}
use Rattle.std.specs.Prelude.{is_some}
use Rattle.spk_host.specs.Data.{OutData}
use Rattle.spk_host.specs.declared.out.Out.{Out}
use Rattle.spk_host_session.specs.Answer.{Fails}
use Rattle.spk_world_run.specs.Data.{PublishedData}
use Rattle.spk_reading.specs.Meaning.{IsReadFault}
use Rattle.spk_reading.specs.declared.fault.ReadFault.{ReadFault}
use Rattle.spk_reading.specs.declared.fault.ReadFault.TheVariants as read
use Rattle.spk_host_session.specs.declared.fault.HostFault.{HostFault}
use Rattle.spk_host_session.specs.declared.fault.HostFault.TheVariants as fault
use Rattle.spk_host.specs.Data.{HostData}
use Rattle.spk_host.specs.View.{fault_of}
use Rattle.spk_world.specs.declared.fault.WorldFault.TheVariants.{NoMemory}
use Rattle.spk_world.specs.Fault.{host_fault}
use Rattle.spk_world.specs.Outcome.{IsUnheard, IsUnsendable, Outside, Unread}

unread : (h : HostData) (bytes : List ℕ) (r : ReadFault) → IsReadFault bytes r → (host_fault (fault_of r) ≡ NoMemory) ⊎ IsUnheard h bytes (host_fault (fault_of r))
unread h bytes read.NoMemory is = inl refl
unread h bytes read.NotSparkplug is = inr (Unread read.NotSparkplug is)
unread h bytes read.BadPayload is = inr (Unread read.BadPayload is)
unread h bytes read.NoSeq is = inr (Unread read.NoSeq is)
unread h bytes read.NoStamp is = inr (Unread read.NoStamp is)
unread h bytes read.NoBdSeq is = inr (Unread read.NoBdSeq is)

abbrev Why : HostData → List ℕ → HostFault → Type 0
Why h bytes f = (host_fault f ≡ NoMemory) ⊎ IsUnheard h bytes (host_fault f)

pub unheard : (h : HostData) (bytes : List ℕ) (f : HostFault)
    → (f ≡ fault.NoMemory) ⊎ (((f ≡ fault.WrongPhase) × (h.session.began ≡ None)) ⊎ ((r : ReadFault) × IsReadFault bytes r × (f ≡ fault_of r)))
    → (host_fault f ≡ NoMemory) ⊎ IsUnheard h bytes (host_fault f)
unheard h bytes f (inl memory) = inl (ap host_fault memory)
unheard h bytes f (inr (inl outside)) = subst (Why h bytes) (sym outside.0) (inr (Outside outside.1))
unheard h bytes f (inr (inr told)) = subst (Why h bytes) (sym told.2) (unread h bytes told.0 told.1)

-- ---- what a host refuses of what bytes say: nothing within a session, but for want of memory

begun : {X : Type 0} (o : Option X) → (o ≡ None) ⊎ (is_some o ≡ true)
begun None = inl refl
begun (Some x) = inr refl

abbrev failed : HostFault → Result Out HostFault
failed f = Err f

failed_is : (f g : HostFault) → failed f ≡ failed g → f ≡ g
failed_is f g e = cc

within : (f : HostFault) (out : OutData) → Fails f (Ok out) → f ≡ fault.NoMemory
within fault.NoMemory out h = refl
within fault.NotSparkplug out h = absurd cc
within fault.BadPayload out h = absurd cc
within fault.NoSeq out h = absurd cc
within fault.NoStamp out h = absurd cc
within fault.NoBdSeq out h = absurd cc
within fault.WrongPhase out h = absurd cc

abbrev WhyUnsendable : HostData → HostFault → Type 0
WhyUnsendable h f = (host_fault f ≡ NoMemory) ⊎ ((m : PublishedData) → IsUnsendable h m (host_fault f))

pub untold : (h : HostData) (f : HostFault) (out : OutData) → (h.session.began ≡ None → failed f ≡ failed fault.WrongPhase) → (is_some h.session.began ≡ true → Fails f (Ok out)) → WhyUnsendable h f
untold h f out outside inside =
    elim (begun h.session.began) [
      | inl none ↦ subst (WhyUnsendable h) (sym (failed_is f fault.WrongPhase (outside none))) (inr (λ m. inr (inr (Outside none))))
      | inr some ↦ inl (ap host_fault (within f out (inside some)))
    ]
