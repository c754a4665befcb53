-- What a host's answer says of the call that it was asked to do.
use Rattle.std.proofs.Common.{◌≡◌, ◌∙◌, ap, sym, refl, ℕ, Bool, true, false, not, is_some, List, [], ◌∷◌, map, Option, Some, None, Result, Ok, Err, OnOk, OnErr, IfOk, IfErr}
use Rattle.std.specs.Prelude.{IfSome}
use Rattle.spk_packets.specs.Message.{Message}
use Rattle.spk_packets.specs.Spelling.{spelling}
use Rattle.spk_host_session.specs.Answer.{Fails, Gives, spelled}
use Rattle.spk_host_session.specs.Packets.{connect_of}
use Rattle.spk_host_session.specs.Step as session
use Rattle.spk_host_session.specs.Step.{outside}
use Rattle.spk_host_session.specs.declared.fault.HostFault.{HostFault}
use Rattle.spk_host_session.specs.declared.fault.HostFault.TheVariants.{NoMemory, NotSparkplug, BadPayload, NoSeq, NoStamp, NoBdSeq, WrongPhase}
use Rattle.spk_host.specs.Data.{HostData, OutData}
use Rattle.spk_host.specs.Inputs.{Call, Connected, host_with}
use Rattle.spk_host.specs.Step.{nothing, said_by}
use Rattle.spk_host.specs.View.{AreWhole, out_view}
use Rattle.spk_host.specs.declared.out.Out.{Out}
use Rattle.spk_plant_host.specs.declared.fault.HostCause.TheVariants as why
use Rattle.spk_plant_host.specs.Calls.{answer_at, host_asked, is_done, out_at}
use Rattle.spk_plant_host.specs.Steps.{Answers, answered}

abbrev due : OutData → Result OutData HostFault
due out = Ok out

never : (out : OutData) (f : HostFault) → due out ≡ Err f → ⊥
never out f h = cc

same_out : (a b : OutData) → due a ≡ due b → a ≡ b
same_out a b h = cc

pub asked_yes : (call : Call) (h : HostData) → is_done h call ≡ true → host_asked h call ≡ host_with h call
asked_yes call h e = rw e refl

pub answer_yes : (call : Call) (h : HostData) → is_done h call ≡ true → answer_at h call ≡ out_at h call
answer_yes call h e = rw e refl

pub asked_no : (call : Call) (h : HostData) → is_done h call ≡ false → host_asked h call ≡ h
asked_no call h e = rw e refl

pub answer_no : (call : Call) (h : HostData) → is_done h call ≡ false → answer_at h call ≡ nothing
answer_no call h e = rw e refl

not_true : (b : Bool) → (b ≡ true → ⊥) → b ≡ false
not_true true e = absurd (e refl)
not_true false e = refl

refused : (call : Call) (h new : HostData) → (is_done h call ≡ true → ⊥) → new ≡ h → Answers call h new None
refused call h new n u =
    let e = not_true (is_done h call) n in
    record { hands_out = sym (answer_no call h e); state = u ∙ sym (asked_no call h e) }

pub answers : (call : Call) (h new : HostData) (r : Result Out HostFault) →
    (is_done h call ≡ true → Gives out_view r (Ok (out_at h call))) → OnOk r (is_done h call ≡ true) →
    OnOk r (new ≡ host_with h call) → OnErr r (new ≡ h) → IfOk (answered r) (λ out. Answers call h new out)
answers call h new (Ok out) g i d u = record {
  hands_out = sym (answer_yes call h i ∙ same_out (out_at h call) (out_view out) (g i));
  state = d ∙ sym (asked_yes call h i);
}
answers call h new (Err NoMemory) g i d u = tt
answers call h new (Err NotSparkplug) g i d u = refused call h new (λ e. never (out_at h call) NotSparkplug (g e)) u
answers call h new (Err BadPayload) g i d u = refused call h new (λ e. never (out_at h call) BadPayload (g e)) u
answers call h new (Err NoSeq) g i d u = refused call h new (λ e. never (out_at h call) NoSeq (g e)) u
answers call h new (Err NoStamp) g i d u = refused call h new (λ e. never (out_at h call) NoStamp (g e)) u
answers call h new (Err NoBdSeq) g i d u = refused call h new (λ e. never (out_at h call) NoBdSeq (g e)) u
answers call h new (Err WrongPhase) g i d u = refused call h new (λ e. never (out_at h call) WrongPhase (g e)) u

-- ---- within a session

pub within_ok : (began : Option ℕ) (r : Result Out HostFault) → (began ≡ None → r ≡ Err WrongPhase) → OnOk r (is_some began ≡ true)
within_ok None (Ok out) f = absurd (let h = f refl in cc)
within_ok None (Err e) f = tt
within_ok (Some m) (Ok out) f = refl
within_ok (Some m) (Err e) f = tt

-- ---- a session is begun

abbrev texts : List (List ℕ) → Result (List (List ℕ)) HostFault
texts x = Ok x

outside_ok : (began : Option ℕ) (ps : List Message) (x : List (List ℕ)) → spelled (outside began ps) ≡ texts x → not (is_some began) ≡ true
outside_ok None ps x e = refl
outside_ok (Some m) ps x e = absurd cc

said_packets : (r : Result (List Message) HostFault) (x : List (List ℕ)) → spelled r ≡ texts x → map spelling (said_by r) ≡ x
said_packets (Ok ps) x e = cc
said_packets (Err f) x e = absurd cc

outside_fails : (began : Option ℕ) (ps : List Message) (out : OutData) (f : HostFault) → not (is_some began) ≡ true →
    Fails f (spelled (outside began ps)) → Fails f (due out)
outside_fails (Some m) ps out f n h = absurd cc
outside_fails None ps out NoMemory n h = (out, refl)
outside_fails None ps out NotSparkplug n h = absurd cc
outside_fails None ps out BadPayload n h = absurd cc
outside_fails None ps out NoSeq n h = absurd cc
outside_fails None ps out NoStamp n h = absurd cc
outside_fails None ps out NoBdSeq n h = absurd cc
outside_fails None ps out WrongPhase n h = absurd cc

abbrev alone : List (List ℕ) → OutData
alone packets = record nothing { packets = packets }

begin_gives : (h : HostData) (now : ℕ) (r : Result Out HostFault) →
    Gives (λ o. (out_view o).packets) r (spelled (session.says h.session (session.Connected now))) →
    IfOk r (λ o. out_view o ≡ record nothing { packets = (out_view o).packets }) →
    is_done h (Connected now) ≡ true → Gives out_view r (due (out_at h (Connected now)))
begin_gives h now (Ok out) g a n =
    let said = session.says h.session (session.Connected now) in
    ap due (ap alone (said_packets said (out_view out).packets g) ∙ sym a)
begin_gives h now (Err f) g a n =
    outside_fails h.session.began (connect_of h.session.config now ∷ []) (out_at h (Connected now)) f n g

begin_ok : (h : HostData) (now : ℕ) (r : Result Out HostFault) →
    Gives (λ o. (out_view o).packets) r (spelled (session.says h.session (session.Connected now))) → OnOk r (is_done h (Connected now) ≡ true)
begin_ok h now (Ok out) g = outside_ok h.session.began (connect_of h.session.config now ∷ []) (out_view out).packets g
begin_ok h now (Err f) g = tt

pub begin_answers : (h new : HostData) (now : ℕ) (r : Result Out HostFault) →
    Gives (λ o. (out_view o).packets) r (spelled (session.says h.session (session.Connected now))) →
    IfOk r (λ o. out_view o ≡ record nothing { packets = (out_view o).packets }) →
    OnOk r (new ≡ host_with h (Connected now)) → OnErr r (new ≡ h) → IfOk (answered r) (λ out. Answers (Connected now) h new out)
begin_answers h new now r g a d u = answers (Connected now) h new r (begin_gives h now r g a) (begin_ok h now r g) d u

-- ---- want of memory is the only fault

pub memory_alone : (r : Result Out HostFault) → IfErr (answered r) (λ e. e ≡ why.NoMemory)
memory_alone (Ok out) = tt
memory_alone (Err NoMemory) = refl
memory_alone (Err NotSparkplug) = tt
memory_alone (Err BadPayload) = tt
memory_alone (Err NoSeq) = tt
memory_alone (Err NoStamp) = tt
memory_alone (Err NoBdSeq) = tt
memory_alone (Err WrongPhase) = tt

-- ---- what is answered is handed on

pub still_whole : (r : Result Out HostFault) → IfOk r (λ o. AreWhole o) → IfOk (answered r) (λ out. IfSome out (λ o. AreWhole o))
still_whole (Ok out) w = w
still_whole (Err NoMemory) w = tt
still_whole (Err NotSparkplug) w = tt
still_whole (Err BadPayload) w = tt
still_whole (Err NoSeq) w = tt
still_whole (Err NoStamp) w = tt
still_whole (Err NoBdSeq) w = tt
still_whole (Err WrongPhase) w = tt
