-- Faults on their way through readers.
use Rattle.std.proofs.Common.{◌≡◌, Bool, true, false, cond, Result, Ok, Err, refl, inl, inr, ◌⊎◌}
use Rattle.spk_packets.specs.declared.fault.PacketFault.{PacketFault}
use Rattle.spk_packets.specs.declared.fault.PacketFault.TheVariants.{NoMemory, More, BadLength, BadFlags, BadType, BadText, BadBody, TooLarge, QosTwo, BadLevel}
use Rattle.spk_packets.specs.Fault.{Fails}
use Rattle.spk_packets.specs.Reading.{◌>>=◌}

pub Fails-same : {A B : Type 0} (e : PacketFault) (r : Result A PacketFault) (s : Result B PacketFault) → ((f : PacketFault) → r ≡ Err f → s ≡ Err f) → Fails e r → Fails e s
Fails-same NoMemory r s goes h = tt
Fails-same More r s goes h = goes More h
Fails-same BadLength r s goes h = goes BadLength h
Fails-same BadFlags r s goes h = goes BadFlags h
Fails-same BadType r s goes h = goes BadType h
Fails-same BadText r s goes h = goes BadText h
Fails-same BadBody r s goes h = goes BadBody h
Fails-same TooLarge r s goes h = goes TooLarge h
Fails-same QosTwo r s goes h = goes QosTwo h
Fails-same BadLevel r s goes h = goes BadLevel h

-- the value of a step that did not fail
pub bind_ok : {A B : Type 0} (r : Result A PacketFault) (f : A → Result B PacketFault) (y : B) → (r >>= f) ≡ Ok y → (x : A) × (r ≡ Ok x) × (f x ≡ Ok y)
bind_ok (Ok x) f y e = (x, refl, e)
bind_ok (Err d) f y e = absurd cc

-- a test that did not fail
pub guard_ok : {A : Type 0} (b : Bool) (d : PacketFault) (x : Result A PacketFault) (y : A) → cond b (Err d) x ≡ Ok y → (b ≡ false) × (x ≡ Ok y)
guard_ok true d x y e = absurd cc
guard_ok false d x y e = (refl, e)

-- a test that passed
pub pass_ok : {A : Type 0} (b : Bool) (d : PacketFault) (x : Result A PacketFault) (y : A) → cond b x (Err d) ≡ Ok y → (b ≡ true) × (x ≡ Ok y)
pass_ok true d x y e = (refl, e)
pass_ok false d x y e = absurd cc

-- which way a test went
pub chosen : {A : Type 0} (b : Bool) (x y z : A) → cond b x y ≡ z → ((b ≡ true) × (x ≡ z)) ⊎ ((b ≡ false) × (y ≡ z))
chosen true x y z e = inl (refl, e)
chosen false x y z e = inr (refl, e)

abbrev done : {A : Type 0} → A → Result A PacketFault
done x = Ok x

pub ok_is : {A : Type 0} (x y : A) → done x ≡ done y → x ≡ y
ok_is x y e = cc
