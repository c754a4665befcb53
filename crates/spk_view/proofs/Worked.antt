-- What a message made ready does is what the rules say of the message; and examples.
use Rattle.std.proofs.Common.{◌≡◌, ℕ, true, false, [], ◌∷◌, refl, Option, Some, None}
use Rattle.spk_host_rules.specs.Data.{View, Message, NodeBirth, NodeData, DeviceBirth, DeviceData, DeviceDeath, Consumed}
use Rattle.spk_host_rules.specs.Step.{view_with, is_unknown, is_birth}
use Rattle.spk_view.specs.Prepared.{prepared, view_by, is_unknown_by, is_birth_by, takes_room}

pub view-same : (view : Option View) (m : Message) → view_by view (prepared m) ≡ view_with view m
view-same view (NodeBirth ms) = refl
view-same view (NodeData ms) = refl
view-same view (DeviceBirth name ms) = refl
view-same view (DeviceData name ms) = refl
view-same view (DeviceDeath name) = refl

pub unknown-same : (view : Option View) (m : Message) → is_unknown_by view (prepared m) ≡ is_unknown view m
unknown-same view (NodeBirth ms) = refl
unknown-same view (NodeData ms) = refl
unknown-same view (DeviceBirth name ms) = refl
unknown-same view (DeviceData name ms) = refl
unknown-same view (DeviceDeath name) = refl

pub birth-same : (m : Message) (now : ℕ) → is_birth_by (prepared m) ≡ is_birth (Consumed m now)
birth-same (NodeBirth ms) now = refl
birth-same (NodeData ms) now = refl
birth-same (DeviceBirth name ms) now = refl
birth-same (DeviceData name ms) now = refl
birth-same (DeviceDeath name) now = refl

-- ---- a view with the device D

abbrev one : Option View
one = Some (record {
  online = true;
  stale = false;
  rows = [];
  devices = record { name = 68 ∷ []; born = false; online = false; stale = true; rows = [] } ∷ [];
})

another-device : takes_room one (prepared (DeviceBirth (69 ∷ []) [])) ≡ true
another-device = refl

the-same-again : takes_room one (prepared (DeviceBirth (68 ∷ []) [])) ≡ false
the-same-again = refl

its-data : takes_room one (prepared (DeviceData (69 ∷ []) [])) ≡ false
its-data = refl

before-a-birth : takes_room None (prepared (DeviceBirth (69 ∷ []) [])) ≡ false
before-a-birth = refl

no-first-birth : takes_room None (prepared (NodeBirth [])) ≡ false
no-first-birth = refl
