-- What a view doesn't know is what the births didn't give.
use Rattle.std.proofs.Common.{◌≡◌, ℕ, Bool, not, ◌||◌, cond, List, [], ◌∷◌, map, refl, sym, ◌∙◌, ap, Option, Some, None}
use Rattle.std.specs.List.{find, list_any}
use Rattle.spk_payload.specs.Meaning.{MetricData}
use Rattle.spk_host_rules.specs.Data.{Row, Device, View, Message, NodeBirth, NodeData, DeviceBirth, DeviceData, DeviceDeath, Event}
use Rattle.spk_host_rules.specs.Table.{table_of, is_alias, lacks, is_lacking, changes}
use Rattle.spk_host_rules.specs.Values.{last_part, consumed_of, as_changed, values_in, node_data, device_birth, device_data, has_died, is_online, is_followed}
use Rattle.spk_host_rules.specs.Step.{is_unknown, is_device_lacking, rows_if_born}
use Rattle.spk_host_rules.specs.Showing.{Shows, ShowsDevice, IsShown, device_in}
use Rattle.spk_host_rules.specs.Foreign.{is_foreign, is_foreign_to}
use Rattle.spk_host_rules.proofs.Rows.{aliased-still}
use Rattle.spk_host_rules.proofs.Devices.{lives}

pub any-map : {X Y : Type 0} (f : X → Y) (p : Y → Bool) (q : X → Bool) → ((x : X) → p (f x) ≡ q x) → (xs : List X) → list_any p (map f xs) ≡ list_any q xs
any-map f p q h [] = refl
any-map f p q h (x ∷ xs) = ap (λ b. b || list_any p (map f xs)) (h x) ∙ ap (λ b. q x || b) (any-map f p q h xs)

any-same : {X : Type 0} (p q : X → Bool) → ((x : X) → p x ≡ q x) → (xs : List X) → list_any p xs ≡ list_any q xs
any-same p q h [] = refl
any-same p q h (x ∷ xs) = ap (λ b. b || list_any p xs) (h x) ∙ ap (λ b. q x || b) (any-same p q h xs)

-- values have the aliases of the table
lacks-still : (g : Row → Option MetricData) (rows : List Row) (alias : Option ℕ) → lacks (map (λ r. as_changed r (g r)) rows) alias ≡ lacks rows alias
lacks-still g rows None = refl
lacks-still g rows (Some a) = ap not (any-map (λ r. as_changed r (g r)) (λ r. is_alias r.alias a) (λ r. is_alias r.alias a) (λ r. aliased-still a r (g r)) rows)

lacking-still : (table : List Row) (since ms : List MetricData) → is_lacking (values_in table since) ms ≡ is_lacking table ms
lacking-still table since ms =
    any-same (λ m. lacks (values_in table since) m.alias) (λ m. lacks table m.alias) (λ m. lacks-still (λ r. find (λ n. changes table r.name n) since) table m.alias) ms

device-lacking : (o f : Bool) (birth : Option (List MetricData)) (since : List MetricData) (died : Bool) (found : Option Device) (ms : List MetricData)
    → ShowsDevice o f (lives birth since died) found → is_device_lacking (rows_if_born found) ms ≡ is_foreign_to birth ms
device-lacking o f None since died None ms h = refl
device-lacking o f None since died (Some d) ms h = ap (λ b. is_device_lacking (cond b (Some d.rows) None) ms) h.0
device-lacking o f (Some birth) since died None ms h = absurd h
device-lacking o f (Some birth) since died (Some d) ms h =
    ap (λ b. is_device_lacking (cond b (Some d.rows) None) ms) h.0 ∙ ap (λ (rows : List Row). is_lacking rows ms) h.1 ∙ lacking-still (table_of birth) since ms

of-device : (events : List Event) (v : View) (h : Shows events v) (name : List ℕ) (ms : List MetricData)
    → is_device_lacking (rows_if_born (device_in name v.devices)) ms ≡ is_foreign_to (device_birth name h.part.since) ms
of-device events v h name ms =
    device-lacking (is_online events) (is_followed events) (device_birth name h.part.since) (device_data name h.part.since) (has_died name h.part.since) (device_in name v.devices) ms (h.devices name)

in-part : (events : List Event) (v : View) (h : Shows events v) (m : Message) → is_unknown (Some v) m ≡ is_foreign (Some h.part) m
in-part events v h (NodeBirth ms) = refl
in-part events v h (NodeData ms) = ap (λ (rows : List Row). is_lacking rows ms) h.rows ∙ lacking-still (table_of h.part.birth) (node_data h.part.since) ms
in-part events v h (DeviceBirth name ms) = refl
in-part events v h (DeviceData name ms) = of-device events v h name ms
in-part events v h (DeviceDeath name) = of-device events v h name []

unheard : (m : Message) → is_unknown None m ≡ is_foreign None m
unheard (NodeBirth ms) = refl
unheard (NodeData ms) = refl
unheard (DeviceBirth name ms) = refl
unheard (DeviceData name ms) = refl
unheard (DeviceDeath name) = refl

pub unknown-is : (events : List Event) (view : Option View) (m : Message) → IsShown events view → is_unknown view m ≡ is_foreign (last_part (consumed_of events)) m
unknown-is events None m h = unheard m ∙ ap (λ part. is_foreign part m) (sym h)
unknown-is events (Some v) m h = in-part events v h m ∙ ap (λ part. is_foreign part m) (sym h.is_last)
