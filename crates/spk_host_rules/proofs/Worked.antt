-- The rules at lists of events that were worked out by hand, named by what they show.
use Rattle.std.proofs.Common.{◌≡◌, ℕ, Bool, true, false, List, [], ◌∷◌, reverse, pos, codes, refl, Option, Some, None}
use Rattle.spk_payload.specs.Meaning.{Content, Int, Flag, Words, MetricData}
use Rattle.spk_payload.specs.Meaning as meaning
use Rattle.spk_payload.specs.Typing.{Signed, Truth, Text}
use Rattle.spk_host_rules.specs.Data.{Shown, Nothing, Value, Other, Row, Device, View, Message, NodeBirth, NodeData, DeviceBirth, DeviceData, DeviceDeath, Event, Consumed, Gap, NotLive, Over}
use Rattle.spk_host_rules.specs.Table.{table_of}
use Rattle.spk_host_rules.specs.Values.{values_at}
use Rattle.spk_host_rules.specs.Step.{after, asked_at}

-- ---- words

abbrev plain : MetricData
plain = record { name = None; alias = None; timestamp = None; datatype = None; historical = None; transient = None; null = None; value = None }

-- a metric of a birth: Int32 is 3, Boolean is 11, String is 12
abbrev named : List ℕ → Option ℕ → ℕ → Content → MetricData
named name alias datatype content = record plain { name = Some name; alias = alias; datatype = Some datatype; value = Some content }

-- a metric of data
abbrev set_to : ℕ → Content → MetricData
set_to alias content = record plain { alias = Some alias; value = Some content }

abbrev old : MetricData → MetricData
old m = record m { historical = Some true }

abbrev row : List ℕ → Option ℕ → ℕ → Shown → Row
row name alias datatype shown = record { name = name; alias = alias; datatype = Some datatype; shown = shown }

abbrev number : ℕ → Shown
number n = Value (Signed (pos n))

abbrev x : List ℕ
x = codes "x"

abbrev y : List ℕ
y = codes "y"

abbrev pump : List ℕ
pump = codes "pump"

-- ---- the table of a birth

-- x is Int32 7 under alias 1, y is true under alias 2
abbrev two : List MetricData
two = named x (Some 1) 3 (Int 7) ∷ named y (Some 2) 11 (Flag true) ∷ []

two_aliases : table_of two ≡ row x (Some 1) 3 (number 7) ∷ row y (Some 2) 11 (Value (Truth true)) ∷ []
two_aliases = refl

an_alias_moves_to_the_later_name : table_of (named x (Some 1) 3 (Int 7) ∷ named y (Some 1) 3 (Int 8) ∷ []) ≡ row x None 3 (number 7) ∷ row y (Some 1) 3 (number 8) ∷ []
an_alias_moves_to_the_later_name = refl

a_name_that_comes_twice_keeps_its_place : table_of (named x (Some 1) 3 (Int 7) ∷ named y (Some 2) 3 (Int 8) ∷ named x (Some 3) 12 (Words y) ∷ [])
    ≡ row x (Some 3) 12 (Value (Text y)) ∷ row y (Some 2) 3 (number 8) ∷ []
a_name_that_comes_twice_keeps_its_place = refl

-- y took alias 1 from x, and then gave it up
an_alias_given_up_is_nobodys : table_of (named x (Some 1) 3 (Int 7) ∷ named y (Some 1) 3 (Int 8) ∷ named y (Some 2) 3 (Int 9) ∷ [])
    ≡ row x None 3 (number 7) ∷ row y (Some 2) 3 (number 9) ∷ []
an_alias_given_up_is_nobodys = refl

a_metric_without_name_counts_nowhere : table_of (named x (Some 1) 3 (Int 7) ∷ set_to 1 (Int 8) ∷ []) ≡ row x (Some 1) 3 (number 7) ∷ []
a_metric_without_name_counts_nowhere = refl

-- null, without a value, without a datatype, with a value of another one, and with one that isn't read at all
what_a_birth_shows : table_of (
    record (named (codes "a") None 3 (Int 7)) { null = Some true } ∷
    record (named (codes "b") None 3 (Int 7)) { value = None } ∷
    record (named (codes "c") None 3 (Int 7)) { datatype = None } ∷
    named (codes "d") None 3 (Flag true) ∷
    named (codes "e") None 9 meaning.Other ∷ [])
    ≡ row (codes "a") None 3 Nothing ∷ row (codes "b") None 3 Nothing ∷ record (row (codes "c") None 3 Other) { datatype = None }
    ∷ row (codes "d") None 3 Other ∷ row (codes "e") None 9 Other ∷ []
what_a_birth_shows = refl

-- ---- values, newest change first: by the queries, and by the host's step over the same changes as one message

abbrev stepped : List MetricData → List MetricData → Option View
stepped birth since = (after 0 (Consumed (NodeData (reverse since)) 2 ∷ Consumed (NodeBirth birth) 1 ∷ [])).view

abbrev view_of : List Row → List Device → Option View
view_of rows devices = Some (record { online = true; stale = false; rows = rows; devices = devices })

abbrev Gives : List MetricData → List MetricData → List Row → Type 0
Gives birth since rows = (values_at birth since ≡ rows) × (stepped birth since ≡ view_of rows [])

the_last_change_counts : Gives two (set_to 1 (Int 9) ∷ set_to 2 (Flag false) ∷ set_to 1 (Int 8) ∷ []) (row x (Some 1) 3 (number 9) ∷ row y (Some 2) 11 (Value (Truth false)) ∷ [])
the_last_change_counts = (refl, refl)

history_is_passed_over : Gives two (old (set_to 1 (Int 9)) ∷ set_to 1 (Int 8) ∷ []) (row x (Some 1) 3 (number 8) ∷ row y (Some 2) 11 (Value (Truth true)) ∷ [])
history_is_passed_over = (refl, refl)

-- its value isn't looked at
null_is_nothing : Gives two (record (set_to 1 (Int 8)) { null = Some true } ∷ []) (row x (Some 1) 3 Nothing ∷ row y (Some 2) 11 (Value (Truth true)) ∷ [])
null_is_nothing = (refl, refl)

-- a Boolean for an Int32, whatever datatype the data name
mistyped_is_other : Gives two (record (set_to 1 (Flag true)) { datatype = Some 11 } ∷ []) (row x (Some 1) 3 Other ∷ row y (Some 2) 11 (Value (Truth true)) ∷ [])
mistyped_is_other = (refl, refl)

-- the alias counts where there is one, else the name; an unknown name changes nothing
by_alias_before_name : Gives two (record (set_to 1 (Int 8)) { name = Some y } ∷ record plain { name = Some y; value = Some (Flag false) } ∷ record plain { name = Some pump; value = Some (Int 1) } ∷ [])
    (row x (Some 1) 3 (number 8) ∷ row y (Some 2) 11 (Value (Truth false)) ∷ [])
by_alias_before_name = (refl, refl)

-- ---- devices, gaps and ends: events newest first

abbrev shown_after : List Event → Option View
shown_after events = (after 2000 events).view

abbrev device : Bool → Bool → Bool → List Row → List Device
device born online stale rows = record { name = pump; born = born; online = online; stale = stale; rows = rows } ∷ []

abbrev speed : ℕ → List Row
speed n = row x (Some 1) 3 (number n) ∷ []

-- a node without metrics, and its device with x under alias 1
abbrev pumps : List Event
pumps = Consumed (DeviceBirth pump (named x (Some 1) 3 (Int 7) ∷ [])) 2 ∷ Consumed (NodeBirth []) 1 ∷ []

nothing_before_a_birth : shown_after (Over ∷ Gap 3 ∷ Consumed (NodeData two) 2 ∷ NotLive 1 ∷ []) ≡ None
nothing_before_a_birth = refl

a_device_is_born : shown_after pumps ≡ view_of [] (device true true false (speed 7))
a_device_is_born = refl

a_device_dies : shown_after (Consumed (DeviceDeath pump) 3 ∷ pumps) ≡ view_of [] (device true false true (speed 7))
a_device_dies = refl

data_of_a_dead_device_stay_stale : shown_after (Consumed (DeviceData pump (set_to 1 (Int 8) ∷ [])) 4 ∷ Consumed (DeviceDeath pump) 3 ∷ pumps) ≡ view_of [] (device true false true (speed 8))
data_of_a_dead_device_stay_stale = refl

-- and a second time it is fresh, with the values of its own birth
a_device_is_born_again : shown_after (Consumed (DeviceBirth pump (named x (Some 1) 3 (Int 9) ∷ [])) 4 ∷ Consumed (DeviceDeath pump) 3 ∷ pumps) ≡ view_of [] (device true true false (speed 9))
a_device_is_born_again = refl

-- offline and stale until their DBIRTH, and their data are dropped
a_birth_keeps_devices_offline : shown_after (Consumed (DeviceData pump (set_to 1 (Int 8) ∷ [])) 4 ∷ Consumed (NodeBirth []) 3 ∷ pumps) ≡ view_of [] (device false false true (speed 7))
a_birth_keeps_devices_offline = refl

a_gap_leaves_online_and_makes_stale : shown_after (Gap 3 ∷ pumps) ≡ Some (record { online = true; stale = true; rows = []; devices = device true true true (speed 7) })
a_gap_leaves_online_and_makes_stale = refl

an_end_keeps_values : shown_after (Over ∷ pumps) ≡ Some (record { online = false; stale = true; rows = []; devices = device true false true (speed 7) })
an_end_keeps_values = refl

-- the device's alias 1 means nothing in the node's data
an_alias_is_its_owners : shown_after (Consumed (NodeData (set_to 1 (Int 8) ∷ [])) 3 ∷ pumps) ≡ shown_after pumps
an_alias_is_its_owners = refl

-- ---- requests, with `wait` 2000: what each of these events asks, newest first

abbrev asked_along : ℕ → List Event → List Bool
asked_along wait [] = []
asked_along wait (e ∷ before) = asked_at wait before e ∷ asked_along wait before

-- at 10 the first, at 2009 too early, at 2010 again
two_are_apart : asked_along 2000 (NotLive 2010 ∷ NotLive 2009 ∷ Gap 10 ∷ []) ≡ true ∷ false ∷ true ∷ []
two_are_apart = refl

-- an end of the session doesn't
a_birth_lets_ask_again : asked_along 2000 (Gap 14 ∷ Consumed (NodeBirth []) 13 ∷ NotLive 12 ∷ Over ∷ Gap 10 ∷ []) ≡ true ∷ false ∷ false ∷ false ∷ true ∷ []
a_birth_lets_ask_again = refl

-- but once
a_birth_lets_ask_once : asked_along 2000 (NotLive 15 ∷ Gap 14 ∷ Consumed (NodeBirth []) 13 ∷ Gap 10 ∷ []) ≡ false ∷ true ∷ false ∷ true ∷ []
a_birth_lets_ask_once = refl

an_earlier_moment_is_no_time : asked_along 2000 (NotLive 5 ∷ Gap 3000 ∷ []) ≡ false ∷ true ∷ []
an_earlier_moment_is_no_time = refl

without_wait_each_cause_asks : asked_along 0 (NotLive 10 ∷ Gap 10 ∷ []) ≡ true ∷ true ∷ []
without_wait_each_cause_asks = refl

abbrev AsksAfter : List Event → Message → Bool → Type 0
AsksAfter events m answer = asked_at 2000 events (Consumed m 9) ≡ answer

known_ones_ask_nothing : AsksAfter pumps (DeviceData pump (set_to 1 (Int 8) ∷ [])) false
known_ones_ask_nothing = refl

an_unknown_alias_asks : AsksAfter pumps (DeviceData pump (set_to 2 (Int 8) ∷ [])) true
an_unknown_alias_asks = refl

an_unknown_alias_in_history_asks : AsksAfter pumps (DeviceData pump (old (set_to 2 (Int 8)) ∷ [])) true
an_unknown_alias_in_history_asks = refl

an_alias_of_another_owner_asks : AsksAfter pumps (NodeData (set_to 1 (Int 8) ∷ [])) true
an_alias_of_another_owner_asks = refl

an_unknown_name_asks_nothing : AsksAfter pumps (NodeData (record plain { name = Some x; value = Some (Int 8) } ∷ [])) false
an_unknown_name_asks_nothing = refl

an_unknown_device_asks : AsksAfter pumps (DeviceDeath x) true
an_unknown_device_asks = refl

a_dead_device_is_known : AsksAfter (Consumed (DeviceDeath pump) 3 ∷ pumps) (DeviceDeath pump) false
a_dead_device_is_known = refl

-- no DBIRTH since
a_device_of_an_earlier_birth_asks : AsksAfter (Consumed (NodeBirth []) 3 ∷ pumps) (DeviceData pump []) true
a_device_of_an_earlier_birth_asks = refl
