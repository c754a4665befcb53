-- What the definitions answer in runs that are worked out by hand. Calls stand newest first.
use Rattle.std.specs.Prelude.{◌≡◌, true, false, List, [], ◌∷◌, Some, None, Result, Ok, Err, pos, negsuc, codes, refl}
use Rattle.spk_payload.specs.Meaning.{Int, Float, Double}
use Rattle.spk_payload.specs.Typing.{Signed, Truth, Binary32, Binary64}
use Rattle.spk_payload.specs.declared.values.Values.TheVariants as choice
use Rattle.spk_device.specs.declared.outcome.Outcome.TheVariants.{Changed, Same}
use Rattle.spk_device.specs.declared.fault.Refusal.{Refusal}
use Rattle.spk_device.specs.declared.fault.Refusal.TheVariants.{Duplicate, NoSuch, WrongKind, BadName}
use Rattle.spk_device.specs.declared.owner.Owner.TheVariants.{Node, Device}
use Rattle.spk_device.specs.Book.{Book, births_of, fresh_book, is_up}
use Rattle.spk_device.specs.Calls.{Call, AddDevice, AddMetric, Set, Turn, Reply, Done, Alias, Told, answer_of, standing, standing_from}
use Rattle.spk_device.specs.Queries.{book_at, book_from, done, done_from}

-- a metric `t` of Int32 with the value 0
abbrev added : List Call
added = AddMetric Node (codes "t") 3 (Some (Signed (pos 0))) ∷ []

-- the next call's answer, by the data and by the queries
abbrev Answers : List Call → Call → Result Reply Refusal → Type 0
Answers calls call answer = (answer_of (standing calls) call ≡ answer) × (answer_of (book_at (done calls)) call ≡ answer)

pub first_alias : Answers [] (AddMetric Node (codes "t") 3 (Some (Signed (pos 0)))) (Ok (Alias 1))
first_alias = (refl, refl)

pub second_of_a_name : Answers added (AddMetric Node (codes "t") 3 None) (Err Duplicate)
second_of_a_name = (refl, refl)

pub set_once : Answers added (Set 1 (Some (Signed (pos 7)))) (Ok (Told Changed))
set_once = (refl, refl)

pub set_again : Answers (Set 1 (Some (Signed (pos 7))) ∷ added) (Set 1 (Some (Signed (pos 7)))) (Ok (Told Same))
set_again = (refl, refl)

pub a_flag_for_a_number : Answers added (Set 1 (Some (Truth true))) (Err WrongKind)
a_flag_for_a_number = (refl, refl)

pub no_such_alias : Answers added (Set 2 (Some (Signed (pos 7)))) (Err NoSuch)
no_such_alias = (refl, refl)

pub taken_names : Answers [] (AddMetric (Device 5) (codes "bdSeq") 9 None) (Err Duplicate)
    × Answers [] (AddMetric Node (codes "Node Control/Rebirth") 3 None) (Err Duplicate)
taken_names = ((refl, refl), (refl, refl))

pub a_device : Answers [] (AddDevice (codes "D")) (Ok Done) × Answers [] (AddDevice (codes "a/b")) (Err BadName)
a_device = ((refl, refl), (refl, refl))

-- a new device is down, and its last turn says whether it is up
pub turns : (is_up (standing (AddDevice (codes "D") ∷ [])) (codes "D") ≡ Some false)
    × Answers (AddDevice (codes "D") ∷ []) (Turn (codes "D") false) (Ok (Told Same))
    × Answers (AddDevice (codes "D") ∷ []) (Turn (codes "D") true) (Ok (Told Changed))
    × Answers (Turn (codes "D") true ∷ AddDevice (codes "D") ∷ []) (Turn (codes "D") true) (Ok (Told Same))
turns = (refl, (refl, refl), (refl, refl), (refl, refl))

-- aliases count over the whole node, and a birth has the owner's metrics alone: Int8 -1 is written in 32 bits
pub births : births_of (standing (Set 2 (Some (Signed (negsuc 0))) ∷ AddMetric (Device 0) (codes "t") 1 None ∷ AddDevice (codes "D") ∷ added)) (Device 0)
    ≡ (record {
      name = Some (codes "t");
      alias = Some 2;
      timestamp = None;
      datatype = Some 1;
      historical = None;
      transient = None;
      null = None;
      value = Some (Int 4294967295);
    }) ∷ []
births = refl

-- a metric without a value is null, without one
pub null_birth : births_of (standing (Set 1 None ∷ added)) Node
    ≡ (record {
      name = Some (codes "t");
      alias = Some 1;
      timestamp = None;
      datatype = Some 3;
      historical = None;
      transient = None;
      null = Some true;
      value = None;
    }) ∷ []
null_birth = refl

-- from a first registry with a device that is up and a metric of it: its value is set, the device goes down, a name of it is
-- refused, and one more metric has the next alias
abbrev handed_over : Book
handed_over = record {
  devices = (record { name = codes "D"; up = true }) ∷ [];
  gauges = (record { owner = Device 0; name = codes "t"; datatype = 3; value = Some (Signed (pos 5)) }) ∷ [];
  values = choice.Whole;
}

abbrev since : List Call
since = AddMetric Node (codes "u") 11 None ∷ AddDevice (codes "D") ∷ Turn (codes "D") false ∷ Set 1 (Some (Signed (pos 7))) ∷ []

abbrev later : Book
later = record {
  devices = (record { name = codes "D"; up = false }) ∷ [];
  gauges = (record { owner = Device 0; name = codes "t"; datatype = 3; value = Some (Signed (pos 7)) })
      ∷ (record { owner = Node; name = codes "u"; datatype = 11; value = None }) ∷ [];
  values = choice.Whole;
}

pub from_a_first_registry : (standing_from handed_over since ≡ later) × (book_from handed_over (done_from handed_over since) ≡ later)
from_a_first_registry = (refl, refl)

-- Float and Double are taken where all values are: 1.5 is 0x3fc00000 of 32 bits, -2 is 0xc000000000000000 of 64. A zero of the other
-- sign is another value, and a NaN (0x7fc00000) is equal to itself.
abbrev pub floats : List Call
floats = AddMetric Node (codes "d") 10 (Some (Binary64 13835058055282163712)) ∷ AddMetric Node (codes "f") 9 (Some (Binary32 1069547520)) ∷ []

abbrev AnswersAll : List Call → Call → Result Reply Refusal → Type 0
AnswersAll calls call answer =
    (answer_of (standing_from (fresh_book choice.All) calls) call ≡ answer)
    × (answer_of (book_from (fresh_book choice.All) (done_from (fresh_book choice.All) calls)) call ≡ answer)

pub floats_are_taken : AnswersAll [] (AddMetric Node (codes "f") 9 (Some (Binary32 1069547520))) (Ok (Alias 1))
    × Answers [] (AddMetric Node (codes "f") 9 (Some (Binary32 1069547520))) (Err WrongKind)
    × Answers [] (AddMetric Node (codes "d") 10 None) (Err WrongKind)
    × AnswersAll [] (AddMetric Node (codes "f") 9 (Some (Binary64 0))) (Err WrongKind)
floats_are_taken = ((refl, refl), (refl, refl), (refl, refl), (refl, refl))

pub floats_are_set : AnswersAll floats (Set 1 (Some (Binary32 1069547520))) (Ok (Told Same))
    × AnswersAll floats (Set 1 (Some (Binary32 0))) (Ok (Told Changed))
    × AnswersAll (Set 1 (Some (Binary32 0)) ∷ floats) (Set 1 (Some (Binary32 2147483648))) (Ok (Told Changed))
    × AnswersAll (Set 1 (Some (Binary32 2143289344)) ∷ floats) (Set 1 (Some (Binary32 2143289344))) (Ok (Told Same))
    × AnswersAll floats (Set 1 (Some (Signed (pos 1)))) (Err WrongKind)
floats_are_set = ((refl, refl), (refl, refl), (refl, refl), (refl, refl), (refl, refl))

pub floats_in_a_birth : births_of (standing_from (fresh_book choice.All) floats) Node
    ≡ (record {
      name = Some (codes "f");
      alias = Some 1;
      timestamp = None;
      datatype = Some 9;
      historical = None;
      transient = None;
      null = None;
      value = Some (Float 1069547520);
    })
    ∷ (record {
      name = Some (codes "d");
      alias = Some 2;
      timestamp = None;
      datatype = Some 10;
      historical = None;
      transient = None;
      null = None;
      value = Some (Double 13835058055282163712);
    }) ∷ []
floats_in_a_birth = refl
