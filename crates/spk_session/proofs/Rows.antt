-- The definitions at worked lists.
use Rattle.std.proofs.Common.{◌≡◌, ℕ, ◌<◌, true, false, [], ◌∷◌, refl, arith, suc, zero}
use Rattle.spk_session.specs.declared.answer.Sort.TheVariants as sort
use Rattle.spk_session.specs.declared.answer.Verdict.TheVariants as verdict
use Rattle.spk_session.specs.PacketIds.{next_id, id_after, is_in}
use Rattle.spk_session.specs.Past.{Gave, Acked, Refused, Reopened, TookBack, in_use, last_given, drops_of}
use Rattle.spk_session.specs.Step.{is_spent}
use Rattle.spk_session.specs.Calls.{right_verdict}
use Rattle.spk_session.proofs.CircleLemmas.{next_id_at}

-- the first id is 1, the next one 2, and 1 follows 65,535
first_id : next_id [] 0 ≡ 1
first_id = next_id_at [] 0 0 (omega arith) (λ j h. absurd (omega arith)) refl

second_id : next_id (1 ∷ []) 1 ≡ 2
second_id = next_id_at (1 ∷ []) 1 0 (omega arith) (λ j h. absurd (omega arith)) refl

after_the_last : next_id (65535 ∷ []) 65535 ≡ 1
after_the_last = next_id_at (65535 ∷ []) 65535 0 (omega arith) (λ j h. absurd (omega arith)) refl

-- the smallest free id isn't the next one
not_the_smallest : next_id (2 ∷ []) 2 ≡ 3
not_the_smallest = next_id_at (2 ∷ []) 2 0 (omega arith) (λ j h. absurd (omega arith)) refl

-- one that is in use is passed over
passed_over : next_id (7 ∷ 1 ∷ []) 65535 ≡ 2
passed_over = next_id_at (7 ∷ 1 ∷ []) 65535 1 (omega arith) before refl where
  before : (j : ℕ) → j < 1 → is_in (7 ∷ 1 ∷ []) (id_after 65535 j) ≡ true
  before zero h = refl
  before (suc j) h = absurd (omega arith)

-- 1 and 2 are given, 1 is acknowledged, and again
given_and_acked : in_use (Gave 1 ∷ Gave 2 ∷ Acked 1 ∷ Acked 1 ∷ []) ≡ 2 ∷ []
given_and_acked = refl

-- given anew, an id stands behind the others
given_anew : in_use (Gave 1 ∷ Gave 2 ∷ Acked 1 ∷ Gave 1 ∷ []) ≡ 2 ∷ 1 ∷ []
given_anew = refl

taken_back : in_use (Gave 1 ∷ Gave 2 ∷ Gave 3 ∷ TookBack (2 ∷ 3 ∷ []) 1 ∷ Gave 2 ∷ []) ≡ 1 ∷ 2 ∷ []
taken_back = refl

last_taken_back : last_given (Gave 1 ∷ Gave 2 ∷ TookBack (2 ∷ []) 1 ∷ Acked 1 ∷ []) ≡ 1
last_taken_back = refl

nothing_given : last_given (Acked 1 ∷ Reopened ∷ []) ≡ 0
nothing_given = refl

-- only sends of QoS 0 are drops, and they count from the reopening on
drops_counted : drops_of (Refused sort.QosZero ∷ Reopened ∷ Refused sort.QosZero ∷ Refused sort.Other ∷ Gave 1 ∷ Refused sort.QosZero ∷ []) ≡ 2
drops_counted = refl

-- drop 127 of a limit of 128 doesn't close, 128 and 129 do; limits 64 and 254 alike, and 0 acts as 1
drop_127 : is_spent 128 127 ≡ false
drop_127 = refl

drop_128 : is_spent 128 128 ≡ true
drop_128 = refl

drop_129 : is_spent 128 129 ≡ true
drop_129 = refl

drop_63_of_64 : is_spent 64 63 ≡ false
drop_63_of_64 = refl

drop_254 : is_spent 254 254 ≡ true
drop_254 = refl

first_of_none : is_spent 0 1 ≡ true
first_of_none = refl

no_drop_yet : is_spent 0 0 ≡ false
no_drop_yet = refl

closes_at_once : right_verdict 128 [] sort.Other ≡ verdict.Close
closes_at_once = refl

first_is_dropped : right_verdict 128 [] sort.QosZero ≡ verdict.Dropped
first_is_dropped = refl

second_closes : right_verdict 2 (Refused sort.QosZero ∷ []) sort.QosZero ≡ verdict.Close
second_closes = refl
