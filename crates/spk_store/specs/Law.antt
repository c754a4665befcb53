-- The law of a store, for changes of any kind, plain data of specs too: what a list of calls leaves, as queries on the list.
use Rattle.std.specs.Prelude.{◌≡◌, ℕ, ◌-◌, ◌^◌, ◌≤◌, List, ◌∷◌, ◌++◌, filter, length, map, min, nat_le, slice_get, None, if◌then◌else◌}
use Rattle.spk_store.specs.Step.{overwritten}
use Rattle.spk_store.specs.Calls.{Call, Push, store_of}
use Rattle.spk_store.specs.Kept.{pushed, place_of, kept_of, count_of, left_of, lost_of, IsLawful}
use Rattle.spk_store.specs.Fates as fates
use Rattle.spk_store.specs.Suffixes as suffixes

-- The kept changes are those pushed from a place on, which is one of the list's or its end; no more are kept than there may be;
-- a push onto a full store hands back the change at the place; and what is lost is counted, up to the greatest u64. What has left
-- and what is kept are together, in order, what was pushed; and of what has left as many are lost as are counted.
pub record IsAsCalled {X : Type 0} (capacity : ℕ) (calls : List (Call X)) : Type 0 where
  pub kept : (store_of capacity calls).items ≡ kept_of capacity calls
  pub place : place_of capacity calls ≤ length (pushed calls)
  pub few : count_of capacity calls ≤ capacity
  pub overwritten : (x : X) → overwritten (store_of capacity calls) x ≡
      (if nat_le capacity (count_of capacity calls) then slice_get (pushed (Push x ∷ calls)) (place_of capacity calls) else None)
  pub lost : (store_of capacity calls).lost ≡ min (lost_of capacity calls) (2 ^ 64 - 1)
  pub fates : map (λ e. e.0) (left_of capacity calls) ++ kept_of capacity calls ≡ pushed calls
  pub counted : lost_of capacity calls ≡ length (filter (λ e. e.1) (left_of capacity calls))

pub as_called : {X : Type 0} (capacity : ℕ) (calls : List (Call X)) → IsLawful capacity calls → IsAsCalled capacity calls
as_called capacity calls lawful = record {
  kept = suffixes.kept_items capacity calls lawful;
  place = suffixes.place_within capacity calls lawful;
  few = suffixes.few_kept capacity calls lawful;
  overwritten = λ x. suffixes.overwritten_is capacity calls x lawful;
  lost = suffixes.lost_count capacity calls lawful;
  fates = fates.all_there capacity calls lawful;
  counted = fates.lost_are capacity calls lawful;
}
