-- Lists read to their end, and a store with one more.
use Rattle.std.proofs.Common.{◌≡◌, ◌∙◌, ap, sym, refl, ℕ, ◌+◌, ◌-◌, ◌<◌, min, Bool, cond, List, [], ◌∷◌, ◌++◌, length, map, take, drop, get_or, Option, Some, nat_le}
use Rattle.std.specs.List.{last_or, drop-map}
use Rattle.std.proofs.lemmas.List.{take_more, map_push, length-map}
use Rattle.spk_store.specs.Data.{Kept}
use Rattle.spk_store.specs.Step.{after_drop, after_push, counted, last_of}
use Rattle.spk_store.specs.declared.change.Change.{Change}
use Rattle.spk_edge_rules.specs.Inputs.{ChangeData}
use Rattle.spk_edge.specs.View.{MessageData, change_view, kept_view, message_view}
use Rattle.spk_edge.specs.declared.message.Published.{Published}

last_or-snoc : {X : Type 0} (o : Option X) (xs : List X) (x : X) → last_or o (xs ++ x ∷ []) ≡ Some x
last_or-snoc o [] x = refl
last_or-snoc o (y ∷ xs) x = last_or-snoc (Some y) xs x

abbrev stamps : List Published → List ℕ
stamps ms = map (λ (m : MessageData). m.stamp) (map message_view ms)

pub last-more : (before : Option ℕ) (ms : List Published) (i : ℕ) (m : Published) → i < length ms → m ≡ get_or ms i m
    → Some m.stamp ≡ last_or before (stamps (take (i + 1) ms))
last-more before ms i m lt is = sym (
    ap (λ (l : List Published). last_or before (stamps l)) (take_more ms i m lt)
    ∙ ap (λ (l : List MessageData). last_or before (map (λ (m : MessageData). m.stamp) l)) (map_push message_view (take i ms) (get_or ms i m))
    ∙ ap (last_or before) (map_push (λ (m : MessageData). m.stamp) (map message_view (take i ms)) (message_view (get_or ms i m)))
    ∙ last_or-snoc before (stamps (take i ms)) (get_or ms i m).stamp
    ∙ ap (λ (m : Published). Some m.stamp) (sym is))

-- a store seen as plain data, with one change more
pub push-view : (s : Kept Change) (c : Change) → kept_view (after_push s c) ≡ after_push (kept_view s) (change_view c)
push-view s c =
    let size : length (map change_view s.items) ≡ length s.items = length-map s.items change_view in
    let all : map change_view (s.items ++ c ∷ []) ≡ map change_view s.items ++ change_view c ∷ [] = map_push change_view s.items c in
    let most : length (map change_view (s.items ++ c ∷ [])) ≡ length (s.items ++ c ∷ []) = length-map (s.items ++ c ∷ []) change_view in
    let items : map change_view (last_of s.capacity (s.items ++ c ∷ [])) ≡ last_of s.capacity (map change_view s.items ++ change_view c ∷ []) =
    sym (drop-map change_view (length (s.items ++ c ∷ []) - s.capacity) (s.items ++ c ∷ []))
    ∙ ap (λ n. drop (n - s.capacity) (map change_view (s.items ++ c ∷ []))) (sym most)
    ∙ ap (last_of s.capacity) all in
    ap (λ (l : List ChangeData). let k : Kept ChangeData = record { items = l; capacity = s.capacity; lost = (after_push s c).lost } in k) items
    ∙ ap (λ n. let k : Kept ChangeData = record { items = last_of s.capacity (map change_view s.items ++ change_view c ∷ []); capacity = s.capacity; lost = cond (nat_le s.capacity n) (counted s.lost 1) s.lost } in k) (sym size)

-- one with fewer at the front
pub drop-view : (s : Kept Change) (n : ℕ) (is_lost : Bool) → kept_view (after_drop s (min n (length s.items)) is_lost)
    ≡ after_drop (kept_view s) (min n (length (map change_view s.items))) is_lost
drop-view s n is_lost =
    let size : length (map change_view s.items) ≡ length s.items = length-map s.items change_view in
    let m = min n (length s.items) in
    ap (λ (l : List ChangeData). let k : Kept ChangeData = record { items = l; capacity = s.capacity; lost = (after_drop s m is_lost).lost } in k) (sym (drop-map change_view m s.items))
    ∙ ap (λ k. after_drop (kept_view s) (min n k) is_lost) (sym size)
