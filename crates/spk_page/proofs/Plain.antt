-- A view has no float.
use Rattle.std.proofs.Common.{◌≡◌, ℕ, Bool, true, false, ◌||◌, List, [], ◌∷◌, map, Option, None, Some, refl}
use Rattle.serde_json.specs.Data.{Data, string}
use Rattle.serde_json.specs.View.{items_of}
use Rattle.serde_json.specs.Written.{has_float, items_have_float}
use Rattle.spk_story.specs.declared.hole.End.{End}
use Rattle.spk_story.specs.declared.hole.End.TheVariants.{Birth, Death, Session}
use Rattle.spk_story.specs.declared.hole.Hole.{Hole}
use Rattle.spk_page.specs.declared.entry.Entry.{Entry}
use Rattle.spk_page.specs.declared.entry.What.{What}
use Rattle.spk_page.specs.declared.entry.What.TheVariants.{Connected, Disconnected, Born, BornAgain, Mended, Lost, Died, Asked, DeviceBorn, DeviceDied, Refused, TurnedAway, NotSubscribed, Ended}
use Rattle.spk_page.specs.declared.head.Head.{Head}
use Rattle.spk_page.specs.declared.node.Node.{Node}
use Rattle.spk_page.specs.Rows.{maybe, end_data, hole_data, maybe_hole, row_data}
use Rattle.spk_page.specs.View.{detail, entry_data, entries_since, rows_since, view_data}

or_false : (a b : Bool) → a ≡ false → b ≡ false → a || b ≡ false
or_false a b x y = rw x y

each_plain : {X : Type 0} → (f : X → Data) → ((x : X) → has_float (f x) ≡ false) → (xs : List X) → items_have_float (items_of (map f xs)) ≡ false
each_plain f h [] = refl
each_plain f h (x ∷ xs) = or_false _ _ (h x) (each_plain f h xs)

maybe_plain : (o : Option ℕ) → has_float (maybe o) ≡ false
maybe_plain None = refl
maybe_plain (Some n) = refl

end_plain : (e : Option End) → has_float (end_data e) ≡ false
end_plain None = refl
end_plain (Some Birth) = refl
end_plain (Some Death) = refl
end_plain (Some Session) = refl

hole_plain : (h : Hole) → has_float (hole_data h) ≡ false
hole_plain h = or_false _ _ (end_plain h.end) (or_false _ _ (maybe_plain h.until) refl)

maybe_hole_plain : (h : Option Hole) → has_float (maybe_hole h) ≡ false
maybe_hole_plain None = refl
maybe_hole_plain (Some h) = hole_plain h

row_plain : (n : Node) → has_float (row_data n) ≡ false
row_plain n =
    let down = each_plain (λ d. string d.now) (λ d. refl) n.down.items in
    or_false _ _ (maybe_plain n.born_at) (or_false _ _ down (or_false _ _ (maybe_hole_plain n.hole) (or_false _ _ (maybe_plain n.used_at) refl)))

detail_plain : (w : What) → has_float (detail w) ≡ false
detail_plain Connected = refl
detail_plain Disconnected = refl
detail_plain Born = refl
detail_plain BornAgain = refl
detail_plain (Mended h) = hole_plain h
detail_plain Lost = refl
detail_plain Died = refl
detail_plain Asked = refl
detail_plain (DeviceBorn name) = refl
detail_plain (DeviceDied name) = refl
detail_plain (Refused number) = refl
detail_plain (TurnedAway code) = refl
detail_plain NotSubscribed = refl
detail_plain Ended = refl

entry_plain : (e : Entry) → has_float (entry_data e) ≡ false
entry_plain e = or_false _ _ (detail_plain e.what) (or_false _ _ (maybe_plain e.place) refl)

pub view_plain : (h : Head) (ns : List Node) (es : List Entry) (revision number : ℕ) → has_float (view_data h ns es revision number) ≡ false
view_plain h ns es revision number =
    or_false _ _ (each_plain entry_data entry_plain (entries_since number es)) (or_false _ _ (each_plain row_data row_plain (rows_since revision ns)) refl)
