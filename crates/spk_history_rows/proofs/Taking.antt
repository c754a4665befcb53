-- What is kept behind one more entry, and its row.
use Rattle.std.proofs.Common.{◌≡◌, ◌⊎◌, ◌∙◌, sym, ap, subst, refl, inl, inr, ℕ, ◌+◌, eqb, Bool, true, false, cond, List, [], ◌∷◌, ◌++◌, length, length-append, length-set, set, Option, Some, None}
use Rattle.std.specs.Option.{option_and_then, option_flatten, option_map}
use Rattle.std.specs.Prelude.{◌==◌, ◌&&◌, slice_get}
use Rattle.std.proofs.lemmas.Bool.{eqb-false, eqb-true}
use Rattle.spk_history.specs.Entry.{EntryData, Session, Node, Birth, Death, Gap, Hole, Message}
use Rattle.spk_history_rows.specs.Row.{NodeData, RowData, birth_of, is_birth, is_named, is_owner, last, last_birth, named_by, number_of, owner_in, row_of}
use Rattle.spk_history_rows.specs.Data.{Follows, RowsData, StandsFor, place_of}
use Rattle.spk_history_rows.specs.Keeping.{HasPlace, IsNaming, birth_at, births_with, place_in}
use Rattle.spk_history_rows.proofs.Lists.{same-some, same-names, names-itself, not-true, last-silent, last-speaks, set-there, set-other, append-sees, append-old, append-new}

-- ---- its number is named

-- an entry that names nothing
silent : (r : RowsData) (rows : List RowData) (part : List EntryData) (e : EntryData) → Follows r rows part → ((n : ℕ) → named_by n e ≡ None)
    → Follows r rows (part ++ e ∷ [])
silent r rows part e f none = record {
  count = f.count;
  owners = λ n. subst (StandsFor r n) (sym (last-silent (named_by n) part e (none n))) (f.owners n);
  births = f.births;
  apart = f.apart;
  all = f.all;
  even = f.even;
}

abbrev with_names : RowsData → List NodeData → List (Option ℕ) → RowsData
with_names r names births = record r { names = names; births = births }

abbrev with_number : RowsData → ℕ → ℕ → RowsData
with_number r n i = record r { numbers = r.numbers ++ record { number = n; place = i } ∷ [] }

-- a node has its place
placed : (r : RowsData) (names : List NodeData) (births : List (Option ℕ)) (rows : List RowData) (part : List EntryData) (a : NodeData) (i : ℕ)
    → Follows r rows part → HasPlace r.names r.births a i names births → Follows (with_names r names births) rows part × (slice_get names i ≡ Some a)
placed r names births rows part a i f (inl (same, too, at)) = (
  subst (λ ns. Follows (with_names r ns births) rows part) (sym same) (subst (λ bs. Follows (with_names r r.names bs) rows part) (sym too) f),
  subst (λ ns. slice_get ns i ≡ Some a) (sym same) at,
)
placed r names births rows part a i f (inr (same, too, new, absent)) = (
  subst (λ ns. Follows (with_names r ns births) rows part) (sym same) (subst (λ bs. Follows (with_names r (r.names ++ a ∷ []) bs) rows part) (sym too) more),
  subst (λ ns. slice_get ns i ≡ Some a) (sym same) (subst (λ k. slice_get (r.names ++ a ∷ []) k ≡ Some a) (sym new) (append-new r.names a)),
)
  where
    owner : (n : ℕ) (o : Option NodeData) → StandsFor r n o → StandsFor (record r { names = r.names ++ a ∷ []; births = r.births ++ None ∷ [] }) n o
    owner n None h = h
    owner n (Some b) (k, is, at) = (k, is, append-old r.names a k b at)

    born : (k : ℕ) (b : NodeData) → ((k ≡ length r.names) × (b ≡ a)) ⊎ (slice_get r.names k ≡ Some b)
        → slice_get (r.births ++ None ∷ []) k ≡ Some (last (birth_of b) rows)
    born k b (inl (e, is)) =
        subst (λ n. slice_get (r.births ++ None ∷ []) n ≡ Some (last (birth_of b) rows)) (f.even ∙ sym e)
        (append-new r.births None ∙ ap Some (sym (ap (λ c. last (birth_of c) rows) is ∙ f.all a absent)))
    born k b (inr at) = append-old r.births None k (last (birth_of b) rows) (f.births k b at)

    one : (k j : ℕ) (b : NodeData) → ((k ≡ length r.names) × (b ≡ a)) ⊎ (slice_get r.names k ≡ Some b)
        → ((j ≡ length r.names) × (b ≡ a)) ⊎ (slice_get r.names j ≡ Some b) → k ≡ j
    one k j b (inl (e, is)) (inl (d, too)) = e ∙ sym d
    one k j b (inl (e, is)) (inr at) = absurd (absent j (at ∙ ap Some is))
    one k j b (inr at) (inl (d, too)) = absurd (absent k (at ∙ ap Some too))
    one k j b (inr at) (inr there) = f.apart k j b at there

    more : Follows (record r { names = r.names ++ a ∷ []; births = r.births ++ None ∷ [] }) rows part
    more = record {
      count = f.count;
      owners = λ n. owner n (last (named_by n) part) (f.owners n);
      births = λ k b at. born k b (append-sees r.names a k b at);
      apart = λ k j b at there. one k j b (append-sees r.names a k b at) (append-sees r.names a j b there);
      all = λ b none. f.all b (λ k at. none k (append-old r.names a k b at));
      even = length-append r.births (None ∷ []) ∙ ap (λ n. n + 1) f.even ∙ sym (length-append r.names (a ∷ []));
    }

-- its number stands for it
numbered : (r : RowsData) (rows : List RowData) (part : List EntryData) (node : ℕ) (group name : List ℕ) (i : ℕ) → Follows r rows part
    → slice_get r.names i ≡ Some (record { group = group; name = name }) → Follows (with_number r node i) rows (part ++ Node node group name ∷ [])
numbered r rows part node group name i f at = record {
  count = f.count;
  owners = λ n. by n (node == n) refl;
  births = f.births;
  apart = f.apart;
  all = f.all;
  even = f.even;
}
  where
    by : (n : ℕ) (b : Bool) → (node == n) ≡ b → StandsFor (with_number r node i) n (last (named_by n) (part ++ Node node group name ∷ []))
    by n true e =
        subst (StandsFor (with_number r node i) n)
        (sym (last-speaks (named_by n) part (Node node group name) (record { group = group; name = name })
        (ap (λ b. cond b (Some (let x : NodeData = record { group = group; name = name } in x)) None) e)))
        (i, last-speaks (place_of n) r.numbers (record { number = node; place = i }) i (ap (λ b. cond b (Some i) None) e), at)
    by n false e =
        subst (StandsFor (with_number r node i) n)
        (sym (last-silent (named_by n) part (Node node group name) (ap (λ b. cond b (Some (let x : NodeData = record { group = group; name = name } in x)) None) e)))
        (kept (last (named_by n) part) (f.owners n))
      where
        still : last (place_of n) (r.numbers ++ record { number = node; place = i } ∷ []) ≡ last (place_of n) r.numbers
        still = last-silent (place_of n) r.numbers (record { number = node; place = i }) (ap (λ b. cond b (Some i) None) e)

        kept : (o : Option NodeData) → StandsFor r n o → StandsFor (with_number r node i) n o
        kept None h = still ∙ h
        kept (Some b) (k, is, there) = (k, still ∙ is, there)

pub named : (r q : RowsData) (rows : List RowData) (part : List EntryData) (e : EntryData) → Follows r rows part → IsNaming r e q → Follows q rows (part ++ e ∷ [])
named r q rows part (Session at what) f same = subst (λ x. Follows x rows (part ++ Session at what ∷ [])) (sym same) (silent r rows part (Session at what) f (λ n. refl))
named r q rows part (Node node group name) f (i, place, number, count) =
    let p = placed r q.names q.births rows part (record { group = group; name = name }) i f place in
    subst (λ ns. Follows (record q { numbers = ns }) rows (part ++ Node node group name ∷ [])) (sym number)
    (subst (λ n. Follows (record q { numbers = r.numbers ++ record { number = node; place = i } ∷ []; count = n }) rows (part ++ Node node group name ∷ [])) (sym count)
    (numbered (with_names r q.names q.births) rows part node group name i p.0 p.1))
named r q rows part (Birth at node stamp bd payload) f same =
    subst (λ x. Follows x rows (part ++ Birth at node stamp bd payload ∷ [])) (sym same) (silent r rows part (Birth at node stamp bd payload) f (λ n. refl))
named r q rows part (Death at node bd) f same = subst (λ x. Follows x rows (part ++ Death at node bd ∷ [])) (sym same) (silent r rows part (Death at node bd) f (λ n. refl))
named r q rows part (Gap at node awaited missing) f same =
    subst (λ x. Follows x rows (part ++ Gap at node awaited missing ∷ [])) (sym same) (silent r rows part (Gap at node awaited missing) f (λ n. refl))
named r q rows part (Hole node from to missing unused ended_by) f same =
    subst (λ x. Follows x rows (part ++ Hole node from to missing unused ended_by ∷ [])) (sym same)
    (silent r rows part (Hole node from to missing unused ended_by) f (λ n. refl))
named r q rows part (Message at node kind seq payload) f same =
    subst (λ x. Follows x rows (part ++ Message at node kind seq payload ∷ [])) (sym same) (silent r rows part (Message at node kind seq payload) f (λ n. refl))

-- ---- whose it is

pub owned : (q : RowsData) (rows : List RowData) (part : List EntryData) (o : Option ℕ) → Follows q rows part
    → option_and_then (slice_get q.names) (place_in q o) ≡ option_and_then (λ n. last (named_by n) part) o
owned q rows part None f = refl
owned q rows part (Some n) f = by (last (named_by n) part) (f.owners n)
  where
    by : (a : Option NodeData) → StandsFor q n a → option_and_then (slice_get q.names) (last (place_of n) q.numbers) ≡ a
    by None h = ap (option_and_then (slice_get q.names)) h
    by (Some a) (i, is, at) = ap (option_and_then (slice_get q.names)) is ∙ at

-- the last birth of the node at its place
pub birth_there : (q : RowsData) (rows : List RowData) (part : List EntryData) (o : Option ℕ) → Follows q rows part
    → birth_at q.births (place_in q o) ≡ last_birth rows (option_and_then (λ n. last (named_by n) part) o)
birth_there q rows part None f = refl
birth_there q rows part (Some n) f = by (last (named_by n) part) (f.owners n)
  where
    by : (a : Option NodeData) → StandsFor q n a → birth_at q.births (last (place_of n) q.numbers) ≡ last_birth rows a
    by None h = ap (birth_at q.births) h
    by (Some a) (i, is, at) = ap (birth_at q.births) is ∙ ap option_flatten (f.births i a at)

-- ---- its node is born

longer : (rows : List RowData) (row : RowData) (n : ℕ) → n ≡ length rows → n + 1 ≡ length (rows ++ row ∷ [])
longer rows row n e = ap (λ k. k + 1) e ∙ sym (length-append rows (row ∷ []))

-- a row that is no birth
quiet : (q : RowsData) (rows : List RowData) (part : List EntryData) (row : RowData) → Follows q rows part → ((a : NodeData) → birth_of a row ≡ None)
    → Follows (record q { count = q.count + 1 }) (rows ++ row ∷ []) part
quiet q rows part row f none = record {
  count = longer rows row q.count f.count;
  owners = f.owners;
  births = λ i a at. f.births i a at ∙ ap Some (sym (last-silent (birth_of a) rows row (none a)));
  apart = f.apart;
  all = λ a absent. last-silent (birth_of a) rows row (none a) ∙ f.all a absent;
  even = f.even;
}

-- a birth of the node at a place
loud : (q : RowsData) (rows : List RowData) (part : List EntryData) (row : RowData) (i : ℕ) (a : NodeData) → Follows q rows part → slice_get q.names i ≡ Some a
    → is_birth row.entry ≡ true → row.owner ≡ Some a → row.place ≡ q.count
    → Follows (record q { births = set q.births i (Some q.count); count = q.count + 1 }) (rows ++ row ∷ []) part
loud q rows part row i a f at birth owner place = record {
  count = longer rows row q.count f.count;
  owners = f.owners;
  births = by;
  apart = f.apart;
  all = λ b absent. last-silent (birth_of b) rows row (other b (λ e. absent i (at ∙ ap Some e))) ∙ f.all b absent;
  even = length-set q.births i (Some q.count) ∙ f.even;
}
  where
    picks : (b : NodeData) (c : Bool) → is_named b a ≡ c → birth_of b row ≡ cond c (Some row.place) None
    picks b c e =
        ap (λ t. cond (t && is_owner b row.owner) (Some row.place) None) birth
        ∙ ap (λ o. cond (is_owner b o) (Some row.place) None) owner
        ∙ ap (λ t. cond t (Some row.place) None) e

    other : (b : NodeData) → (a ≡ b → ⊥) → birth_of b row ≡ None
    other b off = picks b false (not-true (is_named b a) (λ e. off (sym (same-names b a e))))

    mine : birth_of a row ≡ Some q.count
    mine = picks a true (names-itself a a refl) ∙ ap Some place

    by : (k : ℕ) (b : NodeData) → slice_get q.names k ≡ Some b
        → slice_get (set q.births i (Some q.count)) k ≡ Some (last (birth_of b) (rows ++ row ∷ []))
    by k b there = cases (eqb k i) refl
      where
        cases : (t : Bool) → eqb k i ≡ t → slice_get (set q.births i (Some q.count)) k ≡ Some (last (birth_of b) (rows ++ row ∷ []))
        cases true e =
            let same : k ≡ i = eqb-true k i e in
            let is : b ≡ a = same-some (sym there ∙ ap (slice_get q.names) same ∙ at) in
            ap (slice_get (set q.births i (Some q.count))) same
            ∙ set-there q.births i (Some q.count) (last (birth_of a) rows) (f.births i a at)
            ∙ ap Some (sym (ap (λ c. last (birth_of c) (rows ++ row ∷ [])) is ∙ last-speaks (birth_of a) rows row q.count mine))
        cases false e =
            let off : k ≡ i → ⊥ = eqb-false k i e in
            set-other q.births i (Some q.count) k off
            ∙ f.births k b there
            ∙ ap Some (sym (last-silent (birth_of b) rows row (other b (λ is. off (f.apart k i b there (at ∙ ap Some is))))))

-- ---- one more entry

-- what is kept behind it
abbrev kept : RowsData → EntryData → RowsData
kept q e = record q { births = births_with (is_birth e) (place_in q (number_of e)) q.count q.births; count = q.count + 1 }

-- its row, as it is given
abbrev given : RowsData → EntryData → RowData
given q e = record {
  place = q.count;
  owner = option_and_then (slice_get q.names) (place_in q (number_of e));
  birth = birth_at (births_with (is_birth e) (place_in q (number_of e)) q.count q.births) (place_in q (number_of e));
  entry = e;
}

same_row : (place other : ℕ) (owner node : Option NodeData) (birth bore : Option ℕ) (e : EntryData) → place ≡ other → owner ≡ node → birth ≡ bore
    → (let x : RowData = record { place = place; owner = owner; birth = birth; entry = e } in x)
    ≡ (let y : RowData = record { place = other; owner = node; birth = bore; entry = e } in y)
same_row place other owner node birth bore e p o b =
    ap (λ n. let x : RowData = record { place = n; owner = owner; birth = birth; entry = e } in x) p
    ∙ ap (λ n. let x : RowData = record { place = other; owner = n; birth = birth; entry = e } in x) o
    ∙ ap (λ n. let x : RowData = record { place = other; owner = node; birth = n; entry = e } in x) b

abbrev Taken : RowsData → List RowData → List EntryData → EntryData → Type 0
Taken q rows part e = Follows (kept q e) (rows ++ row_of rows part e ∷ []) (part ++ e ∷ []) × (given q e ≡ row_of rows part e)

-- no birth
plain : (q : RowsData) (rows : List RowData) (part : List EntryData) (e : EntryData) → Follows q rows (part ++ e ∷ []) → is_birth e ≡ false → Taken q rows part e
plain q rows part e f off =
    let node = place_in q (number_of e) in
    let still : births_with (is_birth e) (place_in q (number_of e)) q.count q.births ≡ q.births = ap (λ b. births_with b (place_in q (number_of e)) q.count q.births) off in (
      subst (λ births. Follows (record q { births = births; count = q.count + 1 }) (rows ++ row_of rows part e ∷ []) (part ++ e ∷ [])) (sym still)
          (quiet q rows (part ++ e ∷ []) (row_of rows part e) f (λ a. ap (λ b. cond (b && is_owner a (owner_in part e)) (Some (length rows)) None) off)),
      same_row q.count (length rows) (option_and_then (slice_get q.names) (place_in q (number_of e))) (owner_in part e)
          (birth_at (births_with (is_birth e) (place_in q (number_of e)) q.count q.births) (place_in q (number_of e))) (row_of rows part e).birth e f.count
          (owned q rows (part ++ e ∷ []) (number_of e) f)
          (ap (λ births. birth_at births (place_in q (number_of e))) still
          ∙ birth_there q rows (part ++ e ∷ []) (number_of e) f
          ∙ sym (ap (λ b. cond b (option_map (λ _. length rows) (owner_in part e)) (last_birth rows (owner_in part e))) off)),
    )

-- a birth of a node with a number
bearing : (q : RowsData) (rows : List RowData) (part : List EntryData) (e : EntryData) (n : ℕ) → Follows q rows (part ++ e ∷ []) → is_birth e ≡ true
    → number_of e ≡ Some n → Taken q rows part e
bearing q rows part e n f born number = by (last (named_by n) (part ++ e ∷ [])) refl (f.owners n)
  where
    owner : owner_in part e ≡ last (named_by n) (part ++ e ∷ [])
    owner = ap (option_and_then (λ k. last (named_by k) (part ++ e ∷ []))) number

    node : place_in q (number_of e) ≡ last (place_of n) q.numbers
    node = ap (place_in q) number

    births : (o : Option ℕ) → place_in q (number_of e) ≡ o → births_with (is_birth e) (place_in q (number_of e)) q.count q.births ≡ births_with true o q.count q.births
    births o is = ap (λ b. births_with b (place_in q (number_of e)) q.count q.births) born ∙ ap (λ p. births_with true p q.count q.births) is

    mine : (o : Option NodeData) → owner_in part e ≡ o → (row_of rows part e).birth ≡ option_map (λ _. length rows) o
    mine o is =
        ap (λ b. cond b (option_map (λ _. length rows) (owner_in part e)) (last_birth rows (owner_in part e))) born
        ∙ ap (option_map (λ _. length rows)) is

    by : (o : Option NodeData) → last (named_by n) (part ++ e ∷ []) ≡ o → StandsFor q n o → Taken q rows part e
    by None none h =
        let lost : place_in q (number_of e) ≡ None = node ∙ h in
        let still : births_with (is_birth e) (place_in q (number_of e)) q.count q.births ≡ q.births = births None lost in (
          subst (λ bs. Follows (record q { births = bs; count = q.count + 1 }) (rows ++ row_of rows part e ∷ []) (part ++ e ∷ [])) (sym still)
              (quiet q rows (part ++ e ∷ []) (row_of rows part e) f
              (λ a. ap (λ b. cond (b && is_owner a (owner_in part e)) (Some (length rows)) None) born
              ∙ ap (λ o. cond (is_owner a o) (Some (length rows)) None) (owner ∙ none))),
          same_row q.count (length rows) (option_and_then (slice_get q.names) (place_in q (number_of e))) (owner_in part e)
              (birth_at (births_with (is_birth e) (place_in q (number_of e)) q.count q.births) (place_in q (number_of e))) (row_of rows part e).birth e f.count
              (owned q rows (part ++ e ∷ []) (number_of e) f)
              (ap (birth_at (births_with (is_birth e) (place_in q (number_of e)) q.count q.births)) lost ∙ sym (mine None (owner ∙ none))),
        )
    by (Some a) some (i, is, at) =
        let found : place_in q (number_of e) ≡ Some i = node ∙ is in
        let set_is : births_with (is_birth e) (place_in q (number_of e)) q.count q.births ≡ set q.births i (Some q.count) = births (Some i) found in (
          subst (λ bs. Follows (record q { births = bs; count = q.count + 1 }) (rows ++ row_of rows part e ∷ []) (part ++ e ∷ [])) (sym set_is)
              (loud q rows (part ++ e ∷ []) (row_of rows part e) i a f at born (owner ∙ some) (sym f.count)),
          same_row q.count (length rows) (option_and_then (slice_get q.names) (place_in q (number_of e))) (owner_in part e)
              (birth_at (births_with (is_birth e) (place_in q (number_of e)) q.count q.births) (place_in q (number_of e))) (row_of rows part e).birth e f.count
              (owned q rows (part ++ e ∷ []) (number_of e) f)
              (ap (birth_at (births_with (is_birth e) (place_in q (number_of e)) q.count q.births)) found
              ∙ ap (λ bs. birth_at bs (Some i)) set_is
              ∙ ap option_flatten (set-there q.births i (Some q.count) (last (birth_of a) rows) (f.births i a at))
              ∙ ap Some f.count
              ∙ sym (mine (Some a) (owner ∙ some))),
        )

pub taken : (r q : RowsData) (rows : List RowData) (part : List EntryData) (e : EntryData) → IsNaming r e q → Follows r rows part → Taken q rows part e
taken r q rows part (Session at what) is f = plain q rows part (Session at what) (named r q rows part (Session at what) f is) refl
taken r q rows part (Node node group name) is f = plain q rows part (Node node group name) (named r q rows part (Node node group name) f is) refl
taken r q rows part (Birth at node stamp bd payload) is f =
    bearing q rows part (Birth at node stamp bd payload) node (named r q rows part (Birth at node stamp bd payload) f is) refl refl
taken r q rows part (Death at node bd) is f = plain q rows part (Death at node bd) (named r q rows part (Death at node bd) f is) refl
taken r q rows part (Gap at node awaited missing) is f = plain q rows part (Gap at node awaited missing) (named r q rows part (Gap at node awaited missing) f is) refl
taken r q rows part (Hole node from to missing unused ended_by) is f =
    plain q rows part (Hole node from to missing unused ended_by) (named r q rows part (Hole node from to missing unused ended_by) f is) refl
taken r q rows part (Message at node kind seq payload) is f =
    plain q rows part (Message at node kind seq payload) (named r q rows part (Message at node kind seq payload) f is) refl

-- the count isn't changed by a name
pub same_count : (r q : RowsData) (e : EntryData) → IsNaming r e q → q.count ≡ r.count
same_count r q (Session at what) is = ap (λ (x : RowsData). x.count) is
same_count r q (Node node group name) (i, place, number, count) = count
same_count r q (Birth at node stamp bd payload) is = ap (λ (x : RowsData). x.count) is
same_count r q (Death at node bd) is = ap (λ (x : RowsData). x.count) is
same_count r q (Gap at node awaited missing) is = ap (λ (x : RowsData). x.count) is
same_count r q (Hole node from to missing unused ended_by) is = ap (λ (x : RowsData). x.count) is
same_count r q (Message at node kind seq payload) is = ap (λ (x : RowsData). x.count) is

-- a part begins
pub begun : (r : RowsData) (rows : List RowData) (part : List EntryData) → Follows r rows part → Follows (record r { numbers = [] }) rows []
begun r rows part f = record { count = f.count; owners = λ n. refl; births = f.births; apart = f.apart; all = f.all; even = f.even }

-- ---- as the code has it

-- what the steps of `Rows::take` said
pub record Steps (r q b : RowsData) (e : EntryData) (node bore : Option ℕ) : Type 0 where
  pub naming : IsNaming r e q
  pub place : node ≡ place_in q (number_of e)
  pub births : b ≡ record q { births = births_with (is_birth e) node q.count q.births }
  pub birth : bore ≡ birth_at b.births node

pub row_is : (r q b : RowsData) (e : EntryData) (node birth : Option ℕ) (rows : List RowData) (part : List EntryData) → Steps r q b e node birth → Follows r rows part
    → (let x : RowData = record { place = r.count; owner = option_and_then (slice_get b.names) node; birth = birth; entry = e } in x) ≡ row_of rows part e
row_is r q b e node birth rows part s f =
    same_row r.count q.count (option_and_then (slice_get b.names) node) (option_and_then (slice_get q.names) (place_in q (number_of e))) birth (given q e).birth e
    (sym (same_count r q e s.naming))
    (ap (λ (x : RowsData). option_and_then (slice_get x.names) node) s.births ∙ ap (option_and_then (slice_get q.names)) s.place)
    (s.birth
    ∙ ap (λ (x : RowsData). birth_at x.births node) s.births
    ∙ ap (λ n. birth_at (births_with (is_birth e) n q.count q.births) n) s.place)
    ∙ (taken r q rows part e s.naming f).1

pub follows_is : (r q b : RowsData) (e : EntryData) (node birth : Option ℕ) (rows : List RowData) (part : List EntryData) → Steps r q b e node birth
    → Follows r rows part → Follows (record b { count = r.count + 1 }) (rows ++ row_of rows part e ∷ []) (part ++ e ∷ [])
follows_is r q b e at birth rows part s f =
    subst (λ (x : RowsData). Follows (record x { count = r.count + 1 }) (rows ++ row_of rows part e ∷ []) (part ++ e ∷ []))
    (ap (λ n. let x : RowsData = record q { births = births_with (is_birth e) n q.count q.births } in x) (sym s.place) ∙ sym s.births)
    (subst (λ n. Follows (record q { births = births_with (is_birth e) (place_in q (number_of e)) q.count q.births; count = n + 1 }) (rows ++ row_of rows part e ∷ [])
    (part ++ e ∷ [])) (same_count r q e s.naming) (taken r q rows part e s.naming f).0)
