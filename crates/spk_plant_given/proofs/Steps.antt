-- What is kept, item by item.
use Rattle.std.proofs.Common.{◌≡◌, ◌∙◌, sym, ap, subst, ℕ, zero, suc, ◌+◌, ◌-◌, ◌<◌, ◌≤◌, Bool, List, [], ◌∷◌, ◌++◌, length, map, reverse, take, get_or, min, append_assoc, append-nil, Option, Some, arith}
use Rattle.std.specs.List.{range_with_len, slice_get}
use Rattle.std.specs.Option.{option_map_or}
use Rattle.std.proofs.lemmas.List.{length-map, length-reverse, length-take-le, map-append, reverse-append}
use Rattle.spk_sequence.specs.HostRecord.{Input, MessageComes, DeathComes}
use Rattle.spk_ingress.specs.declared.rule.Message.{Message}
use Rattle.spk_reading.specs.Data.{HeardData}
use Rattle.spk_plant_host.specs.Told.{heard_in, told_in}
use Rattle.spk_plant_host.specs.declared.ends.Given.{Given}
use Rattle.spk_plant_relay.specs.Topics.{is_numbered_topic}
use Rattle.spk_plant_given.specs.Handed.{AreHanded, IsNext, consumed_in, consumed_with, count_at, frames_before, handed_in, handed_view}
use Rattle.spk_plant_given.specs.Numbered.{AreNumbered, IsCount}
use Rattle.spk_plant_given.specs.Part.{part_of}
use Rattle.spk_plant_given.specs.Steps.{Follows}
use Rattle.spk_plant_given.specs.declared.book.Book.{Book}
use Rattle.spk_plant_given.specs.declared.handed.Handed.{Handed}
use Rattle.spk_plant_given.specs.declared.handed.Handed.TheVariants as handed
use Rattle.spk_plant_given.specs.declared.part.Part.TheVariants as part
use Rattle.spk_plant_given.proofs.Counting.{count-there}

-- ---- one more

same-some : {X : Type 0} (x y : X) → Some x ≡ Some y → x ≡ y
same-some x y e = cc

take-more : {X : Type 0} (xs : List X) (i : ℕ) (x : X) → slice_get xs i ≡ Some x → take (suc i) xs ≡ take i xs ++ x ∷ []
take-more [] i x is = absurd (cc)
take-more (y ∷ xs) zero x is = ap (λ z. z ∷ []) (same-some y x is)
take-more (y ∷ xs) (suc i) x is = ap (λ l. y ∷ l) (take-more xs i x is)

-- the first elements and one more
pub first-more : {X : Type 0} (xs : List X) (i : ℕ) (x : X) → slice_get xs i ≡ Some x → take (i + 1) xs ≡ take i xs ++ x ∷ []
first-more xs i x is = let e : i + 1 ≡ suc i = omega arith in ap (λ n. take n xs) e ∙ take-more xs i x is

pub get-below : {X : Type 0} (xs : List X) (i : ℕ) (x : X) → slice_get xs i ≡ Some x → i < length xs
get-below [] i x is = absurd (cc)
get-below (y ∷ xs) zero x is = omega arith
get-below (y ∷ xs) (suc i) x is = let low = get-below xs i x is in omega (arith, low)

told-more : (xs : List Given) (g : Given) → told_in (xs ++ g ∷ []) ≡ heard_in g ∷ told_in xs
told-more xs g = ap reverse (map-append heard_in xs (g ∷ [])) ∙ reverse-append (map heard_in xs) (heard_in g ∷ [])

handed-more : (hs : List Handed) (h : Handed) → handed_in (hs ++ h ∷ []) ≡ handed_view h ∷ handed_in hs
handed-more hs h = ap reverse (map-append handed_view hs (h ∷ [])) ∙ reverse-append (map handed_view hs) (handed_view h ∷ [])

consumed-more : (given : List Given) (hs : List Handed) (h : Handed) → consumed_in given (hs ++ h ∷ []) ≡ consumed_in given hs ++ consumed_with given (handed_view h)
consumed-more given [] h = append-nil (consumed_with given (handed_view h))
consumed-more given (x ∷ hs) h =
    ap (λ l. consumed_with given (handed_view x) ++ l) (consumed-more given hs h)
    ∙ sym (append_assoc (consumed_with given (handed_view x)) (consumed_in given hs) (consumed_with given (handed_view h)))

told-size : (given : List Given) (place : ℕ) → place ≤ length given → length (told_in (take place given)) ≡ place
told-size given place low = length-reverse (map heard_in (take place given)) ∙ (length-map (take place given) heard_in ∙ length-take-le place given low)

pub range-more : (first n : ℕ) → range_with_len first (n + 1) ≡ range_with_len first n ++ (first + n) ∷ []
range-more first zero = let e : first ≡ first + 0 = omega arith in ap (λ i. i ∷ []) e
range-more first (suc n) =
    let more : suc n + 1 ≡ suc (n + 1) = omega arith in
    let last : first + 1 + n ≡ first + suc n = omega arith in
    ap (range_with_len first) more ∙ (ap (λ l. first ∷ l) (range-more (first + 1) n) ∙ ap (λ i. first ∷ (range_with_len (first + 1) n ++ i ∷ [])) last)

-- ---- one item

message-next : (on : List ℕ → Bool) (k : ℕ) (group name : List ℕ) (taken : List Message) (accepted : List ℕ) (told : List (Option HeardData)) (es : List Input) (t : Option HeardData) (place n : ℕ) →
    length told ≡ place → part_of group name t ≡ part.Message → AreNumbered on k (frames_before taken accepted place) n → AreHanded on k group name taken accepted told es →
    AreHanded on k group name taken accepted (t ∷ told) (MessageComes (n - 1) (place + 1) ∷ es)
message-next on k group name taken accepted told es t place n size is numbered x =
    subst (λ q. IsNext on k q (frames_before taken accepted (length told)) (length told + 1) (AreHanded on k group name taken accepted told) (MessageComes (n - 1) (place + 1) ∷ es)) (sym is)
    ((n, subst (λ i. AreNumbered on k (frames_before taken accepted i) n) (sym size) numbered, ap (λ i. MessageComes (n - 1) (i + 1)) (sym size)), x)

death-next : (on : List ℕ → Bool) (k : ℕ) (group name : List ℕ) (taken : List Message) (accepted : List ℕ) (told : List (Option HeardData)) (es : List Input) (t : Option HeardData) (place bd : ℕ) →
    length told ≡ place → part_of group name t ≡ part.Death bd → AreHanded on k group name taken accepted told es →
    AreHanded on k group name taken accepted (t ∷ told) (DeathComes bd (place + 1) ∷ es)
death-next on k group name taken accepted told es t place bd size is x =
    subst (λ q. IsNext on k q (frames_before taken accepted (length told)) (length told + 1) (AreHanded on k group name taken accepted told) (DeathComes bd (place + 1) ∷ es)) (sym is)
    (ap (λ i. DeathComes bd (i + 1)) (sym size), x)

other-next : (on : List ℕ → Bool) (k : ℕ) (group name : List ℕ) (taken : List Message) (accepted : List ℕ) (told : List (Option HeardData)) (es : List Input) (t : Option HeardData) →
    part_of group name t ≡ part.Nothing → AreHanded on k group name taken accepted told es → AreHanded on k group name taken accepted (t ∷ told) es
other-next on k group name taken accepted told es t is x =
    subst (λ q. IsNext on k q (frames_before taken accepted (length told)) (length told + 1) (AreHanded on k group name taken accepted told) es) (sym is) x

-- ---- the book

pub follows-message : (group name : List ℕ) (k : ℕ) (taken : List Message) (accepted : List ℕ) (given : List Given) (place : ℕ) (b new : Book) (g : Given) →
    slice_get given place ≡ Some g → part_of group name (heard_in g) ≡ part.Message →
    Follows group name k taken accepted given place b → IsCount (is_numbered_topic group name) k taken new.count → new.count.frames ≡ min (get_or accepted place 0) (length taken) →
    new.given.items ≡ b.given.items ++ handed.Message (new.count.numbered - 1) (place + 1) ∷ [] →
    new.consumed.items ≡ b.consumed.items ++ range_with_len (new.count.numbered - 1) (length g.consumed.items) →
    Follows group name k taken accepted given (place + 1) new
follows-message group name k taken accepted given place b new g there is x count frames hs ps =
    let below = get-below given place g there in
    let more = first-more given place g there in
    let on = is_numbered_topic group name in
    let n = new.count.numbered in
    let told = told_in (take place given) in
    let size = told-size given place (omega (arith, below)) in
    let here : place + 1 - 1 ≡ place = omega arith in
    let counted : count_at given (place + 1) ≡ length g.consumed.items =
    ap (λ i. option_map_or (λ (y : Given). length y.consumed.items) (slice_get given i) 0) here ∙ ap (λ o. option_map_or (λ (y : Given). length y.consumed.items) o 0) there in
    record {
      handed = subst (λ l. AreHanded on k group name taken accepted l (handed_in new.given.items)) (sym (ap told_in more ∙ told-more (take place given) g))
          (subst (λ l. AreHanded on k group name taken accepted (heard_in g ∷ told) l)
          (sym (ap handed_in hs ∙ handed-more b.given.items (handed.Message (n - 1) (place + 1))))
          (message-next on k group name taken accepted told (handed_in b.given.items) (heard_in g) place n size is (count-there on k taken new.count (get_or accepted place 0) frames count) x.handed));
      consumed = ps
          ∙ (ap (λ l. l ++ range_with_len (n - 1) (length g.consumed.items)) x.consumed
          ∙ (ap (λ c. consumed_in given b.given.items ++ range_with_len (n - 1) c) (sym counted)
          ∙ sym (ap (consumed_in given) hs ∙ consumed-more given b.given.items (handed.Message (n - 1) (place + 1)))));
      counted = count;
    }

pub follows-death : (group name : List ℕ) (k : ℕ) (taken : List Message) (accepted : List ℕ) (given : List Given) (place bd : ℕ) (b new : Book) (g : Given) →
    slice_get given place ≡ Some g → part_of group name (heard_in g) ≡ part.Death bd →
    Follows group name k taken accepted given place b → new.given.items ≡ b.given.items ++ handed.Death bd (place + 1) ∷ [] →
    new.consumed.items ≡ b.consumed.items → new.count ≡ b.count → Follows group name k taken accepted given (place + 1) new
follows-death group name k taken accepted given place bd b new g there is x hs ps count =
    let below = get-below given place g there in
    let more = first-more given place g there in
    let on = is_numbered_topic group name in
    let told = told_in (take place given) in
    let size = told-size given place (omega (arith, below)) in
    record {
      handed = subst (λ l. AreHanded on k group name taken accepted l (handed_in new.given.items)) (sym (ap told_in more ∙ told-more (take place given) g))
          (subst (λ l. AreHanded on k group name taken accepted (heard_in g ∷ told) l)
          (sym (ap handed_in hs ∙ handed-more b.given.items (handed.Death bd (place + 1))))
          (death-next on k group name taken accepted told (handed_in b.given.items) (heard_in g) place bd size is x.handed));
      consumed = ps
          ∙ (x.consumed ∙ sym (ap (consumed_in given) hs ∙ (consumed-more given b.given.items (handed.Death bd (place + 1)) ∙ append-nil (consumed_in given b.given.items))));
      counted = subst (IsCount on k taken) (sym count) x.counted;
    }

pub follows-other : (group name : List ℕ) (k : ℕ) (taken : List Message) (accepted : List ℕ) (given : List Given) (place : ℕ) (b : Book) (g : Given) →
    slice_get given place ≡ Some g → part_of group name (heard_in g) ≡ part.Nothing →
    Follows group name k taken accepted given place b → Follows group name k taken accepted given (place + 1) b
follows-other group name k taken accepted given place b g there is x = record {
  handed = subst (λ l. AreHanded (is_numbered_topic group name) k group name taken accepted l (handed_in b.given.items)) (sym (ap told_in (first-more given place g there) ∙ told-more (take place given) g))
      (other-next (is_numbered_topic group name) k group name taken accepted (told_in (take place given)) (handed_in b.given.items) (heard_in g) is x.handed);
  consumed = x.consumed;
  counted = x.counted;
}
