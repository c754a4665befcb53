-- What is read of bytes, content by content, and why nothing else is.
use Rattle.std.proofs.Common.{◌≡◌, ℕ, zero, suc, ◌<◌, ◌≤◌, ◌^◌, min, ◌&&◌, Bool, true, false, List, [], ◌∷◌, ◌++◌, take, drop, length, refl, sym, ap, ◌∙◌, subst, append_assoc, arith}
use Rattle.std.specs.List.{fold}
use Rattle.std.proofs.lemmas.List.{append-nil}
use Rattle.std.proofs.lemmas.List.Sums.{fold-append}
use Rattle.spk_frames.specs.File.{AreSmall, AreTaken, Begins, Holds, Walk, frames_of}
use Rattle.spk_broker_events.specs.Line.{Kept, SaysLine}
use Rattle.spk_broker_events.specs.Record.{Says, most}
use Rattle.spk_broker_rules.specs.Data.{Broker}
use Rattle.spk_broker_rules.specs.Plan as plan
use Rattle.spk_broker_rules.specs.Step.{step}
use Rattle.spk_broker.specs.declared.part_fault.PartFault.{PartFault}
use Rattle.spk_broker.specs.declared.part_fault.PartFault.TheVariants.{NoMemory, Unfit}
use Rattle.spk_broker_snapshot.specs.Together.{Stand, after, apart, ended}
use Rattle.spk_broker_journal.specs.Fitting.{Came, IsSaidFit, IsSaidUnfit, IsUnfit, Item, Row, SaysItem, after_item, is_ended_fit, is_item_fit, is_line_fit, is_taken}
use Rattle.spk_broker_journal.specs.Replayed.{AreRead, AreSaid, IsReplayed, IsUnread, are_fit, first, together}

-- what no content says twice
abbrev pub OneItem : Type 0
OneItem = (c : List ℕ) (i j : Item) → SaysItem c i → SaysItem c j → i ≡ j

-- what was written is read first
abbrev pub Synced : Type 0
Synced = (m : ℕ) (contents read : List (List ℕ)) (behind rest : List ℕ) → m < 2 ^ 32 → AreSmall m contents → Holds m (frames_of contents ++ behind) read rest → Begins contents read

abbrev pub OneReading : Type 0
OneReading = (m : ℕ) (bytes rest other : List ℕ) (contents more : List (List ℕ)) → m < 2 ^ 32 → Holds m bytes contents rest → Holds m bytes more other → (contents ≡ more) × (rest ≡ other)

-- these contents were taken, they say these items, each of which fits, and this is what they put together
pub record Stands (limit : ℕ) (walk : Walk) (st : Stand) : Type 0 where
  pub contents : List (List ℕ)
  pub items : List Item
  pub taken : AreTaken walk contents
  pub said : AreSaid contents items
  pub is : st ≡ fold (after_item limit) (first limit) items
  pub fit : (more : List Item) → are_fit limit (first limit) (items ++ more) ≡ are_fit limit st more

pub none-yet : (limit : ℕ) (walk : Walk) (st : Stand) → AreTaken walk [] → st ≡ first limit → Stands limit walk st
none-yet limit walk st taken e = record { contents = []; items = []; taken = taken; said = tt; is = e; fit = λ more. ap (λ x. are_fit limit x more) (sym e) }

said-both : (cs ds : List (List ℕ)) (is js : List Item) → AreSaid cs is → AreSaid ds js → AreSaid (cs ++ ds) (is ++ js)
said-both [] ds [] js s t = t
said-both [] ds (i ∷ is) js s t = absurd s
said-both (c ∷ cs) ds [] js s t = absurd s
said-both (c ∷ cs) ds (i ∷ is) js s t = (s.0, said-both cs ds is js s.1 t)

true-and : (a b : Bool) → a ≡ true → (a && b) ≡ b
true-and true b e = refl
true-and false b e = cc

pub one-content : (limit : ℕ) (walk then : Walk) (st behind : Stand) (content : List ℕ) → Stands limit walk st
    → ((contents : List (List ℕ)) → AreTaken walk contents → AreTaken then (contents ++ content ∷ [])) → IsSaidFit limit st content behind → Stands limit then behind
one-content limit walk then st behind content s taken f = record {
  contents = s.contents ++ content ∷ [];
  items = s.items ++ f.item ∷ [];
  taken = taken s.contents s.taken;
  said = said-both s.contents (content ∷ []) s.items (f.item ∷ []) s.said (f.says, tt);
  is = f.is ∙ ap (λ x. after_item limit x f.item) s.is ∙ sym (fold-append (after_item limit) (first limit) s.items (f.item ∷ []));
  fit = λ more. ap (are_fit limit (first limit)) (append_assoc s.items (f.item ∷ []) more) ∙ s.fit (f.item ∷ more)
      ∙ true-and (is_item_fit st f.item) (are_fit limit (after_item limit st f.item) more) f.fits ∙ ap (λ x. are_fit limit x more) (sym f.is);
}

-- ---- one content

pub line-said : (limit : ℕ) (st behind : Stand) (content : List ℕ) (l : Kept) → SaysLine content l → is_line_fit st l ≡ true → behind ≡ after limit st l → IsSaidFit limit st content behind
line-said limit st behind content l says fits is = record { item = Row l; says = says; fits = fits; is = is }

pub event-said : (limit : ℕ) (st behind : Stand) (content : List ℕ) (e : plan.Event) → Says content e → is_ended_fit st ≡ true → is_taken (ended st) e ≡ true
    → behind ≡ apart (step (ended st) e).broker → IsSaidFit limit st content behind
event-said limit st behind content e says fits taken is = record {
  item = Came e;
  says = says;
  fits = true-and (is_ended_fit st) (is_taken (ended st) e) fits ∙ taken;
  is = is;
}

pub one-item : ((bytes : List ℕ) (e f : plan.Event) → Says bytes e → Says bytes f → e ≡ f) → ((bytes : List ℕ) (l m : Kept) → SaysLine bytes l → SaysLine bytes m → l ≡ m)
    → ((bytes : List ℕ) (e : plan.Event) (l : Kept) → Says bytes e → SaysLine bytes l → ⊥) → OneItem
one-item event line aside c (Row l) (Row m) s t = ap Row (line c l m s t)
one-item event line aside c (Row l) (Came e) s t = absurd (aside c e l t s)
one-item event line aside c (Came e) (Row l) s t = absurd (aside c e l s t)
one-item event line aside c (Came e) (Came f) s t = ap Came (event c e f s t)

pub small-most : most < 2 ^ 32
small-most = omega arith

pub unread-end : (limit : ℕ) (bytes : List ℕ) (fits : Bool) (fault : PartFault) → IsUnfit fits fault
    → (fits ≡ false → (items : List Item) (whole : ℕ) → AreRead bytes items whole → are_fit limit (first limit) items ≡ false) → IsUnread limit bytes fault
unread-end limit bytes fits NoMemory none f = tt
unread-end limit bytes fits Unfit none f = f none

pub unread-content : (limit : ℕ) (bytes : List ℕ) (st : Stand) (content : List ℕ) (fault : PartFault) → IsSaidUnfit st content fault
    → (((i : Item) → SaysItem content i → is_item_fit st i ≡ false) → (items : List Item) (whole : ℕ) → AreRead bytes items whole → are_fit limit (first limit) items ≡ false)
    → IsUnread limit bytes fault
unread-content limit bytes st content NoMemory none f = tt
unread-content limit bytes st content Unfit none f = f none

-- ---- at the end

whole-is : (bytes : List ℕ) (n : ℕ) (front : List ℕ) → n ≤ length bytes → take n bytes ≡ front → n ≡ length front
whole-is bytes n front few e = sym (count bytes n few) ∙ ap length e
  where
    count : (xs : List ℕ) (k : ℕ) → k ≤ length xs → length (take k xs) ≡ k
    count xs zero few = refl
    count [] (suc k) few = absurd (omega (arith, few))
    count (x ∷ xs) (suc k) few = ap suc (count xs k (omega (arith, few)))

take-least : (n : ℕ) (xs : List ℕ) → take (min n (length xs)) xs ≡ take n xs
take-least zero xs = ap (λ k. take k xs) (least-none (length xs))
  where
    least-none : (a : ℕ) → min 0 a ≡ 0
    least-none a = omega arith
take-least (suc n) [] = ap {B = List ℕ} (λ k. take k []) (none (suc n))
  where
    none : (a : ℕ) → min a 0 ≡ 0
    none a = omega arith
take-least (suc n) (x ∷ xs) = ap (λ k. take k (x ∷ xs)) (one n (length xs)) ∙ ap (λ t. x ∷ t) (take-least n xs)
  where
    one : (a b : ℕ) → min (suc a) (suc b) ≡ suc (min a b)
    one a b = omega arith

pub all-read : (limit : ℕ) (walk : Walk) (st : Stand) (b : Broker) (n : ℕ) → n ≡ min walk.whole (length walk.bytes) → walk.most ≡ most → (s : Stands limit walk st)
    → ((contents : List (List ℕ)) → AreTaken walk contents → Holds walk.most walk.bytes contents (drop walk.whole walk.bytes)) → is_ended_fit st ≡ true → b ≡ ended st
    → IsReplayed limit walk.bytes n b
all-read limit walk st b n least m s holds fits e = record {
  items = s.items;
  read = record {
    contents = s.contents;
    rest = drop walk.whole walk.bytes;
    hold = subst (λ n. Holds n walk.bytes s.contents (drop walk.whole walk.bytes)) m (holds s.contents s.taken);
    said = s.said;
    front = whole-is walk.bytes n (frames_of s.contents) (omega (arith, least)) (ap (λ k. take k walk.bytes) least ∙ take-least walk.whole walk.bytes ∙ s.taken.are);
  };
  fit = ap (are_fit limit (first limit)) (sym (append-nil s.items)) ∙ s.fit [] ∙ fits;
  is = e ∙ ap ended s.is;
}

-- ---- refusals

module _ (one : OneItem) where
  same-items : (cs : List (List ℕ)) (is js : List Item) → AreSaid cs is → AreSaid cs js → is ≡ js
  same-items [] [] [] s t = refl
  same-items [] [] (j ∷ js) s t = absurd t
  same-items [] (i ∷ is) js s t = absurd s
  same-items (c ∷ cs) [] js s t = absurd s
  same-items (c ∷ cs) (i ∷ is) [] s t = absurd t
  same-items (c ∷ cs) (i ∷ is) (j ∷ js) s t = ap (λ x. x ∷ is) (one c i j s.0 t.0) ∙ ap (λ x. j ∷ x) (same-items cs is js s.1 t.1)

  -- items that more contents say begin with those that the first ones say
  begin-items : (cs more : List (List ℕ)) (is js : List Item) → AreSaid cs is → AreSaid (cs ++ more) js → (rest : List Item) × (js ≡ is ++ rest) × AreSaid more rest
  begin-items [] more [] js s t = (js, refl, t)
  begin-items [] more (i ∷ is) js s t = absurd s
  begin-items (c ∷ cs) more [] js s t = absurd s
  begin-items (c ∷ cs) more (i ∷ is) [] s t = absurd t
  begin-items (c ∷ cs) more (i ∷ is) (j ∷ js) s t =
      let r = begin-items cs more is js s.1 t.1 in (r.0, ap (λ x. x ∷ js) (sym (one c i j s.0 t.0)) ∙ ap (λ x. i ∷ x) r.1, r.2)

  unfit-first : (limit : ℕ) (st : Stand) (content : List ℕ) (more : List (List ℕ)) (rest : List Item) → ((i : Item) → SaysItem content i → is_item_fit st i ≡ false)
      → AreSaid (content ∷ more) rest → are_fit limit st rest ≡ false
  unfit-first limit st content more [] none s = absurd s
  unfit-first limit st content more (i ∷ rest) none s = ap (λ b. b && are_fit limit (after_item limit st i) rest) (none i s.0)

  pub unfit-content : (limit : ℕ) (walk then : Walk) (st : Stand) (content : List ℕ) → Synced → most < 2 ^ 32 → then.bytes ≡ walk.bytes → then.most ≡ most → Stands limit walk st
      → ((contents : List (List ℕ)) → AreTaken walk contents → AreTaken then (contents ++ content ∷ []))
      → ((i : Item) → SaysItem content i → is_item_fit st i ≡ false)
      → (items : List Item) (whole : ℕ) → AreRead walk.bytes items whole → are_fit limit (first limit) items ≡ false
  unfit-content limit walk then st content synced small same m s taken none items whole r =
      let t = taken s.contents s.taken in
      let bytes : walk.bytes ≡ frames_of (s.contents ++ content ∷ []) ++ drop then.whole then.bytes = sym same ∙ sym (both then.whole then.bytes) ∙ ap (λ x. x ++ drop then.whole then.bytes) t.are in
      let held = subst (λ x. Holds most x r.contents r.rest) bytes r.hold in
      let fit = subst (λ n. AreSmall n (s.contents ++ content ∷ [])) m t.fit in
      let b = synced most (s.contents ++ content ∷ []) r.contents (drop then.whole then.bytes) r.rest small fit held in
      let order : r.contents ≡ s.contents ++ content ∷ b.0 = b.1 ∙ append_assoc s.contents (content ∷ []) b.0 in
      let found = begin-items s.contents (content ∷ b.0) s.items items s.said (subst (λ cs. AreSaid cs items) order r.said) in
      ap (are_fit limit (first limit)) found.1 ∙ s.fit found.0 ∙ unfit-first limit st content b.0 found.0 none found.2
    where
      both : (n : ℕ) (xs : List ℕ) → take n xs ++ drop n xs ≡ xs
      both zero xs = refl
      both (suc n) [] = refl
      both (suc n) (x ∷ xs) = ap (λ t. x ∷ t) (both n xs)

  pub unfit-end : (limit : ℕ) (walk : Walk) (st : Stand) → OneReading → most < 2 ^ 32 → walk.most ≡ most → Stands limit walk st
      → ((contents : List (List ℕ)) → AreTaken walk contents → Holds walk.most walk.bytes contents (drop walk.whole walk.bytes)) → is_ended_fit st ≡ false
      → (items : List Item) (whole : ℕ) → AreRead walk.bytes items whole → are_fit limit (first limit) items ≡ false
  unfit-end limit walk st reading small m s holds none items whole r =
      let h = subst (λ n. Holds n walk.bytes s.contents (drop walk.whole walk.bytes)) m (holds s.contents s.taken) in
      let same = reading most walk.bytes r.rest (drop walk.whole walk.bytes) r.contents s.contents small r.hold h in
      let items_same : items ≡ s.items = same-items s.contents items s.items (subst (λ cs. AreSaid cs items) same.0 r.said) s.said in
      ap (are_fit limit (first limit)) (items_same ∙ sym (append-nil s.items)) ∙ s.fit [] ∙ none
