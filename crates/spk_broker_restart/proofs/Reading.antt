-- What is read of a front of a journal.
use Rattle.std.proofs.Common.{◌≡◌, ℕ, ◌≤◌, ◌<◌, ◌^◌, List, [], ◌∷◌, ◌++◌, map, length, refl, sym, ap, ap₂, ◌∙◌, subst, append_assoc, arith, Option, Some, None}
use Rattle.std.specs.List.{AllByRecursion}
use Rattle.std.proofs.lemmas.List.{length-append}
use Rattle.spk_packets.specs.Fault.{number_of}
use Rattle.spk_packets.specs.Message.{Message}
use Rattle.spk_frames.specs.Numbers.{eight}
use Rattle.spk_frames.proofs.Lengths.{length-eight}
use Rattle.spk_frames.specs.Frame.{framed}
use Rattle.spk_frames.specs.File.{AreSmall, Begins, Holds, frames_of}
use Rattle.spk_broker_rules.specs.Data.{Broker}
use Rattle.spk_broker_rules.specs.Lawful.{IsLawful}
use Rattle.spk_broker_rules.specs.Plan as plan
use Rattle.spk_broker_rules.specs.Plan.{Event}
use Rattle.spk_broker_rules.specs.Step.{step}
use Rattle.spk_broker_replay.specs.Replay.{journal, notes, run}
use Rattle.spk_broker_events.specs.Line.{IsText, Kept, SaysLine, kind_code, line_content, line_front, line_record}
use Rattle.spk_broker_events.specs.Record.{Says, Spelled, content, front, most, record_of}
use Rattle.spk_broker_notes.specs.Noted as note
use Rattle.spk_broker_journal.specs.Adding as line
use Rattle.spk_broker_journal.specs.Fitting.{Came, Item, Row, SaysItem}
use Rattle.spk_broker_journal.specs.Replayed.{AreSaid}

-- ---- lists

tail : {X : Type 0} → List X → List X
tail [] = []
tail (x ∷ xs) = xs

head : List (List ℕ) → List ℕ
head [] = []
head (x ∷ xs) = x

cancel : {X : Type 0} (xs ys zs : List X) → xs ++ ys ≡ xs ++ zs → ys ≡ zs
unfolding tail
cancel [] ys zs e = e
cancel (x ∷ xs) ys zs e = cancel xs ys zs (ap tail e)

all-both : {X : Type 0} (P : X → Type 0) (xs ys : List X) → AllByRecursion P (xs ++ ys) → AllByRecursion P xs
all-both P [] ys a = tt
all-both P (x ∷ xs) ys a = (a.0, all-both P xs ys a.1)

map-both : {X Y : Type 0} (f : X → Y) (xs ys : List X) → map f (xs ++ ys) ≡ map f xs ++ map f ys
map-both f [] ys = refl
map-both f (x ∷ xs) ys = ap (λ t. f x ∷ t) (map-both f xs ys)

-- a front of contents is that of a front of the events
pub record Cut (js : List Event) (ds : List (List ℕ)) : Type 0 where
  pub left : List Event
  pub lost : List Event
  pub all : js ≡ left ++ lost
  pub are : ds ≡ map content left

cut : (js : List Event) (ds m : List (List ℕ)) → map content js ≡ ds ++ m → Cut js ds
unfolding tail head
cut js [] m e = record { left = []; lost = js; all = refl; are = refl }
cut [] (d ∷ ds) m e = cc
cut (j ∷ js) (d ∷ ds) m e =
    let c = cut js ds m (ap tail e) in
    record { left = j ∷ c.left; lost = c.lost; all = ap (λ t. j ∷ t) c.all; are = ap₂ (λ x xs. x ∷ xs) (sym (ap head e)) c.are }

-- ---- frames

frames-lines : (ls : List Kept) → line.records ls ≡ frames_of (map line_content ls)
frames-lines [] = refl
frames-lines (l ∷ ls) = ap (λ t. line_record l ++ t) (frames-lines ls)

frames-notes : (es : List Event) → note.records es ≡ frames_of (map content es)
frames-notes [] = refl
frames-notes (e ∷ es) = ap (λ t. record_of e ++ t) (frames-notes es)

frames-both : (xs ys : List (List ℕ)) → frames_of (xs ++ ys) ≡ frames_of xs ++ frames_of ys
frames-both [] ys = refl
frames-both (x ∷ xs) ys = ap (λ t. framed x ++ t) (frames-both xs ys) ∙ sym (append_assoc (framed x) (frames_of xs) (frames_of ys))

abbrev contents : List Kept → List Event → List (List ℕ)
contents ls es = map line_content ls ++ map content es

are-frames : (ls : List Kept) (es : List Event) → line.records ls ++ note.records es ≡ frames_of (contents ls es)
are-frames ls es = ap₂ (λ s t. s ++ t) (frames-lines ls) (frames-notes es) ∙ sym (frames-both (map line_content ls) (map content es))

small-both : (xs ys : List (List ℕ)) → AreSmall most xs → AreSmall most ys → AreSmall most (xs ++ ys)
small-both [] ys s t = t
small-both (x ∷ xs) ys s t = (s.0, small-both xs ys s.1 t)

abbrev pub LinesSay : List Kept → Type 0
LinesSay ls = AllByRecursion (λ (l : Kept). SaysLine (line_content l) l) ls

abbrev pub NotesSay : List Event → Type 0
NotesSay es = AllByRecursion (λ (e : Event). Says (content e) e) es

small-line : (code first second : ℕ) (p : Option Message) (text : List ℕ) → IsText p text → length (line_front code first second ++ text) ≤ 1048593
unfolding line_front
small-line code first second p text s =
    let few = short p text s in
    omega (arith, few, length-append (eight first ++ eight second) text, length-append (eight first) (eight second), length-eight first, length-eight second)
  where
    short : (p : Option Message) (text : List ℕ) → IsText p text → length text ≤ 1048576
    short None text s = omega (arith, ap length s)
    short (Some p) text s = s.small

small-lines : (ls : List Kept) → LinesSay ls → AreSmall most (map line_content ls)
small-lines [] s = tt
small-lines (l ∷ ls) s =
    (let few = small-line (kind_code l.kind) l.first l.second l.packet s.0.text s.0.spelled in let same = ap length s.0.is in omega (arith, few, same), small-lines ls s.1)

small-note : (bytes : List ℕ) (e : plan.Event) → Says bytes e → length bytes ≤ 1048593
unfolding Spelled content front
small-note bytes (plan.Open m) s = omega (arith, ap length s.spelled, length-eight m)
small-note bytes (plan.Packet c p m) s =
    let few = s.spelled.1.small in
    omega (arith, few, ap length s.spelled.2, length-append (eight c ++ eight m) s.spelled.0, length-append (eight c) (eight m), length-eight c, length-eight m)
small-note bytes (plan.Fault c why m) s =
    omega (arith, ap length s.spelled, length-append (eight c ++ eight m) (number_of why ∷ []), length-append (eight c) (eight m), length-eight c, length-eight m)
small-note bytes (plan.Closed c m) s = omega (arith, ap length s.spelled, length-append (eight c) (eight m), length-eight c, length-eight m)
small-note bytes (plan.Tick m) s = omega (arith, ap length s.spelled, length-eight m)
small-note bytes (plan.Refused c which m) s = omega (arith, ap length s.spelled, length-append (eight c) (eight m), length-eight c, length-eight m)

small-notes : (es : List Event) → NotesSay es → AreSmall most (map content es)
small-notes [] s = tt
small-notes (e ∷ es) s = (small-note (content e) e s.0, small-notes es s.1)

small-all : (ls : List Kept) (es : List Event) → LinesSay ls → NotesSay es → AreSmall most (contents ls es)
small-all ls es s t = small-both (map line_content ls) (map content es) (small-lines ls s) (small-notes es t)

small-most : most < 2 ^ 32
small-most = omega arith

-- ---- what contents say

abbrev pub OneEvent : Type 0
OneEvent = (bytes : List ℕ) (e f : plan.Event) → Says bytes e → Says bytes f → e ≡ f

abbrev pub OneLine : Type 0
OneLine = (bytes : List ℕ) (l m : Kept) → SaysLine bytes l → SaysLine bytes m → l ≡ m

abbrev pub Apart : Type 0
Apart = (bytes : List ℕ) (e : plan.Event) (l : Kept) → Says bytes e → SaysLine bytes l → ⊥

one-item : OneEvent → OneLine → Apart → (c : List ℕ) (i j : Item) → SaysItem c i → SaysItem c j → i ≡ j
one-item event line aside c (Row l) (Row m) s t = ap Row (line c l m s t)
one-item event line aside c (Row l) (Came e) s t = absurd (aside c e l t s)
one-item event line aside c (Came e) (Row l) s t = absurd (aside c e l s t)
one-item event line aside c (Came e) (Came f) s t = ap Came (event c e f s t)

same-items : OneEvent → OneLine → Apart → (cs : List (List ℕ)) (is js : List Item) → AreSaid cs is → AreSaid cs js → is ≡ js
same-items event line aside [] [] [] s t = refl
same-items event line aside [] [] (j ∷ js) s t = absurd t
same-items event line aside [] (i ∷ is) js s t = absurd s
same-items event line aside (c ∷ cs) [] js s t = absurd s
same-items event line aside (c ∷ cs) (i ∷ is) [] s t = absurd t
same-items event line aside (c ∷ cs) (i ∷ is) (j ∷ js) s t =
    ap (λ x. x ∷ is) (one-item event line aside c i j s.0 t.0) ∙ ap (λ x. j ∷ x) (same-items event line aside cs is js s.1 t.1)

notes-said : (es : List Event) → NotesSay es → AreSaid (map content es) (map Came es)
notes-said [] s = tt
notes-said (e ∷ es) s = (s.0, notes-said es s.1)

all-said : (ls : List Kept) (es : List Event) → LinesSay ls → NotesSay es → AreSaid (contents ls es) (map Row ls ++ map Came es)
all-said [] es s t = notes-said es t
all-said (l ∷ ls) es s t = (s.0, all-said ls es s.1 t)

-- ---- a journal

pub record More (b n : Broker) (first others : List Event) : Type 0 where
  pub more : List Event
  pub are : journal b n (first ++ others) ≡ journal b n first ++ more

pub more-noted : (first others : List Event) (b n : Broker) → More b n first others
more-noted [] others b n = record { more = journal b n others; are = refl }
more-noted (e ∷ es) others b n =
    let m = more-noted es others (step b e).broker (run n (notes b n.clock e)) in
    record {
      more = m.more;
      are = ap (λ t. notes b n.clock e ++ t) m.are ∙ sym (append_assoc (notes b n.clock e) (journal (step b e).broker (run n (notes b n.clock e)) es) m.more);
    }

-- ---- a front

abbrev pub TornFront : Type 0
TornFront = (m : ℕ) (all read : List (List ℕ)) (bytes lost rest : List ℕ) → m < 2 ^ 32 → AreSmall m all → bytes ++ lost ≡ frames_of all → Holds m bytes read rest → Begins read all

abbrev pub TornWhole : Type 0
TornWhole = (m : ℕ) (kept more read : List (List ℕ)) (bytes lost rest : List ℕ) → m < 2 ^ 32 → AreSmall m (kept ++ more) → bytes ++ lost ≡ frames_of (kept ++ more)
    → length (frames_of kept) ≤ length bytes → Holds m bytes read rest → Begins kept read

-- of lines, of these notes, and of a front of further ones the items are read
pub record Found (ls : List Kept) (first more : List Event) (items : List Item) : Type 0 where
  pub left : List Event
  pub lost : List Event
  pub all : more ≡ left ++ lost
  pub are : items ≡ map Row ls ++ map Came (first ++ left)

pub found : OneEvent → OneLine → Apart → TornFront → TornWhole → (ls : List Kept) (first more : List Event) (items : List Item) (read : List (List ℕ)) (bytes lost rest : List ℕ)
    → LinesSay ls → NotesSay (first ++ more) → bytes ++ lost ≡ line.records ls ++ note.records (first ++ more) → length (line.records ls ++ note.records first) ≤ length bytes
    → Holds most bytes read rest → AreSaid read items → Found ls first more items
found event line-one aside torn whole ls first more items read bytes lost rest of-lines of-notes are few held said = record {
  left = c.left;
  lost = c.lost;
  all = c.all;
  are = same-items event line-one aside (contents ls (first ++ c.left)) items (map Row ls ++ map Came (first ++ c.left)) (subst (λ cs. AreSaid cs items) read-is said)
      (all-said ls (first ++ c.left) of-lines (all-both (λ (e : Event). Says (content e) e) (first ++ c.left) c.lost
      (subst NotesSay (ap (λ t. first ++ t) c.all ∙ sym (append_assoc first c.left c.lost)) of-notes)));
}
  where
    all-contents : contents ls (first ++ more) ≡ contents ls first ++ map content more
    all-contents = ap (λ t. map line_content ls ++ t) (map-both content first more) ∙ sym (append_assoc (map line_content ls) (map content first) (map content more))

    small : AreSmall most (contents ls (first ++ more))
    small = small-all ls (first ++ more) of-lines of-notes

    frames : bytes ++ lost ≡ frames_of (contents ls (first ++ more))
    frames = are ∙ are-frames ls (first ++ more)

    w : Begins (contents ls first) read
    w = whole most (contents ls first) (map content more) read bytes lost rest small-most (subst (AreSmall most) all-contents small) (frames ∙ ap frames_of all-contents)
        (subst (λ xs. length xs ≤ length bytes) (are-frames ls first) few) held

    f : Begins read (contents ls (first ++ more))
    f = torn most (contents ls (first ++ more)) read bytes lost rest small-most small frames held

    behind : map content more ≡ w.0 ++ f.0
    behind = cancel (contents ls first) (map content more) (w.0 ++ f.0)
        (sym all-contents ∙ f.1 ∙ ap (λ t. t ++ f.0) w.1 ∙ append_assoc (contents ls first) w.0 f.0)

    c : Cut more w.0
    c = cut more w.0 f.0 behind

    read-is : read ≡ contents ls (first ++ c.left)
    read-is = w.1 ∙ ap (λ t. contents ls first ++ t) c.are ∙ append_assoc (map line_content ls) (map content first) (map content c.left)
        ∙ ap (λ t. map line_content ls ++ t) (sym (map-both content first c.left))

-- ---- an end

pub lawful-run : ((b : Broker) (e : Event) → IsLawful b → IsLawful (step b e).broker) → (es : List Event) (b : Broker) → IsLawful b → IsLawful (run b es)
lawful-run next [] b lawful = lawful
lawful-run next (e ∷ es) b lawful = lawful-run next es (step b e).broker (next b e lawful)
