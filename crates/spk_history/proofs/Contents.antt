-- The entry that a content is: what is read is spelled there, and what is spelled is read.
use Rattle.std.proofs.Common.{◌≡◌, ℕ, zero, ◌<◌, ◌≤◌, ◌^◌, eqb, ltb, cond, Bool, true, false, List, [], ◌∷◌, ◌++◌, length, take, drop, Option, Some, None, refl, sym, ap, ◌∙◌, subst, append_assoc, append-nil, length-append, arith}
use Rattle.std.specs.Str.{IsUtf8, is_utf8}
use Rattle.std.proofs.lemmas.Bool.{eqb-false, eqb-true, le-ltb, ltb-false, ltb-true}
use Rattle.std.proofs.lemmas.List.{drop_at, length-take-le, take-append-drop, take_at}
use Rattle.std.proofs.lemmas.Option.{same_Some}
use Rattle.std.proofs.lemmas.Str.{IsUtf8-from_is_utf8, is_utf8-from_IsUtf8}
use Rattle.spk_history.specs.declared.entry.SessionEvent.{SessionEvent}
use Rattle.spk_history.specs.declared.entry.SessionEvent.TheVariants as sessions
use Rattle.spk_history.specs.declared.entry.Ending.{Ending}
use Rattle.spk_history.specs.declared.entry.Ending.TheVariants as endings
use Rattle.spk_history.specs.Entry.{KindData, NodeData, DeviceBirth, DeviceData, DeviceDeath, EntryData, Session, Node, Birth, Death, Gap, Hole, Message}
use Rattle.spk_frames.specs.Reading.{◌>>=◌, eight_at, ended, four_at, name_at, name_of, one_at, two_at}
use Rattle.spk_history.specs.Reading.{birth_at, death_at, entry_at, entry_of, gap_at, head_at, hole_at, kind_at, message_at, node_at, pair_at, session_at}
use Rattle.spk_frames.specs.Numbers.{counted, eight, four, two}
use Rattle.spk_history.specs.Record.{HasDevice, HasTexts, HasWords, IsText, content, device_part, hole_code, kind_code, session_code}
use Rattle.spk_frames.proofs.Numbers.{IsBytes, IsBytes-behind, IsBytes-rest, eight_again, eight_takes, four_again, four_takes, two_again, two_takes}

bind : {A B : Type 0} (o : Option A) (f : A → Option B) (y : B) → (o >>= f) ≡ Some y → (x : A) × (o ≡ Some x) × (f x ≡ Some y)
bind None f y e = absurd cc
bind (Some x) f y e = (x, refl, e)

-- ---- parts

one_takes : (bytes : List ℕ) (b : ℕ) (rest : List ℕ) → IsBytes bytes → one_at bytes ≡ Some (b, rest) → (bytes ≡ b ∷ rest) × (b < 256) × IsBytes rest
unfolding one_at
one_takes [] b rest fits e = absurd cc
one_takes (x ∷ xs) b rest fits e =
    let p = same_Some (x, xs) (b, rest) e in
    let first : x ≡ b = ap (λ (q : ℕ × List ℕ). q.0) p in
    let others : xs ≡ rest = ap (λ (q : ℕ × List ℕ). q.1) p in
    (ap (λ h. h ∷ xs) first ∙ ap (λ t. b ∷ t) others, subst (λ k. k < 256) first (fits zero), subst IsBytes others (IsBytes-rest x xs fits))

ended_takes : {X : Type 0} (x y : X) (bytes : List ℕ) → ended x bytes ≡ Some y → (x ≡ y) × (bytes ≡ [])
unfolding ended
ended_takes x y [] e = (same_Some x y e, refl)
ended_takes x y (b ∷ bs) e = absurd cc

ended_again : {X : Type 0} (x : X) → ended x [] ≡ Some x
unfolding ended
ended_again x = refl

-- the cases of two tests
guard : {A : Type 0} (b : Bool) (x : Option A) (y : A) → cond b None x ≡ Some y → (b ≡ false) × (x ≡ Some y)
guard true x y e = absurd cc
guard false x y e = (refl, e)

guarded : {A : Type 0} (b : Bool) (x : Option A) (y : A) → cond b x None ≡ Some y → (b ≡ true) × (x ≡ Some y)
guarded true x y e = (refl, e)
guarded false x y e = absurd cc

record TookName (bytes name rest : List ℕ) : Type 0 where
  pub are : bytes ≡ counted name ++ rest
  pub is_text : IsText name
  pub fits : IsBytes rest

name_takes : (bytes name rest : List ℕ) → IsBytes bytes → name_at bytes ≡ Some (name, rest) → TookName bytes name rest
unfolding name_at name_of counted
name_takes bytes name rest fits e =
    let a = bind (two_at bytes) (λ n. name_of n.0 n.1) (name, rest) e in
    let n = a.0.0 in
    let r = a.0.1 in
    let s = two_takes bytes n r fits a.1 in
    let g = guard (ltb (length r) n) (cond (is_utf8 (take n r)) (Some (take n r, drop n r)) None) (name, rest) a.2 in
    let h = guarded (is_utf8 (take n r)) (Some (take n r, drop n r)) (name, rest) g.1 in
    let p = same_Some (take n r, drop n r) (name, rest) h.1 in
    let front : take n r ≡ name = ap (λ (q : List ℕ × List ℕ). q.0) p in
    let back : drop n r ≡ rest = ap (λ (q : List ℕ × List ℕ). q.1) p in
    let long : n ≤ length r = ltb-false (length r) n g.0 in
    let len : n ≡ length name = sym (length-take-le n r long) ∙ ap length front in
    let small : n < 2 ^ 16 = s.small in
    let parts : r ≡ name ++ rest = sym (take-append-drop n r) ∙ ap (λ t. t ++ drop n r) front ∙ ap (λ t. name ++ t) back in
    record {
      are = s.are ∙ ap (λ k. two k ++ r) len ∙ ap (λ t. two (length name) ++ t) parts ∙ sym (append_assoc (two (length name)) name rest);
      is_text = (subst IsUtf8 front (IsUtf8-from_is_utf8 (take n r) h.0), omega arith);
      fits = IsBytes-behind r name rest parts s.fits;
    }

name_again : (name rest : List ℕ) → IsText name → name_at (counted name ++ rest) ≡ Some (name, rest)
unfolding name_at name_of counted
name_again name rest is =
    let long : ltb (length (name ++ rest)) (length name) ≡ false = le-ltb _ _ (omega (arith, length-append name rest)) in
    ap (λ (o : Option (ℕ × List ℕ)). o >>= λ n. name_of n.0 n.1) (ap two_at (append_assoc (two (length name)) name rest) ∙ two_again (length name) (name ++ rest) is.1)
    ∙ rw (long, take_at name rest (length name) refl, drop_at name rest (length name) refl, is_utf8-from_IsUtf8 name is.0) refl

record TookHead (bytes : List ℕ) (at node : ℕ) (rest : List ℕ) : Type 0 where
  pub are : bytes ≡ eight at ++ (four node ++ rest)
  pub at_fits : at < 2 ^ 64
  pub node_fits : node < 2 ^ 32
  pub fits : IsBytes rest

head_takes : (bytes : List ℕ) (x : (ℕ × ℕ) × List ℕ) → IsBytes bytes → head_at bytes ≡ Some x → TookHead bytes x.0.0 x.0.1 x.1
unfolding head_at
head_takes bytes x fits e =
    let a = bind (eight_at bytes) (λ at. four_at at.1 >>= λ node. Some ((at.0, node.0), node.1)) x e in
    let b = bind (four_at a.0.1) (λ node. Some ((a.0.0, node.0), node.1)) x a.2 in
    let s = eight_takes bytes a.0.0 a.0.1 fits a.1 in
    let t = four_takes a.0.1 b.0.0 b.0.1 s.fits b.1 in
    subst (λ (y : (ℕ × ℕ) × List ℕ). TookHead bytes y.0.0 y.0.1 y.1) (same_Some ((a.0.0, b.0.0), b.0.1) x b.2)
    (record { are = s.are ∙ ap (λ r. eight a.0.0 ++ r) t.are; at_fits = s.small; node_fits = t.small; fits = t.fits })

head_again : (at node : ℕ) (rest : List ℕ) → at < 2 ^ 64 → node < 2 ^ 32 → head_at (eight at ++ (four node ++ rest)) ≡ Some ((at, node), rest)
unfolding head_at
head_again at node rest l k = rw (eight_again at (four node ++ rest) l, four_again node rest k) refl

record TookPair (bytes : List ℕ) (first second : ℕ) (rest : List ℕ) : Type 0 where
  pub are : bytes ≡ eight first ++ (eight second ++ rest)
  pub first_fits : first < 2 ^ 64
  pub second_fits : second < 2 ^ 64
  pub fits : IsBytes rest

pair_takes : (bytes : List ℕ) (x : (ℕ × ℕ) × List ℕ) → IsBytes bytes → pair_at bytes ≡ Some x → TookPair bytes x.0.0 x.0.1 x.1
unfolding pair_at
pair_takes bytes x fits e =
    let a = bind (eight_at bytes) (λ first. eight_at first.1 >>= λ second. Some ((first.0, second.0), second.1)) x e in
    let b = bind (eight_at a.0.1) (λ second. Some ((a.0.0, second.0), second.1)) x a.2 in
    let s = eight_takes bytes a.0.0 a.0.1 fits a.1 in
    let t = eight_takes a.0.1 b.0.0 b.0.1 s.fits b.1 in
    subst (λ (y : (ℕ × ℕ) × List ℕ). TookPair bytes y.0.0 y.0.1 y.1) (same_Some ((a.0.0, b.0.0), b.0.1) x b.2)
    (record { are = s.are ∙ ap (λ r. eight a.0.0 ++ r) t.are; first_fits = s.small; second_fits = t.small; fits = t.fits })

pair_again : (first second : ℕ) (rest : List ℕ) → first < 2 ^ 64 → second < 2 ^ 64 → pair_at (eight first ++ (eight second ++ rest)) ≡ Some ((first, second), rest)
unfolding pair_at
pair_again first second rest l k = rw (eight_again first (eight second ++ rest) l, eight_again second rest k) refl

-- ---- what is read is spelled there

pub record Sound (bytes : List ℕ) (e : EntryData) : Type 0 where
  pub are : content e ≡ bytes
  pub words : HasWords e
  pub texts : HasTexts e

-- nothing stands behind the last part
alone : (bytes front rest : List ℕ) → bytes ≡ front ++ rest → rest ≡ [] → bytes ≡ front
alone bytes front rest e f = e ∙ ap (λ t. front ++ t) f ∙ append-nil front

session_takes : (what : SessionEvent) (bytes : List ℕ) (e : EntryData) → IsBytes bytes → session_at what bytes ≡ Some e → Sound (session_code what ∷ bytes) e
unfolding session_at content HasWords HasTexts
session_takes what bytes e fits h =
    let a = bind (eight_at bytes) (λ at. ended (Session at.0 what) at.1) e h in
    let s = eight_takes bytes a.0.0 a.0.1 fits a.1 in
    let d = ended_takes (Session a.0.0 what) e a.0.1 a.2 in
    subst (Sound (session_code what ∷ bytes)) d.0
    (record { are = ap (λ t. session_code what ∷ t) (sym (alone bytes (eight a.0.0) a.0.1 s.are d.1)); words = s.small; texts = tt })

node_takes : (bytes : List ℕ) (e : EntryData) → IsBytes bytes → node_at bytes ≡ Some e → Sound (3 ∷ bytes) e
unfolding node_at content HasWords HasTexts
node_takes bytes e fits h =
    let a = bind (four_at bytes) (λ node. name_at node.1 >>= λ group. name_at group.1 >>= λ name. ended (Node node.0 group.0 name.0) name.1) e h in
    let b = bind (name_at a.0.1) (λ group. name_at group.1 >>= λ name. ended (Node a.0.0 group.0 name.0) name.1) e a.2 in
    let c = bind (name_at b.0.1) (λ name. ended (Node a.0.0 b.0.0 name.0) name.1) e b.2 in
    let s = four_takes bytes a.0.0 a.0.1 fits a.1 in
    let t = name_takes a.0.1 b.0.0 b.0.1 s.fits b.1 in
    let u = name_takes b.0.1 c.0.0 c.0.1 t.fits c.1 in
    let d = ended_takes (Node a.0.0 b.0.0 c.0.0) e c.0.1 c.2 in
    let name : b.0.1 ≡ counted c.0.0 = alone b.0.1 (counted c.0.0) c.0.1 u.are d.1 in
    let are : bytes ≡ four a.0.0 ++ (counted b.0.0 ++ counted c.0.0) = s.are ∙ ap (λ r. four a.0.0 ++ r) (t.are ∙ ap (λ r. counted b.0.0 ++ r) name) in
    subst (Sound (3 ∷ bytes)) d.0 (record { are = ap (λ r. 3 ∷ r) (sym are); words = s.small; texts = (t.is_text, u.is_text) })

birth_takes : (bytes : List ℕ) (e : EntryData) → IsBytes bytes → birth_at bytes ≡ Some e → Sound (4 ∷ bytes) e
unfolding birth_at content HasWords HasTexts
birth_takes bytes e fits h =
    let a = bind (head_at bytes) (λ head. eight_at head.1 >>= λ stamp. one_at stamp.1 >>= λ bd. Some (Birth head.0.0 head.0.1 stamp.0 bd.0 bd.1)) e h in
    let b = bind (eight_at a.0.1) (λ stamp. one_at stamp.1 >>= λ bd. Some (Birth a.0.0.0 a.0.0.1 stamp.0 bd.0 bd.1)) e a.2 in
    let c = bind (one_at b.0.1) (λ bd. Some (Birth a.0.0.0 a.0.0.1 b.0.0 bd.0 bd.1)) e b.2 in
    let s = head_takes bytes a.0 fits a.1 in
    let t = eight_takes a.0.1 b.0.0 b.0.1 s.fits b.1 in
    let u = one_takes b.0.1 c.0.0 c.0.1 t.fits c.1 in
    let behind : a.0.1 ≡ eight b.0.0 ++ (c.0.0 ∷ c.0.1) = t.are ∙ ap (λ r. eight b.0.0 ++ r) u.0 in
    let are : bytes ≡ eight a.0.0.0 ++ (four a.0.0.1 ++ (eight b.0.0 ++ (c.0.0 ∷ c.0.1))) = s.are ∙ ap (λ r. eight a.0.0.0 ++ (four a.0.0.1 ++ r)) behind in
    subst (Sound (4 ∷ bytes)) (same_Some (Birth a.0.0.0 a.0.0.1 b.0.0 c.0.0 c.0.1) e c.2)
    (record { are = ap (λ r. 4 ∷ r) (sym are); words = (s.at_fits, s.node_fits, t.small, u.1); texts = tt })

death_takes : (bytes : List ℕ) (e : EntryData) → IsBytes bytes → death_at bytes ≡ Some e → Sound (5 ∷ bytes) e
unfolding death_at content HasWords HasTexts
death_takes bytes e fits h =
    let a = bind (head_at bytes) (λ head. one_at head.1 >>= λ bd. ended (Death head.0.0 head.0.1 bd.0) bd.1) e h in
    let b = bind (one_at a.0.1) (λ bd. ended (Death a.0.0.0 a.0.0.1 bd.0) bd.1) e a.2 in
    let s = head_takes bytes a.0 fits a.1 in
    let t = one_takes a.0.1 b.0.0 b.0.1 s.fits b.1 in
    let d = ended_takes (Death a.0.0.0 a.0.0.1 b.0.0) e b.0.1 b.2 in
    let behind : a.0.1 ≡ b.0.0 ∷ [] = t.0 ∙ ap (λ r. b.0.0 ∷ r) d.1 in
    let are : bytes ≡ eight a.0.0.0 ++ (four a.0.0.1 ++ b.0.0 ∷ []) = s.are ∙ ap (λ r. eight a.0.0.0 ++ (four a.0.0.1 ++ r)) behind in
    subst (Sound (5 ∷ bytes)) d.0 (record { are = ap (λ r. 5 ∷ r) (sym are); words = (s.at_fits, s.node_fits, t.1); texts = tt })

gap_takes : (bytes : List ℕ) (e : EntryData) → IsBytes bytes → gap_at bytes ≡ Some e → Sound (6 ∷ bytes) e
unfolding gap_at content HasWords HasTexts
gap_takes bytes e fits h =
    let a = bind (head_at bytes) (λ head. pair_at head.1 >>= λ counts. ended (Gap head.0.0 head.0.1 counts.0.0 counts.0.1) counts.1) e h in
    let b = bind (pair_at a.0.1) (λ counts. ended (Gap a.0.0.0 a.0.0.1 counts.0.0 counts.0.1) counts.1) e a.2 in
    let s = head_takes bytes a.0 fits a.1 in
    let t = pair_takes a.0.1 b.0 s.fits b.1 in
    let d = ended_takes (Gap a.0.0.0 a.0.0.1 b.0.0.0 b.0.0.1) e b.0.1 b.2 in
    let behind : a.0.1 ≡ eight b.0.0.0 ++ eight b.0.0.1 = t.are ∙ ap (λ r. eight b.0.0.0 ++ r) (ap (λ r. eight b.0.0.1 ++ r) d.1 ∙ append-nil (eight b.0.0.1)) in
    let are : bytes ≡ eight a.0.0.0 ++ (four a.0.0.1 ++ (eight b.0.0.0 ++ eight b.0.0.1)) = s.are ∙ ap (λ r. eight a.0.0.0 ++ (four a.0.0.1 ++ r)) behind in
    subst (Sound (6 ∷ bytes)) d.0 (record { are = ap (λ r. 6 ∷ r) (sym are); words = (s.at_fits, s.node_fits, t.first_fits, t.second_fits); texts = tt })

hole_takes : (ended_by : Ending) (bytes : List ℕ) (e : EntryData) → IsBytes bytes → hole_at ended_by bytes ≡ Some e → Sound (hole_code ended_by ∷ bytes) e
unfolding hole_at content HasWords HasTexts
hole_takes ended_by bytes e fits h =
    let a = bind (four_at bytes) (λ node. pair_at node.1 >>= λ moments. pair_at moments.1 >>= λ counts. ended (Hole node.0 moments.0.0 moments.0.1 counts.0.0 counts.0.1 ended_by) counts.1) e h in
    let b = bind (pair_at a.0.1) (λ moments. pair_at moments.1 >>= λ counts. ended (Hole a.0.0 moments.0.0 moments.0.1 counts.0.0 counts.0.1 ended_by) counts.1) e a.2 in
    let c = bind (pair_at b.0.1) (λ counts. ended (Hole a.0.0 b.0.0.0 b.0.0.1 counts.0.0 counts.0.1 ended_by) counts.1) e b.2 in
    let s = four_takes bytes a.0.0 a.0.1 fits a.1 in
    let t = pair_takes a.0.1 b.0 s.fits b.1 in
    let u = pair_takes b.0.1 c.0 t.fits c.1 in
    let d = ended_takes (Hole a.0.0 b.0.0.0 b.0.0.1 c.0.0.0 c.0.0.1 ended_by) e c.0.1 c.2 in
    let counts : b.0.1 ≡ eight c.0.0.0 ++ eight c.0.0.1 = u.are ∙ ap (λ r. eight c.0.0.0 ++ r) (ap (λ r. eight c.0.0.1 ++ r) d.1 ∙ append-nil (eight c.0.0.1)) in
    let are : bytes ≡ four a.0.0 ++ (eight b.0.0.0 ++ (eight b.0.0.1 ++ (eight c.0.0.0 ++ eight c.0.0.1))) =
    s.are ∙ ap (λ r. four a.0.0 ++ r) (t.are ∙ ap (λ r. eight b.0.0.0 ++ (eight b.0.0.1 ++ r)) counts) in
    subst (Sound (hole_code ended_by ∷ bytes)) d.0
    (record { are = ap (λ r. hole_code ended_by ∷ r) (sym are); words = (s.small, t.first_fits, t.second_fits, u.first_fits, u.second_fits); texts = tt })

-- the code of a device's message
abbrev device_kind : ℕ → List ℕ → KindData
device_kind code device = cond (eqb code 11) (DeviceBirth device) (cond (eqb code 12) (DeviceData device) (DeviceDeath device))

record TookKind (code : ℕ) (bytes : List ℕ) (kind : KindData) (rest : List ℕ) : Type 0 where
  pub code_is : kind_code kind ≡ code
  pub are : bytes ≡ device_part kind ++ rest
  pub has : HasDevice kind

device_takes : (code : ℕ) (a b : Bool) (bytes device rest : List ℕ) → eqb code 11 ≡ a → eqb code 12 ≡ b → 9 < code → code < 14 → eqb code 10 ≡ false → bytes ≡ counted device ++ rest → IsText device
    → TookKind code bytes (cond a (DeviceBirth device) (cond b (DeviceData device) (DeviceDeath device))) rest
device_takes code true b bytes device rest e f lo hi other are is = record { code_is = sym (eqb-true code 11 e); are = are; has = is }
device_takes code false true bytes device rest e f lo hi other are is = record { code_is = sym (eqb-true code 12 f); are = are; has = is }
device_takes code false false bytes device rest e f lo hi other are is =
    let p : code ≡ 10 → ⊥ = eqb-false code 10 other in
    let q : code ≡ 11 → ⊥ = eqb-false code 11 e in
    let r : code ≡ 12 → ⊥ = eqb-false code 12 f in
    record { code_is = omega arith; are = are; has = is }

kind_of_code : (b : Bool) (code : ℕ) (bytes : List ℕ) (x : KindData × List ℕ) → eqb code 10 ≡ b → 9 < code → code < 14 → IsBytes bytes
    → cond b (Some (NodeData, bytes)) (name_at bytes >>= λ device. Some (device_kind code device.0, device.1)) ≡ Some x → TookKind code bytes x.0 x.1
kind_of_code true code bytes x e lo hi fits h =
    subst (λ (y : KindData × List ℕ). TookKind code bytes y.0 y.1) (same_Some (NodeData, bytes) x h) (record { code_is = sym (eqb-true code 10 e); are = refl; has = tt })
kind_of_code false code bytes x e lo hi fits h =
    let a = bind (name_at bytes) (λ device. Some (device_kind code device.0, device.1)) x h in
    let t = name_takes bytes a.0.0 a.0.1 fits a.1 in
    subst (λ (y : KindData × List ℕ). TookKind code bytes y.0 y.1) (same_Some (device_kind code a.0.0, a.0.1) x a.2)
    (device_takes code (eqb code 11) (eqb code 12) bytes a.0.0 a.0.1 refl refl lo hi e t.are t.is_text)

kind_takes : (code : ℕ) (bytes : List ℕ) (x : KindData × List ℕ) → 9 < code → code < 14 → IsBytes bytes → kind_at code bytes ≡ Some x → TookKind code bytes x.0 x.1
unfolding kind_at
kind_takes code bytes x lo hi fits h = kind_of_code (eqb code 10) code bytes x refl lo hi fits h

message_takes : (code : ℕ) (bytes : List ℕ) (e : EntryData) → 9 < code → code < 14 → IsBytes bytes → message_at code bytes ≡ Some e → Sound (code ∷ bytes) e
unfolding message_at content HasWords HasTexts
message_takes code bytes e lo hi fits h =
    let a = bind (head_at bytes) (λ head. one_at head.1 >>= λ seq. kind_at code seq.1 >>= λ kind. Some (Message head.0.0 head.0.1 kind.0 seq.0 kind.1)) e h in
    let b = bind (one_at a.0.1) (λ seq. kind_at code seq.1 >>= λ kind. Some (Message a.0.0.0 a.0.0.1 kind.0 seq.0 kind.1)) e a.2 in
    let c = bind (kind_at code b.0.1) (λ kind. Some (Message a.0.0.0 a.0.0.1 kind.0 b.0.0 kind.1)) e b.2 in
    let s = head_takes bytes a.0 fits a.1 in
    let t = one_takes a.0.1 b.0.0 b.0.1 s.fits b.1 in
    let u = kind_takes code b.0.1 c.0 lo hi t.2 c.1 in
    let behind : a.0.1 ≡ b.0.0 ∷ (device_part c.0.0 ++ c.0.1) = t.0 ∙ ap (λ r. b.0.0 ∷ r) u.are in
    let are : bytes ≡ eight a.0.0.0 ++ (four a.0.0.1 ++ (b.0.0 ∷ (device_part c.0.0 ++ c.0.1))) = s.are ∙ ap (λ r. eight a.0.0.0 ++ (four a.0.0.1 ++ r)) behind in
    let whole : kind_code c.0.0 ∷ (eight a.0.0.0 ++ (four a.0.0.1 ++ (b.0.0 ∷ (device_part c.0.0 ++ c.0.1)))) ≡ code ∷ bytes =
    ap (λ k. k ∷ (eight a.0.0.0 ++ (four a.0.0.1 ++ (b.0.0 ∷ (device_part c.0.0 ++ c.0.1))))) u.code_is ∙ ap (λ r. code ∷ r) (sym are) in
    subst (Sound (code ∷ bytes)) (same_Some (Message a.0.0.0 a.0.0.1 c.0.0 b.0.0 c.0.1) e c.2)
    (record { are = whole; words = (s.at_fits, s.node_fits, t.1); texts = u.has })

-- one code after the other
by_code : {A : Type 0} (P : Type 0) (b : Bool) (code k : ℕ) (x y : Option A) (e : A) → eqb code k ≡ b → cond b x y ≡ Some e → (code ≡ k → x ≡ Some e → P) → (y ≡ Some e → P) → P
by_code P true code k x y e is h this others = this (eqb-true code k is) h
by_code P false code k x y e is h this others = others h

-- the content with the code that a test found
at_code : (code k : ℕ) (bytes : List ℕ) (e : EntryData) → code ≡ k → Sound (k ∷ bytes) e → Sound (code ∷ bytes) e
at_code code k bytes e is s = subst (λ n. Sound (n ∷ bytes) e) (sym is) s

last_codes : (code : ℕ) (bytes : List ℕ) (e : EntryData) → IsBytes bytes → cond (ltb 9 code) (cond (ltb code 14) (message_at code bytes) None) None ≡ Some e → Sound (code ∷ bytes) e
last_codes code bytes e fits h =
    let a = guarded (ltb 9 code) (cond (ltb code 14) (message_at code bytes) None) e h in
    let b = guarded (ltb code 14) (message_at code bytes) e a.1 in
    message_takes code bytes e (ltb-true 9 code a.0) (ltb-true code 14 b.0) fits b.1

entry_of_takes : (code : ℕ) (bytes : List ℕ) (e : EntryData) → IsBytes bytes → entry_of code bytes ≡ Some e → Sound (code ∷ bytes) e
unfolding entry_of
entry_of_takes code bytes e fits h =
    by_code (Sound (code ∷ bytes) e) (eqb code 1) code 1 _ _ e refl h (λ is g. at_code code 1 bytes e is (session_takes sessions.Began bytes e fits g))
    (λ h2. by_code (Sound (code ∷ bytes) e) (eqb code 2) code 2 _ _ e refl h2 (λ is g. at_code code 2 bytes e is (session_takes sessions.Ended bytes e fits g))
    (λ h3. by_code (Sound (code ∷ bytes) e) (eqb code 3) code 3 _ _ e refl h3 (λ is g. at_code code 3 bytes e is (node_takes bytes e fits g))
    (λ h4. by_code (Sound (code ∷ bytes) e) (eqb code 4) code 4 _ _ e refl h4 (λ is g. at_code code 4 bytes e is (birth_takes bytes e fits g))
    (λ h5. by_code (Sound (code ∷ bytes) e) (eqb code 5) code 5 _ _ e refl h5 (λ is g. at_code code 5 bytes e is (death_takes bytes e fits g))
    (λ h6. by_code (Sound (code ∷ bytes) e) (eqb code 6) code 6 _ _ e refl h6 (λ is g. at_code code 6 bytes e is (gap_takes bytes e fits g))
    (λ h7. by_code (Sound (code ∷ bytes) e) (eqb code 7) code 7 _ _ e refl h7 (λ is g. at_code code 7 bytes e is (hole_takes endings.Birth bytes e fits g))
    (λ h8. by_code (Sound (code ∷ bytes) e) (eqb code 8) code 8 _ _ e refl h8 (λ is g. at_code code 8 bytes e is (hole_takes endings.NewSession bytes e fits g))
    (λ h9. by_code (Sound (code ∷ bytes) e) (eqb code 9) code 9 _ _ e refl h9 (λ is g. at_code code 9 bytes e is (hole_takes endings.HostSession bytes e fits g))
    (λ h10. last_codes code bytes e fits h10)))))))))

pub entry_takes : (bytes : List ℕ) (e : EntryData) → IsBytes bytes → entry_at bytes ≡ Some e → Sound bytes e
unfolding entry_at
entry_takes [] e fits h = absurd cc
entry_takes (code ∷ rest) e fits h = entry_of_takes code rest e (IsBytes-rest code rest fits) h

-- ---- what is spelled is read

-- bytes that end with a number
last_eight : (n : ℕ) → n < 2 ^ 64 → eight_at (eight n) ≡ Some (n, [])
last_eight n l = ap eight_at (sym (append-nil (eight n))) ∙ eight_again n [] l

last_pair : (first second : ℕ) → first < 2 ^ 64 → second < 2 ^ 64 → pair_at (eight first ++ eight second) ≡ Some ((first, second), [])
unfolding pair_at
last_pair first second l k = rw (eight_again first (eight second) l, last_eight second k) refl

last_name : (name : List ℕ) → IsText name → name_at (counted name) ≡ Some (name, [])
last_name name is = ap name_at (sym (append-nil (counted name))) ∙ name_again name [] is

one_again : (b : ℕ) (rest : List ℕ) → one_at (b ∷ rest) ≡ Some (b, rest)
unfolding one_at
one_again b rest = refl

session_again : (at : ℕ) (what : SessionEvent) → at < 2 ^ 64 → session_at what (eight at) ≡ Some (Session at what)
unfolding session_at
session_again at what l = rw (last_eight at l) (ended_again (Session at what))

node_again : (node : ℕ) (group name : List ℕ) → node < 2 ^ 32 → IsText group → IsText name → node_at (four node ++ (counted group ++ counted name)) ≡ Some (Node node group name)
unfolding node_at
node_again node group name l g n = rw (four_again node (counted group ++ counted name) l, name_again group (counted name) g, last_name name n) (ended_again (Node node group name))

birth_again : (at node stamp bd : ℕ) (payload : List ℕ) → at < 2 ^ 64 → node < 2 ^ 32 → stamp < 2 ^ 64
    → birth_at (eight at ++ (four node ++ (eight stamp ++ (bd ∷ payload)))) ≡ Some (Birth at node stamp bd payload)
unfolding birth_at
birth_again at node stamp bd payload l k m = rw (head_again at node (eight stamp ++ (bd ∷ payload)) l k, eight_again stamp (bd ∷ payload) m, one_again bd payload) refl

death_again : (at node bd : ℕ) → at < 2 ^ 64 → node < 2 ^ 32 → death_at (eight at ++ (four node ++ bd ∷ [])) ≡ Some (Death at node bd)
unfolding death_at
death_again at node bd l k = rw (head_again at node (bd ∷ []) l k, one_again bd []) (ended_again (Death at node bd))

gap_again : (at node awaited missing : ℕ) → at < 2 ^ 64 → node < 2 ^ 32 → awaited < 2 ^ 64 → missing < 2 ^ 64
    → gap_at (eight at ++ (four node ++ (eight awaited ++ eight missing))) ≡ Some (Gap at node awaited missing)
unfolding gap_at
gap_again at node awaited missing l k a m =
    rw (head_again at node (eight awaited ++ eight missing) l k, last_pair awaited missing a m) (ended_again (Gap at node awaited missing))

hole_again : (node from to missing unused : ℕ) (ended_by : Ending) → node < 2 ^ 32 → from < 2 ^ 64 → to < 2 ^ 64 → missing < 2 ^ 64 → unused < 2 ^ 64
    → hole_at ended_by (four node ++ (eight from ++ (eight to ++ (eight missing ++ eight unused)))) ≡ Some (Hole node from to missing unused ended_by)
unfolding hole_at
hole_again node from to missing unused ended_by k f t m u =
    rw (four_again node (eight from ++ (eight to ++ (eight missing ++ eight unused))) k, pair_again from to (eight missing ++ eight unused) f t, last_pair missing unused m u)
    (ended_again (Hole node from to missing unused ended_by))

kind_again : (kind : KindData) (payload : List ℕ) → HasDevice kind → kind_at (kind_code kind) (device_part kind ++ payload) ≡ Some (kind, payload)
unfolding kind_at
kind_again NodeData payload has = refl
kind_again (DeviceBirth device) payload has = rw (name_again device payload has) refl
kind_again (DeviceData device) payload has = rw (name_again device payload has) refl
kind_again (DeviceDeath device) payload has = rw (name_again device payload has) refl

message_again : (at node seq : ℕ) (kind : KindData) (payload : List ℕ) → at < 2 ^ 64 → node < 2 ^ 32 → HasDevice kind
    → message_at (kind_code kind) (eight at ++ (four node ++ (seq ∷ (device_part kind ++ payload)))) ≡ Some (Message at node kind seq payload)
unfolding message_at
message_again at node seq kind payload l k has =
    rw (head_again at node (seq ∷ (device_part kind ++ payload)) l k, one_again seq (device_part kind ++ payload), kind_again kind payload has) refl

pub entry_again : (e : EntryData) → HasWords e → HasTexts e → entry_at (content e) ≡ Some e
unfolding entry_at entry_of content HasWords HasTexts
entry_again (Session at sessions.Began) w t = session_again at sessions.Began w
entry_again (Session at sessions.Ended) w t = session_again at sessions.Ended w
entry_again (Node node group name) w t = node_again node group name w t.0 t.1
entry_again (Birth at node stamp bd payload) w t = birth_again at node stamp bd payload w.0 w.1 w.2
entry_again (Death at node bd) w t = death_again at node bd w.0 w.1
entry_again (Gap at node awaited missing) w t = gap_again at node awaited missing w.0 w.1 w.2 w.3
entry_again (Hole node from to missing unused endings.Birth) w t = hole_again node from to missing unused endings.Birth w.0 w.1 w.2 w.3 w.4
entry_again (Hole node from to missing unused endings.NewSession) w t = hole_again node from to missing unused endings.NewSession w.0 w.1 w.2 w.3 w.4
entry_again (Hole node from to missing unused endings.HostSession) w t = hole_again node from to missing unused endings.HostSession w.0 w.1 w.2 w.3 w.4
entry_again (Message at node NodeData seq payload) w t = message_again at node seq NodeData payload w.0 w.1 t
entry_again (Message at node (DeviceBirth device) seq payload) w t = message_again at node seq (DeviceBirth device) payload w.0 w.1 t
entry_again (Message at node (DeviceData device) seq payload) w t = message_again at node seq (DeviceData device) payload w.0 w.1 t
entry_again (Message at node (DeviceDeath device) seq payload) w t = message_again at node seq (DeviceDeath device) payload w.0 w.1 t
