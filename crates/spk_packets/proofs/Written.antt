-- Tests of lists as the code has them, and as contracts see them.
use Rattle.std.proofs.Common.{◌≡◌, ℕ, ◌+◌, ◌-◌, ◌%◌, ◌^◌, min, ◌<◌, ◌≤◌, ◌++◌, ◌⊎◌, inl, inr, Result, Ok, Err, sym, subst, Vec, Bool, true, false, List, [], ◌∷◌, length, map, Option, Some, None, refl, ap, ◌∙◌, true≢false, append_assoc, string_bytes, String, Global, arith}
use Rattle.std.specs.Prelude.{nat_lt, ◌||◌, IfOk, IfErr, OnOk, is_ok, is_none}
use Rattle.std.specs.List.{list_any, flat_map}
use Rattle.std.proofs.lemmas.Bool.{lt-ltb, le-ltb, ltb-true, ltb-false}
use Rattle.std.proofs.lemmas.List.{length-append}
use Rattle.spk_packets.specs.declared.packet.Request.{Request}
use Rattle.spk_packets.specs.declared.fault.PacketFault.{PacketFault}
use Rattle.spk_packets.specs.declared.fault.PacketFault.TheVariants.{NoMemory, More, BadLength, BadFlags, BadType, BadText, BadBody, TooLarge, QosTwo, BadLevel}
use Rattle.spk_packets.specs.Fault.{first_of, IsNamed}
use Rattle.spk_packets.specs.Message.{Message}
use Rattle.spk_packets.specs.Grammar.{first_byte, largest}
use Rattle.spk_packets.proofs.Agreement.{first_of-some, first_of-none}
use Rattle.spk_packets.specs.Spelling.{number, counted, is_bad_text, is_empty, body, shortest, spelling, content_refusals, unwritable}
use Rattle.spk_packets.specs.View.{request_view}

is_named_some : (e : PacketFault) (named : Option PacketFault) → named ≡ Some e → IsNamed e named
is_named_some NoMemory named h = tt
is_named_some More named h = h
is_named_some BadLength named h = h
is_named_some BadFlags named h = h
is_named_some BadType named h = h
is_named_some BadText named h = h
is_named_some BadBody named h = h
is_named_some TooLarge named h = h
is_named_some QosTwo named h = h
is_named_some BadLevel named h = h

pub requests_bad : (requests : List Request) → list_any (λ request. is_bad_text (string_bytes request.filter)) requests ≡ list_any (λ entry. is_bad_text entry.0) (map request_view requests)
requests_bad [] = refl
requests_bad (x ∷ xs) = ap (λ (b : Bool). is_bad_text (string_bytes x.filter) || b) (requests_bad xs)

pub requests_high : (requests : List Request) → list_any (λ request. nat_lt 2 request.qos) requests ≡ list_any (λ entry. nat_lt 2 entry.1) (map request_view requests)
requests_high [] = refl
requests_high (x ∷ xs) = ap (λ (b : Bool). nat_lt 2 x.qos || b) (requests_high xs)

pub requests_none : (requests : List Request) → is_empty requests ≡ is_empty (map request_view requests)
requests_none [] = refl
requests_none (x ∷ xs) = refl

pub filters_bad : (filters : List (String Global)) → list_any (λ filter. is_bad_text (string_bytes filter)) filters ≡ list_any is_bad_text (map (λ filter. string_bytes filter) filters)
filters_bad [] = refl
filters_bad (x ∷ xs) = ap (λ (b : Bool). is_bad_text (string_bytes x) || b) (filters_bad xs)

pub length-spelling : (p : Message) → length (spelling p) ≡ 1 + length (shortest (length (body p))) + length (body p)
unfolding spelling
length-spelling p = omega (arith, length-append (shortest (length (body p))) (body p))

pub is_too_large : (p : Message) → first_of (content_refusals p) ≡ None → largest < 1 + length (shortest (length (body p))) + length (body p) → first_of (unwritable p) ≡ Some TooLarge
is_too_large p none over =
    let long : nat_lt largest (length (spelling p)) ≡ true = lt-ltb _ _ (omega (arith, length-spelling p, over)) in
    first_of-none (content_refusals p) ((nat_lt largest (length (spelling p)), TooLarge) ∷ []) none ∙ rw long refl

pub is_writable : (p : Message) → first_of (content_refusals p) ≡ None → 1 + length (shortest (length (body p))) + length (body p) ≤ largest → first_of (unwritable p) ≡ None
is_writable p none within =
    let short : nat_lt largest (length (spelling p)) ≡ false = le-ltb _ _ (omega (arith, length-spelling p, within)) in
    first_of-none (content_refusals p) ((nat_lt largest (length (spelling p)), TooLarge) ∷ []) none ∙ rw short refl

pub named_early : (p : Message) (e : PacketFault) → first_of (content_refusals p) ≡ Some e → IsNamed e (first_of (unwritable p))
named_early p e some = is_named_some e (first_of (unwritable p)) (first_of-some (content_refusals p) ((nat_lt largest (length (spelling p)), TooLarge) ∷ []) e some)

-- From what the header and the body make to what a packet spells.
pub join_spelled : (p : Message) (v : List ℕ) (whole_body : List ℕ) → whole_body ≡ body p → v ≡ first_byte p % 256 ∷ (shortest (length whole_body) ++ whole_body) → v ≡ spelling p
unfolding spelling
join_spelled p v whole_body is e = e ∙ ap (λ (b : List ℕ). first_byte p % 256 ∷ (shortest (length b) ++ b)) is

pub join_refused : (p : Message) (e : PacketFault) (whole_body : List ℕ) → whole_body ≡ body p → first_of (content_refusals p) ≡ None
    → (e ≡ NoMemory) ⊎ ((e ≡ TooLarge) × (largest < 1 + length (shortest (length whole_body)) + length whole_body)) → IsNamed e (first_of (unwritable p))
join_refused p e whole_body is none (inl h) = subst (λ (f : PacketFault). IsNamed f (first_of (unwritable p))) (sym h) tt
join_refused p e whole_body is none (inr h) =
    let over : largest < 1 + length (shortest (length (body p))) + length (body p) = subst (λ (b : List ℕ). largest < 1 + length (shortest (length b)) + length b) is h.1 in
    subst (λ (f : PacketFault). IsNamed f (first_of (unwritable p))) (sym h.0) (is_too_large p none over)

pub join_writable : (p : Message) (whole_body : List ℕ) → whole_body ≡ body p → first_of (content_refusals p) ≡ None
    → 1 + length (shortest (length whole_body)) + length whole_body ≤ largest → first_of (unwritable p) ≡ None
join_writable p whole_body is none within = is_writable p none (subst (λ (b : List ℕ). 1 + length (shortest (length b)) + length b ≤ largest) is within)

-- the same for what a call answered
pub if_join_spelled : (p : Message) (r : Result (Vec ℕ Global) PacketFault) (whole_body : List ℕ) → whole_body ≡ body p
    → IfOk r (λ v. v.items ≡ first_byte p % 256 ∷ (shortest (length whole_body) ++ whole_body)) → IfOk r (λ v. v.items ≡ spelling p)
if_join_spelled p (Ok v) whole_body is h = join_spelled p v.items whole_body is h
if_join_spelled p (Err e) whole_body is h = tt

-- the same up to the bytes that stand last
pub if_head_spelled : (p : Message) (r : Result (Vec ℕ Global) PacketFault) (rest whole_body : List ℕ) → whole_body ≡ body p
    → IfOk r (λ v. v.items ++ rest ≡ first_byte p % 256 ∷ (shortest (length whole_body) ++ whole_body)) → IfOk r (λ v. v.items ++ rest ≡ spelling p)
if_head_spelled p (Ok v) rest whole_body is h = join_spelled p (v.items ++ rest) whole_body is h
if_head_spelled p (Err e) rest whole_body is h = tt

pub if_join_refused : (p : Message) (r : Result (Vec ℕ Global) PacketFault) (whole_body : List ℕ) → whole_body ≡ body p → first_of (content_refusals p) ≡ None
    → IfErr r (λ e. (e ≡ NoMemory) ⊎ ((e ≡ TooLarge) × (largest < 1 + length (shortest (length whole_body)) + length whole_body))) → IfErr r (λ e. IsNamed e (first_of (unwritable p)))
if_join_refused p (Ok v) whole_body is none h = tt
if_join_refused p (Err e) whole_body is none h = join_refused p e whole_body is none h

pub if_join_writable : (p : Message) (r : Result (Vec ℕ Global) PacketFault) (whole_body : List ℕ) → whole_body ≡ body p → first_of (content_refusals p) ≡ None
    → OnOk r (1 + length (shortest (length whole_body)) + length whole_body ≤ largest) → OnOk r (first_of (unwritable p) ≡ None)
if_join_writable p (Ok v) whole_body is none h = join_writable p whole_body is none h
if_join_writable p (Err e) whole_body is none h = tt

-- A CONNECT part by part.
pub connect_parts : (old a k c w x1 x2 x3 x4 x5 : List ℕ) (f : ℕ) → x1 ≡ old ++ a → x2 ≡ x1 ++ f ∷ [] → x3 ≡ x2 ++ k → x4 ≡ x3 ++ c → x5 ≡ x4 ++ w → x5 ≡ old ++ (a ++ (f ∷ (k ++ (c ++ w))))
connect_parts old a k c w x1 x2 x3 x4 x5 f e1 e2 e3 e4 e5 =
    e5 ∙ ap (λ (x : List ℕ). x ++ w) (e4 ∙ ap (λ (x : List ℕ). x ++ c) (e3 ∙ ap (λ (x : List ℕ). x ++ k) (e2 ∙ ap (λ (x : List ℕ). x ++ f ∷ []) e1)))
    ∙ append_assoc ((((old ++ a) ++ f ∷ []) ++ k)) c w ∙ append_assoc ((old ++ a) ++ f ∷ []) k (c ++ w) ∙ append_assoc (old ++ a) (f ∷ []) (k ++ (c ++ w)) ∙ append_assoc old a (f ∷ (k ++ (c ++ w)))

pub unsubscribe_size : (id n : ℕ) (filters slice : List (String Global)) → slice ≡ filters → n ≡ min (length (flat_map counted (map (λ filter. string_bytes filter) slice))) (2 ^ 64 - 1)
    → min (n + 2) (2 ^ 64 - 1) ≡ min (length (number id ++ flat_map counted (map (λ filter. string_bytes filter) filters))) (2 ^ 64 - 1)
unsubscribe_size id n filters slice same is =
    subst (λ (xs : List (String Global)). min (n + 2) (2 ^ 64 - 1) ≡ min (length (number id ++ flat_map counted (map (λ filter. string_bytes filter) xs))) (2 ^ 64 - 1)) same (omega (arith, is))

-- What is no longer than a packet may be is its length, and more is too much.
writable_as : (p : Message) (r : Result ℕ PacketFault) (len : ℕ) → len ≡ length (body p) → first_of (content_refusals p) ≡ None
    → IfOk r (λ n. (n ≡ 1 + length (shortest len) + len) × (n ≤ largest)) → IfErr r (λ e. (e ≡ TooLarge) × (largest < 1 + length (shortest len) + len))
    → is_ok r ≡ is_none (first_of (unwritable p))
writable_as p (Ok n) len is none ok err = sym (ap is_none (join_writable p (body p) refl none (subst (λ k. 1 + length (shortest k) + k ≤ largest) is (subst (λ k. k ≤ largest) ok.0 ok.1))))
writable_as p (Err e) len is none ok err = sym (ap is_none (is_too_large p none (subst (λ k. largest < 1 + length (shortest k) + k) is err.1)))

pub is_ok_writable : (p : Message) (r : Result ℕ PacketFault) (len : ℕ) → len ≡ min (length (body p)) (2 ^ 64 - 1) → first_of (content_refusals p) ≡ None
    → IfOk r (λ n. (n ≡ 1 + length (shortest len) + len) × (n ≤ largest)) → IfErr r (λ e. (e ≡ TooLarge) × (largest < 1 + length (shortest len) + len))
    → is_ok r ≡ is_none (first_of (unwritable p))
is_ok_writable p r len is none ok err = by (nat_lt (length (body p)) (2 ^ 64)) refl r ok err
  where
    by : (b : Bool) → nat_lt (length (body p)) (2 ^ 64) ≡ b → (q : Result ℕ PacketFault)
        → IfOk q (λ n. (n ≡ 1 + length (shortest len) + len) × (n ≤ largest)) → IfErr q (λ e. (e ≡ TooLarge) × (largest < 1 + length (shortest len) + len))
        → is_ok q ≡ is_none (first_of (unwritable p))
    by true f q ok err = let low : length (body p) < 2 ^ 64 = ltb-true _ _ f in writable_as p q len (omega (arith, is, low)) none ok err
    by false f (Ok n) ok err = let high : 2 ^ 64 ≤ length (body p) = ltb-false _ _ f in let a = ok.0 in let b = ok.1 in absurd (omega (arith, is, high, a, b))
    by false f (Err e) ok err = let high : 2 ^ 64 ≤ length (body p) = ltb-false _ _ f in sym (ap is_none (is_too_large p none (omega (arith, high))))

pub held : {X Y : Type 0} {A : Type 0} (r : Result X Y) (b : Bool) → b ≡ is_ok r → b ≡ true → OnOk r A → A
held (Ok x) b is so h = h
held (Err e) b is so h = absurd (true≢false (sym so ∙ is))
