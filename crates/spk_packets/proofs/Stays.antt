-- A fault other than More stays, whatever follows.
use Rattle.std.proofs.Common.{◌≡◌, ℕ, zero, suc, ◌+◌, ◌*◌, ◌%◌, ◌≤◌, ltb, Bool, true, false, cond, List, [], ◌∷◌, ◌++◌, length, take, drop, Option, Some, Result, Ok, Err, refl, sym, ap, subst, ◌∙◌, inl, inr, ◌⊎◌, arith}
use Rattle.std.proofs.lemmas.Bool.{ltb-false, le-ltb}
use Rattle.std.proofs.lemmas.List.{length-append, length-drop, drop-append-le, take-append-le}
use Rattle.spk_packets.specs.declared.fault.PacketFault.{PacketFault}
use Rattle.spk_packets.specs.declared.fault.PacketFault.TheVariants.{More, TooLarge}
use Rattle.spk_packets.specs.declared.table.Kind.{Kind}
use Rattle.spk_packets.specs.Fault.{first_of}
use Rattle.spk_packets.specs.Message.{Message}
use Rattle.spk_packets.specs.Grammar.{largest}
use Rattle.spk_packets.specs.Refusals.{refusals}
use Rattle.spk_packets.specs.Reading.{◌>>=◌, kind_of, length_within, length_at, body_at, cut_at, packet_at}
use Rattle.spk_packets.proofs.Agreement.{fault_of, size_step, kind_step, packet_refused}

abbrev some : PacketFault → Option PacketFault
some f = Some f

-- it wanted more, or it is the same
abbrev Stays : {A : Type 0} → Result A PacketFault → Result A PacketFault → Type 0
Stays r s = (r ≡ Err More) ⊎ (s ≡ r)

stays_cond : {A : Type 0} (t : Bool) (x r s : Result A PacketFault) → Stays r s → Stays (cond t x r) (cond t x s)
stays_cond true x r s h = inr refl
stays_cond false x r s h = h

stays_bind : {A B : Type 0} (r s : Result A PacketFault) (f g : A → Result B PacketFault) → Stays r s → ((x : A) → r ≡ Ok x → Stays (f x) (g x)) → Stays (r >>= f) (s >>= g)
stays_bind (Ok x) s f g (inl e) h = absurd cc
stays_bind (Ok x) s f g (inr e) h = subst (λ t. Stays (f x) (t >>= g)) (sym e) (h x refl)
stays_bind {A} {B} (Err d) s f g (inl e) h = inl (ap (λ (t : Result A PacketFault). t >>= f) e)
stays_bind {A} {B} (Err d) s f g (inr e) h = inr (ap (λ (t : Result A PacketFault). t >>= g) e)

length_stays : (n : ℕ) (bytes more : List ℕ) → Stays (length_within n bytes) (length_within n (bytes ++ more))
unfolding length_within
length_stays zero bytes more = inr refl
length_stays (suc n) [] more = inl refl
length_stays (suc n) (b ∷ bs) more =
    stays_cond (ltb b 128) (Ok (b, 1)) (length_within n bs >>= λ x. Ok (b % 128 + 128 * x.0, 1 + x.1)) (length_within n (bs ++ more) >>= λ x. Ok (b % 128 + 128 * x.0, 1 + x.1))
    (stays_bind (length_within n bs) (length_within n (bs ++ more)) (λ x. Ok (b % 128 + 128 * x.0, 1 + x.1)) (λ x. Ok (b % 128 + 128 * x.0, 1 + x.1)) (length_stays n bs more) (λ x e. inr refl))

-- a body that is there stays the same
body_stays : (rest more : List ℕ) (m n : ℕ) → m + n ≤ length rest → take n (drop m (rest ++ more)) ≡ take n (drop m rest)
body_stays rest more m n le =
    let behind : m ≤ length rest = omega arith in
    let there : n ≤ length (drop m rest) = omega (arith, length-drop m rest) in
    ap (take n) (drop-append-le m rest more behind) ∙ take-append-le n (drop m rest) more there

abbrev cut_result : Kind → List ℕ → ℕ → Result (Kind × (List ℕ × ℕ)) PacketFault
cut_result kind body whole = Ok (kind, (body, whole))

short_stays : (rest more : List ℕ) (kind : Kind) (n m : ℕ) (short : Bool) → ltb (1 + length rest) (1 + m + n) ≡ short
    → Stays (cond short (Err More) (cut_result kind (take n (drop m rest)) (1 + m + n))) (cond (ltb (1 + length (rest ++ more)) (1 + m + n)) (Err More) (cut_result kind (take n (drop m (rest ++ more))) (1 + m + n)))
short_stays rest more kind n m true e = inl refl
short_stays rest more kind n m false e =
    let le : 1 + m + n ≤ 1 + length rest = ltb-false _ _ e in
    let long : ltb (1 + length (rest ++ more)) (1 + m + n) ≡ false = le-ltb _ _ (omega (arith, length-append rest more)) in
    inr (rw (long, body_stays rest more m n (omega arith)) refl)

size_stays : (rest more : List ℕ) (kind : Kind) (x : ℕ × ℕ) → Stays (size_step rest kind x) (size_step (rest ++ more) kind x)
size_stays rest more kind x =
    stays_cond (ltb largest (1 + x.1 + x.0)) (Err TooLarge) (cond (ltb (1 + length rest) (1 + x.1 + x.0)) (Err More) (cut_result kind (take x.0 (drop x.1 rest)) (1 + x.1 + x.0)))
    (cond (ltb (1 + length (rest ++ more)) (1 + x.1 + x.0)) (Err More) (cut_result kind (take x.0 (drop x.1 (rest ++ more))) (1 + x.1 + x.0)))
    (short_stays rest more kind x.0 x.1 (ltb (1 + length rest) (1 + x.1 + x.0)) refl)

cut_stays : (first : ℕ) (rest more : List ℕ) → Stays (cut_at (first ∷ rest)) (cut_at (first ∷ (rest ++ more)))
unfolding cut_at
cut_stays first rest more =
    stays_bind (kind_of first) (kind_of first) (kind_step rest) (kind_step (rest ++ more)) (inr refl)
    (λ kind k. stays_bind (length_at rest) (length_at (rest ++ more)) (size_step rest kind) (size_step (rest ++ more) kind) (length_stays 4 rest more) (λ x e. size_stays rest more kind x))

abbrev body_step : Kind × (List ℕ × ℕ) → Result (Message × ℕ) PacketFault
body_step cut = body_at cut.0 cut.1.0 >>= λ message. Ok (message, cut.1.1)

packet_stays : (bytes more : List ℕ) → Stays (packet_at bytes) (packet_at (bytes ++ more))
unfolding packet_at cut_at
packet_stays [] more = inl refl
packet_stays (first ∷ rest) more = stays_bind (cut_at (first ∷ rest)) (cut_at (first ∷ (rest ++ more))) body_step body_step (cut_stays first rest more) (λ x e. inr refl)

only_more : (f : PacketFault) → some f ≡ some More → f ≡ More
only_more f e = cc

pub fault_is : (bytes more : List ℕ) (fault : PacketFault) → first_of (refusals bytes) ≡ Some fault → (fault ≡ More → ⊥) → first_of (refusals (bytes ++ more)) ≡ Some fault
fault_is bytes more fault named other =
    let before : fault_of (packet_at bytes) ≡ Some fault = packet_refused bytes ∙ named in
    elim (packet_stays bytes more) [
      | inl e ↦ absurd (other (only_more fault (sym before ∙ ap fault_of e)))
      | inr e ↦ sym (packet_refused (bytes ++ more)) ∙ ap fault_of e ∙ before
    ]
