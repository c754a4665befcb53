-- Lists by hand that are handed: a host that comes late, and losses of which there are many in all.
use Rattle.std.proofs.Common.{◌≡◌, ℕ, zero, suc, ◌+◌, ◌<◌, ◌⊎◌, List, [], ◌∷◌, length, map, refl, sym, ◌∙◌, ap, add-one, arith, inl, inr, lit<, lit≤, true≢false}
use Rattle.std.specs.List.{range_with_len}
use Rattle.std.proofs.lemmas.List.FromFn.{length-map-range_with_len, get_or-map-range_with_len}
use Rattle.spk_sequence.specs.HostRecord.{Input, MessageComes, consumed_of, record_of}
use Rattle.spk_sequence.specs.NodeRecord.{IsNodeRecord, Message, NodeRecord, Numbering, Restarts, RunsOn, Setting, birth_at, message_at, stamp_at}
use Rattle.spk_handed.specs.Handed.{AtEach, FewMiss, IsHanded}

-- ---- a node that published two births: two messages of the first, and the NBIRTH of the second

abbrev of_birth : ℕ → ℕ
of_birth zero = 0
of_birth (suc zero) = 0
of_birth (suc (suc p)) = 1

abbrev message : ℕ → Message
message p = record { birth = of_birth p; session = 0; stamp = 6 + p }

abbrev published : ℕ → NodeRecord
published n = map message (range_with_len 0 n)

length-published : (n : ℕ) → length (published n) ≡ n
length-published n = length-map-range_with_len message 0 n

at : (n p : ℕ) → p < length (published n) → message_at (published n) p ≡ message p
at n p below = get_or-map-range_with_len message 0 n p p (record { birth = 0; session = 0; stamp = 0 }) (omega (arith, length-published n)) (omega arith)

next_birth : (p : ℕ) → (of_birth (suc p) ≡ of_birth p) ⊎ (of_birth (suc p) ≡ of_birth p + 1)
next_birth zero = inl refl
next_birth (suc zero) = inr refl
next_birth (suc (suc p)) = inl refl

published_is : (n : ℕ) → IsNodeRecord (published n)
published_is n = record {
  first_birth = λ some. ap (λ (m : Message). m.birth) (at n 0 some);
  births = λ p below.
      let a : birth_at (published n) (p + 1) ≡ of_birth (suc p) = ap (λ (m : Message). m.birth) (at n (p + 1) below) ∙ ap of_birth (add-one p) in
      let b : birth_at (published n) p ≡ of_birth p = ap (λ (m : Message). m.birth) (at n p (omega arith)) in
      elim (next_birth p) [
        | inl same ↦ inl (a ∙ same ∙ sym b)
        | inr more ↦ inr (a ∙ more ∙ ap (λ x. x + 1) (sym b))
      ];
  one_session = λ p q low high same. ap (λ (m : Message). m.session) (at n p low) ∙ sym (ap (λ (m : Message). m.session) (at n q high));
  sessions = λ p q order high.
      let a = ap (λ (m : Message). m.session) (at n p (omega arith)) in
      let b = ap (λ (m : Message). m.session) (at n q high) in omega (arith, a, b);
  stamps = λ p q order high.
      let a : stamp_at (published n) p ≡ 6 + p = ap (λ (m : Message). m.stamp) (at n p (omega arith)) in
      let b : stamp_at (published n) q ≡ 6 + q = ap (λ (m : Message). m.stamp) (at n q high) in omega arith;
  newer = λ p q order high opening.
      let a : stamp_at (published n) p ≡ 6 + p = ap (λ (m : Message). m.stamp) (at n p (omega arith)) in
      let b : stamp_at (published n) q ≡ 6 + q = ap (λ (m : Message). m.stamp) (at n q high) in omega arith;
}

abbrev setting : Numbering → Setting
setting numbering = record { published = published 3; numbering = numbering; seq = 0; bd = 0; wait = 2000; width = 1 }

-- ---- the host subscribed behind the first NBIRTH: it hears a message of that birth, and then the next NBIRTH

abbrev late : List Input
late = MessageComes 2 20 ∷ MessageComes 1 10 ∷ []

pub late_is_handed : (numbering : Numbering) → IsHanded (setting numbering) late
late_is_handed numbering = record {
  node = published_is 3;
  some_places = lit< tt;
  few_places = lit≤ tt;
  published = (lit< tt, (lit< tt, tt));
  rising = (lit≤ tt, (lit≤ tt, tt));
  few = few numbering;
  deaths = (tt, (tt, tt));
  births = λ e. births numbering;
  near = λ e. near numbering;
}
  where
    few : (n : Numbering) → AtEach (FewMiss (setting n)) late
    few RunsOn = ((λ on. lit< tt), ((λ on. lit< tt), tt))
    few Restarts = ((λ on. lit< tt), ((λ on. lit< tt), tt))

    births : (n : Numbering) → AtEach (Rattle.spk_handed.specs.Handed.ComesBehindBirth (setting n)) late
    births RunsOn = ((λ on. inl refl), ((λ on. absurd (true≢false (sym on))), tt))
    births Restarts = ((λ on. inl refl), ((λ on. absurd (true≢false (sym on))), tt))

    near : (n : Numbering) → AtEach (λ is i. Rattle.spk_sequence.specs.Window.IsNearBirth (setting n) (record_of (setting n) is) i) late
    near RunsOn = ((λ o. tt), ((λ o. absurd (true≢false (sym o))), tt))
    near Restarts = ((λ o. tt), ((λ o. absurd (true≢false (sym o))), tt))

-- it consumes the NBIRTH alone
late_consumes_the_birth : consumed_of (record_of (setting Restarts) late) ≡ 2 ∷ []
late_consumes_the_birth = refl

-- ---- at the greatest width fewer than 64 may be missing at a time: 59 and 59 more are handed, though 118 are missing in all

few_at_a_time : (s : Setting) → s.width ≡ 96 → AtEach (FewMiss s) (MessageComes 120 3 ∷ MessageComes 60 2 ∷ MessageComes 0 1 ∷ [])
few_at_a_time s wide = ((λ on. omega (arith, wide)), ((λ on. omega (arith, wide)), ((λ on. omega (arith, wide)), tt)))
