-- Each part takes at least a byte.
use Rattle.std.proofs.Common.{◌≡◌, ℕ, ◌<◌, ltb, not, cond, List, [], ◌∷◌, length, take, drop, Ok, Err, subst, arith}
use Rattle.std.specs.Str.{is_utf8}
use Rattle.std.proofs.lemmas.List.{length-drop}
use Rattle.spk_packets.specs.declared.fault.PacketFault.TheVariants.{BadBody, BadText}
use Rattle.spk_packets.specs.Grammar.{has_zero}
use Rattle.spk_packets.specs.Reading.{number_at, counted_at, text_at, qos_at, request_at}
use Rattle.spk_packets.proofs.Faults.{bind_ok, guard_ok, ok_is}
use Rattle.spk_packets.proofs.Each.{Shortens}

pub number_shorter : Shortens number_at
unfolding number_at
number_shorter [] x e = absurd cc
number_shorter (b ∷ []) x e = absurd cc
number_shorter (high ∷ low ∷ rest) x e = subst (λ (y : ℕ × List ℕ). length y.1 < length (high ∷ low ∷ rest)) (ok_is _ x e) (omega arith)

pub counted_shorter : Shortens counted_at
unfolding counted_at
counted_shorter bytes x e =
    let n = bind_ok (number_at bytes) (λ n. cond (ltb (length n.1) n.0) (Err BadBody) (Ok (take n.0 n.1, drop n.0 n.1))) x e in
    let less : length n.0.1 < length bytes = number_shorter bytes n.0 n.1 in
    let g = guard_ok (ltb (length n.0.1) n.0.0) BadBody (Ok (take n.0.0 n.0.1, drop n.0.0 n.0.1)) x n.2 in
    subst (λ (y : List ℕ × List ℕ). length y.1 < length bytes) (ok_is _ x g.1) (omega (arith, length-drop n.0.0 n.0.1))

pub text_shorter : Shortens text_at
unfolding text_at
text_shorter bytes x e =
    let t = bind_ok (counted_at bytes) (λ text. cond (not (is_utf8 text.0)) (Err BadText) (cond (has_zero text.0) (Err BadText) (Ok text))) x e in
    let g = guard_ok (not (is_utf8 t.0.0)) BadText (cond (has_zero t.0.0) (Err BadText) (Ok t.0)) x t.2 in
    let h = guard_ok (has_zero t.0.0) BadText (Ok t.0) x g.1 in
    subst (λ (y : List ℕ × List ℕ). length y.1 < length bytes) (ok_is _ x h.1) (counted_shorter bytes t.0 t.1)

qos_shorter : (filter bytes : List ℕ) (x : (List ℕ × ℕ) × List ℕ) → qos_at filter bytes ≡ Ok x → length x.1 < length bytes
unfolding qos_at
qos_shorter filter [] x e = absurd cc
qos_shorter filter (qos ∷ rest) x e =
    let g = guard_ok (ltb 2 qos) BadBody (Ok ((filter, qos), rest)) x e in
    subst (λ (y : (List ℕ × ℕ) × List ℕ). length y.1 < length (qos ∷ rest)) (ok_is _ x g.1) (omega arith)

pub request_shorter : Shortens request_at
unfolding request_at
request_shorter bytes x e =
    let f = bind_ok (text_at bytes) (λ filter. qos_at filter.0 filter.1) x e in
    let a : length f.0.1 < length bytes = text_shorter bytes f.0 f.1 in
    let b : length x.1 < length f.0.1 = qos_shorter f.0.0 f.0.1 x f.2 in
    omega arith
