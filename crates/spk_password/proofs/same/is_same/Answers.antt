use Rattle.std.proofs.Common.{◌≡◌, ◌∙◌, sym, ap, arith, get_or}
use Rattle.std.specs.Str.{bytes_eq}
use Rattle.std.proofs.lemmas.Bool.Decides.{Decides-eqb, same_from_decides}
use Rattle.std.proofs.lemmas.List.{ext_get_or}
use Rattle.std.proofs.lemmas.Slice.Eq.{bytes_eq-Decides}
use Rattle.spk_password.proofs.same.is_same.Goals as goal

pub returns : goal.returns
returns c =
    let one = c.args.one.now in
    let other = c.args.other.now in
    let d = c.loop-i.differing in
    let alike : d ≡ 0 → one ≡ other =
    (λ none. ext_get_or 0 one other (c.told-one ∙ sym c.told-other) (λ k below. c.loop-i.invariant.1 none k (omega (arith, below, c.told-one, c.loop-i-test.false)))) in
    let none : one ≡ other → d ≡ 0 = (λ same. c.loop-i.invariant.2 (λ k below. ap (λ xs. get_or xs k 0) same)) in
    same_from_decides _ (bytes_eq one other) (λ is. alike ((Decides-eqb d 0).0 is), λ same. (Decides-eqb d 0).1 (none same)) (bytes_eq-Decides one other)
