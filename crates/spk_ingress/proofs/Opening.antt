-- The passes of new senders.
use Rattle.std.proofs.Common.{◌≡◌, ℕ, suc, ◌+◌, List, [], ◌∷◌, ◌++◌, length, refl, ◌∙◌, arith}
use Rattle.spk_ingress.specs.declared.channel.Ingress.{Ingress}
use Rattle.spk_ingress.specs.declared.channel.PutPass.{PutPass}
use Rattle.spk_ingress.specs.Passes.{PutsInto, AllPutInto, AllFresh, frames_put}

pub put_into_snoc : (n : Ingress) (ps : List PutPass) (p : PutPass) → AllPutInto n ps → PutsInto n p → AllPutInto n (ps ++ p ∷ [])
put_into_snoc n [] p all one = (one, tt)
put_into_snoc n (q ∷ ps) p all one = (all.0, put_into_snoc n ps p all.1 one)

pub fresh_snoc : (i : ℕ) (ps : List PutPass) (p : PutPass) → AllFresh i ps → p.sender ≡ i + length ps → frames_put p ≡ [] → AllFresh i (ps ++ p ∷ [])
fresh_snoc i [] p all at none = (let e : i + length {A = PutPass} [] ≡ i = omega arith in at ∙ e, none, tt)
fresh_snoc i (q ∷ ps) p all at none = (let l : length (q ∷ ps) ≡ suc (length ps) = refl in let e : i + length (q ∷ ps) ≡ suc i + length ps = omega arith in (all.0, all.1, fresh_snoc (suc i) ps p all.2 (at ∙ e) none))
