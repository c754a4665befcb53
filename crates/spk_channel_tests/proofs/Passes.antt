-- Passes that are taken from the end of a list, and put there.
use Rattle.std.proofs.Common.{◌≡◌, sym, subst, List, [], ◌∷◌, ◌++◌}
use Rattle.spk_ingress.specs.Passes.{PutsInto, AllPutInto}
use Rattle.spk_ingress.specs.declared.channel.Ingress.{Ingress}
use Rattle.spk_ingress.specs.declared.channel.PutPass.{PutPass}

pub put_into_front : (n : Ingress) (ps : List PutPass) (p : PutPass) → AllPutInto n (ps ++ p ∷ []) → AllPutInto n ps × PutsInto n p
put_into_front n [] p all = (tt, all.0)
put_into_front n (q ∷ ps) p all = (let r : AllPutInto n ps × PutsInto n p = put_into_front n ps p all.1 in ((all.0, r.0), r.1))

with_last : (n : Ingress) (ps : List PutPass) (p : PutPass) → AllPutInto n ps → PutsInto n p → AllPutInto n (ps ++ p ∷ [])
with_last n [] p all one = (one, tt)
with_last n (q ∷ ps) p all one = (all.0, with_last n ps p all.1 one)

-- one pass more
pub all_with : (n : Ingress) (ps qs : List PutPass) (p : PutPass) → AllPutInto n ps → PutsInto n p → qs ≡ ps ++ p ∷ [] → AllPutInto n qs
all_with n ps qs p all one is = subst (λ (l : List PutPass). AllPutInto n l) (sym is) (with_last n ps p all one)
