-- Runs of deeds, put together.
use Rattle.std.proofs.Common.{◌≡◌, Bool, true, List, [], ◌∷◌, ◌++◌, refl, sym, subst}
use Rattle.spk_server.specs.Data.{Deed, Room}
use Rattle.spk_server.specs.Step.{after}
use Rattle.spk_server.specs.Log.{IsRun, May, Reaches}

pub joined : (f : Deed → Bool) (ds es : List Deed) (r m s : Room) → IsRun f r ds m → IsRun f m es s → IsRun f r (ds ++ es) s
joined f [] es r m s a b = subst (λ x. IsRun f x es s) (sym a) b
joined f (d ∷ ds) es r m s a b = (a.0, a.1, joined f ds es (after d r) m s a.2 b)

pub stays : (f : Deed → Bool) (r : Room) → Reaches f r r
stays f r = ([], refl)

pub and_then : (f : Deed → Bool) (r m s : Room) → Reaches f r m → Reaches f m s → Reaches f r s
and_then f r m s a b = (a.0 ++ b.0, joined f a.0 b.0 r m s a.1 b.1)

pub begins : (f : Deed → Bool) (d : Deed) (r s : Room) → f d ≡ true → May d r → Reaches f (after d r) s → Reaches f r s
begins f d r s allowed may t = (d ∷ t.0, (allowed, may, t.1))

pub at_start : (f : Deed → Bool) (r m s : Room) → r ≡ m → Reaches f m s → Reaches f r s
at_start f r m s e t = subst (λ x. Reaches f x s) (sym e) t

pub at_end : (f : Deed → Bool) (r m s : Room) → Reaches f r m → m ≡ s → Reaches f r s
at_end f r m s t e = subst (Reaches f r) e t

pub widened : (f g : Deed → Bool) → ((d : Deed) → f d ≡ true → g d ≡ true) → (ds : List Deed) (r s : Room) → IsRun f r ds s → IsRun g r ds s
widened f g h [] r s a = a
widened f g h (d ∷ ds) r s a = (h d a.0, a.1, widened f g h ds (after d r) s a.2)

pub wider : (f g : Deed → Bool) → ((d : Deed) → f d ≡ true → g d ≡ true) → (r s : Room) → Reaches f r s → Reaches g r s
wider f g h r s t = (t.0, widened f g h t.0 r s t.1)
