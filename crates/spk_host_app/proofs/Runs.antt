-- Runs of deeds, put together.
use Rattle.std.proofs.Common.{◌≡◌, Bool, true, List, [], ◌∷◌, ◌++◌, refl, subst}
use Rattle.spk_host_app.specs.Data.{App, Deed}
use Rattle.spk_host_app.specs.Step.{after}
use Rattle.spk_host_app.specs.Log.{IsRun, May, Reaches, any_deed}

pub stays : (f : Deed → Bool) (a : App) → Reaches f a a
stays f a = ([], refl)

pub more : (f : Deed → Bool) (a m b : App) (d : Deed) → Reaches f a m → f d ≡ true → May d m → b ≡ after d m → Reaches f a b
more f a m b d t allowed may is = (d ∷ t.0, (m, t.1, allowed, may, is))

pub one : (f : Deed → Bool) (a b : App) (d : Deed) → f d ≡ true → May d a → b ≡ after d a → Reaches f a b
one f a b d allowed may is = more f a a b d (stays f a) allowed may is

pub joined : (f : Deed → Bool) (ds es : List Deed) (a m b : App) → IsRun f m ds b → IsRun f a es m → IsRun f a (ds ++ es) b
joined f [] es a m b here before = subst (λ x. IsRun f a es x) here before
joined f (d ∷ ds) es a m b (k, run, ok, may, is) before = (k, joined f ds es a m k run before, ok, may, is)

pub and_then : (f : Deed → Bool) (a m b : App) → Reaches f a m → Reaches f m b → Reaches f a b
and_then f a m b s t = (t.0 ++ s.0, joined f t.0 s.0 a m b t.1 s.1)

pub at_end : (f : Deed → Bool) (a m b : App) → Reaches f a m → m ≡ b → Reaches f a b
at_end f a m b t is = subst (Reaches f a) is t

pub widened : (f g : Deed → Bool) → ((d : Deed) → f d ≡ true → g d ≡ true) → (ds : List Deed) (a b : App) → IsRun f a ds b → IsRun g a ds b
widened f g h [] a b is = is
widened f g h (d ∷ ds) a b (m, run, ok, may, is) = (m, widened f g h ds a m run, h d ok, may, is)

pub any : (f : Deed → Bool) (a b : App) → Reaches f a b → Reaches any_deed a b
any f a b t = (t.0, widened f any_deed (λ d _. refl) t.0 a b t.1)
