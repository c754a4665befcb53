use Rattle.std.proofs.Common.{◌≡◌, ◌∙◌, false, cond, map, refl, sym, ap, subst, Option, Some, None, true≢false}
use Rattle.std.specs.Option.{is_some, option_map_or}
use Rattle.spk_broker.specs.Filing.{IsAlike}
use Rattle.spk_broker.specs.Parts.{grant_view}
use Rattle.spk_broker.specs.Sitting.{session_both, session_now}
use Rattle.spk_broker.specs.declared.session.Session.TheInside.{Inside}
use Rattle.spk_broker.proofs.session.Session.is_turned.Goals as goal

none-or : {X Y : Type 0} (f : X → Y) (o : Option X) (d : Y) → is_some o ≡ false → option_map_or f o d ≡ d
none-or f None d e = refl
none-or f (Some x) d e = absurd (true≢false e)

alike : (s : Inside) → s.ended ≡ false → is_some s.regrant ≡ false → IsAlike (session_both s)
alike s stays same = record {
  by_now = session_now s;
  there = ap (λ b. cond b None (Some (session_now s))) stays;
  key = refl;
  grants = none-or _ s.regrant (map grant_view s.grants.items) same;
}

pub returns-else-self : goal.returns-else-self
returns-else-self c e = subst IsAlike c.self.view_is (alike c.self.inside c.if-self.false (sym c.is_some.ensures ∙ e))
