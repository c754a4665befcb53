-- Grants by filter.
use Rattle.std.proofs.Common.{◌≡◌, ℕ, suc, zero, ◌<◌, Bool, true, false, ◌&&◌, ◌||◌, List, [], ◌∷◌, length, get_or, map, refl, sym, ap, ◌∙◌, string_bytes, Option, Some, None, arith, true≢false}
use denote.Struct.Props.{props}
use Rattle.std.specs.List.{fold, list_all, list_any}
use Rattle.std.specs.Option.{IfSome, is_none, is_some, option_map, unwrap_or}
use Rattle.spk_packets.specs.View.{request_view}
use Rattle.spk_packets.specs.declared.packet.Request.{Request}
use Rattle.spk_topics.specs.Text.{filter_refusal}
use Rattle.spk_topics.specs.declared.fault.TopicFault.{TopicFault}
use Rattle.spk_broker_rules.specs.Data as plain
use Rattle.std.specs.Str.{bytes_eq}
use Rattle.spk_broker_rules.specs.Table.{Table, has}
use Rattle.spk_broker_rules.proofs.Lists.{any-map}
use Rattle.spk_broker.specs.Filters.{AreFilters, is_filter}
use Rattle.spk_broker.specs.Granting.{regranted, taken_from, without_grants}
use Rattle.spk_broker.specs.Parts.{grant_view}
use Rattle.spk_broker.specs.Tables.{last_of, renewed}
use Rattle.spk_broker.specs.declared.session.Grant.{Grant}

pub has-grant : (name : List ℕ) (gs : List Grant) → list_any (λ (g : Grant). bytes_eq (string_bytes g.filter) name) gs ≡ has name (map grant_view gs)
has-grant name gs = sym (any-map grant_view (λ e. bytes_eq e.0 name) (λ (g : Grant). bytes_eq (string_bytes g.filter) name) (λ g. refl) gs)

-- the grants of a session are replaced by what they become
pub regranted-is : (o : Option plain.Session) (new old : Table ℕ) (names : List (List ℕ)) → new ≡ fold taken_from old names → IfSome o (λ s. old ≡ s.grants)
    → option_map (regranted new) o ≡ option_map (without_grants names) o
regranted-is None new old names e f = refl
regranted-is (Some s) new old names e f = ap (λ g. Some (record s { grants = g })) (e ∙ ap (λ g. fold taken_from g names) f)

-- another QoS, whatever is said of its filter
pub renewed-is : (f : List ℕ → Option (Option ℕ)) (qos : ℕ) (g : Grant) (h : is_filter (string_bytes g.filter) ≡ true) → last_of (f (string_bytes g.filter)) ≡ Some qos
    → record g { qos = qos; read = h } ≡ renewed f g
renewed-is f qos g h e =
    let once : IsProp (is_filter (string_bytes g.filter) ≡ true) = hlevel props in
    ap (λ k. record g { qos = qos; read = k }) (once h g.read) ∙ sym (ap (λ o. record g { qos = unwrap_or o g.qos }) e)

-- ---- entries of a SUBSCRIBE

both : (a b : Bool) → a && b ≡ true → (a ≡ true) × (b ≡ true)
both true b e = (refl, e)
both false b e = absurd (true≢false (sym e))

-- each of these has a topic filter
pub filter-at : (es : List Request) (i : ℕ) (d : Request) → i < length es → AreFilters (map request_view es) → is_filter (request_view (get_or es i d)).0 ≡ true
filter-at [] i d low h = absurd (omega (arith, low))
filter-at (e ∷ es) zero d low h = (both (is_filter (request_view e).0) (list_all (λ e. is_filter e.0) (map request_view es)) h).0
filter-at (e ∷ es) (suc i) d low h = filter-at es i d (omega (arith, low)) (both (is_filter (request_view e).0) (list_all (λ e. is_filter e.0) (map request_view es)) h).1

-- where no entry is refused each has one
pub are-filters : (es : List (List ℕ × ℕ)) → list_any (λ e. is_some (filter_refusal e.0)) es ≡ false → AreFilters es
unfolding is_filter
are-filters [] h = refl
are-filters (e ∷ es) h = by (filter_refusal e.0) h (are-filters es)
  where
    by : {X : Type 0} (o : Option X) → is_some o || list_any (λ e. is_some (filter_refusal e.0)) es ≡ false → (list_any (λ e. is_some (filter_refusal e.0)) es ≡ false → AreFilters es)
        → is_none o && list_all (λ e. is_none (filter_refusal e.0)) es ≡ true
    by None h rest = rest h
    by (Some x) h rest = absurd (true≢false h)

-- a topic filter is not refused
pub never-refused : (name : List ℕ) (e : TopicFault) → is_filter name ≡ true → filter_refusal name ≡ Some e → ⊥
unfolding is_filter
never-refused name e h is = true≢false (sym h ∙ ap is_none is)
