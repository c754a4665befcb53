-- Over any list of events the data is what the past asks for, and each event is told in one way.
use Rattle.std.proofs.Common.{◌≡◌, ℕ, true, List, [], ◌∷◌, refl, sym, ◌∙◌, ap, subst}
use Rattle.spk_broker_rules.specs.Data.{Broker}
use Rattle.spk_broker_rules.specs.Lawful.{IsLawful}
use Rattle.spk_broker_rules.specs.Plan.{Event, Act, Opens, At, Hear, Drop, Say, Leave, Tell, Queue, Route, Forget, Accept, Give, Take, Ack, before, plan}
use Rattle.spk_broker_rules.specs.Step.{Turn, act, acts, seen, begun, noted, step, after, route}
use Rattle.spk_broker_rules.specs.Past.{Past, seen_in, broker_of}
use Rattle.spk_broker_rules.specs.Story.{Story, Tells, TellsAll}
use Rattle.spk_broker_rules.specs.Telling.{Answers, Telling, Leads, story_at, may_be}
use Rattle.spk_broker_rules.proofs.Asked.{seen-same}
use Rattle.spk_broker_rules.proofs.Gifts.{gave, took}
use Rattle.spk_broker_rules.proofs.Places.{first-lawful, lawful-act, lawful-acts}
use Rattle.spk_broker_rules.proofs.Routing.{Routing, routing-found, routing-one}
use Rattle.spk_broker_rules.proofs.Turns.{turn_of, opened, was_heard, was_dropped, left, forgot, accepted, acked}

-- ---- acts

-- what an act leads to is one
pub tells-one : (a : Act) (t u v : Story) → Tells a t u → Tells a t v → u ≡ v
tells-one Opens t u v p q = p ∙ sym q
tells-one (At moment) t u v p q = p ∙ sym q
tells-one (Hear c) t u v p q = p ∙ sym q
tells-one (Drop c) t u v p q = p ∙ sym q
tells-one (Say c m) t u v p q = p ∙ sym q
tells-one (Leave c wills) t u v p q = p ∙ sym q
tells-one (Tell c) t u v p q = p ∙ sym q
tells-one (Queue app_message) t u v p q = p ∙ sym q
tells-one Route t u v p q = routing-one t u v p q
tells-one (Forget name) t u v p q = p ∙ sym q
tells-one (Accept c name keeps alive will) t u v p q = p ∙ sym q
tells-one (Give c id entries) t u v p q = p ∙ sym q
tells-one (Take c filters) t u v p q = p ∙ sym q
tells-one (Ack c id) t u v p q = p ∙ sym q

pub all-one : (as_list : List Act) (t u v : Story) → TellsAll as_list t u → TellsAll as_list t v → u ≡ v
all-one [] t u v p q = sym p ∙ q
all-one (a ∷ as_list) t u v (x, p, ps) (y, q, qs) =
    all-one as_list x u v ps (subst (λ z. TellsAll as_list z v) (tells-one a t y x q p) qs)

-- it is there, and is the act on tables
pub record Told (limit : ℕ) (a : Act) (t : Story) (r : Turn) : Type 0 where
  pub end : Story
  pub tells : Tells a t end
  pub is : turn_of limit end ≡ r

pub told : (limit : ℕ) (a : Act) (t : Story) → IsLawful (broker_of limit t.past) → Told limit a t (act a (turn_of limit t))
told limit Opens t l = record { end = _; tells = refl; is = opened limit t l }
told limit (At moment) t l = record { end = _; tells = refl; is = refl }
told limit (Hear c) t l = record { end = _; tells = refl; is = was_heard limit c t }
told limit (Drop c) t l = record { end = _; tells = refl; is = was_dropped limit c t }
told limit (Say c m) t l = record { end = _; tells = refl; is = refl }
told limit (Leave c wills) t l = record { end = _; tells = refl; is = left limit c wills t }
told limit (Tell c) t l = record { end = _; tells = refl; is = refl }
told limit (Queue app_message) t l = record { end = _; tells = refl; is = refl }
told limit Route t l = let r : Routing limit t (route (turn_of limit t)) = routing-found limit t l in record { end = r.end; tells = r.routes; is = r.is }
told limit (Forget name) t l = record { end = _; tells = refl; is = forgot limit name t }
told limit (Accept c name keeps alive will) t l = record { end = _; tells = refl; is = accepted limit c name keeps alive will t l }
told limit (Give c id entries) t l = record { end = _; tells = refl; is = gave limit c id entries t }
told limit (Take c filters) t l = record { end = _; tells = refl; is = took limit c filters t }
told limit (Ack c id) t l = record { end = _; tells = refl; is = acked limit c id t }

pub record ToldAll (limit : ℕ) (as_list : List Act) (t : Story) (r : Turn) : Type 0 where
  pub end : Story
  pub tells : TellsAll as_list t end
  pub is : turn_of limit end ≡ r

abbrev pub LawfulTurn : Turn → Type 0
LawfulTurn t = IsLawful t.broker

told-all : (limit : ℕ) (as_list : List Act) (t : Story) → IsLawful (broker_of limit t.past) → ToldAll limit as_list t (acts as_list (turn_of limit t))
told-all limit [] t l = record { end = t; tells = refl; is = refl }
told-all limit (a ∷ as_list) t l =
    let first : Told limit a t (act a (turn_of limit t)) = told limit a t l in
    let rest : ToldAll limit as_list first.end (acts as_list (turn_of limit first.end)) =
    told-all limit as_list first.end (subst LawfulTurn (sym first.is) (lawful-act a (turn_of limit t) l)) in
    record { end = rest.end; tells = (first.end, first.tells, rest.tells); is = rest.is ∙ ap (acts as_list) first.is }

-- ---- events

pub record Answered (limit : ℕ) (h : Past) (e : Event) : Type 0 where
  pub telling : Telling limit h e
  pub is : turn_of limit telling.end ≡ step (broker_of limit h) e

answered : (limit : ℕ) (h : Past) (e : Event) → IsLawful (broker_of limit h) → Answered limit h e
unfolding step
answered limit h e l =
    let first : ToldAll limit (before e) (story_at h) (noted (broker_of limit h) e) = told-all limit (before e) (story_at h) l in
    let lawful : IsLawful (broker_of limit first.end.past) = subst LawfulTurn (sym first.is) (lawful-acts (before e) (begun (broker_of limit h)) l) in
    let rest : ToldAll limit (plan (seen_in limit first.end.past e) e) first.end (acts (plan (seen_in limit first.end.past e) e) (turn_of limit first.end)) =
    told-all limit (plan (seen_in limit first.end.past e) e) first.end lawful in
    record {
      telling = record { first = first.end; noted = first.tells; end = rest.end; done = rest.tells };
      is = rest.is ∙ ap (λ s. acts (plan s e) (turn_of limit first.end)) (seen-same limit first.end.past e)
          ∙ ap (λ (t : Turn). acts (plan (seen t.broker e) e) t) first.is;
    }

pub one : (limit : ℕ) (h : Past) (e : Event) (t u : Telling limit h e) → t.end ≡ u.end
one limit h e t u =
    let same : t.first ≡ u.first = all-one (before e) (story_at h) t.first u.first t.noted u.noted in
    all-one (plan (seen_in limit u.first.past e) e) u.first t.end u.end
    (subst (λ (s : Story). TellsAll (plan (seen_in limit s.past e) e) s t.end) same t.done) u.done

pub step-lawful : (b : Broker) (e : Event) → IsLawful b → IsLawful (step b e).broker
unfolding step
step-lawful b e l = lawful-acts (plan (seen (noted b e).broker e) e) (noted b e) (lawful-acts (before e) (begun b) l)

-- ---- lists of events

pub record IsTied (limit : ℕ) (es : List Event) (h : Past) : Type 0 where
  pub data_is : after limit es ≡ broker_of limit h
  pub lawful : IsLawful (broker_of limit h)

pub tied : (limit : ℕ) (es : List Event) (h : Past) → Leads limit es h → IsTied limit es h
tied limit [] h is = record { data_is = ap (broker_of limit) (sym is); lawful = subst (λ g. IsLawful (broker_of limit g)) (sym is) (first-lawful limit) }
tied limit (e ∷ es) h (g, leads, may, t, is) =
    let before_it : IsTied limit es g = tied limit es g leads in
    let a : Answered limit g e = answered limit g e before_it.lawful in
    let end : a.telling.end ≡ t.end = one limit g e a.telling t in
    let same : (step (broker_of limit g) e).broker ≡ broker_of limit h = ap (λ (x : Turn). x.broker) (sym a.is) ∙ ap (λ (s : Story). broker_of limit s.past) end ∙ ap (broker_of limit) is in
    record {
      data_is = ap (λ b. (step b e).broker) before_it.data_is ∙ same;
      lawful = subst IsLawful same (step-lawful (broker_of limit g) e before_it.lawful);
    }

pub answers : (limit : ℕ) (es : List Event) (h : Past) (e : Event) → Leads limit es h → Answered limit h e
answers limit es h e leads = answered limit h e (tied limit es h leads).lawful

pub answers-all : (limit : ℕ) (es : List Event) (h : Past) (e : Event) → Leads limit es h → Answers limit h e (step (after limit es) e)
answers-all limit es h e leads =
    let a : Answered limit h e = answers limit es h e leads in
    let same : turn_of limit a.telling.end ≡ step (after limit es) e = a.is ∙ ap (λ b. step b e) (sym (tied limit es h leads).data_is) in
    record { telling = a.telling; sends = ap (λ (t : Turn). t.sends) same; closes = ap (λ (t : Turn). t.closes) same }

pub goes-on : (limit : ℕ) (es : List Event) (h : Past) (e : Event) → Leads limit es h → may_be h e ≡ true → (g : Past) × Leads limit (e ∷ es) g
goes-on limit es h e leads may =
    let a : Answered limit h e = answers limit es h e leads in
    (a.telling.end.past, (h, leads, may, a.telling, refl))

same-end : (limit : ℕ) (e : Event) (a b : Past) → a ≡ b → (t : Telling limit a e) (u : Telling limit b e) → t.end.past ≡ u.end.past
same-end limit e a b same t u =
    subst (λ x. (v : Telling limit x e) → t.end.past ≡ v.end.past) same (λ v. ap (λ (s : Story). s.past) (one limit a e t v)) u

pub one-past : (limit : ℕ) (es : List Event) (h g : Past) → Leads limit es h → Leads limit es g → h ≡ g
one-past limit [] h g p q = p ∙ sym q
one-past limit (e ∷ es) h g (a, la, ma, ta, ea) (b, lb, mb, tb, eb) =
    let same : a ≡ b = one-past limit es a b la lb in
    sym ea ∙ same-end limit e a b same ta tb ∙ eb

pub lawful-after : (limit : ℕ) (es : List Event) → IsLawful (after limit es)
lawful-after limit [] = first-lawful limit
lawful-after limit (e ∷ es) = step-lawful (after limit es) e (lawful-after limit es)
