-- What the threads hand on, one edge after another, and what is tied after the joins.
use Rattle.std.proofs.Common.{◌≡◌, ◌∙◌, inl, inr, ℕ, zero, suc, ◌+◌, List, [], ◌∷◌, ◌++◌, length, map, Option, Some, None, IfSome, option_to_list, refl, sym, ap, subst, arith, length-append, append-nil}
use Rattle.std.proofs.lemmas.List.{map-append}
use Rattle.std.specs.List.{slice_get}
use Rattle.spk_edge_rules.specs.Config.{Config}
use Rattle.spk_plant_given.specs.Handed.{IsOfNode}
use Rattle.spk_plant_given.specs.declared.handed.Handed.{Handed}
use Rattle.spk_plant_host.specs.declared.ends.Given.{Given}
use Rattle.spk_ingress.specs.Lanes.{share_of}
use Rattle.spk_ingress.specs.Passes.{AllPutInto, AllTaken, PutsInto, frames_put, frames_taken}
use Rattle.spk_ingress.specs.declared.channel.Ingress.{Ingress}
use Rattle.spk_ingress.specs.declared.channel.PutPass.{PutPass}
use Rattle.spk_ingress.specs.declared.rule.Message.{Message}
use Rattle.spk_rings.specs.Ring.{IsShorterBy, all_offered, popped}
use Rattle.spk_rings.specs.declared.item.Item.{Item}
use Rattle.spk_rings.specs.declared.token.Token.{Token}
use Rattle.spk_plant_edge.specs.declared.edge.EdgeStart.{EdgeStart}
use Rattle.spk_plant_edge.specs.declared.edge.EdgeEnd.{EdgeEnd}
use Rattle.spk_plant.specs.Done.{AllInto, AreApart, AreDone, AreReady, AreTheirs, IsAllOf, IsEdgeDone, IsFrontOf, IsReportOf, IsTied, Lists, lists_of}
use Rattle.spk_plant.specs.Start.{HasAt}
use Rattle.spk_plant.specs.declared.report.NodeReport.{NodeReport}
use Rattle.spk_plant.specs.declared.report.Report.{Report}
use Rattle.spk_plant.specs.declared.choice.Ends.{Ends}
use Rattle.spk_plant.proofs.Places.{get_last, get_more, get_parts, has_last, has_more}

-- ---- the edges' threads

pub ready_front : (n : Ingress) (ss ts : List EdgeStart) (s : EdgeStart) → AreReady n ts → ts ≡ ss ++ s ∷ [] → AreReady n ss
ready_front n ss ts s all is k x at = all k x (subst (λ xs. slice_get xs k ≡ Some x) (sym is) (get_more ss (s ∷ []) k x at))

pub ready_last : (n : Ingress) (ss ts : List EdgeStart) (s : EdgeStart) → AreReady n ts → ts ≡ ss ++ s ∷ [] → PutsInto n s.pass
ready_last n ss ts s all is = all (length ss) s (subst (λ xs. slice_get xs (length ss) ≡ Some s) (sym is) (get_last ss s))

-- the last one, where there is one
pub next_ready : (n : Ingress) (o : Option EdgeStart) (ss ts : List EdgeStart) → AreReady n ts → ts ≡ ss ++ option_to_list o → IfSome o (λ s. PutsInto n s.pass)
next_ready n None ss ts all is = tt
next_ready n (Some s) ss ts all is = ready_last n ss ts s all is

pub next_others : (n : Ingress) (o : Option EdgeStart) (ss ts : List EdgeStart) → AreReady n ts → ts ≡ ss ++ option_to_list o → IfSome o (λ s. AreReady n ss)
next_others n None ss ts all is = tt
next_others n (Some s) ss ts all is = ready_front n ss ts s all is

pub next_items : (o : Option EdgeStart) (ss ts : List EdgeStart) → ts ≡ ss ++ option_to_list o → IfSome o (λ s. ts ≡ ss ++ s ∷ [])
next_items None ss ts is = tt
next_items (Some s) ss ts is = is

pub next_fewer : (o : Option EdgeStart) (ss ts : List EdgeStart) → ts ≡ ss ++ option_to_list o → IfSome o (λ s. length ts ≡ length ss + 1)
next_fewer None ss ts is = tt
next_fewer (Some s) ss ts is = ap length is ∙ length-append ss (s ∷ [])

done_snoc : (n : Ingress) (ss : List EdgeStart) (es : List EdgeEnd) (s : EdgeStart) (e : EdgeEnd) → AreDone n ss es → IsEdgeDone n s e
    → AreDone n (ss ++ s ∷ []) (es ++ e ∷ [])
done_snoc n ss es s e all one =
    let more : length (es ++ e ∷ []) ≡ length es + 1 = length-append es (e ∷ []) in
    let whole : length (ss ++ s ∷ []) ≡ length ss + 1 = length-append ss (s ∷ []) in
    record {
      sized = more ∙ (ap (λ m. m + 1) all.sized ∙ sym whole);
      each = λ k x at. elim (get_parts es e k x at) [
        | inl before ↦ has_more (λ y. IsEdgeDone n y x) ss s k (all.each k x before)
        | inr last ↦
            let place : length ss ≡ k = sym all.sized ∙ sym last.0 in
            subst (λ j. HasAt EdgeStart (λ y. IsEdgeDone n y x) (ss ++ s ∷ []) j) place (has_last (λ y. IsEdgeDone n y x) ss s (subst (λ y. IsEdgeDone n s y) (sym last.1) one))
      ];
    }

pub done_push : (n : Ingress) (ss ts : List EdgeStart) (es fs : List EdgeEnd) (s : EdgeStart) (e : EdgeEnd) → AreDone n ss es → IsEdgeDone n s e
    → ts ≡ ss ++ s ∷ [] → fs ≡ es ++ e ∷ [] → AreDone n ts fs
done_push n ss ts es fs s e all one starts ends =
    subst (λ xs. AreDone n xs fs) (sym starts) (subst (λ ys. AreDone n (ss ++ s ∷ []) ys) (sym ends) (done_snoc n ss es s e all one))

-- ---- taken apart

-- by the same lists
pub by_lists : (group name : List ℕ) (k : ℕ) (t taken : List Message) (a accepted : List ℕ) (g given : List Given) (hs : List Handed) (ps : List ℕ) → t ≡ taken → a ≡ accepted → g ≡ given
    → IsOfNode group name k t a g hs ps → IsOfNode group name k taken accepted given hs ps
by_lists group name k t taken a accepted g given hs ps one two three is =
    subst (λ x. IsOfNode group name k x accepted given hs ps) one
    (subst (λ x. IsOfNode group name k t x given hs ps) two (subst (λ x. IsOfNode group name k t a x hs ps) three is))

-- by the names that the node's config has
pub by_names : (group name : List ℕ) (c : Config) (k : ℕ) (taken : List Message) (accepted : List ℕ) (given : List Given) (hs : List Handed) (ps : List ℕ) → group ≡ c.group → name ≡ c.node
    → IsOfNode group name k taken accepted given hs ps → IsOfNode c.group c.node k taken accepted given hs ps
by_names group name c k taken accepted given hs ps one other is =
    subst (λ g. IsOfNode g c.node k taken accepted given hs ps) one (subst (λ n. IsOfNode group n k taken accepted given hs ps) other is)

pub theirs_less : (es : List EdgeEnd) (ts us : List (Option Token)) (t : Option Token) → us ≡ ts ++ t ∷ [] → AreTheirs es us → AreTheirs es ts
theirs_less es ts us t tokens all k x token there got =
    all k x token there (subst (λ xs. slice_get xs k ≡ Some (Some token)) (sym tokens) (get_more ts (t ∷ []) k (Some token) got))

pub theirs_before : (es fs : List EdgeEnd) (ts us : List (Option Token)) (e : EdgeEnd) (t : Option Token) → es ≡ fs ++ e ∷ [] → us ≡ ts ++ t ∷ [] → AreTheirs es us → AreTheirs fs ts
theirs_before es fs ts us e t ends tokens all k x token there got =
    theirs_less es ts us t tokens all k x token (subst (λ xs. slice_get xs k ≡ Some x) (sym ends) (get_more fs (e ∷ []) k x there)) got

pub sized_before : (es fs : List EdgeEnd) (ts us : List (Option Token)) (e : EdgeEnd) (t : Option Token) → es ≡ fs ++ e ∷ [] → us ≡ ts ++ t ∷ [] → length us ≡ length es → length ts ≡ length fs
sized_before es fs ts us e t ends tokens sized =
    let more : length us ≡ length ts + 1 = ap length tokens ∙ length-append ts (t ∷ []) in
    let least : length es ≡ length fs + 1 = ap length ends ∙ length-append fs (e ∷ []) in
    omega (arith, more, least, sized)

pub token_at : (us ts : List (Option Token)) (t : Token) (k : ℕ) → us ≡ ts ++ Some t ∷ [] → length us ≡ k + 1 → slice_get us k ≡ Some (Some t)
token_at us ts t k is sized =
    let more : length us ≡ length ts + 1 = ap length is ∙ length-append ts (Some t ∷ []) in
    let place : length ts ≡ k = omega arith in
    subst (λ xs. slice_get xs k ≡ Some (Some t)) (sym is) (subst (λ j. slice_get (ts ++ Some t ∷ []) j ≡ Some (Some t)) place (get_last ts (Some t)))

apart_snoc : (ls : Lists) (es : List EdgeEnd) (ts : List (Option Token)) (rs : List NodeReport) (ps : List PutPass) (e : EdgeEnd) (t : Option Token) (r : NodeReport) (p : PutPass)
    → length ts ≡ length es → e.pass ≡ p → IsReportOf ls (length es) e r → IsFrontOf e t → AreApart ls es ts rs ps
    → AreApart ls (es ++ e ∷ []) (ts ++ t ∷ []) (rs ++ r ∷ []) (ps ++ p ∷ [])
apart_snoc ls es ts rs ps e t r p tokens own report front all =
    let whole : length (es ++ e ∷ []) ≡ length es + 1 = length-append es (e ∷ []) in
    let reports : length (rs ++ r ∷ []) ≡ length rs + 1 = length-append rs (r ∷ []) in
    let passes : length (ps ++ p ∷ []) ≡ length ps + 1 = length-append ps (p ∷ []) in
    record {
      sized = reports ∙ (ap (λ m. m + 1) all.sized ∙ sym whole);
      same = passes ∙ (ap (λ m. m + 1) all.same ∙ sym whole);
      reports = λ k x at. elim (get_parts rs r k x at) [
        | inl before ↦ has_more (λ y. IsReportOf ls k y x) es e k (all.reports k x before)
        | inr last ↦
            let place : length es ≡ k = sym all.sized ∙ sym last.0 in
            subst (λ j. HasAt EdgeEnd (λ y. IsReportOf ls j y x) (es ++ e ∷ []) j) place
            (has_last (λ y. IsReportOf ls (length es) y x) es e (subst (λ y. IsReportOf ls (length es) e y) (sym last.1) report))
      ];
      passes = λ k x at. elim (get_parts es e k x at) [
        | inl before ↦ get_more ps (p ∷ []) k x.pass (all.passes k x before)
        | inr last ↦
            let place : length ps ≡ k = all.same ∙ sym last.0 in
            let same : p ≡ x.pass = sym own ∙ ap (λ (y : EdgeEnd). y.pass) (sym last.1) in
            subst (λ j. slice_get (ps ++ p ∷ []) j ≡ Some x.pass) place (get_last ps p ∙ ap Some same)
      ];
      owners = λ k x at. elim (get_parts ps p k x at) [
        | inl before ↦ has_more (λ y. y.pass ≡ x) es e k (all.owners k x before)
        | inr last ↦
            let place : length es ≡ k = sym all.same ∙ sym last.0 in
            subst (λ j. HasAt EdgeEnd (λ y. y.pass ≡ x) (es ++ e ∷ []) j) place (has_last (λ y. y.pass ≡ x) es e (own ∙ sym last.1))
      ];
      fronts = λ k x at. elim (get_parts es e k x at) [
        | inl before ↦ has_more (IsFrontOf x) ts t k (all.fronts k x before)
        | inr last ↦
            let place : length ts ≡ k = tokens ∙ sym last.0 in
            subst (λ j. HasAt (Option Token) (IsFrontOf x) (ts ++ t ∷ []) j) place (has_last (IsFrontOf x) ts t (subst (λ y. IsFrontOf y t) (sym last.1) front))
      ];
      all = ap (λ xs. xs ++ p ∷ []) all.all ∙ (ap (λ x. map (λ (y : EdgeEnd). y.pass) es ++ x ∷ []) (sym own) ∙ sym (map-append (λ (y : EdgeEnd). y.pass) es (e ∷ [])));
    }

pub apart_push : (ls : Lists) (es fs : List EdgeEnd) (ts us : List (Option Token)) (rs qs : List NodeReport) (ps ws : List PutPass) (e : EdgeEnd) (t : Option Token) (r : NodeReport) (p : PutPass)
    → fs ≡ es ++ e ∷ [] → us ≡ ts ++ t ∷ [] → qs ≡ rs ++ r ∷ [] → ws ≡ ps ++ p ∷ [] → length us ≡ length fs
    → e.pass ≡ p → IsReportOf ls (length es) e r → IsFrontOf e t → AreApart ls es ts rs ps → AreApart ls fs us qs ws
apart_push ls es fs ts us rs qs ps ws e t r p ends tokens reports passes sized own report front all =
    let longer : length fs ≡ length es + 1 = ap length ends ∙ length-append es (e ∷ []) in
    let more : length us ≡ length ts + 1 = ap length tokens ∙ length-append ts (t ∷ []) in
    let snoc : AreApart ls (es ++ e ∷ []) (ts ++ t ∷ []) (rs ++ r ∷ []) (ps ++ p ∷ []) = apart_snoc ls es ts rs ps e t r p (omega arith) own report front all in
    subst (λ xs. AreApart ls xs us qs ws) (sym ends)
    (subst (λ xs. AreApart ls (es ++ e ∷ []) xs qs ws) (sym tokens)
    (subst (λ xs. AreApart ls (es ++ e ∷ []) (ts ++ t ∷ []) xs ws) (sym reports)
    (subst (λ xs. AreApart ls (es ++ e ∷ []) (ts ++ t ∷ []) (rs ++ r ∷ []) xs) (sym passes) snoc)))

-- what the count on a ring says: what was taken out is a front of what it got
pub front_is : (n : ℕ) (e : EdgeEnd) (t : Token) (xs ys : List Item) → IsShorterBy n xs ys → xs ≡ popped e.inlet → ys ≡ all_offered t → IsFrontOf e (Some t)
front_is n e t xs ys shorter out got = record {
  token = t;
  there = refl;
  front = (shorter.0, ap (λ zs. zs ++ shorter.0) (sym out) ∙ (shorter.1 ∙ got));
}

none_of : {A : Type 0} (xs : List A) → length xs ≡ 0 → xs ≡ []
none_of [] e = refl
none_of (x ∷ xs) e = absurd (omega arith)

-- an empty ring: what was taken out is all that it got
pub all_is : (n : ℕ) (xs ys us vs : List Item) → IsShorterBy n xs ys → n ≡ 0 → xs ≡ us → ys ≡ vs → us ≡ vs
all_is n xs ys us vs shorter empty out got =
    let none : shorter.0 ≡ [] = none_of shorter.0 (shorter.2 ∙ empty) in
    sym out ∙ (sym (append-nil xs) ∙ (ap (λ zs. xs ++ zs) (sym none) ∙ (shorter.1 ∙ got)))

-- ---- passes

pub all_into : (n : Ingress) (ps : List PutPass) → ((k : ℕ) (p : PutPass) → slice_get ps k ≡ Some p → PutsInto n p) → AllPutInto n ps
all_into n [] each = tt
all_into n (p ∷ ps) each = (each 0 p refl, all_into n ps (λ k q at. each (suc k) q at))

into_snoc : (n : Ingress) (ps : List PutPass) (p : PutPass) → AllPutInto n ps → PutsInto n p → AllPutInto n (ps ++ p ∷ [])
into_snoc n [] p all one = (one, tt)
into_snoc n (q ∷ ps) p all one = (all.0, into_snoc n ps p all.1 one)

-- the passes of the edges' ends, and the host's
pub passes_into : (n : Ingress) (ls : Lists) (es : List EdgeEnd) (ts : List (Option Token)) (rs : List NodeReport) (ps qs : List PutPass) (p : PutPass)
    → AllInto n es → AreApart ls es ts rs ps → PutsInto n p → qs ≡ ps ++ p ∷ [] → AllPutInto n qs
passes_into n ls es ts rs ps qs p into apart one is =
    let owned : (k : ℕ) (q : PutPass) → slice_get ps k ≡ Some q → PutsInto n q =
    (λ k q at. subst (λ x. PutsInto n x) (apart.owners k q at).holds (into k (apart.owners k q at).element (apart.owners k q at).there)) in
    subst (λ xs. AllPutInto n xs) (sym is) (into_snoc n ps p (all_into n ps owned) one)

-- of each pass what was put was taken
pub taken_at : (taken : List Message) (ps : List PutPass) (k : ℕ) (p : PutPass) → AllTaken taken ps → slice_get ps k ≡ Some p
    → share_of p.sender taken ≡ frames_put p
taken_at taken [] k p all at = absurd (cc)
taken_at taken (q ∷ ps) zero p all at =
    let same : q ≡ p = cc in
    subst (λ x. share_of x.sender taken ≡ frames_put x) same all.0
taken_at taken (q ∷ ps) (suc k) p all at = taken_at taken ps k p all.1 at

-- ---- the report

pub tied_is : (ends : Ends) (r : Report) (ts : List (Option Token)) (t : Token) (ps qs : List PutPass)
    → r.taken ≡ ends.broker.taken → r.refusals ≡ ends.broker.refusals → r.refused ≡ ends.broker.refused → r.accepted ≡ ends.broker.accepted
    → r.is_cut ≡ ends.broker.is_cut → r.given ≡ ends.host.given
    → length ends.broker.tokens.items ≡ length ends.edges.items + 1 → ends.broker.tokens.items ≡ ts ++ Some t ∷ []
    → popped ends.host.inlet ≡ all_offered t → AreApart (lists_of ends) ends.edges.items ts r.nodes.items ps
    → qs ≡ ps ++ ends.host.pass ∷ [] → AllTaken (frames_taken ends.broker.pass) qs → IsTied ends r
tied_is ends r ts t ps qs taken refusals refused accepted is_cut given sized split all apart passes puts =
    let more : length ends.broker.tokens.items ≡ length ts + 1 = ap length split ∙ length-append ts (Some t ∷ []) in
    let place : length ts ≡ length ends.edges.items = omega arith in
    let last : HasAt (Option Token) (IsAllOf ends.host.inlet) (ts ++ Some t ∷ []) (length ts) =
    has_last (IsAllOf ends.host.inlet) ts (Some t) (record { token = t; there = refl; all = all }) in
    record {
      taken = taken;
      refusals = refusals;
      refused = refused;
      accepted = accepted;
      is_cut = is_cut;
      given = given;
      sized = apart.sized;
      nodes = apart.reports;
      fronts = λ k e at. subst (λ xs. HasAt (Option Token) (IsFrontOf e) xs k) (sym split) (has_more (IsFrontOf e) ts (Some t) k (apart.fronts k e at));
      all = subst (λ xs. HasAt (Option Token) (IsAllOf ends.host.inlet) xs (length ends.edges.items)) (sym split)
          (subst (λ j. HasAt (Option Token) (IsAllOf ends.host.inlet) (ts ++ Some t ∷ []) j) place last);
      shares = λ k e at. taken_at (frames_taken ends.broker.pass) qs k e.pass puts
          (subst (λ xs. slice_get xs k ≡ Some e.pass) (sym passes) (get_more ps (ends.host.pass ∷ []) k e.pass (apart.passes k e at)));
      share = taken_at (frames_taken ends.broker.pass) qs (length ps) ends.host.pass puts
          (subst (λ xs. slice_get xs (length ps) ≡ Some ends.host.pass) (sym passes) (get_last ps ends.host.pass));
    }
