-- Entries of a SUBSCRIBE, and names of an UNSUBSCRIBE, beside a table of filters.
use Rattle.std.proofs.Common.{◌≡◌, ℕ, ◌+◌, ◌<◌, Bool, true, false, not, ◌||◌, cond, List, [], ◌∷◌, ◌++◌, get_or, length, map, take, refl, sym, ap, subst, ◌∙◌, Option, Some, None, is_some, unwrap_or}
use Rattle.std.specs.List.{filter, fold, list_any}
use Rattle.std.specs.Str.{bytes_eq}
use Rattle.std.proofs.lemmas.List.{map-append, map_more}
use Rattle.std.proofs.lemmas.Slice.Eq.{bytes_eq-Decides}
use Rattle.spk_broker_rules.specs.Table.{Table, has, put, remove, replaced}
use Rattle.spk_broker_rules.proofs.Lists.{any-map}
use Rattle.spk_broker.specs.Granting.{taken_from}
use Rattle.spk_broker.specs.Parts.{grant_view}
use Rattle.spk_broker.specs.Tables.{last_of, renewed, with_last}
use Rattle.spk_broker.specs.declared.session.Grant.{Grant}
use Rattle.spk_broker.proofs.Fronts.{or_none}
use Rattle.spk_broker.proofs.Retaining.{bytes-flip, same-bytes}

abbrev pub Found : Type 0
Found = List ℕ → Option (Option ℕ)

-- one more has this QoS
abbrev pub Notes : List ℕ → Option ℕ → Found → Found → Type 0
Notes name qos f g = (q : List ℕ) → g q ≡ cond (bytes_eq name q) (Some qos) (f q)

-- ---- which filters there are

pub has-more : (q : List ℕ) (t : Table ℕ) (e : List ℕ × ℕ) → has q (t ++ e ∷ []) ≡ bytes_eq e.0 q || has q t
has-more q [] e = refl
has-more q (x ∷ t) e = ap (λ b. bytes_eq x.0 q || b) (has-more q t e) ∙ by (bytes_eq x.0 q) (bytes_eq e.0 q) (has q t)
  where
    by : (a b c : Bool) → a || (b || c) ≡ b || (a || c)
    by true true c = refl
    by true false c = refl
    by false b c = refl

any-more : (q : List ℕ) (ns : List (List ℕ)) (n : List ℕ) → list_any (λ m. bytes_eq m q) (ns ++ n ∷ []) ≡ bytes_eq n q || list_any (λ m. bytes_eq m q) ns
any-more q [] n = refl
any-more q (x ∷ ns) n = ap (λ b. bytes_eq x q || b) (any-more q ns n) ∙ by (bytes_eq x q) (bytes_eq n q) (list_any (λ m. bytes_eq m q) ns)
  where
    by : (a b c : Bool) → a || (b || c) ≡ b || (a || c)
    by true true c = refl
    by true false c = refl
    by false b c = refl

-- the filters of one grant more
pub granted-more : (f g : Found) (gs : List Grant) (i : ℕ) (d : Grant) → i < length gs → Notes (grant_view (get_or gs i d)).0 None f g
    → ((q : List ℕ) → f q ≡ cond (has q (map grant_view (take i gs))) (Some None) None)
    → (q : List ℕ) → g q ≡ cond (has q (map grant_view (take (i + 1) gs))) (Some None) None
granted-more f g gs i d low h k q =
    h q ∙ ap (cond (bytes_eq (grant_view (get_or gs i d)).0 q) (Some None)) (k q)
    ∙ by (bytes_eq (grant_view (get_or gs i d)).0 q) (has q (map grant_view (take i gs)))
    ∙ sym (ap (λ t. cond (has q t) (Some None) None) (map_more grant_view gs i d low) ∙ ap (λ b. cond b (Some None) None) (has-more q (map grant_view (take i gs)) (grant_view (get_or gs i d))))
  where
    by : (a b : Bool) → cond {A = Option (Option ℕ)} a (Some None) (cond b (Some None) None) ≡ cond (a || b) (Some None) None
    by true b = refl
    by false b = refl

-- one name more
pub named-more : {X : Type 0} (v : X → List ℕ) (f g : Found) (xs : List X) (i : ℕ) (d : X) → i < length xs → Notes (v (get_or xs i d)) None f g
    → ((q : List ℕ) → is_some (f q) ≡ list_any (λ m. bytes_eq m q) (map v (take i xs)))
    → (q : List ℕ) → is_some (g q) ≡ list_any (λ m. bytes_eq m q) (map v (take (i + 1) xs))
named-more v f g xs i d low h k q =
    ap is_some (h q) ∙ by (bytes_eq (v (get_or xs i d)) q)
    ∙ sym (ap (list_any (λ m. bytes_eq m q)) (map_more v xs i d low) ∙ any-more q (map v (take i xs)) (v (get_or xs i d)))
  where
    by : (a : Bool) → is_some (cond a (Some None) (f q)) ≡ a || list_any (λ m. bytes_eq m q) (map v (take i xs))
    by true = refl
    by false = k q

-- ---- entries

-- no entry is of any of these
pub none-last : (f : Found) (t : Table ℕ) → ((q : List ℕ) → last_of (f q) ≡ None) → map (with_last f) t ≡ t
none-last f [] h = refl
none-last f (g ∷ gs) h = ap (λ o. (g.0, unwrap_or o g.1) ∷ map (with_last f) gs) (h g.0) ∙ ap (λ l. g ∷ l) (none-last f gs h)

-- the table has the filters of these, and no entry
pub no-entry : (f : Found) (t : Table ℕ) → ((q : List ℕ) → f q ≡ cond (has q t) (Some None) None) → map (with_last f) t ≡ t
no-entry f t h = none-last f t (λ q. ap last_of (h q) ∙ by (has q t))
  where
    by : (b : Bool) → last_of (cond b (Some None) None) ≡ None
    by true = refl
    by false = refl

pub last-has : (name : List ℕ) (f : Found) (t : Table ℕ) → has name (map (with_last f) t) ≡ has name t
last-has name f t = any-map (with_last f) (λ e. bytes_eq e.0 name) (λ e. bytes_eq e.0 name) (λ e. refl) t

one-last : (name : List ℕ) (qos : ℕ) (f g : Found) (e : List ℕ × ℕ) → Notes name (Some qos) f g → with_last g e ≡ replaced name qos (with_last f e)
one-last name qos f g e h = ap (λ o. (e.0, unwrap_or (last_of o) e.1)) (h e.0) ∙ by (bytes_eq name e.0) (bytes-flip name e.0)
  where
    by : (b : Bool) → b ≡ bytes_eq e.0 name → (e.0, unwrap_or (last_of (cond b (Some (Some qos)) (f e.0))) e.1) ≡ cond (bytes_eq e.0 name) (e.0, qos) (with_last f e)
    by true s = ap (λ b. cond b (e.0, qos) (with_last f e)) s
    by false s = ap (λ b. cond b (e.0, qos) (with_last f e)) s

all-last : (name : List ℕ) (qos : ℕ) (f g : Found) (t : Table ℕ) → Notes name (Some qos) f g → map (with_last g) t ≡ map (replaced name qos) (map (with_last f) t)
all-last name qos f g [] h = refl
all-last name qos f g (e ∷ t) h =
    ap (λ x. x ∷ map (with_last g) t) (one-last name qos f g e h) ∙ ap (λ l. replaced name qos (with_last f e) ∷ l) (all-last name qos f g t h)

none-replaced : (name : List ℕ) (qos : ℕ) (t : Table ℕ) → has name t ≡ false → map (replaced name qos) t ≡ t
none-replaced name qos [] e = refl
none-replaced name qos (g ∷ gs) e =
    let (this, rest) = or_none (bytes_eq g.0 name) (has name gs) e in
    ap (λ b. cond b (g.0, qos) g ∷ map (replaced name qos) gs) this ∙ ap (λ l. g ∷ l) (none-replaced name qos gs rest)

-- the grants after an entry of a filter that stands, and of a new one
pub put-there : (name : List ℕ) (qos : ℕ) (f g : Found) (t : Table ℕ) → Notes name (Some qos) f g → has name t ≡ true
    → map (with_last g) t ≡ put name qos (map (with_last f) t)
put-there name qos f g t h e =
    let old = map (with_last f) t in
    all-last name qos f g t h ∙ sym (ap (λ b. cond b (map (replaced name qos) old) (old ++ (name, qos) ∷ [])) (last-has name f t ∙ e))

pub put-new : (name : List ℕ) (qos : ℕ) (f g : Found) (t : Table ℕ) → Notes name (Some qos) f g → has name t ≡ false
    → map (with_last g) (t ++ (name, qos) ∷ []) ≡ put name qos (map (with_last f) t)
put-new name qos f g t h e =
    let old = map (with_last f) t in
    let none : has name old ≡ false = last-has name f t ∙ e in
    let own : g name ≡ Some (Some qos) = h name ∙ ap (λ b. cond b (Some (Some qos)) (f name)) ((bytes_eq-Decides name name).1 refl) in
    map-append (with_last g) t ((name, qos) ∷ [])
    ∙ ap (λ l. l ++ with_last g (name, qos) ∷ []) (all-last name qos f g t h ∙ none-replaced name qos old none)
    ∙ ap (λ o. old ++ (name, unwrap_or (last_of o) qos) ∷ []) own
    ∙ sym (ap (λ b. cond b (map (replaced name qos) old) (old ++ (name, qos) ∷ [])) none)

-- the table has all filters after it
pub told-there : (name : List ℕ) (o : Option ℕ) (f g : Found) (t : Table ℕ) → Notes name o f g → ((q : List ℕ) → is_some (f q) ≡ has q t) → has name t ≡ true
    → (q : List ℕ) → is_some (g q) ≡ has q t
told-there name o f g t h k e q = ap is_some (h q) ∙ by (bytes_eq name q) refl
  where
    by : (b : Bool) → bytes_eq name q ≡ b → is_some (cond b (Some o) (f q)) ≡ has q t
    by true s = sym (subst (λ n. has n t ≡ true) (same-bytes name q s) e)
    by false s = k q

pub told-new : (name : List ℕ) (qos : ℕ) (o : Option ℕ) (f g : Found) (t : Table ℕ) → Notes name o f g → ((q : List ℕ) → is_some (f q) ≡ has q t)
    → (q : List ℕ) → is_some (g q) ≡ has q (t ++ (name, qos) ∷ [])
told-new name qos o f g t h k q = ap is_some (h q) ∙ by (bytes_eq name q) ∙ sym (has-more q t (name, qos))
  where
    by : (b : Bool) → is_some (cond b (Some o) (f q)) ≡ b || has q t
    by true = refl
    by false = k q

-- all grants with what the table says
pub renewed-all : (f : Found) (gs : List Grant) → map grant_view (map (renewed f) gs) ≡ map (with_last f) (map grant_view gs)
renewed-all f [] = refl
renewed-all f (g ∷ gs) = ap (λ l. with_last f (grant_view g) ∷ l) (renewed-all f gs)

-- ---- names

pub kept-more : (p : List ℕ × ℕ → Bool) (gs : List Grant) (i : ℕ) (d : Grant) → i < length gs
    → filter p (map grant_view (take (i + 1) gs)) ≡ filter p (map grant_view (take i gs)) ++ cond (p (grant_view (get_or gs i d))) (grant_view (get_or gs i d) ∷ []) []
kept-more p gs i d low = ap (filter p) (map_more grant_view gs i d low) ∙ more (map grant_view (take i gs)) (grant_view (get_or gs i d))
  where
    push : (b : Bool) (x : List ℕ × ℕ) (l r : Table ℕ) → cond b (x ∷ (l ++ r)) (l ++ r) ≡ cond b (x ∷ l) l ++ r
    push true x l r = refl
    push false x l r = refl

    more : (t : Table ℕ) (e : List ℕ × ℕ) → filter p (t ++ e ∷ []) ≡ filter p t ++ cond (p e) (e ∷ []) []
    more [] e = refl
    more (x ∷ t) e = ap (λ l. cond (p x) (x ∷ l) l) (more t e) ∙ push (p x) x (filter p t) (cond (p e) (e ∷ []) [])

filter-same : (p q : List ℕ × ℕ → Bool) → ((e : List ℕ × ℕ) → p e ≡ q e) → (t : Table ℕ) → filter p t ≡ filter q t
filter-same p q h [] = refl
filter-same p q h (e ∷ t) = ap (λ b. cond b (e ∷ filter p t) (filter p t)) (h e) ∙ ap (λ l. cond (q e) (e ∷ l) l) (filter-same p q h t)

filter-all : (t : Table ℕ) → filter (λ e. true) t ≡ t
filter-all [] = refl
filter-all (e ∷ t) = ap (λ l. e ∷ l) (filter-all t)

filter-twice : (a b : List ℕ × ℕ → Bool) (t : Table ℕ) → filter (λ e. not (b e)) (filter (λ e. not (a e)) t) ≡ filter (λ e. not (a e || b e)) t
filter-twice a b [] = refl
filter-twice a b (e ∷ t) = by (a e) (b e) refl (filter-twice a b t)
  where
    first : Table ℕ
    first = filter (λ x. not (a x)) t

    by : (p q : Bool) → b e ≡ q → filter (λ x. not (b x)) first ≡ filter (λ x. not (a x || b x)) t
        → filter (λ x. not (b x)) (cond (not p) (e ∷ first) first) ≡ cond (not (p || q)) (e ∷ filter (λ x. not (a x || b x)) t) (filter (λ x. not (a x || b x)) t)
    by true q s r = r
    by false true s r = ap (λ k. cond (not k) (e ∷ filter (λ x. not (b x)) first) (filter (λ x. not (b x)) first)) s ∙ r
    by false false s r = ap (λ k. cond (not k) (e ∷ filter (λ x. not (b x)) first) (filter (λ x. not (b x)) first)) s ∙ ap (λ l. e ∷ l) r

-- all names are taken back at once
taken-all : (t : Table ℕ) (ns : List (List ℕ)) → filter (λ e. not (list_any (λ n. bytes_eq n e.0) ns)) t ≡ fold taken_from t ns
taken-all t [] = filter-all t
taken-all t (n ∷ ns) =
    filter-same (λ e. not (bytes_eq n e.0 || list_any (λ m. bytes_eq m e.0) ns)) (λ e. not (bytes_eq e.0 n || list_any (λ m. bytes_eq m e.0) ns))
    (λ e. ap (λ b. not (b || list_any (λ m. bytes_eq m e.0) ns)) (bytes-flip n e.0)) t
    ∙ sym (filter-twice (λ e. bytes_eq e.0 n) (λ e. list_any (λ m. bytes_eq m e.0) ns) t)
    ∙ taken-all (remove n t) ns

pub taken-is : (f : Found) (t : Table ℕ) (ns : List (List ℕ)) → ((q : List ℕ) → is_some (f q) ≡ list_any (λ n. bytes_eq n q) ns)
    → filter (λ e. not (is_some (f e.0))) t ≡ fold taken_from t ns
taken-is f t ns h =
    filter-same (λ e. not (is_some (f e.0))) (λ e. not (list_any (λ n. bytes_eq n e.0) ns)) (λ e. ap not (h e.0)) t ∙ taken-all t ns
