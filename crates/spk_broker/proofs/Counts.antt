-- Grants counted session by session, and entries granted one after the other.
use Rattle.std.proofs.Common.{◌≡◌, ℕ, zero, suc, ◌+◌, ◌-◌, ◌<◌, ◌≤◌, min, Bool, true, false, ◌||◌, cond, ltb, List, [], ◌∷◌, ◌++◌, length, take, drop, get_or, refl, sym, ap, ◌∙◌, arith, append_assoc, Option, Some, None}
use Rattle.std.specs.Prelude.{◌==◌, ◌&&◌}
use Rattle.std.specs.List.{flat_map, fold, list_all}
use Rattle.spk_packets.specs.Grammar.{is_grant}
use Rattle.std.proofs.lemmas.Bool.{le-leb}
use Rattle.std.specs.Option.{IfSome}
use Rattle.std.proofs.lemmas.List.{length-append, length-drop}
use Rattle.std.proofs.lemmas.Bool.Decides.{Decides-ltb}
use Rattle.spk_broker_rules.specs.Data as plain
use Rattle.spk_broker_rules.specs.Step.{all_grants, other_grants}
use Rattle.spk_broker_rules.specs.Table.{Table, has, put}
use Rattle.spk_broker_rules.specs.Words.{codes_of, granted, granted_of, is_granted, option_list, with_entry}
use Rattle.spk_broker.specs.Asking.{sessions_now}
use Rattle.spk_broker.specs.Both.{Both}
use Rattle.spk_broker.specs.Counting.{grants_in}
use Rattle.spk_broker.specs.Granting.{Grown, with_request}

-- one session's are its own, and those behind it
pub first-grants : (b : Both) (bs : List Both) → all_grants (sessions_now (b ∷ bs)) ≡ grants_in b.now + all_grants (sessions_now bs)
first-grants b bs = by b.now
  where
    by : (o : Option plain.Session) → all_grants (option_list o ++ sessions_now bs) ≡ grants_in o + all_grants (sessions_now bs)
    by None = omega arith
    by (Some s) = length-append s.grants (flat_map (λ (x : plain.Session). x.grants) (sessions_now bs))

-- one session more
pub more-grants : (bs : List Both) (i : ℕ) (d : Both) → i < length bs → all_grants (sessions_now (take (i + 1) bs)) ≡ all_grants (sessions_now (take i bs)) + grants_in (get_or bs i d).now
more-grants [] i d lt = absurd (omega (arith, lt))
more-grants (b ∷ bs) zero d lt = let one = first-grants b [] in omega (arith, one)
more-grants (b ∷ bs) (suc i) d lt =
    let z : suc i + 1 ≡ suc (i + 1) = omega arith in
    let rest = more-grants bs i d (omega (arith, lt)) in
    let one = first-grants b (take (i + 1) bs) in
    let two = first-grants b (take i bs) in
    ap (λ k. all_grants (sessions_now (take k (b ∷ bs)))) z ∙ omega (arith, rest, one, two)

-- before, at and behind a place
pub parted-grants : (bs : List Both) (i : ℕ) (d : Both) → i < length bs
    → all_grants (sessions_now bs) ≡ all_grants (sessions_now (take i bs)) + grants_in (get_or bs i d).now + all_grants (sessions_now (drop (i + 1) bs))
parted-grants [] i d lt = absurd (omega (arith, lt))
parted-grants (b ∷ bs) zero d lt = let one = first-grants b bs in omega (arith, one)
parted-grants (b ∷ bs) (suc i) d lt =
    let z : suc i + 1 ≡ suc (i + 1) = omega arith in
    let rest = parted-grants bs i d (omega (arith, lt)) in
    let one = first-grants b bs in
    let two = first-grants b (take i bs) in
    let same : all_grants (sessions_now (drop (suc i + 1) (b ∷ bs))) ≡ all_grants (sessions_now (drop (i + 1) bs)) = ap (λ k. all_grants (sessions_now (drop k (b ∷ bs)))) z in
    omega (arith, rest, one, two, same)

-- those of the others
pub others-are : (bs : List Both) (i : ℕ) (d : Both) (s : plain.Session) → i < length bs → (get_or bs i d).now ≡ Some s
    → other_grants s (sessions_now bs) ≡ all_grants (sessions_now (take i bs)) + all_grants (sessions_now (drop (i + 1) bs))
others-are bs i d s lt e =
    let parted = parted-grants bs i d lt in
    let own : grants_in (get_or bs i d).now ≡ length s.grants = ap grants_in e in
    omega (arith, parted, own)

-- ---- entries

-- counts that are alike up to the most grant alike
same-test : (a b n : ℕ) → min a 10000 ≡ min b 10000 → ltb (a + n) 10000 ≡ ltb (b + n) 10000
same-test a b n e = by (ltb (a + n) 10000) refl (ltb (b + n) 10000) refl
  where
    by : (p : Bool) → ltb (a + n) 10000 ≡ p → (q : Bool) → ltb (b + n) 10000 ≡ q → p ≡ q
    by true f true g = refl
    by false f false g = refl
    by true f false g =
        let low : a + n < 10000 = (Decides-ltb (a + n) 10000).0 f in
        let less : b + n < 10000 = omega (arith, e, low) in
        sym ((Decides-ltb (b + n) 10000).1 less) ∙ g
    by false f true g =
        let low : b + n < 10000 = (Decides-ltb (b + n) 10000).0 g in
        let less : a + n < 10000 = omega (arith, e, low) in
        sym f ∙ (Decides-ltb (a + n) 10000).1 less

pub same-granted : (a b : ℕ) (grants : Table ℕ) (e : List ℕ × ℕ) → min a 10000 ≡ min b 10000 → is_granted a grants e ≡ is_granted b grants e
same-granted a b grants e f = ap (λ t. has e.0 grants || t) (same-test a b (length grants) f)

same-request : (a b : ℕ) (g : Grown) (e : List ℕ × ℕ) → min a 10000 ≡ min b 10000 → with_request a g e ≡ with_request b g e
same-request a b g e f = by (is_granted a g.grants e) (is_granted b g.grants e) (same-granted a b g.grants e f)
  where
    of : Bool → Grown
    of t = record {
      grants = cond t (put e.0 (min 1 e.1) g.grants) g.grants;
      codes = g.codes ++ (cond t (min 1 e.1) 128) ∷ [];
      given = g.given ++ cond t (granted e ∷ []) [];
    }

    by : (p q : Bool) → p ≡ q → of p ≡ of q
    by p q h = ap of h

pub same-requests : (a b : ℕ) (g : Grown) (es : List (List ℕ × ℕ)) → min a 10000 ≡ min b 10000 → fold (with_request a) g es ≡ fold (with_request b) g es
same-requests a b g [] f = refl
same-requests a b g (e ∷ es) f = ap (λ x. fold (with_request a) x es) (same-request a b g e f) ∙ same-requests a b (with_request b g e) es f

abbrev pub grown : ℕ → Grown → List (List ℕ × ℕ) → Grown
grown o g es = record { grants = fold (with_entry o) g.grants es; codes = g.codes ++ codes_of o g.grants es; given = g.given ++ granted_of o g.grants es }

end : {X : Type 0} (xs : List X) → xs ≡ xs ++ []
end [] = refl
end (x ∷ xs) = ap (λ l. x ∷ l) (end xs)

pub requests-are : (o : ℕ) (g : Grown) (es : List (List ℕ × ℕ)) → fold (with_request o) g es ≡ grown o g es
requests-are o g [] = ap (λ l. record { grants = g.grants; codes = l; given = g.given }) (end g.codes) ∙ ap (λ l. record { grants = g.grants; codes = g.codes ++ []; given = l }) (end g.given)
requests-are o g (e ∷ es) =
    let next = with_entry o g.grants e in
    requests-are o (with_request o g e) es
    ∙ ap (λ l. record { grants = fold (with_entry o) next es; codes = l; given = (g.given ++ cond (is_granted o g.grants e) (granted e ∷ []) []) ++ granted_of o next es })
    (append_assoc g.codes (cond (is_granted o g.grants e) (min 1 e.1) 128 ∷ []) (codes_of o next es))
    ∙ ap (λ l. record { grants = fold (with_entry o) next es; codes = g.codes ++ codes_of o g.grants (e ∷ es); given = l })
    (append_assoc g.given (cond (is_granted o g.grants e) (granted e ∷ []) []) (granted_of o next es))

pub codes-are : (r : Grown) (o : ℕ) (grants : Table ℕ) (es : List (List ℕ × ℕ)) → r ≡ fold (with_request o) (record { grants = grants; codes = []; given = [] }) es → r.codes ≡ codes_of o grants es
codes-are r o grants es e = ap (λ (g : Grown). g.codes) (e ∙ requests-are o (record { grants = grants; codes = []; given = [] }) es)

-- one code for each entry
pub codes-long : (o : ℕ) (grants : Table ℕ) (es : List (List ℕ × ℕ)) → length (codes_of o grants es) ≡ length es
codes-long o grants [] = refl
codes-long o grants (e ∷ es) = ap suc (codes-long o (with_entry o grants e) es)

code-grant : (b : Bool) (qos : ℕ) → is_grant (cond b (min 1 qos) 128) ≡ true
code-grant true qos = ap (λ x. x || min 1 qos == 128) (le-leb (min 1 qos) 2 (omega arith))
code-grant false qos = refl

-- each is a QoS or 128
pub codes-grant : (o : ℕ) (grants : Table ℕ) (es : List (List ℕ × ℕ)) → list_all is_grant (codes_of o grants es) ≡ true
codes-grant o grants [] = refl
codes-grant o grants (e ∷ es) =
    ap (λ x. x && list_all is_grant (codes_of o (with_entry o grants e) es)) (code-grant (is_granted o grants e) e.1) ∙ codes-grant o (with_entry o grants e) es

-- ---- counts cut off at the most

cut-off : (x y : ℕ) → min (min x 10000 + min y 10000) 10000 ≡ min (x + y) 10000
cut-off x y = omega arith

pub counted : (bs : List Both) (i : ℕ) (d : Both) (a b : ℕ) (before behind : List Both) → i < length bs
    → a ≡ min (all_grants (sessions_now before)) 10000 → b ≡ min (all_grants (sessions_now behind)) 10000 → before ≡ take i bs → behind ≡ drop (i + 1) bs
    → IfSome (get_or bs i d).now (λ s. min (a + b) 10000 ≡ min (other_grants s (sessions_now bs)) 10000)
counted bs i d a b before behind lt e f g h = by (get_or bs i d).now refl
  where
    by : (o : Option plain.Session) → (get_or bs i d).now ≡ o → IfSome o (λ s. min (a + b) 10000 ≡ min (other_grants s (sessions_now bs)) 10000)
    by None is = tt
    by (Some s) is =
        ap (λ x. min (x + b) 10000) (e ∙ ap (λ l. min (all_grants (sessions_now l)) 10000) g)
        ∙ ap (λ x. min (min (all_grants (sessions_now (take i bs))) 10000 + x) 10000) (f ∙ ap (λ l. min (all_grants (sessions_now l)) 10000) h)
        ∙ cut-off (all_grants (sessions_now (take i bs))) (all_grants (sessions_now (drop (i + 1) bs)))
        ∙ ap (λ x. min x 10000) (sym (others-are bs i d s lt is))

-- the session at a place, its grants copied, and all entries granted
pub grown-is : (o : Option plain.Session) (ss : List plain.Session) (others : ℕ) (grants : Table ℕ) (result : Grown) (es : List (List ℕ × ℕ))
    → IfSome o (λ s. min others 10000 ≡ min (other_grants s ss) 10000) → IfSome o (λ s. grants ≡ s.grants)
    → result ≡ fold (with_request others) (record { grants = grants; codes = []; given = [] }) es
    → IfSome o (λ s. result ≡ record {
      grants = fold (with_entry (other_grants s ss)) s.grants es;
      codes = codes_of (other_grants s ss) s.grants es;
      given = granted_of (other_grants s ss) s.grants es;
    })
grown-is None ss others grants result es a b e = tt
grown-is (Some s) ss others grants result es a b e =
    e ∙ ap (λ l. fold (with_request others) (record { grants = l; codes = []; given = [] }) es) b
    ∙ same-requests others (other_grants s ss) (record { grants = s.grants; codes = []; given = [] }) es a
    ∙ requests-are (other_grants s ss) (record { grants = s.grants; codes = []; given = [] }) es

-- the default doesn't matter where there is an element
pub any-default : {X : Type 0} (xs : List X) (i : ℕ) (a b : X) → i < length xs → get_or xs i a ≡ get_or xs i b
any-default [] i a b lt = absurd (omega (arith, lt))
any-default (x ∷ xs) zero a b lt = refl
any-default (x ∷ xs) (suc i) a b lt = any-default xs i a b (omega (arith, lt))

take-all : {X : Type 0} (n : ℕ) (xs : List X) → length xs ≤ n → take n xs ≡ xs
take-all zero [] le = refl
take-all (suc n) [] le = refl
take-all zero (x ∷ xs) le = absurd (omega (arith, le))
take-all (suc n) (x ∷ xs) le = ap (λ l. x ∷ l) (take-all n xs (omega (arith, le)))

-- all that stands behind a place
pub rest-is : {X : Type 0} (xs : List X) (k : ℕ) → take (length xs - k) (drop k xs) ≡ drop k xs
rest-is xs k = let size = length-drop k xs in take-all (length xs - k) (drop k xs) (omega (arith, size))
