-- Devices: each has a name of its own, whatever becomes of them.
use Rattle.std.proofs.Common.{◌≡◌, ◌⊎◌, ◌∙◌, sym, ap, refl, subst, inl, inr, ℕ, zero, suc, Bool, true, false, cond, List, [], ◌∷◌, ◌++◌, map, length, set, take, drop, Some, arith}
use Rattle.std.specs.List.{find}
use Rattle.std.specs.Prelude.{◌&&◌, slice_get}
use Rattle.std.specs.Str.{bytes_eq}
use Rattle.spk_payload.specs.Meaning.{MetricData}
use Rattle.spk_host_rules.specs.Data.{Device}
use Rattle.spk_host_rules.specs.Step.{changed_device, put_device, show_all}
use Rattle.spk_view.specs.Indexed.{device_name, IsApart}
use Rattle.spk_view.specs.Prepared.{has_device}
use Rattle.spk_view.proofs.Places.{none≢some, same-some, same-text, text-itself, text-turned, not-true, true-not, map-still, map-at, set-sees, append-sees, map-sees, find-at, any-at, lent-whole}

pub apart-mapped : (f : Device → Device) → ((d : Device) → (f d).name ≡ d.name) → (ds : List Device) → IsApart device_name ds → IsApart device_name (map f ds)
apart-mapped f kept ds apart i j d e at there same =
    let one = map-sees f ds i d at in
    let two = map-sees f ds j e there in
    apart i j one.0 two.0 one.1 two.1
    (sym (kept one.0) ∙ sym (ap (λ (x : Device). x.name) one.2) ∙ same ∙ ap (λ (x : Device). x.name) two.2 ∙ kept two.0)

-- of a list that was lent whole and mapped
pub apart-lent : (f : Device → Device) → ((d : Device) → (f d).name ≡ d.name) → (n : ℕ) (new lent old : List Device) → IsApart device_name old
    → new ≡ map f lent → lent ≡ old → n ≡ length old → length new ≡ length old → IsApart device_name (take n (new ++ drop (length new) old))
apart-lent f kept n new lent old apart is same count size =
    subst (IsApart device_name) (sym (lent-whole n new old count size ∙ is ∙ ap (map f) same)) (apart-mapped f kept old apart)

pub apart-set : (ds : List Device) (k : ℕ) (d new : Device) → IsApart device_name ds → slice_get ds k ≡ Some d → new.name ≡ d.name
    → IsApart device_name (set ds k new)
apart-set ds k d new apart at same i j x y seen there eq = by (set-sees ds k new i x seen) (set-sees ds k new j y there)
  where
    Seen : ℕ → Device → Type 0
    Seen i x = ((i ≡ k) × (x ≡ new)) ⊎ ((i ≡ k → ⊥) × (slice_get ds i ≡ Some x))

    by : Seen i x → Seen j y → i ≡ j
    by (inl a) (inl b) = a.0 ∙ sym b.0
    by (inl a) (inr b) = a.0 ∙ apart k j d y at b.1 (sym same ∙ sym (ap (λ (z : Device). z.name) a.1) ∙ eq)
    by (inr a) (inl b) = apart i k x d a.1 at (eq ∙ ap (λ (z : Device). z.name) b.1 ∙ same) ∙ sym b.0
    by (inr a) (inr b) = apart i j x y a.1 b.1 eq

pub apart-last : (ds : List Device) (new : Device) → IsApart device_name ds → has_device new.name ds ≡ false → IsApart device_name (ds ++ new ∷ [])
apart-last ds new apart absent i j x y seen there eq = by (append-sees ds new i x seen) (append-sees ds new j y there)
  where
    Seen : ℕ → Device → Type 0
    Seen i x = ((i ≡ length ds) × (x ≡ new)) ⊎ (slice_get ds i ≡ Some x)

    never : (i : ℕ) (x : Device) → slice_get ds i ≡ Some x → new.name ≡ x.name → ⊥
    never i x at same = true-not (has_device new.name ds) absent (any-at (λ (d : Device). bytes_eq new.name d.name) ds i x at (text-itself new.name x.name same))

    by : Seen i x → Seen j y → i ≡ j
    by (inl a) (inl b) = a.0 ∙ sym b.0
    by (inl a) (inr b) = absurd (never j y b (sym (ap (λ (z : Device). z.name) a.1) ∙ eq))
    by (inr a) (inl b) = absurd (never i x a (sym (ap (λ (z : Device). z.name) b.1) ∙ sym eq))
    by (inr a) (inr b) = apart i j x y a b eq

-- what a name finds
pub device-found : (name : List ℕ) (ds : List Device) (k : ℕ) (d : Device) → IsApart device_name ds → slice_get ds k ≡ Some d → bytes_eq name d.name ≡ true
    → find (λ (e : Device). bytes_eq name e.name) ds ≡ Some d
device-found name ds k d apart at is =
    find-at (λ (e : Device). bytes_eq name e.name) ds k d at is
    (λ j e there same. apart j k e d there at (sym (same-text name e.name same) ∙ same-text name d.name is))

find-same : (p q : Device → Bool) → ((d : Device) → p d ≡ q d) → (ds : List Device) → find p ds ≡ find q ds
find-same p q h [] = refl
find-same p q h (d ∷ ds) = ap (λ b. cond b (Some d) (find p ds)) (h d) ∙ ap (cond (q d) (Some d)) (find-same p q h ds)

-- the other way round
pub find-turned : (name : List ℕ) (ds : List Device) → find (λ (e : Device). bytes_eq e.name name) ds ≡ find (λ (e : Device). bytes_eq name e.name) ds
find-turned name ds = find-same (λ (e : Device). bytes_eq e.name name) (λ (e : Device). bytes_eq name e.name) (λ d. text-turned d.name name) ds

-- ---- a device is put in

pub put-there : (new : Device) (ds : List Device) (k : ℕ) (d : Device) → IsApart device_name ds → slice_get ds k ≡ Some d → bytes_eq new.name d.name ≡ true
    → put_device new ds ≡ set ds k new
put-there new [] k d apart at is = absurd (none≢some at)
put-there new (e ∷ ds) zero d apart at is = ap (λ b. cond b (new ∷ ds) (e ∷ put_device new ds)) (ap (λ (x : Device). bytes_eq new.name x.name) (same-some at) ∙ is)
put-there new (e ∷ ds) (suc k) d apart at is =
    ap (λ b. cond b (new ∷ ds) (e ∷ put_device new ds)) (not-true (bytes_eq new.name e.name)
    (λ h. far (apart 0 (suc k) e d refl at (sym (same-text new.name e.name h) ∙ same-text new.name d.name is))))
    ∙ ap (λ l. e ∷ l) (put-there new ds k d (λ i j x y a b same. back (apart (suc i) (suc j) x y a b same)) at is)
  where
    far : 0 ≡ suc k → ⊥
    far h = absurd (omega arith)

    back : {i j : ℕ} → suc i ≡ suc j → i ≡ j
    back h = omega arith

pub put-last : (new : Device) (ds : List Device) → ((k : ℕ) (d : Device) → slice_get ds k ≡ Some d → bytes_eq new.name d.name ≡ false) → put_device new ds ≡ ds ++ new ∷ []
put-last new [] h = refl
put-last new (e ∷ ds) h = ap (λ b. cond b (new ∷ ds) (e ∷ put_device new ds)) (h 0 e refl) ∙ ap (λ l. e ∷ l) (put-last new ds (λ k d at. h (suc k) d at))

-- ---- data of a device

pub changed-there : (name : List ℕ) (ms : List MetricData) (ds : List Device) (k : ℕ) (d : Device) → IsApart device_name ds → slice_get ds k ≡ Some d → bytes_eq name d.name ≡ true
    → map (changed_device name ms) ds ≡ set ds k (record d { rows = cond d.born (show_all ms d.rows) d.rows })
changed-there name ms ds k d apart at is =
    map-at (changed_device name ms) ds k d at (λ j e there off. other e (not-true (bytes_eq name e.name)
    (λ h. off (apart j k e d there at (sym (same-text name e.name h) ∙ same-text name d.name is)))))
    ∙ ap (λ b. set ds k (record d { rows = cond (d.born && b) (show_all ms d.rows) d.rows })) is
    ∙ ap (λ b. set ds k (record d { rows = cond b (show_all ms d.rows) d.rows })) (and-true d.born)
  where
    and-false : (b : Bool) → (b && false) ≡ false
    and-false true = refl
    and-false false = refl

    and-true : (b : Bool) → (b && true) ≡ b
    and-true true = refl
    and-true false = refl

    other : (e : Device) → bytes_eq name e.name ≡ false → changed_device name ms e ≡ e
    other e h = ap (λ b. record e { rows = cond (e.born && b) (show_all ms e.rows) e.rows }) h
        ∙ ap (λ b. record e { rows = cond b (show_all ms e.rows) e.rows }) (and-false e.born)

pub changed-nowhere : (name : List ℕ) (ms : List MetricData) (ds : List Device) → ((k : ℕ) (d : Device) → slice_get ds k ≡ Some d → bytes_eq name d.name ≡ false)
    → map (changed_device name ms) ds ≡ ds
changed-nowhere name ms ds h = map-still (changed_device name ms) ds (λ k e at. other e (h k e at))
  where
    and-false : (b : Bool) → (b && false) ≡ false
    and-false true = refl
    and-false false = refl

    other : (e : Device) → bytes_eq name e.name ≡ false → changed_device name ms e ≡ e
    other e h = ap (λ b. record e { rows = cond (e.born && b) (show_all ms e.rows) e.rows }) h
        ∙ ap (λ b. record e { rows = cond b (show_all ms e.rows) e.rows }) (and-false e.born)
