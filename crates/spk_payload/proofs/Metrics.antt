-- A metric is read exactly where its text means one, and else its first fault is found.
use Rattle.std.proofs.Common.{◌≡◌, ℕ, ◌%◌, ◌^◌, ◌⊎◌, Bool, true, false, not, eqb, cond, List, [], ◌∷◌, map, All, Option, Some, None, Result, Ok, Err, refl, sym, ap, subst, ◌∙◌, inl, inr}
use Rattle.std.specs.Option.{option_map, option_or}
use Rattle.std.specs.Str.{IsUtf8, is_utf8}
use Rattle.std.proofs.lemmas.Bool.Decides.{eqb_tells}
use Rattle.std.proofs.lemmas.Str.{is_utf8-from_IsUtf8, IsUtf8-from_is_utf8}
use Rattle.std.proofs.lemmas.List.Elements.{All-nil, All-cons, All-head, All-tail}
use Rattle.spk_protobuf.specs.declared.fault.WireFault.{WireFault}
use Rattle.spk_protobuf.specs.Grammar.{Shape, Varint, Eight, Bytes, Four, Entry}
use Rattle.spk_protobuf.specs.Reading.{items_of}
use Rattle.spk_protobuf.proofs.Items.{same_fields}
use Rattle.spk_payload.specs.declared.fault.PayloadFault.{PayloadFault}
use Rattle.spk_payload.specs.declared.fault.PayloadFault.TheVariants.{Wire, NotText}
use Rattle.spk_payload.specs.declared.values.Values.{Values}
use Rattle.spk_payload.specs.Meaning.{Content, MetricData, number_in, bytes_in, content_in, last, metric_of, HasText, MeansMetric}
use Rattle.spk_payload.specs.Reading.{◌>>=◌, each_item, no_metric, metric_entry, metric_at}
use Rattle.spk_payload.proofs.Texts.{text_at-text, text_at-other}

pub at_or_not : (P : ℕ → Type 0) (k n : ℕ) → P k → (eqb n k ≡ false → P n) → P n
at_or_not P k n at other =
    elim (eqb_tells n k) [
      | inl h ↦ subst P (sym h.1) at
      | inr h ↦ other h.0
    ]

abbrev at : ℕ → Shape → Entry
at n shape = record { number = n; shape = shape }

-- ---- one entry

-- what the entry says, and else what stood before
abbrev pub with_more : Values → MetricData → Entry → MetricData
with_more w m e = record {
  name = option_or (bytes_in 1 e) m.name;
  alias = option_or (number_in 2 e) m.alias;
  timestamp = option_or (number_in 3 e) m.timestamp;
  datatype = option_or (option_map (λ n. n % 2 ^ 32) (number_in 4 e)) m.datatype;
  historical = option_or (option_map (λ n. not (eqb n 0)) (number_in 5 e)) m.historical;
  transient = option_or (option_map (λ n. not (eqb n 0)) (number_in 6 e)) m.transient;
  null = option_or (option_map (λ n. not (eqb n 0)) (number_in 7 e)) m.null;
  value = option_or (content_in w e) m.value;
}

-- a fact of each number of the schema, and of all others
by_number : (P : ℕ → Type 0) (n : ℕ) → P 1 → P 2 → P 3 → P 4 → P 5 → P 6 → P 7 → P 10 → P 11 → P 12 → P 13 → P 14 → P 15 → P 16 → P 17 → P 18 → P 19
    → (eqb n 1 ≡ false → eqb n 2 ≡ false → eqb n 3 ≡ false → eqb n 4 ≡ false → eqb n 5 ≡ false → eqb n 6 ≡ false → eqb n 7 ≡ false → eqb n 10 ≡ false → eqb n 11 ≡ false → eqb n 12 ≡ false → eqb n 13 ≡ false → eqb n 14 ≡ false → eqb n 15 ≡ false → eqb n 16 ≡ false → eqb n 17 ≡ false → eqb n 18 ≡ false → eqb n 19 ≡ false → P n) → P n
by_number P n p1 p2 p3 p4 p5 p6 p7 p10 p11 p12 p13 p14 p15 p16 p17 p18 p19 other =
    at_or_not P 1 n p1 (λ f1. at_or_not P 2 n p2 (λ f2. at_or_not P 3 n p3 (λ f3. at_or_not P 4 n p4 (λ f4. at_or_not P 5 n p5 (λ f5. at_or_not P 6 n p6 (λ f6. at_or_not P 7 n p7 (λ f7. at_or_not P 10 n p10 (λ f10. at_or_not P 11 n p11 (λ f11. at_or_not P 12 n p12 (λ f12. at_or_not P 13 n p13 (λ f13. at_or_not P 14 n p14 (λ f14. at_or_not P 15 n p15 (λ f15. at_or_not P 16 n p16 (λ f16. at_or_not P 17 n p17 (λ f17. at_or_not P 18 n p18 (λ f18. at_or_not P 19 n p19 (λ f19. other f1 f2 f3 f4 f5 f6 f7 f10 f11 f12 f13 f14 f15 f16 f17 f18 f19)))))))))))))))))

varint_entry : (w : Values) (m : MetricData) (n v : ℕ) → metric_entry w m (at n (Varint v)) ≡ Ok (with_more w m (at n (Varint v)))
varint_entry w m n v =
    by_number (λ k. metric_entry w m (at k (Varint v)) ≡ Ok (with_more w m (at k (Varint v)))) n refl refl refl refl refl refl refl refl refl refl refl refl refl refl refl refl refl
    (λ f1 f2 f3 f4 f5 f6 f7 f10 f11 f12 f13 f14 f15 f16 f17 f18 f19. rw (f1, f2, f3, f4, f5, f6, f7, f10, f11, f12, f13, f14, f15, f16, f17, f18, f19) refl)

eight_entry : (w : Values) (m : MetricData) (n : ℕ) (b : List ℕ) → metric_entry w m (at n (Eight b)) ≡ Ok (with_more w m (at n (Eight b)))
eight_entry w m n b =
    by_number (λ k. metric_entry w m (at k (Eight b)) ≡ Ok (with_more w m (at k (Eight b)))) n refl refl refl refl refl refl refl refl refl refl refl refl refl refl refl refl refl
    (λ f1 f2 f3 f4 f5 f6 f7 f10 f11 f12 f13 f14 f15 f16 f17 f18 f19. rw (f1, f2, f3, f4, f5, f6, f7, f10, f11, f12, f13, f14, f15, f16, f17, f18, f19) refl)

four_entry : (w : Values) (m : MetricData) (n : ℕ) (b : List ℕ) → metric_entry w m (at n (Four b)) ≡ Ok (with_more w m (at n (Four b)))
four_entry w m n b =
    by_number (λ k. metric_entry w m (at k (Four b)) ≡ Ok (with_more w m (at k (Four b)))) n refl refl refl refl refl refl refl refl refl refl refl refl refl refl refl refl refl
    (λ f1 f2 f3 f4 f5 f6 f7 f10 f11 f12 f13 f14 f15 f16 f17 f18 f19. rw (f1, f2, f3, f4, f5, f6, f7, f10, f11, f12, f13, f14, f15, f16, f17, f18, f19) refl)

bytes_entry : (w : Values) (m : MetricData) (n : ℕ) (b : List ℕ) → HasText (at n (Bytes b)) → metric_entry w m (at n (Bytes b)) ≡ Ok (with_more w m (at n (Bytes b)))
bytes_entry w m n b =
    by_number (λ k. HasText (at k (Bytes b)) → metric_entry w m (at k (Bytes b)) ≡ Ok (with_more w m (at k (Bytes b)))) n (λ h. rw (text_at-text b h.0) refl) (λ h. refl) (λ h. refl) (λ h. refl) (λ h. refl) (λ h. refl) (λ h. refl) (λ h. refl) (λ h. refl) (λ h. refl) (λ h. refl) (λ h. refl) (λ h. rw (text_at-text b h.1) refl) (λ h. refl) (λ h. refl) (λ h. refl) (λ h. refl)
    (λ f1 f2 f3 f4 f5 f6 f7 f10 f11 f12 f13 f14 f15 f16 f17 f18 f19 h. rw (f1, f2, f3, f4, f5, f6, f7, f10, f11, f12, f13, f14, f15, f16, f17, f18, f19) refl)

pub entry_ok : (w : Values) (m : MetricData) (e : Entry) → HasText e → metric_entry w m e ≡ Ok (with_more w m e)
entry_ok w m e h = by_shape e.number e.shape h
  where
    by_shape : (n : ℕ) (shape : Shape) → HasText (at n shape) → metric_entry w m (at n shape) ≡ Ok (with_more w m (at n shape))
    by_shape n (Varint v) t = varint_entry w m n v
    by_shape n (Eight b) t = eight_entry w m n b
    by_shape n (Bytes b) t = bytes_entry w m n b t
    by_shape n (Four b) t = four_entry w m n b

-- whether a text is UTF-8
utf8_or_not : (b : List ℕ) → IsUtf8 b ⊎ (IsUtf8 b → ⊥)
utf8_or_not b = by_test (is_utf8 b) refl
  where
    by_test : (t : Bool) → is_utf8 b ≡ t → IsUtf8 b ⊎ (IsUtf8 b → ⊥)
    by_test true e = inl (IsUtf8-from_is_utf8 b e)
    by_test false e = inr (λ h. let clash : true ≡ false = sym (is_utf8-from_IsUtf8 b h) ∙ e in absurd cc)

plain_texts : (n : ℕ) (shape : Shape) → ((k : ℕ) → bytes_in k (at n shape) ≡ None) → HasText (at n shape)
plain_texts n shape none = (rw (none 1) tt, rw (none 15) tt)

no_bytes : (b : Bool) → cond {A = Option (List ℕ)} b None None ≡ None
no_bytes true = refl
no_bytes false = refl

-- an entry has its texts, or it is refused
pub entry_or_not : (w : Values) (m : MetricData) (e : Entry) → HasText e ⊎ ((HasText e → ⊥) × (metric_entry w m e ≡ Err NotText))
entry_or_not w m e = by_shape e.number e.shape
  where
    by_shape : (n : ℕ) (shape : Shape) → HasText (at n shape) ⊎ ((HasText (at n shape) → ⊥) × (metric_entry w m (at n shape) ≡ Err NotText))
    by_shape n (Varint v) = inl (plain_texts n (Varint v) (λ k. no_bytes (eqb n k)))
    by_shape n (Eight b) = inl (plain_texts n (Eight b) (λ k. no_bytes (eqb n k)))
    by_shape n (Four b) = inl (plain_texts n (Four b) (λ k. no_bytes (eqb n k)))
    by_shape n (Bytes b) =
        let P : ℕ → Type 0 = λ k. HasText (at k (Bytes b)) ⊎ ((HasText (at k (Bytes b)) → ⊥) × (metric_entry w m (at k (Bytes b)) ≡ Err NotText)) in
        at_or_not P 1 n (elim (utf8_or_not b) [ inl u ↦ inl (u, tt) | inr u ↦ inr (λ h. u h.0, rw (text_at-other b u) refl) ])
        (λ f1. at_or_not P 15 n (elim (utf8_or_not b) [ inl u ↦ inl (tt, u) | inr u ↦ inr (λ h. u h.1, rw (text_at-other b u) refl) ])
        (λ f15. inl (rw f1 tt, rw f15 tt)))

-- ---- all entries

pub or_assoc : {X : Type 0} (a b c : Option X) → option_or a (option_or b c) ≡ option_or (option_or a b) c
or_assoc None b c = refl
or_assoc (Some x) b c = refl

pub or_none : {X : Type 0} (a : Option X) → option_or a None ≡ a
or_none None = refl
or_none (Some x) = refl

pub map_or : {X Y : Type 0} (f : X → Y) (a b : Option X) → option_map f (option_or a b) ≡ option_or (option_map f a) (option_map f b)
map_or f None b = refl
map_or f (Some x) b = refl

-- what the last entries say, and else what stood before
abbrev with_all : Values → MetricData → List Entry → MetricData
with_all w m es = record {
  name = option_or (last (bytes_in 1) es) m.name;
  alias = option_or (last (number_in 2) es) m.alias;
  timestamp = option_or (last (number_in 3) es) m.timestamp;
  datatype = option_or (option_map (λ n. n % 2 ^ 32) (last (number_in 4) es)) m.datatype;
  historical = option_or (option_map (λ n. not (eqb n 0)) (last (number_in 5) es)) m.historical;
  transient = option_or (option_map (λ n. not (eqb n 0)) (last (number_in 6) es)) m.transient;
  null = option_or (option_map (λ n. not (eqb n 0)) (last (number_in 7) es)) m.null;
  value = option_or (last (content_in w) es) m.value;
}

abbrev pub metric_with : Option (List ℕ) → Option ℕ → Option ℕ → Option ℕ → Option Bool → Option Bool → Option Bool → Option Content → MetricData
metric_with name alias timestamp datatype historical transient null value = record { name = name; alias = alias; timestamp = timestamp; datatype = datatype; historical = historical; transient = transient; null = null; value = value }

pub same_metric : {n n' : Option (List ℕ)} {a a' : Option ℕ} {t t' : Option ℕ} {d d' : Option ℕ} {h h' : Option Bool} {r r' : Option Bool} {u u' : Option Bool} {v v' : Option Content}
    → n ≡ n' → a ≡ a' → t ≡ t' → d ≡ d' → h ≡ h' → r ≡ r' → u ≡ u' → v ≡ v' → metric_with n a t d h r u v ≡ metric_with n' a' t' d' h' r' u' v'
same_metric n a t d h r u v = cc

map_step : {X : Type 0} (f : ℕ → X) (a b : Option ℕ) (old : Option X) → option_or (option_map f a) (option_or (option_map f b) old) ≡ option_or (option_map f (option_or a b)) old
map_step f a b old = or_assoc (option_map f a) (option_map f b) old ∙ ap (λ x. option_or x old) (sym (map_or f a b))

with_all-more : (w : Values) (m : MetricData) (e : Entry) (es : List Entry) → with_all w (with_more w m e) es ≡ with_all w m (e ∷ es)
with_all-more w m e es =
    same_metric
    (or_assoc (last (bytes_in 1) es) (bytes_in 1 e) m.name)
    (or_assoc (last (number_in 2) es) (number_in 2 e) m.alias)
    (or_assoc (last (number_in 3) es) (number_in 3 e) m.timestamp)
    (map_step (λ n. n % 2 ^ 32) (last (number_in 4) es) (number_in 4 e) m.datatype)
    (map_step (λ n. not (eqb n 0)) (last (number_in 5) es) (number_in 5 e) m.historical)
    (map_step (λ n. not (eqb n 0)) (last (number_in 6) es) (number_in 6 e) m.transient)
    (map_step (λ n. not (eqb n 0)) (last (number_in 7) es) (number_in 7 e) m.null)
    (or_assoc (last (content_in w) es) (content_in w e) m.value)

with_all-none : (w : Values) (es : List Entry) → with_all w no_metric es ≡ metric_of w es
with_all-none w es = same_metric (or_none (last (bytes_in 1) es)) (or_none (last (number_in 2) es)) (or_none (last (number_in 3) es)) (or_none (option_map (λ n. n % 2 ^ 32) (last (number_in 4) es))) (or_none (option_map (λ n. not (eqb n 0)) (last (number_in 5) es))) (or_none (option_map (λ n. not (eqb n 0)) (last (number_in 6) es))) (or_none (option_map (λ n. not (eqb n 0)) (last (number_in 7) es))) (or_none (last (content_in w) es))

abbrev pub Items : Type 0
Items = List (Result Entry WireFault)

abbrev pub fields : List Entry → Items
fields es = map Ok es

abbrev pub done : {A : Type 0} → A → Result A PayloadFault
done x = Ok x

abbrev pub failed : {A : Type 0} → PayloadFault → Result A PayloadFault
failed f = Err f

metric_items : (w : Values) (m : MetricData) (es : List Entry) → All HasText es → each_item (metric_entry w) m (fields es) ≡ Ok (with_all w m es)
unfolding each_item
metric_items w m [] h = refl
metric_items w m (e ∷ es) h =
    let one = entry_ok w m e (All-head HasText e es h) in
    rw one (metric_items w (with_more w m e) es (All-tail HasText e es h) ∙ ap done (with_all-more w m e es))

record ReadsMetric (w : Values) (m : MetricData) (items : Items) (result : MetricData) : Type 0 where
  pub entries : List Entry
  pub are : items ≡ map Ok entries
  pub texts : All HasText entries
  pub is : result ≡ with_all w m entries

pub ok_is : {A : Type 0} (x y : A) → done x ≡ done y → x ≡ y
ok_is x y e = cc

pub err_no_ok : {A X : Type 0} (f : PayloadFault) (x : A) → Err f ≡ done x → X
err_no_ok f x e = absurd cc

reads_metric : (w : Values) (m : MetricData) (items : Items) (result : MetricData) → each_item (metric_entry w) m items ≡ Ok result → ReadsMetric w m items result
unfolding each_item
reads_metric w m [] result e = record { entries = []; are = refl; texts = All-nil HasText; is = sym (ok_is m result e) }
reads_metric w m (Err x ∷ items) result e = err_no_ok (Wire x) result e
reads_metric w m (Ok x ∷ items) result e =
    elim (entry_or_not w m x) [
      | inl h ↦
          let one = entry_ok w m x h in
          let rest : each_item (metric_entry w) (with_more w m x) items ≡ Ok result = ap (λ (r : Result MetricData PayloadFault). r >>= λ t. each_item (metric_entry w) t items) (sym one) ∙ e in
          let r = reads_metric w (with_more w m x) items result rest in
          record {
            entries = x ∷ r.entries;
            are = ap (λ (others : Items). Ok x ∷ others) r.are;
            texts = All-cons HasText x r.entries h r.texts;
            is = r.is ∙ with_all-more w m x r.entries;
          }
      | inr h ↦ err_no_ok NotText result (ap (λ (r : Result MetricData PayloadFault). r >>= λ t. each_item (metric_entry w) t items) (sym h.1) ∙ e)
    ]

-- ---- the laws of a metric

pub metric_takes : (w : Values) (text : List ℕ) (m : MetricData) → metric_at w text ≡ Ok m → MeansMetric w text m
unfolding metric_at
metric_takes w text m e =
    let r = reads_metric w no_metric (items_of text) m e in
    record { fields = r.entries; are = (same_fields text r.entries).1 r.are; texts = r.texts; is = r.is ∙ with_all-none w r.entries }

pub metric_again : (w : Values) (text : List ℕ) (m : MetricData) → MeansMetric w text m → metric_at w text ≡ Ok m
unfolding metric_at
metric_again w text m h =
    let items = (same_fields text h.fields).0 h.are in
    rw items (metric_items w no_metric h.fields h.texts ∙ ap done (with_all-none w h.fields ∙ sym h.is))
