-- A payload is read exactly where its bytes mean one, and else its first fault is found.
use Rattle.std.proofs.Common.{◌≡◌, ℕ, ◌⊎◌, false, eqb, List, [], ◌∷◌, ◌++◌, map, Option, Some, None, Result, Ok, Err, refl, sym, ap, subst, ◌∙◌, append_assoc, inl, inr}
use Rattle.std.specs.Prelude.{IfSome, MatchOption, IfOk, IfErr}
use Rattle.std.specs.Option.{option_or}
use Rattle.std.specs.List.{filter_map, cons_option}
use Rattle.std.proofs.lemmas.List.{append-nil}
use Rattle.std.proofs.lemmas.List.Elements.{All-weaker}
use Rattle.spk_protobuf.specs.declared.fault.WireFault.{WireFault}
use Rattle.spk_protobuf.specs.Grammar.{Shape, Varint, Eight, Bytes, Four, Entry}
use Rattle.spk_protobuf.specs.Faults.{AreItems}
use Rattle.spk_protobuf.specs.Reading.{items_of}
use Rattle.spk_protobuf.proofs.Items.{items_are, items_only, same_fields}
use Rattle.spk_payload.specs.declared.fault.PayloadFault.{PayloadFault}
use Rattle.spk_payload.specs.declared.fault.PayloadFault.TheVariants.{NoMemory, Wire, NotText, HasOther, Mistyped}
use Rattle.spk_payload.specs.declared.payload.Payload.{Payload}
use Rattle.spk_payload.specs.declared.values.Values.{Values}
use Rattle.spk_payload.specs.declared.values.Values.TheVariants as choice
use Rattle.spk_payload.specs.Meaning.{MetricData, PayloadData, number_in, bytes_in, last, metric_of, HasText, MeansMetric, MeanEach, MeansPayload}
use Rattle.spk_payload.specs.Faults.{IsSoundField, IsFieldFault, IsMetricFault, IsSoundEntry, IsEntryFault, IsPayloadFault}
use Rattle.spk_payload.specs.Reading.{◌>>=◌, each_item, no_metric, metric_entry, metric_at, no_payload, payload_entry, payload_at}
use Rattle.spk_payload.specs.View.{payload_view, Gives}
use Rattle.spk_payload.proofs.Metrics.{at_or_not, Items, fields, done, failed, ok_is, err_no_ok, or_assoc, or_none, entry_ok, entry_or_not, with_more, metric_takes, metric_again}
use Rattle.spk_payload.proofs.FirstFault.{Judges, IsSoundBy, IsFaultBy, first_fault, stops_there}

-- which values are read decides what a metric is, and not whether its text means one
meant_by : (values : Values) (text : List ℕ) (m : MetricData) (h : MeansMetric choice.All text m) → MeansMetric values text (metric_of values h.fields)
meant_by values text m h = record { fields = h.fields; are = h.are; texts = h.texts; is = refl }

meant_as : (values : Values) (text : List ℕ) (m : MetricData) (h : MeansMetric values text m) → MeansMetric choice.All text (metric_of choice.All h.fields)
meant_as values text m h = record { fields = h.fields; are = h.are; texts = h.texts; is = refl }

module _ (values : Values) where
  -- ---- faults of a metric

  abbrev LacksText : Entry → PayloadFault → Type 0
  LacksText e f = (HasText e → ⊥) × (f ≡ NotText)

  judges_metric : Judges (metric_entry values) HasText LacksText
  judges_metric = record {
    passes = λ m e h. (with_more values m e, entry_ok values m e h);
    stops = λ m e f h. refused m e f h (entry_or_not values m e);
    either = λ m e. which m e (entry_or_not values m e);
  }
    where
      refused : (m : MetricData) (e : Entry) (f : PayloadFault) → LacksText e f → HasText e ⊎ ((HasText e → ⊥) × (metric_entry values m e ≡ Err NotText)) → metric_entry values m e ≡ Err f
      refused m e f h (inl t) = absurd (h.0 t)
      refused m e f h (inr t) = t.1 ∙ ap (λ (g : PayloadFault). failed {A = MetricData} g) (sym h.1)

      which : (m : MetricData) (e : Entry) → HasText e ⊎ ((HasText e → ⊥) × (metric_entry values m e ≡ Err NotText)) → HasText e ⊎ ((f : PayloadFault) × LacksText e f)
      which m e (inl t) = inl t
      which m e (inr t) = inr (NotText, (t.0, refl))

  to_sound_field : (item : Result Entry WireFault) → IsSoundBy HasText item → IsSoundField item
  to_sound_field (Ok e) h = h
  to_sound_field (Err w) h = h

  from_sound_field : (item : Result Entry WireFault) → IsSoundField item → IsSoundBy HasText item
  from_sound_field (Ok e) h = h
  from_sound_field (Err w) h = h

  to_field_fault : (item : Result Entry WireFault) (f : PayloadFault) → IsFaultBy LacksText item f → IsFieldFault item f
  to_field_fault (Ok e) f h = h
  to_field_fault (Err w) f h = h

  from_field_fault : (item : Result Entry WireFault) (f : PayloadFault) → IsFieldFault item f → IsFaultBy LacksText item f
  from_field_fault (Ok e) f h = h
  from_field_fault (Err w) f h = h

  metric_fault : (text : List ℕ) (f : PayloadFault) → metric_at values text ≡ Err f → IsMetricFault text f
  unfolding metric_at
  metric_fault text f e =
      let r = first_fault (metric_entry values) HasText LacksText judges_metric no_metric (items_of text) f e in
      record {
        before = r.before;
        item = r.item;
        after = r.after;
        items = subst (λ (items : Items). AreItems text items) r.are (items_are text);
        sound = All-weaker (IsSoundBy HasText) IsSoundField to_sound_field r.before r.sound;
        is = to_field_fault r.item f r.is;
      }

  metric_fault_again : (text : List ℕ) (f : PayloadFault) → IsMetricFault text f → metric_at values text ≡ Err f
  unfolding metric_at
  metric_fault_again text f h =
      let items = items_only text (h.before ++ h.item ∷ h.after) h.items in
      ap (each_item (metric_entry values) no_metric) (sym items) ∙ stops_there (metric_entry values) HasText LacksText judges_metric no_metric h.before h.item h.after f (All-weaker IsSoundField (IsSoundBy HasText) from_sound_field h.before h.sound) (from_field_fault h.item f h.is)

  -- ---- one entry of a payload

  abbrev at : ℕ → Shape → Entry
  at n shape = record { number = n; shape = shape }

  -- what the entry says, and else what stood before; its metrics come last
  abbrev with_part : PayloadData → Entry → List MetricData → PayloadData
  with_part p e ms = record { timestamp = option_or (number_in 1 e) p.timestamp; metrics = p.metrics ++ ms; seq = option_or (number_in 3 e) p.seq }

  abbrev record_of : Option ℕ → List MetricData → Option ℕ → PayloadData
  record_of t ms s = record { timestamp = t; metrics = ms; seq = s }

  same_part : {t t' s s' : Option ℕ} {ms ms' : List MetricData} → t ≡ t' → ms ≡ ms' → s ≡ s' → record_of t ms s ≡ record_of t' ms' s'
  same_part t ms s = cc

  by_number : (P : ℕ → Type 0) (n : ℕ) → P 1 → P 2 → P 3 → (eqb n 1 ≡ false → eqb n 2 ≡ false → eqb n 3 ≡ false → P n) → P n
  by_number P n p1 p2 p3 other = at_or_not P 1 n p1 (λ f1. at_or_not P 2 n p2 (λ f2. at_or_not P 3 n p3 (λ f3. other f1 f2 f3)))

  -- an entry of field 2 adds its metric, and any other adds none
  abbrev part_of : PayloadData → Entry → Option (List ℕ) → Result PayloadData PayloadFault
  part_of p e None = Ok (with_part p e [])
  part_of p e (Some text) = metric_at values text >>= λ m. Ok (with_part p e (m ∷ []))

  entry_is : (p : PayloadData) (e : Entry) → payload_entry values p e ≡ part_of p e (bytes_in 2 e)
  entry_is p e = by_shape e.number e.shape
    where
      same : (t s : Option ℕ) → done (record_of t p.metrics s) ≡ done (record_of t (p.metrics ++ []) s)
      same t s = ap (λ (ms : List MetricData). done (record_of t ms s)) (sym (append-nil p.metrics))

      same_p : done p ≡ done (record_of p.timestamp (p.metrics ++ []) p.seq)
      same_p = same p.timestamp p.seq

      by_shape : (n : ℕ) (shape : Shape) → payload_entry values p (at n shape) ≡ part_of p (at n shape) (bytes_in 2 (at n shape))
      by_shape n (Varint v) =
          by_number (λ k. payload_entry values p (at k (Varint v)) ≡ part_of p (at k (Varint v)) (bytes_in 2 (at k (Varint v)))) n (same (Some v) p.seq) (same p.timestamp p.seq) (same p.timestamp (Some v))
          (λ f1 f2 f3. rw (f2, f1, f3) same_p)
      by_shape n (Eight b) =
          by_number (λ k. payload_entry values p (at k (Eight b)) ≡ part_of p (at k (Eight b)) (bytes_in 2 (at k (Eight b)))) n (same p.timestamp p.seq) (same p.timestamp p.seq) (same p.timestamp p.seq)
          (λ f1 f2 f3. rw (f2, f1, f3) same_p)
      by_shape n (Bytes b) =
          by_number (λ k. payload_entry values p (at k (Bytes b)) ≡ part_of p (at k (Bytes b)) (bytes_in 2 (at k (Bytes b)))) n (same p.timestamp p.seq) refl (same p.timestamp p.seq)
          (λ f1 f2 f3. rw (f2, f1, f3) same_p)
      by_shape n (Four b) =
          by_number (λ k. payload_entry values p (at k (Four b)) ≡ part_of p (at k (Four b)) (bytes_in 2 (at k (Four b)))) n (same p.timestamp p.seq) (same p.timestamp p.seq) (same p.timestamp p.seq)
          (λ f1 f2 f3. rw (f2, f1, f3) same_p)

  -- ---- faults of a payload

  abbrev IsSoundPart : Entry → Type 0
  IsSoundPart e = IfSome (bytes_in 2 e) (λ text. (m : MetricData) × MeansMetric choice.All text m)

  abbrev HoldsFault : Entry → PayloadFault → Type 0
  HoldsFault e f = MatchOption (bytes_in 2 e) ⊥ (λ text. IsMetricFault text f)

  judges_payload : Judges (payload_entry values) IsSoundPart HoldsFault
  judges_payload = record {
    passes = λ p e h. let r = passes p e (bytes_in 2 e) h in (r.0, entry_is p e ∙ r.1);
    stops = λ p e f h. entry_is p e ∙ stops p e f (bytes_in 2 e) h;
    either = λ p e. either (bytes_in 2 e);
  }
    where
      passes : (p : PayloadData) (e : Entry) (o : Option (List ℕ)) → IfSome o (λ text. (m : MetricData) × MeansMetric choice.All text m) → (t : PayloadData) × (part_of p e o ≡ Ok t)
      passes p e None h = (with_part p e [], refl)
      passes p e (Some text) h = (with_part p e (metric_of values h.1.fields ∷ []), rw (metric_again values text (metric_of values h.1.fields) (meant_by values text h.0 h.1)) refl)

      stops : (p : PayloadData) (e : Entry) (f : PayloadFault) (o : Option (List ℕ)) → MatchOption o ⊥ (λ text. IsMetricFault text f) → part_of p e o ≡ Err f
      stops p e f None h = absurd h
      stops p e f (Some text) h = rw (metric_fault_again text f h) refl

      by_read : (text : List ℕ) (r : Result MetricData PayloadFault) → metric_at values text ≡ r → ((m : MetricData) × MeansMetric choice.All text m) ⊎ ((f : PayloadFault) × IsMetricFault text f)
      by_read text (Ok m) e = let h = metric_takes values text m e in inl (metric_of choice.All h.fields, meant_as values text m h)
      by_read text (Err f) e = inr (f, metric_fault text f e)

      either : (o : Option (List ℕ)) → IfSome o (λ text. (m : MetricData) × MeansMetric choice.All text m) ⊎ ((f : PayloadFault) × MatchOption o ⊥ (λ text. IsMetricFault text f))
      either None = inl tt
      either (Some text) = by_read text (metric_at values text) refl

  to_sound_entry : (item : Result Entry WireFault) → IsSoundBy IsSoundPart item → IsSoundEntry item
  to_sound_entry (Ok e) h = h
  to_sound_entry (Err w) h = h

  from_sound_entry : (item : Result Entry WireFault) → IsSoundEntry item → IsSoundBy IsSoundPart item
  from_sound_entry (Ok e) h = h
  from_sound_entry (Err w) h = h

  to_entry_fault : (item : Result Entry WireFault) (f : PayloadFault) → IsFaultBy HoldsFault item f → IsEntryFault item f
  to_entry_fault (Ok e) f h = h
  to_entry_fault (Err w) f h = h

  from_entry_fault : (item : Result Entry WireFault) (f : PayloadFault) → IsEntryFault item f → IsFaultBy HoldsFault item f
  from_entry_fault (Ok e) f h = h
  from_entry_fault (Err w) f h = h

  pub payload_fault : (text : List ℕ) (f : PayloadFault) → payload_at values text ≡ Err f → IsPayloadFault text f
  unfolding payload_at
  payload_fault text f e =
      let r = first_fault (payload_entry values) IsSoundPart HoldsFault judges_payload no_payload (items_of text) f e in
      record {
        before = r.before;
        item = r.item;
        after = r.after;
        items = subst (λ (items : Items). AreItems text items) r.are (items_are text);
        sound = All-weaker (IsSoundBy IsSoundPart) IsSoundEntry to_sound_entry r.before r.sound;
        is = to_entry_fault r.item f r.is;
      }

  pub payload_fault_again : (text : List ℕ) (f : PayloadFault) → IsPayloadFault text f → payload_at values text ≡ Err f
  unfolding payload_at
  payload_fault_again text f h =
      let items = items_only text (h.before ++ h.item ∷ h.after) h.items in
      ap (each_item (payload_entry values) no_payload) (sym items) ∙ stops_there (payload_entry values) IsSoundPart HoldsFault judges_payload no_payload h.before h.item h.after f (All-weaker IsSoundEntry (IsSoundBy IsSoundPart) from_sound_entry h.before h.sound) (from_entry_fault h.item f h.is)

  -- ---- all entries of a payload

  abbrev with_all : PayloadData → List Entry → List MetricData → PayloadData
  with_all p es ms = record_of (option_or (last (number_in 1) es) p.timestamp) (p.metrics ++ ms) (option_or (last (number_in 3) es) p.seq)

  with_all-more : (p : PayloadData) (e : Entry) (es : List Entry) (first others : List MetricData) → with_all (with_part p e first) es others ≡ with_all p (e ∷ es) (first ++ others)
  with_all-more p e es first others = same_part (or_assoc (last (number_in 1) es) (number_in 1 e) p.timestamp) (append_assoc p.metrics first others) (or_assoc (last (number_in 3) es) (number_in 3 e) p.seq)

  payload_items : (p : PayloadData) (es : List Entry) (ms : List MetricData) → MeanEach values (filter_map (bytes_in 2) es) ms → each_item (payload_entry values) p (fields es) ≡ Ok (with_all p es ms)
  unfolding each_item
  payload_items p [] [] h = ap (λ (all : List MetricData). done (record_of p.timestamp all p.seq)) (sym (append-nil p.metrics))
  payload_items p [] (m ∷ ms) h = absurd h
  payload_items p (e ∷ es) ms h = rw (entry_is p e) (step (bytes_in 2 e) ms h (λ q others k. payload_items q es others k))
    where
      step : (o : Option (List ℕ)) (ms : List MetricData) → MeanEach values (cons_option o (filter_map (bytes_in 2) es)) ms
          → ((q : PayloadData) (others : List MetricData) → MeanEach values (filter_map (bytes_in 2) es) others → each_item (payload_entry values) q (fields es) ≡ Ok (with_all q es others))
          → (part_of p e o >>= λ t. each_item (payload_entry values) t (fields es)) ≡ Ok (with_all p (e ∷ es) ms)
      step None ms k go = go (with_part p e []) ms k ∙ ap done (with_all-more p e es [] ms)
      step (Some text) [] k go = absurd k
      step (Some text) (m ∷ ms) k go = rw (metric_again values text m k.0) (go (with_part p e (m ∷ [])) ms k.1 ∙ ap done (with_all-more p e es (m ∷ []) ms))

  record ReadsPayload (p : PayloadData) (items : Items) (result : PayloadData) : Type 0 where
    pub entries : List Entry
    pub metrics : List MetricData
    pub are : items ≡ map Ok entries
    pub mean : (MeanEach values) (filter_map (bytes_in 2) entries) metrics
    pub is : result ≡ with_all p entries metrics

  reads_payload : (p : PayloadData) (items : Items) (result : PayloadData) → each_item (payload_entry values) p items ≡ Ok result → ReadsPayload p items result
  unfolding each_item
  reads_payload p [] result e = record { entries = []; metrics = []; are = refl; mean = tt; is = sym (ok_is p result e) ∙ ap (λ (all : List MetricData). record_of p.timestamp all p.seq) (sym (append-nil p.metrics)) }
  reads_payload p (Err w ∷ items) result e = err_no_ok (Wire w) result e
  reads_payload p (Ok x ∷ items) result e =
      step (bytes_in 2 x) refl (ap (λ (r : Result PayloadData PayloadFault). r >>= λ t. each_item (payload_entry values) t items) (sym (entry_is p x)) ∙ e) (λ q k. reads_payload q items result k)
    where
      read : (text : List ℕ) (r : Result MetricData PayloadFault) → metric_at values text ≡ r → bytes_in 2 x ≡ Some text → ((r >>= λ m. done (with_part p x (m ∷ []))) >>= λ t. each_item (payload_entry values) t items) ≡ Ok result → ((q : PayloadData) → each_item (payload_entry values) q items ≡ Ok result → ReadsPayload q items result) → ReadsPayload p (Ok x ∷ items) result
      read text (Err f) m o k go = err_no_ok f result k
      read text (Ok one) m o k go =
          let r = go (with_part p x (one ∷ [])) k in
          record {
            entries = x ∷ r.entries;
            metrics = one ∷ r.metrics;
            are = ap (λ (others : Items). Ok x ∷ others) r.are;
            mean = subst (λ (found : Option (List ℕ)). MeanEach values (cons_option found (filter_map (bytes_in 2) r.entries)) (one ∷ r.metrics)) (sym o) (metric_takes values text one m, r.mean);
            is = r.is ∙ with_all-more p x r.entries (one ∷ []) r.metrics;
          }

      step : (o : Option (List ℕ)) → bytes_in 2 x ≡ o → (part_of p x o >>= λ t. each_item (payload_entry values) t items) ≡ Ok result → ((q : PayloadData) → each_item (payload_entry values) q items ≡ Ok result → ReadsPayload q items result) → ReadsPayload p (Ok x ∷ items) result
      step None o k go =
          let r = go (with_part p x []) k in
          record {
            entries = x ∷ r.entries;
            metrics = r.metrics;
            are = ap (λ (others : Items). Ok x ∷ others) r.are;
            mean = subst (λ (found : Option (List ℕ)). MeanEach values (cons_option found (filter_map (bytes_in 2) r.entries)) r.metrics) (sym o) r.mean;
            is = r.is ∙ with_all-more p x r.entries [] r.metrics;
          }
      step (Some text) o k go = read text (metric_at values text) refl o k go

  -- ---- the laws of a payload

  with_all-none : (es : List Entry) (ms : List MetricData) → with_all no_payload es ms ≡ record_of (last (number_in 1) es) ms (last (number_in 3) es)
  with_all-none es ms = same_part (or_none (last (number_in 1) es)) refl (or_none (last (number_in 3) es))

  pub payload_takes : (text : List ℕ) (p : PayloadData) → payload_at values text ≡ Ok p → MeansPayload values text p
  unfolding payload_at
  payload_takes text p e =
      let r = reads_payload no_payload (items_of text) p e in
      let is = r.is ∙ with_all-none r.entries r.metrics in
      record {
        fields = r.entries;
        are = (same_fields text r.entries).1 r.are;
        timestamp = ap (λ (q : PayloadData). q.timestamp) is;
        seq = ap (λ (q : PayloadData). q.seq) is;
        metrics = subst (λ (ms : List MetricData). MeanEach values (filter_map (bytes_in 2) r.entries) ms) (sym (ap (λ (q : PayloadData). q.metrics) is)) r.mean;
      }

  pub payload_again : (text : List ℕ) (p : PayloadData) → MeansPayload values text p → payload_at values text ≡ Ok p
  unfolding payload_at
  payload_again text p h =
      let items = (same_fields text h.fields).0 h.are in
      let whole : record_of (last (number_in 1) h.fields) p.metrics (last (number_in 3) h.fields) ≡ p = same_part (sym h.timestamp) refl (sym h.seq) in
      rw items (payload_items no_payload h.fields p.metrics h.metrics ∙ ap done (with_all-none h.fields p.metrics ∙ whole))

  -- ---- bytes have one meaning, or one first fault

  pub one_payload : (text : List ℕ) (p q : PayloadData) → MeansPayload values text p → MeansPayload values text q → p ≡ q
  one_payload text p q h k = ok_is p q (sym (payload_again text p h) ∙ payload_again text q k)

  same_failed : (f g : PayloadFault) → failed {A = PayloadData} f ≡ failed g → f ≡ g
  same_failed f g e = cc

  pub one_fault : (text : List ℕ) (f g : PayloadFault) → IsPayloadFault text f → IsPayloadFault text g → f ≡ g
  one_fault text f g h k = same_failed f g (sym (payload_fault_again text f h) ∙ payload_fault_again text g k)

  pub payload_or_fault : (text : List ℕ) (p : PayloadData) (f : PayloadFault) → MeansPayload values text p → IsPayloadFault text f → ⊥
  payload_or_fault text p f h k = err_no_ok f p (sym (payload_fault_again text f k) ∙ payload_again text p h)

  -- ---- what the call ensures

  pub found : (text : List ℕ) (r : Result Payload PayloadFault) → Gives payload_view r (payload_at values text) → IfOk r (λ p. MeansPayload values text (payload_view p))
  found text (Ok p) h = payload_takes text (payload_view p) h
  found text (Err f) h = tt

  pub fault_is : (text : List ℕ) (r : Result Payload PayloadFault) → Gives payload_view r (payload_at values text) → IfErr r (λ f. (f ≡ NoMemory) ⊎ IsPayloadFault text f)
  fault_is text (Ok p) h = tt
  fault_is text (Err NoMemory) h = inl refl
  fault_is text (Err (Wire w)) h = inr (payload_fault text (Wire w) h)
  fault_is text (Err NotText) h = inr (payload_fault text NotText h)
  fault_is text (Err HasOther) h = inr (payload_fault text HasOther h)
  fault_is text (Err Mistyped) h = inr (payload_fault text Mistyped h)
