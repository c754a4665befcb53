-- Frames one behind the other, and what is read of them.
use Rattle.std.proofs.Common.{◌≡◌, ℕ, ◌+◌, ◌≤◌, ◌<◌, ◌^◌, List, [], ◌∷◌, ◌++◌, length, take, drop, refl, sym, ap, ◌∙◌, append_assoc, append-nil, length-append, length-drop, arith}
use Rattle.std.proofs.lemmas.List.{drop-take, take-append-drop, take-append-le, take-take, take_at}
use Rattle.spk_frames.specs.File.{AreSmall, AreTaken, Begins, HasNoFrame, Holds, Walk, frames_of}
use Rattle.spk_frames.specs.Frame.{IsTorn, framed}
use Rattle.spk_frames.proofs.Fronts.{framed_same, framed_stands}
use Rattle.spk_frames.proofs.Lengths.{length-framed}

heads : (p q : List ℕ) (ps qs : List (List ℕ)) → p ≡ q → ps ≡ qs → p ∷ ps ≡ q ∷ qs
heads p q ps qs e f = cc

-- the first frame of a list, and what follows it
headed : (c : List ℕ) (cs : List (List ℕ)) (x : List ℕ) → frames_of (c ∷ cs) ++ x ≡ framed c ++ (frames_of cs ++ x)
headed c cs x = append_assoc (framed c) (frames_of cs) x

some_bytes : (c x : List ℕ) → framed c ++ x ≡ [] → ⊥
some_bytes c x none =
    let long : length (framed c ++ x) ≡ (length c + 8) + length x = length-append (framed c) x ∙ ap (λ n. n + length x) (length-framed c) in
    absurd (omega (arith, ap length none))

frames_join : (cs ds : List (List ℕ)) → frames_of (cs ++ ds) ≡ frames_of cs ++ frames_of ds
frames_join [] ds = refl
frames_join (c ∷ cs) ds = ap (λ t. framed c ++ t) (frames_join cs ds) ∙ sym (append_assoc (framed c) (frames_of cs) (frames_of ds))

-- bytes that reach past what stands in front
reaches : (front lost kept more : List ℕ) → front ++ lost ≡ kept ++ more → length kept ≤ length front → (rest : List ℕ) × (front ≡ kept ++ rest)
reaches front lost kept more e le =
    let k = length kept in
    let first : take k front ≡ kept = sym (take-append-le k front lost le) ∙ ap (take k) e ∙ take_at kept more k refl in
    (drop k front, sym (take-append-drop k front) ∙ ap (λ t. t ++ drop k front) first)

module _ (most : ℕ) (narrow : most < 2 ^ 32) where
  -- one content at the front of bytes
  frame_is : (c d x y : List ℕ) → length c ≤ most → length d ≤ most → framed c ++ x ≡ framed d ++ y → (c ≡ d) × (x ≡ y)
  frame_is c d x y small other same = framed_same most narrow (framed c ++ x) c d (small, (x, refl)) (other, (y, same))

  one : (cs ds : List (List ℕ)) (x y : List ℕ) → AreSmall most cs → AreSmall most ds → HasNoFrame most x → HasNoFrame most y → frames_of cs ++ x ≡ frames_of ds ++ y → (cs ≡ ds) × (x ≡ y)
  one [] [] x y a b p q e = (refl, e)
  one [] (d ∷ ds) x y a b p q e = absurd (p d (b.0, (frames_of ds ++ y, e ∙ headed d ds y)))
  one (c ∷ cs) [] x y a b p q h = absurd (q c (a.0, (frames_of cs ++ x, sym h ∙ headed c cs x)))
  one (c ∷ cs) (d ∷ ds) x y a b p q h =
      let first = frame_is c d (frames_of cs ++ x) (frames_of ds ++ y) a.0 b.0 (sym (headed c cs x) ∙ h ∙ headed d ds y) in
      let others = one cs ds x y a.1 b.1 p q first.1 in
      (heads c d cs ds first.0 others.0, others.1)

  pub one_reading : (bytes rest other : List ℕ) (contents more : List (List ℕ)) → Holds most bytes contents rest → Holds most bytes more other → (contents ≡ more) × (rest ≡ other)
  one_reading bytes rest other contents more a b = one contents more rest other a.fit b.fit a.all b.all (sym a.are ∙ b.are)

  -- what was written is read first, whatever stands behind it
  first_read : (cs ds : List (List ℕ)) (x y : List ℕ) → AreSmall most cs → AreSmall most ds → HasNoFrame most y → frames_of cs ++ x ≡ frames_of ds ++ y → Begins cs ds
  first_read [] ds x y a b q e = (ds, refl)
  first_read (c ∷ cs) [] x y a b q h = absurd (q c (a.0, (frames_of cs ++ x, sym h ∙ headed c cs x)))
  first_read (c ∷ cs) (d ∷ ds) x y a b q h =
      let first = frame_is c d (frames_of cs ++ x) (frames_of ds ++ y) a.0 b.0 (sym (headed c cs x) ∙ h ∙ headed d ds y) in
      let others = first_read cs ds x y a.1 b.1 q first.1 in
      (others.0, heads d c ds (cs ++ others.0) (sym first.0) others.1)

  pub synced : (contents read : List (List ℕ)) (behind rest : List ℕ) → AreSmall most contents → Holds most (frames_of contents ++ behind) read rest → Begins contents read
  synced contents read behind rest fit r = first_read contents read behind rest fit r.fit r.all r.are

  -- what is read of bytes that were cut off was written
  cut_read : (cs ds : List (List ℕ)) (rest lost : List ℕ) → AreSmall most cs → AreSmall most ds → (frames_of ds ++ rest) ++ lost ≡ frames_of cs → Begins ds cs
  cut_read cs [] rest lost a b e = (cs, refl)
  cut_read [] (d ∷ ds) rest lost a b e =
      absurd (some_bytes d ((frames_of ds ++ rest) ++ lost) (sym (append_assoc (framed d) (frames_of ds ++ rest) lost) ∙ ap (λ t. t ++ lost) (sym (headed d ds rest)) ∙ e))
  cut_read (c ∷ cs) (d ∷ ds) rest lost a b h =
      let first = frame_is d c ((frames_of ds ++ rest) ++ lost) (frames_of cs) b.0 a.0
      (sym (append_assoc (framed d) (frames_of ds ++ rest) lost) ∙ ap (λ t. t ++ lost) (sym (headed d ds rest)) ∙ h) in
      let others = cut_read cs ds rest lost a.1 b.1 first.1 in
      (others.0, heads c d cs (ds ++ others.0) (sym first.0) others.1)

  pub torn_front : (contents read : List (List ℕ)) (front lost rest : List ℕ) → AreSmall most contents → front ++ lost ≡ frames_of contents → Holds most front read rest → Begins read contents
  torn_front contents read front lost rest fit e r = cut_read contents read rest lost fit r.fit (ap (λ t. t ++ lost) (sym r.are) ∙ e)

  small_front : (cs ds : List (List ℕ)) → AreSmall most (cs ++ ds) → AreSmall most cs
  small_front [] ds a = tt
  small_front (c ∷ cs) ds a = (a.0, small_front cs ds a.1)

  pub torn_whole : (kept more read : List (List ℕ)) (front lost rest : List ℕ) → AreSmall most (kept ++ more) → front ++ lost ≡ frames_of (kept ++ more)
      → length (frames_of kept) ≤ length front → Holds most front read rest → Begins kept read
  torn_whole kept more read front lost rest fit e le r =
      let reach = reaches front lost (frames_of kept) (frames_of more) (e ∙ frames_join kept more) le in
      first_read kept read reach.0 rest (small_front kept more fit) r.fit r.all (sym reach.1 ∙ r.are)

-- ---- a walk

pub within : (bytes first rest : List ℕ) (whole n : ℕ) → whole ≤ length bytes → drop whole bytes ≡ first ++ rest → n ≡ length first → whole + n ≤ length bytes
within bytes first rest whole n le e is = omega (arith, length-drop whole bytes, ap length e, length-append first rest)

taken_more : (bytes first rest : List ℕ) (whole n : ℕ) → drop whole bytes ≡ first ++ rest → n ≡ length first → take (whole + n) bytes ≡ take whole bytes ++ first
taken_more bytes first rest whole n e is =
    let front : take whole (take (whole + n) bytes) ≡ take whole bytes = take-take whole (whole + n) bytes (omega arith) in
    let back : drop whole (take (whole + n) bytes) ≡ first = drop-take whole n bytes ∙ ap (take n) e ∙ take_at first rest n (sym is) in
    sym (take-append-drop whole (take (whole + n) bytes)) ∙ ap (λ t. t ++ drop whole (take (whole + n) bytes)) front ∙ ap (λ t. take whole bytes ++ t) back

fit_more : (most : ℕ) (contents : List (List ℕ)) (c : List ℕ) → AreSmall most contents → length c ≤ most → AreSmall most (contents ++ c ∷ [])
fit_more most [] c a is = (is, tt)
fit_more most (d ∷ contents) c a is = (a.0, fit_more most contents c a.1 is)

abbrev pub walk : List ℕ → ℕ → ℕ → Walk
walk bytes whole most = record { bytes = bytes; whole = whole; most = most }

pub step : (bytes rest : List ℕ) (whole n most : ℕ) (c : List ℕ) → length c ≤ most → drop whole bytes ≡ framed c ++ rest → n ≡ length (framed c)
    → (contents : List (List ℕ)) → AreTaken (walk bytes whole most) contents → AreTaken (walk bytes (whole + n) most) (contents ++ c ∷ [])
step bytes rest whole n most c is here long contents taken = record {
  are = taken_more bytes (framed c) rest whole n here long ∙ ap (λ t. t ++ framed c) taken.are ∙ ap (λ t. frames_of contents ++ t) (sym (append-nil (framed c))) ∙ sym (frames_join contents (c ∷ []));
  fit = fit_more most contents c taken.fit is;
}

-- ---- the end

pub none_at_end : (most : ℕ) (bytes : List ℕ) → bytes ≡ [] → HasNoFrame most bytes
none_at_end most bytes nothing c f = some_bytes c f.1.0 (sym f.1.1 ∙ nothing)

pub none_torn : (most : ℕ) (narrow : most < 2 ^ 32) (bytes : List ℕ) → IsTorn most bytes → HasNoFrame most bytes
none_torn most narrow bytes torn c f = (framed_stands most narrow bytes c f).1 torn

pub over : (bytes : List ℕ) (whole most : ℕ) → HasNoFrame most (drop whole bytes) → (contents : List (List ℕ)) → AreTaken (walk bytes whole most) contents → Holds most bytes contents (drop whole bytes)
over bytes whole most none contents taken = record {
  are = sym (take-append-drop whole bytes) ∙ ap (λ t. t ++ drop whole bytes) taken.are;
  fit = taken.fit;
  all = none;
}
