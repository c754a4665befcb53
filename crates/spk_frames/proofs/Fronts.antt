-- The content at the front of bytes: where there is one it is one alone.
use Rattle.std.proofs.Common.{◌≡◌, inl, inr, ℕ, zero, suc, eqb, false, ◌+◌, ◌<◌, ◌≤◌, ◌^◌, List, ◌++◌, length, take, drop, refl, sym, ap, ◌∙◌, subst, append_assoc, length-append, arith}
use Rattle.std.proofs.lemmas.List.{drop_at, take-append-drop, take_at}
use Rattle.std.proofs.lemmas.Option.{same_Some}
use Rattle.spk_frames.specs.Frame.{IsFramed, IsTorn, framed}
use Rattle.spk_frames.specs.Reading.{four_at}
use Rattle.spk_frames.specs.Numbers.{four}
use Rattle.spk_frames.specs.Sum.{crc32}
use Rattle.spk_frames.proofs.Lengths.{length-four}
use Rattle.spk_frames.proofs.Numbers.{four_again}

abbrev both : ℕ → List ℕ → ℕ × List ℕ
both n rest = (n, rest)

-- the number that bytes begin with, and what stands behind it
pub four_same : (bytes : List ℕ) (n m : ℕ) (rest more : List ℕ) → n < 2 ^ 32 → m < 2 ^ 32 → bytes ≡ four n ++ rest → bytes ≡ four m ++ more → (n ≡ m) × (rest ≡ more)
four_same bytes n m rest more l k e f =
    let x : both n rest ≡ both m more = same_Some (n, rest) (m, more) (sym (four_again n rest l) ∙ ap four_at (sym e ∙ f) ∙ four_again m more k) in
    (ap (λ (p : ℕ × List ℕ). p.0) x, ap (λ (p : ℕ × List ℕ). p.1) x)

behind_four : (n : ℕ) (bytes rest : List ℕ) → bytes ≡ four n ++ rest → length bytes ≡ 4 + length rest
behind_four n bytes rest e = ap length e ∙ length-append (four n) rest ∙ ap (λ k. k + length rest) (length-four n)

-- a content in its frame, as the number in front of it and what stands behind that
pub framed_parts : (bytes content rest : List ℕ) → bytes ≡ framed content ++ rest → bytes ≡ four (length content) ++ (content ++ (four (crc32 content) ++ rest))
unfolding framed
framed_parts bytes content rest e =
    e ∙ append_assoc (four (length content)) (content ++ four (crc32 content)) rest ∙ ap (λ t. four (length content) ++ t) (append_assoc content (four (crc32 content)) rest)

pub framed_from : (bytes content rest : List ℕ) → bytes ≡ four (length content) ++ (content ++ (four (crc32 content) ++ rest)) → bytes ≡ framed content ++ rest
unfolding framed
framed_from bytes content rest e =
    e ∙ ap (λ t. four (length content) ++ t) (sym (append_assoc content (four (crc32 content)) rest)) ∙ sym (append_assoc (four (length content)) (content ++ four (crc32 content)) rest)

pub above_zero : (n : ℕ) → eqb n 0 ≡ false → 0 < n
above_zero zero e = absurd cc
above_zero (suc n) e = omega arith

-- ---- torn, where a content may have so many bytes at most

module _ (most : ℕ) (narrow : most < 2 ^ 32) where
  -- bytes are there, and not too few
  pub not_torn : (bytes rest : List ℕ) (n : ℕ) → n < 2 ^ 32 → bytes ≡ four n ++ rest → (n ≤ most → n + 4 ≤ length rest) → ¬ (IsTorn most bytes)
  not_torn bytes rest n small e enough (some, inl few) = let long = behind_four n bytes rest e in absurd (omega arith)
  not_torn bytes rest n small e enough (some, inr cut) =
      let m = cut.0 in
      let more = cut.1 in
      let le : m ≤ most = cut.2 in
      let lt : length more < m + 4 = cut.4 in
      let same = four_same bytes n m rest more small (omega arith) e cut.3 in
      let lens : length rest ≡ length more = ap length same.1 in
      let n_is : n ≡ m = same.0 in
      let long : n + 4 ≤ length rest = enough (omega arith) in
      absurd (omega arith)

  pub some_there : (bytes rest : List ℕ) (n : ℕ) → bytes ≡ four n ++ rest → 0 < length bytes
  some_there bytes rest n e = let long = behind_four n bytes rest e in omega arith

  -- the content of a frame behind a number
  pub framed_is : (bytes rest content : List ℕ) (n : ℕ) → n < 2 ^ 32 → bytes ≡ four n ++ rest → (f : IsFramed most bytes content) → (n ≡ length content) × (rest ≡ content ++ (four (crc32 content) ++ f.1.0))
  framed_is bytes rest content n small e f =
      let le : length content ≤ most = f.0 in
      four_same bytes n (length content) rest (content ++ (four (crc32 content) ++ f.1.0)) small (omega arith) e (framed_parts bytes content f.1.0 f.1.1)

  -- a frame that is there isn't torn
  pub framed_stands : (bytes content : List ℕ) → IsFramed most bytes content → (0 < length bytes) × ¬ (IsTorn most bytes)
  framed_stands bytes content f =
      let le : length content ≤ most = f.0 in
      let rest = content ++ (four (crc32 content) ++ f.1.0) in
      let e = framed_parts bytes content f.1.0 f.1.1 in
      let long : length rest ≡ length content + (4 + length f.1.0) =
      length-append content (four (crc32 content) ++ f.1.0) ∙ ap (λ k. length content + k) (length-append (four (crc32 content)) f.1.0 ∙ ap (λ k. k + length f.1.0) (length-four (crc32 content))) in
      (some_there bytes rest (length content) e, not_torn bytes rest (length content) (omega arith) e (λ _. omega arith))

  -- one content at the front
  pub framed_same : (bytes c d : List ℕ) (f : IsFramed most bytes c) (g : IsFramed most bytes d) → (c ≡ d) × (f.1.0 ≡ g.1.0)
  framed_same bytes c d f g =
      let le : length c ≤ most = f.0 in
      let first = framed_is bytes (c ++ (four (crc32 c) ++ f.1.0)) d (length c) (omega arith) (framed_parts bytes c f.1.0 f.1.1) g in
      let same : c ≡ d =
      sym (take_at c (four (crc32 c) ++ f.1.0) (length c) refl) ∙ ap (take (length c)) first.1 ∙ take_at d (four (crc32 d) ++ g.1.0) (length c) (sym first.0) in
      let behind : four (crc32 c) ++ f.1.0 ≡ four (crc32 d) ++ g.1.0 =
      sym (drop_at c (four (crc32 c) ++ f.1.0) (length c) refl) ∙ ap (drop (length c)) first.1 ∙ drop_at d (four (crc32 d) ++ g.1.0) (length c) (sym first.0) in
      let sums : four (crc32 c) ++ f.1.0 ≡ four (crc32 c) ++ g.1.0 = behind ∙ ap (λ t. four (crc32 t) ++ g.1.0) (sym same) in (
        same,
        sym (drop_at (four (crc32 c)) f.1.0 4 (length-four (crc32 c))) ∙ ap (drop 4) sums ∙ drop_at (four (crc32 c)) g.1.0 4 (length-four (crc32 c)),
      )

  -- ---- what `frame` finds

  module _ (bytes rest : List ℕ) (n : ℕ) (small : n < 2 ^ 32) (e : bytes ≡ four n ++ rest) where
    pub too_long : most < n → (0 < length bytes) × ¬ (IsTorn most bytes) × ((content : List ℕ) → IsFramed most bytes content → ⊥)
    too_long lt = (
      some_there bytes rest n e,
      not_torn bytes rest n small e (λ le. absurd (omega arith)),
      λ content f. let le : length content ≤ most = f.0 in let is = (framed_is bytes rest content n small e f).0 in absurd (omega arith),
    )

    pub cut_off : n ≤ most → length rest < n + 4 → IsTorn most bytes
    cut_off le lt = (some_there bytes rest n e, inr (n, rest, le, e, lt))

    pub found : (sum : ℕ) (more : List ℕ) → n ≤ most → n ≤ length rest → drop n rest ≡ four sum ++ more → sum ≡ crc32 (take n rest) → length (take n rest) ≡ n → IsFramed most bytes (take n rest)
    found sum more le long behind is len =
        let content = take n rest in
        let parts : rest ≡ content ++ (four (crc32 content) ++ more) =
        sym (take-append-drop n rest) ∙ ap (λ t. content ++ t) behind ∙ ap (λ k. content ++ (four k ++ more)) is in
        let top : length content ≤ most = omega arith in
        (top, (more, framed_from bytes content more (e ∙ ap (λ t. four n ++ t) parts ∙ ap (λ k. four k ++ (content ++ (four (crc32 content) ++ more))) (sym len))))

    pub spoiled : (sum : ℕ) (more : List ℕ) → n + 4 ≤ length rest → drop n rest ≡ four sum ++ more → sum < 2 ^ 32 → crc32 (take n rest) < 2 ^ 32 → ¬ (sum ≡ crc32 (take n rest))
        → (0 < length bytes) × ¬ (IsTorn most bytes) × ((content : List ℕ) → IsFramed most bytes content → ⊥)
    spoiled sum more long behind sum_fits crc_fits other = (
      some_there bytes rest n e,
      not_torn bytes rest n small e (λ _. long),
      λ content f.
          let is = framed_is bytes rest content n small e f in
          let same : take n rest ≡ content = ap (take n) is.1 ∙ take_at content (four (crc32 content) ++ f.1.0) n (sym is.0) in
          let tail : drop n rest ≡ four (crc32 content) ++ f.1.0 = ap (drop n) is.1 ∙ drop_at content (four (crc32 content) ++ f.1.0) n (sym is.0) in
          other ((four_same (drop n rest) sum (crc32 content) more f.1.0 sum_fits (subst (λ t. crc32 t < 2 ^ 32) same crc_fits) behind tail).0 ∙ ap crc32 (sym same)),
    )
