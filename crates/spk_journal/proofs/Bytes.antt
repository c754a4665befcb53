-- What the bytes before a place say, behind one byte more, and which lines wait behind one line more.
use Rattle.std.proofs.Common.{◌≡◌, ℕ, ◌+◌, ◌-◌, ◌<◌, ◌≤◌, ◌==◌, Bool, true, false, ◌||◌, cond, List, [], ◌∷◌, ◌++◌, length, take, drop, refl, sym, ap, ◌∙◌, subst, append_assoc, append-nil, arith, map, get_or, Bor}
use Rattle.std.specs.Prelude.{slice_range}
use Rattle.std.proofs.Math.Seq.{drop-append-add}
use Rattle.std.proofs.lemmas.List.{drop-append-le, drop-take, get_or-map, length-map, length-take-le, take_more}
use Rattle.spk_journal.specs.File.{Says, has_end, is_mark, text_of, waiting}
use Rattle.spk_journal.proofs.Noting.{plain_more, text_more, waits_more}

-- ---- bytes

or_first : (t u v : Bool) → (t || u) ≡ false → (u ≡ false → v ≡ false) → (t || v) ≡ false
or_first true u v e f = absurd cc
or_first false u v e f = f e

end_more : (bytes : List ℕ) (b : ℕ) → has_end bytes ≡ false → (b == 10) ≡ false → has_end (bytes ++ b ∷ []) ≡ false
end_more [] b h e = ap (λ t. t || false) e
end_more (x ∷ xs) b h e = or_first (x == 10) (has_end xs) (has_end (xs ++ b ∷ [])) h (λ g. end_more xs b g e)

cut_is : (bytes : List ℕ) (start place : ℕ) → start ≤ place → slice_range bytes start place ≡ drop start (take place bytes)
cut_is bytes start place le =
    let e : start + (place - start) ≡ place = omega arith in
    sym (ap (λ n. drop start (take n bytes)) (sym e) ∙ drop-take start (place - start) bytes)

-- the end of a line
pub ended : (front : List ℕ) (lines : List (List ℕ)) (rest line : List ℕ) → rest ≡ line → Says front lines rest → Says (front ++ 10 ∷ []) (lines ++ line ∷ []) []
ended front lines rest line same s = record {
  are = ap (λ t. t ++ 10 ∷ []) (s.are ∙ ap (λ t. text_of lines ++ t) same) ∙ append_assoc (text_of lines) line (10 ∷ []) ∙ sym (text_more lines line) ∙ sym (append-nil (text_of (lines ++ line ∷ [])));
  plain = plain_more lines line s.plain (ap has_end (sym same) ∙ s.torn);
  torn = refl;
}

-- any other byte
pub longer : (front : List ℕ) (lines : List (List ℕ)) (rest : List ℕ) (b : ℕ) → (b == 10) ≡ false → Says front lines rest → Says (front ++ b ∷ []) lines (rest ++ b ∷ [])
longer front lines rest b e s = record {
  are = ap (λ t. t ++ b ∷ []) s.are ∙ append_assoc (text_of lines) rest (b ∷ []);
  plain = s.plain;
  torn = end_more rest b s.torn e;
}

pub says_end : (bytes : List ℕ) (lines more : List (List ℕ)) (start place b : ℕ) → start ≤ place → length (take place bytes) ≡ place
    → take (place + 1) bytes ≡ take place bytes ++ b ∷ [] → b ≡ 10 → more ≡ lines ++ slice_range bytes start place ∷ []
    → Says (take place bytes) lines (drop start (take place bytes)) → Says (take (place + 1) bytes) more (drop (place + 1) (take (place + 1) bytes))
says_end bytes lines more start place b le long step is are s =
    let front = take place bytes in
    let line = slice_range bytes start place in
    let step' : take (place + 1) bytes ≡ front ++ 10 ∷ [] = step ∙ ap (λ x. front ++ x ∷ []) is in
    let none : drop (place + 1) (front ++ 10 ∷ []) ≡ [] = ap (λ n. drop (n + 1) (front ++ 10 ∷ [])) (sym long) ∙ drop-append-add front (10 ∷ []) 1 in
    let done = ended front lines (drop start front) line (sym (cut_is bytes start place le)) s in
    subst (λ t. Says t more (drop (place + 1) t)) (sym step')
    (subst (λ r. Says (front ++ 10 ∷ []) more r) (sym none) (subst (λ ls. Says (front ++ 10 ∷ []) ls []) (sym are) done))

pub says_other : (bytes : List ℕ) (lines more : List (List ℕ)) (start place b : ℕ) → start ≤ place → length (take place bytes) ≡ place
    → take (place + 1) bytes ≡ take place bytes ++ b ∷ [] → (b == 10) ≡ false → more ≡ lines
    → Says (take place bytes) lines (drop start (take place bytes)) → Says (take (place + 1) bytes) more (drop start (take (place + 1) bytes))
says_other bytes lines more start place b le long step is are s =
    let front = take place bytes in
    let within : start ≤ length front = subst (λ n. start ≤ n) (sym long) le in
    let done = longer front lines (drop start front) b is s in
    subst (λ t. Says t more (drop start t)) (sym step)
    (subst (λ r. Says (front ++ b ∷ []) more r) (sym (drop-append-le start front (b ∷ []) within)) (subst (λ ls. Says (front ++ b ∷ []) ls (drop start front ++ b ∷ [])) (sym are) done))

-- ---- lines

by_mark : (b : Bool) (front : List (List ℕ)) (line : List ℕ) (settled place next : ℕ) → settled ≤ place → length front ≡ place → next ≡ cond b (place + 1) settled
    → drop settled front ≡ waiting front → drop next (front ++ line ∷ []) ≡ cond b [] (waiting front ++ line ∷ [])
by_mark true front line settled place next le long is wait =
    ap (λ n. drop n (front ++ line ∷ [])) (is ∙ ap (λ n. n + 1) (sym long)) ∙ drop-append-add front (line ∷ []) 1
by_mark false front line settled place next le long is wait =
    ap (λ n. drop n (front ++ line ∷ [])) is ∙ drop-append-le settled front (line ∷ []) (subst (λ n. settled ≤ n) (sym long) le) ∙ ap (λ w. w ++ line ∷ []) wait

pub waits_behind : (lines : List (List ℕ)) (settled place next : ℕ) (line : List ℕ) → settled ≤ place → length (take place lines) ≡ place
    → take (place + 1) lines ≡ take place lines ++ line ∷ [] → next ≡ cond (is_mark line) (place + 1) settled
    → drop settled (take place lines) ≡ waiting (take place lines) → drop next (take (place + 1) lines) ≡ waiting (take (place + 1) lines)
waits_behind lines settled place next line le long step is wait =
    ap (drop next) step ∙ by_mark (is_mark line) (take place lines) line settled place next le long is wait ∙ sym (waits_more (take place lines) line) ∙ ap waiting (sym step)

pub within_behind : (b : Bool) (settled place next : ℕ) → settled ≤ place → next ≡ cond b (place + 1) settled → next ≤ place + 1
within_behind true settled place next le is = omega arith
within_behind false settled place next le is = omega arith

-- ---- slices as bytes

pub long_as : {X : Type 0} (xs : List X) (place : ℕ) → place < length xs → length (take place xs) ≡ place
long_as xs place lt = length-take-le place xs (omega arith)

pub line_at : (lines : List (Bor (List ℕ))) (place : ℕ) (d : Bor (List ℕ)) → place < length lines
    → take (place + 1) (map (λ (line : Bor (List ℕ)). line.now) lines) ≡ take place (map (λ (line : Bor (List ℕ)). line.now) lines) ++ (get_or lines place d).now ∷ []
line_at lines place d lt =
    let all = map (λ (line : Bor (List ℕ)). line.now) lines in
    let within : place < length all = subst (λ n. place < n) (sym (length-map lines (λ (line : Bor (List ℕ)). line.now))) lt in
    take_more all place [] within ∙ ap (λ x. take place all ++ x ∷ []) (get_or-map (λ (line : Bor (List ℕ)). line.now) lines place d [] lt)
