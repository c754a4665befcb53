-- What a file says behind one line more.
use Rattle.std.proofs.Common.{◌≡◌, ℕ, Bool, true, false, ◌||◌, List, [], ◌∷◌, ◌++◌, refl, sym, ap, ◌∙◌, subst, append_assoc, append-nil, fold, cond}
use Rattle.std.proofs.lemmas.List.Sums.{fold-append}
use Rattle.spk_journal.specs.File.{ArePlain, Says, has_end, is_mark, mark, one_more, text_of, waiting}
use Rattle.spk_journal.specs.Journal.{AreGood, SayThatWait, is_bad, made_anew}

pub plain_more : (lines : List (List ℕ)) (line : List ℕ) → ArePlain lines → has_end line ≡ false → ArePlain (lines ++ line ∷ [])
plain_more [] line p h = (h, tt)
plain_more (l ∷ ls) line p h = (p.0, plain_more ls line p.1 h)

pub text_more : (lines : List (List ℕ)) (line : List ℕ) → text_of (lines ++ line ∷ []) ≡ text_of lines ++ (line ++ 10 ∷ [])
text_more [] line = append-nil (line ++ 10 ∷ [])
text_more (l ∷ ls) line = ap (λ t. (l ++ 10 ∷ []) ++ t) (text_more ls line) ∙ sym (append_assoc (l ++ 10 ∷ []) (text_of ls) (line ++ 10 ∷ []))

-- one line more is written
says_more : (bytes line : List ℕ) (lines : List (List ℕ)) → Says bytes lines [] → has_end line ≡ false
    → Says (bytes ++ (line ++ 10 ∷ [])) (lines ++ line ∷ []) []
says_more bytes line lines s h = record {
  are = ap (λ t. t ++ (line ++ 10 ∷ [])) (s.are ∙ append-nil (text_of lines)) ∙ sym (text_more lines line) ∙ sym (append-nil (text_of (lines ++ line ∷ [])));
  plain = plain_more lines line s.plain h;
  torn = refl;
}

pub waits_more : (lines : List (List ℕ)) (line : List ℕ) → waiting (lines ++ line ∷ []) ≡ one_more (waiting lines) line
waits_more lines line = fold-append one_more [] lines (line ∷ [])

neither : (a b : Bool) → (a || b) ≡ false → (a ≡ false) × (b ≡ false)
neither true b e = absurd cc
neither false b e = (refl, e)

-- what is written behind a file, as what stands in it and is to be written
moved : (file u v line : List ℕ) → v ≡ u ++ (line ++ 10 ∷ []) → (file ++ u) ++ (line ++ 10 ∷ []) ≡ file ++ v
moved file u v line e = append_assoc file u (line ++ 10 ∷ []) ∙ ap (λ t. file ++ t) (sym e)

-- ---- the calls

pub noted : (file u v line : List ℕ) (was is : Bool) (last : List (List ℕ)) → is_bad line ≡ false
    → (is ≡ false → (was ≡ false) × (v ≡ u ++ (line ++ 10 ∷ []))) → (was ≡ false → SayThatWait (file ++ u) last) → is ≡ false → SayThatWait (file ++ v) (last ++ line ∷ [])
noted file u v line was is last bad put stands e =
    let fits = neither (has_end line) (is_mark line) bad in
    let old = stands (put e).0 in
    record {
      lines = old.lines ++ line ∷ [];
      before = old.before;
      says = subst (λ t. Says t (old.lines ++ line ∷ []) []) (moved file u v line (put e).1) (says_more (file ++ u) line old.lines old.says fits.0);
      wait = waits_more old.lines line ∙ ap (λ b. cond b [] (waiting old.lines ++ line ∷ [])) fits.1 ∙ ap (λ w. w ++ line ∷ []) old.wait ∙ append_assoc old.before last (line ∷ []);
    }

pub said : (file u v : List ℕ) (was is : Bool) (last : List (List ℕ))
    → (is ≡ false → (was ≡ false) × (v ≡ u ++ (mark ++ 10 ∷ []))) → (was ≡ false → SayThatWait (file ++ u) last) → is ≡ false → SayThatWait (file ++ v) []
said file u v was is last put stands e =
    let old = stands (put e).0 in
    record {
      lines = old.lines ++ mark ∷ [];
      before = [];
      says = subst (λ t. Says t (old.lines ++ mark ∷ []) []) (moved file u v mark (put e).1) (says_more (file ++ u) mark old.lines old.says refl);
      wait = waits_more old.lines mark;
    }

pub passed : (bytes : List ℕ) (last front rest : List (List ℕ)) → last ≡ front ++ rest → SayThatWait bytes last → SayThatWait bytes rest
passed bytes last front rest are old = record {
  lines = old.lines;
  before = old.before ++ front;
  says = old.says;
  wait = old.wait ∙ ap (λ t. old.before ++ t) are ∙ sym (append_assoc old.before front rest);
}

-- ---- a file made anew

all_plain : (lines : List (List ℕ)) → AreGood lines → ArePlain lines
all_plain [] g = tt
all_plain (l ∷ ls) g = ((neither (has_end l) (is_mark l) g.0).0, all_plain ls g.1)

plain_both : (xs ys : List (List ℕ)) → ArePlain xs → ArePlain ys → ArePlain (xs ++ ys)
plain_both [] ys p q = q
plain_both (x ∷ xs) ys p q = (p.0, plain_both xs ys p.1 q)

text_both : (xs ys : List (List ℕ)) → text_of (xs ++ ys) ≡ text_of xs ++ text_of ys
text_both [] ys = refl
text_both (x ∷ xs) ys = ap (λ t. (x ++ 10 ∷ []) ++ t) (text_both xs ys) ∙ sym (append_assoc (x ++ 10 ∷ []) (text_of xs) (text_of ys))

fold_good : (before lines : List (List ℕ)) → AreGood lines → fold one_more before lines ≡ before ++ lines
fold_good before [] g = sym (append-nil before)
fold_good before (l ∷ ls) g =
    ap (λ b. fold one_more (cond b [] (before ++ l ∷ [])) ls) (neither (has_end l) (is_mark l) g.0).1
    ∙ fold_good (before ++ l ∷ []) ls g.1
    ∙ append_assoc before (l ∷ []) ls

pub anew : (base : List ℕ) (lines wait : List (List ℕ)) → Says base lines [] → AreGood wait → SayThatWait (made_anew base wait) wait
anew base lines wait s g = record {
  lines = (lines ++ mark ∷ []) ++ wait;
  before = [];
  says = record {
    are = ap (λ t. t ++ text_of (mark ∷ []) ++ text_of wait) (s.are ∙ append-nil (text_of lines))
        ∙ ap (λ t. t ++ text_of wait) (sym (text_both lines (mark ∷ [])))
        ∙ sym (text_both (lines ++ mark ∷ []) wait)
        ∙ sym (append-nil (text_of ((lines ++ mark ∷ []) ++ wait)));
    plain = plain_both (lines ++ mark ∷ []) wait (plain_both lines (mark ∷ []) s.plain (refl, tt)) (all_plain wait g);
    torn = refl;
  };
  wait = fold-append one_more [] (lines ++ mark ∷ []) wait ∙ ap (λ w. fold one_more w wait) (waits_more lines mark) ∙ fold_good [] wait g;
}

-- ---- lines that can be noted

pub good_more : (lines : List (List ℕ)) (line : List ℕ) → AreGood lines → is_bad line ≡ false → AreGood (lines ++ line ∷ [])
good_more [] line g h = (h, tt)
good_more (l ∷ ls) line g h = (g.0, good_more ls line g.1 h)

pub good_rest : (front rest : List (List ℕ)) → AreGood (front ++ rest) → AreGood rest
good_rest [] rest g = g
good_rest (l ∷ ls) rest g = good_rest ls rest g.1
