-- Each step of the channel keeps the rule.
use Rattle.std.proofs.Common.{◌≡◌, ◌≢◌, ℕ, ◌+◌, ◌<◌, ◌≤◌, ◌^◌, cond, eqb, List, [], ◌∷◌, ◌++◌, length, set, refl, sym, ◌∙◌, ap, arith, inl, inr, subst, ⊎_elim, append_assoc, length-append}
use Rattle.std.proofs.lemmas.Bool.{cases_lt, cases_eq, eq-eqb, ne_eqb}
use mathlib.Core.Option.{some}
use lib.ListN.{get_elem?}
use Rattle.crossbeam_channel.specs.Fifo.{Pushes, Pops, Forks, Merges, Learns}
use Rattle.crossbeam_queue.proofs.Lists.{at_set}
use Rattle.spk_ingress.specs.declared.frame.Frame.{Frame}
use Rattle.spk_ingress.specs.declared.rule.Message.{Message}
use Rattle.spk_ingress.specs.declared.rule.Ended.{Ended}
use Rattle.spk_ingress.specs.declared.rule.View.{View}
use Rattle.spk_ingress.specs.declared.rule.View.TheVariants.{Puts, Takes, Spent}
use Rattle.spk_ingress.specs.Lanes.{share_of, ended, IsCounted, AreEnded, Fits, Carries, IsTaken, HavePut, AreOnTheWay, after_put, with_sender, new_sender, with_ended}
use Rattle.spk_ingress.proofs.Shares.{share_more, share_same, share_there}
use Rattle.spk_ingress.proofs.Views.{All, all_set, at_first, at_end}

abbrev Owners : Type 0
Owners = ℕ → ℕ

-- ---- the first pass

fits_first : (owner : Owners) (pass : ℕ) (v : View) → get_elem? (Takes 0 [] [] ∷ []) pass ≡ some v → Fits owner 0 0 [] [] pass v
fits_first owner pass v at =
    let is : (pass ≡ 0) × (Takes 0 [] [] ≡ v) = at_first (Takes 0 [] []) v pass at in
    subst (λ w. Fits owner 0 0 [] [] pass w) is.1 (is.0, refl, refl, tt)

pub begins : Carries [] (Takes 0 [] [] ∷ [])
begins = record {
  owner = λ i. 0;
  reader = 0;
  made = 0;
  got = [];
  counted = record { none = λ i low. refl; few = λ i. omega arith };
  fits = fits_first (λ i. 0);
}

-- ---- a send

ended_more : (owner : Owners) (reader made : ℕ) (all more : List Message) (es : List Ended) → ((k : ℕ) → owner k ≡ reader → share_of k more ≡ share_of k all) → AreEnded owner reader made all es → AreEnded owner reader made more es
ended_more owner reader made all more [] same are = tt
ended_more owner reader made all more (e ∷ es) same are = (
  record { given_back = are.0.given_back; was_made = are.0.was_made; share = same e.sender are.0.given_back ∙ are.0.share },
  ended_more owner reader made all more es same are.1,
)

fits_more : (owner : Owners) (reader made : ℕ) (got all more : List Message) (j : ℕ) (u : View) → ((k : ℕ) → owner k ≡ j → share_of k more ≡ share_of k all) → Fits owner reader made got all j u → Fits owner reader made got more j u
fits_more owner reader made got all more j (Puts i put) same f = (f.0, f.1, same i f.0 ∙ f.2)
fits_more owner reader made got all more j (Takes m g es) same f = (f.0, f.1, f.2, ended_more owner reader made all more es (λ k own. same k (own ∙ sym f.0)) f.3)
fits_more owner reader made got all more j Spent same f = tt

pub puts : (n pass i : ℕ) (put : List Frame) (x : Message) → x.sender ≡ i → length put + 1 < 2 ^ 64 → Pushes Carries n pass (Puts i put) x (λ w. w ≡ Puts i (put ++ x.frame ∷ []))
puts n pass i put x own small items views room h at =
    let all : List Message = h.got ++ items in
    let more : List Message = h.got ++ (items ++ x ∷ []) in
    let behind : more ≡ all ++ x ∷ [] = sym (append_assoc h.got items (x ∷ [])) in
    let w : View = Puts i (put ++ x.frame ∷ []) in
    let mine : (h.owner i ≡ pass) × (i < h.made) × (share_of i all ≡ put) = h.fits pass (Puts i put) at in
    let below : i < h.made = mine.1 in
    let grown : share_of i more ≡ put ++ x.frame ∷ [] = ap (share_of i) behind ∙ share_more i x all own ∙ ap (λ fs. fs ++ x.frame ∷ []) mine.2 in
    let same : (k : ℕ) → k ≢ i → share_of k more ≡ share_of k all = λ k other. ap (share_of k) behind ∙ share_same k x all (λ e. other (sym e ∙ own)) in (
      w,
      record {
        owner = h.owner;
        reader = h.reader;
        made = h.made;
        got = h.got;
        counted = record {
          none = λ k low. same k (λ e. absurd (omega arith)) ∙ h.counted.none k low;
          few = λ k. elim (cases_eq k i) [
            | inl here ↦ (let l : length (share_of k more) ≡ length put + 1 = ap (λ y. length (share_of y more)) here ∙ ap length grown ∙ length-append put (x.frame ∷ []) in omega arith)
            | inr other ↦ (let l : length (share_of k more) ≡ length (share_of k all) = ap length (same k other) in let f : length (share_of k all) < 2 ^ 64 = h.counted.few k in omega arith)
          ];
        };
        fits = all_set (Fits h.owner h.reader h.made h.got more) views pass w (mine.0, mine.1, grown)
            (λ j u other e. fits_more h.owner h.reader h.made h.got all more j u (λ k owned. same k (λ is. other (sym owned ∙ ap h.owner is ∙ mine.0))) (h.fits j u e));
      },
      refl,
    )

-- ---- a receive

fits_got : (owner : Owners) (reader made pass : ℕ) (got now all : List Message) (j : ℕ) (u : View) → pass ≡ reader → j ≢ pass → Fits owner reader made got all j u → Fits owner reader made now all j u
fits_got owner reader made pass got now all j (Puts i put) here other f = f
fits_got owner reader made pass got now all j (Takes m g es) here other f = absurd (other (f.0 ∙ sym here))
fits_got owner reader made pass got now all j Spent here other f = tt

pub takes : (pass m : ℕ) (g : List Message) (es : List Ended) → Pops Carries pass (Takes m g es) (IsTaken (Takes m g es))
takes pass m g es x items views h at =
    let all : List Message = h.got ++ (x ∷ items) in
    let now : List Message = h.got ++ x ∷ [] in
    let same : now ++ items ≡ all = append_assoc h.got (x ∷ []) items in
    let mine : (pass ≡ h.reader) × (m ≡ h.made) × (g ≡ h.got) × AreEnded h.owner h.reader h.made all es = h.fits pass (Takes m g es) at in
    let w : View = Takes m (g ++ x ∷ []) es in
    let there : length (share_of x.sender h.got) + 1 ≤ length (share_of x.sender all) = share_there x h.got items in
    let few : length (share_of x.sender all) < 2 ^ 64 = h.counted.few x.sender in
    let made : m ≡ h.made = mine.1 in
    let of_g : length (share_of x.sender g) ≡ length (share_of x.sender h.got) = ap (λ ms. length (share_of x.sender ms)) mine.2 in (
      w,
      record {
        owner = h.owner;
        reader = h.reader;
        made = h.made;
        got = now;
        counted = subst (IsCounted h.made) (sym same) h.counted;
        fits = subst (λ ms. All (Fits h.owner h.reader h.made now ms) (set views pass w)) (sym same)
            (all_set (Fits h.owner h.reader h.made now all) views pass w (mine.0, mine.1, ap (λ ms. ms ++ x ∷ []) mine.2, mine.3)
            (λ j u other e. fits_got h.owner h.reader h.made pass h.got now all j u mine.0 other (h.fits j u e)));
      },
      (
        refl,
        elim (cases_lt x.sender m) [
          | inl below ↦ below
          | inr past ↦ absurd (let none : length (share_of x.sender all) ≡ 0 = ap length (h.counted.none x.sender (omega arith)) in omega arith)
        ],
        omega arith,
      ),
    )

-- ---- a new sender

abbrev owner_with : Owners → ℕ → ℕ → Owners
owner_with owner m pass k = cond (eqb k m) pass (owner k)

owner_same : (owner : Owners) (m pass k : ℕ) → k ≢ m → owner_with owner m pass k ≡ owner k
owner_same owner m pass k other = ap (λ b. cond b pass (owner k)) (ne_eqb k m other)

owner_here : (owner : Owners) (m pass : ℕ) → owner_with owner m pass m ≡ pass
owner_here owner m pass = ap (λ b. cond b pass (owner m)) (eq-eqb m m refl)

ended_made : (owner : Owners) (reader made place : ℕ) (all : List Message) (es : List Ended) → AreEnded owner reader made all es → AreEnded (owner_with owner made place) reader (made + 1) all es
ended_made owner reader made place all [] are = tt
ended_made owner reader made place all (e ∷ es) are =
    let below : e.sender < made = are.0.was_made in (
      record { given_back = owner_same owner made place e.sender (λ is. absurd (omega arith)) ∙ are.0.given_back; was_made = omega arith; share = are.0.share },
      ended_made owner reader made place all es are.1,
    )

fits_made : (owner : Owners) (reader made place : ℕ) (got all : List Message) (pass j : ℕ) (u : View) → pass ≡ reader → j ≢ pass → Fits owner reader made got all j u → Fits (owner_with owner made place) reader (made + 1) got all j u
fits_made owner reader made place got all pass j (Puts i put) here other f =
    let below : i < made = f.1 in
    (owner_same owner made place i (λ is. absurd (omega arith)) ∙ f.0, omega arith, f.2)
fits_made owner reader made place got all pass j (Takes m g es) here other f = absurd (other (f.0 ∙ sym here))
fits_made owner reader made place got all pass j Spent here other f = tt

pub forks : (pass m : ℕ) (g : List Message) (es : List Ended) → Forks Carries pass (Takes m g es) (Takes (m + 1) g es) (Puts m [])
forks pass m g es items views h at =
    let all : List Message = h.got ++ items in
    let left : View = Takes (m + 1) g es in
    let old : List View = set views pass left in
    let place : ℕ = length old in
    let mine : (pass ≡ h.reader) × (m ≡ h.made) × (g ≡ h.got) × AreEnded h.owner h.reader h.made all es = h.fits pass (Takes m g es) at in
    let made : m ≡ h.made = mine.1 in
    let fits_old : All (Fits (owner_with h.owner h.made place) h.reader (h.made + 1) h.got all) old =
    all_set (Fits (owner_with h.owner h.made place) h.reader (h.made + 1) h.got all) views pass left (mine.0, omega arith, mine.2, ended_made h.owner h.reader h.made place all es mine.3)
    (λ j u other e. fits_made h.owner h.reader h.made place h.got all pass j u mine.0 other (h.fits j u e)) in
    record {
      owner = owner_with h.owner h.made place;
      reader = h.reader;
      made = h.made + 1;
      got = h.got;
      counted = record { none = λ k low. h.counted.none k (omega arith); few = h.counted.few };
      fits = λ j u e. ⊎_elim (λ (there : get_elem? old j ≡ some u). fits_old j u there)
          (λ (new : (j ≡ place) × (Puts m [] ≡ u)). subst (λ v. Fits (owner_with h.owner h.made place) h.reader (h.made + 1) h.got all j v) new.1
          (ap (owner_with h.owner h.made place) made ∙ owner_here h.owner h.made place ∙ sym new.0, omega arith, h.counted.none m (omega arith))) (at_end old (Puts m []) u j e);
    }

-- ---- a pass that is given back

ended_merge : (owner : Owners) (reader made i : ℕ) (all : List Message) (es : List Ended) → AreEnded owner reader made all es → AreEnded (owner_with owner i reader) reader made all es
ended_merge owner reader made i all [] are = tt
ended_merge owner reader made i all (e ∷ es) are = (
  record {
    given_back = (elim (cases_eq e.sender i) [
      | inl here ↦ ap (owner_with owner i reader) here ∙ owner_here owner i reader
      | inr other ↦ owner_same owner i reader e.sender other ∙ are.0.given_back
    ]);
    was_made = are.0.was_made;
    share = are.0.share;
  },
  ended_merge owner reader made i all es are.1,
)

fits_merge : (owner : Owners) (reader made i : ℕ) (got all : List Message) (pass other j : ℕ) (u : View) → pass ≡ reader → owner i ≡ other → j ≢ other → j ≢ pass → Fits owner reader made got all j u → Fits (owner_with owner i reader) reader made got all j u
fits_merge owner reader made i got all pass other j (Puts k put) here theirs apart aside f = (owner_same owner i reader k (λ is. apart (sym f.0 ∙ ap owner is ∙ theirs)) ∙ f.0, f.1, f.2)
fits_merge owner reader made i got all pass other j (Takes m g es) here theirs apart aside f = absurd (aside (f.0 ∙ sym here))
fits_merge owner reader made i got all pass other j Spent here theirs apart aside f = tt

pub merges : (pass m : ℕ) (g : List Message) (es : List Ended) (other i : ℕ) (put : List Frame) → Merges Carries pass (Takes m g es) other (Puts i put) (Takes m g (ended i put ∷ es)) Spent
merges pass m g es other i put items views h at two at' =
    let all : List Message = h.got ++ items in
    let both : View = Takes m g (ended i put ∷ es) in
    let owner : Owners = owner_with h.owner i h.reader in
    let mine : (pass ≡ h.reader) × (m ≡ h.made) × (g ≡ h.got) × AreEnded h.owner h.reader h.made all es = h.fits pass (Takes m g es) at in
    let was : get_elem? views other ≡ some (Puts i put) = ⊎_elim (λ (x : (other ≡ pass) × (both ≡ Puts i put)). absurd (two x.0)) (λ (x : (other ≢ pass) × (get_elem? views other ≡ some (Puts i put))). x.1) (at_set views pass other both (Puts i put) at') in
    let theirs : (h.owner i ≡ other) × (i < h.made) × (share_of i all ≡ put) = h.fits other (Puts i put) was in
    let Now : ℕ → View → Type 0 = λ j u. j ≢ other → Fits owner h.reader h.made h.got all j u in
    let now : All Now (set views pass both) = all_set Now views pass both
    (λ apart. (mine.0, mine.1, mine.2, (record { given_back = owner_here h.owner i h.reader; was_made = theirs.1; share = theirs.2 }, ended_merge h.owner h.reader h.made i all es mine.3)))
    (λ j u aside e apart. fits_merge h.owner h.reader h.made i h.got all pass other j u mine.0 theirs.0 apart aside (h.fits j u e)) in
    record {
      owner = owner;
      reader = h.reader;
      made = h.made;
      got = h.got;
      counted = h.counted;
      fits = all_set (Fits owner h.reader h.made h.got all) (set views pass both) other Spent tt (λ j u apart e. now j u e apart);
    }

-- ---- what the taker learns

have_put : (owner : Owners) (reader made : ℕ) (all : List Message) (es : List Ended) → AreEnded owner reader made all es → HavePut all es
have_put owner reader made all [] are = tt
have_put owner reader made all (e ∷ es) are = (are.0.share, have_put owner reader made all es are.1)

pub learns : (pass m : ℕ) (g : List Message) (es : List Ended) → Learns Carries pass (Takes m g es) (λ items. HavePut (g ++ items) es)
learns pass m g es items views h at =
    let mine : (pass ≡ h.reader) × (m ≡ h.made) × (g ≡ h.got) × AreEnded h.owner h.reader h.made (h.got ++ items) es = h.fits pass (Takes m g es) at in
    subst (λ ms. HavePut (ms ++ items) es) (sym mine.2) (have_put h.owner h.reader h.made (h.got ++ items) es mine.3)

-- ---- the steps of a view that is known

pub puts_at : (n pass i : ℕ) (put : List Frame) (x : Message) (v : View) → v ≡ Puts i put → x.sender ≡ i → length put + 1 < 2 ^ 64 → Pushes Carries n pass v x (λ w. w ≡ after_put v x)
puts_at n pass i put x v is own small = subst (λ u. Pushes Carries n pass u x (λ w. w ≡ after_put u x)) (sym is) (puts n pass i put x own small)

pub takes_at : (pass m : ℕ) (g : List Message) (es : List Ended) (v : View) → v ≡ Takes m g es → Pops Carries pass v (IsTaken v)
takes_at pass m g es v is = subst (λ u. Pops Carries pass u (IsTaken u)) (sym is) (takes pass m g es)

pub forks_at : (pass m : ℕ) (g : List Message) (es : List Ended) (v : View) → v ≡ Takes m g es → Forks Carries pass v (with_sender v) (new_sender v)
forks_at pass m g es v is = subst (λ u. Forks Carries pass u (with_sender u) (new_sender u)) (sym is) (forks pass m g es)

pub merges_at : (pass m : ℕ) (g : List Message) (es : List Ended) (other i : ℕ) (put : List Frame) (v u : View) → v ≡ Takes m g es → u ≡ Puts i put → Merges Carries pass v other u (with_ended v u) Spent
merges_at pass m g es other i put v u is theirs =
    subst (λ y. Merges Carries pass y other u (with_ended y u) Spent) (sym is) (subst (λ y. Merges Carries pass (Takes m g es) other y (with_ended (Takes m g es) y) Spent) (sym theirs) (merges pass m g es other i put))

pub learns_at : (pass m : ℕ) (g : List Message) (es : List Ended) (v : View) → v ≡ Takes m g es → Learns Carries pass v (AreOnTheWay v)
learns_at pass m g es v is = subst (λ u. Learns Carries pass u (AreOnTheWay u)) (sym is) (learns pass m g es)
