-- Keys in chains: where a chain ends, and one key more.
use Rattle.std.proofs.Common.{◌≡◌, ◌⊎◌, ◌∙◌, sym, ap, refl, subst, inl, inr, arith, ℕ, zero, suc, List, [], ◌∷◌, ◌++◌, map, length, get_or, Some}
use Rattle.std.specs.Prelude.{◌-◌, ◌<◌, ◌≤◌, min, slice_get}
use Rattle.std.proofs.lemmas.List.{length-append, length-map, map-append}
use Rattle.std.proofs.lemmas.Option.{slice_get-get_or, slice_get-map, slice_get_within}
use Rattle.std.specs.Option.{option_map}
use Rattle.spk_view.specs.declared.keys.Link.{Link}
use Rattle.spk_view.specs.Keyed.{AreChained, IsEnd, KeyList, chain_of, key_in}
use Rattle.spk_view.proofs.Places.{append-new, append-old, append-sees}

-- ---- numbers of chains

clamped : (x count : ℕ) → 0 < count → min x (count - 1) < count
clamped x count h = omega arith

-- a key has one of the chains
pub chain-low : (count key : ℕ) → 0 < count → chain_of count key < count
unfolding chain_of
chain-low count key h = clamped _ count h

clamped-none : (x y : ℕ) → min x (0 - 1) ≡ min y (0 - 1)
clamped-none x y = omega arith

-- of none all keys have the same
pub chain-none : (key other : ℕ) → chain_of 0 key ≡ chain_of 0 other
unfolding chain_of
chain-none key other = clamped-none _ _

-- ---- where a chain ends

pub end-found : (ends : List ℕ) (links : List Link) (key chain end : ℕ) → AreChained ends links → chain ≡ chain_of (length ends) key → slice_get ends chain ≡ Some end
    → IsEnd (length ends) (map key_in links) (length (map key_in links)) (chain_of (length ends) key) end
end-found ends links key chain end chained is at =
    subst (λ n. IsEnd (length ends) (map key_in links) n (chain_of (length ends) key) end) (sym (length-map links key_in))
    (subst (λ c. IsEnd (length ends) (map key_in links) (length links) c end) is (chained.last chain end at))

-- where there is one chain for all, which no list leads to
pub end-none : (ends : List ℕ) (links : List Link) (key chain end : ℕ) → chain ≡ chain_of (length ends) key → length ends ≤ chain → end ≡ length links
    → IsEnd (length ends) (map key_in links) (length (map key_in links)) (chain_of (length ends) key) end
end-none ends links key chain end is past same = record {
  low = omega (arith, length-map links key_in);
  all = λ k other low at one. omega (arith, length-map links key_in);
  own = λ k at. (
    get_or (map key_in links) k 0,
    slice_get-get_or (map key_in links) k 0 (omega (arith, length-map links key_in)),
    subst (λ n. chain_of n (get_or (map key_in links) k 0) ≡ chain_of n key) (sym empty) (chain-none (get_or (map key_in links) k 0) key),
  );
}
  where
    none : (n low : ℕ) → (0 < n → low < n) → n ≤ low → n ≡ 0
    none zero low h past = refl
    none (suc n) low h past = absurd (omega (arith, h (omega arith)))

    empty : length ends ≡ 0
    empty = none (length ends) (chain_of (length ends) key) (chain-low (length ends) key) (omega arith)

-- ---- one key more

module _ (count : ℕ) (keys : List ℕ) (key : ℕ) where
  end-before : (n chain end : ℕ) → n ≤ length keys → IsEnd count keys n chain end → IsEnd count (keys ++ key ∷ []) n chain end
  end-before n chain end low is = record {
    low = is.low;
    all = λ k other below at one. by k other below one (append-sees keys key k other at);
    own = λ k at. let had = is.own k at in (had.0, append-old keys key k had.0 had.1, had.2);
  }
    where
      by : (k other : ℕ) → k < n → chain_of count other ≡ chain → ((k ≡ length keys) × (other ≡ key)) ⊎ (slice_get keys k ≡ Some other) → k < end
      by k other below one (inl h) = absurd (never h.0)
        where
          never : k ≡ length keys → ⊥
          never e = absurd (omega arith)
      by k other below one (inr at) = is.all k other below at one

  end-other : (chain end : ℕ) → (chain ≡ chain_of count key → ⊥) → IsEnd count keys (length keys) chain end → IsEnd count (keys ++ key ∷ []) (suc (length keys)) chain end
  end-other chain end off is = record {
    low = omega (arith, is.low);
    all = λ k other below at one. by k other one (append-sees keys key k other at);
    own = λ k at. let had = is.own k at in (had.0, append-old keys key k had.0 had.1, had.2);
  }
    where
      by : (k other : ℕ) → chain_of count other ≡ chain → ((k ≡ length keys) × (other ≡ key)) ⊎ (slice_get keys k ≡ Some other) → k < end
      by k other one (inl h) = absurd (off (sym one ∙ ap (chain_of count) h.1))
      by k other one (inr at) = is.all k other (slice_get_within keys k other at) at one

  end-own : (chain : ℕ) → chain ≡ chain_of count key → IsEnd count (keys ++ key ∷ []) (suc (length keys)) chain (suc (length keys))
  end-own chain is = record {
    low = omega arith;
    all = λ k other below at one. below;
    own = λ k at. (key, ap (slice_get (keys ++ key ∷ [])) (sym (back k at)) ∙ append-new keys key, sym is);
  }
    where
      back : (k : ℕ) → suc (length keys) ≡ suc k → length keys ≡ k
      back k h = omega arith

-- a chain's new end is written where the chain has one
pub chained-more : (ends new : List ℕ) (links : List Link) (key before : ℕ) → AreChained ends links
    → IsEnd (length ends) (map key_in links) (length (map key_in links)) (chain_of (length ends) key) before
    → length new ≡ length ends
    → ((chain end : ℕ) → slice_get new chain ≡ Some end
    → ((chain ≡ chain_of (length ends) key) × (end ≡ suc (length links))) ⊎ ((chain ≡ chain_of (length ends) key → ⊥) × (slice_get ends chain ≡ Some end)))
    → AreChained new (links ++ record { key = key; before = before } ∷ [])
chained-more ends new links key before chained was size seen = record {
  last = λ chain end at. moved (suc (length (map key_in links))) (length (links ++ link ∷ [])) chain chain end longer refl (ended chain end (seen chain end at));
  before = λ k l at. by k l (append-sees links link k l at);
}
  where
    link : Link
    link = record { key = key; before = before }

    keys : List ℕ
    keys = map key_in links

    longer : suc (length (map key_in links)) ≡ length (links ++ link ∷ [])
    longer = omega (arith, length-map links key_in, length-append links (link ∷ []))

    moved : (n m chain other end : ℕ) → n ≡ m → chain ≡ other → IsEnd (length ends) (map key_in links ++ key ∷ []) n chain end
        → IsEnd (length new) (map key_in (links ++ link ∷ [])) m other end
    moved n m chain other end same one is =
        subst (λ d. IsEnd (length new) (map key_in (links ++ link ∷ [])) m d end) one
        (subst (λ j. IsEnd (length new) (map key_in (links ++ link ∷ [])) j chain end) same
        (subst (λ ks. IsEnd (length new) ks n chain end) (sym (map-append key_in links (link ∷ [])))
        (subst (λ count. IsEnd count (keys ++ key ∷ []) n chain end) (sym size) is)))

    ended : (chain end : ℕ)
        → ((chain ≡ chain_of (length ends) key) × (end ≡ suc (length links))) ⊎ ((chain ≡ chain_of (length ends) key → ⊥) × (slice_get ends chain ≡ Some end))
        → IsEnd (length ends) (map key_in links ++ key ∷ []) (suc (length (map key_in links))) chain end
    ended chain end (inl h) =
        subst (λ e. IsEnd (length ends) (keys ++ key ∷ []) (suc (length keys)) chain e) (ap suc (length-map links key_in) ∙ sym h.1)
        (end-own (length ends) keys key chain h.0)
    ended chain end (inr h) =
        end-other (length ends) keys key chain end h.0
        (subst (λ n. IsEnd (length ends) keys n chain end) (sym (length-map links key_in)) (chained.last chain end h.1))

    by : (k : ℕ) (l : Link) → ((k ≡ length links) × (l ≡ link)) ⊎ (slice_get links k ≡ Some l)
        → IsEnd (length new) (map key_in (links ++ link ∷ [])) k (chain_of (length new) l.key) l.before
    by k l (inl h) =
        subst (λ (x : Link). IsEnd (length new) (map key_in (links ++ link ∷ [])) k (chain_of (length new) x.key) x.before) (sym h.1)
        (moved (length keys) k (chain_of (length ends) key) (chain_of (length new) key) before (length-map links key_in ∙ sym h.0) (ap (λ n. chain_of n key) (sym size))
        (end-before (length ends) keys key (length keys) (chain_of (length ends) key) before (omega arith) was))
    by k l (inr at) =
        moved k k (chain_of (length ends) l.key) (chain_of (length new) l.key) l.before refl (ap (λ n. chain_of n l.key) (sym size))
        (end-before (length ends) keys key k (chain_of (length ends) l.key) l.before
        (omega (arith, slice_get_within links k l at, length-map links key_in)) (chained.before k l at))

-- ---- along a chain

-- a link of a list of keys
pub linked : (ends : List ℕ) (links : List Link) (s : KeyList) → AreChained ends links → record { count = length ends; keys = map key_in links } ≡ s
    → (k : ℕ) (l : Link) → slice_get links k ≡ Some l
    → (slice_get s.keys k ≡ Some l.key) × IsEnd s.count s.keys k (chain_of s.count l.key) l.before
linked ends links s chained is k l at =
    subst (λ (t : KeyList). (slice_get t.keys k ≡ Some l.key) × IsEnd t.count t.keys k (chain_of t.count l.key) l.before) is
    (slice_get-map key_in links k ∙ ap (option_map key_in) at, chained.before k l at)

pub link-low : (ends : List ℕ) (links : List Link) (s : KeyList) → record { count = length ends; keys = map key_in links } ≡ s
    → (k key : ℕ) → slice_get s.keys k ≡ Some key → k < length links
link-low ends links s is k key at =
    let same : map key_in links ≡ s.keys = ap (λ (t : KeyList). t.keys) is in
    let low : k < length (map key_in links) = slice_get_within (map key_in links) k key (ap (λ l. slice_get l k) same ∙ at) in
    omega (arith, length-map links key_in)
