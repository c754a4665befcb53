use Rattle.std.proofs.Common.{◌≡◌, ◌⊎◌, ◌∙◌, refl, sym, ap, subst, inl, inr, length, map, set, suc, Some, List, ℕ, arith}
use Rattle.std.proofs.lemmas.List.{length-set}
use Rattle.std.proofs.lemmas.Option.{slice_get_within}
use Rattle.std.specs.Prelude.{◌≤◌, slice_get}
use Rattle.spk_view.specs.Keyed.{AreChained, IsEnd, KeyList, chain_of, key_in}
use Rattle.spk_view.specs.declared.keys.Link.{Link}
use Rattle.spk_view.proofs.Chains.{chained-more}
use Rattle.spk_view.proofs.Places.{set-sees}
use Rattle.spk_view.proofs.keys.Keys.push.Goals as goal

-- what is known of the chain's end
was : (count : ℕ) (links : List Link) (s : KeyList) (key before : ℕ) → record { count = count; keys = map key_in links } ≡ s
    → IsEnd s.count s.keys (length s.keys) (chain_of s.count key) before
    → IsEnd count (map key_in links) (length (map key_in links)) (chain_of count key) before
was count links s key before is h = subst (λ (t : KeyList). IsEnd t.count t.keys (length t.keys) (chain_of t.count key) before) (sym is) h

pub invariant_of-self-then-chain-len : goal.invariant_of-self-then-chain-len
invariant_of-self-then-chain-len c =
    let ends = c.self.inside.ends.items in
    let links = c.self.inside.links.items in
    let size : c.len.result ≡ length ends = c.len.ensures ∙ c.self.inside.ends.ok.0 in
    let chain : c.chain_of-chain.result ≡ chain_of (length ends) c.args.key = c.chain_of-chain.ensures ∙ ap (λ n. chain_of n c.args.key) size in
    let count : c.len-then-chain-len.result ≡ suc (length links) = omega (arith, c.len-then-chain-len.ensures, c.in_ok-push.ensures.len, c.self.inside.links.ok.0) in
    subst (AreChained (set ends c.chain_of-chain.result c.len-then-chain-len.result)) (sym c.in_ok-push.ensures.items)
    (chained-more ends (set ends c.chain_of-chain.result c.len-then-chain-len.result) links c.args.key c.end-before.result c.self.invariant
    (was (length ends) links c.args.self.now c.args.key c.end-before.result c.self.view_is c.end-before.ensures)
    (length-set ends c.chain_of-chain.result c.len-then-chain-len.result)
    (λ d end at. by ends links c.chain_of-chain.result c.len-then-chain-len.result c.args.key chain count d end
    (set-sees ends c.chain_of-chain.result c.len-then-chain-len.result d end at)))
  where
    by : (ends : List ℕ) (links : List Link) (chain n key : ℕ) → chain ≡ chain_of (length ends) key → n ≡ suc (length links) → (d end : ℕ)
        → ((d ≡ chain) × (end ≡ n)) ⊎ ((d ≡ chain → ⊥) × (slice_get ends d ≡ Some end))
        → ((d ≡ chain_of (length ends) key) × (end ≡ suc (length links))) ⊎ ((d ≡ chain_of (length ends) key → ⊥) × (slice_get ends d ≡ Some end))
    by ends links chain n key is count d end (inl h) = inl (h.0 ∙ is, h.1 ∙ count)
    by ends links chain n key is count d end (inr h) = inr ((λ e. h.0 (e ∙ sym is)), h.1)

pub invariant_of-self-else-chain-len : goal.invariant_of-self-else-chain-len
invariant_of-self-else-chain-len c =
    let ends = c.self.inside.ends.items in
    let links = c.self.inside.links.items in
    let size : c.len.result ≡ length ends = c.len.ensures ∙ c.self.inside.ends.ok.0 in
    let chain : c.chain_of-chain.result ≡ chain_of (length ends) c.args.key = c.chain_of-chain.ensures ∙ ap (λ n. chain_of n c.args.key) size in
    let past : length ends ≤ c.chain_of-chain.result = omega (arith, c.if-chain-len.false, c.len-2.ensures, c.self.inside.ends.ok.0) in
    subst (AreChained ends) (sym c.in_ok-push.ensures.items)
    (chained-more ends ends links c.args.key c.end-before.result c.self.invariant
    (was (length ends) links c.args.self.now c.args.key c.end-before.result c.self.view_is c.end-before.ensures)
    refl
    (λ d end at. inr ((λ e. off ends c.chain_of-chain.result d end at (e ∙ sym chain) past), at)))
  where
    off : (ends : List ℕ) (chain d end : ℕ) → slice_get ends d ≡ Some end → d ≡ chain → length ends ≤ chain → ⊥
    off ends chain d end at same past = absurd (omega (arith, slice_get_within ends d end at))
