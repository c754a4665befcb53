use Rattle.std.proofs.Common.{◌≡◌, ◌<◌, ◌∙◌, ap, subst, refl, length, Some, arith}
use Rattle.std.proofs.lemmas.Option.{slice_get_read}
use Rattle.std.specs.Prelude.{slice_get}
use Rattle.spk_view.specs.Keyed.{IsEnd, KeyList, chain_of}
use Rattle.spk_view.proofs.Chains.{end-found, end-none}
use Rattle.spk_view.proofs.keys.Keys.end.Goals as goal

pub returns-then-chain-len : goal.returns-then-chain-len
returns-then-chain-len c =
    let ends = c.self.inside.ends.items in
    let size : c.len.result ≡ length ends = c.len.ensures ∙ c.self.inside.ends.ok.0 in
    let low : c.chain_of-chain.result < length ends = omega (arith, c.self.inside.ends.ok.0) in
    let at : slice_get ends c.chain_of-chain.result ≡ Some c.index.result.now =
    slice_get_read ends (length ends) c.chain_of-chain.result c.index.result.now refl low c.index.ensures in
    subst (λ (s : KeyList). IsEnd s.count s.keys (length s.keys) (chain_of s.count c.args.key) c.index.result.now) c.self.view_is
    (end-found ends c.self.inside.links.items c.args.key c.chain_of-chain.result c.index.result.now c.self.invariant
    (c.chain_of-chain.ensures ∙ ap (λ n. chain_of n c.args.key) size) at)

pub returns-else-chain-len : goal.returns-else-chain-len
returns-else-chain-len c =
    let ends = c.self.inside.ends.items in
    let links = c.self.inside.links.items in
    let size : c.len.result ≡ length ends = c.len.ensures ∙ c.self.inside.ends.ok.0 in
    let end = c.len-else-chain-len.result in
    subst (λ (s : KeyList). IsEnd s.count s.keys (length s.keys) (chain_of s.count c.args.key) end) c.self.view_is
    (end-none ends links c.args.key c.chain_of-chain.result end
    (c.chain_of-chain.ensures ∙ ap (λ n. chain_of n c.args.key) size)
    (omega (arith, c.self.inside.ends.ok.0)) (c.len-else-chain-len.ensures ∙ c.self.inside.links.ok.0))
