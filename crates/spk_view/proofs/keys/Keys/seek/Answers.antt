use Rattle.std.proofs.Common.{◌≡◌, ◌-◌, ◌<◌, ◌∙◌, sym, ap, refl, length, suc, Some, ℕ, arith}
use Rattle.std.proofs.lemmas.Option.{slice_get_read}
use Rattle.std.specs.Prelude.{slice_get}
use Rattle.spk_view.specs.Keyed.{chain_of}
use Rattle.spk_view.specs.declared.keys.Link.{Link}
use Rattle.spk_view.proofs.Chains.{link-low, linked}
use Rattle.spk_view.proofs.Places.{same-some}
use Rattle.spk_view.proofs.keys.Keys.seek.Goals as goal

last : (n : ℕ) → 0 < n → n ≡ suc (n - 1)
last n h = omega arith

pub index-link-requires : goal.index-link-requires
index-link-requires c =
    let place = c.loop-end.end - 1 in
    let own = c.loop-end.invariant.own place (last c.loop-end.end c.loop-end-test.true) in
    let low = link-low c.self.inside.ends.items c.self.inside.links.items c.args.self.now c.self.view_is place own.0 own.1 in
    omega (arith, low, c.self.inside.links.ok.0)

pub returns-then-link-key : goal.returns-then-link-key
returns-then-link-key c =
    let links = c.self.inside.links.items in
    let place = c.loop-end.end - 1 in
    let own = c.loop-end.invariant.own place (last c.loop-end.end c.loop-end-test.true) in
    let low = link-low c.self.inside.ends.items links c.args.self.now c.self.view_is place own.0 own.1 in
    let at : slice_get links place ≡ Some c.index-link.result.now = slice_get_read links (length links) place c.index-link.result.now refl low c.index-link.ensures in
    let is = linked c.self.inside.ends.items links c.args.self.now c.self.invariant c.self.view_is place c.index-link.result.now at in (
      omega (arith, c.loop-end.invariant.low, c.loop-end-test.true),
      is.0 ∙ ap Some c.if-link-key.true,
      λ k below there. omega (arith, c.loop-end.invariant.seen k below there),
    )

pub loop-end-smaller : goal.loop-end-smaller
loop-end-smaller c =
    let links = c.self.inside.links.items in
    let place = c.loop-end.end - 1 in
    let own = c.loop-end.invariant.own place (last c.loop-end.end c.loop-end-test.true) in
    let low = link-low c.self.inside.ends.items links c.args.self.now c.self.view_is place own.0 own.1 in
    let at : slice_get links place ≡ Some c.index-link.result.now = slice_get_read links (length links) place c.index-link.result.now refl low c.index-link.ensures in
    let is = linked c.self.inside.ends.items links c.args.self.now c.self.invariant c.self.view_is place c.index-link.result.now at in
    omega (arith, is.1.low, c.loop-end-test.true)

pub loop-end-preserved : goal.loop-end-preserved
loop-end-preserved c =
    let links = c.self.inside.links.items in
    let place : ℕ = c.loop-end.end - 1 in
    let end : c.loop-end.end ≡ suc place = last c.loop-end.end c.loop-end-test.true in
    let own = c.loop-end.invariant.own place end in
    let low = link-low c.self.inside.ends.items links c.args.self.now c.self.view_is place own.0 own.1 in
    let link : Link = c.index-link.result.now in
    let at : slice_get links place ≡ Some link = slice_get_read links (length links) place link refl low c.index-link.ensures in
    let is = linked c.self.inside.ends.items links c.args.self.now c.self.invariant c.self.view_is place link at in
    let chain : chain_of c.args.self.now.count c.args.key ≡ chain_of c.args.self.now.count link.key =
    sym own.2 ∙ ap (chain_of c.args.self.now.count) (same-some (sym own.1 ∙ is.0)) in
    record {
      low = omega (arith, is.1.low, c.loop-end.invariant.low);
      seen = λ k below there. is.1.all k c.args.key (earlier k place c.loop-end.end end (c.loop-end.invariant.seen k below there)
          (λ (same : k ≡ place). c.if-link-key.false (same-some (sym is.0 ∙ ap (slice_get c.args.self.now.keys) (sym same) ∙ there)))) there chain;
      own = λ k same. let had = is.1.own k same in (had.0, had.1, had.2 ∙ sym chain);
    }
  where
    earlier : (k place end : ℕ) → end ≡ suc place → k < end → (k ≡ place → ⊥) → k < place
    earlier k place end is low off = omega (arith, off)
