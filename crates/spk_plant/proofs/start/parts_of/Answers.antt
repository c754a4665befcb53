use Rattle.std.proofs.Common.{◌≡◌, ◌∙◌, ◌+◌, length, refl, ap, subst, arith, rules, string_bytes}
use Rattle.spk_host.specs.Inputs.{new_host}
use Rattle.spk_plan_rules.specs.Plan.{host_config}
use Rattle.spk_plant.specs.Start.{AreRings, AreStarts}
use Rattle.spk_plant.proofs.Faults.{no_edges}
use Rattle.spk_plant.proofs.Starts.{parts_are}
use Rattle.spk_plant.proofs.start.parts_of.Goals as goal

pub returns-clause-parts : goal.returns-clause-parts
returns-clause-parts g c =
    let p = c.args.plan in
    let count : c.len-count.result + 1 ≡ length p.nodes.items + 1 = omega (arith, c.len-count.ensures, p.nodes.ok.0) in
    parts_are p c.in-Ok-open.opened.0 c.in-Ok-open.opened.1.items c.pop.new.self.items c.in-Ok-rings_of.rings.1.items c.pop-2.new.self.items c.in-Ok-starts_of.edges.items
    (record { width = p.width; pass = c.in-Ok-open.opened.2; outlets = c.in-Ok-rings_of.rings.0 })
    (record { host = c.in-Ok.node; nodes = c.in_ok-names.names; pass = c.in-Some.pass; inlet = c.in-Some-pop.inlet })
    (c.in-Ok-open.ensures.senders ∙ count) c.in-Ok-open.ensures.passes c.in-Some.ensures.items
    (subst (λ n. AreRings p.ring n c.in-Ok-rings_of.rings.0.items c.in-Ok-rings_of.rings.1.items) count c.in-Ok-rings_of.ensures.rings) c.in-Some-pop.ensures.items
    (subst (λ x. AreStarts x (string_bytes p.host) p.nodes.items c.pop.new.self.items c.pop-2.new.self.items c.in-Ok-starts_of.edges.items) c.as_str-3.ensures.value
    (subst (λ x. AreStarts c.as_str-3.result.now x p.nodes.items c.pop.new.self.items c.pop-2.new.self.items c.in-Ok-starts_of.edges.items) c.as_str-4.ensures.value c.in-Ok-starts_of.ensures.starts))
    refl c.in-Ok-open.ensures.taker.0 c.in-Ok-open.ensures.taker.1
    (c.in-Ok.ensures.host ∙ (ap (λ x. new_host (host_config x c.as_str-2.result.now p.wait p.width)) c.as_str.ensures.value
    ∙ ap (λ x. new_host (host_config (string_bytes p.group) x p.wait p.width)) c.as_str-2.ensures.value))
    (c.in_ok-names.ensures ∙ search rules)

pub returns-in-Err-starts_of-clause-fault : goal.returns-in-Err-starts_of-clause-fault
returns-in-Err-starts_of-clause-fault g c =
    no_edges c.args.plan c.in-Err-starts_of.fault c.as_str-3.result.now c.as_str-4.result.now c.as_str-3.ensures.value c.as_str-4.ensures.value c.in-Err-starts_of.ensures.fault
