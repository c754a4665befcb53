use Rattle.std.proofs.Common.{◌≡◌, ◌∙◌, ◌++◌, ◌∷◌, [], List, ℕ, map, ap, sym}
use Rattle.std.specs.Prelude.{Ok, Result, Vec}
use Rattle.std.specs.declared.alloc.Global.{Global}
use Rattle.spk_host_session.specs.Answer.{spelled}
use Rattle.spk_host_session.specs.Packets.{connect_of}
use Rattle.spk_host_session.specs.Step.{outside}
use Rattle.spk_host_session.specs.declared.fault.HostFault.{HostFault}
use Rattle.spk_host.specs.Data.{HostData, OutData}
use Rattle.spk_host.proofs.host.Host.connected.Goals as goal

abbrev texts : List (List ℕ) → Result (List (List ℕ)) HostFault
texts packets = Ok packets

pub returns-clause-said : goal.returns-clause-said
returns-clause-said c =
    let packets : map (λ (b : Vec ℕ Global). b.items) c.sent.result.packets.items ≡ c.in_ok-connected.field-0.items ∷ [] =
    ap (λ (o : OutData). o.packets) c.sent.ensures.said
    ∙ ap (map (λ (b : Vec ℕ Global). b.items))
    (c.push_reserved.ensures.items ∙ ap (λ l. l ++ c.in_ok-connected.field-0 ∷ []) c.in_ok-packets.ensures.items) in
    ap (λ (h : HostData). spelled (outside h.session.began (connect_of h.session.config c.args.now ∷ []))) (sym c.self.view_is)
    ∙ c.in_ok-connected.ensures.said ∙ ap texts (sym packets)
