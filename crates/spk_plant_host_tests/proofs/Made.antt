-- A host and a pass that were made.
use Rattle.std.proofs.Common.{◌≡◌, ◌∙◌, ap, sym, List, [], ◌∷◌, ◌++◌}
use Rattle.spk_ingress.specs.Passes.{AllPutInto, PutsInto}
use Rattle.spk_ingress.specs.declared.channel.Ingress.{Ingress}
use Rattle.spk_ingress.specs.declared.channel.PutPass.{PutPass}
use Rattle.spk_host_session.specs.Data.{Config}
use Rattle.spk_host.specs.Data.{HostData}
use Rattle.spk_host.specs.Inputs.{new_host}

pub new_is_new : (h : HostData) (config : Config) → h ≡ new_host config → h ≡ new_host h.session.config
new_is_new h config e = e ∙ ap new_host (sym (ap (λ (x : HostData). x.session.config) e))

pub last_puts_into : (n : Ingress) (ps : List PutPass) (p : PutPass) → AllPutInto n (ps ++ p ∷ []) → PutsInto n p
last_puts_into n [] p all = all.0
last_puts_into n (q ∷ ps) p all = last_puts_into n ps p all.1
