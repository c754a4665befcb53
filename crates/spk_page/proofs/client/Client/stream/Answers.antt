use Rattle.std.proofs.Common.{ap, ◌∙◌}
use Rattle.http1.specs.declared.conn.BodySize.TheVariants.{Unknown}
use Rattle.http1.specs.Server.{after_response}
use Rattle.spk_page.specs.Clients.{Client, stream_fields}
use Rattle.spk_page.proofs.client.Client.stream.Goals as goal

pub returns-clause-server : goal.returns-clause-server
returns-clause-server c =
    c.in_ok-write_response.ensures.next ∙ ap (λ (v : Client). after_response v.server 200 Unknown stream_fields) c.self.view_is
