use Rattle.spk_plant_relay.proofs.Due.{complete}
use Rattle.spk_plant_relay.proofs.Facts.{Facts}
use Rattle.spk_plant_relay.proofs.Few.{few}
use Rattle.spk_plant_relay.proofs.Places.{places-of}
use Rattle.spk_plant_relay.proofs.laws.few.Goals as goal

facts : goal.After-drops → Facts
facts c = record {
  lawful = c.any_list.ensures.lawful;
  done = c.routing.ensures.done;
  sends = c.plain_publish.ensures.sends;
  closes = c.plain_publish.ensures.closes;
  joined = c.staying.ensures.joined;
  listening = c.staying.ensures.listening;
  heard = c.filters.ensures.heard;
  no_filters = c.filters.ensures.first;
  filters = c.filters.ensures.kept;
  alike = c.filters.ensures.alike;
  fresh = c.knowing.ensures.fresh;
  opened = c.knowing.ensures.opened;
  given = c.knowing.ensures.given;
  stands = c.knowing.ensures.stands;
  closed = c.knowing.ensures.closed;
  ended = c.knowing.ensures.ended;
  gone = c.knowing.ensures.gone;
  first = c.joining.ensures.first;
  no_drops = c.drops.ensures.first;
  few = c.drops.ensures.few;
  limit = c.drops.ensures.limit;
  dropped = c.drops.ensures.kept;
  other = c.drops.ensures.other;
}

pub returns-clause-places : goal.returns-clause-places
returns-clause-places c = λ limit edges k on log small is_log says senders. places-of (facts c) limit edges on k small log is_log says senders

pub returns-clause-few : goal.returns-clause-few
returns-clause-few c = λ limit edges k on log small is_log says senders.
    few (facts c) limit edges on k small log is_log says (places-of (facts c) limit edges on k small log is_log says senders)

pub returns-clause-complete : goal.returns-clause-complete
returns-clause-complete c = λ limit edges k on log small is_log says senders none offered.
    complete (facts c) limit edges on k small log is_log says (places-of (facts c) limit edges on k small log is_log says senders) none offered
