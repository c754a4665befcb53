use Rattle.std.proofs.Common.{◌≡◌, ◌∷◌, [], ℕ, map, take, vec_len, Global}
use Rattle.std.specs.List.{flat_map, fold}
use Rattle.spk_broker_rules.specs.Step.{Turn, offer}
use Rattle.spk_broker_rules.specs.Words.{offers_to}
use Rattle.spk_broker.specs.Encoded.{AreEncoded}
use Rattle.spk_broker.specs.Offering.{Offering}
use Rattle.spk_broker.specs.Parts.{grant_view, retained_view}
use Rattle.spk_broker.specs.Touched.{OnlyAt}
use Rattle.spk_broker.specs.View.{state_was}
use Rattle.spk_broker.proofs.state.State.offer_all.Given as goal

abbrev pub invariant-loop-grant : goal.invariant-loop-grant
invariant-loop-grant l = record {
  done : (key : ℕ) (t : Turn) → Offering l.initial.self l.initial.draft l.place key t → Offering l.self l.draft l.place key
      (fold (offer key) t (flat_map (offers_to (map (retained_view {A = Global}) l.initial.self.retained.entries)) (map grant_view (take l.grant-index l.given))));
  retained : l.self.retained ≡ l.initial.self.retained;
  len : vec_len l.self.sessions ≡ vec_len l.initial.self.sessions;
  same : state_was l.self ≡ state_was l.initial.self;
  right : AreEncoded l.encoded (map (retained_view {A = Global}) l.initial.self.retained.entries);
  only : OnlyAt (l.place ∷ []) l.initial.self → OnlyAt (l.place ∷ []) l.self;
}
