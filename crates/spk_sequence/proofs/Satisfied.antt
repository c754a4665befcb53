-- Sessions with a gap and with a death that meet what the law asks, in both numberings.
use Rattle.std.proofs.Common.{◌≡◌, ℕ, zero, suc, ◌+◌, ◌<◌, ◌≤◌, ◌⊎◌, true, List, [], ◌∷◌, length, map, refl, sym, ◌∙◌, ap, arith, inl, inr, lit<, lit≤}
use Rattle.std.specs.List.{range_with_len}
use Rattle.std.proofs.lemmas.List.FromFn.{length-map-range_with_len, get_or-map-range_with_len}
use Rattle.std.proofs.lemmas.Bool.{true≢false}
use Rattle.spk_sequence.specs.NodeRecord.{Message, NodeRecord, RunsOn, Restarts, IsNodeRecord, message_at, opens, birth_at, session_at, stamp_at}
use Rattle.spk_sequence.specs.HostRecord.{Input, MessageComes, DeathComes, TickComes}
use Rattle.spk_sequence.specs.Window.{AllNearDeaths}
use Rattle.spk_sequence.specs.Claims.{IsLawful, with_more}
use Rattle.spk_sequence.proofs.Headline.{still_lawful}
use Rattle.spk_sequence.proofs.Sessions.{message, setting}

-- one birth of n messages
abbrev one_birth : ℕ → NodeRecord
one_birth n = map (λ p. message 0 0 (6 + p)) (range_with_len 0 n)

length-one_birth : (n : ℕ) → length (one_birth n) ≡ n
length-one_birth n = length-map-range_with_len (λ p. message 0 0 (6 + p)) 0 n

at_one : (n p : ℕ) → p < length (one_birth n) → message_at (one_birth n) p ≡ message 0 0 (6 + p)
at_one n p below = get_or-map-range_with_len (λ p. message 0 0 (6 + p)) 0 n p p (record { birth = 0; session = 0; stamp = 0 }) (omega (arith, length-one_birth n)) (omega arith)

pub one_birth_is : (n : ℕ) → IsNodeRecord (one_birth n)
one_birth_is n = record {
  first_birth = λ some. ap (λ (m : Message). m.birth) (at_one n 0 some);
  births = λ p below. inl (ap (λ (m : Message). m.birth) (at_one n (p + 1) below) ∙ sym (ap (λ (m : Message). m.birth) (at_one n p (omega arith))));
  one_session = λ p q low high same. ap (λ (m : Message). m.session) (at_one n p low) ∙ sym (ap (λ (m : Message). m.session) (at_one n q high));
  sessions = λ p q order high. (let a : session_at (one_birth n) p ≡ 0 = ap (λ (m : Message). m.session) (at_one n p (omega arith)) in omega arith);
  stamps = λ p q order high.
      let a : stamp_at (one_birth n) p ≡ 6 + p = ap (λ (m : Message). m.stamp) (at_one n p (omega arith)) in
      let b : stamp_at (one_birth n) q ≡ 6 + q = ap (λ (m : Message). m.stamp) (at_one n q high) in omega arith;
  newer = λ p q order high opening.
      let a : stamp_at (one_birth n) p ≡ 6 + p = ap (λ (m : Message). m.stamp) (at_one n p (omega arith)) in
      let b : stamp_at (one_birth n) q ≡ 6 + q = ap (λ (m : Message). m.stamp) (at_one n q high) in omega arith;
}

-- two sessions, each with its birth alone
abbrev two_births : NodeRecord
two_births = message 0 0 6 ∷ message 1 1 8 ∷ []

first_of_two : (p : ℕ) → p + 1 < 2 → p ≡ 0
first_of_two p below = omega arith

two_births_is : IsNodeRecord two_births
two_births_is = record {
  first_birth = λ some. refl;
  births = births;
  one_session = one_session;
  sessions = sessions;
  stamps = stamps;
  newer = newer;
}
  where
    births : (p : ℕ) → p + 1 < 2 → (birth_at two_births (p + 1) ≡ birth_at two_births p) ⊎ (birth_at two_births (p + 1) ≡ birth_at two_births p + 1)
    births zero below = inr refl
    births (suc p) below = absurd (omega arith)

    one_session : (p q : ℕ) → p < 2 → q < 2 → birth_at two_births p ≡ birth_at two_births q → session_at two_births p ≡ session_at two_births q
    one_session zero zero low high same = refl
    one_session zero (suc zero) low high same = same
    one_session zero (suc (suc q)) low high same = absurd (omega arith)
    one_session (suc zero) zero low high same = same
    one_session (suc zero) (suc zero) low high same = refl
    one_session (suc zero) (suc (suc q)) low high same = absurd (omega arith)
    one_session (suc (suc p)) q low high same = absurd (omega arith)

    sessions : (p q : ℕ) → p ≤ q → q < 2 → session_at two_births p ≤ session_at two_births q
    sessions zero zero order high = lit≤ tt
    sessions zero (suc zero) order high = lit≤ tt
    sessions zero (suc (suc q)) order high = absurd (omega arith)
    sessions (suc zero) zero order high = absurd (omega arith)
    sessions (suc zero) (suc zero) order high = lit≤ tt
    sessions (suc zero) (suc (suc q)) order high = absurd (omega arith)
    sessions (suc (suc p)) q order high = absurd (omega arith)

    stamps : (p q : ℕ) → p ≤ q → q < 2 → stamp_at two_births p ≤ stamp_at two_births q
    stamps zero zero order high = lit≤ tt
    stamps zero (suc zero) order high = lit≤ tt
    stamps zero (suc (suc q)) order high = absurd (omega arith)
    stamps (suc zero) zero order high = absurd (omega arith)
    stamps (suc zero) (suc zero) order high = lit≤ tt
    stamps (suc zero) (suc (suc q)) order high = absurd (omega arith)
    stamps (suc (suc p)) q order high = absurd (omega arith)

    newer : (p q : ℕ) → p < q → q < 2 → opens two_births q ≡ true → stamp_at two_births p < stamp_at two_births q
    newer zero zero order high opening = absurd (omega arith)
    newer zero (suc zero) order high opening = lit< tt
    newer zero (suc (suc q)) order high opening = absurd (omega arith)
    newer (suc p) q order high opening = absurd (omega arith)

-- one message waits too long for one that was lost
abbrev gap : List Input
gap = MessageComes 1 2012 ∷ TickComes 2011 ∷ MessageComes 2 11 ∷ MessageComes 0 10 ∷ []

pub lawful_gap : IsLawful (setting (one_birth 3) RunsOn) gap
lawful_gap = record {
  node = one_birth_is 3;
  some_places = lit< tt;
  few_places = lit≤ tt;
  may_come = (
    record { published = lit< tt; not_far_behind = lit≤ tt; not_far_ahead = λ on. lit< tt },
    (
      tt,
      (
        record { published = lit< tt; not_far_behind = lit≤ tt; not_far_ahead = λ on. lit< tt },
        (record { published = lit< tt; not_far_behind = lit≤ tt; not_far_ahead = λ on. lit< tt }, tt),
      ),
    ),
  );
  numbered = tt;
}

-- two sessions, and the deaths of both
abbrev deaths : List Input
deaths = DeathComes 1 13 ∷ DeathComes 0 12 ∷ MessageComes 1 11 ∷ MessageComes 0 10 ∷ []

pub lawful_deaths : IsLawful (setting two_births RunsOn) deaths
lawful_deaths = record {
  node = two_births_is;
  some_places = lit< tt;
  few_places = lit≤ tt;
  may_come = (
    (λ on same. same),
    (
      (λ on same. same),
      (
        record { published = lit< tt; not_far_behind = lit≤ tt; not_far_ahead = λ on. lit< tt },
        (record { published = lit< tt; not_far_behind = lit≤ tt; not_far_ahead = λ on. lit< tt }, tt),
      ),
    ),
  );
  numbered = tt;
}

pub near_deaths : AllNearDeaths (setting two_births RunsOn) deaths
near_deaths = ((lit< tt, lit< tt), ((lit< tt, lit< tt), (tt, (tt, tt))))

-- the same where the number restarts
pub lawful_gap_restarts : IsLawful (setting (one_birth 3) Restarts) gap
lawful_gap_restarts = record {
  node = one_birth_is 3;
  some_places = lit< tt;
  few_places = lit≤ tt;
  may_come = (
    record { published = lit< tt; not_far_behind = lit≤ tt; not_far_ahead = λ on. lit< tt },
    (
      tt,
      (
        record { published = lit< tt; not_far_behind = lit≤ tt; not_far_ahead = λ on. lit< tt },
        (record { published = lit< tt; not_far_behind = lit≤ tt; not_far_ahead = λ on. lit< tt }, tt),
      ),
    ),
  );
  numbered = (
    inr refl,
    (λ opening. absurd (true≢false (sym opening))),
    (
      tt,
      tt,
      (inr refl, (λ opening. absurd (true≢false (sym opening))), (inl refl, (λ opening. tt), tt)),
    ),
  );
}

pub lawful_deaths_restarts : IsLawful (setting two_births Restarts) deaths
lawful_deaths_restarts = record {
  node = two_births_is;
  some_places = lit< tt;
  few_places = lit≤ tt;
  may_come = (
    (λ on same. same),
    (
      (λ on same. same),
      (
        record { published = lit< tt; not_far_behind = lit≤ tt; not_far_ahead = λ on. lit< tt },
        (record { published = lit< tt; not_far_behind = lit≤ tt; not_far_ahead = λ on. lit< tt }, tt),
      ),
    ),
  );
  numbered = (tt, tt, (tt, tt, (inl refl, (λ opening. (lit< tt, lit< tt)), (inl refl, (λ opening. tt), tt))));
}

-- a node that restarts publishes one more message between two hands
abbrev third : NodeRecord
third = message 0 0 8 ∷ []

abbrev two_handed : List Input
two_handed = MessageComes 1 11 ∷ MessageComes 0 10 ∷ []

two_handed_lawful : IsLawful (setting (one_birth 2) Restarts) two_handed
two_handed_lawful = record {
  node = one_birth_is 2;
  some_places = lit< tt;
  few_places = lit≤ tt;
  may_come = (
    record { published = lit< tt; not_far_behind = lit≤ tt; not_far_ahead = λ on. lit< tt },
    (record { published = lit< tt; not_far_behind = lit≤ tt; not_far_ahead = λ on. lit< tt }, tt),
  );
  numbered = (inr refl, (λ opening. absurd (true≢false (sym opening))), (inl refl, (λ opening. tt), tt));
}

pub published_between_two_hands : IsLawful (with_more (setting (one_birth 2) Restarts) third) two_handed
published_between_two_hands = still_lawful (setting (one_birth 2) Restarts) third two_handed two_handed_lawful (one_birth_is 3)

-- and the third message may be handed then
pub handed_after_it : IsLawful (with_more (setting (one_birth 2) Restarts) third) (MessageComes 2 12 ∷ two_handed)
handed_after_it = record {
  node = published_between_two_hands.node;
  some_places = lit< tt;
  few_places = lit≤ tt;
  may_come = (record { published = lit< tt; not_far_behind = lit≤ tt; not_far_ahead = λ on. lit< tt }, published_between_two_hands.may_come);
  numbered = (inr refl, (λ opening. absurd (true≢false (sym opening))), published_between_two_hands.numbered);
}
