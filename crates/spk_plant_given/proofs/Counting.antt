-- How many numbered frames there are, frame by frame.
use Rattle.std.proofs.Common.{◌≡◌, ◌∙◌, inl, inr, sym, ap, refl, subst, ℕ, ◌+◌, ◌-◌, ◌<◌, Bool, true, false, ◌&&◌, eqb, eq-eqb, List, [], ◌∷◌, ◌++◌, length, take, get_or, min, true≢false, eqb-true}
use Rattle.std.proofs.lemmas.List.{take_min, take_more}
use Rattle.spk_ingress.specs.declared.frame.Frame.TheVariants as frame
use Rattle.spk_ingress.specs.declared.rule.Message.{Message}
use Rattle.spk_packets.specs.Grammar.{Spells}
use Rattle.spk_packets.specs.Message as packets
use Rattle.spk_plant_broker.specs.Data.{Input, Says, Breaks, Cuts, Ends}
use Rattle.spk_plant_broker.specs.Log.{Means}
use Rattle.spk_plant_relay.specs.Shown.{is_on}
use Rattle.spk_plant_given.specs.Numbered.{AreNumbered, IsCount, IsNumberedFrame}
use Rattle.spk_plant_given.specs.declared.count.Count.{Count}

pub one-more : (on : List ℕ → Bool) (k : ℕ) (ms : List Message) (m : Message) (n : ℕ) → IsNumberedFrame on k m → AreNumbered on k ms n → AreNumbered on k (ms ++ m ∷ []) (n + 1)
one-more on k [] m n is x = inl (is, (n, refl, x))
one-more on k (f ∷ ms) m n is (inl x) = inl (x.0, (x.1.0 + 1, ap (λ i. i + 1) x.1.1, one-more on k ms m x.1.0 is x.1.2))
one-more on k (f ∷ ms) m n is (inr x) = inr (x.0, one-more on k ms m n is x.1)

pub no-more : (on : List ℕ → Bool) (k : ℕ) (ms : List Message) (m : Message) (n : ℕ) → (IsNumberedFrame on k m → ⊥) → AreNumbered on k ms n → AreNumbered on k (ms ++ m ∷ []) n
no-more on k [] m n not x = inr (not, x)
no-more on k (f ∷ ms) m n not (inl x) = inl (x.0, (x.1.0, x.1.1, no-more on k ms m x.1.0 not x.1.2))
no-more on k (f ∷ ms) m n not (inr x) = inr (x.0, no-more on k ms m n not x.1)

pub taken-more : (on : List ℕ → Bool) (k : ℕ) (taken : List Message) (at n : ℕ) (m : Message) → take (at + 1) taken ≡ take at taken ++ m ∷ [] → IsNumberedFrame on k m →
    AreNumbered on k (take at taken) n → AreNumbered on k (take (at + 1) taken) (n + 1)
taken-more on k taken at n m more is x = subst (λ ms. AreNumbered on k ms (n + 1)) (sym more) (one-more on k (take at taken) m n is x)

pub taken-other : (on : List ℕ → Bool) (k : ℕ) (taken : List Message) (at n : ℕ) (m : Message) → take (at + 1) taken ≡ take at taken ++ m ∷ [] → (IsNumberedFrame on k m → ⊥) →
    AreNumbered on k (take at taken) n → AreNumbered on k (take (at + 1) taken) n
taken-other on k taken at n m more not x = subst (λ ms. AreNumbered on k ms n) (sym more) (no-more on k (take at taken) m n not x)

-- an element by its place
pub index-more : (taken : List Message) (at : ℕ) (m : Message) → at < length taken → m ≡ get_or taken at m → take (at + 1) taken ≡ take at taken ++ m ∷ []
index-more taken at m below is = take_more taken at m below ∙ ap (λ x. take at taken ++ x ∷ []) (sym is)

-- the count up to a place that may be behind the last frame
pub count-there : (on : List ℕ → Bool) (k : ℕ) (taken : List Message) (c : Count) (frames : ℕ) → c.frames ≡ min frames (length taken) → IsCount on k taken c →
    AreNumbered on k (take frames taken) c.numbered
count-there on k taken c frames is x = subst (λ ms. AreNumbered on k ms c.numbered) (ap (λ n. take n taken) is ∙ take_min frames taken) x.counted

-- ---- one frame

no-yes : false ≡ true → ⊥
no-yes e = true≢false (sym e)

pub and-both : (a b : Bool) → a ≡ true → b ≡ true → a && b ≡ true
and-both true b x y = y
and-both false b x y = absurd (no-yes x)

and-right : (a b : Bool) → a && b ≡ true → b ≡ true
and-right true b x = x
and-right false b x = absurd (no-yes x)

and-left : (a b : Bool) → a && b ≡ true → a ≡ true
and-left true b x = refl
and-left false b x = x

-- of another sender
pub other-sender : (on : List ℕ → Bool) (k : ℕ) (m : Message) → (m.sender ≡ k → ⊥) → IsNumberedFrame on k m → ⊥
other-sender on k m not x = not (eqb-true m.sender k (and-left (eqb m.sender k) (is_on on x.0) x.2))

pub yes-frame : (on : List ℕ → Bool) (k : ℕ) (m : Message) (bytes : List ℕ) (p : packets.Message) → m.sender ≡ k → m.frame ≡ frame.Packet bytes → Spells bytes p → is_on on (Says p) ≡ true →
    IsNumberedFrame on k m
yes-frame on k m bytes p own is spelled told =
    (Says p, subst (λ f. Means f (Says p)) (sym is) spelled, and-both (eqb m.sender k) (is_on on (Says p)) (eq-eqb m.sender k own) told)

-- what one packet says
says-of : (bytes : List ℕ) (i : Input) → Means (frame.Packet bytes) i → (p : packets.Message) × (i ≡ Says p) × Spells bytes p
says-of bytes (Says p) x = (p, refl, x)
says-of bytes (Breaks f) x = absurd x
says-of bytes Cuts x = absurd x
says-of bytes Ends x = absurd x

pub no-frame : ((a b x y : List ℕ) (p q : packets.Message) → Spells a p → Spells b q → a ++ x ≡ b ++ y → (a ≡ b) × (p ≡ q)) →
    (on : List ℕ → Bool) (k : ℕ) (m : Message) (bytes : List ℕ) (p : packets.Message) → m.frame ≡ frame.Packet bytes → Spells bytes p → is_on on (Says p) ≡ false → IsNumberedFrame on k m → ⊥
no-frame one on k m bytes p is spelled not x =
    let said = says-of bytes x.0 (subst (λ f. Means f x.0) is x.1) in
    let same : said.0 ≡ p = (one bytes bytes [] [] said.0 p said.2 spelled refl).1 in
    let told : is_on on x.0 ≡ true = and-right (eqb m.sender k) (is_on on x.0) x.2 in
    no-yes (sym not ∙ (sym (ap (λ i. is_on on i) said.1 ∙ ap (λ q. is_on on (Says q)) same) ∙ told))
