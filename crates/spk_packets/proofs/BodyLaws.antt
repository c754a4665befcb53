-- A body that is read is the body of the packet that was given, and a packet's body is read as it.
use Rattle.std.proofs.Common.{◌≡◌, ℕ, zero, suc, ◌<◌, ◌≤◌, eqb, ltb, Bool, true, false, cond, List, [], ◌∷◌, ◌++◌, length, Option, Some, None, Ok, Err, refl, sym, ap, subst, ◌∙◌, inl, inr, arith}
use Rattle.std.specs.List.{list_all}
use Rattle.std.proofs.lemmas.Bool.{eqb-true, ltb-false, le-ltb}
use Rattle.std.proofs.lemmas.List.{append-nil}
use Rattle.spk_packets.specs.declared.fault.PacketFault.TheVariants.{BadBody}
use Rattle.spk_packets.specs.Message.{Message, ConnAck, Publish, Subscribe, SubAck, Unsubscribe}
use Rattle.spk_packets.specs.Grammar.{bit, is_grant, IsId, IsText, IsRequest, IsIdPart, IsBody, AreEach}
use Rattle.spk_packets.specs.Reading.{◌>>=◌, id_at, text_at, request_at, each_at, ended, some_at, connack_at, identified_at, publish_at, id_alone_at, subscribe_at, suback_at, unsubscribe_at}
use Rattle.spk_packets.proofs.Faults.{bind_ok, guard_ok, pass_ok, chosen, ok_is}
use Rattle.spk_packets.proofs.Shorter.{text_shorter, request_shorter}
use Rattle.spk_packets.proofs.PartLaws.{id_takes, id_again, text_takes, text_again, request_takes, request_again, each_takes, each_again}

pub ended_takes : {X : Type 0} (x y : X) (rest : List ℕ) → ended x rest ≡ Ok y → (rest ≡ []) × (x ≡ y)
unfolding ended
ended_takes x y [] e = (refl, ok_is x y e)
ended_takes x y (b ∷ bs) e = absurd cc

pub some_takes : (rest : List ℕ) (u : Unit {0}) → some_at rest ≡ Ok u → 0 < length rest
unfolding some_at
some_takes [] u e = absurd cc
some_takes (b ∷ bs) u e = omega arith

pub some_again : (rest : List ℕ) → 0 < length rest → some_at rest ≡ Ok tt
unfolding some_at
some_again [] h = absurd (omega arith)
some_again (b ∷ bs) h = refl

-- ---- CONNACK

bit_is : (n : ℕ) → n ≤ 1 → n ≡ bit (eqb n 1)
bit_is zero h = refl
bit_is (suc zero) h = refl
bit_is (suc (suc n)) h = absurd (omega arith)

pub connack_takes : (body : List ℕ) (p : Message) → connack_at body ≡ Ok p → (present : Bool) × (code : ℕ) × (p ≡ ConnAck present code) × IsBody (ConnAck present code) body
unfolding connack_at
connack_takes [] p e = absurd cc
connack_takes (present ∷ []) p e = absurd cc
connack_takes (present ∷ code ∷ rest) p e =
    let g = guard_ok (ltb 1 present) BadBody (cond (ltb 5 code) (Err BadBody) (ended (ConnAck (eqb present 1) code) rest)) p e in
    let h = guard_ok (ltb 5 code) BadBody (ended (ConnAck (eqb present 1) code) rest) p g.1 in
    let t = ended_takes (ConnAck (eqb present 1) code) p rest h.1 in
    (eqb present 1, code, sym t.1, (ltb-false _ _ h.0, rw t.0 (ap (λ (b : ℕ). b ∷ code ∷ []) (bit_is present (ltb-false _ _ g.0)))))

pub connack_again : (present : Bool) (code : ℕ) → code ≤ 5 → connack_at (bit present ∷ code ∷ []) ≡ Ok (ConnAck present code)
unfolding connack_at ended
connack_again true code le = let low : ltb 5 code ≡ false = le-ltb _ _ le in rw low refl
connack_again false code le = let low : ltb 5 code ≡ false = le-ltb _ _ le in rw low refl

-- ---- PUBLISH

zero_is : (qos : ℕ) → qos ≤ 1 → eqb qos 1 ≡ false → qos ≡ 0
zero_is zero le e = refl
zero_is (suc zero) le e = absurd cc
zero_is (suc (suc n)) le e = absurd (omega arith)

pub identified_takes : (qos : ℕ) (bytes : List ℕ) (x : Option ℕ × List ℕ) → qos ≤ 1 → identified_at qos bytes ≡ Ok x → (part : List ℕ) × IsIdPart part qos x.0 × (bytes ≡ part ++ x.1)
unfolding identified_at
identified_takes qos bytes x le e =
    elim (chosen (eqb qos 1) (id_at bytes >>= λ id. Ok (Some id.0, id.1)) (Ok (None, bytes)) (Ok x) e) [
      | inl c ↦
          let a = bind_ok (id_at bytes) (λ id. Ok (Some id.0, id.1)) x c.1 in
          let t = id_takes bytes a.0 a.1 in
          let given : Option ℕ × List ℕ = (Some a.0.0, a.0.1) in
          subst (λ (y : Option ℕ × List ℕ). (part : List ℕ) × IsIdPart part qos y.0 × (bytes ≡ part ++ y.1)) (ok_is given x a.2) (t.0, (eqb-true _ _ c.0, t.1), t.2)
      | inr c ↦
          let given : Option ℕ × List ℕ = (None, bytes) in
          subst (λ (y : Option ℕ × List ℕ). (part : List ℕ) × IsIdPart part qos y.0 × (bytes ≡ part ++ y.1)) (ok_is given x c.1) ([], (zero_is qos le c.0, refl), refl)
    ]

pub identified_again : (part : List ℕ) (qos : ℕ) (id : Option ℕ) (rest : List ℕ) → IsIdPart part qos id → identified_at qos (part ++ rest) ≡ Ok (id, rest)
unfolding identified_at
identified_again part qos None rest is = rw (is.0, is.1) refl
identified_again part qos (Some id) rest is = rw (is.0, id_again part id rest is.1) refl

-- what the first byte of a PUBLISH lets stand: DUP at QoS 1 alone
abbrev pub IsPublishFlags : Bool → ℕ → Type 0
IsPublishFlags dup qos = (qos ≤ 1) × (dup ≡ true → qos ≡ 1)

pub publish_takes : (dup : Bool) (qos : ℕ) (retain : Bool) (body : List ℕ) (p : Message) → IsPublishFlags dup qos → publish_at dup qos retain body ≡ Ok p
    → (topic : List ℕ) × (id : Option ℕ) × (payload : List ℕ) × (p ≡ Publish dup qos retain topic id payload) × IsBody (Publish dup qos retain topic id payload) body
unfolding publish_at
publish_takes dup qos retain body p flags e =
    let a = bind_ok (text_at body) (λ topic. identified_at qos topic.1 >>= λ id. Ok (Publish dup qos retain topic.0 id.0 id.1)) p e in
    let b = bind_ok (identified_at qos a.0.1) (λ id. Ok (Publish dup qos retain a.0.0 id.0 id.1)) p a.2 in
    let t = text_takes body a.0 a.1 in
    let i = identified_takes qos a.0.1 b.0 flags.0 b.1 in
    (a.0.0, b.0.0, b.0.1, sym (ok_is (Publish dup qos retain a.0.0 b.0.0 b.0.1) p b.2), (t.0, i.0, t.1, i.1, flags.1, t.2 ∙ ap (λ (r : List ℕ). t.0 ++ r) i.2))

pub publish_again : (dup : Bool) (qos : ℕ) (retain : Bool) (topic : List ℕ) (id : Option ℕ) (payload body : List ℕ)
    → IsBody (Publish dup qos retain topic id payload) body → publish_at dup qos retain body ≡ Ok (Publish dup qos retain topic id payload)
unfolding publish_at
publish_again dup qos retain topic id payload body is =
    ap (publish_at dup qos retain) is.5 ∙ rw (text_again is.0 topic (is.1 ++ payload) is.2, identified_again is.1 qos id payload is.3) refl

-- ---- an identifier alone

pub id_alone_takes : (body : List ℕ) (n : ℕ) → id_alone_at body ≡ Ok n → IsId body n
unfolding id_alone_at
id_alone_takes body n e =
    let a = bind_ok (id_at body) (λ id. ended id.0 id.1) n e in
    let t = id_takes body a.0 a.1 in
    let d = ended_takes a.0.0 n a.0.1 a.2 in
    let whole : t.0 ≡ body = sym (t.2 ∙ ap (λ (r : List ℕ). t.0 ++ r) d.0 ∙ append-nil t.0) in
    subst (λ (k : ℕ). IsId body k) d.1 (subst (λ (b : List ℕ). IsId b a.0.0) whole t.1)

pub id_alone_again : (body : List ℕ) (n : ℕ) → IsId body n → id_alone_at body ≡ Ok n
unfolding id_alone_at ended
id_alone_again body n is = ap id_alone_at (sym (append-nil body)) ∙ rw (id_again body n [] is) refl

-- ---- SUBSCRIBE, SUBACK, UNSUBSCRIBE

-- an empty text spells no entry
pub some_entries : {X : Type 0} (Is : List ℕ → X → Type 0) (text : List ℕ) (xs : List X) → 0 < length text → AreEach Is text xs → 0 < length xs
some_entries Is [] [] some are = absurd (omega arith)
some_entries Is (b ∷ bs) [] some are = absurd cc
some_entries Is text (x ∷ xs) some are = omega arith

pub subscribe_takes : (body : List ℕ) (p : Message) → subscribe_at body ≡ Ok p → (id : ℕ) × (filters : List (List ℕ × ℕ)) × (p ≡ Subscribe id filters) × IsBody (Subscribe id filters) body
unfolding subscribe_at
subscribe_takes body p e =
    let a = bind_ok (id_at body) (λ id. some_at id.1 >>= λ some. each_at request_at id.1 >>= λ filters. Ok (Subscribe id.0 filters)) p e in
    let s = bind_ok (some_at a.0.1) (λ some. each_at request_at a.0.1 >>= λ filters. Ok (Subscribe a.0.0 filters)) p a.2 in
    let f = bind_ok (each_at request_at a.0.1) (λ filters. Ok (Subscribe a.0.0 filters)) p s.2 in
    let t = id_takes body a.0 a.1 in
    let each = each_takes request_at request_shorter IsRequest request_takes a.0.1 f.0 f.1 in
    (a.0.0, f.0, sym (ok_is (Subscribe a.0.0 f.0) p f.2), (t.0, a.0.1, t.1, some_entries IsRequest a.0.1 f.0 (some_takes a.0.1 s.0 s.1) each, each, t.2))

pub unsubscribe_takes : (body : List ℕ) (p : Message) → unsubscribe_at body ≡ Ok p → (id : ℕ) × (filters : List (List ℕ)) × (p ≡ Unsubscribe id filters) × IsBody (Unsubscribe id filters) body
unfolding unsubscribe_at
unsubscribe_takes body p e =
    let a = bind_ok (id_at body) (λ id. some_at id.1 >>= λ some. each_at text_at id.1 >>= λ filters. Ok (Unsubscribe id.0 filters)) p e in
    let s = bind_ok (some_at a.0.1) (λ some. each_at text_at a.0.1 >>= λ filters. Ok (Unsubscribe a.0.0 filters)) p a.2 in
    let f = bind_ok (each_at text_at a.0.1) (λ filters. Ok (Unsubscribe a.0.0 filters)) p s.2 in
    let t = id_takes body a.0 a.1 in
    let each = each_takes text_at text_shorter IsText text_takes a.0.1 f.0 f.1 in
    (a.0.0, f.0, sym (ok_is (Unsubscribe a.0.0 f.0) p f.2), (t.0, a.0.1, t.1, some_entries IsText a.0.1 f.0 (some_takes a.0.1 s.0 s.1) each, each, t.2))

pub suback_takes : (body : List ℕ) (p : Message) → suback_at body ≡ Ok p → (id : ℕ) × (given : List ℕ) × (p ≡ SubAck id given) × IsBody (SubAck id given) body
unfolding suback_at
suback_takes body p e =
    let a = bind_ok (id_at body) (λ id. some_at id.1 >>= λ some. cond (list_all is_grant id.1) (Ok (SubAck id.0 id.1)) (Err BadBody)) p e in
    let s = bind_ok (some_at a.0.1) (λ some. cond (list_all is_grant a.0.1) (Ok (SubAck a.0.0 a.0.1)) (Err BadBody)) p a.2 in
    let g = pass_ok (list_all is_grant a.0.1) BadBody (Ok (SubAck a.0.0 a.0.1)) p s.2 in
    let t = id_takes body a.0 a.1 in
    (a.0.0, a.0.1, sym (ok_is (SubAck a.0.0 a.0.1) p g.1), (t.0, t.1, some_takes a.0.1 s.0 s.1, g.0, t.2))

front_nil : (front rest : List ℕ) → front ++ rest ≡ [] → front ≡ []
front_nil [] rest e = refl
front_nil (b ∷ bs) rest e = absurd cc

nothing_counted : (front : List ℕ) (high low : ℕ) → (front ≡ high ∷ low ∷ []) → (bytes : List ℕ) → [] ≡ front ++ bytes → ⊥
nothing_counted [] high low is bytes e = absurd cc
nothing_counted (b ∷ bs) high low is bytes e = absurd cc

ended_nil : (name : List ℕ) (qos : ℕ) → [] ≡ name ++ qos ∷ [] → ⊥
ended_nil [] qos e = absurd cc
ended_nil (b ∷ bs) qos e = absurd cc

-- something stands where something is spelled
some_text : {X : Type 0} (Is : List ℕ → X → Type 0) → ((x : X) → Is [] x → ⊥) → (text : List ℕ) (xs : List X) → 0 < length xs → AreEach Is text xs → 0 < length text
some_text Is none [] [] some are = absurd (omega arith)
some_text Is none (b ∷ bs) xs some are = omega arith
some_text Is none [] (x ∷ xs) some are = absurd (none x (subst (λ (t : List ℕ). Is t x) (front_nil are.0 are.1 (sym are.4)) are.2))

no_text : (x : List ℕ) → IsText [] x → ⊥
no_text x is = nothing_counted is.0.0 is.0.1.0 is.0.1.1 is.0.1.2 x is.0.2

no_request : (x : List ℕ × ℕ) → IsRequest [] x → ⊥
no_request x is = ended_nil is.0 x.1 is.3

pub subscribe_again : (id : ℕ) (filters : List (List ℕ × ℕ)) (body : List ℕ) → IsBody (Subscribe id filters) body → subscribe_at body ≡ Ok (Subscribe id filters)
unfolding subscribe_at
subscribe_again id filters body is =
    let some = some_again is.1 (some_text IsRequest no_request is.1 filters is.3 is.4) in
    ap subscribe_at is.5 ∙ rw (id_again is.0 id is.1 is.2, some, each_again request_at request_shorter IsRequest request_again is.1 filters is.4) refl

pub unsubscribe_again : (id : ℕ) (filters : List (List ℕ)) (body : List ℕ) → IsBody (Unsubscribe id filters) body → unsubscribe_at body ≡ Ok (Unsubscribe id filters)
unfolding unsubscribe_at
unsubscribe_again id filters body is =
    let some = some_again is.1 (some_text IsText no_text is.1 filters is.3 is.4) in
    ap unsubscribe_at is.5 ∙ rw (id_again is.0 id is.1 is.2, some, each_again text_at text_shorter IsText text_again is.1 filters is.4) refl

pub suback_again : (id : ℕ) (given : List ℕ) (body : List ℕ) → IsBody (SubAck id given) body → suback_at body ≡ Ok (SubAck id given)
unfolding suback_at
suback_again id given body is = ap suback_at is.4 ∙ rw (id_again is.0 id given is.1, some_again given is.2, is.3) refl
