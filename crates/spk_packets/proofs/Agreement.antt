-- The fault that reading gives is the first of the ordered conditions that holds.
use Rattle.std.proofs.Common.{◌≡◌, ℕ, zero, suc, ◌+◌, ◌*◌, ◌%◌, ◌<◌, ◌≤◌, eqb, ltb, Bool, true, false, not, cond, List, [], ◌∷◌, ◌++◌, length, take, drop, Option, Some, None, Result, Ok, Err, refl, sym, ap, subst, ◌∙◌, inl, inr, arith, codes, leb, ◌/◌}
use Rattle.std.specs.Prelude.{◌&&◌, nat_le, ◌==◌, bytes_eq, ◌||◌}
use Rattle.std.specs.List.{list_all}
use Rattle.std.specs.Str.{is_utf8}
use Rattle.std.proofs.lemmas.Bool.{eqb-true, leb-true, cases_lt, le-ltb, le-leb}
use Rattle.spk_packets.specs.declared.fault.PacketFault.{PacketFault}
use Rattle.spk_packets.specs.declared.fault.PacketFault.TheVariants.{NoMemory, More, BadLength, BadFlags, BadType, BadText, BadBody, TooLarge, QosTwo, BadLevel}
use Rattle.spk_packets.specs.declared.table.Kind.{Kind}
use Rattle.spk_packets.specs.declared.table.Kind.TheVariants as kinds
use Rattle.spk_packets.specs.Fault.{number_of, first_of}
use Rattle.spk_packets.specs.Message.{WillData, Message, Connect, ConnAck, Publish, PubAck, Subscribe, SubAck, Unsubscribe, UnsubAck, PingReq, PingResp, Disconnect}
use Rattle.spk_packets.specs.Grammar.{bit, is_grant, has_zero, largest}
use Rattle.spk_packets.specs.Refusals.{Refusals, front_number, after_number, number_refusals, id_refusals, front_counted, after_counted, counted_refusals, text_refusals, end_refusals, none_refusals, qos_refusals, request_refusals, after_request, each_refusals, flag, will_qos, has_reserved_bit, has_will_bits_alone, has_password_alone, flags_refusals, only_if, after_if, after_client, after_will, after_user, after_password, will_refusals, login_refusals, flagged_refusals, level_refusals, connect_refusals, connack_refusals, publish_refusals, id_alone_refusals, subscribe_refusals, suback_refusals, unsubscribe_refusals, first_refusals, length_is_cut, length_is_long, length_refusals, length_len, length_value, whole_len, body_of, body_refusals, head_refusals, refusals}
use Rattle.spk_packets.specs.Reading.{◌>>=◌, number_at, id_at, counted_at, text_at, ended, each_within, each_at, qos_at, request_at, some_at, FlagsData, flags_at, will_at, user_at, password_at, login_at, flagged_at, level_at, connect_at, connack_at, identified_at, publish_at, id_alone_at, subscribe_at, suback_at, unsubscribe_at, kind_of, length_within, length_at, body_at, cut_at, packet_at}
use Rattle.spk_packets.proofs.Faults.{bind_ok, guard_ok, chosen, ok_is}
use Rattle.spk_packets.proofs.Bytes.{all_below, at_each_below, left_of}
use Rattle.spk_packets.proofs.PacketLaws.{byte_of, flags_fit, dup_fits, kind_takes}

-- the fault, where there is one
abbrev pub fault_of : {A : Type 0} → Result A PacketFault → Option PacketFault
fault_of (Ok x) = None
fault_of (Err e) = Some e

abbrev Agree : {A : Type 0} → Result A PacketFault → Refusals → Type 0
Agree r xs = fault_of r ≡ first_of xs

pub first_of-some : (xs ys : Refusals) (e : PacketFault) → first_of xs ≡ Some e → first_of (xs ++ ys) ≡ Some e
first_of-some [] ys e h = absurd cc
first_of-some ((true, f) ∷ xs) ys e h = h
first_of-some ((false, f) ∷ xs) ys e h = first_of-some xs ys e h

pub first_of-none : (xs ys : Refusals) → first_of xs ≡ None → first_of (xs ++ ys) ≡ first_of ys
first_of-none [] ys h = refl
first_of-none ((true, f) ∷ xs) ys h = absurd cc
first_of-none ((false, f) ∷ xs) ys h = first_of-none xs ys h

-- one step after another
agree_then : {A B : Type 0} (r : Result A PacketFault) (f : A → Result B PacketFault) (xs ys : Refusals) → Agree r xs → ((x : A) → r ≡ Ok x → Agree (f x) ys) → Agree (r >>= f) (xs ++ ys)
agree_then (Ok x) f xs ys a b = b x refl ∙ sym (first_of-none xs ys (sym a))
agree_then (Err e) f xs ys a b = sym (first_of-some xs ys e (sym a))

-- a step that only changes the value
agree_mapped : {A B : Type 0} (r : Result A PacketFault) (f : A → B) (xs : Refusals) → Agree r xs → Agree (r >>= λ x. Ok (f x)) xs
agree_mapped (Ok x) f xs a = a
agree_mapped (Err e) f xs a = a

-- a test that refuses
agree_test : {A : Type 0} (b : Bool) (d : PacketFault) (r : Result A PacketFault) (xs : Refusals) → Agree r xs → Agree (cond b (Err d) r) ((b, d) ∷ xs)
agree_test true d r xs a = refl
agree_test false d r xs a = a

-- a test that lets pass
agree_pass : {A : Type 0} (b : Bool) (d : PacketFault) (r : Result A PacketFault) (xs : Refusals) → Agree r xs → Agree (cond b r (Err d)) ((not b, d) ∷ xs)
agree_pass true d r xs a = a
agree_pass false d r xs a = refl

or_true : (b : Bool) → (b || true) ≡ true
or_true true = refl
or_true false = refl

abbrev pair : ℕ → List ℕ → ℕ × List ℕ
pair n rest = (n, rest)

abbrev lists : List ℕ → List ℕ → List ℕ × List ℕ
lists front rest = (front, rest)

abbrev identified : Option ℕ → List ℕ → Option ℕ × List ℕ
identified id rest = (id, rest)

abbrev read_kind : Kind → Result Kind PacketFault
read_kind kind = Ok kind

-- ---- parts

number_agrees : (bytes : List ℕ) → Agree (number_at bytes) (number_refusals bytes)
unfolding number_at
number_agrees [] = refl
number_agrees (b ∷ []) = refl
number_agrees (high ∷ low ∷ rest) = refl

number_value : (bytes : List ℕ) (x : ℕ × List ℕ) → number_at bytes ≡ Ok x → x ≡ pair (front_number bytes) (after_number bytes)
unfolding number_at
number_value [] x e = absurd cc
number_value (b ∷ []) x e = absurd cc
number_value (high ∷ low ∷ rest) x e = sym (ok_is (256 * high + low, rest) x e)

id_agrees : (bytes : List ℕ) → Agree (id_at bytes) (id_refusals bytes)
unfolding id_at
id_agrees bytes = agree_then (number_at bytes) (λ id. cond (eqb id.0 0) (Err BadBody) (Ok id)) (number_refusals bytes) ((front_number bytes == 0, BadBody) ∷ []) (number_agrees bytes)
    (λ x e. let v = number_value bytes x e in
    subst (λ (y : ℕ × List ℕ). Agree (cond (eqb y.0 0) (Err BadBody) (Ok y)) ((front_number bytes == 0, BadBody) ∷ [])) (sym v)
    (agree_test (front_number bytes == 0) BadBody (Ok (pair (front_number bytes) (after_number bytes))) [] refl))

id_value : (bytes : List ℕ) (x : ℕ × List ℕ) → id_at bytes ≡ Ok x → x ≡ pair (front_number bytes) (after_number bytes)
unfolding id_at
id_value bytes x e =
    let a = bind_ok (number_at bytes) (λ id. cond (eqb id.0 0) (Err BadBody) (Ok id)) x e in
    let g = guard_ok (eqb a.0.0 0) BadBody (Ok a.0) x a.2 in
    sym (ok_is a.0 x g.1) ∙ number_value bytes a.0 a.1

counted_agrees : (bytes : List ℕ) → Agree (counted_at bytes) (counted_refusals bytes)
unfolding counted_at
counted_agrees bytes = agree_then (number_at bytes) (λ n. cond (ltb (length n.1) n.0) (Err BadBody) (Ok (take n.0 n.1, drop n.0 n.1))) (number_refusals bytes) ((ltb (length (after_number bytes)) (front_number bytes), BadBody) ∷ []) (number_agrees bytes)
    (λ x e. let v = number_value bytes x e in
    subst (λ (y : ℕ × List ℕ). Agree (cond (ltb (length y.1) y.0) (Err BadBody) (Ok (lists (take y.0 y.1) (drop y.0 y.1)))) ((ltb (length (after_number bytes)) (front_number bytes), BadBody) ∷ [])) (sym v)
    (agree_test (ltb (length (after_number bytes)) (front_number bytes)) BadBody (Ok (lists (front_counted bytes) (after_counted bytes))) [] refl))

counted_value : (bytes : List ℕ) (x : List ℕ × List ℕ) → counted_at bytes ≡ Ok x → x ≡ lists (front_counted bytes) (after_counted bytes)
unfolding counted_at
counted_value bytes x e =
    let a = bind_ok (number_at bytes) (λ n. cond (ltb (length n.1) n.0) (Err BadBody) (Ok (take n.0 n.1, drop n.0 n.1))) x e in
    let g = guard_ok (ltb (length a.0.1) a.0.0) BadBody (Ok (take a.0.0 a.0.1, drop a.0.0 a.0.1)) x a.2 in
    sym (ok_is (take a.0.0 a.0.1, drop a.0.0 a.0.1) x g.1) ∙ ap (λ (y : ℕ × List ℕ). lists (take y.0 y.1) (drop y.0 y.1)) (number_value bytes a.0 a.1)

-- what `text_at` asks of counted bytes
abbrev text_test : List ℕ × List ℕ → Result (List ℕ × List ℕ) PacketFault
text_test text = cond (not (is_utf8 text.0)) (Err BadText) (cond (has_zero text.0) (Err BadText) (Ok text))

text_agrees : (bytes : List ℕ) → Agree (text_at bytes) (text_refusals bytes)
unfolding text_at
text_agrees bytes = agree_then (counted_at bytes) text_test (counted_refusals bytes) ((not (is_utf8 (front_counted bytes)), BadText) ∷ (has_zero (front_counted bytes), BadText) ∷ []) (counted_agrees bytes)
    (λ x e. subst (λ (y : List ℕ × List ℕ). Agree (text_test y) ((not (is_utf8 (front_counted bytes)), BadText) ∷ (has_zero (front_counted bytes), BadText) ∷ [])) (sym (counted_value bytes x e))
    (agree_test (not (is_utf8 (front_counted bytes))) BadText (cond (has_zero (front_counted bytes)) (Err BadText) (Ok (lists (front_counted bytes) (after_counted bytes)))) ((has_zero (front_counted bytes), BadText) ∷ [])
    (agree_test (has_zero (front_counted bytes)) BadText (Ok (lists (front_counted bytes) (after_counted bytes))) [] refl)))

text_value : (bytes : List ℕ) (x : List ℕ × List ℕ) → text_at bytes ≡ Ok x → x ≡ lists (front_counted bytes) (after_counted bytes)
unfolding text_at
text_value bytes x e =
    let a = bind_ok (counted_at bytes) text_test x e in
    let g = guard_ok (not (is_utf8 a.0.0)) BadText (cond (has_zero a.0.0) (Err BadText) (Ok a.0)) x a.2 in
    let h = guard_ok (has_zero a.0.0) BadText (Ok a.0) x g.1 in
    sym (ok_is a.0 x h.1) ∙ counted_value bytes a.0 a.1

ended_agrees : {X : Type 0} (x : X) (rest : List ℕ) → Agree (ended x rest) (end_refusals rest)
unfolding ended
ended_agrees x [] = refl
ended_agrees x (b ∷ bs) = refl

some_agrees : (rest : List ℕ) → Agree (some_at rest) (none_refusals rest)
unfolding some_at
some_agrees [] = refl
some_agrees (b ∷ bs) = refl

qos_agrees : (filter rest : List ℕ) → Agree (qos_at filter rest) (qos_refusals rest)
unfolding qos_at
qos_agrees filter [] = refl
qos_agrees filter (qos ∷ rest) = agree_test (ltb 2 qos) BadBody (Ok ((filter, qos), rest)) [] refl

qos_value : (filter rest : List ℕ) (x : (List ℕ × ℕ) × List ℕ) → qos_at filter rest ≡ Ok x → x.1 ≡ drop 1 rest
unfolding qos_at
qos_value filter [] x e = absurd cc
qos_value filter (qos ∷ rest) x e =
    let g = guard_ok (ltb 2 qos) BadBody (Ok ((filter, qos), rest)) x e in
    ap (λ (y : (List ℕ × ℕ) × List ℕ). y.1) (sym (ok_is ((filter, qos), rest) x g.1))

request_agrees : (bytes : List ℕ) → Agree (request_at bytes) (request_refusals bytes)
unfolding request_at
request_agrees bytes = agree_then (text_at bytes) (λ filter. qos_at filter.0 filter.1) (text_refusals bytes) (qos_refusals (after_counted bytes)) (text_agrees bytes)
    (λ x e. subst (λ (y : List ℕ × List ℕ). Agree (qos_at y.0 y.1) (qos_refusals (after_counted bytes))) (sym (text_value bytes x e)) (qos_agrees (front_counted bytes) (after_counted bytes)))

request_value : (bytes : List ℕ) (x : (List ℕ × ℕ) × List ℕ) → request_at bytes ≡ Ok x → x.1 ≡ after_request bytes
unfolding request_at
request_value bytes x e =
    let a = bind_ok (text_at bytes) (λ filter. qos_at filter.0 filter.1) x e in
    qos_value a.0.0 a.0.1 x a.2 ∙ ap (λ (y : List ℕ × List ℕ). drop 1 y.1) (text_value bytes a.0 a.1)

text_after : (bytes : List ℕ) (x : List ℕ × List ℕ) → text_at bytes ≡ Ok x → x.1 ≡ after_counted bytes
text_after bytes x e = ap (λ (y : List ℕ × List ℕ). y.1) (text_value bytes x e)

module _ {X : Type 0} (at : List ℕ → Result (X × List ℕ) PacketFault) (refusals_at : List ℕ → Refusals) (after : List ℕ → List ℕ)
    (agrees : (bytes : List ℕ) → Agree (at bytes) (refusals_at bytes)) (value : (bytes : List ℕ) (x : X × List ℕ) → at bytes ≡ Ok x → x.1 ≡ after bytes) where
  each_agrees : (n : ℕ) (bytes : List ℕ) → Agree (each_within at n bytes) (each_refusals refusals_at after n bytes)
  unfolding each_within
  each_agrees zero bytes = refl
  each_agrees (suc n) [] = refl
  each_agrees (suc n) (b ∷ bs) =
      agree_then (at (b ∷ bs)) (λ first. each_within at n first.1 >>= λ others. Ok (first.0 ∷ others)) (refusals_at (b ∷ bs)) (each_refusals refusals_at after n (after (b ∷ bs))) (agrees (b ∷ bs))
      (λ x e. agree_mapped (each_within at n x.1) (λ others. x.0 ∷ others) (each_refusals refusals_at after n (after (b ∷ bs)))
      (subst (λ (rest : List ℕ). Agree (each_within at n rest) (each_refusals refusals_at after n (after (b ∷ bs)))) (sym (value (b ∷ bs) x e)) (each_agrees n (after (b ∷ bs)))))

-- ---- CONNECT

flags_agrees : (b : ℕ) → Agree (flags_at b) (flags_refusals b)
unfolding flags_at
flags_agrees b =
    let read : Result FlagsData PacketFault = Ok (record { user = flag 128 b; password = flag 64 b; will = cond (flag 4 b) (Some (will_qos b, flag 32 b)) None; clean = flag 2 b }) in
    let t5 = agree_test (will_qos b == 2) QosTwo read [] refl in
    let t4 = agree_test (has_password_alone b) BadBody (cond (will_qos b == 2) (Err QosTwo) read) ((will_qos b == 2, QosTwo) ∷ []) t5 in
    let t3 = agree_test (has_will_bits_alone b) BadBody (cond (has_password_alone b) (Err BadBody) (cond (will_qos b == 2) (Err QosTwo) read)) ((has_password_alone b, BadBody) ∷ (will_qos b == 2, QosTwo) ∷ []) t4 in
    let t2 = agree_test (will_qos b == 3) BadBody (cond (has_will_bits_alone b) (Err BadBody) (cond (has_password_alone b) (Err BadBody) (cond (will_qos b == 2) (Err QosTwo) read))) ((has_will_bits_alone b, BadBody) ∷ (has_password_alone b, BadBody) ∷ (will_qos b == 2, QosTwo) ∷ []) t3 in
    agree_test (has_reserved_bit b) BadBody (cond (will_qos b == 3) (Err BadBody) (cond (has_will_bits_alone b) (Err BadBody) (cond (has_password_alone b) (Err BadBody) (cond (will_qos b == 2) (Err QosTwo) read)))) ((will_qos b == 3, BadBody) ∷ (has_will_bits_alone b, BadBody) ∷ (has_password_alone b, BadBody) ∷ (will_qos b == 2, QosTwo) ∷ []) t2

abbrev flags_read : ℕ → FlagsData
flags_read b = record { user = flag 128 b; password = flag 64 b; will = cond (flag 4 b) (Some (will_qos b, flag 32 b)) None; clean = flag 2 b }

flags_value : (b : ℕ) (f : FlagsData) → flags_at b ≡ Ok f → f ≡ flags_read b
unfolding flags_at
flags_value b f e =
    let g1 = guard_ok (has_reserved_bit b) BadBody (cond (will_qos b == 3) (Err BadBody) (cond (has_will_bits_alone b) (Err BadBody) (cond (has_password_alone b) (Err BadBody) (cond (will_qos b == 2) (Err QosTwo) (Ok (flags_read b)))))) f e in
    let g2 = guard_ok (will_qos b == 3) BadBody (cond (has_will_bits_alone b) (Err BadBody) (cond (has_password_alone b) (Err BadBody) (cond (will_qos b == 2) (Err QosTwo) (Ok (flags_read b))))) f g1.1 in
    let g3 = guard_ok (has_will_bits_alone b) BadBody (cond (has_password_alone b) (Err BadBody) (cond (will_qos b == 2) (Err QosTwo) (Ok (flags_read b)))) f g2.1 in
    let g4 = guard_ok (has_password_alone b) BadBody (cond (will_qos b == 2) (Err QosTwo) (Ok (flags_read b))) f g3.1 in
    let g5 = guard_ok (will_qos b == 2) QosTwo (Ok (flags_read b)) f g4.1 in
    sym (ok_is (flags_read b) f g5.1)

will_agrees : (there : Bool) (w : ℕ × Bool) (bytes : List ℕ) → Agree (will_at (cond there (Some w) None) bytes) (only_if there (text_refusals bytes ++ counted_refusals (after_counted bytes)))
unfolding will_at
will_agrees false w bytes = refl
will_agrees true w bytes =
    agree_then (text_at bytes) (λ topic. counted_at topic.1 >>= λ message. Ok (Some (record { topic = topic.0; message = message.0; qos = w.0; retain = w.1 }), message.1)) (text_refusals bytes) (counted_refusals (after_counted bytes)) (text_agrees bytes)
    (λ x e. agree_mapped (counted_at x.1) (λ message. (Some (record { topic = x.0; message = message.0; qos = w.0; retain = w.1 }), message.1)) (counted_refusals (after_counted bytes))
    (subst (λ (rest : List ℕ). Agree (counted_at rest) (counted_refusals (after_counted bytes))) (sym (text_after bytes x e)) (counted_agrees (after_counted bytes))))

will_after : (there : Bool) (w : ℕ × Bool) (bytes : List ℕ) (x : Option WillData × List ℕ) → will_at (cond there (Some w) None) bytes ≡ Ok x → x.1 ≡ after_if there (λ rest. after_counted (after_counted rest)) bytes
unfolding will_at
will_after false w bytes x e = let given : Option WillData × List ℕ = (None, bytes) in ap (λ (y : Option WillData × List ℕ). y.1) (sym (ok_is given x e))
will_after true w bytes x e =
    let a = bind_ok (text_at bytes) (λ topic. counted_at topic.1 >>= λ message. Ok (Some (record { topic = topic.0; message = message.0; qos = w.0; retain = w.1 }), message.1)) x e in
    let b = bind_ok (counted_at a.0.1) (λ message. Ok (Some (record { topic = a.0.0; message = message.0; qos = w.0; retain = w.1 }), message.1)) x a.2 in
    let given : Option WillData × List ℕ = (Some (record { topic = a.0.0; message = b.0.0; qos = w.0; retain = w.1 }), b.0.1) in
    ap (λ (y : Option WillData × List ℕ). y.1) (sym (ok_is given x b.2)) ∙ ap (λ (y : List ℕ × List ℕ). y.1) (counted_value a.0.1 b.0 b.1) ∙ ap after_counted (text_after bytes a.0 a.1)

user_agrees : (there : Bool) (bytes : List ℕ) → Agree (user_at there bytes) (only_if there (text_refusals bytes))
unfolding user_at
user_agrees false bytes = refl
user_agrees true bytes = agree_mapped (text_at bytes) (λ user. user.1) (text_refusals bytes) (text_agrees bytes)

user_after : (there : Bool) (bytes rest : List ℕ) → user_at there bytes ≡ Ok rest → rest ≡ after_if there after_counted bytes
unfolding user_at
user_after false bytes rest e = sym (ok_is bytes rest e)
user_after true bytes rest e = let a = bind_ok (text_at bytes) (λ user. Ok user.1) rest e in sym (ok_is a.0.1 rest a.2) ∙ text_after bytes a.0 a.1

password_agrees : (there : Bool) (bytes : List ℕ) → Agree (password_at there bytes) (only_if there (counted_refusals bytes))
unfolding password_at
password_agrees false bytes = refl
password_agrees true bytes = agree_mapped (counted_at bytes) (λ password. password.1) (counted_refusals bytes) (counted_agrees bytes)

password_after : (there : Bool) (bytes rest : List ℕ) → password_at there bytes ≡ Ok rest → rest ≡ after_if there after_counted bytes
unfolding password_at
password_after false bytes rest e = sym (ok_is bytes rest e)
password_after true bytes rest e = let a = bind_ok (counted_at bytes) (λ password. Ok password.1) rest e in sym (ok_is a.0.1 rest a.2) ∙ ap (λ (y : List ℕ × List ℕ). y.1) (counted_value bytes a.0 a.1)

login_agrees : (b : ℕ) (bytes : List ℕ) → Agree (login_at (flag 128 b) (flag 64 b) bytes) (login_refusals b bytes)
unfolding login_at
login_agrees b bytes =
    agree_then (user_at (flag 128 b) bytes) (λ named. password_at (flag 64 b) named >>= λ rest. ended tt rest) (only_if (flag 128 b) (text_refusals bytes))
    (only_if (flag 64 b) (counted_refusals (after_user b bytes)) ++ end_refusals (after_password b (after_user b bytes))) (user_agrees (flag 128 b) bytes)
    (λ x e. subst (λ (y : List ℕ). Agree (password_at (flag 64 b) y >>= λ rest. ended tt rest) (only_if (flag 64 b) (counted_refusals (after_user b bytes)) ++ end_refusals (after_password b (after_user b bytes)))) (sym (user_after (flag 128 b) bytes x e))
    (agree_then (password_at (flag 64 b) (after_user b bytes)) (λ rest. ended tt rest) (only_if (flag 64 b) (counted_refusals (after_user b bytes))) (end_refusals (after_password b (after_user b bytes))) (password_agrees (flag 64 b) (after_user b bytes))
    (λ y f. subst (λ (rest : List ℕ). Agree (ended tt rest) (end_refusals (after_password b (after_user b bytes)))) (sym (password_after (flag 64 b) (after_user b bytes) y f)) (ended_agrees tt (after_password b (after_user b bytes))))))

-- what `flagged_at` does step by step
abbrev login_step : FlagsData → ℕ → List ℕ → Option WillData × List ℕ → Result Message PacketFault
login_step f keep client will = login_at f.user f.password will.1 >>= λ login. Ok (Connect client f.clean keep will.0)

abbrev will_step : FlagsData → ℕ → List ℕ × List ℕ → Result Message PacketFault
will_step f keep client = will_at f.will client.1 >>= login_step f keep client.0

abbrev client_step : FlagsData → ℕ × List ℕ → Result Message PacketFault
client_step f keep = text_at keep.1 >>= will_step f keep.0

abbrev keep_step : List ℕ → FlagsData → Result Message PacketFault
keep_step rest f = number_at rest >>= client_step f

flagged_agrees : (bytes : List ℕ) → Agree (flagged_at bytes) (flagged_refusals bytes)
unfolding flagged_at
flagged_agrees [] = refl
flagged_agrees (b ∷ rest) =
    let f = flags_read b in
    let login_part = login_refusals b (after_will b (after_client rest)) in
    let will_part = will_refusals b (after_client rest) ++ login_part in
    let client_part = text_refusals (after_number rest) ++ will_part in
    agree_then (flags_at b) (keep_step rest) (flags_refusals b) (number_refusals rest ++ client_part) (flags_agrees b)
    (λ g e. subst (λ (h : FlagsData). Agree (keep_step rest h) (number_refusals rest ++ client_part)) (sym (flags_value b g e))
    (agree_then (number_at rest) (client_step f) (number_refusals rest) client_part (number_agrees rest)
    (λ keep k. subst (λ (y : ℕ × List ℕ). Agree (client_step f y) client_part) (sym (number_value rest keep k))
    (agree_then (text_at (after_number rest)) (will_step f (front_number rest)) (text_refusals (after_number rest)) will_part (text_agrees (after_number rest))
    (λ client c. subst (λ (y : List ℕ × List ℕ). Agree (will_step f (front_number rest) y) will_part) (sym (text_value (after_number rest) client c))
    (agree_then (will_at f.will (after_client rest)) (login_step f (front_number rest) (front_counted (after_number rest))) (will_refusals b (after_client rest)) login_part (will_agrees (flag 4 b) (will_qos b, flag 32 b) (after_client rest))
    (λ will w. agree_mapped (login_at f.user f.password will.1) (λ login. Connect (front_counted (after_number rest)) f.clean (front_number rest) will.0) login_part
    (subst (λ (y : List ℕ). Agree (login_at f.user f.password y) login_part) (sym (will_after (flag 4 b) (will_qos b, flag 32 b) (after_client rest) will w)) (login_agrees b (after_will b (after_client rest)))))))))))

level_agrees : (bytes : List ℕ) → Agree (level_at bytes) (level_refusals bytes)
unfolding level_at
level_agrees [] = refl
level_agrees (level ∷ rest) = agree_pass (level == 4) BadLevel (flagged_at rest) (flagged_refusals rest) (flagged_agrees rest)

connect_agrees : (body : List ℕ) → Agree (connect_at body) (connect_refusals body)
unfolding connect_at
connect_agrees body =
    agree_then (text_at body) (λ name. cond (bytes_eq name.0 (codes "MQTT")) (level_at name.1) (Err BadBody)) (text_refusals body) ((not (bytes_eq (front_counted body) (codes "MQTT")), BadBody) ∷ level_refusals (after_counted body)) (text_agrees body)
    (λ x e. subst (λ (y : List ℕ × List ℕ). Agree (cond (bytes_eq y.0 (codes "MQTT")) (level_at y.1) (Err BadBody)) ((not (bytes_eq (front_counted body) (codes "MQTT")), BadBody) ∷ level_refusals (after_counted body))) (sym (text_value body x e))
    (agree_pass (bytes_eq (front_counted body) (codes "MQTT")) BadBody (level_at (after_counted body)) (level_refusals (after_counted body)) (level_agrees (after_counted body))))

-- ---- the other bodies

connack_agrees : (body : List ℕ) → Agree (connack_at body) (connack_refusals body)
unfolding connack_at
connack_agrees [] = refl
connack_agrees (present ∷ []) = refl
connack_agrees (present ∷ code ∷ rest) =
    agree_test (ltb 1 present) BadBody (cond (ltb 5 code) (Err BadBody) (ended (ConnAck (present == 1) code) rest)) ((ltb 5 code, BadBody) ∷ end_refusals rest)
    (agree_test (ltb 5 code) BadBody (ended (ConnAck (present == 1) code) rest) (end_refusals rest) (ended_agrees (ConnAck (present == 1) code) rest))

identified_agrees : (there : Bool) (bytes : List ℕ) → Agree (cond there (id_at bytes >>= λ id. Ok (identified (Some id.0) id.1)) (Ok (identified None bytes))) (only_if there (id_refusals bytes))
identified_agrees false bytes = refl
identified_agrees true bytes = agree_mapped (id_at bytes) (λ id. identified (Some id.0) id.1) (id_refusals bytes) (id_agrees bytes)

publish_agrees : (dup : Bool) (qos : ℕ) (retain : Bool) (body : List ℕ) → Agree (publish_at dup qos retain body) (publish_refusals qos body)
unfolding publish_at identified_at
publish_agrees dup qos retain body =
    agree_then (text_at body) (λ topic. identified_at qos topic.1 >>= λ id. Ok (Publish dup qos retain topic.0 id.0 id.1)) (text_refusals body) (only_if (qos == 1) (id_refusals (after_counted body))) (text_agrees body)
    (λ x e. agree_mapped (identified_at qos x.1) (λ id. Publish dup qos retain x.0 id.0 id.1) (only_if (qos == 1) (id_refusals (after_counted body)))
    (subst (λ (rest : List ℕ). Agree (identified_at qos rest) (only_if (qos == 1) (id_refusals (after_counted body)))) (sym (text_after body x e)) (identified_agrees (qos == 1) (after_counted body))))

id_alone_agrees : (body : List ℕ) → Agree (id_alone_at body) (id_alone_refusals body)
unfolding id_alone_at
id_alone_agrees body =
    agree_then (id_at body) (λ id. ended id.0 id.1) (id_refusals body) (end_refusals (after_number body)) (id_agrees body)
    (λ x e. subst (λ (y : ℕ × List ℕ). Agree (ended y.0 y.1) (end_refusals (after_number body))) (sym (id_value body x e)) (ended_agrees (front_number body) (after_number body)))

subscribe_agrees : (body : List ℕ) → Agree (subscribe_at body) (subscribe_refusals body)
unfolding subscribe_at
subscribe_agrees body =
    let rest = after_number body in
    let each = each_refusals request_refusals after_request (length rest) rest in
    agree_then (id_at body) (λ id. some_at id.1 >>= λ some. each_at request_at id.1 >>= λ filters. Ok (Subscribe id.0 filters)) (id_refusals body) (none_refusals rest ++ each) (id_agrees body)
    (λ x e. subst (λ (y : ℕ × List ℕ). Agree (some_at y.1 >>= λ some. each_at request_at y.1 >>= λ filters. Ok (Subscribe y.0 filters)) (none_refusals rest ++ each)) (sym (id_value body x e))
    (agree_then (some_at rest) (λ some. each_at request_at rest >>= λ filters. Ok (Subscribe (front_number body) filters)) (none_refusals rest) each (some_agrees rest)
    (λ u s. agree_mapped (each_at request_at rest) (λ filters. Subscribe (front_number body) filters) each (each_agrees request_at request_refusals after_request request_agrees request_value (length rest) rest))))

unsubscribe_agrees : (body : List ℕ) → Agree (unsubscribe_at body) (unsubscribe_refusals body)
unfolding unsubscribe_at
unsubscribe_agrees body =
    let rest = after_number body in
    let each = each_refusals text_refusals after_counted (length rest) rest in
    agree_then (id_at body) (λ id. some_at id.1 >>= λ some. each_at text_at id.1 >>= λ filters. Ok (Unsubscribe id.0 filters)) (id_refusals body) (none_refusals rest ++ each) (id_agrees body)
    (λ x e. subst (λ (y : ℕ × List ℕ). Agree (some_at y.1 >>= λ some. each_at text_at y.1 >>= λ filters. Ok (Unsubscribe y.0 filters)) (none_refusals rest ++ each)) (sym (id_value body x e))
    (agree_then (some_at rest) (λ some. each_at text_at rest >>= λ filters. Ok (Unsubscribe (front_number body) filters)) (none_refusals rest) each (some_agrees rest)
    (λ u s. agree_mapped (each_at text_at rest) (λ filters. Unsubscribe (front_number body) filters) each (each_agrees text_at text_refusals after_counted text_agrees text_after (length rest) rest))))

suback_agrees : (body : List ℕ) → Agree (suback_at body) (suback_refusals body)
unfolding suback_at
suback_agrees body =
    let rest = after_number body in
    let last : Refusals = (not (list_all is_grant rest), BadBody) ∷ [] in
    agree_then (id_at body) (λ id. some_at id.1 >>= λ some. cond (list_all is_grant id.1) (Ok (SubAck id.0 id.1)) (Err BadBody)) (id_refusals body) (none_refusals rest ++ last) (id_agrees body)
    (λ x e. subst (λ (y : ℕ × List ℕ). Agree (some_at y.1 >>= λ some. cond (list_all is_grant y.1) (Ok (SubAck y.0 y.1)) (Err BadBody)) (none_refusals rest ++ last)) (sym (id_value body x e))
    (agree_then (some_at rest) (λ some. cond (list_all is_grant rest) (Ok (SubAck (front_number body) rest)) (Err BadBody)) (none_refusals rest) last (some_agrees rest)
    (λ u s. agree_pass (list_all is_grant rest) BadBody (Ok (SubAck (front_number body) rest)) [] refl)))

publish_table : (dup : Bool) (qos : ℕ) (retain : Bool) (body : List ℕ) → qos ≤ 1 → body_refusals (48 + 8 * bit dup + 2 * qos + bit retain) body ≡ publish_refusals qos body
publish_table true zero true body le = refl
publish_table true zero false body le = refl
publish_table false zero true body le = refl
publish_table false zero false body le = refl
publish_table true (suc zero) true body le = refl
publish_table true (suc zero) false body le = refl
publish_table false (suc zero) true body le = refl
publish_table false (suc zero) false body le = refl
publish_table dup (suc (suc n)) retain body le = absurd (omega arith)

body_agrees : (kind : Kind) (body : List ℕ) → flags_fit kind ≡ true → Agree (body_at kind body) (body_refusals (byte_of kind) body)
unfolding body_at
body_agrees kinds.Connect body flags = connect_agrees body
body_agrees kinds.ConnAck body flags = connack_agrees body
body_agrees (kinds.Publish dup qos retain) body flags =
    publish_agrees dup qos retain body ∙ ap first_of (sym (publish_table dup qos retain body (leb-true _ _ (left_of (nat_le qos 1) (dup_fits dup qos) flags))))
body_agrees kinds.PubAck body flags = agree_mapped (id_alone_at body) (λ id. PubAck id) (id_alone_refusals body) (id_alone_agrees body)
body_agrees kinds.Subscribe body flags = subscribe_agrees body
body_agrees kinds.SubAck body flags = suback_agrees body
body_agrees kinds.Unsubscribe body flags = unsubscribe_agrees body
body_agrees kinds.UnsubAck body flags = agree_mapped (id_alone_at body) (λ id. UnsubAck id) (id_alone_refusals body) (id_alone_agrees body)
body_agrees kinds.PingReq body flags = ended_agrees PingReq body
body_agrees kinds.PingResp body flags = ended_agrees PingResp body
body_agrees kinds.Disconnect body flags = ended_agrees Disconnect body

-- ---- the head

numbered : ℕ → PacketFault
numbered n = cond (n == 1) NoMemory (cond (n == 10) More (cond (n == 11) BadLength (cond (n == 12) BadFlags (cond (n == 13) BadType (cond (n == 14) BadText (cond (n == 15) BadBody (cond (n == 16) TooLarge (cond (n == 17) QosTwo BadLevel))))))))

numbered_back : (e : PacketFault) → numbered (number_of e) ≡ e
unfolding numbered
numbered_back NoMemory = refl
numbered_back More = refl
numbered_back BadLength = refl
numbered_back BadFlags = refl
numbered_back BadType = refl
numbered_back BadText = refl
numbered_back BadBody = refl
numbered_back TooLarge = refl
numbered_back QosTwo = refl
numbered_back BadLevel = refl

same_faults : Option PacketFault → Option PacketFault → Bool
same_faults None None = true
same_faults (Some e) (Some f) = number_of e == number_of f
same_faults None (Some f) = false
same_faults (Some e) None = false

same_faults-true : (a b : Option PacketFault) → same_faults a b ≡ true → a ≡ b
unfolding same_faults
same_faults-true None None e = refl
same_faults-true (Some x) (Some y) e = ap (λ (f : PacketFault). Some f) (sym (numbered_back x) ∙ ap numbered (eqb-true _ _ e) ∙ numbered_back y)
same_faults-true None (Some y) e = absurd cc
same_faults-true (Some x) None e = absurd cc

all_firsts_agree : all_below 256 (λ b. same_faults (fault_of (kind_of b)) (first_of (first_refusals b))) ≡ true
unfolding kind_of same_faults
all_firsts_agree = refl

first_agrees : (b : ℕ) → b < 256 → Agree (kind_of b) (first_refusals b)
first_agrees b lt = same_faults-true (fault_of (kind_of b)) (first_of (first_refusals b)) (at_each_below 256 (λ k. same_faults (fault_of (kind_of k)) (first_of (first_refusals k))) all_firsts_agree b lt)

abbrev length_tests : ℕ → List ℕ → Refusals
length_tests n bytes = (length_is_cut n bytes, More) ∷ (length_is_long n bytes, BadLength) ∷ []

length_step : (low cut long : Bool) (first : ℕ × ℕ) (r : Result (ℕ × ℕ) PacketFault) → Agree r ((cut, More) ∷ (long, BadLength) ∷ [])
    → Agree (cond low (Ok first) r) ((not low && cut, More) ∷ (not low && long, BadLength) ∷ [])
length_step true cut long first r a = refl
length_step false cut long first r a = a

length_agrees : (n : ℕ) (bytes : List ℕ) → Agree (length_within n bytes) (length_tests n bytes)
unfolding length_within
length_agrees zero bytes = refl
length_agrees (suc n) [] = refl
length_agrees (suc n) (b ∷ bs) =
    length_step (ltb b 128) (length_is_cut n bs) (length_is_long n bs) (b, 1) (length_within n bs >>= λ x. Ok (b % 128 + 128 * x.0, 1 + x.1))
    (agree_mapped (length_within n bs) (λ x. (b % 128 + 128 * x.0, 1 + x.1)) (length_tests n bs) (length_agrees n bs))

length_of : List ℕ → ℕ × ℕ
length_of bytes = (length_value bytes, length_len bytes)

length_values : (n : ℕ) (bytes : List ℕ) (x : ℕ × ℕ) → length_within n bytes ≡ Ok x → x ≡ length_of bytes
unfolding length_within length_of
length_values zero bytes x e = absurd cc
length_values (suc n) [] x e = absurd cc
length_values (suc n) (b ∷ bs) x e =
    elim (chosen (ltb b 128) (Ok (b, 1)) (length_within n bs >>= λ y. Ok (b % 128 + 128 * y.0, 1 + y.1)) (Ok x) e) [
      | inl c ↦ let given : ℕ × ℕ = (b, 1) in sym (ok_is given x c.1) ∙ rw c.0 refl
      | inr c ↦
          let a = bind_ok (length_within n bs) (λ y. Ok (b % 128 + 128 * y.0, 1 + y.1)) x c.1 in
          let given : ℕ × ℕ = (b % 128 + 128 * a.0.0, 1 + a.0.1) in
          sym (ok_is given x a.2) ∙ rw (length_values n bs a.0 a.1, c.0) refl
    ]

-- what `cut_at` does behind the length
abbrev pub size_step : List ℕ → Kind → ℕ × ℕ → Result (Kind × (List ℕ × ℕ)) PacketFault
size_step rest kind size = cond (ltb largest (1 + size.1 + size.0)) (Err TooLarge) (cond (ltb (1 + length rest) (1 + size.1 + size.0)) (Err More) (Ok (kind, (take size.0 (drop size.1 rest), 1 + size.1 + size.0))))

size_agrees : (rest : List ℕ) (kind : Kind) → Agree (size_step rest kind (length_of rest)) ((ltb largest (whole_len rest), TooLarge) ∷ (ltb (1 + length rest) (whole_len rest), More) ∷ [])
unfolding length_of
size_agrees rest kind =
    agree_test (ltb largest (whole_len rest)) TooLarge (cond (ltb (1 + length rest) (whole_len rest)) (Err More) (Ok (kind, (body_of rest, whole_len rest)))) ((ltb (1 + length rest) (whole_len rest), More) ∷ [])
    (agree_test (ltb (1 + length rest) (whole_len rest)) More (Ok (kind, (body_of rest, whole_len rest))) [] refl)

abbrev pub kind_step : List ℕ → Kind → Result (Kind × (List ℕ × ℕ)) PacketFault
kind_step rest kind = length_at rest >>= size_step rest kind

cut_agrees : (first : ℕ) (rest : List ℕ) → first < 256 → Agree (cut_at (first ∷ rest)) (head_refusals (first ∷ rest))
unfolding cut_at
cut_agrees first rest lt =
    let size_part : Refusals = (ltb largest (whole_len rest), TooLarge) ∷ (ltb (1 + length rest) (whole_len rest), More) ∷ [] in
    agree_then (kind_of first) (kind_step rest) (first_refusals first) (length_refusals rest ++ size_part) (first_agrees first lt)
    (λ kind k. agree_then (length_at rest) (size_step rest kind) (length_refusals rest) size_part (length_agrees 4 rest)
    (λ x e. subst (λ (y : ℕ × ℕ). Agree (size_step rest kind y) size_part) (sym (length_values 4 rest x e)) (size_agrees rest kind)))

-- the kind of the first byte, and the body behind the length
cut_value : (first : ℕ) (rest : List ℕ) (x : Kind × (List ℕ × ℕ)) → cut_at (first ∷ rest) ≡ Ok x → (kind_of first ≡ Ok x.0) × (x.1.0 ≡ body_of rest)
unfolding cut_at length_of
cut_value first rest x e =
    let k = bind_ok (kind_of first) (kind_step rest) x e in
    let s = bind_ok (length_at rest) (size_step rest k.0) x k.2 in
    let g = guard_ok (ltb largest (1 + s.0.1 + s.0.0)) TooLarge (cond (ltb (1 + length rest) (1 + s.0.1 + s.0.0)) (Err More) (Ok (k.0, (take s.0.0 (drop s.0.1 rest), 1 + s.0.1 + s.0.0)))) x s.2 in
    let h = guard_ok (ltb (1 + length rest) (1 + s.0.1 + s.0.0)) More (Ok (k.0, (take s.0.0 (drop s.0.1 rest), 1 + s.0.1 + s.0.0))) x g.1 in
    let given : Kind × (List ℕ × ℕ) = (k.0, (take s.0.0 (drop s.0.1 rest), 1 + s.0.1 + s.0.0)) in
    let same = ok_is given x h.1 in
    (k.1 ∙ ap (λ (y : Kind × (List ℕ × ℕ)). read_kind y.0) same, sym (ap (λ (y : Kind × (List ℕ × ℕ)). y.1.0) same) ∙ ap (λ (y : ℕ × ℕ). take y.0 (drop y.1 rest)) (length_values 4 rest s.0 s.1))

packet_agrees : (first : ℕ) (rest : List ℕ) → first < 256 → Agree (packet_at (first ∷ rest)) (refusals (first ∷ rest))
unfolding packet_at refusals
packet_agrees first rest lt =
    agree_then (cut_at (first ∷ rest)) (λ cut. body_at cut.0 cut.1.0 >>= λ message. Ok (message, cut.1.1)) (head_refusals (first ∷ rest)) (body_refusals first (body_of rest)) (cut_agrees first rest lt)
    (λ x e. let v = cut_value first rest x e in
    let k = kind_takes first x.0 lt v.0 in
    agree_mapped (body_at x.0 x.1.0) (λ message. (message, x.1.1)) (body_refusals first (body_of rest))
    (subst (λ (b : List ℕ). Agree (body_at x.0 b) (body_refusals first (body_of rest))) (sym v.1)
    (subst (λ (n : ℕ). Agree (body_at x.0 (body_of rest)) (body_refusals n (body_of rest))) (sym k.0) (body_agrees x.0 (body_of rest) k.1))))

-- a first byte past 255 has a reserved type, too
reserved : (k : ℕ) → 16 ≤ k → (eqb k 0 || leb 15 k) ≡ true
reserved zero le = absurd (omega arith)
reserved (suc k) le = let high : leb 15 (suc k) ≡ true = le-leb _ _ (omega arith) in rw high (or_true (eqb (suc k) 0))

packet_high : (first : ℕ) (rest : List ℕ) → 256 ≤ first → Agree (packet_at (first ∷ rest)) (refusals (first ∷ rest))
unfolding packet_at cut_at kind_of refusals
packet_high first rest le =
    let low : ltb first 16 ≡ false = le-ltb _ _ (omega arith) in
    let high : leb 240 first ≡ true = le-leb _ _ (omega arith) in
    let kind : (eqb (first / 16) 0 || leb 15 (first / 16)) ≡ true = reserved (first / 16) (omega arith) in
    rw (low, high, kind) refl

-- The fault that reading gives is the one that the order names.
pub packet_refused : (bytes : List ℕ) → fault_of (packet_at bytes) ≡ first_of (refusals bytes)
unfolding packet_at cut_at refusals
packet_refused [] = refl
packet_refused (first ∷ rest) =
    elim (cases_lt first 256) [
      | inl lt ↦ packet_agrees first rest lt
      | inr le ↦ packet_high first rest le
    ]

pub length_refused : (bytes : List ℕ) → fault_of (length_at bytes) ≡ first_of (length_refusals bytes)
length_refused bytes = length_agrees 4 bytes
