-- CONNECT: what is read is spelled so, and what is spelled so is read.
use lib.Utf8.{encode}
use Rattle.std.proofs.Common.{◌≡◌, ℕ, zero, suc, ◌+◌, ◌*◌, ◌<◌, ◌≤◌, eqb, Bool, true, false, cond, List, [], ◌∷◌, ◌++◌, Option, Some, None, Result, Ok, Err, refl, sym, ap, subst, ◌∙◌, append_assoc, arith, codes}
use Rattle.std.specs.Prelude.{◌&&◌, nat_le, ◌==◌, bytes_eq}
use Rattle.std.specs.Str.{is_utf8, chars}
use Rattle.std.proofs.lemmas.Bool.{eqb-true, leb-true}
use Rattle.std.proofs.lemmas.List.{append-nil}
use Rattle.std.proofs.lemmas.Str.{IsUtf8-from_is_utf8}
use Rattle.spk_packets.specs.declared.fault.PacketFault.{PacketFault}
use Rattle.spk_packets.specs.declared.fault.PacketFault.TheVariants.{BadBody, BadLevel}
use Rattle.spk_packets.specs.Message.{WillData, Message, Connect}
use Rattle.spk_packets.specs.Grammar.{bit, is_there, will_bits, connect_flags, IsNumber, IsCounted, IsText, IsWillPart, IsUserPart, IsPasswordPart, IsConnect}
use Rattle.spk_packets.specs.Reading.{◌>>=◌, FlagsData, number_at, counted_at, text_at, flags_at, will_at, user_at, password_at, login_at, flagged_at, level_at, connect_at, ended}
use Rattle.spk_packets.proofs.Faults.{bind_ok, pass_ok, ok_is}
use Rattle.spk_packets.proofs.Bytes.{all_below, at_each_below, left_of, right_of, IsBytes, IsBytes-rest, IsBytes-after}
use Rattle.spk_packets.proofs.PartLaws.{number_takes, number_again, counted_takes, counted_again, text_takes, text_again}
use Rattle.spk_packets.proofs.BodyLaws.{ended_takes}

-- ---- the flags

abbrev pub promised_bits : Option (ℕ × Bool) → ℕ
promised_bits None = 0
promised_bits (Some will) = 32 * bit will.1 + 8 * will.0 + 4

-- the byte that says it
abbrev pub flags_byte : FlagsData → ℕ
flags_byte f = 128 * bit f.user + 64 * bit f.password + promised_bits f.will + 2 * bit f.clean

abbrev low_qos : Option (ℕ × Bool) → Bool
low_qos None = true
low_qos (Some will) = nat_le will.0 1

abbrev has_user : Bool → Bool → Bool
has_user user true = user
has_user user false = true

abbrev flags_hold : ℕ → Result FlagsData PacketFault → Bool
flags_hold b (Ok f) = (flags_byte f == b) && (low_qos f.will && has_user f.user f.password)
flags_hold b (Err e) = true

all_flags_hold : all_below 256 (λ b. flags_hold b (flags_at b)) ≡ true
unfolding flags_at
all_flags_hold = refl

-- what flags that are read keep
pub record AreFlags (f : FlagsData) : Type 0 where
  pub low : low_qos f.will ≡ true
  pub named : has_user f.user f.password ≡ true

pub flags_takes : (b : ℕ) (f : FlagsData) → b < 256 → flags_at b ≡ Ok f → (flags_byte f ≡ b) × AreFlags f
flags_takes b f lt e =
    let holds : flags_hold b (Ok f) ≡ true = subst (λ (r : Result FlagsData PacketFault). flags_hold b r ≡ true) e (at_each_below 256 (λ k. flags_hold k (flags_at k)) all_flags_hold b lt) in
    let rest = right_of (flags_byte f == b) (low_qos f.will && has_user f.user f.password) holds in (
      eqb-true _ _ (left_of (flags_byte f == b) (low_qos f.will && has_user f.user f.password) holds),
      record { low = left_of (low_qos f.will) (has_user f.user f.password) rest; named = right_of (low_qos f.will) (has_user f.user f.password) rest },
    )

abbrev flags_of_parts : Bool → Bool → Option (ℕ × Bool) → Bool → FlagsData
flags_of_parts user password will clean = record { user = user; password = password; will = will; clean = clean }

flags_again_none : (user password clean : Bool) → (password ≡ true → user ≡ true) → flags_at (flags_byte (flags_of_parts user password None clean)) ≡ Ok (flags_of_parts user password None clean)
unfolding flags_at
flags_again_none true true true h = refl
flags_again_none true true false h = refl
flags_again_none true false true h = refl
flags_again_none true false false h = refl
flags_again_none false true true h = let no : false ≡ true = h refl in absurd cc
flags_again_none false true false h = let no : false ≡ true = h refl in absurd cc
flags_again_none false false true h = refl
flags_again_none false false false h = refl

flags_again_zero : (user password retain clean : Bool) → (password ≡ true → user ≡ true) → flags_at (flags_byte (flags_of_parts user password (Some (0, retain)) clean)) ≡ Ok (flags_of_parts user password (Some (0, retain)) clean)
unfolding flags_at
flags_again_zero true true true true h = refl
flags_again_zero true true true false h = refl
flags_again_zero true true false true h = refl
flags_again_zero true true false false h = refl
flags_again_zero true false true true h = refl
flags_again_zero true false true false h = refl
flags_again_zero true false false true h = refl
flags_again_zero true false false false h = refl
flags_again_zero false true true true h = let no : false ≡ true = h refl in absurd cc
flags_again_zero false true true false h = let no : false ≡ true = h refl in absurd cc
flags_again_zero false true false true h = let no : false ≡ true = h refl in absurd cc
flags_again_zero false true false false h = let no : false ≡ true = h refl in absurd cc
flags_again_zero false false true true h = refl
flags_again_zero false false true false h = refl
flags_again_zero false false false true h = refl
flags_again_zero false false false false h = refl

flags_again_one : (user password retain clean : Bool) → (password ≡ true → user ≡ true) → flags_at (flags_byte (flags_of_parts user password (Some (1, retain)) clean)) ≡ Ok (flags_of_parts user password (Some (1, retain)) clean)
unfolding flags_at
flags_again_one true true true true h = refl
flags_again_one true true true false h = refl
flags_again_one true true false true h = refl
flags_again_one true true false false h = refl
flags_again_one true false true true h = refl
flags_again_one true false true false h = refl
flags_again_one true false false true h = refl
flags_again_one true false false false h = refl
flags_again_one false true true true h = let no : false ≡ true = h refl in absurd cc
flags_again_one false true true false h = let no : false ≡ true = h refl in absurd cc
flags_again_one false true false true h = let no : false ≡ true = h refl in absurd cc
flags_again_one false true false false h = let no : false ≡ true = h refl in absurd cc
flags_again_one false false true true h = refl
flags_again_one false false true false h = refl
flags_again_one false false false true h = refl
flags_again_one false false false false h = refl

flags_again_qos : (user password : Bool) (qos : ℕ) (retain clean : Bool) → qos ≤ 1 → (password ≡ true → user ≡ true)
    → flags_at (flags_byte (flags_of_parts user password (Some (qos, retain)) clean)) ≡ Ok (flags_of_parts user password (Some (qos, retain)) clean)
flags_again_qos user password zero retain clean le h = flags_again_zero user password retain clean h
flags_again_qos user password (suc zero) retain clean le h = flags_again_one user password retain clean h
flags_again_qos user password (suc (suc n)) retain clean le h = absurd (omega arith)

-- the flags of a will
abbrev promised : Option WillData → Option (ℕ × Bool)
promised None = None
promised (Some will) = Some (will.qos, will.retain)

bits_again : (will : Option WillData) → promised_bits (promised will) ≡ will_bits will
bits_again None = refl
bits_again (Some will) = refl

flags_again : (user password : Bool) (will : Option WillData) (clean : Bool) (text : List ℕ) → IsWillPart text will → (password ≡ true → user ≡ true)
    → flags_at (connect_flags user password will clean) ≡ Ok (flags_of_parts user password (promised will) clean)
flags_again user password None clean text is h = flags_again_none user password clean h
flags_again user password (Some will) clean text is h = flags_again_qos user password will.qos will.retain clean is.4 h

-- ---- the will

pub will_takes : (flags : Option (ℕ × Bool)) (bytes : List ℕ) (x : Option WillData × List ℕ) → low_qos flags ≡ true → will_at flags bytes ≡ Ok x
    → (text : List ℕ) × IsWillPart text x.0 × (will_bits x.0 ≡ promised_bits flags) × (bytes ≡ text ++ x.1)
unfolding will_at
will_takes None bytes x low e =
    let given : Option WillData × List ℕ = (None, bytes) in
    subst (λ (y : Option WillData × List ℕ). (text : List ℕ) × IsWillPart text y.0 × (will_bits y.0 ≡ 0) × (bytes ≡ text ++ y.1)) (ok_is given x e) ([], refl, refl, refl)
will_takes (Some will) bytes x low e =
    let a = bind_ok (text_at bytes) (λ topic. counted_at topic.1 >>= λ message. Ok (Some (record { topic = topic.0; message = message.0; qos = will.0; retain = will.1 }), message.1)) x e in
    let b = bind_ok (counted_at a.0.1) (λ message. Ok (Some (record { topic = a.0.0; message = message.0; qos = will.0; retain = will.1 }), message.1)) x a.2 in
    let t = text_takes bytes a.0 a.1 in
    let m = counted_takes a.0.1 b.0 b.1 in
    let made : WillData = record { topic = a.0.0; message = b.0.0; qos = will.0; retain = will.1 } in
    let given : Option WillData × List ℕ = (Some made, b.0.1) in
    let low_one : will.0 ≤ 1 = leb-true _ _ low in
    let parts : bytes ≡ (t.0 ++ m.0) ++ b.0.1 = t.2 ∙ ap (λ (r : List ℕ). t.0 ++ r) m.2 ∙ sym (append_assoc t.0 m.0 b.0.1) in
    subst (λ (y : Option WillData × List ℕ). (text : List ℕ) × IsWillPart text y.0 × (will_bits y.0 ≡ promised_bits (Some will)) × (bytes ≡ text ++ y.1)) (ok_is given x b.2)
    (t.0 ++ m.0, (t.0, m.0, t.1, m.1, low_one, refl), refl, parts)

pub will_again : (will : Option WillData) (text rest : List ℕ) → IsWillPart text will → will_at (promised will) (text ++ rest) ≡ Ok (will, rest)
unfolding will_at
will_again None text rest is = rw is refl
will_again (Some will) text rest is =
    let regrouped : text ++ rest ≡ is.0 ++ (is.1 ++ rest) = ap (λ (t : List ℕ). t ++ rest) is.5 ∙ append_assoc is.0 is.1 rest in
    ap (will_at (Some (will.qos, will.retain))) regrouped ∙ rw (text_again is.0 will.topic (is.1 ++ rest) is.2, counted_again is.1 will.message rest is.3) refl

-- ---- user name and password

pub user_takes : (there : Bool) (bytes rest : List ℕ) → user_at there bytes ≡ Ok rest
    → (text : List ℕ) × (user : Option (List ℕ)) × IsUserPart text user × (is_there user ≡ there) × (bytes ≡ text ++ rest)
unfolding user_at
user_takes false bytes rest e = ([], None, refl, refl, ok_is bytes rest e)
user_takes true bytes rest e =
    let a = bind_ok (text_at bytes) (λ user. Ok user.1) rest e in
    let t = text_takes bytes a.0 a.1 in
    (t.0, Some a.0.0, t.1, refl, t.2 ∙ ap (λ (r : List ℕ). t.0 ++ r) (ok_is a.0.1 rest a.2))

pub user_again : (user : Option (List ℕ)) (text rest : List ℕ) → IsUserPart text user → user_at (is_there user) (text ++ rest) ≡ Ok rest
unfolding user_at
user_again None text rest is = rw is refl
user_again (Some user) text rest is = rw (text_again text user rest is) refl

pub password_takes : (there : Bool) (bytes rest : List ℕ) → password_at there bytes ≡ Ok rest
    → (text : List ℕ) × (password : Option (List ℕ)) × IsPasswordPart text password × (is_there password ≡ there) × (bytes ≡ text ++ rest)
unfolding password_at
password_takes false bytes rest e = ([], None, refl, refl, ok_is bytes rest e)
password_takes true bytes rest e =
    let a = bind_ok (counted_at bytes) (λ password. Ok password.1) rest e in
    let t = counted_takes bytes a.0 a.1 in
    (t.0, Some a.0.0, t.1, refl, t.2 ∙ ap (λ (r : List ℕ). t.0 ++ r) (ok_is a.0.1 rest a.2))

pub password_again : (password : Option (List ℕ)) (text rest : List ℕ) → IsPasswordPart text password → password_at (is_there password) (text ++ rest) ≡ Ok rest
unfolding password_at
password_again None text rest is = rw is refl
password_again (Some password) text rest is = rw (counted_again text password rest is) refl

-- the two of them, and no more
pub record IsLogin (user password : Bool) (bytes : List ℕ) : Type 0 where
  pub name : Option (List ℕ)
  pub secret : Option (List ℕ)
  pub name_text : List ℕ
  pub secret_text : List ℕ
  pub is_name : IsUserPart name_text name
  pub is_secret : IsPasswordPart secret_text secret
  pub has_name : is_there name ≡ user
  pub has_secret : is_there secret ≡ password
  pub parts : bytes ≡ name_text ++ secret_text

pub login_takes : (user password : Bool) (bytes : List ℕ) (u : Unit {0}) → login_at user password bytes ≡ Ok u → IsLogin user password bytes
unfolding login_at
login_takes user password bytes u e =
    let a = bind_ok (user_at user bytes) (λ named. password_at password named >>= λ rest. ended tt rest) u e in
    let b = bind_ok (password_at password a.0) (λ rest. ended tt rest) u a.2 in
    let d = ended_takes tt u b.0 b.2 in
    let s = user_takes user bytes a.0 a.1 in
    let t = password_takes password a.0 b.0 b.1 in
    let last : a.0 ≡ t.0 = t.4 ∙ ap (λ (r : List ℕ). t.0 ++ r) d.0 ∙ append-nil t.0 in
    record { name = s.1; secret = t.1; name_text = s.0; secret_text = t.0; is_name = s.2; is_secret = t.2; has_name = s.3; has_secret = t.3; parts = s.4 ∙ ap (λ (r : List ℕ). s.0 ++ r) last }

pub login_again : (user password : Option (List ℕ)) (name secret : List ℕ) → IsUserPart name user → IsPasswordPart secret password
    → login_at (is_there user) (is_there password) (name ++ secret) ≡ Ok tt
unfolding login_at ended
login_again user password name secret is_name is_secret =
    let second : password_at (is_there password) secret ≡ Ok [] = ap (password_at (is_there password)) (sym (append-nil secret)) ∙ password_again password secret [] is_secret in
    rw (user_again user name secret is_name, second) refl

-- ---- the body

-- what a CONNECT is behind its level
pub record IsFlagged (bytes : List ℕ) (p : Message) : Type 0 where
  pub client : List ℕ
  pub clean : Bool
  pub keep : ℕ
  pub will : Option WillData
  pub user : Option (List ℕ)
  pub password : Option (List ℕ)
  pub keep_text : List ℕ
  pub client_text : List ℕ
  pub will_text : List ℕ
  pub user_text : List ℕ
  pub password_text : List ℕ
  pub is_packet : p ≡ Connect client clean keep will
  pub is_keep : IsNumber keep_text keep
  pub is_client : IsText client_text client
  pub is_will : IsWillPart will_text will
  pub is_user : IsUserPart user_text user
  pub is_password : IsPasswordPart password_text password
  pub no_password_alone : is_there password ≡ true → is_there user ≡ true
  pub parts : bytes ≡ connect_flags (is_there user) (is_there password) will clean ∷ (keep_text ++ (client_text ++ (will_text ++ (user_text ++ password_text))))

user_where : (user password : Bool) → has_user user password ≡ true → password ≡ true → user ≡ true
user_where user true h e = h
user_where user false h e = absurd cc

-- What a CONNECT behind its level is read by, from each of its parts on. The lemmas below go part by part, so that what
-- was read stands in each as a plain variable.
abbrev from_will : FlagsData → ℕ × List ℕ → List ℕ × List ℕ → Option WillData × List ℕ → Result Message PacketFault
from_will flags keep client will = login_at flags.user flags.password will.1 >>= λ login. Ok (Connect client.0 flags.clean keep.0 will.0)

abbrev from_client : FlagsData → ℕ × List ℕ → List ℕ × List ℕ → Result Message PacketFault
from_client flags keep client = will_at flags.will client.1 >>= λ will. from_will flags keep client will

abbrev from_keep : FlagsData → ℕ × List ℕ → Result Message PacketFault
from_keep flags keep = text_at keep.1 >>= λ client. from_client flags keep client

abbrev from_flags : List ℕ → FlagsData → Result Message PacketFault
from_flags rest flags = number_at rest >>= λ keep. from_keep flags keep

-- the first byte, from what the parts say
byte_is : (b : ℕ) (f : FlagsData) (name secret : Option (List ℕ)) (will : Option WillData) → flags_byte f ≡ b → is_there name ≡ f.user → is_there secret ≡ f.password → will_bits will ≡ promised_bits f.will
    → b ≡ connect_flags (is_there name) (is_there secret) will f.clean
byte_is b f name secret will is named kept bits = rw (named, kept, bits) (sym is)

-- one part behind the other
tail_is : (rest k c w u s x y z : List ℕ) → rest ≡ k ++ x → x ≡ c ++ y → y ≡ w ++ z → z ≡ u ++ s → rest ≡ k ++ (c ++ (w ++ (u ++ s)))
tail_is rest k c w u s x y z first second third last =
    first ∙ ap (λ (r : List ℕ). k ++ r) (second ∙ ap (λ (r : List ℕ). c ++ r) (third ∙ ap (λ (r : List ℕ). w ++ r) last))

module _ (b : ℕ) (rest : List ℕ) (p : Message) where
  will_goes : (f : FlagsData) (k : ℕ × List ℕ) (c : List ℕ × List ℕ) (w : Option WillData × List ℕ) (kept client_text : List ℕ) → (flags_byte f ≡ b) × AreFlags f → IsNumber kept k.0 → rest ≡ kept ++ k.1
      → IsText client_text c.0 → k.1 ≡ client_text ++ c.1 → (text : List ℕ) × IsWillPart text w.0 × (will_bits w.0 ≡ promised_bits f.will) × (c.1 ≡ text ++ w.1) → from_will f k c w ≡ Ok p → IsFlagged (b ∷ rest) p
  will_goes f k c w kept client_text flags is_keep keep_parts is_client client_parts will e =
      let l = bind_ok (login_at f.user f.password w.1) (λ login. Ok (Connect c.0 f.clean k.0 w.0)) p e in
      let login = login_takes f.user f.password w.1 l.0 l.1 in
      record {
        client = c.0;
        clean = f.clean;
        keep = k.0;
        will = w.0;
        user = login.name;
        password = login.secret;
        keep_text = kept;
        client_text = client_text;
        will_text = will.0;
        user_text = login.name_text;
        password_text = login.secret_text;
        is_packet = sym (ok_is (Connect c.0 f.clean k.0 w.0) p l.2);
        is_keep = is_keep;
        is_client = is_client;
        is_will = will.1;
        is_user = login.is_name;
        is_password = login.is_secret;
        no_password_alone = λ e. login.has_name ∙ user_where f.user f.password flags.1.named (sym login.has_secret ∙ e);
        parts = ap (λ (x : ℕ). x ∷ rest) (byte_is b f login.name login.secret w.0 flags.0 login.has_name login.has_secret will.2) ∙ ap (λ (r : List ℕ). connect_flags (is_there login.name) (is_there login.secret) w.0 f.clean ∷ r) (tail_is rest kept client_text will.0 login.name_text login.secret_text k.1 c.1 w.1 keep_parts client_parts will.3 login.parts);
      }

  client_goes : (f : FlagsData) (k : ℕ × List ℕ) (c : List ℕ × List ℕ) (kept : List ℕ) → (flags_byte f ≡ b) × AreFlags f → IsNumber kept k.0 → rest ≡ kept ++ k.1
      → (text : List ℕ) × IsText text c.0 × (k.1 ≡ text ++ c.1) → from_client f k c ≡ Ok p → IsFlagged (b ∷ rest) p
  client_goes f k c kept flags is_keep keep_parts client e =
      let w = bind_ok (will_at f.will c.1) (λ will. from_will f k c will) p e in
      will_goes f k c w.0 kept client.0 flags is_keep keep_parts client.1 client.2 (will_takes f.will c.1 w.0 flags.1.low w.1) w.2

  keep_goes : (f : FlagsData) (k : ℕ × List ℕ) → (flags_byte f ≡ b) × AreFlags f → (text : List ℕ) × IsNumber text k.0 × (rest ≡ text ++ k.1) → from_keep f k ≡ Ok p → IsFlagged (b ∷ rest) p
  keep_goes f k flags keep e =
      let c = bind_ok (text_at k.1) (λ client. from_client f k client) p e in
      client_goes f k c.0 keep.0 flags keep.1 keep.2 (text_takes k.1 c.0 c.1) c.2

  flags_go : (f : FlagsData) → (flags_byte f ≡ b) × AreFlags f → from_flags rest f ≡ Ok p → IsFlagged (b ∷ rest) p
  flags_go f flags e =
      let k = bind_ok (number_at rest) (λ keep. from_keep f keep) p e in
      keep_goes f k.0 flags (number_takes rest k.0 k.1) k.2

pub flagged_takes : (bytes : List ℕ) (p : Message) → IsBytes bytes → flagged_at bytes ≡ Ok p → IsFlagged bytes p
unfolding flagged_at
flagged_takes [] p fits e = absurd cc
flagged_takes (b ∷ rest) p fits e =
    let f = bind_ok (flags_at b) (λ flags. from_flags rest flags) p e in
    flags_go b rest p f.0 (flags_takes b f.0 (fits 0) f.1) f.2

level_takes : (bytes : List ℕ) (p : Message) → IsBytes bytes → level_at bytes ≡ Ok p → (rest : List ℕ) × IsFlagged rest p × (bytes ≡ 4 ∷ rest)
unfolding level_at
level_takes [] p fits e = absurd cc
level_takes (level ∷ rest) p fits e =
    let g = pass_ok (eqb level 4) BadLevel (flagged_at rest) p e in
    (rest, flagged_takes rest p (IsBytes-rest level rest fits) g.1, ap (λ (x : ℕ). x ∷ rest) (eqb-true _ _ g.0))

bytes_eq-true : (xs ys : List ℕ) → bytes_eq xs ys ≡ true → xs ≡ ys
bytes_eq-true [] [] e = refl
bytes_eq-true [] (y ∷ ys) e = absurd cc
bytes_eq-true (x ∷ xs) [] e = absurd cc
bytes_eq-true (x ∷ xs) (y ∷ ys) e =
    let first : x ≡ y = eqb-true x y (left_of (eqb x y) (bytes_eq xs ys) e) in
    let others : xs ≡ ys = bytes_eq-true xs ys (right_of (eqb x y) (bytes_eq xs ys) e) in
    cc

-- the length of the name
four_is : (high low : ℕ) → 4 ≡ 256 * high + low → (high ≡ 0) × (low ≡ 4)
four_is high low e = (omega arith, omega arith)

name_front : (front : List ℕ) (high low : ℕ) → front ≡ high ∷ low ∷ [] → high ≡ 0 → low ≡ 4 → front ≡ 0 ∷ 4 ∷ []
name_front front high low e h l = cc

name_is : (text : List ℕ) → IsCounted text (codes "MQTT") → text ≡ 0 ∷ 4 ∷ 77 ∷ 81 ∷ 84 ∷ 84 ∷ []
name_is text is =
    let f = four_is is.1.0 is.1.1 is.1.3 in
    let front : is.0 ≡ 0 ∷ 4 ∷ [] = name_front is.0 is.1.0 is.1.1 is.1.2 f.0 f.1 in
    is.2 ∙ ap (λ (t : List ℕ). t ++ 77 ∷ 81 ∷ 84 ∷ 84 ∷ []) front

-- the name and the level in front of what is behind them
head_is : (body name tail rest parts : List ℕ) → body ≡ name ++ tail → IsCounted name (codes "MQTT") → tail ≡ 4 ∷ rest → rest ≡ parts → body ≡ 0 ∷ 4 ∷ 77 ∷ 81 ∷ 84 ∷ 84 ∷ 4 ∷ parts
head_is body name tail rest parts named is level e =
    named ∙ ap (λ (n : List ℕ). n ++ tail) (name_is name is) ∙ ap (λ (r : List ℕ). 0 ∷ 4 ∷ 77 ∷ 81 ∷ 84 ∷ 84 ∷ r) (level ∙ ap (λ (r : List ℕ). 4 ∷ r) e)

connect_made : (body name tail rest : List ℕ) (p : Message) → body ≡ name ++ tail → IsCounted name (codes "MQTT") → tail ≡ 4 ∷ rest → IsFlagged rest p
    → (client : List ℕ) × (clean : Bool) × (keep : ℕ) × (will : Option WillData) × (p ≡ Connect client clean keep will) × IsConnect body client clean keep will
connect_made body name tail rest p named is level f = (
  f.client,
  f.clean,
  f.keep,
  f.will,
  f.is_packet,
  record {
    user = f.user;
    password = f.password;
    keep_text = f.keep_text;
    client_text = f.client_text;
    will_text = f.will_text;
    user_text = f.user_text;
    password_text = f.password_text;
    is_keep = f.is_keep;
    is_client = f.is_client;
    is_will = f.is_will;
    is_user = f.is_user;
    is_password = f.is_password;
    no_password_alone = f.no_password_alone;
    parts = head_is body name tail rest _ named is level f.parts;
  },
)

pub connect_takes : (body : List ℕ) (p : Message) → IsBytes body → connect_at body ≡ Ok p
    → (client : List ℕ) × (clean : Bool) × (keep : ℕ) × (will : Option WillData) × (p ≡ Connect client clean keep will) × IsConnect body client clean keep will
unfolding connect_at
connect_takes body p fits e =
    let a = bind_ok (text_at body) (λ name. cond (bytes_eq name.0 (codes "MQTT")) (level_at name.1) (Err BadBody)) p e in
    let g = pass_ok (bytes_eq a.0.0 (codes "MQTT")) BadBody (level_at a.0.1) p a.2 in
    let t = text_takes body a.0 a.1 in
    let l = level_takes a.0.1 p (IsBytes-after t.0 a.0.1 (subst (λ (r : List ℕ). IsBytes r) t.2 fits)) g.1 in
    let named : IsCounted t.0 (codes "MQTT") = subst (λ (n : List ℕ). IsCounted t.0 n) (bytes_eq-true a.0.0 (codes "MQTT") g.0) t.1.0 in
    connect_made body t.0 a.0.1 l.0 p t.2 named l.2 l.1

mqtt_is_text : IsText (0 ∷ 4 ∷ 77 ∷ 81 ∷ 84 ∷ 84 ∷ []) (codes "MQTT")
unfolding is_utf8 chars encode
mqtt_is_text = ((0 ∷ 4 ∷ [], (0, 4, refl, refl), refl), IsUtf8-from_is_utf8 (codes "MQTT") refl, refl)

pub flagged_again : (client : List ℕ) (clean : Bool) (keep : ℕ) (will : Option WillData) (body : List ℕ) (is : IsConnect body client clean keep will)
    → flagged_at (connect_flags (is_there is.user) (is_there is.password) will clean ∷ (is.keep_text ++ (is.client_text ++ (is.will_text ++ (is.user_text ++ is.password_text))))) ≡ Ok (Connect client clean keep will)
unfolding flagged_at
flagged_again client clean keep will body is =
    rw (
      flags_again (is_there is.user) (is_there is.password) will clean is.will_text is.is_will is.no_password_alone,
      number_again is.keep_text keep (is.client_text ++ (is.will_text ++ (is.user_text ++ is.password_text))) is.is_keep,
      text_again is.client_text client (is.will_text ++ (is.user_text ++ is.password_text)) is.is_client,
      will_again will is.will_text (is.user_text ++ is.password_text) is.is_will,
      login_again is.user is.password is.user_text is.password_text is.is_user is.is_password,
    ) refl

pub connect_again : (client : List ℕ) (clean : Bool) (keep : ℕ) (will : Option WillData) (body : List ℕ) → IsConnect body client clean keep will → connect_at body ≡ Ok (Connect client clean keep will)
unfolding connect_at level_at
connect_again client clean keep will body is =
    let tail : List ℕ = connect_flags (is_there is.user) (is_there is.password) will clean ∷ (is.keep_text ++ (is.client_text ++ (is.will_text ++ (is.user_text ++ is.password_text)))) in
    ap connect_at is.parts
    ∙ ap (λ (r : Result (List ℕ × List ℕ) PacketFault). r >>= λ name. cond (bytes_eq name.0 (codes "MQTT")) (level_at name.1) (Err BadBody)) (text_again (0 ∷ 4 ∷ 77 ∷ 81 ∷ 84 ∷ 84 ∷ []) (codes "MQTT") (4 ∷ tail) mqtt_is_text)
    ∙ flagged_again client clean keep will body is
