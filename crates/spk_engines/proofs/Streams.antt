-- Streams that are read one piece behind the other.
use Rattle.std.proofs.Common.{◌≡◌, ℕ, ◌+◌, ◌*◌, List, [], ◌∷◌, ◌++◌, map, ◌≤◌, ◌-◌, take, drop, length, Option, Some, None, Result, Ok, Err, OnOk, OnErr, IfErr, inl, inr, ◌≢◌, refl, sym, ◌∙◌, ap, subst, arith, drop-drop, length-drop}
use Rattle.std.proofs.lemmas.List.{append_assoc, append-nil, length-append, length-take-le, take-append-drop}
use Rattle.std.proofs.lemmas.List.Folds.{concat-append}
use Rattle.std.specs.List.{concat}
use Rattle.std.specs.Io.KnownBytes.{Consumes, Keeps, IsAtEnd}
use Rattle.spk_ingress.specs.Frame.{IsOnePacket}
use Rattle.spk_ingress.specs.declared.frame.Frame.{Frame}
use Rattle.spk_ingress.specs.declared.frame.Frame.TheVariants as frame
use Rattle.spk_engines.specs.Reading.{AllPackets, Cuts, Reads, WantsMore, Ends, IsWhole, IsPart, IsFront, IsPiece, ReadsUpTo}
use Rattle.spk_packets.specs.declared.fault.PacketFault.{PacketFault}
use Rattle.spk_packets.specs.Fault.{first_of}
use Rattle.spk_packets.specs.Refusals.{refusals}
use Rattle.spk_packets.specs.declared.fault.PacketFault.TheVariants as packet
use Rattle.spk_engines.specs.declared.fault.EngineFault.{EngineFault}
use Rattle.spk_engines.specs.declared.fault.EngineFault.TheVariants.{Closed}
use Rattle.spk_engines.specs.declared.reading.Front.TheVariants as front

pub concat_end : (ws : List (List ℕ)) (w : List ℕ) → concat (ws ++ w ∷ []) ≡ concat ws ++ w
concat_end ws w = concat-append ws (w ∷ []) ∙ ap (λ l. concat ws ++ l) (append-nil w)

pub map_end : (ws : List (List ℕ)) (w : List ℕ) → map frame.Packet (ws ++ w ∷ []) ≡ map frame.Packet ws ++ frame.Packet w ∷ []
map_end [] w = refl
map_end (v ∷ ws) w = ap (λ l. frame.Packet v ∷ l) (map_end ws w)

pub all_end : (ws : List (List ℕ)) (w : List ℕ) → AllPackets ws → IsOnePacket w → AllPackets (ws ++ w ∷ [])
all_end [] w a o = (o, tt)
all_end (v ∷ ws) w a o = (a.0, all_end ws w a.1 o)

-- nothing was cut yet
pub cuts_none : (bytes : List ℕ) (put : List Frame) → Cuts bytes bytes put put
cuts_none bytes put = record { packets = []; parts = refl; each = tt; put_them = sym (append-nil put) }

-- one packet more
pub cuts_one : (bytes w rest : List ℕ) (p q : List Frame) → Cuts bytes (w ++ rest) p q → IsOnePacket w → Cuts bytes rest p (q ++ frame.Packet w ∷ [])
cuts_one bytes w rest p q c o = record {
  packets = c.packets ++ w ∷ [];
  parts = c.parts ∙ sym (append_assoc (concat c.packets) w rest) ∙ ap (λ l. l ++ rest) (sym (concat_end c.packets w));
  each = all_end c.packets w c.each o;
  put_them = ap (λ l. l ++ frame.Packet w ∷ []) c.put_them ∙ append_assoc p (map frame.Packet c.packets) (frame.Packet w ∷ []) ∙ ap (λ l. p ++ l) (sym (map_end c.packets w));
}

-- more bytes behind
pub cuts_behind : (bytes rest more : List ℕ) (p q : List Frame) → Cuts bytes rest p q → Cuts (bytes ++ more) (rest ++ more) p q
cuts_behind bytes rest more p q c = record {
  packets = c.packets;
  parts = ap (λ l. l ++ more) c.parts ∙ append_assoc (concat c.packets) rest more;
  each = c.each;
  put_them = c.put_them;
}

-- one packet more, of what stands behind the first so many bytes
pub cuts_at : (bytes : List ℕ) (start n : ℕ) (p q : List Frame) → Cuts bytes (drop start bytes) p q → IsOnePacket (take n (drop start bytes)) → Cuts bytes (drop (start + n) bytes) p (q ++ frame.Packet (take n (drop start bytes)) ∷ [])
cuts_at bytes start n p q c o =
    subst (λ rest. Cuts bytes rest p (q ++ frame.Packet (take n (drop start bytes)) ∷ [])) (drop-drop n start bytes)
    (cuts_one bytes (take n (drop start bytes)) (drop n (drop start bytes)) p q (subst (λ rest. Cuts bytes rest p q) (sym (take-append-drop n (drop start bytes))) c) o)

pub cuts_front : (bytes : List ℕ) (start n : ℕ) (p q r : List Frame) → Cuts bytes (drop start bytes) p q → IsFront (front.Put n) (drop start bytes) q r → Cuts bytes (drop (start + n) bytes) p r
cuts_front bytes start n p q r c f = subst (λ put. Cuts bytes (drop (start + n) bytes) p put) (sym f.3) (cuts_at bytes start n p q c f.2)

pub still_within : (bytes : List ℕ) (start n : ℕ) → start ≤ length bytes → n ≤ length (drop start bytes) → start + n ≤ length bytes
still_within bytes start n w f = (let e : length (drop start bytes) ≡ length bytes - start = length-drop start bytes in omega arith)

pub all_both : (vs ws : List (List ℕ)) → AllPackets vs → AllPackets ws → AllPackets (vs ++ ws)
all_both [] ws a b = b
all_both (v ∷ vs) ws a b = (a.0, all_both vs ws a.1 b)

pub map_both : (vs ws : List (List ℕ)) → map frame.Packet (vs ++ ws) ≡ map frame.Packet vs ++ map frame.Packet ws
map_both [] ws = refl
map_both (v ∷ vs) ws = ap (λ l. frame.Packet v ∷ l) (map_both vs ws)

-- what is behind is cut in turn
pub cuts_then : (bytes middle rest : List ℕ) (p q r : List Frame) → Cuts bytes middle p q → Cuts middle rest q r → Cuts bytes rest p r
cuts_then bytes middle rest p q r c d = record {
  packets = c.packets ++ d.packets;
  parts = c.parts ∙ ap (λ l. concat c.packets ++ l) d.parts ∙ sym (append_assoc (concat c.packets) (concat d.packets) rest)
      ∙ ap (λ l. l ++ rest) (sym (concat-append c.packets d.packets));
  each = all_both c.packets d.packets c.each d.each;
  put_them = d.put_them ∙ ap (λ l. l ++ map frame.Packet d.packets) c.put_them ∙ append_assoc p (map frame.Packet c.packets) (map frame.Packet d.packets)
      ∙ ap (λ l. p ++ l) (sym (map_both c.packets d.packets));
}

pub consumes_then : (a b c : Option (List ℕ)) (xs ys : List ℕ) → Consumes a b xs → Consumes b c ys → Consumes a c (xs ++ ys)
consumes_then None b c xs ys f g = tt
consumes_then (Some l) None c xs ys f g = absurd f
consumes_then (Some l) (Some m) None xs ys f g = absurd g
consumes_then (Some l) (Some m) (Some n) xs ys f g = f ∙ ap (λ k. xs ++ k) g ∙ sym (append_assoc xs ys n)

pub keeps_consumes : (a b : Option (List ℕ)) → Keeps a b → Consumes a b []
keeps_consumes None b k = tt
keeps_consumes (Some l) None k = absurd k
keeps_consumes (Some l) (Some m) k = sym k

-- nothing was read yet
pub reads_none : (a : Option (List ℕ)) (p : List Frame) → Reads a a [] p p
reads_none None p = ([], tt, cuts_none [] p)
reads_none (Some l) p = ([], refl, cuts_none [] p)

-- a piece more, which was cut with what waited
pub reads_more : (a b c : Option (List ℕ)) (waits piece rest : List ℕ) (p q r : List Frame) → Reads a b waits p q → Consumes b c piece → Cuts (waits ++ piece) rest q r → Reads a c rest p r
reads_more a b c waits piece rest p q r f g h =
    (f.0 ++ piece, consumes_then a b c f.0 piece f.1 g, cuts_then (f.0 ++ piece) (waits ++ piece) rest p q r (cuts_behind f.0 waits piece p q f.2) h)

-- nothing more
pub reads_same : (a b c : Option (List ℕ)) (waits : List ℕ) (p q : List Frame) → Reads a b waits p q → Consumes b c [] → Reads a c waits p q
reads_same a b c waits p q f g = (f.0, subst (Consumes a c) (append-nil f.0) (consumes_then a b c f.0 [] f.1 g), f.2)

-- nothing was read yet
pub upto_none : (a : Option (List ℕ)) → ReadsUpTo 0 a a
upto_none None = ([], tt, omega arith)
upto_none (Some l) = ([], refl, omega arith)

pub consumes_none : (a : Option (List ℕ)) → Consumes a a []
consumes_none None = tt
consumes_none (Some l) = refl

-- nothing more
pub upto_same : (a b c : Option (List ℕ)) (m n : ℕ) → ReadsUpTo m a b → Consumes b c [] → m ≤ n → ReadsUpTo n a c
upto_same a b c m n f g l = (f.0, subst (Consumes a c) (append-nil f.0) (consumes_then a b c f.0 [] f.1 g), (let before : length f.0 ≤ m = f.2 in omega arith))

-- an engine begins over the same device
pub begun : {S : Type 0} (left : S → Option (List ℕ)) (old new : S) (waits : List ℕ) (p : List Frame) → new ≡ old → waits ≡ [] → Reads (left old) (left new) waits p p
begun left old new waits p same none = subst (λ w. Reads (left old) (left new) w p p) (sym none) (subst (λ d. Reads (left old) (left d) [] p p) (sym same) (reads_none (left old) p))

pub upto_begun : {S : Type 0} (left : S → Option (List ℕ)) (old new : S) (n : ℕ) → new ≡ old → ReadsUpTo (65536 * n) (left old) (left new)
upto_begun left old new n same = subst (λ d. ReadsUpTo (65536 * n) (left old) (left d)) (sym same) (upto_same (left old) (left old) (left old) 0 (65536 * n) (upto_none (left old)) (consumes_none (left old)) (omega arith))

-- a piece more
pub upto_piece : (a b c : Option (List ℕ)) (turn turns n : ℕ) (piece : List ℕ) → ReadsUpTo (65536 * turn) a b → IsPiece b c piece (Some n) → length piece ≡ 65536 → turn + 1 ≤ turns → ReadsUpTo (65536 * turns) a c
upto_piece a b c turn turns n piece f g e l = (
  f.0 ++ take n piece,
  consumes_then a b c f.0 (take n piece) f.1 g.1,
  (let both : length (f.0 ++ take n piece) ≡ length f.0 + length (take n piece) = length-append f.0 (take n piece) in
      let part : length (take n piece) ≡ n = length-take-le n piece g.0 in
      let most : n ≤ length piece = g.0 in
      let before : length f.0 ≤ 65536 * turn = f.2 in omega arith),
)

-- of nothing, more is wanted
pub wants_start : WantsMore []
unfolding refusals
wants_start = refl

-- a read of no byte
pub reads_end : (a b c : Option (List ℕ)) (waits piece : List ℕ) (n : ℕ) (p q : List Frame) → Reads a b waits p q → IsPiece b c piece (Some n) → n ≡ 0 → Reads a c waits p q
reads_end a b c waits piece n p q f g z = reads_same a b c waits p q f (subst (λ k. Consumes b c (take k piece)) z g.1)

pub reads_piece : (a b c : Option (List ℕ)) (waits piece rest : List ℕ) (n : ℕ) (p q r : List Frame) → Reads a b waits p q → IsPiece b c piece (Some n) → Cuts (waits ++ take n piece) rest q r → Reads a c rest p r
reads_piece a b c waits piece rest n p q r f g h = reads_more a b c waits (take n piece) rest p q r f g.1 h

-- the last frame was put
pub whole_end : (a c : Option (List ℕ)) (rest : List ℕ) (p q put : List Frame) (f : Frame) (r : Result (Unit {0}) EngineFault) → Reads a c rest p q → Ends c rest (f ∷ []) → OnOk r (put ≡ q ++ f ∷ []) → OnOk r (IsWhole a c p put)
whole_end a c rest p q put f (Ok u) reads ends ok = record { rest = rest; packets = q; last = f ∷ []; reads = reads; ends = ends; put_last = ok }
whole_end a c rest p q put f (Err e) reads ends ok = tt

-- it wasn't
pub part_end : (a c : Option (List ℕ)) (rest : List ℕ) (p q put : List Frame) (r : Result (Unit {0}) EngineFault) → Reads a c rest p q → IfErr r (λ e. (e ≡ Closed) × (put ≡ q)) → OnErr r (IsPart a c p put)
part_end a c rest p q put (Ok u) reads closed = tt
part_end a c rest p q put (Err e) reads closed = (rest, subst (λ l. Reads a c rest p l) (sym closed.1) reads)

pub cut_ends : (c : Option (List ℕ)) (rest : List ℕ) → IsAtEnd c → WantsMore rest → Ends c rest (frame.Cut ∷ [])
cut_ends c rest e w = inl (e, w, refl)

pub fault_ends : (c : Option (List ℕ)) (rest : List ℕ) (f : PacketFault) → f ≢ packet.More → first_of (refusals rest) ≡ Some f → Ends c rest (frame.Fault f ∷ [])
fault_ends c rest f n e = inr (f, n, e, refl)

pub taken_front : (bytes : List ℕ) (n : ℕ) (waits rest : List ℕ) (p q : List Frame) (seen : List ℕ) → seen ≡ take n bytes → Cuts (waits ++ seen) rest p q → Cuts (waits ++ take n bytes) rest p q
taken_front bytes n waits rest p q seen e c = subst (λ l. Cuts (waits ++ l) rest p q) e c
