-- Frames that were put one behind the other.
use Rattle.std.proofs.Common.{◌≡◌, ◌∙◌, ap, sym, refl, ℕ, ◌+◌, arith, true, false, cond, Err, List, [], ◌∷◌, ◌++◌, map}
use Rattle.std.specs.List.{count_by}
use Rattle.std.proofs.lemmas.List.{append_assoc, append-nil, map-append}
use Rattle.std.proofs.lemmas.List.Sums.{sum_by-append}
use Rattle.spk_ingress.specs.Passes.{frames_put}
use Rattle.spk_ingress.specs.declared.channel.Ingress.{Ingress}
use Rattle.spk_ingress.specs.declared.channel.PutPass.{PutPass}
use Rattle.spk_ingress.specs.declared.frame.Frame.{Frame}
use Rattle.spk_ingress.specs.declared.frame.Frame.TheVariants as frame
use Rattle.spk_plant_edge.specs.declared.fault.EdgeCause.{EdgeCause}
use Rattle.spk_plant_edge.specs.declared.fault.EdgeCause.TheVariants as why
use Rattle.spk_plant_edge.specs.Done.{IsLast, is_closed}
use Rattle.spk_plant_edge.specs.At.{HasPut, PutsOn}
use Rattle.spk_plant_edge.specs.Frames.{cuts_in, ends_put, is_end}
use Rattle.spk_plant_edge.specs.declared.sending.Sender.{Sender}

pub cuts-append : (a b : List Frame) → cuts_in (a ++ b) ≡ cuts_in a + cuts_in b
cuts-append [] b = omega arith
cuts-append (frame.Packet bytes ∷ fs) b = cuts-append fs b
cuts-append (frame.Fault fault ∷ fs) b = cuts-append fs b
cuts-append (frame.Cut ∷ fs) b = let rest : cuts_in (fs ++ b) ≡ cuts_in fs + cuts_in b = cuts-append fs b in omega arith
cuts-append (frame.End ∷ fs) b = cuts-append fs b

pub no-cuts : (bs : List (List ℕ)) → cuts_in (map frame.Packet bs) ≡ 0
no-cuts [] = refl
no-cuts (b ∷ bs) = no-cuts bs

-- an end of the sender more
pub ends-more : (fs : List Frame) → count_by is_end (fs ++ frame.End ∷ []) ≡ count_by is_end fs + 1
ends-more fs =
    let all : count_by is_end (fs ++ frame.End ∷ []) ≡ count_by is_end fs + (0 + 1) = sum_by-append (λ x. cond (is_end x) 1 0) fs (frame.End ∷ []) in omega arith

-- a run that failed, with the taker there: the end was put behind what was put before
pub failed-is : (start q p : PutPass) (e : EdgeCause) → is_closed (Err e) ≡ false → ends_put q ≡ ends_put start → frames_put p ≡ frames_put q ++ frame.End ∷ [] → IsLast e start p
failed-is start q p why.NoMemory still same put =
    ((frames_put q, put), ap (λ (fs : List Frame). count_by is_end fs) put ∙ ends-more (frames_put q) ∙ ap (λ n. n + 1) same)
failed-is start q p (why.Closed gone) still same put = cc

pub puts-then : (n : Ingress) (a b c : PutPass) → PutsOn n a b → PutsOn n b c → PutsOn n a c
puts-then n a b c f g = record { into = g.into; sender = g.sender ∙ f.sender; ends = g.ends ∙ f.ends }

pub put-nothing : (a : Sender) → HasPut a a []
put-nothing a = record { put = sym (append-nil (frames_put a.pass)); cuts = omega arith }

pub put-then : (a b c : Sender) (xs ys : List Frame) → HasPut a b xs → HasPut b c ys → HasPut a c (xs ++ ys)
put-then a b c xs ys f g = record {
  put = g.put ∙ ap (λ l. l ++ ys) f.put ∙ append_assoc (frames_put a.pass) xs ys;
  cuts = (let both : cuts_in (xs ++ ys) ≡ cuts_in xs + cuts_in ys = cuts-append xs ys in
      let first : b.cuts ≡ a.cuts + cuts_in xs = f.cuts in
      let then : c.cuts ≡ b.cuts + cuts_in ys = g.cuts in omega arith);
}

-- a frame that is no end of a connection
pub put-packet : (a b : Sender) (bytes : List ℕ) → frames_put b.pass ≡ frames_put a.pass ++ frame.Packet bytes ∷ [] → b.cuts ≡ a.cuts → HasPut a b (frame.Packet bytes ∷ [])
put-packet a b bytes put same = record { put = put; cuts = omega arith }

pub put-more : (a b c : Sender) (bs : List (List ℕ)) (bytes : List ℕ) → HasPut a b (map frame.Packet bs) → HasPut b c (frame.Packet bytes ∷ []) → HasPut a c (map frame.Packet (bs ++ bytes ∷ []))
put-more a b c bs bytes f g = rw map-append (put-then a b c (map frame.Packet bs) (frame.Packet bytes ∷ []) f g)
