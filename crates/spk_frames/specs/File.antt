-- Contents in their frames, one behind the other, and what is read of bytes that may have been cut off or spoiled.
use Rattle.std.specs.Prelude.{◌≡◌, ℕ, ◌≤◌, List, [], ◌∷◌, ◌++◌, length, take}
use Rattle.std.specs.List.{flat_map}
use Rattle.spk_frames.specs.Frame.{IsFramed, framed}

abbrev pub frames_of : List (List ℕ) → List ℕ
frames_of contents = flat_map framed contents

-- each has so many bytes at most
abbrev pub AreSmall : (most : ℕ) → List (List ℕ) → Type 0
AreSmall most [] = Unit {0}
AreSmall most (c ∷ cs) = (length c ≤ most) × AreSmall most cs

-- no frame stands at the front
abbrev pub HasNoFrame : (most : ℕ) → List ℕ → Type 0
HasNoFrame most bytes = (content : List ℕ) → IsFramed most bytes content → ⊥

-- Bytes are the frames of contents, as many as can be, and then a rest.
pub record Holds (most : ℕ) (bytes : List ℕ) (contents : List (List ℕ)) (rest : List ℕ) : Type 0 where
  pub are : bytes ≡ frames_of contents ++ rest
  pub fit : AreSmall most contents
  pub all : HasNoFrame most rest

-- the one list is the beginning of the other
abbrev pub Begins : {X : Type 0} → List X → List X → Type 0
Begins {X} front list = (more : List X) × (list ≡ front ++ more)

-- ---- a walk over them

-- the bytes, how many of them were given as contents, and how many bytes a content may have
pub record Walk : Type 0 where
  pub bytes : List ℕ
  pub whole : ℕ
  pub most : ℕ

-- These contents were given: the bytes in front are their frames.
pub record AreTaken (walk : Walk) (contents : List (List ℕ)) : Type 0 where
  pub are : take walk.whole walk.bytes ≡ frames_of contents
  pub fit : AreSmall walk.most contents
