-- Chains through the frames: each frame in use is in the chain of its hash.
use Rattle.std.specs.Prelude.{◌≡◌, ℕ, zero, suc, ◌%◌, ◌<◌, ◌==◌, if◌then◌else◌, false, List, [], ◌∷◌, length, slice_index_or, Option, Some, None, bit_xor}
use Rattle.std.specs.Int.{IsPowerOfTwo}
use Rattle.std.specs.Option.{option_map_or}
use Rattle.lines.specs.Sets.{has, distinct}
use Rattle.page_table.specs.declared.key.Key.{Key}
use Rattle.page_table.specs.Placed.{key_in}

-- the hash of a page, below the number of anchors
abbrev pub hash_of : (anchors : ℕ) → Key → ℕ
hash_of anchors key = bit_xor key.segment key.page % anchors

-- the frame after another
abbrev pub following : List (Option ℕ) → ℕ → Option ℕ
following next frame = slice_index_or next frame None

-- the frames along a chain from a place on, at most so many
abbrev pub chain_from : List (Option ℕ) → (count : ℕ) → Option ℕ → List ℕ
chain_from next zero at = []
chain_from next (suc count) None = []
chain_from next (suc count) (Some frame) = frame ∷ chain_from next count (following next frame)

-- where a chain has come to after so many frames
abbrev pub chain_end : List (Option ℕ) → (count : ℕ) → Option ℕ → Option ℕ
chain_end next zero at = at
chain_end next (suc count) None = None
chain_end next (suc count) (Some frame) = chain_end next count (following next frame)

-- the frames along a chain from a place on, to its end
abbrev pub whole_chain : List (Option ℕ) → Option ℕ → List ℕ
whole_chain next at = chain_from next (length next) at

-- the chain of a hash, from its anchor
abbrev pub chain_of : (anchors next : List (Option ℕ)) → (hash : ℕ) → List ℕ
chain_of anchors next hash = whole_chain next (following anchors hash)

-- the number in front of another in a list
abbrev pub before_in : List ℕ → ℕ → Option ℕ
before_in [] frame = None
before_in (x ∷ []) frame = None
before_in (x ∷ y ∷ rest) frame = if y == frame then Some x else before_in (y ∷ rest) frame

-- a chain ends, has no frame twice, and has just the frames that hold a page with its hash
pub record IsChain (anchors next : List (Option ℕ)) (keys : List (Option Key)) (hash : ℕ) : Type 0 where
  pub ends : chain_end next (length next) (following anchors hash) ≡ None
  pub apart : distinct (chain_of anchors next hash) ≡ chain_of anchors next hash
  pub has_its : (frame : ℕ) → has (chain_of anchors next hash) frame ≡ option_map_or (λ key. hash_of (length anchors) key == hash) (key_in keys frame) false

-- anchors, chains and what the frames hold agree, the number of anchors is a power of two, and no page is in two frames
pub record IsChained (anchors next : List (Option ℕ)) (keys : List (Option Key)) : Type 0 where
  pub power : IsPowerOfTwo (length anchors)
  pub sized : length next ≡ length keys
  pub chains : (hash : ℕ) → hash < length anchors → IsChain anchors next keys hash
  pub once : (frame other : ℕ) (key : Key) → key_in keys frame ≡ Some key → key_in keys other ≡ Some key → frame ≡ other
