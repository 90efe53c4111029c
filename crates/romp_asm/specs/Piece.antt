-- The bytes of a statement, before they are laid.
use Rattle.std.specs.Prelude.{◌≡◌, ℕ, List, replicate, Result, Ok, Err, length, IfOk}
use Rattle.romp_asm.specs.declared.encoding.Piece.{Piece}
use Rattle.romp_asm.specs.declared.encoding.Piece.TheVariants.{Bytes, Zeros}
use Rattle.romp_asm.specs.declared.value.Scope.{Scope}
use Rattle.romp_asm.specs.Below.{Body}
use Rattle.romp_asm.specs.Encoding.{encoding_of}
use Rattle.romp_asm.specs.Labels.{addresses_in}

-- the bytes of a piece
abbrev pub piece_bytes : Piece → List ℕ
piece_bytes (Bytes bytes) = bytes.items
piece_bytes (Zeros count) = replicate count 0

-- a piece has the bytes that a reading gives, and a fault is its kind
abbrev pub IsReading : Result Piece ℕ → Result (List ℕ) ℕ → Type 0
IsReading (Ok piece) reading = reading ≡ Ok (piece_bytes piece)
IsReading (Err kind) reading = reading ≡ Err kind

-- a piece of so many bytes is the encoding of a statement at an address, or there is its fault
pub record IsPieceOf (scope : Scope) (at : ℕ) (body : Body) (count : ℕ) (result : Result Piece ℕ) : Type 0 where
  pub value : IsReading result (encoding_of (addresses_in scope) at body)
  pub size : IfOk result (λ piece. length (piece_bytes piece) ≡ count)
