-- The store that `try` is handed.
use Rattle.std.specs.Prelude.{[], ◌∷◌}
use Rattle.store_calls.specs.Below.{Header, Two}

-- the header of the store: segment 1 with four pages, segment 2 with two, and a bank of 65,536 bytes
abbrev pub try_layout : Header
try_layout = record { directory = record { page = Two; segments = (1, 4) ∷ (2, 2) ∷ []; fine = 0 }; bank_bytes = 65536 }
