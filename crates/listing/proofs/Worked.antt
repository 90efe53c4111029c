-- A listing worked out by hand.
use Rattle.std.specs.Fmt.{digits}
use Rattle.hex.specs.Hex.{encode_with}
use Rattle.listing.proofs.Common.{listing_of, ◌≡◌, refl, true, [], ◌∷◌, codes, replicate, Some, None}

as_printed :
    listing_of (codes "add") (0xD8 ∷ 0x60 ∷ 0x10 ∷ 0 ∷ 0xCD ∷ 0x36 ∷ 0 ∷ 0 ∷ 0xE1 ∷ 0x32 ∷ 0xDD ∷ 0x36 ∷ 0 ∷ 0 ∷ 0xC0 ∷ 0 ∷ 0 ∷ 0 ∷ []) 0
    (Some (record { segment = 1; write = true }) ∷ replicate 14 None)
    ≡ codes "program add bytes 18 entry 00000000\nwindow 1 segment 1 rw\n00000000 d8601000cd360000e132dd360000c000\n00000010 0000\n"
unfolding digits encode_with
as_printed = refl
