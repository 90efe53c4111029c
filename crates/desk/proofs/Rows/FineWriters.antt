-- Two writers of different lines of a fine page: neither waits.
use Rattle.desk.proofs.Common.{range_with_len, lit≤, row_numbered, FlatStore, Four, Program, Begin, Turn, opened, Fine, fine_grant_by, instruction, turns, report, run, ◌≡◌, refl, true, false, [], ◌∷◌, ◌++◌, codes, replicate, slice_range}
use Rattle.hex.specs.Hex.{encode_with}
use Rattle.std.specs.Fmt.{digits}
use Rattle.desk.proofs.Rows.Programs.{program, text, args, add_code}

-- a store of one fine segment with two pages of 4,096 bytes
abbrev fine_store : FlatStore
fine_store = record { directory = record { page = Four; segments = (1, 2) ∷ []; fine = 1 }; bytes = replicate 8192 0 }

-- stores its argument in the second line of 256 bytes
abbrev far1_code : Program
far1_code = program 1 true (216 ∷ 96 ∷ 16 ∷ 0 ∷ 221 ∷ 38 ∷ 1 ∷ 0 ∷ 192 ∷ 0 ∷ 0 ∷ 0 ∷ []) (lit≤ tt)

as_printed :
    report (codes "far1" ∷ codes "add" ∷ []) (far1_code ∷ add_code ∷ []) 0 ((Begin 0 (args (9 ∷ [])), Fine) ∷ (Begin 1 (args (5 ∷ [])), Fine) ∷ (Turn 1 2, Fine) ∷ (Turn 2 9, Fine) ∷ (Turn 1 9, Fine) ∷ []) [] (opened 2 16 15 fine_store)
    ≡ text (codes "open 0" ∷ codes "begin 1 far1" ∷ codes "begin 2 add" ∷ codes "turn 1 ran 2 page 1 lock 1" ∷ codes "turn 2 ran 5 page 0 lock 2" ∷ codes "commit 2 number 1 steps 5 out -" ∷ codes "turn 1 ran 1 page 0 lock 0" ∷ codes "commit 1 number 2 steps 3 out -" ∷ codes "end 2" ∷ [])
unfolding digits encode_with row_numbered instruction turns
as_printed = refl

-- stores its argument at the beginning and 128 bytes on, so many times in all
abbrev fill_code : Program
fill_code = program 1 true (216 ∷ 96 ∷ 16 ∷ 0 ∷ 221 ∷ 38 ∷ 0 ∷ 0 ∷ 193 ∷ 102 ∷ 0 ∷ 128 ∷ 146 ∷ 33 ∷ 2 ∷ 251 ∷ 192 ∷ 0 ∷ 0 ∷ 0 ∷ []) (lit≤ tt)

-- each store asks for its page anew
each_store_asks :
    report (codes "fill" ∷ []) (fill_code ∷ []) 0 ((Begin 0 (args (3 ∷ [])), Fine) ∷ (Turn 1 999, Fine) ∷ []) [] (opened 2 16 31 fine_store)
    ≡ text (codes "open 0" ∷ codes "begin 1 fill" ∷ codes "turn 1 ran 14 page 1 lock 3" ∷ codes "commit 1 number 1 steps 14 out -" ∷ codes "end 1" ∷ [])
unfolding digits encode_with row_numbered instruction turns
each_store_asks = refl

-- but where all sixteen lines are held
all_held : fine_grant_by 7 false (range_with_len 16 16) (20 ∷ []) ≡ record { owner = 7; write = true; lines = 20 ∷ [] }
all_held = refl

not_all_held : fine_grant_by 7 false (range_with_len 16 15) (20 ∷ []) ≡ record { owner = 7; write = false; lines = range_with_len 16 15 }
not_all_held = refl

row_stores : fine_grant_by 7 true (20 ∷ []) (20 ∷ []) ≡ record { owner = 7; write = true; lines = 20 ∷ [] }
row_stores = refl

-- stores its argument at the beginning, and fails
abbrev fails_code : Program
fails_code = program 1 true (216 ∷ 96 ∷ 16 ∷ 0 ∷ 221 ∷ 38 ∷ 0 ∷ 0 ∷ 192 ∷ 0 ∷ 0 ∷ 2 ∷ []) (lit≤ tt)

-- a rollback takes the page out, and gives back its own line alone: the other's is committed then, and the adder finds zero
other_stays :
    report (codes "far1" ∷ codes "fails" ∷ codes "add" ∷ []) (far1_code ∷ fails_code ∷ add_code ∷ []) 0 ((Begin 0 (args (9 ∷ [])), Fine) ∷ (Begin 1 (args (5 ∷ [])), Fine) ∷ (Turn 1 2, Fine) ∷ (Turn 2 9, Fine) ∷ (Turn 1 9, Fine) ∷ (Begin 2 (args (3 ∷ [])), Fine) ∷ (Turn 3 9, Fine) ∷ []) [] (opened 2 16 15 fine_store)
    ≡ text (codes "open 0" ∷ codes "begin 1 far1" ∷ codes "begin 2 fails" ∷ codes "turn 1 ran 2 page 1 lock 1" ∷ codes "turn 2 ran 2 page 0 lock 1" ∷ codes "check 2 code 8 at 00000008" ∷ codes "turn 1 ran 1 page 0 lock 0" ∷ codes "commit 1 number 1 steps 3 out -" ∷ codes "begin 3 add" ∷ codes "turn 3 ran 5 page 1 lock 2" ∷ codes "commit 3 number 2 steps 5 out -" ∷ codes "end 2" ∷ [])
unfolding digits encode_with row_numbered instruction turns
other_stays = refl

bytes_then :
    slice_range (run (far1_code ∷ fails_code ∷ add_code ∷ []) ((Begin 0 (args (9 ∷ [])), Fine) ∷ (Begin 1 (args (5 ∷ [])), Fine) ∷ (Turn 1 2, Fine) ∷ (Turn 2 9, Fine) ∷ (Turn 1 9, Fine) ∷ (Begin 2 (args (3 ∷ [])), Fine) ∷ (Turn 3 9, Fine) ∷ []) (opened 2 16 15 fine_store)).committed.bytes 3 260
    ≡ 3 ∷ (replicate 255 0 ++ 9 ∷ [])
unfolding row_numbered instruction turns
bytes_then = refl
