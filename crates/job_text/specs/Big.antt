-- The job of `big TRANSFERS`: a fund of accounts, so many transfers between them in batches, and a tally.
use Rattle.std.specs.Prelude.{◌≡◌, ℕ, ◌+◌, ◌-◌, ◌*◌, ◌/◌, ◌%◌, ◌==◌, min, if◌then◌else◌, List, [], ◌∷◌, ◌++◌, map, codes, Ok}
use Rattle.job_text.specs.Below.{Begin, Event, flat_map, range_with_len, Turn}
use Rattle.job_text.specs.declared.job.Job.{Job}
use Rattle.job_text.specs.Grammar.{content_of, job_of}

-- the text of its frames and programs, with no event: `fund` fills accounts, `move` transfers between two, and `tally` prints their sum
abbrev pub big_sources : List ℕ
big_sources = codes "frames 3\nprogram fund\n.window 1, 1, rw\ncau r6, r0, 0x1000\nloop: st r2, 0(r6)\nai r6, r6, 32\nsis r3, 1\njnb eq, loop\nsvc 0\nend\nprogram move\n.window 1, 1, rw\ncau r6, r0, 0x1000\ncas r7, r6, r2\ncas r8, r6, r3\nl r9, 0(r7)\ns r9, r4\njb lt, no\nst r9, 0(r7)\nl r9, 0(r8)\na r9, r4\nst r9, 0(r8)\nsvc 0\nno: svc 2\nend\nprogram tally\n.window 1, 1, r\ncau r6, r0, 0x1000\nloop: l r7, 0(r6)\na r4, r7\nai r6, r6, 32\nsis r3, 1\njnb eq, loop\ncas r2, r4, r0\nsri16 r2, 8\nsvc 1\ncas r2, r4, r0\nsri16 r2, 0\nsvc 1\ncas r2, r4, r0\nsri r2, 8\nsvc 1\ncas r2, r4, r0\nsvc 1\nsvc 0\nend\nschedule\nend\n"

-- the account that the first of a pair of transfers takes from
abbrev pub account_of : (pair : ℕ) → ℕ
account_of pair = (29 * pair) % 256

-- the account that it gives to
abbrev pub other_of : (pair : ℕ) → ℕ
other_of pair = (account_of pair + 100 + pair) % 256

-- a begin of `move` between two accounts, by their places 32 bytes apart
abbrev pub move_of : (giver taker amount : ℕ) → Event
move_of giver taker amount = Begin 1 (32 * giver ∷ 32 * taker ∷ amount ∷ 0 ∷ [])

-- the begin of a transfer; two that follow one another go to and fro between the same accounts
abbrev pub transfer : (k : ℕ) → Event
transfer k =
    if k % 2 == 0
    then move_of (account_of (k / 2)) (other_of (k / 2)) (1 + k % 9)
    else move_of (other_of (k / 2)) (account_of (k / 2)) (1 + k % 9)

-- a turn with a limit for each of so many transfers from one on, whose activations come behind that of `fund`
abbrev pub turns_of : (limit first count : ℕ) → List Event
turns_of limit first count = map (λ k. Turn (k + 2) limit) (range_with_len first count)

-- a batch of so many transfers from one on: their begins, a turn of seven rows each, and then as many rounds of turns to the end
abbrev pub batch : (first count : ℕ) → List Event
batch first count =
    map transfer (range_with_len first count) ++ turns_of 7 first count
    ++ flat_map (λ round. turns_of 50 first count) (range_with_len 0 count)

-- the transfers below a number, in batches of sixteen, of which the last may be smaller
abbrev pub batches : ℕ → List Event
batches n = flat_map (λ i. batch (16 * i) (min 16 (n - 16 * i))) (range_with_len 0 ((n + 15) / 16))

-- the events: the fund of 1,000 in each of 256 accounts, the transfers, and the tally
abbrev pub big_events : ℕ → List Event
big_events n =
    Begin 0 (1000 ∷ 256 ∷ 0 ∷ 0 ∷ []) ∷ Turn 1 1000000
    ∷ (batches n ++ Begin 2 (0 ∷ 256 ∷ 0 ∷ 0 ∷ []) ∷ Turn (n + 2) 1000000 ∷ [])

-- a job is that of `big TRANSFERS`: its frames and programs are those of the sources, and these are its events
pub record IsBigJob (n : ℕ) (job : Job) : Type 0 where
  pub sources : job_of big_sources ≡ Ok (record (content_of job) { events = [] })
  pub events : job.events.items ≡ big_events n
