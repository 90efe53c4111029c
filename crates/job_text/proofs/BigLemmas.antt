-- The events of `big N`, and its sources, as the checker reads them.
use Rattle.job_text.proofs.Common.{flat_map, range_with_len, flat_map-append, All-append, All-cons, All-nil, All-map, Event, Begin, Turn, Job, batch, batches, big_events, move_of, account_of, other_of, transfer, turns_of, IsEventAmong, IsReady, nat_tests, map-id, ◌≡◌, ℕ, List, [], length, refl, ap, ◌∙◌, sym, Option, Some, None, Result, Ok, Err, length-map, tokens_past, image_behind, parts_of, fault_among, fault_behind, Content, content_of, job_of, read_from, big_sources, arith}
use Rattle.std.proofs.Common.{Global, ◌≡◌, ℕ, ◌+◌, ◌-◌, ◌*◌, ◌/◌, ◌%◌, ◌<◌, ◌≤◌, ◌==◌, min, Bool, List, [], ◌∷◌, ◌++◌, length, map, ap, ◌∙◌, sym, subst, arith, append_assoc, append-nil, length-append, if◌then◌else◌, All}
use Rattle.std.proofs.lemmas.List.FromFn.{map-range_with_len_more, length-map-range_with_len, length-range_with_len}
use Rattle.std.specs.declared.vec.Vec.{Vec}
use Rattle.asm_parse.specs.Form.{form_of}
use Rattle.romp_table.specs.Names.{mnemonic, op_named}
use Rattle.romp_table.specs.Rows.{row_of}
use Rattle.romp_asm.specs.Sources.{joined_from}
use Rattle.romp_asm.specs.Value.{address_from}

-- a list with more events behind it, and then one more
pub one_more : (old mid new : List Event) (f : ℕ → Event) (first n k : ℕ) → first + n ≡ k → mid ≡ old ++ map f (range_with_len first n) → new ≡ mid ++ f k ∷ [] → new ≡ old ++ map f (range_with_len first (n + 1))
one_more old mid new f first n k at so_far next = grind (arith, nat_tests, append_assoc, map-range_with_len_more)

range_more : (first n k : ℕ) → first + n ≡ k → range_with_len first (n + 1) ≡ range_with_len first n ++ k ∷ []
range_more first n k at = sym (map-id (range_with_len first (n + 1))) ∙ map-range_with_len_more (λ x. x) first n k at ∙ ap (λ (these : List ℕ). these ++ k ∷ []) (map-id (range_with_len first n))

-- and then several more
pub some_more : (old mid new : List Event) (f : ℕ → List Event) (n : ℕ) → mid ≡ old ++ flat_map f (range_with_len 0 n) → new ≡ mid ++ f n → new ≡ old ++ flat_map f (range_with_len 0 (n + 1))
some_more old mid new f n so_far next =
    cc (next, so_far, append_assoc old (flat_map f (range_with_len 0 n)) (f n), append-nil (f n), range_more 0 n n (omega arith), flat_map-append f (range_with_len 0 n) (n ∷ []))

-- three parts, one after another
pub three_more : (old one two three xs ys zs : List Event) → one ≡ old ++ xs → two ≡ one ++ ys → three ≡ two ++ zs → three ≡ old ++ (xs ++ ys ++ zs)
three_more old one two three xs ys zs first second third =
    third ∙ ap (λ (front : List Event). front ++ zs) (second ∙ ap (λ (front : List Event). front ++ ys) first ∙ append_assoc old xs ys) ∙ append_assoc old (xs ++ ys) zs

-- how many events there are
same_each : (ys : List Event) (xs : List ℕ) → length (flat_map (λ round. ys) xs) ≡ length xs * length ys
same_each ys [] = omega arith
same_each ys (x ∷ xs) = let rest = same_each ys xs in let split = length-append ys (flat_map (λ round. ys) xs) in omega (arith, rest, split)

turns_long : (limit first count : ℕ) → length (turns_of limit first count) ≡ count
turns_long limit first count = length-map-range_with_len (λ k. Turn (k + 2) limit) first count

batch_long : (first count : ℕ) → length (batch first count) ≡ count + count + count * count
batch_long first count =
    let begins : List Event = map transfer (range_with_len first count) in
    let rounds : List Event = flat_map (λ round. turns_of 50 first count) (range_with_len 0 count) in
    let rounds_long : length rounds ≡ count * count = same_each (turns_of 50 first count) (range_with_len 0 count) ∙ ap (λ n. length (range_with_len 0 count) * n) (turns_long 50 first count) ∙ ap (λ n. n * count) (length-range_with_len 0 count) in
    cc (length-append (begins ++ turns_of 7 first count) rounds, length-append begins (turns_of 7 first count), length-map-range_with_len transfer first count, turns_long 7 first count, rounds_long)

small_square : (n : ℕ) → n ≤ 16 → n * n ≤ 256
small_square n small = grind arith

batches_short : (size : ℕ → ℕ) → ((i : ℕ) → size i ≤ 16) → (xs : List ℕ) → length (flat_map (λ i. batch (16 * i) (size i)) xs) ≤ 288 * length xs
batches_short size small [] = omega arith
batches_short size small (x ∷ xs) = grind (arith, batches_short size small xs, length-append (batch (16 * x) (size x)) (flat_map (λ i. batch (16 * i) (size i)) xs), batch_long (16 * x) (size x), small_square (size x) (small x), small x)

few_events : (n : ℕ) → n ≤ 512 → length (big_events n) ≤ 10000
few_events n small = grind (arith, batches_short (λ i. min 16 (n - 16 * i)) (λ i. omega arith) (range_with_len 0 ((n + 15) / 16)), length-range_with_len 0 ((n + 15) / 16), length-append (batches n) (Begin 2 (0 ∷ 256 ∷ 0 ∷ 0 ∷ []) ∷ Turn (n + 2) 1000000 ∷ []))

-- what holds of each begin of one of three programs, and of each turn, holds of each of them
module _ (P : Event → Type 0) (begin : (program : ℕ) (args : List ℕ) → program < 3 → P (Begin program args)) (turn : (activation limit : ℕ) → limit ≤ 1000000 → P (Turn activation limit)) where
  all_flat : (f : ℕ → List Event) → ((i : ℕ) → All P (f i)) → (xs : List ℕ) → All P (flat_map f xs)
  all_flat f each [] = All-nil P
  all_flat f each (x ∷ xs) = All-append P (f x) (flat_map f xs) (each x) (all_flat f each xs)

  each_of : (f : ℕ → Event) → ((i : ℕ) → P (f i)) → (xs : List ℕ) → All P (map f xs)
  each_of f each xs = All-map P f xs (λ k d below. each _)

  moves : (even : Bool) (one other amount : ℕ) → P (if even then move_of one other amount else move_of other one amount)
  moves even one other amount = grind (arith, begin)

  turns_all : (limit : ℕ) → limit ≤ 1000000 → (first count : ℕ) → All P (turns_of limit first count)
  turns_all limit small first count = each_of (λ k. Turn (k + 2) limit) (λ k. turn (k + 2) limit small) (range_with_len first count)

  batch_all : (first count : ℕ) → All P (batch first count)
  batch_all first count =
      All-append P (map transfer (range_with_len first count) ++ turns_of 7 first count) (flat_map (λ round. turns_of 50 first count) (range_with_len 0 count))
      (All-append P (map transfer (range_with_len first count)) (turns_of 7 first count) (each_of transfer (λ k. moves (k % 2 == 0) (account_of (k / 2)) (other_of (k / 2)) (1 + k % 9)) (range_with_len first count)) (turns_all 7 (omega arith) first count))
      (all_flat (λ round. turns_of 50 first count) (λ i. turns_all 50 (omega arith) first count) (range_with_len 0 count))

  pub events_all : (n : ℕ) → All P (big_events n)
  events_all n =
      let tally : List Event = Begin 2 (0 ∷ 256 ∷ 0 ∷ 0 ∷ []) ∷ Turn (n + 2) 1000000 ∷ [] in
      let behind : All P tally = All-cons P (Begin 2 (0 ∷ 256 ∷ 0 ∷ 0 ∷ [])) (Turn (n + 2) 1000000 ∷ []) (begin 2 (0 ∷ 256 ∷ 0 ∷ 0 ∷ []) (omega arith)) (All-cons P (Turn (n + 2) 1000000) [] (turn (n + 2) 1000000 (omega arith)) (All-nil P)) in
      let moved : All P (batches n) = all_flat (λ i. batch (16 * i) (min 16 (n - 16 * i))) (λ i. batch_all (16 * i) (min 16 (n - 16 * i))) (range_with_len 0 ((n + 15) / 16)) in
      All-cons P (Begin 0 (1000 ∷ 256 ∷ 0 ∷ 0 ∷ [])) (Turn 1 1000000 ∷ (batches n ++ tally)) (begin 0 (1000 ∷ 256 ∷ 0 ∷ 0 ∷ []) (omega arith))
      (All-cons P (Turn 1 1000000) (batches n ++ tally) (turn 1 1000000 (omega arith)) (All-append P (batches n) tally moved behind))

-- a job that could be run can be with these events
pub big_ready : (n : ℕ) (job : Job) (events : Vec Event Global) → n ≤ 512 → IsReady job → length job.programs.items ≡ 3 → events.items ≡ big_events n → IsReady (record job { events = events })
big_ready n job events small ready three are = record {
  frames = ready.frames;
  named = ready.named;
  names = ready.names;
  events = grind (arith, events_all (IsEventAmong 3) (λ program args small. small) (λ activation limit small. small) n);
  few = subst (λ (these : List Event). length these ≤ 10000) (sym are) (few_events n small);
}

-- an empty list of events and these are these
pub from_none : (old new these : List Event) → old ≡ [] → new ≡ old ++ these → new ≡ these
from_none old new these none is = is ∙ ap (λ (front : List Event). front ++ these) none

-- how many programs a reading gives, and the events
abbrev told_of : Result Content (ℕ × ℕ) → Option (ℕ × List Event)
told_of (Ok content) = Some (length content.programs, content.events)
told_of (Err fault) = None

-- the sources have no fault
sources_read : told_of (job_of big_sources) ≡ Some (3, [])
unfolding tokens_past form_of mnemonic op_named row_of image_behind joined_from address_from fault_among fault_behind read_from
sources_read = refl

text_read : (text : List ℕ) → text ≡ big_sources → told_of (job_of text) ≡ Some (3, [])
text_read text same = ap (λ (these : List ℕ). told_of (job_of these)) same ∙ sources_read

pub never_faulty : (text : List ℕ) (line kind : ℕ) → text ≡ big_sources → job_of text ≡ Err (line, kind) → ⊥
never_faulty text line kind same is = cc (text_read text same, ap told_of is)

-- a job that they mean has three programs and no event
pub sources_told : (text : List ℕ) (job : Job) → text ≡ big_sources → job_of text ≡ Ok (content_of job) → (length job.programs.items ≡ 3) × (job.events.items ≡ [])
sources_told text job same is = let told = sym (ap told_of is) ∙ text_read text same in grind (arith, length-map job.programs.items parts_of, told)
