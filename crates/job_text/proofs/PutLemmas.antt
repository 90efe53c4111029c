-- The programs that were written, one after the other.
use Rattle.job_text.proofs.Common.{◌≡◌, ℕ, zero, suc, ◌<◌, min, List, [], ◌∷◌, ◌++◌, length, map, take, get_or, codes, refl, sym, ap, ◌∙◌, subst, arith, append_assoc, append-nil, All, flat_map, zip, flat_map-append, length-map, take_all, All-append, All-cons, All-nil, length-zip, Token, Word, Content, end_line, event_line, head_lines, token_line, number_line, program_lines, job_written, nat_tests}

-- one pair more
pub pair_more : {A B C D : Type 0} (f : A → C) (g : B → D) (xs : List A) (ys : List B) (n : ℕ) (x : A) (y : B) → n < length xs → n < length ys → ((d : A) → x ≡ get_or xs n d) → ((d : B) → y ≡ get_or ys n d)
    → take (suc n) (zip (map f xs) (map g ys)) ≡ take n (zip (map f xs) (map g ys)) ++ (f x, g y) ∷ []
pair_more f g (first ∷ xs) (other ∷ ys) zero x y in_x in_y is_x is_y = rw (is_x x, is_y y) refl
pair_more f g (first ∷ xs) (other ∷ ys) (suc n) x y in_x in_y is_x is_y =
    ap (λ pairs. (f first, g other) ∷ pairs) (pair_more f g xs ys n x y (omega arith) (omega arith) is_x is_y)
pair_more f g _ _ n x y in_x in_y is_x is_y = absurd (omega arith)

-- all pairs
pub pairs_whole : {A B C D : Type 0} (f : A → C) (g : B → D) (xs : List A) (ys : List B) (n : ℕ) → n ≡ min (length xs) (length ys) → take n (zip (map f xs) (map g ys)) ≡ zip (map f xs) (map g ys)
pairs_whole f g xs ys n is = grind (arith, nat_tests, take_all, is, length-zip, length-map)

-- what holds of the pairs so far and of one more
pub all_more : {X : Type 0} (P : X → Type 0) (pairs : List X) (n m : ℕ) (x : X) → m ≡ suc n → take (suc n) pairs ≡ take n pairs ++ x ∷ [] → All P (take n pairs) → P x → All P (take m pairs)
all_more P pairs n m x is more all one =
    subst (λ (list : List _). All P list) (sym more ∙ ap (λ (k : ℕ). take k pairs) (sym is)) (All-append P (take n pairs) (x ∷ []) all (All-cons P x [] one (All-nil P)))

-- the text of the pairs so far and of one more
pub text_more : {X Y : Type 0} (text : Y → List ℕ) (lines : X → List Y) (pairs : List X) (n m : ℕ) (x : X) (before now next : List ℕ) → m ≡ suc n → take (suc n) pairs ≡ take n pairs ++ x ∷ []
    → now ≡ before ++ flat_map text (flat_map lines (take n pairs)) → next ≡ now ++ flat_map text (lines x) → next ≡ before ++ flat_map text (flat_map lines (take m pairs))
text_more text lines pairs n m x before now next is more so_far put = grind (arith, nat_tests, append_assoc, flat_map-append, append-nil)

regroup : (frames programs schedule events end : List ℕ) → (((frames ++ programs) ++ schedule) ++ events) ++ end ≡ ((frames ++ programs) ++ (schedule ++ events)) ++ (end ++ [])
regroup frames programs schedule events end = simp (append_assoc, append-nil)

-- the text of a job, part by part
pub job_put : (content : Content) (one two three four five : List ℕ) → one ≡ token_line (number_line (codes "frames") content.frames) → two ≡ one ++ flat_map token_line (flat_map program_lines (zip content.names content.programs))
    → three ≡ two ++ token_line (Word (codes "schedule") ∷ []) → four ≡ three ++ flat_map token_line (map (event_line content.names) content.events) → five ≡ four ++ token_line end_line → five ≡ job_written content
job_put content one two three four five put_frames put_programs put_schedule put_events put_end =
    put_end
    ∙ ap (λ text. text ++ token_line end_line)
    (put_events ∙ ap (λ text. text ++ flat_map token_line events) (put_schedule ∙ ap (λ text. text ++ token_line (Word (codes "schedule") ∷ [])) (put_programs ∙ ap (λ text. text ++ flat_map token_line programs) put_frames)))
    ∙ regroup (token_line (number_line (codes "frames") content.frames)) (flat_map token_line programs) (token_line (Word (codes "schedule") ∷ [])) (flat_map token_line events) (token_line end_line)
    ∙ sym
    (flat_map-append token_line (head_lines content.frames content.names content.programs ++ (Word (codes "schedule") ∷ []) ∷ events) (end_line ∷ [])
    ∙ ap (λ text. text ++ (token_line end_line ++ [])) (flat_map-append token_line (head_lines content.frames content.names content.programs) ((Word (codes "schedule") ∷ []) ∷ events)))
  where
    programs : List (List Token)
    programs = flat_map program_lines (zip content.names content.programs)

    events : List (List Token)
    events = map (event_line content.names) content.events
