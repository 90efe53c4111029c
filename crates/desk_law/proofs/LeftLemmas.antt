-- What a crash leaves of a run, from what it leaves of its parts.
use Rattle.desk_law.proofs.Common.{◌≡◌, ℕ, ◌+◌, ◌≤◌, List, [], ◌∷◌, ◌++◌, length, map, take, min, refl, sym, ap, ◌∙◌, arith, append-nil, append_assoc, length-append, ⊎_elim, false, not, take-append-le, take_min, map-append, Program, stands, Event, Desk, DiskWord, Fine, Step, run, step, OpenBeforeEach, commits_seen, standing_of, fine_step, IsEitherOf, IsLeft, IsStage, take-append-add}
use Rattle.desk_law.proofs.SeenLemmas.{seen_cut}
use Rattle.desk_law.proofs.StepLemmas.{Stepped, step_by}
use Rattle.desk_law.proofs.RunLemmas.{run_on, open_on}

-- the first bytes of more bytes
cut_more : (count : ℕ) (one two : List ℕ) → take (min count (length one)) (one ++ two) ≡ take count one
cut_more count one two = take-append-le (min count (length one)) one two (omega arith) ∙ take_min count one

abbrev events_of : List (Event × DiskWord) → List Event
events_of taken = map (λ (each : Event × DiskWord). each.0) taken

module _ (programs : List Program) (number : ℕ) where
  -- nothing was run
  abbrev pub stage_none : (desk : Desk) (image : List ℕ) → desk.closed ≡ false → stands image ≡ standing_of number desk → IsStage programs number desk [] image
  stage_none desk image was_open stood = record { stage = []; after = []; is_run = record { prefix = refl; each_open = tt }; still_open = was_open; later = []; order_is = append-nil desk.order; stood = stood }

  -- and what is printed has no commit
  pub left_none : (desk : Desk) (text printed image seen : List ℕ) (count : ℕ) → desk.closed ≡ false → stands image ≡ standing_of number desk → seen ≡ printed ++ take count text → commits_seen text ≡ 0 → IsLeft programs number desk [] text printed image seen
  left_none desk text printed image seen count was_open stood is none = record {
    at = stage_none desk image was_open stood;
    count = count;
    seen_is = is;
    told = let cut = seen_cut count text in omega (arith, cut, none);
    most = omega arith;
  }

  -- a stage of the first part is one of the whole
  abbrev pub stage_more : (start : Desk) (one two : List (Event × DiskWord)) (image : List ℕ) (more : List (ℕ × ℕ)) → (run programs two (run programs one start)).order ≡ (run programs one start).order ++ more
      → IsStage programs number start one image → IsStage programs number start (one ++ two) image
  stage_more start one two image more grows at = record {
    stage = at.stage;
    after = at.after ++ events_of two;
    is_run = record {
      prefix = sym (append_assoc (events_of at.stage) at.after (events_of two)) ∙ ap (λ (front : List Event). front ++ events_of two) at.is_run.prefix ∙ sym (map-append (λ (each : Event × DiskWord). each.0) one two);
      each_open = at.is_run.each_open;
    };
    still_open = at.still_open;
    later = at.later ++ more;
    order_is = sym (append_assoc (run programs at.stage start).order at.later more) ∙ ap (λ (front : List (ℕ × ℕ)). front ++ more) at.order_is ∙ sym grows ∙ ap (λ (desk : Desk). desk.order) (sym (run_on programs one two start));
    stood = at.stood;
  }

  -- and what was left of it is left of the whole
  pub left_more : (start : Desk) (one two : List (Event × DiskWord)) (first second printed image seen : List ℕ) (more : List (ℕ × ℕ)) → (run programs two (run programs one start)).order ≡ (run programs one start).order ++ more
      → IsLeft programs number start one first printed image seen → IsLeft programs number start (one ++ two) (first ++ second) printed image seen
  left_more start one two first second printed image seen more grows left =
      let same = ap commits_seen (cut_more left.count first second) in
      record {
        at = stage_more start one two image more grows left.at;
        count = min left.count (length first);
        seen_is = left.seen_is ∙ ap (λ (these : List ℕ). printed ++ these) (sym (cut_more left.count first second));
        told = omega (arith, same, left.told);
        most = omega (arith, same, left.most);
      }

  -- a stage of the second part is one of the whole
  pub stage_behind : (start : Desk) (one two : List (Event × DiskWord)) (image : List ℕ) → OpenBeforeEach programs one start
      → (at : IsStage programs number (run programs one start) two image) → (whole : IsStage programs number start (one ++ two) image) × (run programs whole.stage start ≡ run programs at.stage (run programs one start))
  stage_behind start one two image each_open at =
      let same : run programs (one ++ at.stage) start ≡ run programs at.stage (run programs one start) = run_on programs one at.stage start in
      let whole : IsStage programs number start (one ++ two) image = record {
        stage = one ++ at.stage;
        after = at.after;
        is_run = record {
          prefix =
              cc (map-append (λ (each : Event × DiskWord). each.0) one at.stage, append_assoc (events_of one) (events_of at.stage) at.after, at.is_run.prefix, map-append (λ (each : Event × DiskWord). each.0) one two);
          each_open = open_on programs one at.stage start each_open at.is_run.each_open;
        };
        still_open = ap (λ (desk : Desk). desk.closed) same ∙ at.still_open;
        later = at.later;
        order_is = ap (λ (desk : Desk). desk.order ++ at.later) same ∙ at.order_is ∙ ap (λ (desk : Desk). desk.order) (sym (run_on programs one two start));
        stood = at.stood ∙ ap (standing_of number) (sym same);
      } in
      (whole, same)

  -- and what was left of it is left of the whole, where each commit of the first part has its line
  pub left_behind : (start : Desk) (one two : List (Event × DiskWord)) (first second printed image seen : List ℕ) → OpenBeforeEach programs one start → length (run programs one start).order ≡ length start.order + commits_seen first
      → ((rest : List ℕ) → commits_seen (first ++ rest) ≡ commits_seen first + commits_seen rest)
      → IsLeft programs number (run programs one start) two second (printed ++ first) image seen → IsLeft programs number start (one ++ two) (first ++ second) printed image seen
  left_behind start one two first second printed image seen each_open each adds left =
      let (at, same) = stage_behind start one two image each_open left.at in
      let long = ap (λ (desk : Desk). length desk.order) same in
      let cut : take (length first + left.count) (first ++ second) ≡ first ++ take left.count second = take-append-add first second left.count in
      let seen_is = ap commits_seen cut ∙ adds (take left.count second) in
      record {
        at = at;
        count = length first + left.count;
        seen_is = left.seen_is ∙ append_assoc printed first (take left.count second) ∙ ap (λ (these : List ℕ). printed ++ these) (sym cut);
        told = omega (arith, long, each, seen_is, left.told);
        most = omega (arith, long, each, seen_is, left.most);
      }

  module _ (event : Event) (word : DiskWord) (names : List (List ℕ)) (old : Desk) (was_open : old.closed ≡ false) (image : List ℕ) where
    abbrev pub went : Step
    went = step programs event word old

    -- a stage with at most one commit
    record IsNear : Type 0 where
      at : IsStage programs number old ((event, word) ∷ []) image
      least : length old.order ≤ length (run programs at.stage old).order
      most : length (run programs at.stage old).order ≤ length old.order + 1

    -- the event had not happened, or it had happened well
    near : IsEitherOf programs number event old went.desk image → IsNear
    near either =
        let steps : Stepped word old.order names went = step_by programs event word names old was_open in
        let fine : Stepped Fine old.order names (step programs event Fine old) = step_by programs event Fine names old was_open in
        ⊎_elim
        (λ stood. record {
          at = record { stage = []; after = event ∷ []; is_run = record { prefix = refl; each_open = tt }; still_open = was_open; later = steps.more; order_is = sym steps.order_is; stood = stood };
          least = omega arith;
          most = omega arith;
        })
        (λ done.
        let grown = ap (λ (order : List (ℕ × ℕ)). length order) fine.order_is ∙ length-append old.order fine.more in
        record {
          at = record {
            stage = (event, Fine) ∷ [];
            after = [];
            is_run = record { prefix = refl; each_open = (ap not was_open, tt) };
            still_open = fine.stays refl;
            later = [];
            order_is = append-nil (fine_step programs event old).order ∙ done.0;
            stood = done.1;
          };
          least = omega (arith, grown);
          most = omega (arith, grown, fine.one);
        })
        either

    pub stage_either : IsEitherOf programs number event old went.desk image → IsStage programs number old ((event, word) ∷ []) image
    stage_either either = (near either).at

    -- a crash while no commit line of it was printed
    pub left_quiet : (text printed seen : List ℕ) (count : ℕ) → IsEitherOf programs number event old went.desk image → seen ≡ printed ++ take count text → commits_seen (take count text) ≡ 0 → IsLeft programs number old ((event, word) ∷ []) text printed image seen
    left_quiet text printed seen count either is none = let it = near either in
        record { at = it.at; count = count; seen_is = is; told = omega (arith, none, it.least); most = omega (arith, none, it.most) }

    -- a crash behind it, while the desk is open
    pub left_open : (text printed seen : List ℕ) (count : ℕ) → went.desk.closed ≡ false → stands image ≡ standing_of number went.desk → seen ≡ printed ++ take count text → length old.order + commits_seen text ≤ length went.desk.order → IsLeft programs number old ((event, word) ∷ []) text printed image seen
    left_open text printed seen count still stood is few =
        let steps : Stepped word old.order names went = step_by programs event word names old was_open in
        record {
          at = record { stage = (event, word) ∷ []; after = []; is_run = record { prefix = refl; each_open = (ap not was_open, tt) }; still_open = still; later = []; order_is = append-nil went.desk.order; stood = stood };
          count = count;
          seen_is = is;
          told = let cut = seen_cut count text in omega (arith, cut, few);
          most = let grown = ap (λ (order : List (ℕ × ℕ)). length order) steps.order_is in omega (arith, grown, length-append old.order steps.more, steps.one);
        }
