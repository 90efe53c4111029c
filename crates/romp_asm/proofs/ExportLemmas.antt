-- Exports, source by source and line by line.
use Rattle.romp_asm.proofs.Common.{◌≡◌, ℕ, ◌+◌, ◌<◌, ◌≤◌, Bool, true, false, is_some, cond, List, [], ◌∷◌, ◌++◌, length, take, drop, get_or, Option, Some, None, Result, Ok, refl, sym, ap, ◌∙◌, arith, append_assoc, append-nil, add-one, ◌||◌, if◌then◌else◌, flat_map, position_from, AllByRecursion, option_map, option_or, bytes_eq, take_more, take_all, drop_all, Statement, found_in, defines, joined, AreExports, export_told, exported, exporter, export, export_kind, fault_among, fault_behind, gives, linked, with_exports, Exports, fun_ext, drop-cons, bytes_eq-Decides, Parts, assembled, is_labelled, nat_tests}
use Rattle.std.proofs.lemmas.List.Folds.{list_any-append}
use Rattle.romp_asm.proofs.SourcesLemmas.{assembled-alone}

or_none : {A : Type 0} (a : Option A) → option_or a None ≡ a
or_none a = grind (arith, nat_tests)

-- the lines of sources, one behind the other
abbrev pub flat : List (List Statement) → List Statement
flat sources = flat_map (λ source. source) sources

-- the source that exports a label, with one source more
position-push : (test : List Statement → Bool) (n m : ℕ) (sources : List (List Statement)) (source : List Statement)
    → m ≡ n + length sources
    → position_from test n (sources ++ source ∷ []) ≡ option_or (position_from test n sources) (if test source then Some m else None)
position-push test n m [] source is = grind (arith, nat_tests)
position-push test n m (x ∷ sources) source is = grind (arith, nat_tests, position-push test (n + 1) m sources source (omega arith))

exporter-push : (sources : List (List Statement)) (source : List Statement) (word : List ℕ)
    → exporter (sources ++ source ∷ []) word ≡ option_or (exporter sources word) (if export source word then Some (length sources) else None)
exporter-push sources source word = position-push (λ those. export those word) 0 (length sources) sources source (omega arith)

-- a label is exported by a line where it is by a source
exporter-some : (n : ℕ) (sources : List (List Statement)) (word : List ℕ) → is_some (position_from (λ those. export those word) n sources) ≡ export (flat sources) word
exporter-some n [] word = refl
exporter-some n (source ∷ sources) word = grind (arith, nat_tests, list_any-append, exporter-some (n + 1) sources word)

-- the first fault, with one source more
fault-push : (front : List Statement) (sources : List (List Statement)) (source : List Statement) → fault_behind front (sources ++ source ∷ []) ≡ option_or (fault_behind front sources) (fault_among source (front ++ flat sources) source)
unfolding fault_behind
fault-push front [] source = rw (or_none, append-nil) refl
fault-push front (x ∷ sources) source = grind (arith, nat_tests, front, append_assoc, fault-push (front ++ x) sources source)

-- the fault of an export by a line, by whether its source has the label and an earlier line exports it
abbrev pub told_by : ℕ → Bool → Bool → Option (ℕ × ℕ)
told_by line known again = if known then (if again then Some (line, 16) else None) else Some (line, 15)

-- what is kept of exports behind sources and so many lines of one more
pub record AreSoFar (exports : Exports) (sources : List (List Statement)) (source : List Statement) (i : ℕ) : Type 0 where
  pub givers : (word : List ℕ) → found_in exports.givers word ≡ option_or (exporter sources word) (if export (take i source) word then Some (length sources) else None)
  pub fault : option_or (export_told exports.fault) (fault_among source (flat sources ++ take i source) (drop i source)) ≡ option_or (fault_behind [] sources) (fault_among source (flat sources) source)

module _ (sources : List (List Statement)) (source : List Statement) where
  pub so_far_start : (exports : Exports) → AreExports exports sources → AreSoFar exports sources source 0
  so_far_start exports are =
      record { givers = λ word. are.givers word ∙ sym (or_none (exporter sources word)); fault = rw (append-nil, are.fault) refl }

  pub so_far_all : (exports : Exports) (i : ℕ) → length source ≤ i → AreSoFar exports sources source i → AreExports exports (sources ++ source ∷ [])
  unfolding fault_among
  so_far_all exports i past are =
      let all = take_all i source past in
      record {
        givers = λ word. rw all at (are.givers word) ∙ sym (exporter-push sources source word);
        fault = sym (or_none (export_told exports.fault)) ∙ rw (drop_all i source past) at are.fault
            ∙ sym (fault-push [] sources source);
      }

  module _ (i : ℕ) (one : Statement) (within : i < length source) (here : one ≡ get_or source i one) where
    front : take (i + 1) source ≡ take i source ++ one ∷ []
    front = take_more source i one within ∙ ap (λ (that : Statement). take i source ++ that ∷ []) (sym here)

    behind : drop i source ≡ one ∷ drop (i + 1) source
    behind = rw (drop-cons source i one, ← here, add-one) refl

    abbrev fault_here : Option (ℕ × ℕ)
    fault_here = option_map (λ kind. (one.line, kind)) (export_kind source (flat sources ++ take i source) one.body)

    abbrev later : Option (ℕ × ℕ)
    later = fault_among source (flat sources ++ take (i + 1) source) (drop (i + 1) source)

    fault-on : fault_among source (flat sources ++ take i source) (drop i source) ≡ option_or fault_here later
    unfolding fault_among
    fault-on = rw (behind, front, append_assoc) refl

    export-on : (word : List ℕ) → export (take (i + 1) source) word ≡ (export (take i source) word || gives word one.body)
    export-on word = rw (front, list_any-append) (grind (arith, nat_tests))

    -- a line that exports nothing
    pub so_far_other : (exports : Exports) → exported one.body ≡ None → AreSoFar exports sources source i → AreSoFar exports sources source (i + 1)
    so_far_other exports none are = record {
      givers = λ word. grind (arith, nat_tests, are.givers word, export-on word, none);
      fault = grind (arith, nat_tests, are.fault, fault-on, none);
    }

    -- a line that exports a label
    module _ (label : List ℕ) (says : exported one.body ≡ Some label) (old new : Exports) (are : AreSoFar old sources source i)
        (givers_more : (word : List ℕ) → found_in new.givers word ≡ option_or (found_in old.givers word) (if bytes_eq label word then Some (length sources) else None)) where
      named_before : is_some (found_in old.givers label) ≡ export (flat sources ++ take i source) label
      named_before =
          grind (arith, nat_tests, are.givers label, exporter-some 0 sources label, list_any-append (λ (statement : Statement). gives label statement.body) (flat sources) (take i source))

      givers_on : (word : List ℕ) → found_in new.givers word ≡ option_or (exporter sources word) (if export (take (i + 1) source) word then Some (length sources) else None)
      givers_on word = grind (arith, nat_tests, givers_more word, are.givers word, export-on word, says)

      pub so_far_export : (known : Bool) → known ≡ defines source label
          → export_told new.fault ≡ option_or (export_told old.fault) (told_by one.line known (is_some (found_in old.givers label)))
          → AreSoFar new sources source (i + 1)
      so_far_export known is fault =
          record { givers = givers_on; fault = grind (arith, nat_tests, fault, is, named_before, says, fault-on, are.fault) }

-- a label is given where it wasn't before
pub given_more : (before : List ℕ → Option ℕ) (label word : List ℕ) (source : ℕ) → is_some (before label) ≡ false → cond (bytes_eq label word) (Some source) (before word) ≡ option_or (before word) (if bytes_eq label word then Some source else None)
given_more before label word source none = grind (arith, nat_tests, bytes_eq-Decides, before, none)

-- the labels of one statement more
pub labels_on : (source : List Statement) (i : ℕ) (one : Statement) (word : List ℕ) → i < length source → one ≡ get_or source i one → defines (take (i + 1) source) word ≡ (defines (take i source) word || is_labelled word one)
labels_on source i one word within here = rw (take_more source i one within, ← here, list_any-append) (grind (arith, nat_tests))

pub label_more : {V : Type 0} (found : Option V) (value : V) (here before : Bool) → is_some found ≡ before → is_some (cond here (Some value) found) ≡ (before || here)
label_more found value here before is = grind (arith, nat_tests)

pub label_none : (before : Bool) → before ≡ (before || false)
label_none true = refl
label_none false = refl

-- lines that export nothing
pub export_none : (statements : List Statement) (word : List ℕ) → AllByRecursion (λ statement. exported statement.body ≡ None) statements → export statements word ≡ false
export_none [] word none = refl
export_none (one ∷ statements) word none = grind (arith, nat_tests, none.0, export_none statements word none.1)

fault_none : (source done statements : List Statement) → AllByRecursion (λ statement. exported statement.body ≡ None) statements → fault_among source done statements ≡ None
unfolding fault_among
fault_none source done [] none = refl
fault_none source done (one ∷ statements) none = grind (arith, nat_tests, none.0, fault_none source (done ++ one ∷ []) statements none.1)

-- a source more that exports nothing
pub exports_other : (exports : Exports) (sources : List (List Statement)) (source : List Statement) → AllByRecursion (λ statement. exported statement.body ≡ None) source → AreExports exports sources → AreExports exports (sources ++ source ∷ [])
exports_other exports sources source none are = record {
  givers = λ word.
      grind (arith, nat_tests, are.givers word, exporter-push sources source word, export_none source word none);
  fault =
      grind (arith, nat_tests, are.fault, fault-push [] sources source, fault_none source (flat sources) source none);
}

-- one source that exports nothing
pub linked_alone : (statements : List Statement) → AllByRecursion (λ statement. exported statement.body ≡ None) statements → linked (statements ∷ []) ≡ assembled statements
unfolding fault_behind
linked_alone statements none =
    let nobody : exporter (statements ∷ []) ≡ (λ (word : List ℕ). None) = fun_ext (λ word. ap (λ (test : Bool). cond test (Some 0) None) (export_none statements word none)) in
    rw (fault_none statements [] statements none, nobody) (assembled-alone statements)

-- one line more that exports nothing
pub none_more : (source : List Statement) (i : ℕ) (one : Statement) → i < length source → one ≡ get_or source i one → exported one.body ≡ None → AllByRecursion (λ statement. exported statement.body ≡ None) (take i source)
    → AllByRecursion (λ statement. exported statement.body ≡ None) (take (i + 1) source)
none_more source i one within here none are = rw (take_more source i one within, ← here) (both (take i source) are)
  where
    both : (xs : List Statement) → AllByRecursion (λ statement. exported statement.body ≡ None) xs → AllByRecursion (λ statement. exported statement.body ≡ None) (xs ++ one ∷ [])
    both [] are = (none, tt)
    both (x ∷ xs) are = (are.0, both xs are.1)

-- an answer on exports with sources up to one
pub exports_to : (exports : Exports) (sources : List (List Statement)) (i : ℕ) (source : List Statement) → i < length sources → source ≡ get_or sources i source → AreExports exports (take i sources ++ source ∷ []) → AreExports exports (take (i + 1) sources)
exports_to exports sources i source within here are = rw (take_more sources i source within, ← here) are

pub unsaid : {A B : Type 0} (f : A → B) (found : Option A) (label : Option B) → option_map f found ≡ label → is_some found ≡ false → label ≡ None
unsaid f found label is none = grind (arith, nat_tests)

-- the program that sources make is what they make end to end
pub linked_made : (sources : List (List Statement)) (parts : Parts) → linked sources ≡ Ok parts → assembled (joined (exporter sources) sources) ≡ Ok parts
linked_made sources parts is = by (fault_behind [] sources) (assembled (joined (exporter sources) sources)) is
  where
    by : (fault : Option (ℕ × ℕ)) (made : Result Parts (ℕ × ℕ)) → with_exports fault made ≡ Ok parts → made ≡ Ok parts
    by fault made is = grind (arith, nat_tests)
