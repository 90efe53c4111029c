use Rattle.store_calls.proofs.Common.{◌≡◌, ℕ, List, [], ◌∷◌, Some, ap, ◌∙◌, sym, arith, find, option_map, nat_tests, bytes_of, is_named, page_bytes}
use Rattle.store_calls.proofs.show.identifier_of.Goals as goal

-- what is found has the number that was looked for
found : (segments : List (ℕ × ℕ)) (number : ℕ) (segment : ℕ × ℕ) → find (is_named number) segments ≡ Some segment → segment.0 ≡ number
found [] number segment is = cc
found (first ∷ segments) number segment is = grind (arith, nat_tests, found segments number segment)

pub returns-in-Some : goal.returns-in-Some
returns-in-Some c = found c.args.directory.now.segments c.args.segment c.in-Some.found (ap (find (is_named c.args.segment)) (sym c.segments.ensures.value) ∙ sym c.segment_in.ensures ∙ c.in-Some.is)

pub returns-in-None : goal.returns-in-None
returns-in-None c = ap (option_map (bytes_of (page_bytes c.args.directory.now.page))) (ap (find (is_named c.args.segment)) (sym c.segments.ensures.value) ∙ sym c.segment_in.ensures ∙ c.in-None.is)
