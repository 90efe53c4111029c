-- Pages that are fetched: which words of the event matter, how many are counted, and that at most two are there afterwards.
use Rattle.desk_law.proofs.Common.{◌≡◌, ℕ, ◌+◌, ◌≤◌, List, [], ◌∷◌, length, arith, brought, DiskWord, Fine, Fetched, fetches, Reads, nat_tests}

-- what a fetch counts lies between what was counted and one more for each page
pub fetched-few : (word : DiskWord) (frames : ℕ) (kept pages resident new : List ℕ) (counted count : ℕ) → fetches word frames kept pages resident counted ≡ Fetched new count
    → (counted ≤ count) × (count ≤ counted + length pages)
fetched-few word frames kept [] resident new counted count is = grind (arith, nat_tests)
fetched-few word frames kept (page ∷ pages) resident new counted count is = grind (arith, nat_tests, fetched-few word frames kept pages resident new counted count, fetched-few word frames kept pages (brought frames kept resident page) new (counted + 1) count)

-- Every word by which the pages counted so far can be read fetches the same.
pub fetched-for : (word : DiskWord) (frames : ℕ) (kept pages resident new : List ℕ) (counted count : ℕ) → fetches Fine frames kept pages resident counted ≡ Fetched new count
    → Reads word count → fetches word frames kept pages resident counted ≡ Fetched new count
fetched-for word frames kept [] resident new counted count is reads = is
fetched-for word frames kept (page ∷ pages) resident new counted count is reads =
    grind (arith, nat_tests, fetched-few, fetched-for word frames kept pages resident new counted count, fetched-for word frames kept pages (brought frames kept resident page) new (counted + 1) count)
