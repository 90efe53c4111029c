use Rattle.seats.proofs.Common.{has, nothing, of_page, ◌≡◌, true, false, ℕ, length, take}
use Rattle.seats.proofs.seat_lines.clear.Given as goal

-- nothing is held of those that were looked at
abbrev pub invariant-loop-page : goal.invariant-loop-page
invariant-loop-page l = record {
  long : length l.pages.items ≡ length l.initial.pages.items;
  listed : (page : ℕ) → has (take l.page-index l.list) page ≡ true → of_page l.pages.items page ≡ nothing;
  others : (page : ℕ) → has (take l.page-index l.list) page ≡ false → of_page l.pages.items page ≡ of_page l.initial.pages.items page;
}
