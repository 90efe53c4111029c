-- What is consistent of a desk beside its resident pages.
use Rattle.std.specs.Prelude.{◌≤◌, length}
use Rattle.desk_law.specs.Below.{Desk, IsWholeStore, numbers, waits_for}
use Rattle.desk_law.specs.Consistent.{AreConsistent, IsHeld, HasNoCycle}

-- consistent, but for what is resident
pub record IsOrderly (desk : Desk) : Type 0 where
  pub whole : IsWholeStore desk.committed
  pub few : length desk.active ≤ desk.most_active
  pub active : AreConsistent desk.committed desk.most_lines desk.next desk.active
  pub held : IsHeld desk.committed desk.active desk.authority
  pub no_cycle : HasNoCycle (waits_for desk) (numbers desk)
