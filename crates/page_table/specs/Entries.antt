-- The entry of a page as what it grants.
use Rattle.lines.specs.LineSets.{lines_of_bits}
use Rattle.lines.specs.Access.{Grant}
use Rattle.page_table.specs.declared.lockbit_rules.Authority.{Authority}

-- what an entry grants of the lines of its page, from 0 to 15
abbrev pub grant_of : Authority → Grant
grant_of entry = record { owner = entry.tid; write = entry.write; lines = lines_of_bits entry.bits }
