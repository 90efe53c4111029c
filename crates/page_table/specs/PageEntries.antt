-- How many entries are of an identifier.
use Rattle.std.specs.Prelude.{◌≡◌, ℕ, ◌<◌, ◌==◌, List, length, slice_index, vec_len}
use Rattle.std.specs.List.{filter}
use Rattle.page_table.specs.declared.lockbit_rules.Authority.{Authority}
use Rattle.page_table.specs.declared.page_entries.PageEntries.TheInside.{Inside}

-- how many of these entries are of an identifier
abbrev pub owned_by : List Authority → ℕ → ℕ
owned_by entries tid = length (filter (λ entry. entry.tid == tid) entries)

-- how many there are of each is kept
pub record AreCounted (entries : Inside) : Type 0 where
  pub sized : vec_len entries.owned ≡ 256
  pub counted : (tid : ℕ) → tid < 256 → slice_index entries.owned.items tid ≡ owned_by entries.items.items tid
