-- The table as a list: what each frame holds, and the entry of each page of the store.
use Rattle.std.specs.Prelude.{ℕ, ◌==◌, ◌&&◌, if◌then◌else◌, Bool, false, List, map, replicate, position, slice_set, slice_index_or, Option, Some, None}
use Rattle.std.specs.Option.{option_map_or}
use Rattle.page_table.specs.declared.lockbit_rules.Authority.{Authority}
use Rattle.page_table.specs.declared.key.Key.{Key}

-- the page of a segment that each frame holds, if it holds one, and the entry of each page of the store
pub record Placed : Type 0 where
  pub keys : List (Option Key)
  pub entries : List Authority

-- nobody's entry
abbrev pub unowned : Authority
unowned = record { tid = 0; write = false; bits = 0 }

-- a table of so many frames and pages, in which no frame holds a page and each page is nobody's
abbrev pub bare : (frames pages : ℕ) → Placed
bare frames pages = record { keys = replicate frames None; entries = replicate pages unowned }

-- whether a page of a segment is the one that is wanted
abbrev pub is_same_key : Key → Key → Bool
is_same_key wanted key = key.segment == wanted.segment && key.page == wanted.page

-- whether a frame that holds this holds the page that is wanted
abbrev pub holds : Key → Option Key → Bool
holds wanted held = option_map_or (is_same_key wanted) held false

-- what a frame holds
abbrev pub key_in : List (Option Key) → ℕ → Option Key
key_in keys frame = slice_index_or keys frame None

-- the frame that holds a page: the look-up in the list
abbrev pub look_up : List (Option Key) → Key → Option ℕ
look_up keys wanted = position (holds wanted) keys

-- a frame holds a page from now on
abbrev pub entered : Placed → ℕ → Key → Placed
entered table frame key = record table { keys = slice_set table.keys frame (Some key) }

-- a frame holds nothing from now on
abbrev pub without_frame : Placed → ℕ → Placed
without_frame table frame = record table { keys = slice_set table.keys frame None }

-- the entry of a page
abbrev pub entry_at : Placed → ℕ → Authority
entry_at table page = slice_index_or table.entries page unowned

-- the table with another entry of a page
abbrev pub with_entry : Placed → ℕ → Authority → Placed
with_entry table page entry = record table { entries = slice_set table.entries page entry }

-- an entry after its identifier is cleared: nobody's, if it was that identifier's
abbrev pub cleared_entry : ℕ → Authority → Authority
cleared_entry tid entry = if entry.tid == tid then unowned else entry

-- the table after an identifier is cleared
abbrev pub cleared : Placed → ℕ → Placed
cleared table tid = record table { entries = map (cleared_entry tid) table.entries }
