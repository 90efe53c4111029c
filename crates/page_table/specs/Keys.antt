-- The page that an address lies in.
use Rattle.std.specs.Prelude.{ℕ}
use Rattle.page_table.specs.declared.segment_regs.Virtual.{Virtual}
use Rattle.page_table.specs.declared.key.Key.{Key}

-- a page of a segment
abbrev pub key_to : (segment page : ℕ) → Key
key_to segment page = record { segment = segment; page = page }

-- the page of an address
abbrev pub key_of : Virtual → Key
key_of at = key_to at.segment at.page
