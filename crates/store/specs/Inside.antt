-- The fields of a bank, and what is kept of them.
use Rattle.std.specs.Prelude.{◌≡◌, ℕ, ◌+◌, ◌*◌, ◌<◌, ◌≤◌, ◌^◌, List, length, drop, None, unwrap_or}
use Rattle.store.specs.Below.{entry_bytes, lines_from, option_map, RecordLine, wrong_line}
use Rattle.store.specs.declared.redo_journal.Bank.TheInside.{Inside}
use Rattle.store.specs.Kept.{BankView, end_of, AreNewestWithin}

-- so many lines of the buffer
abbrev pub buffered : Inside → ℕ → List RecordLine
buffered bank count = lines_from bank.page count (bank.gate + 11) (drop 10 bank.body)

-- how many lines the begun record has, and these lines
abbrev pub begun_count : Inside → ℕ
begun_count bank = unwrap_or bank.begun 0

abbrev pub begun_lines : Inside → List RecordLine
begun_lines bank = buffered bank (begun_count bank)

-- the bank that the fields are
abbrev pub kept_of : Inside → BankView
kept_of bank = record {
  which = bank.which;
  page = bank.page;
  bank_bytes = bank.bank_bytes;
  base = bank.base;
  count = bank.count;
  gate = bank.gate;
  newest = bank.newest;
  begun = option_map (buffered bank) bank.begun;
  spoiled = bank.spoiled;
}

-- The area is one of a store and has the gate and the newest places in it, the buffer has room for the begun record, and its lines ascend.
pub record IsWholeBank (bank : Inside) : Type 0 where
  pub some_bytes : 4096 ≤ bank.bank_bytes
  pub few_bytes : bank.bank_bytes ≤ 131072
  pub inside : bank.gate < end_of bank.which bank.bank_bytes
  pub placed : AreNewestWithin bank.page (end_of bank.which bank.bank_bytes) bank.newest
  pub few_lines : length bank.newest < 2 ^ 32
  pub few_records : bank.count ≤ bank.gate
  pub buffer : length bank.body ≡ bank.bank_bytes
  pub fits : 12 + entry_bytes bank.page * begun_count bank ≤ bank.bank_bytes
  pub ordered : wrong_line (length bank.newest) 0 (begun_lines bank) ≡ None
