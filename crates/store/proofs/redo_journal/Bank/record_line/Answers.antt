use Rattle.store.proofs.Lemmas.{◌≡◌, ℕ, ◌+◌, ◌*◌, ◌<◌, ◌≤◌, List, [], ◌∷◌, ◌++◌, length, drop, refl, sym, ◌∙◌, ap, subst, arith, All, Some, entry_bytes, RecordLine, lines_from, wrong_line, record_bytes, wrong_line-push, BankView, begun_of, with_line, record_bytes_of, line_bytes_of, Inside, begun_count, begun_lines, kept_of, nat_tests, begun_is, length-begun, is_begun, unwrapped, line_added, least_low}
use Rattle.store.proofs.redo_journal.Bank.record_line.Goals as goal
use Rattle.store.proofs.redo_journal.Bank.record_line.Goals.{After-write-2}

pub unwrap-begun-requires : goal.unwrap-begun-requires
unwrap-begun-requires c = is_begun c.self.inside c.args.self.now c.self.view_is c.requires.begun

-- the buffer has room for one line more
has_room : (bank : Inside) (kept : BankView) (begun : ℕ) → kept_of bank ≡ kept → begun_count bank ≡ begun → record_bytes_of kept (length (begun_of kept) + 1) + 1 ≤ kept.bank_bytes
    → 12 + entry_bytes bank.page * (begun + 1) ≤ bank.bank_bytes
has_room bank kept begun is count fits = grind (arith, nat_tests, length-begun)

pub write-requires : goal.write-requires
write-requires c =
    let n = unwrapped c.self.inside.begun c.unwrap-begun.result c.unwrap-begun.ensures in
    omega (arith, has_room c.self.inside c.args.self.now c.unwrap-begun.result c.self.view_is n c.requires.room, c.self.invariant.buffer, c.entries_bytes.ensures.value, ap length c.word.ensures)

pub write-requires-2 : goal.write-requires-2
write-requires-2 c =
    let n = unwrapped c.self.inside.begun c.unwrap-begun.result c.unwrap-begun.ensures in
    omega (arith, has_room c.self.inside c.args.self.now c.unwrap-begun.result c.self.view_is n c.requires.room, c.self.invariant.buffer, c.entries_bytes.ensures.value, ap (λ (bank : BankView). line_bytes_of bank) c.self.view_is, c.requires.whole, c.write.ensures.len)

count : (c : goal.After-write-2) → begun_count c.self.inside ≡ c.unwrap-begun.result
count c = unwrapped c.self.inside.begun c.unwrap-begun.result c.unwrap-begun.ensures

room : (c : goal.After-write-2) → 12 + entry_bytes c.self.inside.page * (c.unwrap-begun.result + 1) ≤ c.self.inside.bank_bytes
room c = has_room c.self.inside c.args.self.now c.unwrap-begun.result c.self.view_is (count c) c.requires.room

-- the begun lines with one more
lines : (c : goal.After-write-2) → 12 + entry_bytes c.self.inside.page * (c.unwrap-begun.result + 1) ≤ c.self.inside.bank_bytes → begun_count c.self.inside ≡ c.unwrap-begun.result
    → lines_from c.self.inside.page (c.unwrap-begun.result + 1) (c.self.inside.gate + 11) (drop 10 c.write-2.new.self)
    ≡ begun_lines c.self.inside ++ record { line = c.args.line; at = c.self.inside.gate + record_bytes c.self.inside.page c.unwrap-begun.result; bytes = c.args.bytes.now } ∷ []
lines c fits n = grind (arith, nat_tests, line_added, c.self.inside, c.unwrap-begun.result)

pub invariant_of-self : goal.invariant_of-self
invariant_of-self c =
    let at = goal.at.invariant_of-self c in
    let old = c.self.invariant in
    let lines_ascend : All (λ those. those.line < c.args.line) (begun_lines c.self.inside) = subst (λ (these : List RecordLine). All (λ those. those.line < c.args.line) these) (sym (begun_is c.self.inside c.args.self.now c.self.view_is)) c.requires.ascending in
    record {
      some_bytes = old.some_bytes;
      few_bytes = old.few_bytes;
      inside = old.inside;
      placed = old.placed;
      few_lines = old.few_lines;
      few_records = old.few_records;
      buffer = c.write-2.ensures.len ∙ c.write.ensures.len ∙ old.buffer;
      fits = room at.After-write-2;
      ordered =
          ap (wrong_line (length c.self.inside.newest) 0) (lines at.After-write-2 (room at.After-write-2) (count at.After-write-2))
          ∙ wrong_line-push (length c.self.inside.newest) 0 (begun_lines c.self.inside) (record { line = c.args.line; at = c.self.inside.gate + record_bytes c.self.inside.page c.unwrap-begun.result; bytes = c.args.bytes.now }) old.ordered
          (least_low 0 c.args.line (begun_lines c.self.inside) (omega arith) lines_ascend)
          (omega (arith, c.requires.below, ap (λ (bank : BankView). length bank.newest) c.self.view_is));
    }

pub returns : goal.returns
returns c =
    let at = goal.at.returns c in
    let bank = c.self.inside in
    let same = begun_is bank (kept_of bank) refl in
    let number : c.unwrap-begun.result ≡ length (begun_of (kept_of bank)) = sym (length-begun bank (kept_of bank) refl ∙ count at.After-write-2) in
    ap (λ (these : List RecordLine). record (kept_of bank) { begun = Some these })
    (lines at.After-write-2 (room at.After-write-2) (count at.After-write-2)
    ∙ ap (λ (n : ℕ). begun_lines bank ++ record { line = c.args.line; at = bank.gate + record_bytes c.self.inside.page n; bytes = c.args.bytes.now } ∷ []) number
    ∙ ap (λ (these : List RecordLine). these ++ record { line = c.args.line; at = bank.gate + record_bytes c.self.inside.page (length (begun_of (kept_of bank))); bytes = c.args.bytes.now } ∷ []) same)
    ∙ ap (λ (kept : BankView). with_line kept c.args.line c.args.bytes.now) c.self.view_is
