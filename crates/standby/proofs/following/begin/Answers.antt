use Rattle.standby.proofs.Lemmas.{◌≡◌, ℕ, ◌+◌, ◌*◌, ◌-◌, ◌<◌, ◌≤◌, List, [], ◌∷◌, ◌++◌, length, take, drop, get_or, sym, ◌∙◌, ap, subst, arith, All, Some, fold-append, length-take-le, take_all, take_more, map-append, RecordLine, record_bytes, line_count, line_bytes, Layout, PageSize, Header, begun_of, record_bytes_of, BankView, StoreView, bank_begun, with_begun, AreLines, ShipLine, parted, told, fold, with_line, before_next, get_or-parted, length-parted, line_below, no_line, part_at, room_for, length-map}
use Rattle.standby.proofs.following.begin.Goals as goal

-- a line of the record is one of the store
line_fits : (size bound : ℕ) (items bytes : List ℕ) (i : ℕ) → AreLines size bound 0 (parted size items bytes) → i < length items → get_or items i 0 < bound
line_fits size bound items bytes i are lt = grind (arith, line_below size bound 0 (parted size items bytes) i are (omega (arith, lt, length-parted size items bytes)), get_or-parted size items bytes i lt)

-- the lines that are begun are below it
all_below : (size bound : ℕ) (items bytes : List ℕ) (begun : List RecordLine) (i : ℕ) → AreLines size bound 0 (parted size items bytes) → i < length items → told begun ≡ take i (parted size items bytes) → All (λ one. one.line < get_or items i 0) begun
all_below size bound items bytes begun i are lt is = grind (arith, get_or-parted size items bytes i lt, before_next size bound 0 (parted size items bytes) begun i are (omega (arith, lt, length-parted size items bytes)) is)

-- there are as many as lines before it
as_many : (size : ℕ) (items bytes : List ℕ) (begun : List RecordLine) (i : ℕ) → i < length items → told begun ≡ take i (parted size items bytes) → length begun ≡ i
as_many size items bytes begun i lt is =
    sym (length-map begun (λ (each : RecordLine). let it : ShipLine = record { line = each.line; bytes = each.bytes } in it))
    ∙ ap length is ∙ length-take-le i (parted size items bytes) (omega (arith, lt, length-parted size items bytes))

-- and with it one more
one_told : (size : ℕ) (items bytes : List ℕ) (begun : List RecordLine) (i : ℕ) (one : RecordLine) → i < length items → told begun ≡ take i (parted size items bytes) → told (one ∷ []) ≡ part_at size items bytes i ∷ [] → told (begun ++ one ∷ []) ≡ take (i + 1) (parted size items bytes)
one_told size items bytes begun i one lt is last = cc (map-append (λ (each : RecordLine). let it : ShipLine = record { line = each.line; bytes = each.bytes } in it) begun (one ∷ []), is, last, get_or-parted size items bytes i lt, take_more (parted size items bytes) i no_line (omega (arith, lt, length-parted size items bytes)))

-- the bank with it
bank_on : (bank now : BankView) (size : ℕ) (items bytes : List ℕ) (i : ℕ) (one : RecordLine) → i < length items → now ≡ bank_begun bank (take i (parted size items bytes)) → told (one ∷ []) ≡ part_at size items bytes i ∷ []
    → with_line now one.line one.bytes ≡ bank_begun bank (take (i + 1) (parted size items bytes))
bank_on bank now size items bytes i one lt is last =
    let all = parted size items bytes in
    let more : BankView → ShipLine → BankView = λ bank line. with_line bank line.line line.bytes in
    ap (λ (those : BankView). with_line those one.line one.bytes) is
    ∙ ap (fold more (bank_begun bank (take i all))) (last ∙ ap (λ (line : ShipLine). line ∷ []) (sym (get_or-parted size items bytes i lt)))
    ∙ sym (fold-append more (record bank { begun = Some [] }) (take i all) (get_or all i no_line ∷ []))
    ∙ ap (bank_begun bank) (sym (take_more all i no_line (omega (arith, lt, length-parted size items bytes))))

pub record_line-requires-clause-below : goal.record_line-requires-clause-below
record_line-requires-clause-below c =
    let kept = c.args.sent.now in
    let bound : line_count c.args.durable.now.header.directory ≡ line_count c.loop-index.durable.header.directory = ap (λ (store : StoreView). line_count store.header.directory) (sym c.loop-index.invariant.begun.now_is) in
    let inside : c.loop-index.index < length kept.lines.items = omega (arith, c.loop-index-test.true, ap length c.deref-line-items.ensures.value) in
    let fits = line_fits (line_bytes c.args.durable.now.header.directory.page) (line_count c.args.durable.now.header.directory) kept.lines.items kept.bytes.items c.loop-index.index c.requires.lines inside in
    let line : get_or c.deref-line-items.result.now c.loop-index.index 0 ≡ get_or kept.lines.items c.loop-index.index 0 = ap (λ (items : List ℕ). get_or items c.loop-index.index 0) c.deref-line-items.ensures.value in
    omega (arith, fits, bound, line)

pub record_line-requires-clause-ascending : goal.record_line-requires-clause-ascending
record_line-requires-clause-ascending c =
    let kept = c.args.sent.now in
    let inside : c.loop-index.index < length kept.lines.items = omega (arith, c.loop-index-test.true, ap length c.deref-line-items.ensures.value) in
    let below = all_below (line_bytes c.args.durable.now.header.directory.page) (line_count c.args.durable.now.header.directory) kept.lines.items kept.bytes.items c.loop-index.invariant.begun.begun c.loop-index.index c.requires.lines inside c.loop-index.invariant.begun.lines_are in
    subst (λ (begun : List RecordLine). All (λ one. one.line < get_or c.deref-line-items.result.now c.loop-index.index 0) begun) (ap (λ (store : StoreView). begun_of store.bank) (sym c.loop-index.invariant.begun.now_is))
    (subst (λ (items : List ℕ). All (λ (one : RecordLine). one.line < get_or items c.loop-index.index 0) c.loop-index.invariant.begun.begun) (sym c.deref-line-items.ensures.value) below)

pub record_line-requires-clause-room : goal.record_line-requires-clause-room
record_line-requires-clause-room c =
    let kept = c.args.sent.now in
    let inside : c.loop-index.index < length kept.lines.items = omega (arith, c.loop-index-test.true, ap length c.deref-line-items.ensures.value) in
    let many = as_many (line_bytes c.args.durable.now.header.directory.page) kept.lines.items kept.bytes.items c.loop-index.invariant.begun.begun c.loop-index.index inside c.loop-index.invariant.begun.lines_are in
    let header = c.args.durable.now.header in
    subst (λ (store : StoreView). record_bytes store.header.directory.page (length (begun_of store.bank) + 1) + 1 ≤ store.header.bank_bytes) (sym c.loop-index.invariant.begun.now_is)
    (room_for header.directory.page header.bank_bytes (length c.loop-index.invariant.begun.begun) (omega (arith, inside, many, c.requires.few)))

pub loop-index-preserved : goal.loop-index-preserved
loop-index-preserved c =
    let kept = c.args.sent.now in let i = c.loop-index.index in let was = c.loop-index.invariant.begun in
    let now = c.loop-index.durable in let size = c.line_bytes-bytes.result in let at = c.lines_bytes-at.result in
    let inside : i < length kept.lines.items = omega (arith, c.loop-index-test.true, ap length c.deref-line-items.ensures.value) in
    let one : RecordLine = record {
      line = get_or c.deref-line-items.result.now i 0;
      at = now.bank.gate + record_bytes_of now.bank (length (begun_of now.bank));
      bytes = take (at + size - at) (drop at c.deref.result.now);
    } in
    let sized : at + size - at ≡ line_bytes c.args.durable.now.header.directory.page = omega (arith, c.line_bytes-bytes.ensures.value, ap (λ (header : Header). line_bytes header.directory.page) c.header.ensures) in
    let placed : at ≡ line_bytes c.args.durable.now.header.directory.page * i =
    c.lines_bytes-at.ensures.value ∙ ap (λ (page : PageSize). line_bytes page * i) (c.page-page.ensures ∙ ap (λ (directory : Layout). directory.page) c.directory.ensures.value ∙ ap (λ (header : Header). header.directory.page) c.header-2.ensures) in
    let last : told (one ∷ []) ≡ part_at (line_bytes c.args.durable.now.header.directory.page) kept.lines.items kept.bytes.items i ∷ [] =
    ap (λ (items : List ℕ). let it : List ShipLine = record { line = get_or items i 0; bytes = take (at + size - at) (drop at c.deref.result.now) } ∷ [] in it) c.deref-line-items.ensures.value
    ∙ ap (λ (n : ℕ). let it : List ShipLine = record { line = get_or kept.lines.items i 0; bytes = take n (drop at c.deref.result.now) } ∷ [] in it) sized
    ∙ ap (λ (n : ℕ). let it : List ShipLine = record { line = get_or kept.lines.items i 0; bytes = take (line_bytes c.args.durable.now.header.directory.page) (drop n c.deref.result.now) } ∷ [] in it) placed
    ∙ ap (λ (bytes : List ℕ). part_at (line_bytes c.args.durable.now.header.directory.page) kept.lines.items bytes i ∷ []) c.deref.ensures.value in
    let before : told (begun_of now.bank) ≡ take i (parted (line_bytes c.args.durable.now.header.directory.page) kept.lines.items kept.bytes.items) = ap (λ (store : StoreView). told (begun_of store.bank)) was.now_is ∙ was.lines_are in
    record {
      begun = record {
        begun = begun_of now.bank ++ one ∷ [];
        now_is = c.record_line.ensures ∙ ap (λ (store : StoreView). with_begun store (begun_of now.bank ++ one ∷ [])) was.now_is;
        lines_are = one_told (line_bytes c.args.durable.now.header.directory.page) kept.lines.items kept.bytes.items (begun_of now.bank) i one inside before last;
        bank_is = ap (λ (store : StoreView). store.bank) c.record_line.ensures ∙ bank_on c.args.durable.now.bank now.bank (line_bytes c.args.durable.now.header.directory.page) kept.lines.items kept.bytes.items i one inside was.bank_is last;
      };
    }

pub returns : goal.returns
returns c =
    let kept = c.args.sent.now in let was = c.loop-index.invariant.begun in
    let all = take_all c.loop-index.index (parted (line_bytes c.args.durable.now.header.directory.page) kept.lines.items kept.bytes.items) (omega (arith, c.loop-index-test.false, ap length c.deref-line-items.ensures.value, length-parted (line_bytes c.args.durable.now.header.directory.page) kept.lines.items kept.bytes.items)) in
    record { begun = was.begun; now_is = was.now_is; lines_are = was.lines_are ∙ all; bank_is = was.bank_is ∙ ap (bank_begun c.args.durable.now.bank) all }
