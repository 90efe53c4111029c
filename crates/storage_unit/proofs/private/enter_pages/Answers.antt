use Rattle.storage_unit.proofs.Lemmas.{◌≡◌, ℕ, ◌+◌, ◌≤◌, ◌<◌, length, sym, ◌∙◌, ap, subst, arith, None, overlaid, length-overlaid, IsOfTable, of_table-entered, key_to, Placed, key_in, look_up, first_keys, nat_tests, common_steps, first-long, keys-more, next-free, next-absent}
use Rattle.storage_unit.proofs.private.enter_pages.Goals as goal

module _ (old now : Placed) (first segment all index : ℕ) (so_far : now ≡ record old { keys = overlaid old.keys first (first_keys segment index) }) (room : first + all ≤ length old.keys) (few : index < all) where
  long : length now.keys ≡ length old.keys
  long = grind (arith, nat_tests, length-overlaid, first-long)

  free : ((k : ℕ) → k < all → key_in old.keys (first + k) ≡ None) → key_in now.keys (first + index) ≡ None
  free each = ap (λ (t : Placed). key_in t.keys (first + index)) so_far ∙ next-free old.keys first segment all index room few each

  absent : (page : ℕ) → page ≡ index → look_up old.keys (key_to segment index) ≡ None → look_up now.keys (key_to segment page) ≡ None
  absent page is none = grind (arith, nat_tests, next-absent)

pub enter-requires-clause-free : goal.enter-requires-clause-free
enter-requires-clause-free c = free c.args.table.now c.loop-index.table c.args.first c.args.segment c.args.count c.loop-index.index c.loop-index.invariant.table c.requires.room c.loop-index-test.true c.requires.free

pub enter-requires-clause-absent : goal.enter-requires-clause-absent
enter-requires-clause-absent c =
    absent c.args.table.now c.loop-index.table c.args.first c.args.segment c.args.count c.loop-index.index c.loop-index.invariant.table c.requires.room c.loop-index-test.true c.from.result c.from.ensures
    (c.requires.absent c.loop-index.index c.loop-index-test.true)

pub loop-index-preserved : goal.loop-index-preserved
loop-index-preserved c =
    record {
      table =
          grind (arith, nat_tests, c.enter.ensures, c.from.ensures, c.loop-index.invariant.table, keys-more c.args.table.now.keys c.args.first c.args.segment c.loop-index.index (omega (arith, c.requires.room, c.loop-index-test.true)));
      of_table = λ classes all.
          subst (λ (table : Placed). IsOfTable classes table.keys) (sym c.enter.ensures)
          (of_table-entered classes c.loop-index.table.keys (c.args.first + c.loop-index.index) (key_to c.args.segment c.from.result)
          (omega (arith, c.requires.room, c.loop-index-test.true, long c.args.table.now c.loop-index.table c.args.first c.args.segment c.args.count c.loop-index.index c.loop-index.invariant.table c.requires.room c.loop-index-test.true))
          (free c.args.table.now c.loop-index.table c.args.first c.args.segment c.args.count c.loop-index.index c.loop-index.invariant.table c.requires.room c.loop-index-test.true c.requires.free)
          (absent c.args.table.now c.loop-index.table c.args.first c.args.segment c.args.count c.loop-index.index c.loop-index.invariant.table c.requires.room c.loop-index-test.true c.from.result c.from.ensures
          (c.requires.absent c.loop-index.index c.loop-index-test.true))
          (c.loop-index.invariant.of_table classes all));
    }

pub enter-requires-clause-frame : goal.enter-requires-clause-frame
enter-requires-clause-frame c = grind (arith, common_steps)

pub loop-index-init : goal.loop-index-init
loop-index-init c = grind (arith, common_steps)
