-- The table is chained with nothing in it, and stays so where a frame enters, and where one leaves.
use Rattle.page_table.proofs.Common.{◌∷◌, ◌≡◌, ◌≢◌, ℕ, ◌<◌, Bool, true, false, List, length, refl, sym, ◌∙◌, ap, arith, Some, None, Option, ◌==◌, ◌||◌, slice_set, option_map_or, get_or-set_same, get_or-set_other, length-set, get_or-eq_default, eqb-true, eqb-false, ne_eqb, has, nat_tests, Key, key_in, look_up, hash_of, following, chain_from, chain_end, chain_of, IsChain, IsChained, zero, suc, filter, has-filter, before_in, length-replicate, get_or-replicate, replicate, slice_index_or}
use Rattle.page_table.proofs.ApartLemmas.{equal, apart-cons, few-apart, is_other, apart-filter, filter-absent, before-none, before-in, chain-untouched, chain-in_front, chain-headless, chain-unlinked, chain-none, end-none}
use Rattle.page_table.proofs.FindLemmas.{look_up-none, is-held}
use Rattle.std.specs.Int.{IsPowerOfTwo}

-- whether a frame that holds this is in the chain of a hash
abbrev pub is_hashed : (anchors hash : ℕ) → Option Key → Bool
is_hashed anchors hash held = option_map_or (λ key. hash_of anchors key == hash) held false

-- a frame that a chain has holds a page, so it is one of the frames
pub frame-below : (anchors hash : ℕ) (keys : List (Option Key)) (frame : ℕ) → is_hashed anchors hash (key_in keys frame) ≡ true → frame < length keys
frame-below anchors hash keys frame hashed = grind (arith, get_or-eq_default)

-- what a frame holds, where another one changed or itself
pub held-same : (keys : List (Option Key)) (frame x : ℕ) (held : Option Key) → frame < length keys → frame ≡ x → key_in (slice_set keys frame held) x ≡ held
held-same keys frame x held inside same = ap (key_in (slice_set keys frame held)) (sym same) ∙ get_or-set_same keys frame held None inside

pub held-other : (keys : List (Option Key)) (frame x : ℕ) (held : Option Key) → frame ≢ x → key_in (slice_set keys frame held) x ≡ key_in keys x
held-other keys frame x held other = get_or-set_other keys frame x held None (λ e. other (sym e))

-- a frame without a page is in no chain
free-absent :
    (anchors next : List (Option ℕ)) (keys : List (Option Key)) (hash frame : ℕ) → IsChain anchors next keys hash → key_in keys frame ≡ None
    → has (chain_of anchors next hash) frame ≡ false
free-absent anchors next keys hash frame chain free = chain.has_its frame ∙ ap (is_hashed (length anchors) hash) free

-- a chain has fewer frames than there are, where one without a page is among these
chain-few :
    (anchors next : List (Option ℕ)) (keys : List (Option Key)) (hash frame : ℕ) → IsChain anchors next keys hash → length next ≡ length keys
    → frame < length next → key_in keys frame ≡ None → length (chain_of anchors next hash) < length next
chain-few anchors next keys hash frame chain sized inside free =
    few-apart (chain_of anchors next hash) (length next) frame chain.apart
    (λ x here. omega (arith, sized, frame-below (length anchors) hash keys x (sym (chain.has_its x) ∙ here)))
    (free-absent anchors next keys hash frame chain free) inside

-- the chain of the hash of a page that a frame holds now
entered-own :
    (anchors next : List (Option ℕ)) (keys : List (Option Key)) (frame hash : ℕ) (key : Key) → IsChained anchors next keys → frame < length keys
    → key_in keys frame ≡ None → hash < length anchors → hash ≡ hash_of (length anchors) key
    → IsChain (slice_set anchors hash (Some frame)) (slice_set next frame (following anchors hash)) (slice_set keys frame (Some key)) hash
entered-own anchors next keys frame hash key chained inside free below own =
    let chain = chained.chains hash below in
    let within : frame < length next = omega (arith, chained.sized, inside) in
    let absent = free-absent anchors next keys hash frame chain free in
    let few = chain-few anchors next keys hash frame chain chained.sized within free in
    let front = chain-in_front next frame (following anchors hash) within chain.ends absent few in
    let anchor : following (slice_set anchors hash (Some frame)) hash ≡ Some frame = get_or-set_same anchors hash (Some frame) None below in
    let count = length-set next frame (following anchors hash) in
    let same : chain_of (slice_set anchors hash (Some frame))
    (slice_set next frame (following anchors hash)) hash ≡ frame ∷ chain_of anchors next hash =
    rw (count, anchor) front.0 in
    record {
      ends = rw (count, anchor) front.1;
      apart = rw same (apart-cons frame (chain_of anchors next hash) absent chain.apart);
      has_its = λ x. rw same (its x);
    }
  where
    its : (x : ℕ)
        → ((frame == x) || has (chain_of anchors next hash) x)
        ≡ is_hashed (length (slice_set anchors hash (Some frame))) hash (key_in (slice_set keys frame (Some key)) x)
    its x =
        let old = (chained.chains hash below).has_its x in
        grind (arith, nat_tests, length-set, held-same, held-other, old, own)

-- the chain of another hash
entered-other :
    (anchors next : List (Option ℕ)) (keys : List (Option Key)) (frame hash own : ℕ) (key : Key) (value : Option ℕ) → IsChained anchors next keys → frame < length keys
    → key_in keys frame ≡ None → hash < length anchors → own ≡ hash_of (length anchors) key → own ≢ hash
    → IsChain (slice_set anchors own (Some frame)) (slice_set next frame value) (slice_set keys frame (Some key)) hash
entered-other anchors next keys frame hash own key value chained inside free below is_own other =
    let chain = chained.chains hash below in
    let still = chain-untouched next (length next) frame (following anchors hash) value (free-absent anchors next keys hash frame chain free) in
    let anchor : following (slice_set anchors own (Some frame)) hash ≡ following anchors hash = get_or-set_other anchors own hash (Some frame) None (λ e. other (sym e)) in
    let count = length-set next frame value in
    let same : chain_of (slice_set anchors own (Some frame))
    (slice_set next frame value) hash ≡ chain_of anchors next hash =
    rw (count, anchor) still.0 in
    record {
      ends = rw (count, anchor, still.1) chain.ends;
      apart = rw same chain.apart;
      has_its =
          λ x. rw same (its x);
    }
  where
    its : (x : ℕ)
        → has (chain_of anchors next hash) x ≡ is_hashed (length (slice_set anchors own (Some frame))) hash
        (key_in (slice_set keys frame (Some key)) x)
    its x =
        let old = (chained.chains hash below).has_its x in
        let absent = free-absent anchors next keys hash frame (chained.chains hash below) free in
        grind (arith, nat_tests, length-set, held-same, held-other, old, absent, is_own, other)

-- no page is in two frames, after one entered that was in none
entered-once :
    (keys : List (Option Key)) (frame : ℕ) (key : Key) → frame < length keys → look_up keys key ≡ None
    → ((x y : ℕ) (held : Key) → key_in keys x ≡ Some held → key_in keys y ≡ Some held → x ≡ y)
    → (x y : ℕ) (held : Key) → key_in (slice_set keys frame (Some key)) x ≡ Some held → key_in (slice_set keys frame (Some key)) y ≡ Some held → x ≡ y
entered-once keys frame key inside absent once x y held first second =
    let none = look_up-none keys key absent in
    let holds_key = λ (z : ℕ). is-held key (key_in keys z) in
    grind (arith, nat_tests, held-same, held-other, none, holds_key, once, first, second)

-- a table into which a frame entered
pub enter-chained :
    (anchors next : List (Option ℕ)) (keys : List (Option Key)) (frame own : ℕ) (key : Key) → IsChained anchors next keys → frame < length keys
    → key_in keys frame ≡ None → look_up keys key ≡ None → own < length anchors → own ≡ hash_of (length anchors) key
    → IsChained (slice_set anchors own (Some frame)) (slice_set next frame (following anchors own)) (slice_set keys frame (Some key))
enter-chained anchors next keys frame own key chained inside free absent within is_own =
    record {
      power = (chained.power.0, length-set anchors own (Some frame) ∙ chained.power.1);
      sized = length-set next frame (following anchors own) ∙ chained.sized ∙ sym (length-set keys frame (Some key));
      chains = λ hash below. by_test hash (own == hash) refl (omega (arith, length-set anchors own (Some frame)));
      once = entered-once keys frame key inside absent chained.once;
    }
  where
    by_test :
        (hash : ℕ) (b : Bool) → (own == hash) ≡ b → hash < length anchors
        → IsChain (slice_set anchors own (Some frame)) (slice_set next frame (following anchors own)) (slice_set keys frame (Some key)) hash
    by_test hash true is below =
        rw (← eqb-true own hash is) (entered-own anchors next keys frame own key chained inside free within is_own)
    by_test hash false is below =
        entered-other anchors next keys frame hash own key (following anchors own) chained inside free below is_own (eqb-false own hash is)

-- a chain that lost a frame which holds nothing now
left-chain :
    (anchors next moved changed : List (Option ℕ)) (keys : List (Option Key)) (hash frame : ℕ) → IsChain anchors next keys hash
    → length moved ≡ length anchors → frame < length keys → chain_end changed (length changed) (following moved hash) ≡ None
    → chain_of moved changed hash ≡ filter (is_other frame) (chain_of anchors next hash) → IsChain moved changed (slice_set keys frame None) hash
left-chain anchors next moved changed keys hash frame chain sized inside ends same = grind (arith, nat_tests, apart-filter, is_other, has-filter, is_hashed, held-same, held-other, eqb-false)

-- a page has one hash
hashed-once : (anchors own hash : ℕ) (held : Option Key) → is_hashed anchors own held ≡ true → own ≢ hash → is_hashed anchors hash held ≡ false
hashed-once anchors own hash held is other = grind (arith, nat_tests, ne_eqb, eqb-true)

-- a frame is in the chain of the hash of its page
hashed-own : (anchors own : ℕ) (keys : List (Option Key)) (frame : ℕ) (key : Key) → key_in keys frame ≡ Some key → own ≡ hash_of anchors key → is_hashed anchors own (key_in keys frame) ≡ true
hashed-own anchors own keys frame key holds is_own = ap (is_hashed anchors own) holds ∙ ap (λ (n : ℕ). n == own) (sym is_own) ∙ equal own

-- the anchor leads to a frame that has none in front of it
first-is :
    (next : List (Option ℕ)) (count frame : ℕ) (at : Option ℕ) → has (chain_from next count at) frame ≡ true
    → before_in (chain_from next count at) frame ≡ None → at ≡ Some frame
first-is next zero frame at there none = absurd (cc)
first-is next (suc count) frame None there none = absurd (cc)
first-is next (suc count) frame (Some x) there none =
    ap (λ (n : ℕ). Some n) (before-none x frame (chain_from next count (following next x)) there none)

-- no page is in two frames, after one left
left-once :
    (keys : List (Option Key)) (frame : ℕ) → frame < length keys
    → ((x y : ℕ) (held : Key) → key_in keys x ≡ Some held → key_in keys y ≡ Some held → x ≡ y)
    → (x y : ℕ) (held : Key) → key_in (slice_set keys frame None) x ≡ Some held → key_in (slice_set keys frame None) y ≡ Some held → x ≡ y
left-once keys frame inside once x y held first second = grind (arith, nat_tests, held-same, held-other, eqb-false)

-- a table of which a frame left that led its chain
pub leave-first :
    (anchors next : List (Option ℕ)) (keys : List (Option Key)) (frame own : ℕ) (key : Key) → IsChained anchors next keys → frame < length keys
    → key_in keys frame ≡ Some key → own < length anchors → own ≡ hash_of (length anchors) key → before_in (chain_of anchors next own) frame ≡ None
    → IsChained (slice_set anchors own (following next frame)) next (slice_set keys frame None)
leave-first anchors next keys frame own key chained inside holds within is_own before =
    record {
      power = (chained.power.0, length-set anchors own (following next frame) ∙ chained.power.1);
      sized = chained.sized ∙ sym (length-set keys frame None);
      chains = λ hash below. by_test hash (own == hash) refl (omega (arith, length-set anchors own (following next frame)));
      once = left-once keys frame inside chained.once;
    }
  where
    by_test :
        (hash : ℕ) (b : Bool) → (own == hash) ≡ b → hash < length anchors
        → IsChain (slice_set anchors own (following next frame)) next (slice_set keys frame None) hash
    by_test hash true is below =
        let chain = chained.chains own within in
        let there : has (chain_of anchors next own) frame ≡ true = chain.has_its frame ∙ hashed-own (length anchors) own keys frame key holds is_own in
        let first = first-is next (length next) frame (following anchors own) there before in
        let head = chain-headless next (length next) frame (rw first at chain.ends) (rw first at chain.apart) in
        let anchor : following (slice_set anchors own (following next frame)) own ≡ following next frame = get_or-set_same anchors own (following next frame) None within in
        rw (← eqb-true own hash is)
        (left-chain anchors next (slice_set anchors own (following next frame)) next keys own frame chain (length-set anchors own (following next frame)) inside
        (rw anchor head.1) (rw (anchor, first) head.0))
    by_test hash false is below =
        let chain = chained.chains hash below in
        let other = eqb-false own hash is in
        let absent : has (chain_of anchors next hash) frame ≡ false =
        chain.has_its frame ∙ hashed-once (length anchors) own hash (key_in keys frame) (hashed-own (length anchors) own keys frame key holds is_own) other in
        let anchor : following (slice_set anchors own (following next frame)) hash ≡ following anchors hash = get_or-set_other anchors own hash (following next frame) None (λ e. other (sym e)) in
        left-chain anchors next (slice_set anchors own (following next frame)) next keys hash frame chain (length-set anchors own (following next frame)) inside
        (rw anchor chain.ends) (rw (anchor, filter-absent frame (chain_of anchors next hash) absent) refl)

-- a table of which a frame left that followed on another
pub leave-behind :
    (anchors next : List (Option ℕ)) (keys : List (Option Key)) (frame own other : ℕ) (key : Key) → IsChained anchors next keys → frame < length keys
    → key_in keys frame ≡ Some key → own < length anchors → own ≡ hash_of (length anchors) key → before_in (chain_of anchors next own) frame ≡ Some other
    → IsChained anchors (slice_set next other (following next frame)) (slice_set keys frame None)
leave-behind anchors next keys frame own other key chained inside holds within is_own before =
    record {
      power = chained.power;
      sized = length-set next other (following next frame) ∙ chained.sized ∙ sym (length-set keys frame None);
      chains = λ hash below. by_test hash (own == hash) refl below;
      once = left-once keys frame inside chained.once;
    }
  where
    hashed : is_hashed (length anchors) own (key_in keys other) ≡ true
    hashed =
        let chain = chained.chains own within in
        sym (chain.has_its other) ∙ (before-in (chain_of anchors next own) frame other before).1

    by_test :
        (hash : ℕ) (b : Bool) → (own == hash) ≡ b → hash < length anchors
        → IsChain anchors (slice_set next other (following next frame)) (slice_set keys frame None) hash
    by_test hash true is below =
        let chain = chained.chains own within in
        let there : other < length next = omega (arith, chained.sized, frame-below (length anchors) own keys other hashed) in
        let cut = chain-unlinked next (length next) frame other (following anchors own) chain.ends chain.apart before there in
        let count = length-set next other (following next frame) in
        rw (← eqb-true own hash is)
        (left-chain anchors next anchors (slice_set next other (following next frame)) keys own frame chain refl inside
        (rw count cut.1) (rw count cut.0))
    by_test hash false is below =
        let chain = chained.chains hash below in
        let apart = eqb-false own hash is in
        let absent : has (chain_of anchors next hash) frame ≡ false =
        chain.has_its frame ∙ hashed-once (length anchors) own hash (key_in keys frame) (hashed-own (length anchors) own keys frame key holds is_own) apart in
        let unseen : has (chain_of anchors next hash) other ≡ false =
        chain.has_its other ∙ hashed-once (length anchors) own hash (key_in keys other) hashed apart in
        let still = chain-untouched next (length next) other (following anchors hash) (following next frame) unseen in
        let count = length-set next other (following next frame) in
        left-chain anchors next anchors (slice_set next other (following next frame)) keys hash frame chain refl inside
        (rw (count, still.1) chain.ends)
        (rw (count, still.0, filter-absent frame (chain_of anchors next hash) absent) refl)

-- the frame in front, as it was looked for along the frames from the anchor on
pub found-before :
    (anchors next list : List (Option ℕ)) (own frame : ℕ) (first answer : Option ℕ) → answer ≡ before_in (chain_from list (length list) first) frame
    → list ≡ next → first ≡ following anchors own → answer ≡ before_in (chain_of anchors next own) frame
found-before anchors next list own frame first answer is same anchor = grind (arith, nat_tests)

-- a frame that is in front of another is one of the frames
pub before-below :
    (anchors next : List (Option ℕ)) (keys : List (Option Key)) (own frame other : ℕ) → IsChained anchors next keys → own < length anchors
    → before_in (chain_of anchors next own) frame ≡ Some other → other < length next
before-below anchors next keys own frame other chained within before =
    let chain = chained.chains own within in
    omega (arith, chained.sized, frame-below (length anchors) own keys other (sym (chain.has_its other) ∙ (before-in (chain_of anchors next own) frame other before).1))

-- A table with nothing in it.

nothing : (X : Type 0) → (count i : ℕ) → slice_index_or (replicate {A = Option X} count None) i None ≡ None
nothing X count i = grind (arith, nat_tests, get_or-replicate, get_or-eq_default, length-replicate)

chained-fresh :
    (anchors frames : ℕ) → IsPowerOfTwo anchors
    → IsChained (replicate anchors None) (replicate frames None) (replicate frames None)
chained-fresh anchors frames power = grind (arith, nat_tests, length-replicate, nothing, chain-none, end-none)

pub chained-fresh_by :
    (anchors frames : ℕ) (list next : List (Option ℕ)) (keys : List (Option Key)) → IsPowerOfTwo anchors
    → list ≡ replicate anchors None → next ≡ replicate frames None → keys ≡ replicate frames None → IsChained list next keys
chained-fresh_by anchors frames list next keys power e1 e2 e3 = rw (e1, e2, e3) (chained-fresh anchors frames power)
