use Rattle.standby.proofs.Common.{◌≡◌, map, take, FlatStore, line_bytes, Stands, stands, held_of, store_number, TracksStore, bank_behind, OnlyGoesOn, SoFar, later, record_of, false}
use Rattle.standby.proofs.following.keep_each.Given as goal

-- the records so far are kept and told
abbrev pub invariant-loop-record : goal.invariant-loop-record
invariant-loop-record g l = record {
  only : OnlyGoesOn g.W.Outside l.initial.outside l.outside;
  disk : g.W.Outside.disk_faults l.outside ≡ g.W.Outside.disk_faults l.initial.outside;
  put : g.W.Outside.put_faults l.outside ≡ g.W.Outside.put_faults l.initial.outside;
  header : l.durable.header ≡ l.initial.durable.header;
  usable : l.durable.bank.spoiled ≡ false;
  number : store_number l.durable ≡ later (store_number l.initial.durable) l.record-index;
  bank : l.durable.bank ≡ bank_behind l.initial.durable.bank (take l.record-index (map (record_of (line_bytes l.initial.durable.header.directory.page)) l.records));
  so_far : (store : FlatStore) → TracksStore g.W.Outside l.initial.durable l.initial.outside → stands (held_of g.W.Outside l.initial.outside) ≡ Stands (store_number l.initial.durable) store
      → SoFar g.W.Outside (line_bytes l.initial.durable.header.directory.page) (store_number l.initial.durable) store (map (record_of (line_bytes l.initial.durable.header.directory.page)) l.records) l.record-index l.durable l.initial.outside l.outside;
}
