use Rattle.store_format.proofs.Lemmas.{◌≡◌, ℕ, ◌∷◌, [], ◌∙◌, ap, length, arith, min, name_field, number_at, within, segment_fields, segments_at, segments_of, page_size_of, spare_fields, first_fault, PageSize, six_faults, or_is, length-segments_at}
use Rattle.store_format.proofs.header_reading.header_fault.Goals as goal

pub returns : goal.returns
returns c =
    let head = c.args.head.now in
    let bytes = c.args.length in
    let listed : c.min-listed.result ≡ min (number_at head 10 2) 15 = c.min-listed.ensures ∙ ap (λ (n : ℕ). min n 15) c.half_at-segments.ensures in
    let from : c.min-listed.result ≡ length (segments_of head) = omega (arith, listed, length-segments_at head 16 (min (number_at head 10 2) 15)) in
    let page : c.page_of.result ≡ page_size_of (number_at head 8 2) = c.page_of.ensures ∙ ap page_size_of c.half_at-version.ensures in
    let version : c.number_fault.result ≡ first_fault bytes (within 8 2 (number_at head 8 2) 1 2 ∷ []) =
    c.number_fault.ensures ∙ ap (λ (n : ℕ). first_fault bytes (within 8 2 n 1 2 ∷ [])) (c.into.ensures ∙ c.half_at-version.ensures) in
    let count : c.number_fault-2.result ≡ first_fault bytes (within 10 2 (number_at head 10 2) 1 15 ∷ []) =
    c.number_fault-2.ensures ∙ ap (λ (n : ℕ). first_fault bytes (within 10 2 n 1 15 ∷ [])) (c.into-2.ensures ∙ c.half_at-segments.ensures) in
    let bank : c.number_fault-3.result ≡ first_fault bytes (within 12 4 (number_at head 12 4) 4096 131072 ∷ []) =
    c.number_fault-3.ensures ∙ ap (λ (n : ℕ). first_fault bytes (within 12 4 n 4096 131072 ∷ [])) c.bank_bytes_in.ensures in
    let segments : c.segments_fault.result ≡ first_fault bytes (segment_fields 16 1 1024 (segments_of head)) =
    c.segments_fault.ensures ∙ ap (λ (n : ℕ). first_fault bytes (segment_fields 16 1 1024 (segments_at head 16 n))) listed in
    let none : c.spare_fault.result ≡ first_fault bytes (spare_fields (page_size_of (number_at head 8 2)) head (length (segments_of head))) =
    c.spare_fault.ensures
    ∙ ap (λ (those : PageSize). first_fault bytes (spare_fields those head c.min-listed.result)) page
    ∙ ap (λ (n : ℕ). first_fault bytes (spare_fields (page_size_of (number_at head 8 2)) head n)) from in
    cc (or_is c.or-5.ensures (or_is c.or-4.ensures (or_is c.or-3.ensures (or_is c.or-2.ensures (or_is c.or.ensures c.name_fault.ensures version) count) bank) segments) none, six_faults bytes (name_field head) (within 8 2 (number_at head 8 2) 1 2) (within 10 2 (number_at head 10 2) 1 15) (within 12 4 (number_at head 12 4) 4096 131072) (segment_fields 16 1 1024 (segments_of head)) (spare_fields (page_size_of (number_at head 8 2)) head (length (segments_of head))))
