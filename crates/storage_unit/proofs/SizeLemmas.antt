-- Places of a store by pages and lines.
use Rattle.storage_unit.proofs.Common.{◌≡◌, ℕ, ◌+◌, ◌-◌, ◌*◌, ◌/◌, ◌%◌, ◌<◌, ◌≤◌, arith, div-add-mod', PageSize, page_bytes, line_bytes, Layout, byte_count, page_count, page_of, byte_count_pages, private_frames, seat_pages, nat_tests}

pub rest-below : (size : PageSize) (place : ℕ) → place % page_bytes size < page_bytes size
rest-below size place = grind (arith, nat_tests)

pub place-is : (size : PageSize) (place : ℕ) → place / page_bytes size * page_bytes size + place % page_bytes size ≡ place
place-is size place = div-add-mod' place (page_bytes size)

-- so many whole pages in front of a place
pub pages-past : (size : PageSize) (n m : ℕ) → (n * page_bytes size + m) / page_bytes size ≡ n + m / page_bytes size
pages-past size n m = grind (arith, nat_tests)

-- the page and the byte of a place in a page
pub page-at : (size : PageSize) (n o : ℕ) → o < page_bytes size → (n * page_bytes size + o) / page_bytes size ≡ n
page-at size n o below = grind (arith, nat_tests)

pub byte-at : (size : PageSize) (n o : ℕ) → o < page_bytes size → (n * page_bytes size + o) % page_bytes size ≡ o
byte-at size n o below = grind (arith, nat_tests)

-- the byte of an offset behind so many whole pages
pub byte-on-page : (size : PageSize) (start page o : ℕ) → start % page_bytes size ≡ 0 → o < page_bytes size → (start + (page * page_bytes size + o)) % page_bytes size ≡ o
byte-on-page size start page o whole below = grind (arith, nat_tests)

pub page-same : (size : PageSize) (n m : ℕ) → n * page_bytes size ≡ m * page_bytes size → n ≡ m
page-same size n m is = grind (arith, nat_tests)

pub pages-left : (size : PageSize) (n m : ℕ) → n ≤ m → (m - n) * page_bytes size + n * page_bytes size ≡ m * page_bytes size
pages-left size n m less = grind (arith, nat_tests)

-- places some bytes on are in the same page
pub same-page-on : (size : PageSize) (place k : ℕ) → place % page_bytes size + k < page_bytes size → (place + k) / page_bytes size ≡ place / page_bytes size
same-page-on size place k within = grind (arith, nat_tests)

pub rest-on : (size : PageSize) (place k : ℕ) → place % page_bytes size + k < page_bytes size → (place + k) % page_bytes size ≡ place % page_bytes size + k
rest-on size place k within = grind (arith, nat_tests)

-- a page has some bytes
pub page-some : (size : PageSize) → 2048 ≤ page_bytes size
page-some size = grind (arith, nat_tests)

-- the private frames: those of sixteen seats, each with so many pages that they have 16,384 bytes
pub seat-bytes : (size : PageSize) (seat index : ℕ) → (seat * seat_pages size + index) * page_bytes size ≡ seat * 16384 + index * page_bytes size
seat-bytes size seat index = grind (arith, nat_tests)

pub private-whole : (size : PageSize) → private_frames size * page_bytes size ≡ 262144
private-whole size = grind (arith, nat_tests)

-- the frame of a seat's page is a private one, and tells the seat and the page
pub seat-frame : (size : PageSize) (seat index : ℕ) → seat < 16 → index < seat_pages size → seat * seat_pages size + index < private_frames size
seat-frame size seat index few small = grind (arith, nat_tests)

pub seat-first : (size : PageSize) (seat index : ℕ) → index < seat_pages size → (seat * seat_pages size + index) / seat_pages size ≡ seat
seat-first size seat index small = grind (arith, nat_tests)

pub seat-rest : (size : PageSize) (seat index : ℕ) → index < seat_pages size → (seat * seat_pages size + index) % seat_pages size ≡ index
seat-rest size seat index small = grind (arith, nat_tests)

-- a frame of another seat's pages lies before or behind those of a seat
pub seat-before : (size : PageSize) (seat frame : ℕ) → frame < seat * seat_pages size → frame / seat_pages size < seat
seat-before size seat frame low = grind (arith, nat_tests)

pub seat-behind : (size : PageSize) (seat frame : ℕ) → seat * seat_pages size + seat_pages size ≤ frame → seat < frame / seat_pages size
seat-behind size seat frame past = grind (arith, nat_tests)

-- the pages of a seat end where private storage does at the latest
pub seat-room : (size : PageSize) (seat : ℕ) → seat < 16 → seat * seat_pages size + seat_pages size ≤ private_frames size
seat-room size seat few = grind (arith, nat_tests)

-- a byte of a seat's private storage is in one of its pages
pub seat-page : (size : PageSize) (page byte count : ℕ) → 0 < count → page * page_bytes size + byte + count ≤ 16384 → page < seat_pages size
seat-page size page byte count some fits = grind (arith, nat_tests)

-- frames of the store lie behind private storage
pub frame-high : (size : PageSize) (frame : ℕ) → private_frames size ≤ frame → 262144 ≤ frame * page_bytes size
frame-high size frame high = grind (arith, nat_tests)

-- a place among some bytes of one page is of their page
pub page-between : (size : PageSize) (page o from n : ℕ) → o < page_bytes size → from % page_bytes size + n ≤ page_bytes size
    → from ≤ page * page_bytes size + o → page * page_bytes size + o < from + n → page ≡ from / page_bytes size
page-between size page o from n less within above below = grind (arith, nat_tests)

pub line-few : (size : PageSize) (o : ℕ) → o < page_bytes size → o / line_bytes size < 16
line-few size o below = grind (arith, nat_tests)

-- lines ascend with places, and a place further than another by one lies at most one line further
pub line-order : (size : PageSize) (low high : ℕ) → low ≤ high → low / line_bytes size ≤ high / line_bytes size
line-order size low high less = grind (arith, nat_tests)

-- places some bytes on are in the same line
pub same-line-on : (size : PageSize) (place k : ℕ) → place % line_bytes size + k < line_bytes size → (place + k) / line_bytes size ≡ place / line_bytes size
same-line-on size place k within = grind (arith, nat_tests)

-- some bytes behind a line are in the next
pub next-line : (size : PageSize) (place k last : ℕ) → line_bytes size ≤ place % line_bytes size + k → k ≤ last → last < 64 → (place + k) / line_bytes size ≡ (place + last) / line_bytes size
next-line size place k last past less few = grind (arith, nat_tests)

-- the line of a place, and its byte in it, by its byte in its page
pub line-in : (size : PageSize) (place byte : ℕ) → place % page_bytes size ≡ byte → place / line_bytes size % 16 ≡ byte / line_bytes size
line-in size place byte is = grind (arith, nat_tests)

pub line-rest : (size : PageSize) (place byte : ℕ) → place % page_bytes size ≡ byte → place % line_bytes size ≡ byte % line_bytes size
line-rest size place byte is = grind (arith, nat_tests)

-- a byte of a frame is at one place
pub spot-same :
    (size : PageSize) (f g o p : ℕ) → o < page_bytes size → p < page_bytes size → f * page_bytes size + o ≡ g * page_bytes size + p → (f ≡ g) × (o ≡ p)
spot-same size f g o p a b is = grind (arith, nat_tests)

-- the page of a line, and the line in its page
pub page-of-line : (size : PageSize) (place : ℕ) → place / line_bytes size / 16 ≡ place / page_bytes size
page-of-line size place = grind (arith, nat_tests)

-- a line of a page has its bytes
pub line-of-rest : (size : PageSize) (o line : ℕ) → line * line_bytes size ≤ o → o < line * line_bytes size + line_bytes size → o / line_bytes size ≡ line
line-of-rest size o line low high = grind (arith, nat_tests)

pub rest-of-line : (size : PageSize) (o line : ℕ) → o / line_bytes size ≡ line → (line * line_bytes size ≤ o) × (o < line * line_bytes size + line_bytes size)
rest-of-line size o line is = grind (arith, nat_tests)

pub line-within : (size : PageSize) (line : ℕ) → line < 16 → line * line_bytes size + line_bytes size ≤ page_bytes size
line-within size line below = grind (arith, nat_tests)

-- the page of a place of the store
pub page-below : (d : Layout) (place : ℕ) → place < byte_count d → page_of d place < page_count d
page-below d place below = grind (arith, nat_tests, byte_count_pages)
