-- The NOR store. Document 01, "Writer and store": "The store is a lent image with one fault byte per 256 bytes; 0 reads
-- well. Each page is handed on as the 256 bytes from its address. Programming a byte gives old AND (target OR keep); keep
-- is 0 if it succeeds, and a lent 256-byte keep mask, from its start, if it doesn't. An erase gives 0xff."
use Rattle.std.specs.Prelude.{ℕ, ◌+◌, ◌/◌, ◌%◌, Bool, false, cond, List, [], ◌∷◌, ◌++◌, eqb, leb, ltb, length, get_or, take, drop, replicate}
use Rattle.std.specs.Int.Bits.{bit_and, bit_or}
use Rattle.laws.specs.Refusals.{invalid_layout, device, bad_length}
use Rattle.laws.specs.Answers.{Answer, gives, refuses, must, then}
use Rattle.layout.specs.Layout.{valid_capacity}
use Rattle.words.specs.Words.{placed}

-- "reads have no faults": one fault byte of 0 for each 256 bytes
abbrev pub no_faults : ℕ → List ℕ
no_faults capacity = replicate (capacity / 256) 0

-- "Order: 5, then 17": "image length not the capacity"
unfoldable pub on_image : {A : Type 0} → ℕ → ℕ → Answer A → Answer A
on_image capacity image_length rest = must (valid_capacity capacity) invalid_layout (must (eqb image_length capacity) bad_length rest)

-- then one more length that is lent with it
unfoldable pub on_lengths : {A : Type 0} → ℕ → ℕ → ℕ → ℕ → Answer A → Answer A
on_lengths capacity image_length other wanted rest = on_image capacity image_length (must (eqb other wanted) bad_length rest)

-- "fault bytes not one per 256"
abbrev pub on_store : {A : Type 0} → ℕ → ℕ → ℕ → Answer A → Answer A
on_store capacity image_length faults_length rest = on_lengths capacity image_length faults_length (capacity / 256) rest

-- "a page or keep mask not 256 bytes"
abbrev pub on_mask : {A : Type 0} → ℕ → ℕ → ℕ → Answer A → Answer A
on_mask capacity image_length keep_length rest = on_lengths capacity image_length keep_length 256 rest

-- a call whose value is left in lent bytes: whether it was refused
abbrev pub done : {A : Type 0} → Answer A → Answer (Unit {0})
done (gives a) = gives tt
done (refuses number fault) = refuses number fault

-- what it leaves there: "state and lent bytes stay" where it is refused
abbrev pub leaves : {A : Type 0} → A → Answer A → A
leaves old (gives a) = a
leaves old (refuses number fault) = old

-- a device's reply byte: "0 succeeds, another is its fault"
unfoldable pub replied : ℕ → Answer (Unit {0})
replied reply = cond (eqb reply 0) (gives tt) (refuses device reply)

-- ---- reading

-- "one fault byte per 256 bytes"
abbrev pub fault_at : List ℕ → ℕ → ℕ
fault_at faults address = get_or faults (address / 256) 0

-- "0 reads well"; a fault refuses what was to be read
unfoldable pub read_of : {A : Type 0} → List ℕ → ℕ → A → Answer A
read_of faults address value = cond (eqb (fault_at faults address) 0) (gives value) (refuses device (fault_at faults address))

-- some bytes of an image from an address on
abbrev pub part : ℕ → ℕ → List ℕ → List ℕ
part address n image = take n (drop address image)

-- bytes that cross no page and no image's end: "a program that crosses a page or the image's end" is refused
unfoldable pub in_one_page : ℕ → ℕ → ℕ → Bool
in_one_page capacity address n = cond (leb (address + n) capacity) (leb (address % 256 + n) 256) false

-- a read of some bytes in one page, or 6 with the fault byte that stands for them
unfoldable pub bytes_read : ℕ → List ℕ → List ℕ → ℕ → ℕ → Answer (List ℕ)
bytes_read capacity image faults address n =
    on_store capacity (length image) (length faults)
    (must (in_one_page capacity address n) bad_length (read_of faults address (part address n image)))

-- a read of as many bytes as the lent output has: what it answers, and what it leaves there
abbrev pub read_told : ℕ → List ℕ → List ℕ → ℕ → List ℕ → Answer (Unit {0})
read_told capacity image faults address output = done (bytes_read capacity image faults address (length output))

abbrev pub after_read : ℕ → List ℕ → List ℕ → ℕ → List ℕ → List ℕ
after_read capacity image faults address output = leaves output (bytes_read capacity image faults address (length output))

-- ---- programming

-- "Programming a byte gives old AND (target OR keep)"
abbrev pub programmed_byte : ℕ → ℕ → ℕ → ℕ
programmed_byte old target keep = bit_and old (bit_or target keep)

-- bytes programmed one by one with a mask "from its start"; past the mask's end keep is 0
unfoldable pub programmed_bytes : List ℕ → List ℕ → List ℕ → List ℕ
programmed_bytes [] target keep = []
programmed_bytes (old ∷ rest) [] keep = old ∷ rest
programmed_bytes (old ∷ rest) (t ∷ target) keep = programmed_byte old t (get_or keep 0 0) ∷ programmed_bytes rest target (drop 1 keep)

-- an image whose bytes from an address on are programmed
unfoldable pub programmed : List ℕ → ℕ → List ℕ → List ℕ → List ℕ
programmed image at target keep =
    take at image ++ (programmed_bytes (part at (length target) image) target keep ++ drop (at + length target) image)

-- "keep is 0 if it succeeds, and a lent 256-byte keep mask .. if it doesn't"
abbrev pub mask : Bool → List ℕ → List ℕ
mask succeeds keep = cond succeeds [] keep

-- what a program stores
unfoldable pub program_stores : ℕ → List ℕ → ℕ → List ℕ → List ℕ → ℕ → Answer (List ℕ)
program_stores capacity image address target keep reply =
    on_mask capacity (length image) (length keep)
    (must (in_one_page capacity address (length target)) bad_length
    (gives (programmed image address target (mask (eqb reply 0) keep))))

-- what a program answers, and the image that it leaves
abbrev pub program_told : ℕ → List ℕ → ℕ → List ℕ → List ℕ → ℕ → Answer (Unit {0})
program_told capacity image address target keep reply = then (program_stores capacity image address target keep reply) (λ _. replied reply)

abbrev pub after_program : ℕ → List ℕ → ℕ → List ℕ → List ℕ → ℕ → List ℕ
after_program capacity image address target keep reply = leaves image (program_stores capacity image address target keep reply)

-- ---- erasing

-- "An erase gives 0xff"
unfoldable pub blank_sector : List ℕ
blank_sector = replicate 4096 255

unfoldable pub erased : List ℕ → ℕ → List ℕ
erased image address = placed image address blank_sector

-- "an erase not at a multiple of 4,096 inside the image" is refused
unfoldable pub is_sector : ℕ → ℕ → Bool
is_sector capacity address = cond (ltb address capacity) (eqb (address % 4096) 0) false

-- what an erase stores: "a failed erase alters nothing"
unfoldable pub erase_stores : ℕ → List ℕ → ℕ → ℕ → Answer (List ℕ)
erase_stores capacity image address reply =
    on_image capacity (length image)
    (must (is_sector capacity address) bad_length (gives (cond (eqb reply 0) (erased image address) image)))

-- what an erase answers, and the image that it leaves
abbrev pub erase_told : ℕ → List ℕ → ℕ → ℕ → Answer (Unit {0})
erase_told capacity image address reply = then (erase_stores capacity image address reply) (λ _. replied reply)

abbrev pub after_erase : ℕ → List ℕ → ℕ → ℕ → List ℕ
after_erase capacity image address reply = leaves image (erase_stores capacity image address reply)
