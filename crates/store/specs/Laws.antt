-- What document 01 says of the store beyond a single call, each sentence as a statement; proofs/ shows them.
use Rattle.std.specs.Prelude.{ℕ, ◌+◌, ◌≤◌, ◌<◌, ◌≡◌, true, List, [], eqb, length, get_or, replicate}
use Rattle.laws.specs.Refusals.{device}
use Rattle.laws.specs.Answers.{refuses}
use Rattle.laws.specs.Bits.{bit_clear}
use Rattle.layout.specs.Layout.{valid_capacity, pages_in, page_at}
use Rattle.words.specs.Words.{Bytes}
use Rattle.store.specs.Store.{replied, read_told, after_read, part, programmed_byte, programmed_bytes, programmed}
use Rattle.store.specs.Store.{mask, program_told, after_program, blank_sector, erased, erase_told, after_erase}

-- ---- a program

-- "Programming a byte gives old AND (target OR keep)", the mask "from its start": mask byte i belongs to target byte i
abbrev pub EachByte : Type 0
EachByte = (image : List ℕ) (at : ℕ) (target keep : List ℕ) → at + length target ≤ length image → (i : ℕ) → i < length target
    → get_or (programmed image at target keep) (at + i) 0 ≡ programmed_byte (get_or image (at + i) 0) (get_or target i 0) (get_or keep i 0)

-- two images that differ at most from an address on, in n bytes
pub record OnlyAt (at n : ℕ) (before after : List ℕ) : Type 0 where
  pub long : length after ≡ length before
  pub byte_below : (i : ℕ) → i < at → get_or after i 0 ≡ get_or before i 0
  pub byte_above : (i : ℕ) → at + n ≤ i → get_or after i 0 ≡ get_or before i 0
  pub part_below : (b l : ℕ) → b + l ≤ at → part b l after ≡ part b l before
  pub part_above : (b l : ℕ) → at + n ≤ b → part b l after ≡ part b l before

-- a program touches only its own bytes
abbrev pub ProgramOnlyIts : Type 0
ProgramOnlyIts = (image : List ℕ) (at : ℕ) (target keep : List ℕ) → at + length target ≤ length image
    → OnlyAt at (length target) image (programmed image at target keep)

-- its own bytes depend on nothing else: a page is programmed by itself
abbrev pub ProgramItsPart : Type 0
ProgramItsPart = (image : List ℕ) (at : ℕ) (target keep : List ℕ) → at + length target ≤ length image
    → part at (length target) (programmed image at target keep) ≡ programmed_bytes (part at (length target) image) target keep

-- a page programmed on a blank one is that page
abbrev pub PageOnBlank : Type 0
PageOnBlank = (page : List ℕ) → Bytes page → programmed_bytes (replicate (length page) 255) page [] ≡ page

-- a page that was programmed stays what it is, whatever another program of it keeps
abbrev pub PageOnItself : Type 0
PageOnItself = (page keep : List ℕ) → programmed_bytes page page keep ≡ page

-- "the same page goes to the same address again, and AND makes it whole": a program after a failed one of the same bytes
-- leaves what a program at first would have
abbrev pub PageAgain : Type 0
PageAgain = (old page keep : List ℕ) → programmed_bytes (programmed_bytes old page keep) page [] ≡ programmed_bytes old page []

abbrev pub ProgramAgain : Type 0
ProgramAgain = (image : List ℕ) (at : ℕ) (target keep : List ℕ) → at + length target ≤ length image
    → programmed (programmed image at target keep) at target [] ≡ programmed image at target []

-- the same of the calls: one that succeeds, after one with any reply
abbrev pub CallAgain : Type 0
CallAgain = (capacity : ℕ) (image : List ℕ) (address : ℕ) (target keep : List ℕ) (reply : ℕ)
    → after_program capacity (after_program capacity image address target keep reply) address target keep 0
    ≡ after_program capacity image address target keep 0

-- a program of no bytes at an address inside the image or at its end alters nothing and is answered
abbrev pub EmptyProgram : Type 0
EmptyProgram = (capacity : ℕ) (image : List ℕ) (address : ℕ) (keep : List ℕ) (reply : ℕ) → valid_capacity capacity ≡ true
    → length image ≡ capacity → length keep ≡ 256 → address ≤ capacity
    → (program_told capacity image address [] keep reply ≡ replied reply) × (after_program capacity image address [] keep reply ≡ image)

-- a page of the log, programmed: never refused 17, the page's own bytes by themselves, every other page as it was
pub record PageProgrammed (capacity : ℕ) (image : List ℕ) (i : ℕ) (page keep : List ℕ) (reply : ℕ) : Type 0 where
  pub answers : program_told capacity image (page_at i) page keep reply ≡ replied reply
  pub only : OnlyAt (page_at i) 256 image (after_program capacity image (page_at i) page keep reply)
  pub own : part (page_at i) 256 (after_program capacity image (page_at i) page keep reply)
      ≡ programmed_bytes (part (page_at i) 256 image) page (mask (eqb reply 0) keep)
  pub others : (j : ℕ) → (j ≡ i → ⊥) → part (page_at j) 256 (after_program capacity image (page_at i) page keep reply) ≡ part (page_at j) 256 image

abbrev pub LogPage : Type 0
LogPage = (capacity : ℕ) (image : List ℕ) (i : ℕ) (page keep : List ℕ) (reply : ℕ) → valid_capacity capacity ≡ true
    → length image ≡ capacity → i < pages_in capacity → length page ≡ 256 → length keep ≡ 256
    → PageProgrammed capacity image i page keep reply

-- no bit goes from 0 to 1 but by an erase
abbrev pub NoBitRises : Type 0
NoBitRises = (capacity : ℕ) (image : List ℕ) (address : ℕ) (target keep : List ℕ) (reply k i : ℕ)
    → bit_clear k (get_or image i 0) ≡ true → bit_clear k (get_or (after_program capacity image address target keep reply) i 0) ≡ true

-- ---- an erase

-- "An erase gives 0xff", and touches only its sector
pub record SectorErased (at : ℕ) (before after : List ℕ) : Type 0 where
  pub only : OnlyAt at 4096 before after
  pub blank : part at 4096 after ≡ blank_sector

abbrev pub EraseOnlyIts : Type 0
EraseOnlyIts = (image : List ℕ) (at : ℕ) → at + 4096 ≤ length image → SectorErased at image (erased image at)

-- "a failed erase alters nothing"
abbrev pub FailedErase : Type 0
FailedErase = (capacity : ℕ) (image : List ℕ) (address reply : ℕ) → (reply ≡ 0 → ⊥) → after_erase capacity image address reply ≡ image

-- ---- calls, refused or not

-- a program touches only its own bytes, an erase only its sector
abbrev pub ProgramTouches : Type 0
ProgramTouches = (capacity : ℕ) (image : List ℕ) (address : ℕ) (target keep : List ℕ) (reply : ℕ)
    → OnlyAt address (length target) image (after_program capacity image address target keep reply)

abbrev pub EraseTouches : Type 0
EraseTouches = (capacity : ℕ) (image : List ℕ) (address reply : ℕ) → OnlyAt address 4096 image (after_erase capacity image address reply)

-- "a refusal alters no lent byte, but for what a failing device itself stored"
abbrev pub ReadRefused : Type 0
ReadRefused = (capacity : ℕ) (image faults : List ℕ) (address : ℕ) (output : List ℕ) (number fault : ℕ)
    → read_told capacity image faults address output ≡ refuses number fault → after_read capacity image faults address output ≡ output

abbrev pub ProgramRefused : Type 0
ProgramRefused = (capacity : ℕ) (image : List ℕ) (address : ℕ) (target keep : List ℕ) (reply number fault : ℕ)
    → program_told capacity image address target keep reply ≡ refuses number fault → (number ≡ device → ⊥)
    → after_program capacity image address target keep reply ≡ image

abbrev pub EraseRefused : Type 0
EraseRefused = (capacity : ℕ) (image : List ℕ) (address reply number fault : ℕ)
    → erase_told capacity image address reply ≡ refuses number fault → after_erase capacity image address reply ≡ image
