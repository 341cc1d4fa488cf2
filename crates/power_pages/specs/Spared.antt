-- When an unfinished program surely leaves a page that doesn't decode: "at 240 "FB"", so a 0 bit of those two bytes that is left unprogrammed is a
-- scar, whatever the checksum would say. proofs/Spared shows each statement here.
use Rattle.std.specs.Prelude.{ℕ, ◌+◌, ◌<◌, ◌≡◌, List, get_or, None}
use Rattle.laws.specs.Bits.{bit}
use Rattle.power.specs.Spared.{Scarring}
use Rattle.store.specs.Store.{programmed_bytes}
use Rattle.blackbox.specs.Page.{blank_page, magic}
use Rattle.power_pages.specs.Store.{content, real}

-- a 0 bit of "FB": which byte of the two, and which bit of that
pub record MagicBit : Type 0 where
  pub byte : ℕ
  pub place : ℕ
  pub in_magic : byte < 2
  pub in_byte : place < 8
  pub zero : bit place (get_or magic byte 0) ≡ 0

-- the bit is 1 where those two stand: of a page, that it is not programmed; of a keep mask, that a program leaves it as it was
abbrev pub Unprogrammed : MagicBit → List ℕ → Type 0
Unprogrammed b bytes = bit b.place (get_or bytes (240 + b.byte) 0) ≡ 1

-- A PROGRAM OF A BLANK PAGE THAT LEAVES A 0 BIT OF "FB" UNPROGRAMMED LEAVES A PAGE THAT DOESN'T DECODE, whatever is programmed
abbrev pub SparedMagic : Type 0
SparedMagic = (b : MagicBit) (target keep : List ℕ) → Unprogrammed b keep → content (programmed_bytes blank_page target keep) ≡ None

-- and so do any number of programs that leave that bit: it is a scar
abbrev pub MagicScars : Type 0
MagicScars = (b : MagicBit) → Scarring real (Unprogrammed b) (Unprogrammed b)
