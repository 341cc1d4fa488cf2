-- The laws that a page store must meet: what demand 3 has to know of pages, records and masks, and all that the theorems ask of a store. Each
-- theorem is over a store and these laws of it; power_pages shows them of the page of 256 bytes, proofs/Small of the small store.
-- From document 01, "Bytes on flash" and "Writer and store".
use Rattle.std.specs.Prelude.{ℕ, suc, ◌<◌, ◌≡◌, true, ◌↔◌, List, None, Some}
use Rattle.power.specs.Pages.{PageStore, Packs}

pub record Lawful {Page Record Mask : Type 0} (S : PageStore Page Record Mask) : Type 0 where
  -- a page is told to be blank exactly if it is the blank page
  pub blank_told : (page : Page) → (S.is_blank page ≡ true) ↔ (page ≡ S.blank)
  -- a page has room for one record at least
  pub some_room : (e : S.Edition) → 0 < S.per_page e
  -- a flight's first record joins it, only records of its edition do, and the boot-session bit changes no record's edition
  pub joins_own : (r : Record) → S.joins (S.edition r) r ≡ true
  pub joins_is : (e : S.Edition) (r : Record) → S.joins e r ≡ true → S.edition r ≡ e
  pub joins_marked : (e : S.Edition) (r : Record) → S.joins e (S.marked r) ≡ S.joins e r
  -- the record with the boot-session bit is a record, and has it
  pub fits_marked : (r : Record) → S.Fits r → S.Fits (S.marked r)
  pub mark_set : (r : Record) → S.has_mark (S.marked r) ≡ true
  -- a blank page doesn't decode, and a page that was made of rows decodes to them
  pub decode_blank : S.decode S.blank ≡ None
  pub decode_encode : (e : S.Edition) (f s : ℕ) (rows : List Record) → f < S.limit → s < S.limit → Packs S e rows
      → S.decode (S.encode f s rows) ≡ Some (record { flight = f; sequence = s; rows = rows })
  -- a program that succeeds on a blank page makes it; over what an unfinished one left it makes the same; a whole page stays under it
  pub program_blank : (e : S.Edition) (f s : ℕ) (rows : List Record) → f < S.limit → s < S.limit → Packs S e rows
      → S.programmed S.blank (S.encode f s rows) S.clean ≡ S.encode f s rows
  pub program_again : (old target : Page) (keep : Mask) → S.programmed (S.programmed old target keep) target S.clean ≡ S.programmed old target S.clean
  pub program_self : (target : Page) (keep : Mask) → S.programmed target target keep ≡ target
  -- below the limit the next number is one more
  pub flight_after_lem : (f : ℕ) → f < S.limit → S.flight_after f ≡ suc f
  pub sequence_after_lem : (s : ℕ) → s < S.limit → S.sequence_after s ≡ suc s
