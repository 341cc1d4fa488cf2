-- The page of 256 bytes meets the laws of a page store. Assumes nothing.
use Prim.Native.Nat.{ℕ, suc, ◌-◌, ◌^◌, ◌<◌}
use mathlib.Core.Path.{◌≡◌, refl, sym, ap, ◌∙◌}
use mathlib.Core.Bool.{true}
use mathlib.Core.Logic.{◌↔◌}
use mathlib.Core.List.{List, [], ◌∷◌}
use Rattle.std.specs.Prelude.{None, Some}
use native.Mathlib.Omega.{arith}
use borrow.Author.Tests.{eq-eqb}
use lib.Bits.{or_lt, or_add_and, and_high}
use lib.ListN.{replicate}
use Rattle.laws.specs.Bits.{bit}
use Rattle.power.specs.Pages.{Each, Packs}
use Rattle.power.specs.Lawful.{Lawful}
use Rattle.words.specs.Words.{same_bytes}
use Rattle.words.proofs.Same.{same_equal, same_refl}
use Rattle.blackbox.specs.Record.{Fit}
use Rattle.blackbox.specs.Page.{blank_page, decoded_as, decoded, encoded_page}
use Rattle.blackbox.specs.Laws.{EachFit}
use Rattle.blackbox.specs.declared.FlightRecord.{FlightRecord}
use Rattle.blackbox.proofs.Laws.{records_read_back, length_encoded, bytes_encoded}
use Rattle.store.specs.Store.{programmed_bytes}
use Rattle.store.proofs.Laws.{page_on_blank, page_on_itself, page_again}
use Rattle.assembler.specs.Assembler.{marked}
use Rattle.blackbox.specs.Flight.{next_flight}
use Rattle.power_pages.specs.Store.{content, has_boot_bit, real}

-- the boot-session bit leaves every field fit
pub fits_marked : (r : FlightRecord) → Fit r → Fit (marked true r)
unfolding marked
fits_marked r h =
    record {
      timestamp = h.timestamp;
      control = h.control;
      imu = h.imu;
      flag = or_lt 16 r.flags 4 h.flag (omega arith);
      raw = h.raw;
      filtered = h.filtered;
      command = h.command;
      pids = h.pids;
      thrust = h.thrust;
      motor = h.motor;
    }

-- rows that a page can hold
abbrev pub Rows : List FlightRecord → Type 0
Rows rows = Packs real tt rows

each_fit : (rows : List FlightRecord) → Each (λ r. Fit r × (◌≡◌ {A = Unit {0}} tt tt)) rows → EachFit rows
each_fit [] h = tt
each_fit (r ∷ rows) h = (h.0.0, each_fit rows h.1)

pub same_blank : (page : List ℕ) → (same_bytes page blank_page ≡ true) ↔ (page ≡ blank_page)
same_blank page = (same_equal page blank_page, λ e. rw e (same_refl blank_page))

pub content_blank : content blank_page ≡ None
unfolding content decoded decoded_as same_bytes
content_blank = refl

pub content_encoded : (f s : ℕ) (rows : List FlightRecord) → f < 2 ^ 32 - 1 → s < 2 ^ 32 - 1 → Rows rows
    → content (encoded_page f s rows) ≡ Some (record { flight = f; sequence = s; rows = rows })
unfolding content
content_encoded f s rows hf hs h =
    let back = records_read_back f s rows (omega arith) (omega arith) (each_fit rows h.each) (omega (arith, h.few)) in
    rw (back.trailer, back.all) refl

pub on_blank : (f s : ℕ) (rows : List FlightRecord) → Rows rows → programmed_bytes blank_page (encoded_page f s rows) [] ≡ encoded_page f s rows
on_blank f s rows h =
    ap (λ (n : ℕ). programmed_bytes (replicate n 255) (encoded_page f s rows) []) (sym (length_encoded f s rows (omega (arith, h.few))))
    ∙ page_on_blank (encoded_page f s rows) (bytes_encoded f s rows (omega (arith, h.few)))

pub next_is : (f : ℕ) → f < 2 ^ 32 - 1 → next_flight f ≡ suc f
unfolding next_flight
next_is f h = omega arith

-- the flags with 4 put in are as many more as they lacked, so that omega knows each of their bits
pub boot_bit : (r : FlightRecord) → has_boot_bit (marked true r) ≡ true
unfolding has_boot_bit marked bit
boot_bit r = omega (arith, or_add_and r.flags 4, and_high r.flags 1 2, eq-eqb)

pub real_lawful : Lawful real
real_lawful =
    record {
      blank_told = same_blank;
      some_room = λ e. omega arith;
      joins_own = λ r. refl;
      joins_is = λ e r h. refl;
      joins_marked = λ e r. refl;
      fits_marked = fits_marked;
      mark_set = boot_bit;
      decode_blank = content_blank;
      decode_encode = λ e f s rows hf hs h. content_encoded f s rows hf hs h;
      program_blank = λ e f s rows hf hs h. on_blank f s rows h;
      program_again = page_again;
      program_self = page_on_itself;
      flight_after_lem = next_is;
      sequence_after_lem = λ s h. omega arith;
    }
