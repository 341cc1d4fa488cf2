-- Where torn pages come from: at most one from a power-on, only where a program was cut or failed, and gone again if a later program makes the page
-- whole. And what may stand behind one. proofs/Torn and proofs/TornEnds show each statement here.
use Rattle.std.specs.Prelude.{ℕ, suc, ◌+◌, ◌≤◌, ◌<◌, ◌⊎◌, ◌≡◌, Bool, true, false, List, [], ◌∷◌, Option, None, Some}
use Rattle.power.specs.Pages.{Decoded, PageStore}
use Rattle.power.specs.Reading.{Whole, Torn, page_at}
use Rattle.power.specs.Calls.{drain, write_pending}
use Rattle.power.specs.Life.{Device, Call, offers, drains, writes, powers, begin, ordered, power_on, call, lives, unpowered, AllAssumed, Assumed}
use Rattle.power.specs.Theorem.{erased, after}
use Rattle.power.specs.Segments.{Board}

module _ {Page Record Mask : Type 0} (S : PageStore Page Record Mask) where
  -- a page counts as torn if it is used and doesn't decode
  abbrev pub torn_one : Bool → Option (Decoded Record) → ℕ
  torn_one blank (Some content) = 0
  torn_one true None = 0
  torn_one false None = 1

  -- how many torn pages a log has
  abbrev pub torn_in : List Page → ℕ
  torn_in [] = 0
  torn_in (page ∷ log) = torn_one (S.is_blank page) (S.decode page) + torn_in log

  -- calls of one power-on
  abbrev pub NoPowerOn : List (Call S) → Type 0
  NoPowerOn [] = Unit {0}
  NoPowerOn (offers r ∷ calls) = NoPowerOn calls
  NoPowerOn (drains order ∷ calls) = NoPowerOn calls
  NoPowerOn (writes succeed next ∷ calls) = NoPowerOn calls
  NoPowerOn (powers ∷ calls) = ⊥

  -- what the program that a call left unfinished should have made and what it left in its place, if there was one: it was cut, or it failed
  abbrev pub unfinished_in : Call S → Device S → Option (Page × Page)
  unfinished_in (offers r) d = None
  unfinished_in (drains order) d = (drain S order (ordered S d order)).unfinished
  unfinished_in (writes succeed next) d = (write_pending S (begin S d succeed next)).unfinished
  unfinished_in powers d = None

  -- a call that left no program unfinished
  abbrev pub Finished : Call S → Device S → Type 0
  Finished c d = unfinished_in c d ≡ None

  abbrev pub AllFinished : List (Call S) → Device S → Type 0
  AllFinished [] d = Unit {0}
  AllFinished (c ∷ calls) d = Finished c d × AllFinished calls (call S c d)

  -- the torn pages of a log in a power-on that began with so many: at most one more, after a cut too; and while the power is on, only as long as a page
  -- waits, so that a program which finishes the page makes it whole
  pub record TornOnce (before : ℕ) (d : Device S) : Type 0 where
    pub at_most_one : torn_in d.log ≤ suc before
    pub only_waiting : d.writer.writable ≡ true → d.writer.waiting ≡ None → torn_in d.log ≤ before

  -- so it is in every power-on of every life from an erased log
  abbrev pub AtMostOneTorn : Type 0
  AtMostOneTorn =
      (pages : ℕ) → 0 < pages → pages + 2 ≤ S.limit → (life calls : List (Call S)) → AllAssumed S life (unpowered S (erased S pages))
      → AllAssumed S calls (power_on S (after S pages life)) → NoPowerOn calls
      → TornOnce (torn_in (after S pages life).log) (lives S calls (power_on S (after S pages life)))

  -- where no program of some calls was cut and none failed, no page is torn that was not torn before
  abbrev pub NoneTornIfFinished : Type 0
  NoneTornIfFinished =
      (pages : ℕ) → 0 < pages → pages + 2 ≤ S.limit → (life calls : List (Call S)) → AllAssumed S life (unpowered S (erased S pages))
      → AllAssumed S calls (after S pages life) → AllFinished calls (after S pages life)
      → torn_in (lives S calls (after S pages life)).log ≤ torn_in (after S pages life).log

  -- A TORN PAGE IS WHAT AN UNFINISHED PROGRAM LEFT: after every call of every life each torn page was torn before it, or is what the program left that the
  -- call did not finish
  abbrev pub TornIsLeft : Type 0
  TornIsLeft =
      (pages : ℕ) → 0 < pages → pages + 2 ≤ S.limit → (life : List (Call S)) (c : Call S) → AllAssumed S life (unpowered S (erased S pages))
      → Assumed S c (after S pages life) → (i : ℕ) → Torn S (page_at S (call S c (after S pages life)).log i)
      → Torn S (page_at S (after S pages life).log i)
      ⊎ ((page : Page) × (unfinished_in c (after S pages life) ≡ Some (page, page_at S (call S c (after S pages life)).log i)))

  -- ---- what stands behind a torn page

  -- the first of a page's rows has the boot-session bit
  abbrev pub BeginsMarked : List Record → Type 0
  BeginsMarked [] = Unit {0}
  BeginsMarked (r ∷ rows) = S.has_mark r ≡ true

  -- a whole page right behind a torn one begins with it
  abbrev pub MarkAfterTorn : List Page → Type 0
  MarkAfterTorn log =
      (i : ℕ) (content : Decoded Record) → Torn S (page_at S log i) → Whole S (page_at S log (suc i)) content → BeginsMarked content.rows

  -- A TORN PAGE IS THE END OF A POWER-ON: behind it stands nothing, another torn page, or the first page of a later power-on. The strict grammar alone
  -- would allow one between two flights of a power-on.
  abbrev pub TornEndsPowerOn : Type 0
  TornEndsPowerOn = (pages : ℕ) (life : List (Call S)) → Board S pages life → MarkAfterTorn (after S pages life).log
