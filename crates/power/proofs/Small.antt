-- The small store meets the laws of a page store. Assumes nothing.
use Prim.Native.Nat.{◌<◌}
use mathlib.Core.Path.{◌≡◌, refl, sym, subst}
use mathlib.Core.Bool.{Bool, true, false, false≢true}
use mathlib.Core.Logic.{◌↔◌}
use native.Mathlib.Omega.{arith}
use Rattle.power.specs.Lawful.{Lawful}
use Rattle.power.specs.Small.{SmallRecord, row, wide, SmallPage, clear, ragged, sheet, SmallMask, keeps_nothing, keeps_some, keeps_all}
use Rattle.power.specs.Small.{small_blank, small_programmed, small_marked, small_has_mark, small_edition, small_per_page, same, small}

small_self : (target : SmallPage) (keep : SmallMask) → small_programmed target target keep ≡ target
small_self clear keep = refl
small_self ragged keep = refl
small_self (sheet f s rows) keep = refl

small_again : (old target : SmallPage) (keep : SmallMask)
    → small_programmed (small_programmed old target keep) target keeps_nothing ≡ small_programmed old target keeps_nothing
small_again old clear keep = refl
small_again clear ragged keep = refl
small_again ragged ragged keep = refl
small_again (sheet f s rows) ragged keep = refl
small_again clear (sheet g t more) keeps_nothing = refl
small_again clear (sheet g t more) keeps_some = refl
small_again clear (sheet g t more) keeps_all = refl
small_again ragged (sheet g t more) keeps_nothing = refl
small_again ragged (sheet g t more) keeps_some = refl
small_again ragged (sheet g t more) keeps_all = refl
small_again (sheet f s rows) (sheet g t more) keep = refl

small_room : (e : Bool) → 0 < small_per_page e
small_room false = omega arith
small_room true = omega arith

same_own : (e : Bool) → same e e ≡ true
same_own false = refl
same_own true = refl

same_is : (e f : Bool) → same e f ≡ true → f ≡ e
same_is false false h = refl
same_is false true h = absurd (false≢true h)
same_is true false h = absurd (false≢true h)
same_is true true h = refl

small_marked_lem : (e : Bool) (r : SmallRecord) → same e (small_edition (small_marked r)) ≡ same e (small_edition r)
small_marked_lem e (row armed mark n) = refl
small_marked_lem e (wide armed mark n) = refl

abbrev IsClear : SmallPage → Type 0
IsClear clear = Unit {0}
IsClear ragged = ⊥
IsClear (sheet f s rows) = ⊥

blank_told : (page : SmallPage) → (small_blank page ≡ true) ↔ (page ≡ clear)
blank_told clear = (λ h. refl, λ h. refl)
blank_told ragged = (λ h. absurd (false≢true h), λ h. absurd (subst IsClear (sym h) tt))
blank_told (sheet f s rows) = (λ h. absurd (false≢true h), λ h. absurd (subst IsClear (sym h) tt))

mark_set : (r : SmallRecord) → small_has_mark (small_marked r) ≡ true
mark_set (row armed mark n) = refl
mark_set (wide armed mark n) = refl

pub small_lawful : Lawful small
small_lawful =
    record {
      blank_told = blank_told;
      some_room = small_room;
      joins_own = λ r. same_own (small_edition r);
      joins_is = λ e r h. same_is e (small_edition r) h;
      joins_marked = small_marked_lem;
      fits_marked = λ r h. tt;
      mark_set = mark_set;
      decode_blank = refl;
      decode_encode = λ e f s rows h k p. refl;
      program_blank = λ e f s rows h k p. refl;
      program_again = small_again;
      program_self = small_self;
      flight_after_lem = λ f h. refl;
      sequence_after_lem = λ s h. refl;
    }
