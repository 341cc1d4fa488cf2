-- The laws of programs and erases, from each byte by itself. Assumes nothing.
use Prim.Native.Nat.{ℕ, suc, ◌+◌, ◌-◌, ◌≤◌, ◌<◌}
use mathlib.Core.Path.{◌≡◌, refl, sym, ap, ap₂, ◌∙◌}
use mathlib.Core.Bool.{Bool, true, false, cond}
use mathlib.Core.List.{List, [], ◌∷◌, ◌++◌, append_assoc}
use native.Mathlib.Omega.{arith}
use borrow.Author.Tests.{ne_eqb, leb-true, leb-false, ltb-true, ltb-false}
use lib.Bits.{bit_and, bit_or, or_zero_r}
use lib.Dec.{eqb, leb, ltb}
use lib.ListN.{length, get_or, take, drop, length-replicate, length-drop}
use lib.Seq.{length-take-le, get_or-drop, get_or-take, take-length}
use Rattle.laws.specs.Refusals.{bad_length}
use Rattle.laws.specs.Answers.{Answer, gives, refuses}
use Rattle.laws.specs.Bits.{bit_clear}
use Rattle.laws.proofs.Bits as Bits
use Rattle.laws.proofs.Chain.{passed}
use Rattle.layout.specs.Layout.{valid_capacity}
use Rattle.words.specs.Words.{placed}
use Rattle.words.proofs.Numbers.{placed_fits}
use Rattle.store.specs.Store.{leaves, part, in_one_page, programmed_byte, programmed_bytes, programmed, mask}
use Rattle.store.specs.Store.{program_stores, after_program, is_sector, blank_sector, erased, erase_stores, after_erase}
use Rattle.store.specs.Laws.{EachByte, OnlyAt, ProgramOnlyIts, ProgramItsPart, PageOnBlank, PageOnItself, PageAgain}
use Rattle.store.specs.Laws.{ProgramAgain, CallAgain, NoBitRises, EraseOnlyIts, FailedErase}
use Rattle.store.proofs.Bytes.{length_programmed_bytes, programmed_byte_lem}
use Rattle.store.proofs.Checks.{on_lengths_lem, held_image, held_lengths, one_page}
use Rattle.store.proofs.Replaced.{replaced, front_same, after_new, its_part, only_at, byte_new}

-- ---- bytes by themselves

pub page_on_blank : PageOnBlank
unfolding programmed_bytes
page_on_blank [] h = refl
page_on_blank (t ∷ ts) h =
    ap₂ {C = List ℕ} (λ (x : ℕ) (y : List ℕ). x ∷ y) (ap (bit_and 255) (or_zero_r t) ∙ Bits.program_blank t (h 0)) (page_on_blank ts (λ i. h (suc i)))

pub page_on_itself : PageOnItself
unfolding programmed_bytes
page_on_itself [] k = refl
page_on_itself (t ∷ ts) k = ap₂ {C = List ℕ} (λ (x : ℕ) (y : List ℕ). x ∷ y) (Bits.program_same t (get_or k 0 0)) (page_on_itself ts (drop 1 k))

pub page_again : PageAgain
unfolding programmed_bytes
page_again [] t k = refl
page_again (c ∷ cs) [] k = refl
page_again (c ∷ cs) (t ∷ ts) k =
    ap₂ {C = List ℕ} (λ (x : ℕ) (y : List ℕ). x ∷ y)
    (ap (bit_and (bit_and c (bit_or t (get_or k 0 0)))) (or_zero_r t) ∙ Bits.program_again t c (get_or k 0 0) ∙ ap (bit_and c) (sym (or_zero_r t)))
    (page_again cs ts (drop 1 k))

-- ---- in an image

module _ (m : List ℕ) (at : ℕ) (t k : List ℕ) (fits : at + length t ≤ length m) where
  new : List ℕ
  new = programmed_bytes (part at (length t) m) t k

  there : length (part at (length t) m) ≡ length t
  there = length-take-le (length t) (drop at m) (omega (arith, length-drop at m))

  new_long : length new ≡ length t
  unfolding new
  new_long = length_programmed_bytes (part at (length t) m) t k ∙ there

  -- a program replaces its own bytes
  replaces : programmed m at t k ≡ replaced m at new
  unfolding programmed new
  replaces = ap (λ (n : ℕ). take at m ++ (programmed_bytes (part at (length t) m) t k ++ drop (at + n) m)) (sym new_long)

  room : at + length new ≤ length m
  room = omega (arith, new_long)

  own_part : part at (length t) (programmed m at t k) ≡ new
  own_part = ap (λ (n : ℕ). part at n (programmed m at t k)) (sym new_long) ∙ ap (part at (length new)) replaces ∙ its_part m at new room

  pub program_its_part : part at (length t) (programmed m at t k) ≡ programmed_bytes (part at (length t) m) t k
  unfolding new
  program_its_part = own_part

  pub program_only_its : OnlyAt at (length t) m (programmed m at t k)
  program_only_its = rw (replaces, ← new_long) (only_at m at new room)

  pub each_byte : (i : ℕ) → i < length t → get_or (programmed m at t k) (at + i) 0 ≡ programmed_byte (get_or m (at + i) 0) (get_or t i 0) (get_or k i 0)
  unfolding new
  each_byte i h =
      ap (λ (l : List ℕ). get_or l (at + i) 0) replaces ∙ byte_new m at new room i (omega (arith, new_long))
      ∙ programmed_byte_lem (part at (length t) m) t k i (omega (arith, there)) h
      ∙ ap (λ (b : ℕ). programmed_byte b (get_or t i 0) (get_or k i 0)) (get_or-take (length t) (drop at m) i 0 h ∙ get_or-drop at m i 0)

  front : take at (programmed m at t k) ≡ take at m
  front = ap (take at) replaces ∙ front_same m at new room

  behind : drop (at + length t) (programmed m at t k) ≡ drop (at + length t) m
  behind =
      ap (λ (n : ℕ). drop (at + n) (programmed m at t k)) (sym new_long) ∙ ap (drop (at + length new)) replaces
      ∙ after_new m at new room ∙ ap (λ (n : ℕ). drop (at + n) m) new_long

  pub program_twice : programmed (programmed m at t k) at t [] ≡ programmed m at t []
  unfolding programmed new
  program_twice =
      ap₂ (λ (x y : List ℕ). x ++ y) front
      (ap₂ (λ (x y : List ℕ). x ++ y) (ap (λ (p : List ℕ). programmed_bytes p t []) own_part ∙ page_again (part at (length t) m) t k) behind)

  -- no bit rises
  pub bit_stays : (j i : ℕ) → bit_clear j (get_or m i 0) ≡ true → bit_clear j (get_or (programmed m at t k) i 0) ≡ true
  bit_stays j i h = go (ltb i at) refl (leb (at + length t) i) refl
    where
      same : get_or (programmed m at t k) i 0 ≡ get_or m i 0 → bit_clear j (get_or (programmed m at t k) i 0) ≡ true
      same e = ap (bit_clear j) e ∙ h

      inside : (n : ℕ) → at + n ≡ i → n < length t → bit_clear j (get_or (programmed m at t k) i 0) ≡ true
      inside n e l =
          ap (λ (x : ℕ). bit_clear j (get_or (programmed m at t k) x 0)) (sym e) ∙ ap (bit_clear j) (each_byte n l)
          ∙ Bits.clear_and j (get_or m (at + n) 0) (bit_or (get_or t n 0) (get_or k n 0)) (ap (λ (x : ℕ). bit_clear j (get_or m x 0)) e ∙ h)

      go : (p : Bool) → ltb i at ≡ p → (q : Bool) → leb (at + length t) i ≡ q → bit_clear j (get_or (programmed m at t k) i 0) ≡ true
      go true e q f = same (program_only_its.byte_below i (ltb-true i at e))
      go false e true f = same (program_only_its.byte_above i (leb-true (at + length t) i f))
      go false e false f =
          let low = ltb-false i at e in
          let high = leb-false (at + length t) i f in
          inside (i - at) (omega arith) (omega arith)

pub every_byte : EachByte
every_byte = each_byte

pub only_its_bytes : ProgramOnlyIts
only_its_bytes = program_only_its

pub its_bytes : ProgramItsPart
its_bytes = program_its_part

pub program_again : ProgramAgain
program_again = program_twice

-- ---- the calls

-- what a program stores where it is not refused
pub record Accepted (c : ℕ) (m : List ℕ) (a : ℕ) (t k : List ℕ) : Type 0 where
  pub valid : valid_capacity c ≡ true
  pub whole : length m ≡ c
  pub masked : length k ≡ 256
  pub in_page : in_one_page c a (length t) ≡ true

module _ (c : ℕ) (m : List ℕ) (a : ℕ) (t k : List ℕ) (reply : ℕ) where
  pub program_stores_lem : Accepted c m a t k → program_stores c m a t k reply ≡ gives (programmed m a t (mask (eqb reply 0) k))
  unfolding program_stores
  program_stores_lem h = on_lengths_lem c (length m) (length k) 256 _ h.valid h.whole h.masked ∙ rw h.in_page refl

  pub accepted : (x : List ℕ) → program_stores c m a t k reply ≡ gives x → Accepted c m a t k × (x ≡ programmed m a t (mask (eqb reply 0) k))
  unfolding program_stores
  accepted x e =
      let i = held_lengths c (length m) (length k) 256 _ x e in
      let p = passed (in_one_page c a (length t)) bad_length _ x i.3 in
      (record { valid = i.0; whole = i.1; masked = i.2; in_page = p.0 }, given _ x p.1)
    where
      given : (a b : List ℕ) → ◌≡◌ {A = Answer (List ℕ)} (gives a) (gives b) → b ≡ a
      given a b h = cc

  pub accepted_fits : Accepted c m a t k → a + length t ≤ length m
  accepted_fits h = omega (arith, one_page c a (length t) h.in_page, h.whole)

-- a refused program leaves the image, another what it stores
after_is : (m : List ℕ) (s : Answer (List ℕ)) (x : List ℕ) → s ≡ gives x → leaves m s ≡ x
after_is m s x e = rw e refl

pub call_again : CallAgain
call_again c m a t k reply = go (program_stores c m a t k reply) refl
  where
    go : (s : Answer (List ℕ)) → program_stores c m a t k reply ≡ s → after_program c (after_program c m a t k reply) a t k 0 ≡ after_program c m a t k 0
    go (refuses n x) e = rw e refl
    go (gives x) e =
        let h = accepted c m a t k reply x e in
        let fits = accepted_fits c m a t k reply h.0 in
        let is : after_program c m a t k reply ≡ programmed m a t (mask (eqb reply 0) k) = after_is m (program_stores c m a t k reply) x e ∙ h.1 in
        let long = (program_only_its m a t (mask (eqb reply 0) k) fits).long in
        let also : Accepted c (programmed m a t (mask (eqb reply 0) k)) a t k =
        record { valid = h.0.valid; whole = long ∙ h.0.whole; masked = h.0.masked; in_page = h.0.in_page } in
        ap (λ (y : List ℕ). after_program c y a t k 0) is
        ∙ after_is (programmed m a t (mask (eqb reply 0) k)) _ _ (program_stores_lem c (programmed m a t (mask (eqb reply 0) k)) a t k 0 also)
        ∙ program_twice m a t (mask (eqb reply 0) k) fits
        ∙ sym (after_is m _ _ (program_stores_lem c m a t k 0 h.0))

pub no_bit_rises : NoBitRises
no_bit_rises c m a t k reply j i h = go (program_stores c m a t k reply) refl
  where
    go : (s : Answer (List ℕ)) → program_stores c m a t k reply ≡ s → bit_clear j (get_or (after_program c m a t k reply) i 0) ≡ true
    go (refuses n x) e = rw e h
    go (gives x) e =
        let d = accepted c m a t k reply x e in
        rw (e, d.1) (bit_stays m a t (mask (eqb reply 0) k) (accepted_fits c m a t k reply d.0) j i h)

-- ---- an erase

sector_long : length blank_sector ≡ 4096
unfolding blank_sector
sector_long = length-replicate {A = ℕ} 4096 255

pub erase_only_its : EraseOnlyIts
unfolding erased
erase_only_its m at fits =
    let room : at + length blank_sector ≤ length m = omega (arith, sector_long) in
    let is : placed m at blank_sector ≡ replaced m at blank_sector =
    placed_fits m at blank_sector room
    ∙ append_assoc (take at m) (take (length blank_sector) blank_sector) (drop (at + length blank_sector) m)
    ∙ ap (λ (l : List ℕ). take at m ++ (l ++ drop (at + length blank_sector) m)) (take-length blank_sector) in
    record {
      only = rw (is, ← sector_long) (only_at m at blank_sector room);
      blank = ap (part at 4096) is ∙ rw (← sector_long) (its_part m at blank_sector room);
    }

pub failed_erase : FailedErase
unfolding erase_stores
failed_erase c m a reply h = go (erase_stores c m a reply) refl
  where
    go : (s : Answer (List ℕ)) → erase_stores c m a reply ≡ s → after_erase c m a reply ≡ m
    go (refuses n x) e = rw e refl
    go (gives x) e =
        let i = held_image c (length m) _ x e in
        let p = passed (is_sector c a) bad_length _ x i.2 in
        rw e (kept (eqb reply 0) (ne_eqb reply 0 h) x p.1)
      where
        kept : (q : Bool) → q ≡ false → (x : List ℕ) → ◌≡◌ {A = Answer (List ℕ)} (gives (cond q (erased m a) m)) (gives x) → x ≡ m
        kept true w x y = absurd (let z : ◌≡◌ {A = ℕ} 0 1 = cc in omega arith)
        kept false w x y = cc
