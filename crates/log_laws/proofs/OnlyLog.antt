-- Drain and write_pending touch only pages of the log: each program touches its own page, which lies there. Assumes nothing.
use Prim.Native.Nat.{ℕ, zero, suc, ◌+◌, ◌*◌, ◌≤◌, ◌<◌}
use mathlib.Core.Path.{◌≡◌, refl, ap, ◌∙◌}
use mathlib.Core.Bool.{Bool, true, false, cond}
use Rattle.std.specs.Prelude.{Option, None, Some, IfSome, unwrap_or, List, []}
use native.Mathlib.Omega.{arith}
use borrow.Author.Tests.{eqb-true, ltb-true}
use lib.Dec.{eqb, ltb}
use lib.ListN.{length, take, drop}
use Rattle.std.proofs.Common.{take-append-drop, ◌++◌}
use Rattle.laws.specs.Refusals.{invalid_layout, bad_length}
use Rattle.laws.specs.Answers.{gives, must}
use Rattle.layout.specs.Layout.{log_start, valid_capacity, pages_in, page_at}
use Rattle.layout.proofs.Capacity.{valid}
use Rattle.store.specs.Store.{leaves, mask, on_image, on_lengths, programmed_bytes, programmed}
use Rattle.store.specs.Laws.{OnlyAt}
use Rattle.store.proofs.Laws.{only_its_bytes}
use Rattle.log_state.specs.Writer.{has_pending, fetched, fetched_if_writable}
use Rattle.log_state.specs.WellFormed.{SoundWriter}
use Rattle.log_state.specs.declared.LogWriter.{LogWriter}
use Rattle.log_state.proofs.Sound.{fetched_sound, fetched_if_sound}
use Rattle.log_writer.specs.Pass.{begin, with_writer, busy_now, kept_by, turn, programmed_page, turn_image, turns_image, drain_image}
use Rattle.log_writer.specs.Calls.{goes_well, after_drain, write_image, after_write}
use Rattle.log_writer.specs.WellFormed.{SoundPass}
use Rattle.log_writer.specs.declared.Pass.{Pass}
use Rattle.log_writer.specs.declared.DrainOrder.{DrainOrder}
use Rattle.log_writer.proofs.Keeps.{turn_sound}
use Rattle.log_laws.specs.Laws.{DrainOnlyLog, WriteOnlyLog}

-- ---- images that differ at most in the log

pub only_same : (at n : ℕ) (m : List ℕ) → OnlyAt at n m m
only_same at n m =
    record {
      long = refl;
      byte_below = λ i h. refl;
      byte_above = λ i h. refl;
      part_below = λ b l h. refl;
      part_above = λ b l h. refl;
    }

pub only_then : (at n : ℕ) (a b c : List ℕ) → OnlyAt at n a b → OnlyAt at n b c → OnlyAt at n a c
only_then at n a b c x y =
    record {
      long = y.long ∙ x.long;
      byte_below = λ i h. y.byte_below i h ∙ x.byte_below i h;
      byte_above = λ i h. y.byte_above i h ∙ x.byte_above i h;
      part_below = λ b l h. y.part_below b l h ∙ x.part_below b l h;
      part_above = λ b l h. y.part_above b l h ∙ x.part_above b l h;
    }

-- what differs in one page of the log differs in the log
only_wider : (pages i : ℕ) (m m' : List ℕ) → i < pages → OnlyAt (page_at i) 256 m m' → OnlyAt log_start (pages * 256) m m'
only_wider pages i m m' l x =
    record {
      long = x.long;
      byte_below = λ j h. x.byte_below j (omega arith);
      byte_above = λ j h. x.byte_above j (omega (arith, inside));
      part_below = λ b n h. x.part_below b n (omega arith);
      part_above = λ b n h. x.part_above b n (omega (arith, inside));
    }
  where
    inside : i * 256 + 256 ≤ pages * 256
    inside = omega arith

-- no byte programmed
none_programmed : (image : List ℕ) (at : ℕ) (keep : List ℕ) → programmed image at [] keep ≡ image
unfolding programmed programmed_bytes
none_programmed image at keep = let e : at + 0 ≡ at = omega arith in ap (λ (k : ℕ). take at image ++ drop k image) e ∙ take-append-drop at image

-- a program of the page that waits
module _ (pages : ℕ) (image : List ℕ) (room : log_start + pages * 256 ≤ length image) (w : LogWriter) (s : SoundWriter w) (l : w.next_page < pages) where
  programmed_only : (keep : List ℕ) → OnlyAt log_start (pages * 256) image (programmed_page image w keep)
  programmed_only keep = go w.pending s.page
    where
      inside : w.next_page * 256 + 256 ≤ pages * 256
      inside = omega arith

      go : (o : Option (List ℕ)) → IfSome o (λ page. length page ≡ 256)
          → OnlyAt log_start (pages * 256) image (programmed image (page_at w.next_page) (unwrap_or o []) keep)
      go None h =
          let e : programmed image (page_at w.next_page) [] keep ≡ image = none_programmed image (page_at w.next_page) keep in
          rw e (only_same log_start (pages * 256) image)
      go (Some page) h =
          only_wider pages w.next_page image (programmed image (page_at w.next_page) page keep) l
          (rw h at (only_its_bytes image (page_at w.next_page) page keep (omega (arith, h))))

-- ---- turn by turn

pub turn_only : (pages : ℕ) (order : DrainOrder) (keep : List ℕ) (p : Pass) (image : List ℕ) → SoundPass p → log_start + pages * 256 ≤ length image
    → OnlyAt log_start (pages * 256) image (turn_image pages order keep p image)
unfolding turn_image with_writer
turn_only pages order keep p image s room =
    go (has_pending (fetched p.writer)) (busy_now p.progress.succeed order.next) (ltb (fetched p.writer).next_page pages) refl
  where
    after : List ℕ
    after = programmed_page image (fetched p.writer) (kept_by p.progress.succeed keep)

    go : (x y z : Bool) → ltb (fetched p.writer).next_page pages ≡ z
        → OnlyAt log_start (pages * 256) image (cond x (cond y image (cond z after image)) image)
    go true true z e = only_same log_start (pages * 256) image
    go true false true e =
        programmed_only pages image room (fetched p.writer) (fetched_sound p.writer s.sound) (ltb-true (fetched p.writer).next_page pages e)
        (kept_by p.progress.succeed keep)
    go true false false e = only_same log_start (pages * 256) image
    go false y z e = only_same log_start (pages * 256) image

turns_only : (pages : ℕ) (order : DrainOrder) (keep : List ℕ) (n : ℕ) (p : Pass) (image : List ℕ) → SoundPass p
    → log_start + pages * 256 ≤ length image → OnlyAt log_start (pages * 256) image (turns_image pages order keep n p image)
unfolding turns_image
turns_only pages order keep zero p image s room = only_same log_start (pages * 256) image
turns_only pages order keep (suc n) p image s room =
    go (turns_only pages order keep n (turn pages order p) after (turn_sound pages order p s) (omega (arith, once.long))) p.progress.going
  where
    after : List ℕ
    after = turn_image pages order keep p image

    once : OnlyAt log_start (pages * 256) image after
    once = turn_only pages order keep p image s room

    go : OnlyAt log_start (pages * 256) after (turns_image pages order keep n (turn pages order p) after) → (z : Bool)
        → OnlyAt log_start (pages * 256) image (cond z (turns_image pages order keep n (turn pages order p) after) image)
    go ih true = only_then log_start (pages * 256) image after (turns_image pages order keep n (turn pages order p) after) once ih
    go ih false = only_same log_start (pages * 256) image

-- ---- the calls

-- an image of a valid capacity has room for its log
pub has_room : (c : ℕ) → valid_capacity c ≡ true → log_start + pages_in c * 256 ≤ c
has_room c h = omega (arith, (valid c h).above)

pub drain_only_log : DrainOnlyLog
unfolding after_drain on_lengths on_image drain_image
drain_only_log order c image keep w q s = go (valid_capacity c) (eqb (length image) c) (eqb (length keep) 256) refl refl
  where
    p : Pass
    p = begin w q order.succeed

    after : List ℕ
    after = drain_image (pages_in c) order keep p image

    inner : log_start + pages_in c * 256 ≤ length image → (x y : Bool)
        → OnlyAt log_start (pages_in c * 256) image (cond x (cond y image (turns_image (pages_in c) order keep order.limit p image)) image)
    inner room true true = only_same log_start (pages_in c * 256) image
    inner room true false = turns_only (pages_in c) order keep order.limit p image (record { sound = s.0; held = s.1 }) room
    inner room false y = only_same log_start (pages_in c * 256) image

    go : (x y z : Bool) → valid_capacity c ≡ x → eqb (length image) c ≡ y
        → OnlyAt log_start (pages_in c * 256) image (leaves image (must x invalid_layout (must y bad_length (must z bad_length (gives after)))))
    go true true true v l = inner (omega (arith, has_room c v, eqb-true (length image) c l)) w.writable (eqb q.held 0)
    go true true false v l = only_same log_start (pages_in c * 256) image
    go true false z v l = only_same log_start (pages_in c * 256) image
    go false y z v l = only_same log_start (pages_in c * 256) image

pub write_only_log : WriteOnlyLog
unfolding after_write on_lengths on_image write_image
write_only_log c image keep next w q succeed s = go (valid_capacity c) (eqb (length image) c) (eqb (length keep) 256) refl refl
  where
    v : LogWriter
    v = fetched_if_writable w

    after : List ℕ
    after = write_image (pages_in c) next keep w succeed image

    inner : log_start + pages_in c * 256 ≤ length image → (x y : Bool) → ltb v.next_page (pages_in c) ≡ y
        → OnlyAt log_start (pages_in c * 256) image (cond x (cond y (programmed_page image v (mask (goes_well succeed next) keep)) image) image)
    inner room true true e =
        programmed_only (pages_in c) image room v (fetched_if_sound w s.0) (ltb-true v.next_page (pages_in c) e) (mask (goes_well succeed next) keep)
    inner room true false e = only_same log_start (pages_in c * 256) image
    inner room false y e = only_same log_start (pages_in c * 256) image

    go : (x y z : Bool) → valid_capacity c ≡ x → eqb (length image) c ≡ y
        → OnlyAt log_start (pages_in c * 256) image (leaves image (must x invalid_layout (must y bad_length (must z bad_length (gives after)))))
    go true true true e l = inner (omega (arith, has_room c e, eqb-true (length image) c l)) (has_pending v) (ltb v.next_page (pages_in c)) refl
    go true true false e l = only_same log_start (pages_in c * 256) image
    go true false z e l = only_same log_start (pages_in c * 256) image
    go false y z e l = only_same log_start (pages_in c * 256) image
