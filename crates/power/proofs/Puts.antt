-- What programming a page leaves alone, and what it counts: the facts of the top of a turn, of any writer; and the two ways of drain.
-- Assumes nothing.
use Prim.Native.Nat.{ℕ, zero, suc, ◌+◌}
use mathlib.Core.Path.{◌≡◌, refl, sym, ap, ◌∙◌}
use mathlib.Core.Bool.{Bool, true, false, cond, false≢true}
use Rattle.std.specs.Prelude.{Option, None, Some}
use mathlib.Core.Logic.{◌⊎◌, inl, inr}
use mathlib.Core.List.{[]}
use native.Mathlib.Omega.{arith}
use lib.Dec.{ltb}
use lib.ListN.{length}
use Rattle.power.specs.Pages.{PageStore}
use Rattle.power.specs.Writer.{Writer, new}
use Rattle.power.specs.Calls.{Order, Next, busy, fault, cut, Pass, Step, goes_on, ends, program, program_if_room, put, put_page, fetching, fetched}
use Rattle.power.specs.Calls.{with_writer, with_queue, drop_one, drain_writable, drain}

module _ {Page Record Mask : Type 0} (S : PageStore Page Record Mask) where
  -- what a record does depends on the same
  pub record SameMarks (w v : Writer S) : Type 0 where
    pub recording : w.assembler.recording ≡ v.assembler.recording
    pub mark_pending : w.assembler.mark_pending ≡ v.assembler.mark_pending
    pub mark_due : w.mark_due ≡ v.mark_due
    pub edition : w.assembler.edition ≡ v.assembler.edition

  pub marks_same : (w : Writer S) → SameMarks w w
  marks_same w = record { recording = refl; mark_pending = refl; mark_due = refl; edition = refl }

  pub marks_then : {u v w : Writer S} → SameMarks u v → SameMarks v w → SameMarks u w
  marks_then a b =
      record {
        recording = a.recording ∙ b.recording;
        mark_pending = a.mark_pending ∙ b.mark_pending;
        mark_due = a.mark_due ∙ b.mark_due;
        edition = a.edition ∙ b.edition;
      }

  -- the call goes on: with `succeed` programs to succeed before, each page written rises next_page and takes one of them
  pub record Goes (succeed : ℕ) (p q : Pass S) : Type 0 where
    pub logged : q.logged ≡ p.logged
    pub queue : q.queue ≡ p.queue
    pub unfinished : q.unfinished ≡ p.unfinished
    pub power_gone : q.power_gone ≡ p.power_gone
    pub next : q.next ≡ p.next
    pub writable : q.writer.writable ≡ p.writer.writable
    pub marks : SameMarks q.writer p.writer
    pub counted : q.writer.next_page + p.pages_written ≡ p.writer.next_page + q.pages_written
    pub spent : q.succeed + q.pages_written ≡ succeed + p.pages_written

  -- the call ends: no page more is written, and if the power went no program was left to succeed
  pub record Halts (succeed : ℕ) (p q : Pass S) : Type 0 where
    pub logged : q.logged ≡ p.logged
    pub written : q.pages_written ≡ p.pages_written
    pub marks : SameMarks q.writer p.writer ⊎ (q.writer ≡ new S)
    pub alive : q.power_gone ≡ false → (q.queue ≡ p.queue) × (q.writer.next_page ≡ p.writer.next_page)
    pub gone : q.power_gone ≡ true → (p.power_gone ≡ true) ⊎ ((succeed ≡ 0) × (q.queue ≡ []) × (q.writer.writable ≡ false))
    pub writable : q.writer.writable ≡ true → p.writer.writable ≡ true

  abbrev pub StepFacts : ℕ → Pass S → Step S → Type 0
  StepFacts succeed p (goes_on q) = Goes succeed p q
  StepFacts succeed p (ends q) = Halts succeed p q

  halts_same : (succeed : ℕ) (p : Pass S) → Halts succeed p p
  halts_same succeed p =
      record {
        logged = refl;
        written = refl;
        marks = inl (marks_same p.writer);
        alive = λ h. (refl, refl);
        gone = λ h. inl h;
        writable = λ h. h;
      }

  program_facts : (g : ℕ) (z : Next Mask) (page : Page) (p : Pass S) → StepFacts g p (program S g z page p)
  program_facts (suc g) z page p =
      record {
        logged = refl;
        queue = refl;
        unfinished = refl;
        power_gone = refl;
        next = refl;
        writable = refl;
        marks = record { recording = refl; mark_pending = refl; mark_due = refl; edition = refl };
        counted = omega arith;
        spent = omega arith;
      }
  program_facts zero busy page p = halts_same zero p
  program_facts zero (fault keep) page p =
      record {
        logged = refl;
        written = refl;
        marks = inl (record { recording = refl; mark_pending = refl; mark_due = refl; edition = refl });
        alive = λ h. (refl, refl);
        gone = λ h. inl h;
        writable = λ h. h;
      }
  program_facts zero (cut keep) page p =
      record {
        logged = refl;
        written = refl;
        marks = inr refl;
        alive = λ h. absurd (false≢true (sym h));
        gone = λ h. inr (refl, refl, refl);
        writable = λ h. absurd (false≢true h);
      }

  pub room_facts : (g : ℕ) (z : Next Mask) (page : Page) (p : Pass S) → StepFacts g p (program_if_room S g z page p)
  room_facts g z page p = step (ltb p.writer.next_page (length p.log)) refl
    where
      step : (b : Bool) → ltb p.writer.next_page (length p.log) ≡ b → StepFacts g p (program_if_room S g z page p)
      step true h = rw h (program_facts g z page p)
      step false h = rw h (halts_same g p)

  -- taking the ready page changes neither the next page, nor what a record does, nor whether the log is writable
  pub record Alike (w v : Writer S) : Type 0 where
    pub next_page : w.next_page ≡ v.next_page
    pub writable : w.writable ≡ v.writable
    pub marks : SameMarks w v

  pub fetching_alike : (o : Option Page) (w : Writer S) → Alike (fetching S o w) w
  fetching_alike None w = record { next_page = refl; writable = refl; marks = record { recording = refl; mark_pending = refl; mark_due = refl; edition = refl } }
  fetching_alike (Some page) w = record { next_page = refl; writable = refl; marks = record { recording = refl; mark_pending = refl; mark_due = refl; edition = refl } }

  -- facts of a call that differs in the writer only
  facts_as : (g : ℕ) (p : Pass S) (w : Writer S) → Alike w p.writer → (t : Step S) → StepFacts g (with_writer S w p) t → StepFacts g p t
  facts_as g p w a (goes_on q) f =
      record {
        logged = f.logged;
        queue = f.queue;
        unfinished = f.unfinished;
        power_gone = f.power_gone;
        next = f.next;
        writable = f.writable ∙ a.writable;
        marks = marks_then f.marks a.marks;
        counted = f.counted ∙ ap (λ (n : ℕ). n + q.pages_written) a.next_page;
        spent = f.spent;
      }
  facts_as g p w a (ends q) f =
      record {
        logged = f.logged;
        written = f.written;
        marks = go f.marks;
        alive = λ h. ((f.alive h).0, (f.alive h).1 ∙ a.next_page);
        gone = f.gone;
        writable = λ h. sym a.writable ∙ f.writable h;
      }
    where
      go : SameMarks q.writer w ⊎ (q.writer ≡ new S) → SameMarks q.writer p.writer ⊎ (q.writer ≡ new S)
      go (inl k) = inl (marks_then k a.marks)
      go (inr k) = inr k

  option_facts : (o : Option Page) (p : Pass S) → StepFacts p.succeed p (put S o p)
  option_facts None p =
      record {
        logged = refl;
        queue = refl;
        unfinished = refl;
        power_gone = refl;
        next = refl;
        writable = refl;
        marks = marks_same p.writer;
        counted = refl;
        spent = refl;
      }
  option_facts (Some page) p = room_facts p.succeed p.next page p

  pub put_facts : (p : Pass S) → StepFacts p.succeed p (put_page S p)
  put_facts p =
      facts_as p.succeed p (fetched S p.writer) (fetching_alike p.writer.waiting p.writer) (put_page S p)
      (option_facts (fetched S p.writer).waiting (with_writer S (fetched S p.writer) p))

  -- drain by whether the log is writable
  pub drain_on : (order : Order Mask) (p : Pass S) → p.writer.writable ≡ true
      → drain S order p ≡ drain_writable S order p.queue p
  drain_on order p h = ap (λ (b : Bool). cond b (drain_writable S order p.queue p) (with_queue S (drop_one S p.queue) p)) h

  pub drain_off : (order : Order Mask) (p : Pass S) → p.writer.writable ≡ false → drain S order p ≡ with_queue S (drop_one S p.queue) p
  drain_off order p h = ap (λ (b : Bool). cond b (drain_writable S order p.queue p) (with_queue S (drop_one S p.queue) p)) h
