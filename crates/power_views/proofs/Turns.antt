-- One turn of drain is the theory's turn on the view, and so are the turns of a pass. What the theory says was logged, and what it says an
-- unfinished program left, is found along the way. Assumes nothing.
use Prim.Native.Nat.{ℕ, zero, suc, ◌+◌, ◌*◌, ◌≤◌, ◌<◌}
use mathlib.Core.Path.{◌≡◌, refl, sym, ap, ap₂, ◌∙◌, subst}
use mathlib.Core.Bool.{Bool, true, false, cond}
use mathlib.Core.List.{List, [], ◌++◌}
use Rattle.std.specs.Prelude.{Option, None, Some, is_some}
use native.Mathlib.Numerals.{add-one}
use native.Mathlib.Omega.{arith}
use borrow.Author.Tests.{lt-ltb, le-ltb, ltb-true, ltb-false}
use lib.Dec.{ltb}
use lib.ListN.{length}
use Rattle.power.specs.Writer as Model
use Rattle.power.specs.Calls as Theory
use Rattle.layout.specs.Layout.{log_start}
use Rattle.blackbox.specs.declared.FlightRecord.{FlightRecord}
use Rattle.queue.specs.Queue.{empty, oldest, without_oldest}
use Rattle.queue.specs.declared.RecordQueue.{RecordQueue}
use Rattle.queue.specs.declared.Dequeued.{Dequeued}
use Rattle.queue.proofs.Laws.{none_leaves, one_leaves}
use Rattle.assembler.specs.Assembler as Assembler
use Rattle.assembler.specs.Assembler.{page_ready, without_ready, taken}
use Rattle.assembler.specs.declared.PageAssembler.{PageAssembler}
use Rattle.log_state.specs.Writer.{log_writer, has_pending, waiting_if, fresh, fetched, written, logging}
use Rattle.log_state.specs.WellFormed.{SoundWriter}
use Rattle.log_state.proofs.Sound.{fetched_sound}
use Rattle.log_state.specs.declared.LogWriter.{LogWriter}
use Rattle.log_state.specs.declared.Logged.{Logged}
use Rattle.log_writer.specs.Pass.{pass, drain_order, with_writer, halted, put, severed, busy_now, kept_by, logs, counted, taking_in, taking_record, programming}
use Rattle.log_writer.specs.Pass.{turn, programmed_page, turn_image}
use Rattle.log_writer.specs.WellFormed.{SoundPass}
use Rattle.log_writer.specs.declared.Pass.{Pass}
use Rattle.log_writer.specs.declared.DrainOrder.{DrainOrder}
use Rattle.log_writer.specs.declared.NextProgram.{NextProgram}
use Rattle.log_writer.specs.declared.NextProgram.TheVariants.{Busy, Fault, Cut}
use Rattle.power_pages.specs.Store.{pages_of, real}
use Rattle.power_pages.proofs.Scan.{length_pages}
use Rattle.power_views.specs.Views.{as_writer, as_queue, as_next, as_pass}
use Rattle.power_views.proofs.Images.{pages_programmed}
use Rattle.power_views.proofs.Steps.{none_held, one_held, fetched_is, logged_is}

-- a pass of the theory by its fields
abbrev pub viewed_as : List (List ℕ) → Model.Writer real → List FlightRecord → ℕ → Theory.Next (List ℕ) → ℕ → List (ℕ × FlightRecord)
    → Option (List ℕ × List ℕ) → Bool → Theory.Pass real
viewed_as log w queue g next count l u gone =
    record { log = log; writer = w; queue = queue; succeed = g; next = next; pages_written = count; logged = l; unfinished = u; power_gone = gone }

-- a call that goes on, or has ended
abbrev pub stepped : Bool → Theory.Pass real → Theory.Step real
stepped true p = Theory.Step.goes_on p
stepped false p = Theory.Step.ends p

-- whether a record goes to the log
pub logs_is : (order : DrainOrder) (r : FlightRecord) → logs order r ≡ Theory.logs real order.record_while_disarmed r
unfolding logs
logs_is order r = refl

module _ (pages : ℕ) (next : NextProgram) (keep : List ℕ) where
  -- a step of the theory is a pass of the code, with an image, and with something logged and something left unfinished
  pub record Is (step : Theory.Step real) (p : Pass) (image : List ℕ) : Type 0 where
    pub logged : List (ℕ × FlightRecord)
    pub unfinished : Option (List ℕ × List ℕ)
    pub same : step ≡ stepped p.progress.going (as_pass pages next keep p image logged unfinished)

  -- ---- a record is taken, no page being ready or waiting

  module _ (order : DrainOrder) (p : Pass) (image : List ℕ) (l : List (ℕ × FlightRecord)) (u : Option (List ℕ × List ℕ)) where
    abbrev viewed : Theory.Pass real
    viewed = as_pass pages next keep p image l u

    -- the record that leaves, and what is logged of it
    abbrev first : FlightRecord
    first = oldest p.queue

    abbrev entry : List (ℕ × FlightRecord)
    entry = Model.taken_record real (Theory.logs real order.record_while_disarmed first) p.writer.assembler.recording first (as_writer p.writer)

    -- the view with another writer, queue and more logged
    abbrev viewed_with : Model.Writer real → List FlightRecord → List (ℕ × FlightRecord) → Theory.Pass real
    viewed_with w queue more =
        viewed_as (pages_of pages image) w queue p.progress.succeed (as_next next keep) p.progress.report.pages_written more u p.progress.cut

    takes_none : p.queue.held ≡ 0 → Theory.take_next real order.record_while_disarmed (as_queue p.queue) viewed ≡ stepped (taking_record order p).progress.going (as_pass pages next keep (taking_record order p) image l u)
    unfolding taking_record halted
    takes_none e =
        ap (λ (q : List FlightRecord). Theory.take_next real order.record_while_disarmed q (viewed_with (as_writer p.writer) q l)) (none_held p.queue e)
        ∙ ap (λ (q : List FlightRecord). Theory.Step.ends (viewed_with (as_writer p.writer) q l)) (sym (none_held p.queue e))
        ∙ ap (λ (d : Dequeued). stepped (taking_in order p d).progress.going (as_pass pages next keep (taking_in order p d) image l u)) (sym (none_leaves p.queue e))

    takes_one : (n : ℕ) → p.queue.held ≡ suc n → p.progress.going ≡ true → SoundWriter p.writer → has_pending p.writer ≡ false
        → page_ready p.writer.assembler ≡ false
        → Theory.take_next real order.record_while_disarmed (as_queue p.queue) viewed
        ≡ stepped (taking_record order p).progress.going (as_pass pages next keep (taking_record order p) image (l ++ entry) u)
    unfolding taking_record counted
    takes_one n e on s empty free =
        ap (λ (q : List FlightRecord). Theory.take_next real order.record_while_disarmed q (viewed_with (as_writer p.writer) q l)) (one_held p.queue n e)
        ∙ ap (λ (w : Model.Writer real). Theory.Step.goes_on (viewed_with w (as_queue (without_oldest p.queue)) (l ++ entry))) (sym written_as)
        ∙ ap (λ (z : Bool). stepped z (viewed_with (as_writer after.writer) (as_queue (without_oldest p.queue)) (l ++ entry))) (sym on)
        ∙ ap (λ (d : Dequeued). stepped (taking_in order p d).progress.going (as_pass pages next keep (taking_in order p d) image (l ++ entry) u))
        (sym (one_leaves p.queue (λ z. omega arith)))
      where
        after : Logged
        after = logging p.writer first (logs order first)

        written_as : as_writer after.writer ≡ Model.taken real (Theory.logs real order.record_while_disarmed first) p.writer.assembler.recording first (as_writer p.writer)
        written_as =
            logged_is first p.writer s empty free (logs order first)
            ∙ ap (λ (z : Bool). Model.taken real z p.writer.assembler.recording first (as_writer p.writer)) (logs_is order first)

    pub takes_is : p.progress.going ≡ true → SoundWriter p.writer → has_pending p.writer ≡ false → page_ready p.writer.assembler ≡ false
        → Is (Theory.take_next real order.record_while_disarmed (as_queue p.queue) viewed) (taking_record order p) image
    takes_is on s empty free = go p.queue.held refl
      where
        go : (n : ℕ) → p.queue.held ≡ n → Is (Theory.take_next real order.record_while_disarmed (as_queue p.queue) viewed) (taking_record order p) image
        go zero e = record { logged = l; unfinished = u; same = takes_none e }
        go (suc n) e = record { logged = l ++ entry; unfinished = u; same = takes_one n e on s empty free }

-- ---- a page that waits is programmed

pub fresh_is : as_writer fresh ≡ Model.new real
unfolding fresh Assembler.fresh
fresh_is = refl

module _ (pages : ℕ) (keep : List ℕ) (order : DrainOrder) (image : List ℕ) (l : List (ℕ × FlightRecord)) (u : Option (List ℕ × List ℕ))
    (space : log_start + pages * 256 ≤ length image)
    (a : PageAssembler) (at flight : ℕ) (writable boot : Bool) (since : Option ℕ) (q : RecordQueue) (count dropped faults : ℕ) (gone : Bool) where
  -- the writer, with a page waiting or none, and the pass
  abbrev v : Option (List ℕ) → LogWriter
  v waits = log_writer a waits at flight writable boot since

  abbrev f : Option (List ℕ) → ℕ → Pass
  f waits g = pass (v waits) q count dropped faults g true gone

  -- the order with another next program
  abbrev with_next : NextProgram → DrainOrder
  with_next next = drain_order order.limit order.armed order.record_while_disarmed order.succeed next

  -- the theory's turn from there, and the code's
  abbrev theirs : Option (List ℕ) → ℕ → NextProgram → Theory.Step real
  theirs waits g next = Theory.after_put real order.record_while_disarmed (Theory.put real waits (as_pass pages next keep (f waits g) image l u))

  abbrev ours : Option (List ℕ) → Bool → ℕ → NextProgram → Pass
  ours waits room g next =
      cond (is_some waits) (cond (busy_now g next) (halted (f waits g)) (cond room (programming g (with_next next) (f waits g)) (halted (f waits g))))
      (taking_record (with_next next) (f waits g))

  abbrev ours_image : Option (List ℕ) → Bool → ℕ → NextProgram → List ℕ
  ours_image waits room g next =
      cond (is_some waits) (cond (busy_now g next) image (cond room (programmed_page image (v waits) (kept_by g keep)) image)) image

  module _ (page : List ℕ) (s : SoundWriter (v (Some page))) (room : at < pages) where
    log_is : (k : List ℕ) → pages_of pages (programmed_page image (v (Some page)) k) ≡ Theory.programmed_at real (pages_of pages image) at page k
    log_is k = pages_programmed pages image page k at space room s.page

    put_is : (next : NextProgram) (left : ℕ)
        → as_pass pages next keep (put (f (Some page) (suc left)) left) (programmed_page image (v (Some page)) []) l u
        ≡ Theory.written real left page (as_pass pages next keep (f (Some page) (suc left)) image l u)
    unfolding put written
    put_is next left =
        ap (λ (log : List (List ℕ)). viewed_as log (as_writer (written (v (Some page)))) (as_queue q) left (as_next next keep) (count + 1) l u gone) (log_is [])
        ∙ ap₂ (λ (i j : ℕ). viewed_as (Theory.programmed_at real (pages_of pages image) at page []) (as_writer (log_writer a None i flight writable boot since))
        (as_queue q) left (as_next next keep) j l u gone) (add-one at) (add-one count)

    room_is : ltb at (length (pages_of pages image)) ≡ true
    room_is = ap (ltb at) (length_pages image 0 pages) ∙ lt-ltb at pages room

    -- a program where there is room for it
    programs : ℕ → NextProgram → Theory.Step real
    programs g next = Theory.after_put real order.record_while_disarmed (Theory.program real g (as_next next keep) page (as_pass pages next keep (f (Some page) g) image l u))

    theirs_is : (g : ℕ) (next : NextProgram) → theirs (Some page) g next ≡ programs g next
    unfolding programs
    theirs_is g next =
        ap (λ (z : Bool). Theory.after_put real order.record_while_disarmed (cond z (Theory.program real g (as_next next keep) page (as_pass pages next keep (f (Some page) g) image l u))
        (Theory.Step.ends (as_pass pages next keep (f (Some page) g) image l u)))) room_is

    writes_is : (next : NextProgram) (left : ℕ)
        → Is pages next keep (programs (suc left) next) (taking_record (with_next next) (put (f (Some page) (suc left)) left)) (programmed_page image (v (Some page)) [])
    unfolding programs put written
    writes_is next left =
        let t = takes_is pages next keep (with_next next) (put (f (Some page) (suc left)) left) (programmed_page image (v (Some page)) []) l u refl
        (record { rows = s.rows; page = tt; waits = λ h. absurd (let z : ◌≡◌ {A = ℕ} 0 1 = cc in omega arith) }) refl (s.waits refl).0 in
        record {
          logged = t.logged;
          unfinished = t.unfinished;
          same = ap (λ (x : Theory.Pass real). Theory.take_next real order.record_while_disarmed (as_queue q) x) (sym (put_is next left)) ∙ t.same;
        }

    fails_is : Is pages Fault keep (programs 0 Fault) (halted (f (Some page) 0)) (programmed_page image (v (Some page)) keep)
    unfolding programs halted
    fails_is =
        record {
          logged = l;
          unfinished = Some (page, Theory.programmed_cell real (pages_of pages image) at page keep);
          same = rw (log_is keep) refl;
        }

    cuts_is : Is pages Cut keep (programs 0 Cut) (severed (f (Some page) 0)) (programmed_page image (v (Some page)) keep)
    unfolding programs severed fresh Assembler.fresh empty
    cuts_is =
        record {
          logged = l;
          unfinished = Some (page, Theory.programmed_cell real (pages_of pages image) at page keep);
          same = rw (log_is keep) refl;
        }

    halts_is : Is pages Busy keep (programs 0 Busy) (halted (f (Some page) 0)) image
    unfolding programs halted
    halts_is = record { logged = l; unfinished = u; same = refl }

    is_through : (g : ℕ) (next : NextProgram) (p : Pass) (m : List ℕ) → Is pages next keep (programs g next) p m → Is pages next keep (theirs (Some page) g next) p m
    is_through g next p m h = record { logged = h.logged; unfinished = h.unfinished; same = theirs_is g next ∙ h.same }

    has_room : (g : ℕ) (next : NextProgram) → Is pages next keep (theirs (Some page) g next) (ours (Some page) true g next) (ours_image (Some page) true g next)
    has_room (suc left) next = is_through (suc left) next _ _ (writes_is next left)
    has_room zero Busy = is_through zero Busy _ _ halts_is
    has_room zero Fault = is_through zero Fault _ _ fails_is
    has_room zero Cut = is_through zero Cut _ _ cuts_is

  -- the region is full: nothing is programmed
  is_full : (page : List ℕ) (g : ℕ) (next : NextProgram) → pages ≤ at
      → Is pages next keep (theirs (Some page) g next) (ours (Some page) false g next) (ours_image (Some page) false g next)
  unfolding halted
  is_full page g next h = by g next
    where
      no_room : ltb at (length (pages_of pages image)) ≡ false
      no_room = ap (ltb at) (length_pages image 0 pages) ∙ le-ltb at pages h

      ends : (k : ℕ) (n : NextProgram) → theirs (Some page) k n ≡ Theory.Step.ends (as_pass pages n keep (f (Some page) k) image l u)
      ends k n =
          ap (λ (z : Bool). Theory.after_put real order.record_while_disarmed (cond z (Theory.program real k (as_next n keep) page (as_pass pages n keep (f (Some page) k) image l u))
          (Theory.Step.ends (as_pass pages n keep (f (Some page) k) image l u)))) no_room

      by : (k : ℕ) (n : NextProgram) → Is pages n keep (theirs (Some page) k n) (ours (Some page) false k n) (ours_image (Some page) false k n)
      by (suc k) n = record { logged = l; unfinished = u; same = ends (suc k) n }
      by zero Busy = record { logged = l; unfinished = u; same = ends zero Busy }
      by zero Fault = record { logged = l; unfinished = u; same = ends zero Fault }
      by zero Cut = record { logged = l; unfinished = u; same = ends zero Cut }

  pub from_fetched : (waits : Option (List ℕ)) (g : ℕ) (next : NextProgram) → SoundWriter (v waits) → page_ready a ≡ false
      → Is pages next keep (theirs waits g next) (ours waits (ltb at pages) g next) (ours_image waits (ltb at pages) g next)
  from_fetched None g next s free = takes_is pages next keep (with_next next) (f None g) image l u refl s refl free
  from_fetched (Some page) g next s free = by (ltb at pages) refl
    where
      by : (z : Bool) → ltb at pages ≡ z → Is pages next keep (theirs (Some page) g next) (ours (Some page) z g next) (ours_image (Some page) z g next)
      by true e = has_room page s (ltb-true at pages e) g next
      by false e = is_full page g next (ltb-false at pages e)

-- ---- a turn

-- once a page was fetched, none is ready
pub fetched_free : (w : LogWriter) → SoundWriter w → page_ready (fetched w).assembler ≡ false
unfolding fetched taken without_ready
fetched_free w s = by (has_pending w) refl w.assembler.ready_page refl
  where
    by : (has : Bool) → has_pending w ≡ has → (ready : Option (List ℕ)) → w.assembler.ready_page ≡ ready
        → page_ready (cond has w (waiting_if w (without_ready w.assembler) ready)).assembler ≡ false
    by true e ready h = (s.waits e).0
    by false e (Some page) h = refl
    by false e None h = ap (λ (o : Option (List ℕ)). is_some o) h

module _ (pages : ℕ) (order : DrainOrder) (keep : List ℕ) where
  turn_at : (w : LogWriter) (q : RecordQueue) (count dropped faults g : ℕ) (gone : Bool) (image : List ℕ) (l : List (ℕ × FlightRecord))
      (u : Option (List ℕ × List ℕ)) → log_start + pages * 256 ≤ length image → SoundWriter w
      → Is pages order.next keep (Theory.turn real order.record_while_disarmed (as_pass pages order.next keep (pass w q count dropped faults g true gone) image l u))
      (turn pages order (pass w q count dropped faults g true gone)) (turn_image pages order keep (pass w q count dropped faults g true gone) image)
  unfolding turn turn_image with_writer
  turn_at w q count dropped faults g gone image l u space s =
      let b = fetched w in
      let t = from_fetched pages keep order image l u space b.assembler b.next_page b.next_flight b.writable
      b.boot_session_start b.write_back_since_ms q count dropped faults gone b.pending g order.next
      (fetched_sound w s) (fetched_free w s) in
      record {
        logged = t.logged;
        unfinished = t.unfinished;
        same =
            ap (λ (x : Model.Writer real). Theory.after_put real order.record_while_disarmed (Theory.put real x.waiting
            (viewed_as (pages_of pages image) x (as_queue q) g (as_next order.next keep) count l u gone))) (sym (fetched_is w)) ∙ t.same;
      }

  pub turn_is : (p : Pass) (image : List ℕ) (l : List (ℕ × FlightRecord)) (u : Option (List ℕ × List ℕ)) → log_start + pages * 256 ≤ length image
      → SoundPass p → p.progress.going ≡ true
      → Is pages order.next keep (Theory.turn real order.record_while_disarmed (as_pass pages order.next keep p image l u)) (turn pages order p) (turn_image pages order keep p image)
  turn_is p image l u space s on =
      let e = ap (λ (z : Bool). pass p.writer p.queue p.progress.report.pages_written p.progress.report.records_dropped p.progress.report.write_faults p.progress.succeed z p.progress.cut) on in
      subst (λ (x : Pass). Is pages order.next keep (Theory.turn real order.record_while_disarmed (as_pass pages order.next keep x image l u)) (turn pages order x) (turn_image pages order keep x image))
      (sym e)
      (turn_at p.writer p.queue p.progress.report.pages_written p.progress.report.records_dropped p.progress.report.write_faults p.progress.succeed p.progress.cut image l u
      space s.sound)
