-- How the code's states stand in the theory of demand 3: the rows that are used, the queue as a list, the image as the pages of its
-- log.
use Rattle.std.specs.Prelude.{ℕ, List, Option}
use Rattle.power.specs.Writer as Model
use Rattle.power.specs.Calls as Theory
use Rattle.blackbox.specs.declared.FlightRecord.{FlightRecord}
use Rattle.assembler.specs.Laws.{used_rows}
use Rattle.assembler.specs.declared.PageAssembler.{PageAssembler}
use Rattle.queue.specs.Queue.{records_held}
use Rattle.queue.specs.declared.RecordQueue.{RecordQueue}
use Rattle.log_state.specs.declared.LogWriter.{LogWriter}
use Rattle.log_writer.specs.declared.Pass.{Pass}
use Rattle.log_writer.specs.declared.DrainOrder.{DrainOrder}
use Rattle.log_writer.specs.declared.NextProgram.{NextProgram}
use Rattle.log_writer.specs.declared.NextProgram.TheVariants.{Busy, Fault, Cut}
use Rattle.power_pages.specs.Store.{real, pages_of}

abbrev pub as_assembler : PageAssembler → Model.Assembler real
as_assembler a =
    record {
      rows = used_rows a;
      flight = a.flight_id;
      sequence = a.page_sequence;
      recording = a.recording;
      mark_pending = a.boot_session_start_pending;
      edition = tt;
      ready = a.ready_page;
    }

-- the start time of the write-back buffer is no part of the theory
abbrev pub as_writer : LogWriter → Model.Writer real
as_writer w =
    record {
      assembler = as_assembler w.assembler;
      waiting = w.pending;
      next_page = w.next_page;
      next_flight = w.next_flight;
      writable = w.writable;
      mark_due = w.boot_session_start;
    }

-- the records that wait, the oldest first
abbrev pub as_queue : RecordQueue → List FlightRecord
as_queue q = records_held q

-- a fault and a cut leave what the keep mask says
abbrev pub as_next : NextProgram → List ℕ → Theory.Next (List ℕ)
as_next Busy keep = Theory.Next.busy
as_next Fault keep = Theory.Next.fault keep
as_next Cut keep = Theory.Next.cut keep

abbrev pub as_order : DrainOrder → List ℕ → Theory.Order (List ℕ)
as_order order keep =
    Theory.order_of order.limit order.record_while_disarmed order.armed order.succeed (as_next order.next keep)

-- a call under way; what it logged and what an unfinished program left are the theory's own
abbrev pub as_pass : ℕ → NextProgram → List ℕ → Pass → List ℕ → List (ℕ × FlightRecord) → Option (List ℕ × List ℕ) → Theory.Pass real
as_pass pages next keep p image logged unfinished =
    record {
      log = pages_of pages image;
      writer = as_writer p.writer;
      queue = as_queue p.queue;
      succeed = p.progress.succeed;
      next = as_next next keep;
      pages_written = p.progress.report.pages_written;
      logged = logged;
      unfinished = unfinished;
      power_gone = p.progress.cut;
    }
