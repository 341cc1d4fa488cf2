-- The device through any number of power-ons: a life is a list of calls, and the history says what was logged in each power-on.
-- And the two assumptions of demand 3, as properties of a life.
use Rattle.std.specs.Prelude.{ℕ, ◌<◌, ◌≡◌, false, ◌⊎◌, List, [], ◌∷◌, ◌++◌, Option, None, Some}
use Rattle.power.specs.Pages.{PageStore, Each}
use Rattle.power.specs.Writer.{Writer, new, recover}
use Rattle.power.specs.Calls.{Next, Order, Pass, drain, write_pending}
use Rattle.power.specs.Scan.{scan}

module _ {Page Record Mask : Type 0} (S : PageStore Page Record Mask) where
  -- the log, the writer, the queue; what was logged in the power-ons that are over, and what in the one that lasts
  pub record Device : Type 0 where
    pub log : List Page
    pub writer : Writer S
    pub queue : List Record
    pub past : List (List (ℕ × Record))
    pub now : List (ℕ × Record)

  -- A call: a record offered to the queue; drain with its order; write_pending with the programs that succeed and what the next does; and
  -- power-on, "each with a fresh writer set by one scan alone"
  pub data Call : Type 0 where
    offers : Record → Call
    drains : Order Mask → Call
    writes : ℕ → Next Mask → Call
    powers : Call

  -- a call of the writer begins
  abbrev pub begin : Device → ℕ → Next Mask → Pass S
  begin d succeed next =
      record {
        log = d.log;
        writer = d.writer;
        queue = d.queue;
        succeed = succeed;
        next = next;
        pages_written = 0;
        logged = [];
        unfinished = None;
        power_gone = false;
      }

  -- a drain begins
  abbrev pub ordered : Device → Order Mask → Pass S
  ordered d order = begin d order.succeed order.next

  -- the device after a call of the writer
  abbrev pub after_pass : Device → Pass S → Device
  after_pass d p = record { log = p.log; writer = p.writer; queue = p.queue; past = d.past; now = d.now ++ p.logged }

  -- power comes on: what was logged so far is a power-on that is over
  abbrev pub power_on : Device → Device
  power_on d = record { log = d.log; writer = recover S (new S) (scan S d.log); queue = []; past = d.past ++ d.now ∷ []; now = [] }

  -- what a call does to the device
  abbrev pub call : Call → Device → Device
  call (offers r) d = record { log = d.log; writer = d.writer; queue = d.queue ++ r ∷ []; past = d.past; now = d.now }
  call (drains order) d = after_pass d (drain S order (ordered d order))
  call (writes succeed next) d = after_pass d (write_pending S (begin d succeed next))
  call powers d = power_on d

  -- a life, call by call
  abbrev pub lives : List Call → Device → Device
  lives [] d = d
  lives (c ∷ life) d = lives life (call c d)

  -- before the first power-on
  abbrev pub unpowered : List Page → Device
  unpowered log = record { log = log; writer = new S; queue = []; past = []; now = [] }

  -- what was logged in each power-on, the one that lasts included
  abbrev pub history : Device → List (List (ℕ × Record))
  history d = d.past ++ d.now ∷ []

  -- ASSUMED: "no unfinished page decodes". A program that did not finish left something that doesn't decode, or the page itself: then it
  -- did finish.
  abbrev pub Undecoded : Option (Page × Page) → Type 0
  Undecoded None = Unit {0}
  Undecoded (Some (page, left)) = (S.decode left ≡ None) ⊎ (left ≡ page)

  -- what is assumed of a call; and what is offered to the queue is a record
  abbrev pub Assumed : Call → Device → Type 0
  Assumed (offers r) d = S.Fits r
  Assumed (drains order) d = Undecoded (drain S order (ordered d order)).unfinished
  Assumed (writes succeed next) d = Undecoded (write_pending S (begin d succeed next)).unfinished
  Assumed powers d = Unit {0}

  -- and of a life
  abbrev pub AllAssumed : List Call → Device → Type 0
  AllAssumed [] d = Unit {0}
  AllAssumed (c ∷ life) d = Assumed c d × AllAssumed life (call c d)

  -- ASSUMED: "flight numbers don't wrap". Every flight under which something was logged is below the limit.
  abbrev pub FlightsFit : List (List (ℕ × Record)) → Type 0
  FlightsFit hist = Each (λ logged. Each (λ entry. entry.0 < S.limit) logged) hist
