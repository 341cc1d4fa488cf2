-- "power may go at any moment": the moments of a call, one by one, and the law that each of them is the end of a life. So the theorem, which
-- speaks of lives, leaves no moment out. When power goes, what counts is the log and what was logged: the writer and the queue are gone.
-- The law says also how large that life is: a bound on the numbers of the call bounds those of the life, and where the masks of the call
-- and of the moment are allowed, so are the life's. Which masks are allowed is left open.
use Rattle.std.specs.Prelude.{ℕ, suc, ◌≤◌, ◌<◌, ◌≡◌, Bool, true, ◌⊎◌, List, [], ◌∷◌, length, Some}
use Rattle.power.specs.Pages.{PageStore, Each}
use Rattle.power.specs.Reading.{records_on}
use Rattle.power.specs.Calls.{Next, Order, busy, fault, cut, Pass, goes_on, ends, fetched, fetched_if_writable, with_writer, severed, put_page, take_one}
use Rattle.power.specs.Life.{Device, Call, offers, drains, writes, powers, begin, ordered, after_pass, power_on, call, lives, unpowered, history}
use Rattle.power.specs.Life.{Undecoded, Assumed, AllAssumed, FlightsFit}
use Rattle.power.specs.Theorem.{Beginning, Holds}

module _ {Page Record Mask : Type 0} (S : PageStore Page Record Mask) (Allowed : Mask → Type 0) where
  -- how the turns of drain stand at a moment, from the top of a turn with so many turns left
  pub data During (while_disarmed : Bool) : ℕ → Pass S → Pass S → Type 0 where
    -- at the top of a turn
    at_top : {turns : ℕ} {p : Pass S} → During while_disarmed turns p p
    -- in the midst of a program of the page that waits, any bits of it unprogrammed, by a mask that is allowed
    in_program : {turns : ℕ} {p : Pass S} (page : Page) (keep : Mask) → Allowed keep → (fetched S p.writer).waiting ≡ Some page
        → (fetched S p.writer).next_page < length p.log
        → During while_disarmed (suc turns) p (severed S keep page (with_writer S (fetched S p.writer) p))
    -- after the page was put, before a record is taken
    after_put_lem : {turns : ℕ} {p q : Pass S} → put_page S p ≡ goes_on q → During while_disarmed (suc turns) p q
    -- after the call ended at a page: the store is busy, the region is full, the program failed
    at_end : {turns : ℕ} {p q : Pass S} → put_page S p ≡ ends q → During while_disarmed (suc turns) p q
    -- after a record was taken, a moment of the turns that are left
    after_record : {turns : ℕ} {p q m : Pass S} (r : Record) (queue : List Record) → put_page S p ≡ goes_on q → q.queue ≡ r ∷ queue
        → During while_disarmed turns (take_one S while_disarmed r queue q) m
        → During while_disarmed (suc turns) p m

  -- how the device stands at a moment of a call, where no unfinished page decodes
  pub data Moment : Call S → Device S → Device S → Type 0 where
    -- nothing of the call was done
    before : {c : Call S} {d : Device S} → Moment c d d
    -- the call is over; an offer, a pass that programs nothing and a power-on, which only reads, have no other moments
    over : {c : Call S} {d : Device S} → Assumed S c d → Moment c d (call S c d)
    -- inside the turns of drain
    in_drain : {d : Device S} {m : Pass S} (order : Order Mask) (r : Record) (queue : List Record) → d.writer.writable ≡ true
        → d.queue ≡ r ∷ queue → During order.while_disarmed order.limit (ordered S d order) m → Undecoded S m.unfinished
        → Moment (drains order) d (after_pass S d m)
    -- in the midst of write_pending's program, likewise
    in_write : {d : Device S} (succeed : ℕ) (next : Next Mask) (page : Page) (keep : Mask) → Allowed keep
        → (fetched_if_writable S d.writer).waiting ≡ Some page
        → (fetched_if_writable S d.writer).next_page < length d.log
        → Undecoded S (severed S keep page (with_writer S (fetched_if_writable S d.writer) (begin S d succeed next))).unfinished
        → Moment (writes succeed next) d (after_pass S d (severed S keep page (with_writer S (fetched_if_writable S d.writer) (begin S d succeed next))))

  -- the mask of what the next program does is allowed, where there is one
  abbrev pub MaskAllowed : Next Mask → Type 0
  MaskAllowed busy = Unit {0}
  MaskAllowed (fault keep) = Allowed keep
  MaskAllowed (cut keep) = Allowed keep

  -- a call of the writer whose numbers are at most n and whose mask is allowed
  abbrev pub NoLarger : ℕ → Call S → Type 0
  NoLarger n (offers r) = ⊥
  NoLarger n (drains order) = (order.limit ≤ n) × (order.succeed ≤ n) × MaskAllowed order.next
  NoLarger n (writes succeed next) = (succeed ≤ n) × MaskAllowed next
  NoLarger n powers = ⊥

  -- what is asked of the call of a moment: that, if it is a call of the writer, and of an offer and a power-on nothing
  abbrev pub Bounded : ℕ → Call S → Type 0
  Bounded n (offers r) = Unit {0}
  Bounded n (drains order) = NoLarger n (drains order)
  Bounded n (writes succeed next) = NoLarger n (writes succeed next)
  Bounded n powers = Unit {0}

  -- a life of the kind that the theorem speaks of, after which the next power-on finds the same log and the same history: the call alone, or calls
  -- of the writer, if any, that are no larger than n
  pub record LifeTo (n : ℕ) (c : Call S) (d d' : Device S) : Type 0 where
    pub life : List (Call S)
    pub no_larger : (life ≡ c ∷ []) ⊎ Each (NoLarger n) life
    pub assumed : AllAssumed S life d
    pub same : power_on S (lives S life d) ≡ power_on S d'

module _ {Page Record Mask : Type 0} (S : PageStore Page Record Mask) where
  -- the law, whichever masks are allowed
  abbrev pub EveryMoment : Type 1
  EveryMoment =
      (Allowed : Mask → Type 0) (n : ℕ) (c : Call S) (d d' : Device S) → Bounded S Allowed n c → Moment S Allowed c d d'
      → LifeTo S Allowed n c d d'

  -- so the claims hold at the power-on after any moment of any life
  abbrev pub HoldsAtEveryMoment : Type 1
  HoldsAtEveryMoment =
      (Allowed : Mask → Type 0) (log : List Page) → Beginning S log → (life : List (Call S)) → AllAssumed S life (unpowered S log) → (c : Call S)
      (d' : Device S)
      → Moment S Allowed c (lives S life (unpowered S log)) d'
      → FlightsFit S (history S (power_on S d')) → Holds S (records_on S log) (power_on S d')
