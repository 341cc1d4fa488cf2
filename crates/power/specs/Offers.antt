-- From what a queue took to what was logged, power-on by power-on: what was logged are the records that left the queue, as far as they are to be
-- logged, the first with the boot-session bit; and how many never left it. proofs/Offers shows each statement here.
use Rattle.std.specs.Prelude.{ℕ, ◌+◌, ◌≤◌, ◌≡◌, Bool, true, cond, List, [], ◌∷◌, ◌++◌, length}
use Rattle.power.specs.Pages.{PageStore}
use Rattle.power.specs.Calls.{logs}
use Rattle.power.specs.Life.{Device, Call, offers, drains, writes, powers, call, lives, unpowered, history}
use Rattle.power.specs.Reports.{records_in, mark_first}
use Rattle.power.specs.Boards.{Near}

module _ {Page Record Mask : Type 0} (S : PageStore Page Record Mask) where
  -- the records that the queue took in each power-on, the one that lasts included, after `now` in the first of them
  abbrev pub accepted_from : List Record → List (Call S) → List (List Record)
  accepted_from now [] = now ∷ []
  accepted_from now (offers r ∷ life) = accepted_from (now ++ r ∷ []) life
  accepted_from now (drains order ∷ life) = accepted_from now life
  accepted_from now (writes succeed next ∷ life) = accepted_from now life
  accepted_from now (powers ∷ life) = now ∷ accepted_from [] life

  abbrev pub accepted : List (Call S) → List (List Record)
  accepted life = accepted_from [] life

  -- every drain of a life has the same setting record_while_disarmed
  abbrev pub SettingIs : Bool → List (Call S) → Type 0
  SettingIs while_disarmed [] = Unit {0}
  SettingIs while_disarmed (offers r ∷ life) = SettingIs while_disarmed life
  SettingIs while_disarmed (drains order ∷ life) = (order.while_disarmed ≡ while_disarmed) × SettingIs while_disarmed life
  SettingIs while_disarmed (writes succeed next ∷ life) = SettingIs while_disarmed life
  SettingIs while_disarmed (powers ∷ life) = SettingIs while_disarmed life

  -- every record that is offered is of one edition, as in version 1 of the page all are
  abbrev pub OffersOf : S.Edition → List (Call S) → Type 0
  OffersOf e [] = Unit {0}
  OffersOf e (offers r ∷ life) = (S.edition r ≡ e) × OffersOf e life
  OffersOf e (drains order ∷ life) = OffersOf e life
  OffersOf e (writes succeed next ∷ life) = OffersOf e life
  OffersOf e (powers ∷ life) = OffersOf e life

  -- the records that are to be logged where all are of one edition: all of them, or the armed ones
  abbrev pub loggable : Bool → List Record → List Record
  loggable while_disarmed [] = []
  loggable while_disarmed (r ∷ records) = cond (logs S while_disarmed r) (r ∷ loggable while_disarmed records) (loggable while_disarmed records)

  -- what a power-on logs of the records that left the queue
  abbrev pub logged_of : Bool → List Record → List Record
  logged_of while_disarmed left = mark_first S true (loggable while_disarmed left)

  -- of the records that the queue took, those in front left it on a log that may be written, and the rest never did
  pub record LoggedFrom (while_disarmed : Bool) (taken : List Record) (logged : List (ℕ × Record)) : Type 0 where
    pub left : List Record
    pub rest : List Record
    pub split : taken ≡ left ++ rest
    pub exactly : records_in S logged ≡ logged_of while_disarmed left

  -- TWO BOARDS, a power-on of each: what their queues took differs at its end by n at most, and at most `room` records of either never left its queue.
  -- Then what they logged differs at its end by n + room at most.
  abbrev pub NearStreams : Type 0
  NearStreams =
      (while_disarmed : Bool) (n room : ℕ) (taken taken' : List Record) (logged logged' : List (ℕ × Record))
      → (h : LoggedFrom while_disarmed taken logged) → (h' : LoggedFrom while_disarmed taken' logged') → length h.rest ≤ room
      → length h'.rest ≤ room → Near n taken taken'
      → Near (n + room) (records_in S logged) (records_in S logged')

  -- ---- how many never left the queue

  -- a record is offered only while the log may be written: not after a power cut, and not on a log that is foreign or full
  abbrev pub Heeded : Call S → Device S → Type 0
  Heeded (offers r) d = d.writer.writable ≡ true
  Heeded (drains order) d = Unit {0}
  Heeded (writes succeed next) d = Unit {0}
  Heeded powers d = Unit {0}

  -- and the queue never holds more than `room`
  abbrev pub Within : ℕ → List (Call S) → Device S → Type 0
  Within room [] d = length d.queue ≤ room
  Within room (c ∷ life) d = (length d.queue ≤ room) × Heeded c d × Within room life (call S c d)

  -- all but at most `room` left it
  pub record LoggedBut (room : ℕ) (while_disarmed : Bool) (taken : List Record) (logged : List (ℕ × Record)) : Type 0 where
    pub from : LoggedFrom while_disarmed taken logged
    pub few : length from.rest ≤ room

  -- so it is power-on by power-on
  abbrev pub AllLoggedBut : ℕ → Bool → List (List Record) → List (List (ℕ × Record)) → Type 0
  AllLoggedBut room while_disarmed [] [] = Unit {0}
  AllLoggedBut room while_disarmed [] (logged ∷ hist) = ⊥
  AllLoggedBut room while_disarmed (taken ∷ more) [] = ⊥
  AllLoggedBut room while_disarmed (taken ∷ more) (logged ∷ hist) = LoggedBut room while_disarmed taken logged × AllLoggedBut room while_disarmed more hist

  -- IN EVERY POWER-ON all but at most `room` of the records that the queue took left it, where they are offered only while the log may be written
  abbrev pub LoggedWithin : Type 0
  LoggedWithin =
      (e : S.Edition) (room : ℕ) (while_disarmed : Bool) (log : List Page) (life : List (Call S)) → OffersOf e life → SettingIs while_disarmed life
      → Within room life (unpowered S log) → AllLoggedBut room while_disarmed (accepted life) (history S (lives S life (unpowered S log)))

  -- a record without its flight
  abbrev pub unflown : ℕ × Record → Record
  unflown entry = entry.1
