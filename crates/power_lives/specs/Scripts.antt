-- No life and no moment is left out: every life of the theory has a script, and every moment inside a call, where the power may go, is the end of a
-- life that has one. So demand 3 holds at any moment of any life. proofs/Every shows each statement here.
use Rattle.std.specs.Prelude.{ℕ, ◌^◌, ◌<◌, ◌≡◌, true, List, [], ◌∷◌, length}
use Rattle.power.specs.Calls.{Next}
use Rattle.power.specs.Life.{Call, Device}
use Rattle.power.specs.Life as Life
use Rattle.power.specs.Moments.{Moment}
use Rattle.words.specs.Words.{Bytes}
use Rattle.layout.specs.Layout.{valid_capacity}
use Rattle.blackbox.specs.Record.{Fit}
use Rattle.power_pages.specs.Store.{real}
use Rattle.script.specs.Script.{is_script, operations}
use Rattle.rig.specs.Rig.{after_play}
use Rattle.power_lives.specs.Lives.{EachOfLife, life_of, device_before}
use Rattle.power_lives.specs.Theorem.{Plays, log_of, Erased, logged_in, Safe}

-- "a lent 256-byte keep mask"
abbrev pub IsMask : List ℕ → Type 0
IsMask keep = (length keep ≡ 256) × Bytes keep

-- where there is one
abbrev pub MaskFits : Next (List ℕ) → Type 0
MaskFits Next.busy = Unit {0}
MaskFits (Next.fault keep) = IsMask keep
MaskFits (Next.cut keep) = IsMask keep

-- a call that a row can say, of a queue that takes it: its numbers fit 32 bits, and no record is offered to a queue that holds 31
abbrev pub Fits : Call real → Device real → Type 0
Fits (Life.offers r) d = Fit r × (length d.queue < 31)
Fits (Life.drains order) d = (order.limit < 2 ^ 32) × (order.succeed < 2 ^ 32) × MaskFits order.next
Fits (Life.writes succeed next) d = (succeed < 2 ^ 32) × MaskFits next
Fits Life.powers d = Unit {0}

abbrev pub AllFit : List (Call real) → Device real → Type 0
AllFit [] d = Unit {0}
AllFit (c ∷ life) d = Fits c d × AllFit life (Life.call real c d)

-- a script that plays exactly a life
pub record ScriptOf (capacity : ℕ) (image : List ℕ) (life : List (Call real)) : Type 0 where
  pub script : List ℕ
  pub bytes : Bytes script
  pub rows : is_script script ≡ true
  pub each : EachOfLife (operations script)
  pub same : life_of capacity image script ≡ life

-- EVERY LIFE HAS A SCRIPT
abbrev pub EveryLifeHasScript : Type 0
EveryLifeHasScript =
    (capacity : ℕ) (image : List ℕ) → valid_capacity capacity ≡ true → length image ≡ capacity → (life : List (Call real))
    → AllFit life (device_before capacity image) → ScriptOf capacity image life

-- A device of the theory as rig leaves it: a script is played, after which the image's log is the device's and what was logged is its history; and of
-- that image demand 3 holds.
pub record EndsSafe (capacity : ℕ) (image : List ℕ) (d : Device real) : Type 0 where
  pub script : List ℕ
  pub output : List ℕ
  pub plays : Plays capacity image script output
  pub log : log_of capacity (after_play capacity image script output) ≡ d.log
  pub logged : logged_in capacity image script ≡ Life.history real d
  pub safe : Safe capacity image (after_play capacity image script output) (logged_in capacity image script)

-- EVERY LIFE IS SAFE, from an erased log, where no unfinished page decodes
abbrev pub EveryLifeSafe : Type 0
EveryLifeSafe =
    (capacity : ℕ) (image : List ℕ) → valid_capacity capacity ≡ true → length image ≡ capacity → Erased capacity image → (life : List (Call real))
    → AllFit life (device_before capacity image) → Life.AllAssumed real life (device_before capacity image)
    → EndsSafe capacity image (Life.lives real life (device_before capacity image))

-- "power may go at any moment": and so is every moment inside the call that comes next
abbrev pub EveryMomentSafe : Type 0
EveryMomentSafe =
    (capacity : ℕ) (image : List ℕ) → valid_capacity capacity ≡ true → length image ≡ capacity → Erased capacity image → (life : List (Call real))
    → AllFit life (device_before capacity image) → Life.AllAssumed real life (device_before capacity image)
    → (c : Call real) → Fits c (Life.lives real life (device_before capacity image)) → (d : Device real)
    → Moment real IsMask c (Life.lives real life (device_before capacity image)) d → EndsSafe capacity image d
