-- Every list of operations whose numbers fit has a script that says exactly it, and what the rows of a script say fits. Assumes nothing.
use Prim.Native.Nat.{ℕ, zero, suc, ◌+◌, ◌-◌, ◌*◌, ◌/◌, ◌%◌, ◌^◌, ◌≤◌, ◌<◌}
use mathlib.Core.Path.{◌≡◌, refl, sym, ap, ap₂, ◌∙◌}
use mathlib.Core.Bool.{Bool, true, false, cond, not, false≢true}
use mathlib.Core.List.{List, [], ◌∷◌, ◌++◌}
use native.Mathlib.Omega.{arith}
use borrow.Author.Tests.{eq-eqb}
use lib.Dec.{eqb}
use lib.ListN.{length, get_or, take, drop, replicate, length-append, length-drop}
use lib.Seq.{length-take-le, take_at, drop-append-add}
use Rattle.laws.proofs.Choice.{cond_true, cond_false}
use Rattle.words.specs.Words.{Bytes, le_bytes, le_at, u32_at, same_bytes}
use Rattle.words.proofs.Numbers.{value_le_bytes, bytes_drop, bytes_take}
use Rattle.words.proofs.Same.{same_refl}
use Rattle.store.specs.Store.{part}
use Rattle.blackbox.specs.Page.{padded}
use Rattle.blackbox.specs.Record.{record_of, record_bytes}
use Rattle.blackbox.proofs.Laying.{length_padded, length_record}
use Rattle.blackbox.proofs.RecordTrip.{record_read_back, read_fits, at_lt}
use Rattle.log_writer.specs.Pass.{drain_order}
use Rattle.log_writer.specs.declared.NextProgram.{NextProgram}
use Rattle.log_writer.specs.declared.NextProgram.TheVariants.{Busy, Fault, Cut}
use Rattle.script.specs.Script.{Operation, offers, drains, writes, powers, recovers, resets, flushes, flag_byte, next_byte, row, row_of}
use Rattle.script.specs.Script.{flag_at, next_in, order_in, operation_in, is_row, row_at, rows_in, each_is_row, is_script, operations_from, operations}
use Rattle.script.specs.Script.{script_of}
use Rattle.script.specs.Laws.{Writes, EachWrites, HasScript, RowsFit}
use Rattle.script.proofs.Rows.{says_offer, says_drain, says_write, says_power, says_recover, says_reset, says_flush}

-- ---- a row's parts are read back

module _ (operation next armed while_disarmed flag first second : ℕ) (payload : List ℕ) where
  abbrev it : List ℕ
  it = row operation next armed while_disarmed flag first second payload

  length_row : length payload ≤ 256 → length it ≡ 288
  unfolding row le_bytes
  length_row h = omega (arith, length_padded 256 0 payload h)

  first_back : first < 2 ^ 32 → u32_at it 8 ≡ first
  unfolding row le_bytes le_at
  first_back h = value_le_bytes 4 first (omega arith)

  second_back : second < 2 ^ 32 → u32_at it 12 ≡ second
  unfolding row le_bytes le_at
  second_back h = value_le_bytes 4 second (omega arith)

  payload_back : (n : ℕ) → length payload ≡ n → part 32 n it ≡ payload
  unfolding row le_bytes padded
  payload_back n e = take_at payload (replicate (256 - length payload) 0) n e

flag_back : (b : Bool) → not (eqb (flag_byte b) 0) ≡ b
flag_back true = refl
flag_back false = refl

next_back : (x : NextProgram) → next_in (next_byte x) ≡ x
next_back Busy = refl
next_back Fault = refl
next_back Cut = refl

-- ---- the operation of a row is read back

length_of : (o : Operation) → Writes o → length (row_of o) ≡ 288
unfolding row_of
length_of (offers r) h = length_row _ _ _ _ _ _ _ (record_bytes r) (omega (arith, length_record r))
length_of (drains order keep) h = length_row _ _ _ _ _ _ _ keep (omega (arith, h.2))
length_of (writes succeed next keep) h = length_row _ _ _ _ _ _ _ keep (omega (arith, h.1))
length_of powers h = length_row _ _ _ _ _ _ _ [] (omega arith)
length_of (recovers page flight writable) h = length_row _ _ _ _ _ _ _ [] (omega arith)
length_of resets h = length_row _ _ _ _ _ _ _ [] (omega arith)
length_of (flushes buffered clock) h = length_row _ _ _ _ _ _ _ [] (omega arith)

read_back : (o : Operation) → Writes o → operation_in (row_of o) ≡ o
unfolding row_of row
read_back (offers r) h =
    says_offer (row_of (offers r)) refl
    ∙ ap {B = Operation} (λ (l : List ℕ). offers (record_of l)) (payload_back 0 0 0 0 0 0 0 (record_bytes r) 48 (length_record r))
    ∙ ap {B = Operation} offers (record_read_back r h)
read_back (drains order keep) h =
    let n = next_byte order.next in
    let a = flag_byte order.armed in
    let d = flag_byte order.record_while_disarmed in
    says_drain (row_of (drains order keep)) refl
    ∙ (λ k. drains
    (drain_order (first_back 1 n a d 0 order.limit order.succeed keep h.0 k) (flag_back order.armed k)
    (flag_back order.record_while_disarmed k) (second_back 1 n a d 0 order.limit order.succeed keep h.1 k)
    (next_back order.next k)) (payload_back 1 n a d 0 order.limit order.succeed keep 256 h.2 k))
read_back (writes succeed next keep) h =
    says_write (row_of (writes succeed next keep)) refl
    ∙ (λ k. writes (second_back 2 (next_byte next) 0 0 0 0 succeed keep h.0 k) (next_back next k)
    (payload_back 2 (next_byte next) 0 0 0 0 succeed keep 256 h.1 k))
read_back powers h = says_power (row_of powers) refl
read_back (recovers page flight writable) h =
    says_recover (row_of (recovers page flight writable)) refl
    ∙ (λ k. recovers (first_back 4 0 0 0 (flag_byte writable) page flight [] h.0 k)
    (second_back 4 0 0 0 (flag_byte writable) page flight [] h.1 k)
    (flag_back writable k))
read_back resets h = says_reset (row_of resets) refl
read_back (flushes buffered clock) h =
    says_flush (row_of (flushes buffered clock)) (omega arith)
    ∙ (λ k. flushes (flag_back buffered k) (clock_back k))
  where
    clock_back : u32_at (row_of (flushes buffered clock)) 8 + 2 ^ 32 * u32_at (row_of (flushes buffered clock)) 12 ≡ clock
    clock_back =
        omega (
          arith,
          first_back 6 0 0 0 (flag_byte buffered) (clock % 2 ^ 32) (clock / 2 ^ 32) [] (omega arith),
          second_back 6 0 0 0 (flag_byte buffered) (clock % 2 ^ 32) (clock / 2 ^ 32) [] (omega arith),
        )

its_row : (o : Operation) → Writes o → is_row (row_of o) ≡ true
unfolding is_row
its_row o h = ap (λ (p : Operation). same_bytes (row_of o) (row_of p)) (read_back o h) ∙ same_refl (row_of o)

-- ---- a row in front of others

module _ (bytes script : List ℕ) (n : length bytes ≡ 288) where
  row_first : row_at (bytes ++ script) 0 ≡ bytes
  row_first = take_at bytes script 288 n

  row_later : (i : ℕ) → row_at (bytes ++ script) (suc i) ≡ row_at script i
  row_later i =
      let z : suc i * 288 ≡ length bytes + i * 288 = omega arith in
      ap (take 288) (ap (λ (k : ℕ). drop k (bytes ++ script)) z ∙ drop-append-add bytes script (i * 288))

  one_row_more : rows_in (bytes ++ script) ≡ suc (rows_in script)
  one_row_more = omega (arith, length-append bytes script)

  operations_later : (i k : ℕ) → operations_from (bytes ++ script) (suc i) k ≡ operations_from script i k
  unfolding operations_from
  operations_later i zero = refl
  operations_later i (suc k) =
      ap₂ {C = List Operation} (λ (o : Operation) (os : List Operation). o ∷ os) (ap operation_in (row_later i)) (operations_later (suc i) k)

  each_later : (k : ℕ) → is_row bytes ≡ true → each_is_row script k ≡ true → each_is_row (bytes ++ script) (suc k) ≡ true
  unfolding each_is_row
  each_later zero h e = ap is_row row_first ∙ h
  each_later (suc k) h e = go (each_is_row script k) refl (λ w. each_later k h w)
    where
      go : (b : Bool) → each_is_row script k ≡ b → (each_is_row script k ≡ true → each_is_row (bytes ++ script) (suc k) ≡ true)
          → cond (each_is_row (bytes ++ script) (suc k)) (is_row (row_at (bytes ++ script) (suc k))) false ≡ true
      go true w ih =
          cond_true (each_is_row (bytes ++ script) (suc k)) _ false (ih w) ∙ ap is_row (row_later k)
          ∙ sym (cond_true (each_is_row script k) _ false w) ∙ e
      go false w ih = absurd (false≢true (sym (cond_false (each_is_row script k) (is_row (row_at script k)) false w) ∙ e))

-- a script is whole rows, and each is one
pub record IsScript (script : List ℕ) : Type 0 where
  pub whole : length script % 288 ≡ 0
  pub each : each_is_row script (rows_in script) ≡ true

is_script_lem : (script : List ℕ) → IsScript script → is_script script ≡ true
unfolding is_script
is_script_lem script s = cond_true (eqb (length script % 288) 0) _ _ (eq-eqb (length script % 288) 0 s.whole) ∙ s.each

scripted : (os : List Operation) → EachWrites os → IsScript (script_of os) × (operations (script_of os) ≡ os)
unfolding script_of each_is_row operations_from
scripted [] h = (record { whole = refl; each = refl }, refl)
scripted (o ∷ os) h = go (scripted os h.1)
  where
    long : length (row_of o) ≡ 288
    long = length_of o h.0

    go : IsScript (script_of os) × (operations (script_of os) ≡ os)
        → IsScript (row_of o ++ script_of os) × (operations (row_of o ++ script_of os) ≡ o ∷ os)
    go s = (
      record {
        whole = omega (arith, long, length-append (row_of o) (script_of os), s.0.whole);
        each =
            ap (each_is_row (row_of o ++ script_of os)) (one_row_more (row_of o) (script_of os) long)
            ∙ each_later (row_of o) (script_of os) long (rows_in (script_of os)) (its_row o h.0) s.0.each;
      },
      ap (operations_from (row_of o ++ script_of os) 0) (one_row_more (row_of o) (script_of os) long)
          ∙ ap₂ {C = List Operation} (λ (p : Operation) (ps : List Operation). p ∷ ps)
          (ap operation_in (row_first (row_of o) (script_of os) long) ∙ read_back o h.0)
          (operations_later (row_of o) (script_of os) long 0 (rows_in (script_of os)) ∙ s.1),
    )

pub has_script : HasScript
has_script os h = let s = scripted os h in (is_script_lem (script_of os) s.0, s.1)

-- ---- what the rows of a script say fits

-- the same as a record, whose operation is found
record Fits (o : Operation) : Type 0 where
  fits : Writes o

chosen : (b : Bool) (x y : Operation) → Fits x → Fits y → Fits (cond b x y)
chosen true x y h k = h
chosen false x y h k = k

row_fits : (bytes : List ℕ) → Bytes bytes → length bytes ≡ 288 → Fits (operation_in bytes)
unfolding operation_in
row_fits bytes h n =
    chosen (is 0) _ _ offer
    (chosen (is 1) _ _ drain
    (chosen (is 2) _ _ write (chosen (is 3) _ _ power (chosen (is 4) _ _ recover (chosen (is 5) _ _ reset flush)))))
  where
    is : ℕ → Bool
    is code = eqb (get_or bytes 2 0) code

    first : u32_at bytes 8 < 2 ^ 32
    first = omega (arith, at_lt 4 bytes h 8)

    second : u32_at bytes 12 < 2 ^ 32
    second = omega (arith, at_lt 4 bytes h 12)

    mask : length (part 32 256 bytes) ≡ 256
    mask = length-take-le 256 (drop 32 bytes) (omega (arith, length-drop 32 bytes))

    offer : Fits (offers (record_of (part 32 48 bytes)))
    offer = record { fits = read_fits (part 32 48 bytes) (bytes_take 48 (drop 32 bytes) (bytes_drop 32 bytes h)) }

    drain : Fits (drains (order_in bytes) (part 32 256 bytes))
    drain = record { fits = (first, second, mask) }

    write : Fits (writes (u32_at bytes 12) (next_in (get_or bytes 3 0)) (part 32 256 bytes))
    write = record { fits = (second, mask) }

    power : Fits powers
    power = record { fits = tt }

    recover : Fits (recovers (u32_at bytes 8) (u32_at bytes 12) (flag_at bytes 6))
    recover = record { fits = (first, second) }

    reset : Fits resets
    reset = record { fits = tt }

    flush : Fits (flushes (flag_at bytes 6) (u32_at bytes 8 + 2 ^ 32 * u32_at bytes 12))
    flush = record { fits = omega (arith, first, second) }

rows_fit_from : (script : List ℕ) → Bytes script → (k i : ℕ) → i + k ≤ rows_in script → EachWrites (operations_from script i k)
unfolding operations_from
rows_fit_from script h zero i l = tt
rows_fit_from script h (suc k) i l = (
  (row_fits (row_at script i) (bytes_take 288 (drop (i * 288) script) (bytes_drop (i * 288) script h))
      (length-take-le 288 (drop (i * 288) script) (omega (arith, length-drop (i * 288) script)))).fits,
  rows_fit_from script h k (suc i) (omega arith),
)

pub rows_fit : RowsFit
rows_fit script h e = rows_fit_from script h (rows_in script) 0 (omega arith)
