-- A row by its parts, and the rows of each operation as the code builds them. Assumes nothing.
use Prim.Native.Nat.{ℕ, zero, suc, ◌+◌, ◌-◌, ◌*◌, ◌%◌, ◌^◌, ◌≤◌, ◌<◌}
use mathlib.Core.Path.{◌≡◌, refl, sym, ap, ◌∙◌}
use mathlib.Core.Bool.{Bool, true, false, cond}
use mathlib.Core.List.{List, [], ◌∷◌, ◌++◌}
use native.Mathlib.Omega.{arith}
use native.Mathlib.Decide.{dec_lt}
use borrow.Author.Tests.{eq-eqb, ne_eqb}
use lib.Dec.{eqb}
use mir.Val.{bool_byte}
use lib.ListN.{length, get_or, take, drop, replicate, length-append, length-drop}
use lib.Seq.{length-take-le, take_at, drop_at, drop-drop}
use Rattle.std.specs.Prelude.{Result, Ok, Err}
use Rattle.std.specs.Result.{ResultUnwrapsOrElse}
use Rattle.laws.specs.declared.Refusal.{Refusal}
use Rattle.laws.specs.Answers.{gives, told}
use Rattle.laws.proofs.Chain.{given, no_refusal}
use Rattle.blackbox.specs.declared.FlightRecord.{FlightRecord}
use Rattle.laws.proofs.Choice.{cond_true, cond_false}
use Rattle.words.specs.Words.{le_bytes, u32_at, same_bytes, placed}
use Rattle.store.specs.Store.{part}
use Rattle.blackbox.specs.Page.{padded}
use Rattle.blackbox.specs.Record.{record_of, record_decoded}
use Rattle.words.proofs.Numbers.{stores_follow}
use Rattle.blackbox.proofs.Laying.{length_padded, padded_more, padded_twice}
use Rattle.log_writer.specs.Pass.{drain_order}
use Rattle.log_writer.specs.declared.DrainOrder.{DrainOrder}
use Rattle.log_writer.specs.declared.NextProgram.{NextProgram}
use Rattle.script.specs.Script.{Operation, offers, drains, writes, powers, recovers, resets, flushes, flag_byte, row, row_of}
use Rattle.script.specs.Script.{flag_at, next_in, order_in, offered_in, operation_in, is_row, row_at, rows_in, each_is_row, is_script}

-- ---- a row is laid from its front

module _ (operation next armed while_disarmed flag first second : ℕ) where
  abbrev head : List ℕ
  head = 32 ∷ 1 ∷ operation ∷ next ∷ armed ∷ while_disarmed ∷ flag ∷ 0 ∷ []

  abbrev front : List ℕ
  front = head ++ (le_bytes 4 first ++ le_bytes 4 second)

  front_stored : placed (placed (placed (replicate 288 0) 0 head) 8 (le_bytes 4 first)) 12 (le_bytes 4 second) ≡ padded 288 0 front
  unfolding padded le_bytes
  front_stored =
      stores_follow (replicate 288 0) 0 head ((8, le_bytes 4 first) ∷ (12, le_bytes 4 second) ∷ []) (omega arith)
      ∙ padded_more 288 0 [] front 0 refl (omega arith)

  row_filled : (payload : List ℕ) → length payload ≤ 256
      → padded 288 0 (padded 32 0 front ++ payload) ≡ row operation next armed while_disarmed flag first second payload
  unfolding padded le_bytes row
  row_filled payload h =
      ap (λ (k : ℕ). padded 32 0 front ++ (payload ++ replicate k 0))
      {x = 288 - length (padded 32 0 front ++ payload)} {y = 256 - length payload} (omega arith)

  row_made : (payload o1 o2 o3 o4 : List ℕ) → length payload ≤ 256 → o1 ≡ placed (replicate 288 0) 0 head
      → o2 ≡ placed o1 8 (le_bytes 4 first) → o3 ≡ placed o2 12 (le_bytes 4 second) → o4 ≡ placed o3 32 payload
      → o4 ≡ row operation next armed while_disarmed flag first second payload
  unfolding le_bytes
  row_made payload o1 o2 o3 o4 h e1 e2 e3 e4 =
      e4 ∙ ap (λ (l : List ℕ). placed l 32 payload) (rw (e3, e2, e1) front_stored ∙ padded_twice 288 0 front 32 (omega arith) (omega arith))
      ∙ padded_more 288 0 (padded 32 0 front) payload 32 (length_padded 32 0 front (omega arith)) (omega arith)
      ∙ row_filled payload h

-- a flag's byte
flag_as : (b : Bool) → bool_byte b ≡ flag_byte b
flag_as true = refl
flag_as false = refl

-- the same where the flags are still to be laid as bytes, compared with some bytes
pub head_laid : (operation next first second : ℕ) (armed while_disarmed flag : Bool) (a d f : ℕ) (bytes payload o1 o2 o3 o4 : List ℕ) (r : Bool)
    → length payload ≤ 256 → a ≡ bool_byte armed → d ≡ bool_byte while_disarmed → f ≡ bool_byte flag
    → o1 ≡ placed (replicate 288 0) 0 (32 ∷ 1 ∷ operation ∷ next ∷ a ∷ d ∷ f ∷ 0 ∷ []) → o2 ≡ placed o1 8 (le_bytes 4 first)
    → o3 ≡ placed o2 12 (le_bytes 4 second) → o4 ≡ placed o3 32 payload → r ≡ same_bytes bytes o4
    → r ≡ same_bytes bytes (row operation next (flag_byte armed) (flag_byte while_disarmed) (flag_byte flag) first second payload)
head_laid operation next first second armed while_disarmed flag a d f bytes payload o1 o2 o3 o4 r h ea ed ef e1 e2 e3 e4 er =
    er ∙ ap (same_bytes bytes)
    (row_made operation next (flag_byte armed) (flag_byte while_disarmed) (flag_byte flag) first second payload o1 o2 o3 o4 h
    (e1 ∙ (λ k. placed (replicate 288 0) 0
    (32 ∷ 1 ∷ operation ∷ next ∷ (ea ∙ flag_as armed) k ∷ (ed ∙ flag_as while_disarmed) k ∷ (ef ∙ flag_as flag) k ∷ 0 ∷ []))) e2 e3 e4)

-- ---- a record in a row

record_there : (bytes : List ℕ) → length bytes ≡ 288 → record_decoded (part 32 48 bytes) ≡ gives (record_of (part 32 48 bytes))
unfolding record_decoded
record_there bytes n =
    let long = length-take-le 48 (drop 32 bytes) (omega (arith, length-drop 32 bytes)) in
    rw (eq-eqb (length (part 32 48 bytes)) 48 long) refl

-- what was decoded of it, or the default where it would be refused
record_in : (bytes : List ℕ) (decoded : Result FlightRecord Refusal) (Instead : FlightRecord → Type 0) (r : FlightRecord) → length bytes ≡ 288
    → told decoded ≡ record_decoded (part 32 48 bytes) → ResultUnwrapsOrElse decoded Instead r → r ≡ offered_in bytes
record_in bytes (Ok x) Instead r n e h = h ∙ given (e ∙ record_there bytes n)
record_in bytes (Err why) Instead r n e h = absurd (no_refusal (e ∙ record_there bytes n))

-- ---- the operation that a row says, by its byte

module _ (bytes : List ℕ) where
  abbrev code : ℕ
  code = get_or bytes 2 0

  -- a byte that is none of the first, and the choices after it
  later : {A : Type 0} (n : ℕ) (x y : A) → (code ≡ n → ⊥) → cond (eqb code n) x y ≡ y
  later n x y h = rw (ne_eqb code n h) refl

  here : {A : Type 0} (n : ℕ) (x y : A) → code ≡ n → cond (eqb code n) x y ≡ x
  here n x y h = rw (eq-eqb code n h) refl

  pub order_read : (limit succeed b : ℕ) (armed while_disarmed : Bool) (next : NextProgram) → b ≡ get_or bytes 3 0 → next ≡ next_in b
      → limit ≡ u32_at bytes 8 → armed ≡ flag_at bytes 4 → while_disarmed ≡ flag_at bytes 5 → succeed ≡ u32_at bytes 12
      → drain_order limit armed while_disarmed succeed next ≡ order_in bytes
  order_read limit succeed b armed while_disarmed next eb en el ea ed es =
      λ k. drain_order (el k) (ea k) (ed k) (es k) ((en ∙ ap next_in eb) k)

  pub says_offer : code ≡ 0 → operation_in bytes ≡ offers (offered_in bytes)
  unfolding operation_in
  says_offer e = here 0 _ _ e

  pub says_drain : code ≡ 1 → operation_in bytes
      ≡ drains (order_in bytes) (part 32 256 bytes)
  unfolding operation_in
  says_drain e = later 0 _ _ (λ z. omega arith) ∙ here 1 _ _ e

  pub says_write : code ≡ 2 → operation_in bytes ≡ writes (u32_at bytes 12) (next_in (get_or bytes 3 0)) (part 32 256 bytes)
  unfolding operation_in
  says_write e = later 0 _ _ (λ z. omega arith) ∙ later 1 _ _ (λ z. omega arith) ∙ here 2 _ _ e

  pub says_power : code ≡ 3 → operation_in bytes ≡ powers
  unfolding operation_in
  says_power e = later 0 _ _ (λ z. omega arith) ∙ later 1 _ _ (λ z. omega arith) ∙ later 2 _ _ (λ z. omega arith) ∙ here 3 _ _ e

  pub says_recover : code ≡ 4 → operation_in bytes ≡ recovers (u32_at bytes 8) (u32_at bytes 12) (flag_at bytes 6)
  unfolding operation_in
  says_recover e =
      later 0 _ _ (λ z. omega arith) ∙ later 1 _ _ (λ z. omega arith) ∙ later 2 _ _ (λ z. omega arith) ∙ later 3 _ _ (λ z. omega arith)
      ∙ here 4 _ _ e

  pub says_reset : code ≡ 5 → operation_in bytes ≡ resets
  unfolding operation_in
  says_reset e =
      later 0 _ _ (λ z. omega arith) ∙ later 1 _ _ (λ z. omega arith) ∙ later 2 _ _ (λ z. omega arith) ∙ later 3 _ _ (λ z. omega arith)
      ∙ later 4 _ _ (λ z. omega arith) ∙ here 5 _ _ e

  pub says_flush : 5 < code → operation_in bytes ≡ flushes (flag_at bytes 6) (u32_at bytes 8 + 2 ^ 32 * u32_at bytes 12)
  unfolding operation_in
  says_flush h =
      later 0 _ _ (λ z. omega arith) ∙ later 1 _ _ (λ z. omega arith) ∙ later 2 _ _ (λ z. omega arith) ∙ later 3 _ _ (λ z. omega arith)
      ∙ later 4 _ _ (λ z. omega arith) ∙ later 5 _ _ (λ z. omega arith)

  -- ---- the same, as the code reads it

  module _ (b : ℕ) (eb : b ≡ code) where
    pub reads_offer : (decoded : Result FlightRecord Refusal) (Instead : FlightRecord → Type 0) (r : FlightRecord) → length bytes ≡ 288 → b ≡ 0
        → told decoded ≡ record_decoded (part 32 48 bytes) → ResultUnwrapsOrElse decoded Instead r → offers r ≡ operation_in bytes
    reads_offer decoded Instead r n e ed er = ap offers (record_in bytes decoded Instead r n ed er) ∙ sym (says_offer (sym eb ∙ e))

    pub reads_drain : (order : DrainOrder) → b ≡ 1 → order ≡ order_in bytes → drains order (part 32 256 bytes) ≡ operation_in bytes
    reads_drain order e eo = ap (λ (o : DrainOrder). drains o (part 32 256 bytes)) eo ∙ sym (says_drain (sym eb ∙ e))

    pub reads_write : (succeed y : ℕ) (next : NextProgram) → b ≡ 2 → succeed ≡ u32_at bytes 12 → y ≡ get_or bytes 3 0 → next ≡ next_in y
        → writes succeed next (part 32 256 bytes) ≡ operation_in bytes
    reads_write succeed y next e es ey en =
        (λ k. writes (es k) ((en ∙ ap next_in ey) k) (part 32 256 bytes)) ∙ sym (says_write (sym eb ∙ e))

    pub reads_power : b ≡ 3 → powers ≡ operation_in bytes
    reads_power e = sym (says_power (sym eb ∙ e))

    pub reads_recover : (page flight : ℕ) (writable : Bool) → b ≡ 4 → page ≡ u32_at bytes 8 → flight ≡ u32_at bytes 12 → writable ≡ flag_at bytes 6
        → recovers page flight writable ≡ operation_in bytes
    reads_recover page flight writable e ep ef ew = (λ k. recovers (ep k) (ef k) (ew k)) ∙ sym (says_recover (sym eb ∙ e))

    pub reads_reset : b ≡ 5 → resets ≡ operation_in bytes
    reads_reset e = sym (says_reset (sym eb ∙ e))

    pub reads_flush : (buffered : Bool) (clock : ℕ) → 5 < b → buffered ≡ flag_at bytes 6 → clock ≡ u32_at bytes 8 + 2 ^ 32 * u32_at bytes 12
        → flushes buffered clock ≡ operation_in bytes
    reads_flush buffered clock h eb' ec = (λ k. flushes (eb' k) (ec k)) ∙ sym (says_flush (omega (arith, eb)))

-- what `search` is given where a row is read
pub ruleset reads = (reads_offer, reads_drain, reads_write, reads_power, reads_recover, reads_reset)

-- ---- whether a row is that of the operation that it says

pub is_that : (bytes : List ℕ) (o : Operation) (r : Bool) → o ≡ operation_in bytes → r ≡ same_bytes bytes (row_of o) → r ≡ is_row bytes
unfolding is_row
is_that bytes o r eo er = er ∙ ap (λ (x : Operation). same_bytes bytes (row_of x)) eo

-- ---- rows one after another

each_false : (script : List ℕ) (i n : ℕ) → i < n → is_row (row_at script i) ≡ false → each_is_row script n ≡ false
unfolding each_is_row
each_false script i zero h e = absurd (omega arith)
each_false script i (suc n) h e = go (dec_lt i n) (λ l. each_false script i n l e)
  where
    either : (b : Bool) → cond b false false ≡ false
    either true = refl
    either false = refl

    go : Dec (i < n) → (i < n → each_is_row script n ≡ false) → cond (each_is_row script n) (is_row (row_at script n)) false ≡ false
    go (yes l) ih = cond_false (each_is_row script n) (is_row (row_at script n)) false (ih l)
    go (no l) ih =
        let z : i ≡ n = omega arith in
        ap (λ (b : Bool). cond (each_is_row script n) b false) (ap (λ (j : ℕ). is_row (row_at script j)) (sym z) ∙ e)
        ∙ either (each_is_row script n)

-- the rows from n on are a row and what is behind it
pub record Stands (script : List ℕ) (n : ℕ) (row rest : List ℕ) : Type 0 where
  pub here : row ≡ row_at script n
  pub behind : rest ≡ drop ((n + 1) * 288) script
  pub inside : n < rows_in script

pub stands : (script : List ℕ) (n : ℕ) (row rest both : List ℕ) → both ≡ drop (n * 288) script → both ≡ row ++ rest → length row ≡ 288
    → Stands script n row rest
stands script n row rest both e s l =
    record {
      here = sym (take_at row rest 288 l) ∙ ap (take 288) (sym s ∙ e);
      behind = sym (drop_at row rest 288 l) ∙ ap (drop 288) (sym s ∙ e) ∙ drop-drop 288 (n * 288) script ∙ ap (λ (k : ℕ). drop k script) more;
      inside = omega (arith, l, length-append row rest, ap (length {A = ℕ}) (sym s ∙ e), length-drop (n * 288) script);
    }
  where
    more : n * 288 + 288 ≡ (n + 1) * 288
    more = omega arith

module _ (script : List ℕ) where
  -- what is so where the first n rows were tested
  pub record Tested (n : ℕ) (rest : List ℕ) : Type 0 where
    pub left : rest ≡ drop (n * 288) script
    pub whole : length script % 288 ≡ 0
    pub few : n ≤ rows_in script
    pub each : each_is_row script n ≡ true

  pub no_script : (length script % 288 ≡ 0 → ⊥) → false ≡ is_script script
  unfolding is_script
  no_script h = sym (cond_false (eqb (length script % 288) 0) _ _ (ne_eqb (length script % 288) 0 h))

  pub untested : (rest : List ℕ) → rest ≡ script → length script % 288 ≡ 0 → Tested 0 rest
  unfolding each_is_row
  untested rest e h = record { left = e; whole = h; few = omega arith; each = refl }

  by_rows : length script % 288 ≡ 0 → is_script script ≡ each_is_row script (rows_in script)
  unfolding is_script
  by_rows h = cond_true (eqb (length script % 288) 0) _ _ (eq-eqb (length script % 288) 0 h)

  module _ (n : ℕ) (rest : List ℕ) (t : Tested n rest) where
    module _ (row behind : List ℕ) (s : rest ≡ row ++ behind) (l : length row ≡ 288) (b : Bool) (eb : b ≡ is_row row) where
      at : Stands script n row behind
      at = stands script n row behind rest t.left s l

      test : b ≡ is_row (row_at script n)
      test = eb ∙ ap is_row at.here

      pub tested_more : (m : ℕ) → m ≡ n + 1 → b ≡ true → Tested m behind
      unfolding each_is_row
      tested_more m em e =
          let k : m ≡ suc n = omega arith in
          record {
            left = at.behind ∙ ap (λ (i : ℕ). drop (i * 288) script) (sym em);
            whole = t.whole;
            few = omega (arith, at.inside);
            each = ap (each_is_row script) k ∙ cond_true (each_is_row script n) (is_row (row_at script n)) false t.each ∙ sym test ∙ e;
          }

      pub other_row : b ≡ false → false ≡ is_script script
      other_row e = sym (by_rows t.whole ∙ each_false script n (rows_in script) at.inside (sym test ∙ e))

    pub every_row : length rest < 288 → true ≡ is_script script
    every_row l =
        let z : rows_in script ≡ n = omega (arith, t.few, t.whole, ap (length {A = ℕ}) t.left, length-drop (n * 288) script) in
        sym (by_rows t.whole ∙ ap (each_is_row script) z ∙ t.each)
