-- Every answer that an export gives refuses by a number of the table, with a fault byte for 6 alone: each definition is a chain of tests and
-- calls, taken link by link. Assumes nothing.
use Prim.Native.Nat.{ℕ, zero, suc, ◌+◌, ◌-◌, ◌/◌, ◌<◌, ◌≤◌}
use mathlib.Core.Path.{◌≡◌, refl, sym}
use mathlib.Core.Bool.{Bool, true, false, cond, not}
use mathlib.Core.List.{List}
use Rattle.std.specs.Prelude.{Option, None, Some}
use Rattle.std.specs.declared.ops.ControlFlow.TheVariants.{Continue, Break}
use native.Mathlib.Omega.{arith}
use lib.Dec.{eqb, leb, ltb}
use lib.ListN.{length, get_or, take, drop}
use Rattle.laws.specs.Refusals as Number
use Rattle.laws.specs.Answers.{Answer, gives, refuses, must, then}
use Rattle.laws.proofs.Chain.{given, no_refusal}
use Rattle.laws.specs.Halving.{middle, turn, halve, halving}
use Rattle.layout.specs.Layout.{layout_of, log_page_address, log_sector_count, sync_ledger_address, log_erase_sector_address, valid_capacity, pages_in, ledger_at}
use Rattle.store.specs.Store.{on_image, on_lengths, read_of, fault_at, done, replied, bytes_read, program_stores, erase_stores, read_told, program_told, erase_told, in_one_page, is_sector}
use Rattle.words.specs.Words.{same_bytes, u32_at}
use Rattle.crc32.specs.Crc.{crc32_of}
use Rattle.blackbox.specs.Record.{record_of, record_decoded}
use Rattle.blackbox.specs.Page.{magic, metadata, decoded, decoded_as, encoded, record_from_page}
use Rattle.records.specs.Pages.{reading_at, read_page, blank_at, own_at, or_else, page_flight, flight_of_page}
use Rattle.records.specs.Explain.{explained}
use Rattle.records.proofs.Reasons.{reason_of_scan}
use Rattle.records.specs.Scan.{used_pages, if_begun, verdict, scan_pages, scanned}
use Rattle.records.specs.declared.PageFlight.{PageFlight}
use Rattle.records.specs.declared.Scan.{Scan}
use Rattle.sync_ledger.specs.Ledger.{header_at, read_header, in_range, located, bit_location, is_synced, step_under, step_at, next_mark_step, step_stores, step_told}
use Rattle.sync_ledger.proofs.Agree.{synced_where_done}
use Rattle.sync_ledger.specs.declared.LedgerHeader.{LedgerHeader}
use Rattle.sync_ledger.specs.declared.LedgerHeader.TheVariants.{Blank, Valid, Foreign}
use Rattle.sync_ledger.specs.declared.MarkStep.{MarkStep}
use Rattle.sync_ledger.specs.declared.MarkStep.TheVariants.{EraseLedger, ProgramHeader, ProgramBit, Done}
use Rattle.log_search.specs.Search.{or_corrupt, flight_id_of, reaches, lower_bound, end_of, found_from, found, older, found_flight, older_flight}
use Rattle.log_search.specs.declared.StoredFlight.{StoredFlight}
use Rattle.log_sync.specs.Walk.{Visit, after, visited, walk_from, walk}
use Rattle.log_sync.specs.Sync.{is_recorded, never_past, acknowledged, wanted, no_flights, listed, list_visit, unsynced_flights, all_visit, all_acknowledged, unless_recording, all_synced, held_against, ack_found, ack_checked}
use Rattle.log_lines.specs.Lines.{unsynced}
use Rattle.reply_codec.specs.CodecRows.{encoded_rows}
use Rattle.reply_text.specs.TextRows.{lines_of}
use Rattle.reply_laws.specs.Laws.{Listed, Holds, Anything, Proper}

-- ---- links of a chain

-- a number without a fault byte
pub plain : (number : ℕ) → 0 < number → number ≤ 17 → Listed number 0
plain number s k = record { some = s; known = k; quiet = λ _. refl }

pub faulty : (fault : ℕ) → Listed Number.device fault
faulty fault = record { some = omega arith; known = omega arith; quiet = λ h. absurd (h refl) }

pub ok : {A : Type 0} {P : A → Type 0} (a : A) → P a → Holds P (gives a)
ok {A} {P} a p = record { given = λ b e. rw (← given e) p; refused = λ number fault e. absurd (no_refusal (sym e)) }

pub no : {A : Type 0} {P : A → Type 0} (number fault : ℕ) → Listed number fault → Holds P (refuses number fault)
no {A} {P} number fault l =
    record {
      given = λ a e. absurd (no_refusal e);
      refused = λ m x e. let s : number ≡ m = cc in let t : fault ≡ x = cc in rw (← s, ← t) l;
    }

pub any : {A : Type 0} (a : A) → Holds Anything (gives a)
any a = ok a tt

pub test : {A : Type 0} (P : A → Type 0) (b : Bool) (number : ℕ) (rest : Answer A) → Listed number 0 → Holds P rest → Holds P (must b number rest)
test P true number rest l h = h
test P false number rest l h = no number 0 l

pub call : {A B : Type 0} (P : A → Type 0) (Q : B → Type 0) (a : Answer A) (f : A → Answer B) → Holds P a → ((v : A) → P v → Holds Q (f v)) → Holds Q (then a f)
call P Q (gives v) f h k = k v (h.given v refl)
call P Q (refuses number fault) f h k = no number fault (h.refused number fault refl)

pub choice : {A : Type 0} (P : A → Type 0) (b : Bool) (x y : Answer A) → Holds P x → Holds P y → Holds P (cond b x y)
choice P true x y h k = h
choice P false x y h k = k

five : Listed Number.invalid_layout 0
five = plain 5 (omega arith) (omega arith)

one : Listed Number.invalid_record_count 0
one = plain 1 (omega arith) (omega arith)

pub seventeen : Listed Number.bad_length 0
seventeen = plain 17 (omega arith) (omega arith)

on_image_lem : {A : Type 0} (P : A → Type 0) (c n : ℕ) (rest : Answer A) → Holds P rest → Holds P (on_image c n rest)
unfolding on_image
on_image_lem P c n rest h = test P (valid_capacity c) Number.invalid_layout _ five (test P (eqb n c) Number.bad_length rest seventeen h)

pub on_lengths_lem : {A : Type 0} (P : A → Type 0) (c n l w : ℕ) (rest : Answer A) → Holds P rest → Holds P (on_lengths c n l w rest)
unfolding on_lengths
on_lengths_lem P c n l w rest h = on_image_lem P c n _ (test P (eqb l w) Number.bad_length rest seventeen h)

pub reading : {A : Type 0} (P : A → Type 0) (faults : List ℕ) (address : ℕ) (value : A) → P value → Holds P (read_of faults address value)
unfolding read_of
reading P faults address value h = choice P (eqb (fault_at faults address) 0) (gives value) (refuses Number.device (fault_at faults address)) (ok value h)
    (no Number.device (fault_at faults address) (faulty (fault_at faults address)))

halved : (test : ℕ → Answer Bool) → ((i : ℕ) → Proper (test i)) → (fuel low high : ℕ) → Proper (halve fuel test low high)
unfolding halve
halved test h zero low high = any low
halved test h (suc fuel) low high =
    go (ltb low high) (sent (test (middle low high)) _ _ (h (middle low high)) (halved test h fuel low (middle low high)) (halved test h fuel (suc (middle low high)) high))
  where
    sent : (a : Answer Bool) (down up : Answer ℕ) → Proper a → Proper down → Proper up → Proper (turn a down up)
    sent (refuses number fault) down up k d u = no number fault (k.refused number fault refl)
    sent (gives true) down up k d u = d
    sent (gives false) down up k d u = u

    go : (b : Bool) → Proper (turn (test (middle low high)) (halve fuel test low (middle low high)) (halve fuel test (suc (middle low high)) high))
        → Proper {A = ℕ}
        (elim b [
          | false ↦ gives low
          | true ↦ turn (test (middle low high)) (halve fuel test low (middle low high)) (halve fuel test (suc (middle low high)) high)
        ])
    go false k = any low
    go true k = k

-- ---- pages, scan and search

pub decoding : (page : List ℕ) → Proper (decoded page)
unfolding decoded decoded_as
decoding page =
    test Anything (eqb (length page) 256) Number.bad_length _ seventeen
    (test Anything (same_bytes (take 2 (drop 240 page)) magic) Number.invalid_magic _ (plain 2 (omega arith) (omega arith))
    (test Anything (eqb (get_or page 242 0) 1) Number.unsupported_version _ (plain 3 (omega arith) (omega arith))
    (test Anything (leb (get_or page 243 0) 5) Number.invalid_record_count _ one
    (test Anything (eqb (crc32_of (take 252 page)) (u32_at page 252)) Number.crc_mismatch _ (plain 4 (omega arith) (omega arith))
    (any (metadata (u32_at page 244) (u32_at page 248) (get_or page 243 0)))))))

module _ (image faults : List ℕ) where
  page : (i : ℕ) → Proper (reading_at image faults i)
  unfolding reading_at read_page
  page i = call Anything Anything _ _ (reading Anything faults _ _ tt) (λ page _. any _)

  blank : (i : ℕ) → Proper (blank_at image faults i)
  unfolding blank_at
  blank i = call Anything Anything _ _ (page i) (λ r _. any _)

  own : (i : ℕ) → Proper (own_at image faults i)
  unfolding own_at
  own i = call Anything Anything _ _ (page i) (λ r _. any _)

  else : (o : Option PageFlight) (other : Answer (Option PageFlight)) → Proper other → Proper (or_else o other)
  else None other h = h
  else (Some f) other h = any (Some f)

  pub flight : (i : ℕ) → Proper (page_flight image faults i)
  unfolding page_flight
  flight i = call Anything Anything _ _ (own i) (λ o _. else o _ (choice Anything (eqb i 0) (gives None) _ (any None) (own (i - 1))))

  begun : (o : Option PageFlight) (rest : Answer Scan) → Proper rest → Proper (if_begun o rest)
  begun None rest h = any _
  begun (Some f) rest h = h

  pub scanning : (pages : ℕ) → Proper (scan_pages pages image faults)
  unfolding scan_pages used_pages halving verdict
  scanning pages =
      call Anything Anything _ _ (halved (blank_at image faults) blank pages 0 pages)
      (λ used _. choice Anything (eqb used 0) _ _ (any _)
      (call Anything Anything _ _ (own 0) (λ o _. begun o _ (call Anything Anything _ _ (flight (used - 1)) (λ f _. any _)))))

  corrupted : (o : Option PageFlight) → Proper (or_corrupt o)
  corrupted None = no 7 0 (plain 7 (omega arith) (omega arith))
  corrupted (Some f) = any _

  pub identified : (pages i : ℕ) → Proper (flight_id_of pages image faults i)
  unfolding flight_id_of
  identified pages i =
      test Anything (ltb i pages) Number.corrupt _ (plain 7 (omega arith) (omega arith)) (call Anything Anything _ _ (flight i) (λ o _. corrupted o))

module _ (flight_at : ℕ → Answer ℕ) (h : (i : ℕ) → Proper (flight_at i)) where
  bound : (end f : ℕ) → Proper (lower_bound flight_at end f)
  unfolding lower_bound halving reaches
  bound end f = halved (reaches flight_at f) (λ i. call Anything Anything _ _ (h i) (λ g _. any _)) end 0 end

  ending : (used f : ℕ) → Proper (end_of flight_at used f)
  unfolding end_of
  ending used f = choice Anything (ltb f 4294967295) _ _ (bound used (f + 1)) (any used)

  pub finding : (used f : ℕ) → Proper (found flight_at used f)
  unfolding found found_from
  finding used f =
      call Anything Anything _ _ (bound used f)
      (λ start _. choice Anything (eqb start used) _ _ (any None)
      (call Anything Anything _ _ (h start) (λ g _. choice Anything (eqb g f) _ _ (call Anything Anything _ _ (ending used f) (λ e _. any _)) (any None))))

  pub stepping : (end : ℕ) → Proper (older flight_at end)
  unfolding older
  stepping end =
      choice Anything (eqb end 0) _ _ (any None)
      (call Anything Anything _ _ (h (end - 1)) (λ f _. call Anything Anything _ _ (bound end f) (λ start _. any _)))

  -- ---- the walk, by any visit

  module _ {S : Type 0} (visit : S → StoredFlight → Answer (Visit S)) (k : (s : S) (f : StoredFlight) → Proper (visit s f)) where
    walked : (fuel end : ℕ) (s : S) → Proper (walk_from flight_at visit fuel end s)
    unfolding walk_from
    walked zero end s = any s
    walked (suc fuel) end s = call Anything Anything _ _ (stepping end) (λ o _. next (walked fuel) o)
      where
        followed : ((e : ℕ) (t : S) → Proper (walk_from flight_at visit fuel e t)) → (f : StoredFlight) (v : Visit S)
            → Proper (after flight_at visit (walk_from flight_at visit fuel) f v)
        followed ih f (Continue t) = ih f.start_page t
        followed ih f (Break t) = any t

        next : ((e : ℕ) (t : S) → Proper (walk_from flight_at visit fuel e t)) → (o : Option StoredFlight)
            → Proper (visited flight_at visit (walk_from flight_at visit fuel) s o)
        next ih None = any s
        next ih (Some f) = call Anything Anything _ _ (k s f) (λ v _. followed ih f v)

-- ---- codec and layout

pub record_decoding : (row : List ℕ) → Proper (record_decoded row)
unfolding record_decoded
record_decoding row = test Anything (eqb (length row) 48) Number.bad_length _ seventeen (any (record_of row))

pub rows_encoding : (flight sequence : ℕ) (rows : List ℕ) (count : ℕ) → Proper (encoded_rows flight sequence rows count)
unfolding encoded_rows encoded
rows_encoding flight sequence rows count =
    test Anything (eqb (length rows) 240) Number.bad_length _ seventeen (test Anything (leb count 5) Number.invalid_record_count _ one (any _))

pub from_page : (page : List ℕ) (index : ℕ) → Proper (record_from_page page index)
unfolding record_from_page
from_page page index =
    call Anything Anything _ _ (decoding page)
    (λ m _. test Anything (ltb index m.record_count) Number.invalid_record_count _ one (any _))

module _ (c : ℕ) where
  capacity : {A : Type 0} (rest : Answer A) → Proper rest → Proper (must (valid_capacity c) Number.invalid_layout rest)
  capacity rest h = test Anything (valid_capacity c) Number.invalid_layout rest five h

  pub laying : Proper (layout_of c)
  unfolding layout_of
  laying = capacity _ (any _)

  pub paging : (i : ℕ) → Proper (log_page_address c i)
  unfolding log_page_address
  paging i = capacity _ (any _)

  pub counting : Proper (log_sector_count c)
  unfolding log_sector_count
  counting = capacity _ (any _)

  pub placing : Proper (sync_ledger_address c)
  unfolding sync_ledger_address
  placing = capacity _ (any _)

  pub erasing : (k : ℕ) → Proper (log_erase_sector_address c k)
  unfolding log_erase_sector_address
  erasing k = capacity _ (any _)

-- ---- store

replying : (reply : ℕ) → Proper (replied reply)
unfolding replied
replying reply = choice Anything (eqb reply 0) _ _ (any tt) (no Number.device reply (faulty reply))

doing : {A : Type 0} (a : Answer A) → Proper a → Proper (done a)
doing (gives v) h = any tt
doing (refuses number fault) h = no number fault (h.refused number fault refl)

pub reading_bytes : (c : ℕ) (image faults : List ℕ) (address : ℕ) (output : List ℕ) → Proper (read_told c image faults address output)
unfolding bytes_read
reading_bytes c image faults address output =
    doing _ (on_lengths_lem Anything c (length image) (length faults) (c / 256) _
    (test Anything (in_one_page c address (length output)) Number.bad_length _ seventeen (reading Anything faults address _ tt)))

storing : (c : ℕ) (image : List ℕ) (address : ℕ) (target keep : List ℕ) (reply : ℕ) → Proper (program_stores c image address target keep reply)
unfolding program_stores
storing c image address target keep reply =
    on_lengths_lem Anything c (length image) (length keep) 256 _ (test Anything (in_one_page c address (length target)) Number.bad_length _ seventeen (any _))

clearing : (c : ℕ) (image : List ℕ) (address reply : ℕ) → Proper (erase_stores c image address reply)
unfolding erase_stores
clearing c image address reply = on_image_lem Anything c (length image) _ (test Anything (is_sector c address) Number.bad_length _ seventeen (any _))

pub programming : (c : ℕ) (image : List ℕ) (address : ℕ) (target keep : List ℕ) (reply : ℕ) → Proper (program_told c image address target keep reply)
programming c image address target keep reply = call Anything Anything _ _ (storing c image address target keep reply) (λ _ _. replying reply)

pub erasing_sector : (c : ℕ) (image : List ℕ) (address reply : ℕ) → Proper (erase_told c image address reply)
erasing_sector c image address reply = call Anything Anything _ _ (clearing c image address reply) (λ _ _. replying reply)

-- ---- scan and search on an image

module _ (c : ℕ) (image faults : List ℕ) where
  pub scan : Proper (scanned c image faults)
  unfolding scanned
  scan = on_lengths_lem Anything c (length image) (length faults) (c / 256) _ (scanning image faults (pages_in c))

  -- it is refused where the scan is, by the same number
  pub explain : Proper (explained c image faults)
  explain = record { given = λ r e. tt; refused = λ number fault e. scan.refused number fault (((reason_of_scan c image faults).refused number fault).0 e) }

  pub page_flight_lem : (i : ℕ) → Proper (flight_of_page c image faults i)
  unfolding flight_of_page
  page_flight_lem i =
      on_lengths_lem Anything c (length image) (length faults) (c / 256) _
      (test Anything (ltb i (pages_in c)) Number.corrupt _ (plain 7 (omega arith) (omega arith)) (flight image faults i))

  pub find : (used f : ℕ) → Proper (found_flight c image faults used f)
  unfolding found_flight
  find used f =
      on_lengths_lem Anything c (length image) (length faults) (c / 256) _
      (finding (flight_id_of (pages_in c) image faults) (identified image faults (pages_in c)) used f)

  pub walk_down : (end : ℕ) → Proper (older_flight c image faults end)
  unfolding older_flight
  walk_down end =
      on_lengths_lem Anything c (length image) (length faults) (c / 256) _
      (stepping (flight_id_of (pages_in c) image faults) (identified image faults (pages_in c)) end)

  -- ---- ledger

  heading : (ledger : ℕ) → Proper (header_at ledger image faults)
  unfolding header_at
  heading ledger = reading Anything faults ledger _ tt

  pub header : Proper (read_header c image faults)
  unfolding read_header
  header = on_lengths_lem Anything c (length image) (length faults) (c / 256) _ (heading (ledger_at c))

  eight : Listed Number.out_of_range 0
  eight = plain 8 (omega arith) (omega arith)

  pub bit : (f : ℕ) → Proper (bit_location c f)
  unfolding bit_location located
  bit f = capacity c _ (test Anything (in_range f) Number.out_of_range _ eight (any _))

  planned : (ledger address k : ℕ) (h : LedgerHeader) → Proper (step_under ledger image faults address k h)
  unfolding step_under
  planned ledger address k Foreign = any _
  planned ledger address k Blank = any _
  planned ledger address k Valid = call Anything Anything _ _ (reading Anything faults address _ tt) (λ b _. any _)

  pub mark_step : (f : ℕ) → Proper (next_mark_step c image faults f)
  unfolding next_mark_step step_at
  mark_step f =
      on_lengths_lem Anything c (length image) (length faults) (c / 256) _
      (test Anything (in_range f) Number.out_of_range _ eight (call Anything Anything _ _ (heading (ledger_at c)) (λ h _. planned _ _ _ h)))

  pub synced : (f : ℕ) → Proper (is_synced c image faults f)
  synced f = rw (synced_where_done c image faults f) (call Anything Anything _ _ (mark_step f) (λ step _. any _))

  -- ---- log sync

  never : (a : Answer Bool) → Proper a → Proper (never_past a)
  never (gives b) h = any b
  never (refuses number fault) h = choice Anything (eqb number Number.out_of_range) _ _ (any false) (no number fault (h.refused number fault refl))

  acked : (f : ℕ) → Proper (acknowledged c image faults f)
  unfolding acknowledged
  acked f = never _ (synced f)

  wants : (recorded : Option ℕ) (f : ℕ) → Proper (wanted c image faults recorded f)
  unfolding wanted
  wants recorded f = call Anything Anything _ _ (acked f) (λ b _. any _)

  pub list : (used : ℕ) (recorded : Option ℕ) → Proper (unsynced_flights c image faults used recorded)
  unfolding unsynced_flights listed walk list_visit
  list used recorded =
      on_lengths_lem Anything c (length image) (length faults) (c / 256) _
      (walked (flight_id_of (pages_in c) image faults) (identified image faults (pages_in c)) (list_visit (wanted c image faults recorded))
      (λ u f. call Anything Anything _ _ (wants recorded f.flight_id) (λ b _. any _)) used used no_flights)

  unless : (recorded : Option ℕ) (rest : Answer Bool) → Proper rest → Proper (unless_recording recorded rest)
  unless None rest h = h
  unless (Some f) rest h = any false

  pub all : (used : ℕ) (recorded : Option ℕ) → Proper (all_synced c image faults used recorded)
  unfolding all_synced all_acknowledged walk
  all used recorded =
      on_lengths_lem Anything c (length image) (length faults) (c / 256) _
      (unless recorded _
      (walked (flight_id_of (pages_in c) image faults) (identified image faults (pages_in c)) (all_visit (acknowledged c image faults))
      (λ s f. call Anything Anything _ _ (acked f.flight_id) (λ b _. any _)) used used true))

  held : (pages : ℕ) (o : Option StoredFlight) → Proper (held_against pages o)
  held pages None = no 12 0 (plain 12 (omega arith) (omega arith))
  held pages (Some f) = test Anything (eqb f.pages pages) Number.length_changed _ (plain 14 (omega arith) (omega arith)) (any tt)

  pub ack : (used : ℕ) (recorded : Option ℕ) (f pages : ℕ) → Proper (ack_checked c image faults used recorded f pages)
  unfolding ack_checked ack_found
  ack used recorded f pages =
      on_lengths_lem Anything c (length image) (length faults) (c / 256) _
      (test Anything (not (is_recorded recorded f)) Number.recording _ (plain 13 (omega arith) (omega arith))
      (test Anything (not (eqb f 0)) Number.no_such_flight _ (plain 12 (omega arith) (omega arith))
      (test Anything (leb f 32704) Number.ledger_full _ (plain 15 (omega arith) (omega arith))
      (call Anything Anything _ _ (finding (flight_id_of (pages_in c) image faults) (identified image faults (pages_in c)) used f) (λ o _. held pages o)))))

pub starting : (c : ℕ) (image : List ℕ) (step : MarkStep) (keep : List ℕ) (reply : ℕ) → Proper (step_told c image step keep reply)
unfolding step_stores
starting c image (EraseLedger address) keep reply =
    call Anything Anything _ _ (on_lengths_lem Anything c (length image) (length keep) 256 _ (clearing c image address reply)) (λ _ _. replying reply)
starting c image (ProgramHeader address) keep reply = call Anything Anything _ _ (storing c image address _ keep reply) (λ _ _. replying reply)
starting c image (ProgramBit address value) keep reply = call Anything Anything _ _ (storing c image address _ keep reply) (λ _ _. replying reply)
starting c image Done keep reply =
    call Anything Anything _ _ (on_lengths_lem Anything c (length image) (length keep) 256 _ (any image)) (λ _ _. replying 0)

pub lining : (flights : List ℕ) (count more : ℕ) → Proper (lines_of flights count more)
unfolding lines_of unsynced
lining flights count more =
    test Anything (eqb (length flights) 96) Number.bad_length _ seventeen (test Anything (leb count 8) Number.bad_length _ seventeen (any _))
