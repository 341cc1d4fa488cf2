-- The records of five rows. Assumes nothing.
use Rattle.std.proofs.Common.{◌≡◌, ℕ, ◌*◌, ◌<◌, ◌∙◌, refl, List, length, get_or, take, drop}
use Rattle.std.proofs.lemmas.List.FromFn.{fill_by_all}
use lib.Seq.{drop-drop}
use Rattle.blackbox.specs.declared.FlightRecord.{FlightRecord}
use Rattle.blackbox.specs.Record.{record_of, absent}
use Rattle.blackbox.specs.Page.{records_in, rows_in}

-- the record of row k
abbrev pub row_record : List ℕ → ℕ → FlightRecord
row_record rows k = record_of (take 48 (drop (48 * k) rows))

pub five_records : (rows : List ℕ) (records : List FlightRecord) → length records ≡ 5
    → ((k : ℕ) → k < 5 → get_or records k absent ≡ row_record rows k) → records ≡ records_in 5 rows
unfolding records_in rows_in
five_records rows records n h =
    let to_96 : drop 48 (drop 48 rows) ≡ drop 96 rows = drop-drop 48 48 rows in
    let to_144 : drop 48 (drop 96 rows) ≡ drop 144 rows = drop-drop 48 96 rows in
    let to_192 : drop 48 (drop 144 rows) ≡ drop 192 rows = drop-drop 48 144 rows in
    fill_by_all (row_record rows) records 5 absent n h ∙ rw (to_96, to_144, to_192) refl
