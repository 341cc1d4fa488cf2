-- The table of document 01's proved examples holds, row by row as the definitions compute. Assumes nothing.
use mathlib.Core.Path.{refl}
use Rattle.words.specs.Words.{le_value, le_at}
use Rattle.crc32.specs.Crc.{remainder, crc32_of}
use Rattle.layout.specs.Layout.{valid_capacity, log_page_count_of, sync_ledger_address, log_page_address, log_erase_sector_address}
use Rattle.sync_ledger.specs.Ledger.{in_range, located, bit_location}
use Rattle.blackbox.specs.Flight.{next_flight}
use Rattle.records.specs.Scratch.{pattern_from, scratch_page}
use Rattle.examples.specs.Table.{ProvedExamples}

pub proved_examples : ProvedExamples
unfolding le_at le_value crc32_of remainder valid_capacity log_page_count_of sync_ledger_address log_page_address log_erase_sector_address in_range located bit_location next_flight pattern_from scratch_page
proved_examples =
    record {
      row_1 = (refl, refl, refl);
      row_2 = (refl, refl, refl);
      row_3 = (refl, refl);
      row_4 = (refl, refl, refl);
      row_5 = (refl, refl);
      row_6 = (refl, refl, refl);
      row_7 = (refl, refl);
      row_8 = (refl, refl, refl);
      row_9 = refl;
      row_10 = (refl, refl, refl);
    }
