-- Document 01, "Proved examples and run examples": "Proved together, as one table under a single claim". Each row quotes the
-- document and says the same of the definitions that the contracts cite.
use Rattle.std.specs.Prelude.{◌≡◌, [], ◌∷◌, pos, negsuc, get_or, None, Some}
use Rattle.laws.specs.Refusals.{invalid_layout, out_of_range}
use Rattle.laws.specs.Answers.{gives, refuses}
use Rattle.words.specs.Words.{u16_at, signed16}
use Rattle.crc32.specs.Crc.{crc32_of}
use Rattle.layout.specs.Layout.{log_page_count_of, sync_ledger_address, log_page_address, log_erase_sector_address}
use Rattle.sync_ledger.specs.Ledger.{location, bit_location}
use Rattle.blackbox.specs.Flight.{next_flight}
use Rattle.records.specs.Scratch.{scratch_page}

-- `negsuc n` is -1 - n
pub record ProvedExamples : Type 0 where
  -- 1. "Capacity 16,384 refused; 20,480 gives 16 log pages, ledger at 16,384."
  pub row_1 : (log_page_count_of 16384 ≡ refuses invalid_layout 0) × (log_page_count_of 20480 ≡ gives 16) × (sync_ledger_address 20480 ≡ gives 16384)
  -- 2. "16,777,216 gives 65,472 pages; 16,781,312 and 20,481 refused."
  pub row_2 : (log_page_count_of 16777216 ≡ gives 65472) × (log_page_count_of 16781312 ≡ refuses invalid_layout 0) × (log_page_count_of 20481 ≡ refuses invalid_layout 0)
  -- 3. "Page 15 of 20,480 is at 16,128; page 16 has no address."
  pub row_3 : (log_page_address 20480 15 ≡ gives (Some 16128)) × (log_page_address 20480 16 ≡ gives None)
  -- 4. "Erase steps of 20,480: 16,384, then 12,288, then none."
  pub row_4 : (log_erase_sector_address 20480 0 ≡ gives (Some 16384)) × (log_erase_sector_address 20480 1 ≡ gives (Some 12288))
      × (log_erase_sector_address 20480 2 ≡ gives None)
  -- 5. "Flight 1 in that ledger: byte 16,392, mask 1; flight 9: 16,393, mask 1."
  pub row_5 : (bit_location 20480 1 ≡ gives (location 16392 1)) × (bit_location 20480 9 ≡ gives (location 16393 1))
  -- 6. "Flight 32,704: byte 20,479, mask 128; 0 and 32,705 refused 8."
  pub row_6 : (bit_location 20480 32704 ≡ gives (location 20479 128)) × (bit_location 20480 0 ≡ refuses out_of_range 0)
      × (bit_location 20480 32705 ≡ refuses out_of_range 0)
  -- 7. "Newest 4,294,967,295 gives next 1; 7 gives 8."
  pub row_7 : (next_flight 4294967295 ≡ 1) × (next_flight 7 ≡ 8)
  -- 8. "Bytes ff ff are -1; 00 80 are -32,768; ff 7f are 32,767."
  pub row_8 : (signed16 (u16_at (0xff ∷ 0xff ∷ []) 0) ≡ negsuc 0)
      × (signed16 (u16_at (0x00 ∷ 0x80 ∷ []) 0) ≡ negsuc 32767)
      × (signed16 (u16_at (0xff ∷ 0x7f ∷ []) 0) ≡ pos 32767)
  -- 9. "CRC-32 of nothing is 0."
  pub row_9 : crc32_of [] ≡ 0
  -- 10. "scratch_test_page: byte 8 is 0xb5, byte 128 is 0xa4, byte 255 is 0x5a."
  pub row_10 : (get_or scratch_page 8 0 ≡ 0xb5) × (get_or scratch_page 128 0 ≡ 0xa4) × (get_or scratch_page 255 0 ≡ 0x5a)
