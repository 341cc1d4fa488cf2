-- A script of the assembler's calls, played from a fresh assembler, and what the last of them answers. Document 01, "States come from
-- these calls alone": so a script, and not a state, is what a C call is handed.
use Rattle.std.specs.Prelude.{ℕ, zero, suc, ◌/◌, ◌%◌, Bool, true, false, cond, Option, None, Some, Result, Ok, Err, List, ◌∷◌, ◌++◌, eqb, length, get_or, take, drop}
use Rattle.laws.specs.Refusals.{bad_length}
use Rattle.laws.specs.Answers.{Answer, must, told}
use Rattle.laws.specs.declared.Refusal.{Refusal}
use Rattle.words.specs.Words.{le_bytes, u32_at}
use Rattle.blackbox.specs.Record.{record_length, record_of}
use Rattle.assembler.specs.Assembler.{fresh, started, pushed, stopped, taken, unfinished_flight, no_page}
use Rattle.assembler.specs.declared.PageAssembler.{PageAssembler}
use Rattle.assembler.specs.declared.Assembled.{Assembled}
use Rattle.assembler.specs.declared.ReadyPage.{ReadyPage}
use Rattle.reply.specs.Reply.{is_set, flag_of}
use Rattle.reply_assembler.specs.declared.Told.{Told}
use Rattle.reply_assembler.specs.declared.Told.TheVariants.{Flag, Unfinished, Page}
use Rattle.reply_assembler.specs.declared.Played.{Played}

-- what a call answers, and the assembler as it leaves it
abbrev pub played_as : Result Told Refusal → PageAssembler → Played
played_as answer a = record { answer = answer; assembler = a }

-- a call that gives neither a flight nor a page
abbrev pub flagged : Bool → PageAssembler → Played
flagged flag a = played_as (Ok (Flag flag)) a

-- push and stop
abbrev pub as_flag : Result Bool Refusal → Result Told Refusal
as_flag (Ok ready) = Ok (Flag ready)
as_flag (Err why) = Err why

abbrev pub assembled : Assembled → Played
assembled r = played_as (as_flag r.page_ready) r.assembler

-- take_ready_page
abbrev pub took : ReadyPage → Played
took p = played_as (Ok (Page p.page)) p.assembler

-- unfinished_flight
abbrev pub found_unfinished : PageAssembler → Option ℕ → Played
found_unfinished a flight = played_as (Ok (Unfinished flight)) a

-- a row of 54 bytes: the call at 0, its flag at 1, its flight at 2, its record at 6
unfoldable pub play_row : PageAssembler → List ℕ → Played
play_row a row =
    cond (eqb (get_or row 0 0) 1) (flagged false (started a (u32_at row 2) (is_set (get_or row 1 0))))
    (cond (eqb (get_or row 0 0) 2) (assembled (pushed a (record_of (take record_length (drop 6 row)))))
    (cond (eqb (get_or row 0 0) 3) (assembled (stopped a))
    (cond (eqb (get_or row 0 0) 4) (took (taken a))
    (cond (eqb (get_or row 0 0) 5) (found_unfinished a (unfinished_flight a (is_set (get_or row 1 0))))
    (flagged a.recording a)))))

-- so many rows, one after another
unfoldable pub play_from : ℕ → Played → List ℕ → Played
play_from zero last rows = last
play_from (suc n) last rows = play_from n (play_row last.assembler (take 54 rows)) (drop 54 rows)

-- the whole script
unfoldable pub play_script : List ℕ → Played
play_script script = play_from (length script / 54) (flagged false fresh) script

-- ---- the row

-- flag, flight, page
unfoldable pub told_row : Bool → ℕ → List ℕ → List ℕ
told_row flag flight page = (flag_of flag ∷ le_bytes 4 flight) ++ page

-- 0 where a call gives none
abbrev pub played_row : Told → List ℕ
played_row (Flag flag) = told_row flag 0 no_page
played_row (Unfinished None) = told_row false 0 no_page
played_row (Unfinished (Some flight)) = told_row true flight no_page
played_row (Page None) = told_row false 0 no_page
played_row (Page (Some page)) = told_row true 0 page

abbrev pub told_played : Played → Answer Told
told_played p = told p.answer

-- a script that is no multiple of 54 bytes is refused 17
unfoldable pub last_played : List ℕ → Answer Told
last_played script = must (eqb (length script % 54) 0) bad_length (told_played (play_script script))
