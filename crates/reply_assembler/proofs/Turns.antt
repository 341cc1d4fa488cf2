-- That a well-formed assembler stays one, and the turns of the loop that plays a script. Assumes nothing.
use Rattle.std.proofs.Common.{◌≡◌, ℕ, suc, ◌/◌, ◌<◌, Bool, true, false, cond, List, ◌++◌, length, get_or, take, drop, refl, sym, ap, ap₂, ◌∙◌, arith}
use Rattle.std.proofs.Math.Dec.{eqb}
use Rattle.std.proofs.Math.Seq.{take-append_seam, drop-append_seam}
use Rattle.std.proofs.lemmas.List.{length-append}
use Rattle.words.specs.Words.{u32_at}
use Rattle.blackbox.specs.Record.{record_of}
use Rattle.assembler.specs.Assembler.{fresh, started, pushed, stopped, taken, unfinished_flight}
use Rattle.assembler.specs.WellFormed.{SoundAssembler}
use Rattle.assembler.specs.declared.PageAssembler.{PageAssembler}
use Rattle.assembler.proofs.Laws.{new_is_sound, start_keeps, push_keeps, stop_keeps, take_keeps}
use Rattle.reply.specs.Reply.{is_set}
use Rattle.reply_assembler.specs.Script.{flagged, assembled, took, found_unfinished, play_row, play_from, play_script}
use Rattle.reply_assembler.specs.declared.Played.{Played}

-- every call leaves a well-formed assembler
pub play_keeps : (a : PageAssembler) (row : List ℕ) → SoundAssembler a → SoundAssembler (play_row a row).assembler
unfolding play_row
play_keeps a row s = go (eqb (get_or row 0 0) 1) (eqb (get_or row 0 0) 2) (eqb (get_or row 0 0) 3) (eqb (get_or row 0 0) 4) (eqb (get_or row 0 0) 5)
  where
    go : (b₁ b₂ b₃ b₄ b₅ : Bool) → SoundAssembler
        (cond b₁ (flagged false (started a (u32_at row 2) (is_set (get_or row 1 0))))
        (cond b₂ (assembled (pushed a (record_of (take 48 (drop 6 row)))))
        (cond b₃ (assembled (stopped a))
        (cond b₄ (took (taken a))
        (cond b₅ (found_unfinished a (unfinished_flight a (is_set (get_or row 1 0)))) (flagged a.recording a)))))).assembler
    go true b₂ b₃ b₄ b₅ = start_keeps a (u32_at row 2) (is_set (get_or row 1 0)) s
    go false true b₃ b₄ b₅ = push_keeps a (record_of (take 48 (drop 6 row))) s
    go false false true b₄ b₅ = stop_keeps a s
    go false false false true b₅ = take_keeps a s
    go false false false false true = s
    go false false false false false = s

pub sound_start : (p : Played) (a : PageAssembler) → a ≡ fresh → p ≡ flagged false a → SoundAssembler p.assembler
sound_start p a w e = let same : p.assembler ≡ fresh = cc in rw same new_is_sound

pub sound_turn : (p r : Played) (row : List ℕ) → SoundAssembler p.assembler → r ≡ play_row p.assembler row → SoundAssembler r.assembler
sound_turn p r row s e = rw e (play_keeps p.assembler row s)

-- ---- what is left of the script, `rest`, takes the last answer to the script's

pub play_start : (script rest : List ℕ) (p : Played) (a : PageAssembler) → rest ≡ script → a ≡ fresh → p ≡ flagged false a
    → play_from (length rest / 54) p rest ≡ play_script script
unfolding play_script
play_start script rest p a s w e = rw (s, e, w) refl

pub play_turn : (left row rest : List ℕ) (p r last : Played) (size : ℕ) → left ≡ row ++ rest → length row ≡ size → size ≡ 54 → r ≡ play_row p.assembler row
    → play_from (length left / 54) p left ≡ last → play_from (length rest / 54) r rest ≡ last
unfolding play_from
play_turn left row rest p r last size e l k w h =
    let n : length row ≡ 54 = l ∙ k in
    let more : length left / 54 ≡ suc (length rest / 54) = omega (arith, ap length e, length-append row rest) in
    let first : take 54 (row ++ rest) ≡ row = rw n at (take-append_seam row rest) in
    let others : drop 54 (row ++ rest) ≡ rest = rw n at (drop-append_seam row rest) in
    let turned : play_from (suc (length rest / 54)) p (row ++ rest) ≡ play_from (length rest / 54) (play_row p.assembler row) rest =
    ap₂ (λ (x l : List ℕ). play_from (length rest / 54) (play_row p.assembler x) l) first others in
    rw w (sym turned ∙ rw (more, e) at h)

pub play_done : (left : List ℕ) (p last : Played) → length left < 54 → play_from (length left / 54) p left ≡ last → p ≡ last
unfolding play_from
play_done left p last n h = let none : length left / 54 ≡ 0 = omega arith in rw none at h

pub ruleset turns = (sound_start, play_start, play_done)
