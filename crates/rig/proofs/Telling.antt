-- What is told after a call, laid from its front. Assumes nothing.
use Prim.Native.Nat.{ℕ}
use mathlib.Core.Path.{◌≡◌, refl, ap, ◌∙◌}
use mathlib.Core.Bool.{Bool, true, false}
use mathlib.Core.List.{List, [], ◌∷◌}
use lib.ListN.{replicate}
use mir.Val.{bool_byte}
use Rattle.std.specs.Prelude.{Option, None, Some, is_some, unwrap_or}
use Rattle.words.specs.Words.{le_bytes, placed}
use Rattle.words.proofs.Numbers.{stores}
use Rattle.assembler.specs.Assembler.{unfinished_flight}
use Rattle.log_state.specs.Writer.{has_pending}
use Rattle.log_state.specs.declared.LogWriter.{LogWriter}
use Rattle.script.specs.Script.{flag_byte}
use Rattle.rig.specs.Rig.{is_there, number_or0, since, tells_of}
use Rattle.rig.specs.declared.Played.{Played}

-- a flag's byte, and the flag and the number of an Option
flag_as : (b : Bool) → bool_byte b ≡ flag_byte b
flag_as true = refl
flag_as false = refl

there_as : (o : Option ℕ) → bool_byte (is_some o) ≡ is_there o
there_as None = refl
there_as (Some n) = refl

number_as : (o : Option ℕ) → unwrap_or o 0 ≡ number_or0 o
number_as None = refl
number_as (Some n) = refl

module _ (p : Played) where
  abbrev writer : LogWriter
  writer = p.bench.writer

  abbrev unfinished : Option ℕ
  unfinished = unfinished_flight writer.assembler (has_pending writer)

  -- its first eight bytes
  abbrev head : List ℕ
  head =
      p.outcome ∷ flag_byte writer.writable ∷ flag_byte writer.assembler.recording ∷ is_there unfinished ∷ is_there (since writer)
      ∷ p.bench.queue.held ∷ 0 ∷ 0 ∷ []

  laid : stores (replicate 40 0) ((0, head) ∷ (8, le_bytes 4 p.report.pages_written) ∷ (12, le_bytes 4 p.report.records_dropped)
      ∷ (16, le_bytes 4 p.report.write_faults) ∷ (20, le_bytes 4 writer.next_page) ∷ (24, le_bytes 4 writer.next_flight)
      ∷ (28, le_bytes 4 (number_or0 unfinished)) ∷ (32, le_bytes 8 (number_or0 (since writer))) ∷ []) ≡ tells_of p
  unfolding le_bytes placed tells_of
  laid = refl

  pub tells_made : (u : Option ℕ) (b3 b4 : Bool) (n1 n2 n3 n4 number start : ℕ) (o1 o2 o3 o4 o5 o6 o7 o8 : List ℕ)
      → u ≡ unfinished → n1 ≡ bool_byte writer.writable → n2 ≡ bool_byte writer.assembler.recording
      → b3 ≡ is_some u → n3 ≡ bool_byte b3 → b4 ≡ is_some (since writer) → n4 ≡ bool_byte b4 → number ≡ unwrap_or u 0
      → start ≡ unwrap_or (since writer) 0
      → o1 ≡ placed (replicate 40 0) 0 (p.outcome ∷ n1 ∷ n2 ∷ n3 ∷ n4 ∷ p.bench.queue.held ∷ 0 ∷ 0 ∷ [])
      → o2 ≡ placed o1 8 (le_bytes 4 p.report.pages_written) → o3 ≡ placed o2 12 (le_bytes 4 p.report.records_dropped)
      → o4 ≡ placed o3 16 (le_bytes 4 p.report.write_faults) → o5 ≡ placed o4 20 (le_bytes 4 writer.next_page)
      → o6 ≡ placed o5 24 (le_bytes 4 writer.next_flight) → o7 ≡ placed o6 28 (le_bytes 4 number)
      → o8 ≡ placed o7 32 (le_bytes 8 start) → o8 ≡ tells_of p
  tells_made u b3 b4 n1 n2 n3 n4 number start o1 o2 o3 o4 o5 o6 o7 o8 eu f1 f2 t3 f3 t4 f4 en es e1 e2 e3 e4 e5 e6 e7 e8 =
      rw (e8, e7, e6, e5, e4, e3, e2, e1, first, told, starts) laid
    where
      told : number ≡ number_or0 unfinished
      told = en ∙ number_as u ∙ ap number_or0 eu

      starts : start ≡ number_or0 (since writer)
      starts = es ∙ number_as (since writer)

      first : p.outcome ∷ n1 ∷ n2 ∷ n3 ∷ n4 ∷ p.bench.queue.held ∷ 0 ∷ 0 ∷ [] ≡ head
      first =
          λ k. p.outcome ∷ (f1 ∙ flag_as writer.writable) k ∷ (f2 ∙ flag_as writer.assembler.recording) k
          ∷ (f3 ∙ ap bool_byte t3 ∙ there_as u ∙ ap is_there eu) k ∷ (f4 ∙ ap bool_byte t4 ∙ there_as (since writer)) k
          ∷ p.bench.queue.held ∷ 0 ∷ 0 ∷ []
