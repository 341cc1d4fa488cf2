-- `crc32::digit` meets its contract: it is the table's entry at 16 * place + digit. Assumes nothing.
use mathlib.Core.Path.{◌≡◌, ap₂, ◌∙◌}
use Prim.Native.Nat.{◌+◌, ◌*◌, ◌/◌, ◌%◌}
use native.Mathlib.Omega.{arith}
use Rattle.crc32.specs.Table.{digit_steps, Tabled}
use Rattle.crc32.proofs.Table.{the_table}
use Rattle.crc32.proofs.digit.Goals as goal

pub returns : goal.returns
unfolding Tabled
returns c =
    let k = 16 * c.args.place + c.args.v % 16 in
    let place : k / 16 ≡ c.args.place = omega arith in
    let low : k % 16 ≡ c.args.v % 16 = omega arith in
    the_table.1 k (omega arith) ∙ ap₂ digit_steps place low
