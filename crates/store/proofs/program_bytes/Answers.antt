-- `store::program_bytes` meets its contract. Assumes nothing.
use mathlib.Core.Path.{refl, ap, ◌∙◌}
use lib.ListN.{length, length-set}
use Rattle.store.specs.Store.{mask}
use Rattle.store.proofs.Bytes.{so_far, none_yet, one_more, programmed_all}
use borrow.Author.Rules.{rules}
use native.Mathlib.Omega.{arith}
use Rattle.store.proofs.program_bytes.Goals as goal

pub loop-i-init : goal.loop-i-init
loop-i-init c = (refl, search (none_yet, rules))

pub loop-i-preserved : goal.loop-i-preserved
loop-i-preserved c = (simp length-set c.loop-i.invariant.0, search (one_more, rules))

pub returns : goal.returns
returns c =
    let l = c.loop-i in
    let k = mask c.args.succeeds c.args.keep.now in
    l.invariant.1
    ∙ ap (so_far c.args.image.now c.args.at c.args.target.now k) {x = l.i} {y = length c.args.target.now} (omega arith)
    ∙ programmed_all c.args.image.now c.args.at c.args.target.now k
