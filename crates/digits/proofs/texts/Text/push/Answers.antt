-- `Text::push` meets its contract. Assumes nothing.
use mathlib.Core.Path.{◌≡◌, ap, ◌∙◌}
use native.Mathlib.Omega.{arith}
use borrow.Author.Rules.{rules}
use lib.ListN.{length}
use lib.Seq.{length-take-le}
use Rattle.digits.proofs.Pushed.{laid}
use Rattle.digits.proofs.Padded.{laid_padded}
use Rattle.digits.proofs.texts.Text.push.Goals as goal

pub invariant_of-self : goal.invariant_of-self
invariant_of-self g c =
    let t = c.self.inside in
    let n = c.min-n.result in
    let room = c.self.invariant.0 in
    let long : length c.copy_from_slice.new.self ≡ n = ap length c.copy_from_slice.ensures.after ∙ length-take-le n c.args.bytes.now (omega arith) in
    (omega (arith, room), laid_padded g.row.N t.len n t.bytes c.copy_from_slice.new.self (omega (arith, room)) long c.self.invariant.1)

pub returns : goal.returns
returns g c =
    let t = c.self.inside in
    let held : length t.bytes ≡ g.row.N = search rules in
    laid g.row.N t.len _ t.bytes c.args.bytes.now _ c.args.self.now held c.self.invariant.0 (omega arith) c.copy_from_slice.ensures.after c.self.view_is
