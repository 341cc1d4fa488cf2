-- `Text::padded` meets its contract. Assumes nothing.
use mathlib.Core.Path.{◌≡◌, sym, ap, ◌∙◌}
use native.Mathlib.Omega.{arith}
use borrow.Author.Rules.{rules}
use lib.ListN.{length}
use lib.Seq.{length-take-le}
use Rattle.digits.proofs.Pushed.{padded_by}
use Rattle.digits.proofs.texts.Text.padded.Goals as goal

pub returns : goal.returns
returns g c =
    let t = c.self.inside in
    let held : length t.bytes ≡ g.row.N = search rules in
    let long : length c.args.self.now ≡ t.len = ap length (sym c.self.view_is) ∙ length-take-le t.len t.bytes (omega (arith, c.self.invariant.0)) in
    padded_by g.row.N t.len c.args.self.now _ long (c.copy_from_slice.ensures.after ∙ c.as_slice.ensures)
