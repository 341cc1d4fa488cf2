-- `rig::play` meets its contract. Assumes nothing.
use mathlib.Core.Path.{refl}
use Rattle.laws.proofs.Chain.{goes_out}
use Rattle.rig.proofs.Playing.{ends, no_image, no_script, other_output, plays_it}
use Rattle.rig.proofs.play.Goals as goal

pub returns-in_err-checked_image : goal.returns-in_err-checked_image
returns-in_err-checked_image c =
    ends (no_image _ _ _ _ _ _ _ (goes_out _ c.in_err-checked_image.field-0.0 _ c.from_residual.ensures.1 refl) c.in_err-checked_image.ensures)

pub returns-then-not-is_script : goal.returns-then-not-is_script
returns-then-not-is_script c =
    ends (no_script _ _ _ _ _ c.in_ok-checked_image.ensures _ c.is_script.ensures c.if-not-is_script.true)

pub returns-then-output-script : goal.returns-then-output-script
returns-then-output-script c =
    ends (other_output _ _ _ _ _ c.in_ok-checked_image.ensures _ c.is_script.ensures c.if-not-is_script.false c.if-output-script.true)

pub returns : goal.returns
returns c =
    ends
    (plays_it _ _ _ _ _ c.in_ok-checked_image.ensures _ c.is_script.ensures c.if-not-is_script.false _ _ c.if-output-script.false
    c.play_rows.ensures.image_after c.play_rows.ensures.output_after)
