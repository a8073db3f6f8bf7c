-- `Equation::partner_value` meets its contract.
use mathlib.Core.Path.{refl}
use mir.Facts.{to_z-of_z}
use Rattle.runs.proofs.CarryWidths.{fits_b, fits_c, fits_q, fits_product, fits_value}
use Rattle.runs.proofs.Equation.partner_value.Goals as goal

pub returns : goal.returns
returns c = let lim = c.requires.carry_limits in let w = c.requires.within in
    rw (to_z-of_z (fits_c lim), to_z-of_z (fits_b lim), to_z-of_z (fits_q lim w), to_z-of_z (fits_product lim w), to_z-of_z (fits_value lim w)) refl
