-- `text::place_lines` meets its contract: the lines of the terms so far stand in the output, and those of the others are to come.
use native.Mathlib.Omega.{arith}
use lib.ListN.{drop_of_length-le}
use Rattle.text.proofs.Placing.{placing_starts, placing_inside, placing_ends, placing_stops, placing_goes}
use Rattle.text.proofs.place_lines.Goals as goal

pub loop-i-init : goal.loop-i-init
loop-i-init c = placing_starts _ _

pub place_line-requires : goal.place_line-requires
place_line-requires c = placing_inside _ _ _ _ c.loop-i.i c.loop-i.invariant

pub returns-in_err-end : goal.returns-in_err-end
returns-in_err-end c =
    rw c.from_residual.ensures (placing_stops _ _ _ _ c.loop-i.i c.loop-i.invariant _ c.get.ensures c.place_line.new.out c.in_err-end.ensures)

pub loop-i-preserved : goal.loop-i-preserved
loop-i-preserved c =
    placing_goes _ _ _ _ c.loop-i.i c.loop-i.invariant _ c.get.ensures _ _ c.in_ok-end.ensures c.place_line.auto.out

pub returns : goal.returns
returns c = placing_ends _ _ _ _ c.loop-i.i c.loop-i.invariant (drop_of_length-le c.args.terms.now {i = c.loop-i.i} (omega arith))
