-- `products::write_rows` meets its contract: the product's rows, and zeros past them.
use mathlib.Core.Path.{refl}
use lib.Dec.{lit<}
use lib.IntN.{pos}
use lib.ListN.{length}
use Rattle.products.proofs.Multiplied.{from_front, rows_room, end_inside, gives_rows}
use Rattle.products.proofs.write_rows.Goals as goal

pub put_rows-end-requires : goal.put_rows-end-requires
put_rows-end-requires c =
    (from_front c.args.helper _ c.ranges.left.fits (length c.args.out.now) c.requires, lit< tt)

pub wipe_from-requires : goal.wipe_from-requires
wipe_from-requires c =
    let put = c.put_rows-end in
    end_inside c.args.helper _ c.ranges.left.fits (length c.args.out.now) c.requires (pos 1) _ (length put.new.out) put.ensures.0 put.auto.out

pub returns : goal.returns
returns c =
    let put = c.put_rows-end in
    let h = c.args.helper in
    gives_rows h.l_cre h.l_ann h.r_cre h.r_ann c.args.out.now c.requires.full
    (rows_room h _ c.ranges.left.fits (length c.args.out.now) c.requires)
    put.result _ put.new.out _ put.ensures.0 put.ensures.1 put.auto.out refl c.wipe_from.ensures
