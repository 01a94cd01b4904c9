-- `record::put_term` meets its contract: a term stored at its columns.
use Rattle.record.proofs.Columns.{columns_apart, term_put}
use Rattle.record.proofs.put_term.Goals as goal

pub put-requires : goal.put-requires
put-requires c =
    rw c.column_places.ensures ((columns_apart _ _ c.requires.0).held _ c.requires.1)

pub returns : goal.returns
returns c =
    let stored = c.put.ensures in
    let e = rw c.column_places.ensures at stored.0 in
    term_put c.args.out.now _ c.args.n c.args.k c.args.t c.requires.0 c.requires.1 stored.1 e
