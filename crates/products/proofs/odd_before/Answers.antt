-- `products::odd_before` meets its contract: six doublings reach all 64 modes.
use Rattle.modes.proofs.Before.{one_window, twice_window, window_below}
use Rattle.products.proofs.odd_before.Goals as goal

pub returns : goal.returns
returns c =
    let w = c.args.word in
    window_below 64 w _
    (twice_window 64 32 w _ (twice_window 64 16 w _ (twice_window 64 8 w _ (twice_window 64 4 w _ (twice_window 64 2 w _ (twice_window 64 1 w w (one_window 64 w)))))))
