-- `lent::wipe_from` meets its contract: what was lent to `wipe` is the end of the buffer.
use Prim.Native.Nat.{ℕ, ◌≤◌, ◌-◌}
use mathlib.Core.Path.{◌≡◌}
use mathlib.Core.List.{List, ◌++◌, append-nil}
use native.Mathlib.Nat.{le_refl}
use lib.ListN.{length, take, drop, replicate}
use lib.Seq.{drop-length}
use borrow.Rule.Slice.PartMut.{post_of, Post-is, mid_len}
use Rattle.lent.proofs.wipe_from.Goals as goal

tail_wiped : (a : ℕ) (xs : List ℕ) → a ≤ length xs
    → take a xs ++ (replicate (length (take (length xs - a) (drop a xs))) 0 ++ post_of a (length xs - a) xs) ≡ take a xs ++ replicate (length xs - a) 0
tail_wiped a xs h = rw (Post-is a (length xs) xs h, drop-length, append-nil, mid_len a (length xs) xs (le_refl (length xs)))

pub returns : goal.returns
returns c =
    rw c.wipe.ensures
    (tail_wiped c.args.from c.args.buf.now
    c.requires)
