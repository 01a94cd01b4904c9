-- `lent::put_word` meets its contract: the bytes of the number stand at their place.
use Prim.Native.Nat.{◌+◌, ◌≤◌}
use mathlib.Core.Path.{◌≡◌, ◌∙◌}
use native.Mathlib.Omega.{arith}
use borrow.Rule.Slice.PartMut.{Post-is}
use Rattle.lent.specs.Bytes.{put, bytes}
use Rattle.lent.proofs.Numbers.{eight_bytes, length_bytes}
use Rattle.lent.proofs.put_word.Goals as goal

pub returns : goal.returns
unfolding put
returns c =
    let a = c.args in
    let h : a.at ≤ a.at + 8 = omega arith in
    let e : c.to_le_bytes.result ≡ bytes 8 a.x = c.to_le_bytes.ensures ∙ eight_bytes a.x in
    rw (Post-is a.at (a.at + 8) a.s.now h, c.copy_from_slice.ensures.after, e, length_bytes)
