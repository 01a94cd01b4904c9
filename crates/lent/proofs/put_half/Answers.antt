-- `lent::put_half` meets its contract: the low bytes of the number stand at their place.
use Prim.Native.Nat.{ℕ, ◌+◌, ◌≤◌}
use mathlib.Core.Path.{◌≡◌, ◌∙◌, ap, refl}
use native.Mathlib.Omega.{arith}
use lib.ListN.{take}
use borrow.Rule.Slice.PartMut.{Post-is}
use Rattle.lent.specs.Bytes.{put, bytes}
use Rattle.lent.proofs.Numbers.{eight_bytes, length_bytes}
use Rattle.lent.proofs.put_half.Goals as goal

low_bytes : (x : ℕ) → take 4 (bytes 8 x) ≡ bytes 4 x
unfolding bytes
low_bytes x = refl

pub returns : goal.returns
unfolding put
returns c =
    let a = c.args in
    let h : a.at ≤ a.at + 4 = omega arith in
    let e : take 4 c.to_le_bytes.result ≡ bytes 4 a.x = ap (take 4) (c.to_le_bytes.ensures ∙ eight_bytes a.x) ∙ low_bytes a.x in
    rw (Post-is a.at (a.at + 4) a.s.now h, c.copy_from_slice.ensures.after, e, length_bytes)
