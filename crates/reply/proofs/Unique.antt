-- No two lengths, outputs or works meet a promise of this crate.
use mathlib.Core.Path.{◌≡◌, sym, ◌∙◌}
use mathlib.Core.List.{List}
use Prim.Native.Nat.{ℕ}
use Rattle.std.specs.Prelude.{Result, Err}
use Rattle.modes.proofs.Unique.{one}
use Rattle.modes.specs.declared.Written.{Written}
use Rattle.lent.specs.Bytes.{zeros}
use Rattle.reply.specs.Lines.{line_of_numbers_in}
use Rattle.reply.specs.Replies.{Says, Replies}

-- of a text told, as `reply` promises it
pub one_text : (text : List ℕ) (room r s : ℕ) (x y : List ℕ) → Says text room r x → Says text room s y → (r ≡ s) × (x ≡ y)
one_text text room r s x y g h = (g.len ∙ sym h.len, g.bytes ∙ sym h.bytes)

-- and of the work that `commutator` is lent
pub one_reply : (text : List ℕ) (room held r s : ℕ) (x y w v : List ℕ) → Replies text room r x held w → Replies text room s y held v
    → (r ≡ s) × (x ≡ y) × (w ≡ v)
one_reply text room held r s x y w v g h =
    let both = one_text text room r s x y g.says h.says in (both.0, both.1, g.clean ∙ sym h.clean)

-- of the line of any three numbers, as `tell` promises it
pub one_line : (room number operand place r s : ℕ) (x y : List ℕ) → Says (line_of_numbers_in room number operand place) room r x
    → Says (line_of_numbers_in room number operand place) room s y → (r ≡ s) × (x ≡ y)
one_line room number operand place = one_text (line_of_numbers_in room number operand place) room

-- of any refusal, as `refuse` promises it
pub one_refusal : {E : Type 0} (room held : ℕ) (f : E) (r s : Result Written E) (x y w v : List ℕ) → (r ≡ Err f) × (x ≡ zeros room) × (w ≡ zeros held)
    → (s ≡ Err f) × (y ≡ zeros room) × (v ≡ zeros held) → (r ≡ s) × (x ≡ y) × (w ≡ v)
one_refusal room held f r s x y w v g h = (one g.0 h.0, one g.1 h.1, one g.2 h.2)
