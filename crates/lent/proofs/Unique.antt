-- No two answers, and no two outputs, meet a promise of this crate.
use mathlib.Core.Path.{◌≡◌}
use mathlib.Core.List.{List, ◌++◌}
use Prim.Native.Nat.{ℕ, ◌-◌, ◌^◌, ◌<◌}
use lib.ListN.{length, take}
use Rattle.std.specs.Prelude.{Result, Err}
use Rattle.modes.specs.declared.Term.{Term}
use Rattle.modes.specs.declared.Refusal.{Refusal}
use Rattle.modes.specs.declared.Written.{Written}
use Rattle.modes.proofs.Unique.{one}
use Rattle.lent.specs.Bytes.{bytes, word_at, half_at, put, put_word, put_half, zeros}
use Rattle.lent.specs.Rows.{Fit, row_bytes, row_at, put_row}
use Rattle.lent.specs.Outputs.{Gives, refused_output}
use Rattle.lent.proofs.Outputs.{gives_one}

pub one_half : (l : List ℕ) (at r s : ℕ) → (r ≡ half_at l at) × (r < 2 ^ 32) → (s ≡ half_at l at) × (s < 2 ^ 32) → r ≡ s
one_half l at r s p q = one p.0 q.0

pub one_word : (l : List ℕ) (at r s : ℕ) → r ≡ word_at l at → s ≡ word_at l at → r ≡ s
one_word l at r s = one

pub one_row : (l : List ℕ) (at : ℕ) (r s : Term) → (r ≡ row_at l at) × Fit r → (s ≡ row_at l at) × Fit s → r ≡ s
one_row l at r s p q = one p.0 q.0

-- of bytes put, as `copy` promises it
pub one_put : (l : List ℕ) (at : ℕ) (bs m k : List ℕ) → m ≡ put l at bs → k ≡ put l at bs → m ≡ k
one_put l at bs m k = one

pub one_put_half : (l : List ℕ) (at x : ℕ) (m k : List ℕ) → m ≡ put_half l at x → k ≡ put_half l at x → m ≡ k
one_put_half l at x = one_put l at (bytes 4 x)

pub one_put_word : (l : List ℕ) (at x : ℕ) (m k : List ℕ) → m ≡ put_word l at x → k ≡ put_word l at x → m ≡ k
one_put_word l at x = one_put l at (bytes 8 x)

pub one_put_row : (l : List ℕ) (at : ℕ) (t : Term) (m k : List ℕ) → m ≡ put_row l at t → k ≡ put_row l at t → m ≡ k
one_put_row l at t = one_put l at (row_bytes t)

pub one_wiped : (l m k : List ℕ) → m ≡ zeros (length l) → k ≡ zeros (length l) → m ≡ k
one_wiped l m k = one

pub one_wiped_from : (l : List ℕ) (from : ℕ) (m k : List ℕ) → m ≡ take from l ++ zeros (length l - from) → k ≡ take from l ++ zeros (length l - from) → m ≡ k
one_wiped_from l from m k = one

-- of any refusal, as `refuse` promises it
pub one_refusal : {T E : Type 0} (room : ℕ) (f : E) (r s : Result T E) (x y : List ℕ) → (r ≡ Err f) × (x ≡ zeros room) → (s ≡ Err f) × (y ≡ zeros room)
    → (r ≡ s) × (x ≡ y)
one_refusal room f r s x y g h = (one g.0 h.0, one g.1 h.1)

pub one_refused : (room : ℕ) (f : Refusal) (r s : Result Written Refusal) (x y : List ℕ) → Gives (refused_output room f) r x → Gives (refused_output room f) s y → (r ≡ s) × (x ≡ y)
one_refused room f r s x y = gives_one
