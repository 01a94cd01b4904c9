-- No two answers meet a promise of this crate.
use mathlib.Core.Path.{◌≡◌, sym, ◌∙◌}
use mathlib.Core.Bool.{Bool}
use mathlib.Core.List.{List, ◌∷◌}
use Prim.Native.Nat.{ℕ, ◌+◌, ◌^◌, ◌≤◌, ◌<◌}
use lib.IntN.{nat_abs}
use lib.ListN.{drop, length, set}
use Rattle.modes.specs.declared.Term.{Term}
use Rattle.modes.specs.declared.Written.{Written}
use Rattle.modes.proofs.Unique.{one}
use Rattle.lent.specs.Outputs.{filled_output, Gives}
use Rattle.lent.proofs.Outputs.{written_one}
use Rattle.places.specs.declared.Places.{Places}
use Rattle.std.specs.Prelude.{Option}
use Rattle.record.specs.Terms.{before, follows}
use Rattle.record.specs.Layout.{encode, terms_in, record_length, total_of, modes_of, count_of, laid_out, column_places}
use Rattle.record.specs.Refusals.{checked_of}
use Rattle.record.specs.Reading.{At}
use Rattle.record.specs.Weights.{heavier_by}
use Rattle.record.specs.Blocks.{block_of, bytes_in}
use Rattle.record.specs.Counting.{count_if, earlier}
use Rattle.std.specs.Prelude.{Result, Ok}
use Rattle.modes.specs.declared.Refusal.{Refusal}
use Rattle.record.specs.declared.Checked.{Checked}
use Rattle.record.specs.declared.Stretch.{Stretch}

pub one_total : (l : List ℕ) (r s : ℕ) → (r ≡ total_of l) × (r < 2 ^ 32) → (s ≡ total_of l) × (s < 2 ^ 32) → r ≡ s
one_total l r s p q = one p.0 q.0

pub one_check : (o : ℕ) (l : List ℕ) (r s : Result Checked Refusal) → r ≡ checked_of o l → s ≡ checked_of o l → r ≡ s
one_check o l r s = one

pub one_modes : (l : List ℕ) (r s : ℕ) → r ≡ modes_of l → s ≡ modes_of l → r ≡ s
one_modes l r s = one

pub one_count : (l : List ℕ) (r s : ℕ) → r ≡ count_of l → s ≡ count_of l → r ≡ s
one_count l r s = one

pub one_layout : (l : List ℕ) (r s : Bool) → r ≡ laid_out l → s ≡ laid_out l → r ≡ s
one_layout l r s = one

pub one_length : (n r s : ℕ) → r ≡ record_length n → s ≡ record_length n → r ≡ s
one_length n r s = one

pub one_columns : (n : ℕ) (r s : Places) → r ≡ column_places n → s ≡ column_places n → r ≡ s
one_columns n r s = one

-- a list has one i-th term
pub one_term : (l : List ℕ) (n i : ℕ) (r s : Term) → At (terms_in l n) i r → At (terms_in l n) i s → r ≡ s
one_term l n i r s p q = let e : ◌≡◌ {A = List Term} (r ∷ drop (i + 1) (terms_in l n)) (s ∷ drop (i + 1) (terms_in l n)) = sym p ∙ q in cc

pub one_order : (t u : Term) (r s : Bool) → r ≡ before t u → s ≡ before t u → r ≡ s
one_order t u r s = one

pub one_follows : (last : Option Term) (t : Term) (r s : Bool) → r ≡ follows last t → s ≡ follows last t → r ≡ s
one_follows last t r s = one

pub one_count_before : (ts : List Term) (t : Term) (r s : ℕ) → r ≡ count_if (earlier t) ts → s ≡ count_if (earlier t) ts → r ≡ s
one_count_before ts t r s = one

pub one_size : (t : Term) (r s : ℕ) → (r ≡ nat_abs t.coeff) × (r ≤ 2 ^ 63) → (s ≡ nat_abs t.coeff) × (s ≤ 2 ^ 63) → r ≡ s
one_size t r s p q = one p.0 q.0

pub one_weight : (k w r s : ℕ) → r ≡ heavier_by k w → s ≡ heavier_by k w → r ≡ s
one_weight k w r s = one

-- of the terms that stand in an output; its other bytes are left to `finish`
pub one_put : (out : List ℕ) (n k : ℕ) (t : Term) (x y : List ℕ) → terms_in x n ≡ set (terms_in out n) k t → terms_in y n ≡ set (terms_in out n) k t
    → terms_in x n ≡ terms_in y n
one_put out n k t x y = one

pub one_finish : (out : List ℕ) (m n branches : ℕ) (r s : Written) (x y : List ℕ) → Gives (filled_output (length out) branches (encode m (terms_in out n))) (Ok r) x
    → Gives (filled_output (length out) branches (encode m (terms_in out n))) (Ok s) y → (r ≡ s) × (x ≡ y)
one_finish out m n branches r s x y p q = written_one p q

pub one_stretch : (l : List ℕ) (a : ℕ) (r s : Stretch) → r ≡ block_of l a → s ≡ block_of l a → r ≡ s
one_stretch l a r s = one

pub one_block : (l : List ℕ) (a : ℕ) (r s : List ℕ) → r ≡ bytes_in (block_of l a) l → s ≡ bytes_in (block_of l a) l → r ≡ s
one_block l a r s = one
