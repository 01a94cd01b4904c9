-- The numbers of `fermion_apply` tell one outcome, so that they say which mode blocked a term, and why.
use mathlib.Core.Path.{◌≡◌, refl, sym, ap, ◌∙◌}
use mathlib.Core.Bool.{Bool, true, false, cond}
use mathlib.Core.List.{List}
use Prim.Native.Nat.{ℕ, ◌^◌, ◌<◌}
use lib.Dec.{eqb}
use lib.ListN.{get_or}
use Rattle.products.specs.Apply.{applied, FirstMissing, FirstOccupied}
use Rattle.products.specs.declared.Blocked.TheVariants.{Missing, Occupied}
use Rattle.products.specs.declared.ApplyResult.{ApplyResult}
use Rattle.products.specs.declared.ApplyResult.TheVariants.{Applied, Zero}
use Rattle.products.proofs.Blocking.{zero_where_missing, missing_where_zero, zero_where_occupied, occupied_where_zero}
use Rattle.fermion.specs.Face.{values, apply_answer}

-- the outcome, as a caller reads it off the last three numbers
outcome_of : List ℕ → ApplyResult
outcome_of l =
    cond (eqb (get_or l 5 0) 1) (Applied (get_or l 6 0) (record { 0 = eqb (get_or l 7 0) 1 }))
    (Zero (cond (eqb (get_or l 6 0) 1) (Missing (get_or l 7 0)) (Occupied (get_or l 7 0))))

read_back : (r : ApplyResult) → outcome_of (apply_answer r) ≡ r
unfolding outcome_of
read_back (Applied w s) = λ i. Applied w (record { 0 = sign s.0 i })
  where
    sign : (b : Bool) → eqb (cond b 1 0) 1 ≡ b
    sign true = refl
    sign false = refl
read_back (Zero (Missing p)) = refl
read_back (Zero (Occupied p)) = refl

pub told_one : (r s : ApplyResult) → apply_answer r ≡ apply_answer s → r ≡ s
told_one r s e = sym (read_back r) ∙ ap outcome_of e ∙ read_back s

-- what the numbers say, and when they say it
module _ (cre ann ket : ℕ) (hc : cre < 2 ^ 64) (ha : ann < 2 ^ 64) (p : ℕ) where
  pub told_missing : apply_answer (applied cre ann ket) ≡ values 0 1 p → FirstMissing ann ket p
  told_missing e = missing_where_zero cre ann ket hc ha p (told_one _ (Zero (Missing p)) e)

  pub missing_told : FirstMissing ann ket p → apply_answer (applied cre ann ket) ≡ values 0 1 p
  missing_told m = ap apply_answer (zero_where_missing cre ann ket hc ha p m)

  pub told_occupied : apply_answer (applied cre ann ket) ≡ values 0 2 p → FirstOccupied cre ann ket p
  told_occupied e = occupied_where_zero cre ann ket hc ha p (told_one _ (Zero (Occupied p)) e)

  pub occupied_told : FirstOccupied cre ann ket p → apply_answer (applied cre ann ket) ≡ values 0 2 p
  occupied_told m = ap apply_answer (zero_where_occupied cre ann ket hc ha p m)
