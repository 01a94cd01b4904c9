-- The two ways through the call: refused, or the pair that the terms of the difference name.
use mathlib.Core.Path.{◌≡◌, sym, refl, ap}
use mathlib.Core.Bool.{true}
use mathlib.Core.List.{List}
use Prim.Native.Nat.{ℕ}
use Rattle.std.specs.Prelude.{Option, Result, Ok, Err}
use Rattle.modes.specs.declared.Refusal.{Refusal}
use Rattle.modes.specs.declared.Term.{Term}
use Rattle.modes.specs.Answers.{none}
use Rattle.compare.specs.declared.Difference.{Difference}
use Rattle.modes.proofs.Refusals.{unless_not, unless_so}
use Rattle.record.specs.Operands.{read_as}
use Rattle.record.specs.Layout.{terms_in, terms_of}
use Rattle.record.proofs.Accepted.{accepted_canonical}
use Rattle.normal.specs.Normal.{drop_zeros}
use Rattle.results.specs.Results.{opened_of, operands_refusal}
use Rattle.lincomb.specs.Merging.{onward}
use Rattle.results.specs.declared.Opened.{Opened}
use Rattle.results.proofs.Results.{Opens, opens, shuts}
use Rattle.compare.specs.Comparison.{named, compared_of, differing}
use Rattle.compare.proofs.Naming.{named_same}
use Rattle.compare.proofs.Differing.{Differ, lists_differing, lists_difference}

abbrev pub found : Option Difference → Result (Option Difference) Refusal
found d = Ok d

module _ (a b : List ℕ) where
  pub comparison_refused : (r : Refusal) → Err r ≡ opened_of a b → Err r ≡ compared_of (read_as 1 a) (read_as 2 b)
  comparison_refused r e = sym (unless_so (operands_refusal (read_as 1 a) (read_as 2 b)) Err _ r (shuts a b r e))

  module _ (p : Opened) (ep : Ok p ≡ opened_of a b) where
    ready : Opens a b p
    ready = opens a b p ep

    -- ts and us are the terms of the two
    pub comparison_found : (ts us : List Term) → ts ≡ terms_in a p.left → us ≡ terms_in b p.right
        → Ok (named (drop_zeros (onward true ts 0 us 0))) ≡ compared_of (read_as 1 a) (read_as 2 b)
    comparison_found ts us et eu =
        rw (et, eu, ready.left, ready.right, ready.pair, unless_not none Err (Ok (named (differing (terms_of a) (terms_of b)))) refl)
        (ap found (named_same (Differ (terms_of a) (terms_of b)) _ _
        (lists_difference (terms_of a) (terms_of b) (accepted_canonical 1 a ready.one).ascending (accepted_canonical 2 b ready.two).ascending)
        (lists_differing (terms_of a) (terms_of b))))
