-- What `export` writes, `import` reads: under the same modes, where it is not refused, the record comes back byte by byte.
use mathlib.Core.Path.{◌≡◌, ap, ◌∙◌}
use mathlib.Core.List.{List}
use Prim.Native.Nat.{ℕ}
use lib.ListN.{take}
use Rattle.std.specs.Prelude.{Ok}
use Rattle.modes.specs.Answers.{none}
use Rattle.modes.specs.declared.Written.{Written}
use Rattle.lent.specs.Outputs.{Gives}
use Rattle.record.specs.Layout.{encode, modes_of, terms_of}
use Rattle.record.specs.Operands.{read_as}
use Rattle.record.specs.Refusals.{refusal_of}
use Rattle.record.proofs.Accepted.{accepted_canonical}
use Rattle.record.proofs.Inverse.{Small, encode_decode}
use Rattle.record.proofs.SameElements.{same_elements}
use Rattle.text.specs.Import.{import_of}
use Rattle.text.specs.Export.{export_of}
use Rattle.text.proofs.Theorems.{import_canonical, import_record, import_elements}
use Rattle.text.proofs.ExportTheorems.{export_accepted, export_elements}

-- a record a, the output x of a call of `export` on it, and the output y of a call of `import` on that text
module _ (a : List ℕ) (small : Small a) (place : ℕ) (r : Written) (x : List ℕ) (out : Gives (export_of place (read_as 1 a)) (Ok r) x)
    (work room : ℕ) (s : Written) (y : List ℕ) (back : Gives (import_of (modes_of a) work room (take r.len x)) (Ok s) y) where
  fine : refusal_of 1 a ≡ none
  fine = export_accepted place a r x out

  -- the terms of the two records have the same elements, and are both canonical
  same_terms : terms_of (take s.len y) ≡ terms_of a
  same_terms =
      same_elements (modes_of a) (terms_of (take s.len y)) (terms_of a) (import_canonical (modes_of a) work room (take r.len x) s y back) (accepted_canonical 1 a fine)
      (λ bra ket hb hk. import_elements (modes_of a) work room (take r.len x) s y back bra ket ∙ export_elements place a r x out bra ket)

  -- THE ROUND TRIP
  pub comes_back : take s.len y ≡ a
  comes_back =
      import_record (modes_of a) work room (take r.len x) s y back ∙ ap (encode (modes_of a)) same_terms ∙ encode_decode 1 a small fine
