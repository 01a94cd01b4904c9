-- Each way out of `export`, by the record's check.
use mathlib.Core.Path.{◌≡◌, refl, ap, ap₂, ◌∙◌}
use mathlib.Core.List.{List, ◌++◌}
use Prim.Native.Nat.{ℕ, ◌-◌, ◌≤◌, ◌<◌}
use native.Mathlib.Omega.{arith}
use lib.ListN.{length, take}
use borrow.Author.Tests.{le-leb, lt-leb}
use Rattle.modes.specs.Answers.{none, output_too_short, wrote}
use Rattle.modes.proofs.Refusals.{first_refuses, second_refuses, neither_refuses}
use Rattle.lent.specs.Bytes.{zeros}
use Rattle.lent.specs.Outputs.{refused_output, filled_output, Gives}
use Rattle.decimals.specs.Stores.{Stored}
use Rattle.decimals.proofs.Stores.{front_taken}
use Rattle.record.specs.Layout.{terms_in, terms_of}
use Rattle.record.specs.Operands.{read_as}
use Rattle.record.specs.Refusals.{refusal_of, checked_of}
use Rattle.record.specs.declared.Checked.{Checked}
use Rattle.record.proofs.Accepted.{Accepted, accepted, refused}
use Rattle.record.proofs.Outputs.{gives_as}
use Rattle.term_lines.specs.Written.{terms_text}
use Rattle.text.specs.Export.{export_of}
use Rattle.text.specs.Placing.{PlacedText}
use Rattle.std.specs.Prelude.{None, Some, Result, Ok, Err}
use Rattle.modes.specs.declared.Refusal.{Refusal}
use Rattle.modes.specs.declared.Written.{Written}

-- refused by the check
pub export_refused : (room : ℕ) (a : List ℕ) (r : Refusal) → Err r ≡ checked_of 1 a → refused_output room r ≡ export_of room (read_as 1 a)
unfolding export_of
export_refused room a r e = first_refuses (refusal_of 1 a) _ (refused_output room) _ r (refused 1 a r e)

-- of an accepted record the length of the text decides
module _ (room : ℕ) (a : List ℕ) (fine : refusal_of 1 a ≡ none) where
  abbrev text : List ℕ
  text = terms_text (terms_of a)

  pub export_short : room < length text → refused_output room output_too_short ≡ export_of room (read_as 1 a)
  unfolding export_of
  export_short h = rw (lt-leb (length text) room h) (second_refuses (refusal_of 1 a) _ (refused_output room) _ fine output_too_short refl)

  pub export_fills : length text ≤ room → filled_output room 0 text ≡ export_of room (read_as 1 a)
  unfolding export_of
  export_fills h = rw (le-leb (length text) room h) (neither_refuses (refusal_of 1 a) none (refused_output room) _ fine refl)

abbrev pub ends_at : ℕ → Result Written Refusal
ends_at n = Ok (wrote n 0)

-- what the lines' placing in an output tells
module _ (out a : List ℕ) (c : Checked) (e : Ok c ≡ checked_of 1 a) (m : List ℕ) where
  fine : Accepted 1 a c
  fine = accepted 1 a c e

  abbrev whole : List ℕ
  whole = terms_text (terms_of a)

  same : terms_text (terms_in a c.terms) ≡ whole
  same = ap terms_text fine.terms

  pub unplaced_refused : PlacedText out 0 (terms_text (terms_in a c.terms)) m None → refused_output (length out) output_too_short ≡ export_of (length out) (read_as 1 a)
  unplaced_refused short = export_short (length out) a fine.fine (omega (arith, ap length same, short))

  module _ (end : ℕ) (g : PlacedText out 0 (terms_text (terms_in a c.terms)) m (Some end)) (k : length m ≡ length out) where
    fits : length whole ≤ length out
    fits = omega (arith, ap length same, g.0)

    stands : Stored out 0 whole m end
    stands = rw same at g.1

    len : end ≡ length whole
    len = omega (arith, stands.ends)

    pub placed_filled : (after : List ℕ) → after ≡ take end m ++ zeros (length m - end) → Gives (export_of (length out) (read_as 1 a)) (Ok (wrote end 0)) after
    placed_filled after q =
        let front : take end m ≡ whole = ap (take end) stands.bytes ∙ front_taken out whole end len in
        gives_as (export_fills (length out) a fine.fine fits) (record {
          answer = ap ends_at len;
          bytes = q ∙ ap₂ {C = List ℕ} (λ (x : List ℕ) (n : ℕ). x ++ zeros n) front (ap₂ (λ (x y : ℕ). x - y) k len);
        })
