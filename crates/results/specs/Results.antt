-- Calls that write a record: what refuses two operands and a result, and the whole output.
use Rattle.std.specs.Prelude.{ℕ, ◌^◌, List, Result, eqb, leb, length}
use Rattle.modes.specs.declared.Term.{Term}
use Rattle.modes.specs.declared.Refusal.{Refusal}
use Rattle.modes.specs.Answers.{Verdict, modes_differ, result_too_heavy, too_many_terms}
use Rattle.lent.specs.Outputs.{Output}
use Rattle.record.specs.Terms.{weight}
use Rattle.record.specs.Layout.{modes_of, count_of, terms_of}
use Rattle.modes.specs.Refusals.{need, or_else, answered}
use Rattle.record.specs.Operands.{Operand, read_as}
use Rattle.record.specs.Outputs.{room_refusal, record_output}
use Rattle.results.specs.declared.Opened.{Opened}

-- the first operand fully, the second likewise, then 6
abbrev pub operands_refusal : Operand → Operand → Verdict
operands_refusal a b = or_else a.refusal (or_else b.refusal (need (eqb a.modes b.modes) modes_differ))

-- a result of n terms and weight w, for an output of room bytes: 10, 9, 11
unfoldable pub result_refusal : ℕ → ℕ → ℕ → Verdict
result_refusal room n w =
    or_else (need (leb n 2048) too_many_terms) (or_else (need (leb w (2 ^ 60)) result_too_heavy) (room_refusal room n))

-- a call whose result is ts, where earlier is what refuses it before the result is looked at
abbrev pub result_of : ℕ → ℕ → Verdict → ℕ → List Term → Output
result_of room branches earlier m ts = record_output room branches (or_else earlier (result_refusal room (length ts) (weight ts))) m ts

-- what is known of two records once they are checked
abbrev pub standing : List ℕ → List ℕ → Opened
standing a b =
    record {
      modes = modes_of a;
      left = count_of a;
      right = count_of b;
      left_weight = weight (terms_of a);
      right_weight = weight (terms_of b);
    }

abbrev pub opened_of : List ℕ → List ℕ → Result Opened Refusal
opened_of a b = answered (operands_refusal (read_as 1 a) (read_as 2 b)) (standing a b)
