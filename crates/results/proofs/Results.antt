-- Calls of two records that write a record: their refusals case by case, and that a result that none refuses is a canonical form.
use mathlib.Core.Path.{◌≡◌, refl, sym, ap, ◌∙◌}
use mathlib.Core.List.{List}
use mathlib.Core.Logic.{⊎_elim}
use Prim.Native.Nat.{ℕ, ◌^◌, ◌≤◌, ◌<◌}
use lib.Dec.{eqb, leb}
use lib.ListN.{length}
use borrow.Author.Tests.{eq-eqb, ne_eqb, le-leb, lt-leb, eqb-true}
use Rattle.record.specs.Operands.{read_as}
use Rattle.modes.specs.declared.Term.{Term}
use Rattle.modes.specs.declared.Refusal.{Refusal}
use Rattle.std.specs.Prelude.{Result, Ok, Err}
use Rattle.modes.specs.Answers.{Verdict, none, modes_differ, too_many_terms, result_too_heavy, output_too_short}
use Rattle.modes.proofs.Digits.{lt_or_ge}
use Rattle.modes.specs.Every.{Every}
use Rattle.record.specs.Terms.{weight}
use Rattle.record.specs.Layout.{modes_of, count_of, terms_of, record_length}
use Rattle.modes.specs.Refusals.{or_else, answered, need}
use Rattle.record.specs.Refusals.{refusal_of, checked_of}
use Rattle.record.specs.Canonical.{Inside, Canonical}
use Rattle.record.specs.declared.Checked.{Checked}
use Rattle.modes.proofs.Refusals.{or_second, neither, needed, second_refuses, neither_refuses, not_refused, refused_by, first_refuses}
use Rattle.record.proofs.Accepted.{Accepted, accepted, refused}
use Rattle.results.specs.Results.{operands_refusal, result_refusal, standing, opened_of}
use Rattle.record.proofs.Outputs.{bound_kept}
use Rattle.normal.specs.Normal.{normal}
use Rattle.normal.proofs.Normal.{inside_joins, every_normal, normal_ascending, normal_nonzero}
use Rattle.results.specs.Tallies.{Tallied}
use Rattle.results.specs.declared.Opened.{Opened}
use Rattle.results.specs.declared.Tally.{Tally}

-- ---- opening two records, p and q being what their checks answer

module _ (a b : List ℕ) where
  pub first_refused : (r : Refusal) → Err r ≡ checked_of 1 a → Err r ≡ opened_of a b
  first_refused r e = first_refuses (refusal_of 1 a) _ Err _ r (refused 1 a r e)

  module _ (p : Checked) (ep : Ok p ≡ checked_of 1 a) where
    left : Accepted 1 a p
    left = accepted 1 a p ep

    -- once the first is accepted, the second and the modes decide
    second_decides : (x : Result Opened Refusal)
        → x ≡ answered (or_else (refusal_of 2 b) (need (eqb (modes_of a) (modes_of b)) modes_differ)) (standing a b) → x ≡ opened_of a b
    second_decides x e = e ∙ ap (λ (r : Verdict). answered r (standing a b)) (sym (or_second (refusal_of 1 a) _ left.fine))

    pub second_refused : (r : Refusal) → Err r ≡ checked_of 2 b → Err r ≡ opened_of a b
    second_refused r e = second_decides _ (first_refuses (refusal_of 2 b) _ Err _ r (refused 2 b r e))

    module _ (q : Checked) (eq : Ok q ≡ checked_of 2 b) where
      right : Accepted 2 b q
      right = accepted 2 b q eq

      modes_a : p.modes ≡ modes_of a
      modes_a = ap (λ (c : Checked). c.modes) left.is

      modes_b : q.modes ≡ modes_of b
      modes_b = ap (λ (c : Checked). c.modes) right.is

      pub other_modes : (p.modes ≡ q.modes → ⊥) → Err modes_differ ≡ opened_of a b
      other_modes h =
          second_decides _ (rw (ne_eqb (modes_of a) (modes_of b) (λ e. h (modes_a ∙ e ∙ sym modes_b)))
          (second_refuses (refusal_of 2 b) (Err modes_differ) Err _ right.fine modes_differ refl))

      pub both_open : p.modes ≡ q.modes
          → ◌≡◌ {A = Result Opened Refusal} (Ok (record {
            modes = p.modes;
            left = p.terms;
            right = q.terms;
            left_weight = p.weight;
            right_weight = q.weight;
          })) (opened_of a b)
      both_open h =
          second_decides _ (rw (eq-eqb (modes_of a) (modes_of b) (sym modes_a ∙ h ∙ modes_b), left.is, right.is)
          (neither_refuses (refusal_of 2 b) none Err (Ok (standing a b)) right.fine refl))

-- ---- two records that are open

pub record Opens (a b : List ℕ) (p : Opened) : Type 0 where
  pub pair : operands_refusal (read_as 1 a) (read_as 2 b) ≡ none
  pub one : refusal_of 1 a ≡ none
  pub two : refusal_of 2 b ≡ none
  pub same : modes_of a ≡ modes_of b
  pub modes : p.modes ≡ modes_of a
  pub left : p.left ≡ count_of a
  pub right : p.right ≡ count_of b
  pub left_weight : p.left_weight ≡ weight (terms_of a)
  pub right_weight : p.right_weight ≡ weight (terms_of b)

-- a pair that is not refused
module _ (a b : List ℕ) (z : operands_refusal (read_as 1 a) (read_as 2 b) ≡ none) where
  pub first_fine : refusal_of 1 a ≡ none
  first_fine = (neither _ _ z).0

  rest_fine : or_else (refusal_of 2 b) (need (eqb (modes_of a) (modes_of b)) modes_differ) ≡ none
  rest_fine = (neither _ _ z).1

  pub second_fine : refusal_of 2 b ≡ none
  second_fine = (neither _ _ rest_fine).0

  pub same_modes : modes_of a ≡ modes_of b
  same_modes = eqb-true _ _ (needed (eqb (modes_of a) (modes_of b)) modes_differ (neither _ _ rest_fine).1)

module _ (a b : List ℕ) where
  pub shuts : (r : Refusal) → Err r ≡ opened_of a b → operands_refusal (read_as 1 a) (read_as 2 b) ≡ Err r
  shuts r e = refused_by (standing a b) (operands_refusal (read_as 1 a) (read_as 2 b)) r e

  pub opens : (p : Opened) → Ok p ≡ opened_of a b → Opens a b p
  opens p e =
      let found = not_refused (standing a b) (operands_refusal (read_as 1 a) (read_as 2 b)) p e in
      let fine = found.0 in
      let is = found.1 in
      record {
        pair = fine;
        one = first_fine a b fine;
        two = second_fine a b fine;
        same = same_modes a b fine;
        modes = ap (λ (x : Opened). x.modes) is;
        left = ap (λ (x : Opened). x.left) is;
        right = ap (λ (x : Opened). x.right) is;
        left_weight = ap (λ (x : Opened). x.left_weight) is;
        right_weight = ap (λ (x : Opened). x.right_weight) is;
      }

-- ---- 10, 9 and 11

module _ (room n w : ℕ) where
  pub too_many : 2048 < n → Err too_many_terms ≡ result_refusal room n w
  unfolding result_refusal or_else
  too_many h = rw (lt-leb _ _ h)

  module _ (few : n ≤ 2048) where
    pub too_heavy : 2 ^ 60 < w → Err result_too_heavy ≡ result_refusal room n w
    unfolding result_refusal or_else
    too_heavy h = rw (le-leb _ _ few, lt-leb _ _ h)

    module _ (light : w ≤ 2 ^ 60) where
      pub too_long : room < record_length n → Err output_too_short ≡ result_refusal room n w
      unfolding result_refusal or_else
      too_long h = rw (le-leb _ _ few, le-leb _ _ light, lt-leb _ _ h)

      pub none_late : record_length n ≤ room → none ≡ result_refusal room n w
      unfolding result_refusal or_else
      none_late h = rw (le-leb _ _ few, le-leb _ _ light, le-leb _ _ h)

-- a result that neither 10 nor 9 nor 11 refuses
pub record Deliverable (room n w : ℕ) : Type 0 where
  pub few : n ≤ 2048
  pub light : w ≤ 2 ^ 60
  pub long : record_length n ≤ room

pub deliverable : (room n w : ℕ) → result_refusal room n w ≡ none → Deliverable room n w
unfolding result_refusal
deliverable room n w e =
    let one = neither (need (leb n 2048) too_many_terms) _ e in
    let two = neither (need (leb w (2 ^ 60)) result_too_heavy) _ one.1 in
    record {
      few = bound_kept n 2048 too_many_terms one.0;
      light = bound_kept w (2 ^ 60) result_too_heavy two.0;
      long = bound_kept (record_length n) room output_too_short two.1;
    }

-- what was counted and weighed as far as the ceiling is judged as the terms are
pub verdict_same : (room : ℕ) (ts : List Term) (r : Tally) → Tallied ts r → result_refusal room r.terms r.weight ≡ result_refusal room (length ts) (weight ts)
unfolding result_refusal
verdict_same room ts r g =
    ⊎_elim (λ h. rw (g.terms, lt-leb _ _ h, lt-leb _ _ (g.heavy h))) (λ h. rw (g.terms, g.light h)) (lt_or_ge (2 ^ 60) r.weight)

-- ---- the output of a call that is not refused

-- the normal form of terms that hold only modes below m is a canonical form
pub result_canonical : (m : ℕ) (ts : List Term) → 1 ≤ m → m ≤ 64 → Every (Inside m) ts → (room : ℕ)
    → result_refusal room (length (normal ts)) (weight (normal ts)) ≡ none
    → Canonical m (normal ts)
result_canonical m ts some most within room z =
    let d = deliverable room (length (normal ts)) (weight (normal ts)) z in
    record {
      some = some;
      most = most;
      few = d.few;
      inside = every_normal (inside_joins m) ts within;
      ascending = normal_ascending ts;
      nonzero = normal_nonzero ts;
      light = d.light;
    }
