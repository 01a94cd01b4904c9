-- Each way through a call: what refuses it, and that the joined rows are the result.
use mathlib.Core.Path.{◌≡◌, sym, ap, ap₂, ◌∙◌}
use mathlib.Core.Bool.{Bool}
use mathlib.Core.List.{List}
use Prim.Native.Nat.{ℕ, ◌*◌, ◌/◌, ◌^◌, ◌≤◌, ◌<◌}
use native.Mathlib.Nat.{mul-div_cancel_left, lt_of_le_of_lt}
use native.Mathlib.Omega.{arith}
use lib.Dec.{leb, lit<}
use lib.ListN.{length}
use borrow.Author.Tests.{le-leb, lt-leb, leb-true}
use Rattle.record.specs.Operands.{read_as}
use Rattle.modes.specs.declared.Term.{Term}
use Rattle.modes.specs.declared.Refusal.{Refusal}
use Rattle.std.specs.Prelude.{Ok, Err}
use Rattle.modes.specs.Answers.{Verdict, rows_do_not_fit, product_too_heavy, none}
use Rattle.lent.specs.Outputs.{refused_output}
use Rattle.lent.specs.Rows.{rows_at}
use Rattle.record.specs.Terms.{weight}
use Rattle.record.specs.Layout.{modes_of, terms_of, terms_in}
use Rattle.record.specs.Coefficients.{coeff_of}
use Rattle.modes.specs.Refusals.{or_else}
use Rattle.modes.proofs.Refusals.{the_first, or_second, needed}
use Rattle.record.proofs.Outputs.{refused_earlier}
use Rattle.normal.specs.Normal.{normal}
use Rattle.normal.proofs.Normal.{normal_same}
use Rattle.results.specs.Results.{operands_refusal, result_of, opened_of}
use Rattle.results.specs.declared.Opened.{Opened}
use Rattle.results.proofs.Results.{Opens, opens, shuts}
use Rattle.record.proofs.Accepted.{sound}
use Rattle.record.specs.Reading.{Holds}
use Rattle.collect.specs.Collected.{Collected}
use Rattle.collect.specs.KeyWeights.{Light}
use Rattle.pairs.specs.Products.{all_rows, all_branches}
use Rattle.multiply.specs.Answers.{weight_refusal, work_refusal, early_refusal, product_answer}
use Rattle.pairs.specs.Filling.{Filled, Grown, filled, over}
use Rattle.pairs.specs.declared.Fill.{Fill}
use Rattle.pairs.proofs.Filling.{not_over}
use Rattle.pairs.proofs.Counting.{all_branches_is, all_light}

-- two weights that 8 does not refuse
light_product : (v w : ℕ) → weight_refusal v w ≡ none → v * w ≤ 2 ^ 60
unfolding weight_refusal
light_product v w e = leb-true _ _ (needed (leb (v * w) (2 ^ 60)) product_too_heavy e)

module _ (both minus : Bool) (a b : List ℕ) (work room : ℕ) where
  abbrev branches : ℕ
  branches = all_branches both (terms_of a) (terms_of b)

  abbrev rows : List Term
  rows = all_rows both minus (terms_of a) (terms_of b)

  abbrev heavy : Verdict
  heavy = weight_refusal (weight (terms_of a)) (weight (terms_of b))

  -- refused by the first refusal that there is
  by : (r : Refusal) → early_refusal both work (read_as 1 a) (read_as 2 b) ≡ Err r
      → refused_output room r ≡ product_answer both minus work room (read_as 1 a) (read_as 2 b)
  by r e = refused_earlier room branches (early_refusal both work (read_as 1 a) (read_as 2 b)) _ (modes_of a) (normal rows) r e

  pub pair_refused : (r : Refusal) → Err r ≡ opened_of a b → refused_output room r ≡ product_answer both minus work room (read_as 1 a) (read_as 2 b)
  pair_refused r e =
      by r (sym (the_first (operands_refusal (read_as 1 a) (read_as 2 b)) (or_else heavy (work_refusal work branches)) r (sym (shuts a b r e))))

  module _ (p : Opened) (ep : Ok p ≡ opened_of a b) where
    ready : Opens a b p
    ready = opens a b p ep

    after_pair : early_refusal both work (read_as 1 a) (read_as 2 b) ≡ or_else heavy (work_refusal work branches)
    after_pair = or_second (operands_refusal (read_as 1 a) (read_as 2 b)) _ ready.pair

    heavy_is : weight_refusal p.left_weight p.right_weight ≡ heavy
    heavy_is = ap₂ weight_refusal ready.left_weight ready.right_weight

    pub heavy_refused : (r : Refusal) → Err r ≡ weight_refusal p.left_weight p.right_weight
        → refused_output room r ≡ product_answer both minus work room (read_as 1 a) (read_as 2 b)
    heavy_refused r e = by r (after_pair ∙ sym (the_first heavy (work_refusal work branches) r (e ∙ heavy_is)))

    module _ (x : Unit {0}) (ex : Ok x ≡ weight_refusal p.left_weight p.right_weight) where
      fine : heavy ≡ none
      fine = sym (ex ∙ heavy_is)

      light : weight (terms_of a) * weight (terms_of b) ≤ 2 ^ 60
      light = light_product (weight (terms_of a)) (weight (terms_of b)) fine

      after_heavy : early_refusal both work (read_as 1 a) (read_as 2 b) ≡ work_refusal work branches
      after_heavy = after_pair ∙ or_second heavy _ fine

      pub left_size : Holds a p.left
      left_size = (sound 1 a p.left ready.one ready.left).size

      pub right_size : Holds b p.right
      right_size = (sound 2 b p.right ready.two ready.right).size

      pub weights_light : weight (terms_in a p.left) * weight (terms_in b p.right) ≤ 2 ^ 60
      weights_light = rw (ready.left, ready.right) light

      module _ (l : List ℕ) (len : length l ≡ work) (s : Fill) (g : Grown (all_rows both minus (terms_in a p.left) (terms_in b p.right)) l s) where
        grown : Grown rows l s
        grown = rw (ready.left, ready.right) at g

        pub too_many : length l < s.held → refused_output room rows_do_not_fit ≡ product_answer both minus work room (read_as 1 a) (read_as 2 b)
        unfolding work_refusal
        too_many k = by rows_do_not_fit (after_heavy ∙ rw (lt-leb (24 * branches) work (go grown)))
          where
            go : Grown rows l s → work < 24 * branches
            go (filled f) = absurd (omega (arith, f.room.fits))
            go (over x y) = omega (arith, x, len, all_branches_is both minus (terms_of a) (terms_of b))

        module _ (k : s.held ≤ length l) where
          full : Filled rows l s
          full = not_over rows l s k grown

          used_is : s.used / 24 ≡ full.count
          used_is = ap (λ (x : ℕ). x / 24) full.used ∙ mul-div_cancel_left full.count (lit< tt)

          held_is : s.held / 24 ≡ branches
          held_is = ap (λ (x : ℕ). x / 24) full.held ∙ mul-div_cancel_left (length rows) (lit< tt) ∙ all_branches_is both minus (terms_of a) (terms_of b)

          pub collect_room : 24 * (s.used / 24) ≤ length l
          collect_room = omega (arith, used_is, full.used, full.room.few, full.room.fits)

          pub collect_light : Light (rows_at l 0 (s.used / 24))
          collect_light c d =
              rw used_is (lt_of_le_of_lt (full.rows.light c d) (all_light both minus (terms_of a) (terms_of b) light c d))

          none_early : early_refusal both work (read_as 1 a) (read_as 2 b) ≡ none
          unfolding work_refusal
          none_early = after_heavy ∙ rw (le-leb (24 * branches) work (omega (arith, full.held, k, len, all_branches_is both minus (terms_of a) (terms_of b))))

          pub delivered : (m : List ℕ) (n : ℕ) → Collected (s.used / 24) l m n
              → result_of room (s.held / 24) none p.modes (rows_at m 0 n) ≡ product_answer both minus work room (read_as 1 a) (read_as 2 b)
          delivered m n c =
              let joined : rows_at m 0 n ≡ normal rows =
              c.rows ∙ normal_same (rows_at l 0 (s.used / 24)) rows (λ x y. ap (λ (i : ℕ). coeff_of x y (rows_at l 0 i)) used_is ∙ full.rows.coeff x y) in
              λ i. result_of room (held_is i) (sym none_early i) (ready.modes i) (joined i)
