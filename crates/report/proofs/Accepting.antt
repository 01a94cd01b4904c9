-- An accepted record counted, number by number.
use mathlib.Core.Path.{◌≡◌, ap, ◌∙◌}
use mathlib.Core.List.{List}
use Prim.Native.Nat.{ℕ, ◌+◌, ◌*◌, ◌<◌, max}
use native.Mathlib.Omega.{arith}
use lib.ListN.{length, get_or, set, length-set}
use lib.Seq.{get_or-set_same, get_or-set_other}
use Rattle.report.specs.Reports.{share_in, report_in, grow}
use Rattle.report.specs.Steps.{Grown, Mergeable, Merged, Countable, AcceptedIn}
use Rattle.record.specs.declared.Checked.{Checked}
use Rattle.report.proofs.Limits.{Open, opened, within_limits, ranks_within}
use Rattle.report.proofs.Growing.{share_above, share_set}

module _ (l : List ℕ) (c : Checked) (terms weights : List ℕ) (a : Countable l c terms weights) where
  room : Open (report_in l)
  room = opened (report_in l) a.opened

  -- a record more, then the share of all terms, in k
  abbrev pub counted : List ℕ
  counted = set l 0 (get_or l 0 0 + 1)

  module _ (k : List ℕ) (g : Grown 2 c.terms c.weight counted k) where
    same_size : length k ≡ length l
    same_size = g.size ∙ length-set l 0 (get_or l 0 0 + 1)

    pub largest_inside : 5 < length k
    largest_inside = omega (arith, same_size, a.size)

    -- the largest weight, x, is stored
    module _ (x : ℕ) where
      rank_stays : (r : ℕ) → share_in (set k 5 x) (6 + 3 * r) ≡ share_in l (6 + 3 * r)
      rank_stays r =
          share_set k 5 x (6 + 3 * r) (omega arith) ∙ share_above 2 _ _ counted k g (6 + 3 * r) (omega arith)
          ∙ share_set l 0 (get_or l 0 0 + 1) (6 + 3 * r) (omega arith)

      pub ranks_ready : Mergeable (set k 5 x) terms weights
      ranks_ready =
          record {
            size = length-set k 5 x ∙ same_size ∙ a.size;
            room = ranks_within (report_in (set k 5 x)).rank 65 (λ r h. rw (rank_stays r) (within_limits _ (room.ranks r h)));
            figures = a.figures;
          }

      module _ (is : x ≡ max (get_or k 5 0) c.weight) (j : List ℕ) (m : Merged terms weights (set k 5 x) j) where
        -- a number below the largest weight is the one that the share left
        first_is : (i : ℕ) → i < 5 → get_or j i 0 ≡ get_or k i 0
        first_is i h = m.first i (omega arith) ∙ get_or-set_other k 5 i x 0 (λ e. absurd (omega arith))

        other : (i : ℕ) → 0 < i → get_or counted i 0 ≡ get_or l i 0
        other i h = get_or-set_other l 0 i (get_or l 0 0 + 1) 0 (λ e. absurd (omega arith))

        pub accepted_in : AcceptedIn c terms weights l j
        accepted_in =
            record {
              size = m.size ∙ length-set k 5 x ∙ same_size;
              accepted =
                  first_is 0 (omega arith) ∙ g.below 0 (omega arith) ∙ get_or-set_same l 0 (get_or l 0 0 + 1) 0 (omega (arith, a.size));
              refused = first_is 1 (omega arith) ∙ g.below 1 (omega arith) ∙ other 1 (omega arith);
              total =
                  rw (first_is 2 (omega arith), first_is 3 (omega arith), first_is 4 (omega arith)) g.share
                  ∙ ap (grow c.terms c.weight) (share_set l 0 (get_or l 0 0 + 1) 2 (omega arith));
              largest =
                  m.first 5 (omega arith) ∙ get_or-set_same k 5 x 0 largest_inside ∙ is
                  ∙ ap (λ (y : ℕ). max y c.weight) (g.above 5 (omega arith) ∙ other 5 (omega arith));
              ranks = λ r h. m.ranks r h ∙ ap (grow (get_or terms r 0) (get_or weights r 0)) (rank_stays r);
            }
