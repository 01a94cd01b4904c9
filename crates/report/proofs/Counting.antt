-- What a call leaves: a report that is refused, a refused record counted, and an accepted one.
use mathlib.Core.Path.{◌≡◌, refl, sym, ap, ◌∙◌}
use mathlib.Core.Bool.{true, false}
use mathlib.Core.List.{List}
use Prim.Native.Nat.{ℕ, ◌+◌, ◌*◌}
use native.Mathlib.Omega.{arith}
use lib.ListN.{length, get_or, set, length-set}
use lib.Seq.{get_or-set_same, get_or-set_other}
use Rattle.modes.specs.declared.Refusal.{Refusal}
use Rattle.std.specs.Prelude.{Ok, Err}
use Rattle.modes.specs.declared.Reason.TheVariants.{BadReport}
use Rattle.modes.specs.Answers.{Verdict, refusal, none}
use Rattle.modes.specs.Refusals.{unless}
use Rattle.modes.proofs.Refusals.{unless_so, unless_not}
use Rattle.record.specs.Terms.{weight}
use Rattle.record.specs.Layout.{terms_of, count_of}
use Rattle.record.specs.Operands.{Operand, read_as}
use Rattle.record.specs.Refusals.{refusal_of}
use Rattle.record.specs.declared.Checked.{Checked}
use Rattle.record.proofs.Accepted.{Accepted, accepted}
use Rattle.record.proofs.Reading.{length_terms}
use Rattle.report.specs.Reports.{report_in, numbers_of, is_open, with_accepted, with_refused}
use Rattle.report.specs.Reports.{with_record, report_after, counted_of, Counts}
use Rattle.tally.specs.Ranks.{of_rank}
use Rattle.tally.specs.Tallies.{Tallied, Tallies}
use Rattle.tally.proofs.Ranks as ranks
use Rattle.report.specs.Steps.{Light, Countable, AcceptedIn}
use Rattle.report.proofs.Growing.{share_set}
use Rattle.report.proofs.Numbers.{Agree, numbers_of_is}

-- ---- 15

pub not_taken : (l : List ℕ) (a : Operand) → is_open (report_in l) ≡ false → Counts l a (Err (refusal BadReport 0 0)) l
unfolding unless
not_taken l a e = record { answer = rw e; numbers = rw e }

-- ---- a report that is taken

module _ (l : List ℕ) (a : Operand) (e : is_open (report_in l) ≡ true) where
  taken : (k : List ℕ) → k ≡ numbers_of (with_record a (report_in l)) → k ≡ report_after l a
  taken k q = q ∙ rw e (sym (unless_not none (λ _. l) _ refl))

  told : (own : Verdict) → own ≡ a.refusal → Ok own ≡ counted_of l a
  told own is = rw is (rw e (sym (unless_not none Err (Ok a.refusal) refl)))

  -- a refused record
  pub one_refused : length l ≡ 201 → (own : Refusal) → a.refusal ≡ Err own → Counts l a (Ok (Err own)) (set l 1 (get_or l 1 0 + 1))
  one_refused size own is =
      record {
        answer = told (Err own) (sym is);
        numbers = taken _ (numbers_of_is _ (with_refused (report_in l)) (length-set l 1 _ ∙ size) agree ∙ ap numbers_of (sym (unless_so a.refusal _ _ own is)));
      }
    where
      other : (i : ℕ) → (i ≡ 1 → ⊥) → get_or (set l 1 (get_or l 1 0 + 1)) i 0 ≡ get_or l i 0
      other i h = get_or-set_other l 1 i _ 0 h

      agree : Agree (report_in (set l 1 (get_or l 1 0 + 1))) (with_refused (report_in l))
      agree =
          record {
            accepted = other 0 (λ z. absurd (omega arith));
            refused = get_or-set_same l 1 _ 0 (omega arith);
            total = share_set l 1 _ 2 (omega arith);
            largest = other 5 (λ z. absurd (omega arith));
            rank = λ r h. share_set l 1 _ (6 + 3 * r) (omega arith);
          }

-- ---- an accepted record

module _ (l b : List ℕ) (c : Checked) (terms weights : List ℕ) (f : Tallies b (Ok c) terms weights) where
  is : Accepted 1 b c
  is = accepted 1 b c f.checked

  tallied : Tallied (terms_of b) terms weights
  tallied = f.tallied c refl

  terms_are : c.terms ≡ length (terms_of b)
  terms_are = ap (λ (x : Checked). x.terms) is.is ∙ sym (length_terms b (count_of b))

  weight_is : c.weight ≡ weight (terms_of b)
  weight_is = ap (λ (x : Checked). x.weight) is.is

  light : Light terms weights
  light =
      record {
        few = λ r h. omega (arith, tallied.number r h, ranks.rank_part ranks.lengths r (terms_of b), is.canonical.few);
        light = λ r h. omega (arith, tallied.sum r h, ranks.rank_part ranks.weights r (terms_of b), is.canonical.light);
        empty = λ r h e. tallied.sum r h ∙ ranks.no_terms ranks.weights (of_rank r (terms_of b)) (omega (arith, e, tallied.number r h));
      }

  module _ (size : length l ≡ 201) (e : is_open (report_in l) ≡ true) where
    pub countable : Countable l c terms weights
    countable =
        record {
          size = size;
          opened = e;
          few = omega (arith, terms_are, is.canonical.few);
          light = omega (arith, weight_is, is.canonical.light);
          empty = λ h. weight_is ∙ ranks.no_terms ranks.weights (terms_of b) (omega (arith, h, terms_are));
          figures = light;
        }

    pub one_accepted : (k : List ℕ) → AcceptedIn c terms weights l k → Counts l (read_as 1 b) (Ok none) k
    one_accepted k g =
        record {
          answer = told l (read_as 1 b) e none (sym is.fine);
          numbers =
              taken l (read_as 1 b) e k
              (numbers_of_is k (with_accepted (terms_of b) (report_in l)) (g.size ∙ size) agree ∙ ap numbers_of (sym (unless_not (refusal_of 1 b) _ _ is.fine)));
        }
      where
        agree : Agree (report_in k) (with_accepted (terms_of b) (report_in l))
        agree =
            record {
              accepted = g.accepted;
              refused = g.refused;
              total = g.total ∙ rw (terms_are, weight_is);
              largest = g.largest ∙ rw weight_is;
              rank = λ r h. g.ranks r h ∙ rw (tallied.number r h, tallied.sum r h);
            }
