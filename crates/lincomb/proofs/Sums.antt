-- The sum and the difference of two records: each way through the call, and that the elements add up.
use mathlib.Core.Path.{◌≡◌, sym, ap, ap₂, ◌∙◌}
use mathlib.Core.Bool.{Bool, true, false}
use mathlib.Core.List.{List, ◌++◌, map}
use Prim.Native.Nat.{ℕ, ◌^◌, ◌≤◌}
use lib.IntN.{ℤ, neg_ℤ, ◌+ℤ◌}
use lib.ListN.{length, take}
use Rattle.record.specs.Operands.{read_as}
use Rattle.modes.specs.declared.Term.{Term}
use Rattle.modes.proofs.Sums.{sum_append}
use Rattle.modes.specs.declared.Refusal.{Refusal}
use Rattle.modes.specs.declared.Written.{Written}
use Rattle.std.specs.Prelude.{Ok, Err}
use Rattle.modes.specs.Answers.{Verdict, none}
use Rattle.modes.specs.Every.{Every}
use Rattle.modes.proofs.Every.{every_append, every_map}
use Rattle.lent.specs.Outputs.{refused_output, filled_output, Gives}
use Rattle.products.specs.Operators.{signed, part, element}
use Rattle.record.specs.Terms.{weight}
use Rattle.record.specs.Layout.{encode, modes_of, terms_in, terms_of}
use Rattle.record.specs.Reading.{Holds, Sound}
use Rattle.record.specs.Refusals.{refusal_of}
use Rattle.record.specs.Canonical.{Inside, Canonical}
use Rattle.record.proofs.Accepted.{accepted_canonical, sound}
use Rattle.record.proofs.Outputs.{refused_earlier, refused_late, delivers, none_refused, output_accepted, output_modes, output_terms}
use Rattle.normal.specs.Normal.{drop_zeros}
use Rattle.normal.proofs.Totals.{element_normal}
use Rattle.results.specs.Results.{operands_refusal, result_refusal, opened_of}
use Rattle.lincomb.specs.Sums.{turn, sum_terms, combined, added, subtracted}
use Rattle.lincomb.specs.Merging.{onward}
use Rattle.results.specs.Tallies.{Tallied}
use Rattle.results.specs.declared.Opened.{Opened}
use Rattle.results.specs.declared.Tally.{Tally}
use Rattle.lincomb.proofs.Totals.{element_turn}
use Rattle.lincomb.proofs.Merging.{ascending_turn, merge_normal}
use Rattle.results.proofs.Results.{Opens, opens, shuts, first_fine, second_fine, same_modes, Deliverable, deliverable, verdict_same, result_canonical}

-- ---- both records open, and their terms

module _ (a b : List ℕ) (p : Opened) (ep : Ok p ≡ opened_of a b) where
  ready : Opens a b p
  ready = opens a b p ep

  left_sound : Sound a p.left
  left_sound = sound 1 a p.left ready.one ready.left

  right_sound : Sound b p.right
  right_sound = sound 2 b p.right ready.two ready.right

  pub both_held : Holds a p.left × Holds b p.right
  both_held = (left_sound.size, right_sound.size)

  pub both_light : (ts us : List Term) → ts ≡ terms_in a p.left → us ≡ terms_in b p.right → (weight ts ≤ 2 ^ 60) × (weight us ≤ 2 ^ 60)
  both_light ts us et eu = rw (et, eu) (left_sound.light, right_sound.light)

-- ---- each way through the call

-- what refuses the pair
abbrev pair : List ℕ → List ℕ → Verdict
pair a b = operands_refusal (read_as 1 a) (read_as 2 b)

-- the terms of the result
abbrev whole : Bool → List ℕ → List ℕ → List Term
whole minus a b = sum_terms minus (read_as 1 a) (read_as 2 b)

module _ (minus : Bool) (a b out : List ℕ) where
  pub pair_refused : (r : Refusal) → Err r ≡ opened_of a b → refused_output (length out) r ≡ combined minus (length out) (read_as 1 a) (read_as 2 b)
  pair_refused r e = refused_earlier (length out) 0 (pair a b) _ (modes_of a) (whole minus a b) r (shuts a b r e)

  -- ts and us are the terms of the two
  module _ (p : Opened) (ep : Ok p ≡ opened_of a b) (ts us : List Term) (et : ts ≡ terms_in a p.left) (eu : us ≡ terms_in b p.right) where
    -- the terms that the code goes through
    abbrev pub terms : List Term
    terms = drop_zeros (onward minus ts 0 us 0)

    terms_are : terms ≡ whole minus a b
    terms_are =
        let both = ready a b p ep in
        rw (et, eu, both.left, both.right)
        (merge_normal (terms_of a) (map (turn minus) (terms_of b)) (accepted_canonical 1 a both.one).ascending
        (ascending_turn minus (terms_of b) (accepted_canonical 2 b both.two).ascending))

    module _ (t : Tally) (g : Tallied terms t) where
      judged : (late : Verdict) → late ≡ result_refusal (length out) t.terms t.weight
          → late ≡ result_refusal (length out) (length (whole minus a b)) (weight (whole minus a b))
      judged late e =
          e ∙ verdict_same (length out) terms t g ∙ ap (λ (ts : List Term). result_refusal (length out) (length ts) (weight ts)) terms_are

      pub result_refused : (r : Refusal) → Err r ≡ result_refusal (length out) t.terms t.weight
          → refused_output (length out) r ≡ combined minus (length out) (read_as 1 a) (read_as 2 b)
      result_refused r e =
          refused_late (length out) 0 (pair a b) _ (modes_of a) (whole minus a b) (ready a b p ep).pair r (judged _ e)

      module _ (x : Unit {0}) (fine : Ok x ≡ result_refusal (length out) t.terms t.weight) where
        pub room_enough : Deliverable (length out) t.terms t.weight
        room_enough = deliverable (length out) t.terms t.weight (sym fine)

        -- the record that the code writes is the definition's
        pub result_delivered : filled_output (length out) 0 (encode p.modes terms) ≡ combined minus (length out) (read_as 1 a) (read_as 2 b)
        result_delivered =
            ap₂ (λ (m : ℕ) (ts : List Term). filled_output (length out) 0 (encode m ts)) (ready a b p ep).modes terms_are
            ∙ delivers (length out) 0 (pair a b) _ (modes_of a) (whole minus a b) (ready a b p ep).pair x (judged _ fine)

-- ---- the theorems, of the bytes that a call leaves where it is not refused

inside_turn : (m : ℕ) (minus : Bool) (t : Term) → Inside m t → Inside m (turn minus t)
inside_turn m minus t h = record { ann = h.ann; cre = h.cre }

module _ (minus : Bool) (room : ℕ) (a b : List ℕ)
    (r : Written) (after : List ℕ) (g : Gives (combined minus room (read_as 1 a) (read_as 2 b)) (Ok r) after) where
  abbrev both : List Term
  both = terms_of a ++ map (turn minus) (terms_of b)

  fine : (pair a b ≡ none) × (result_refusal room (length (whole minus a b)) (weight (whole minus a b)) ≡ none)
  fine = none_refused room 0 (pair a b) _ (modes_of a) (whole minus a b) r after g

  form : Canonical (modes_of a) (whole minus a b)
  form =
      let left = accepted_canonical 1 a (first_fine a b fine.0) in
      let right : Every (Inside (modes_of a)) (terms_of b) = rw (same_modes a b fine.0) (accepted_canonical 2 b (second_fine a b fine.0)).inside in
      result_canonical (modes_of a) both left.some left.most
      (every_append (terms_of a) (map (turn minus) (terms_of b)) left.inside
      (every_map (turn minus) (terms_of b) (inside_turn (modes_of a) minus) right)) room fine.1

  -- the output's record is accepted
  pub sum_accepted : (o : ℕ) → refusal_of o (take r.len after) ≡ none
  sum_accepted = output_accepted room 0 (pair a b) _ (modes_of a) (whole minus a b) r after g form

  pub sum_modes : modes_of (take r.len after) ≡ modes_of a
  sum_modes = output_modes room 0 (pair a b) _ (modes_of a) (whole minus a b) r after g form

  pub sum_terms_is : terms_of (take r.len after) ≡ sum_terms minus (read_as 1 a) (read_as 2 b)
  sum_terms_is = output_terms room 0 (pair a b) _ (modes_of a) (whole minus a b) r after g form

  -- its elements are those of the first record plus those of the second, with the sign
  pub sum_elements : (bra ket : ℕ) → element bra ket (terms_of (take r.len after)) ≡ element bra ket (terms_of a) +ℤ signed minus (element bra ket (terms_of b))
  sum_elements bra ket =
      ap (element bra ket) sum_terms_is ∙ element_normal bra ket both
      ∙ sum_append (part bra ket) (terms_of a) (map (turn minus) (terms_of b))
      ∙ ap (λ (x : ℤ). element bra ket (terms_of a) +ℤ x) (element_turn bra ket minus (terms_of b))

-- ADD: at every bra and ket the element of what is written is the sum of the two records' elements
pub add_elements : (room : ℕ) (a b : List ℕ) (r : Written) (after : List ℕ) → Gives (added room (read_as 1 a) (read_as 2 b)) (Ok r) after → (bra ket : ℕ)
    → element bra ket (terms_of (take r.len after)) ≡ element bra ket (terms_of a) +ℤ element bra ket (terms_of b)
add_elements = sum_elements false

-- SUB: and their difference
pub sub_elements : (room : ℕ) (a b : List ℕ) (r : Written) (after : List ℕ) → Gives (subtracted room (read_as 1 a) (read_as 2 b)) (Ok r) after → (bra ket : ℕ)
    → element bra ket (terms_of (take r.len after)) ≡ element bra ket (terms_of a) +ℤ neg_ℤ (element bra ket (terms_of b))
sub_elements = sum_elements true
