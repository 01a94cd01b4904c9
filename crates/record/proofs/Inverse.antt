-- Encoding and decoding are each other's inverse on accepted records, and one operator on one number of modes has one record.
use mathlib.Core.Path.{◌≡◌, refl, sym, ap, ap₂, ◌∙◌}
use mathlib.Core.Bool.{true}
use mathlib.Core.List.{List, [], ◌∷◌, ◌++◌, map}
use Prim.Native.Nat.{ℕ, zero, suc, ◌+◌, ◌*◌, ◌^◌, ◌≤◌, ◌<◌}
use native.Mathlib.Omega.{arith}
use native.Mathlib.Nat.{mul-suc, lt_of_lt_of_le, le_refl}
use lib.Pow.{pow_mono}
use lib.IntN.{ℤ, pos, negsuc, nat_abs}
use lib.ListN.{length, get_or, take, drop}
use lib.Seq.{drop-drop, take-add, take_all}
use borrow.Author.Tests.{le-leb}
use mir.Syntax.{w64}
use mir.Val.{SFits}
use mir.Facts.{of_z-to_z}
use Rattle.modes.specs.declared.Term.{Term}
use Rattle.modes.specs.Answers.{none as unrefused}
use Rattle.lent.specs.Bytes.{word_at}
use Rattle.modes.specs.Every.{Every, none, more}
use Rattle.modes.proofs.Every.{every_implies, every_both}
use Rattle.lent.specs.Rows.{Fit}
use Rattle.lent.proofs.NumbersAt.{num_at_below}
use Rattle.record.specs.Numbers.{numbers}
use Rattle.record.specs.Terms.{weight}
use Rattle.record.specs.Layout.{header, column, columns, bits_of, encode, modes_of, count_of, together, terms_in, terms_of}
use Rattle.record.specs.Reading.{Holds}
use Rattle.record.specs.Refusals.{refusal_of}
use Rattle.record.specs.Canonical.{Inside, Canonical}
use Rattle.record.proofs.Numbers.{stored_numbers}
use Rattle.modes.proofs.Refusals.{or_second}
use Rattle.record.proofs.Header.{Laid}
use Rattle.record.proofs.Reading.{columns_at, term_at, length_terms}
use Rattle.record.proofs.Accepted.{Begins, none_refused, accepted_laid}
use Rattle.record.proofs.Encoded.{modes_read, terms_read, laid_read}

-- every byte is below 256, as in any slice of bytes
abbrev pub Small : List ℕ → Type 0
Small l = (k : ℕ) → get_or l k 0 < 256

-- ---- the bytes of what was read

module _ (l : List ℕ) (small : Small l) where
  -- f takes of each term what stands in the column at `at a c z`, one of the three
  read_column : (f : Term → ℕ) (at : ℕ → ℕ → ℕ → ℕ) → ((a c z : ℕ) → at (a + 8) (c + 8) (z + 8) ≡ at a c z + 8)
      → ((a c z : ℕ) → z + 8 ≤ length l → f (term_at l a c z) ≡ word_at l (at a c z)) → (a c z n : ℕ) → z + 8 * n ≤ length l
      → map f (columns_at l a c z n) ≡ numbers 8 l (at a c z) n
  unfolding together numbers
  read_column f at step here a c z zero h = refl
  read_column f at step here a c z (suc n) h =
      let m : 8 * suc n ≡ 8 * n + 8 = mul-suc 8 n in
      ap₂ {C = List ℕ} (λ (x : ℕ) (xs : List ℕ). x ∷ xs) (here a c z (omega arith))
      (read_column f at step here (a + 8) (c + 8) (z + 8) n (omega arith) ∙ ap (λ (o : ℕ). numbers 8 l o n) (step a c z))

  ann_column : (a c z n : ℕ) → z + 8 * n ≤ length l → map (λ t. t.ann) (columns_at l a c z n) ≡ numbers 8 l a n
  ann_column = read_column (λ t. t.ann) (λ a c z. a) (λ a c z. refl) (λ a c z h. refl)

  cre_column : (a c z n : ℕ) → z + 8 * n ≤ length l → map (λ t. t.cre) (columns_at l a c z n) ≡ numbers 8 l c n
  cre_column = read_column (λ t. t.cre) (λ a c z. c) (λ a c z. refl) (λ a c z h. refl)

  bits_column : (a c z n : ℕ) → z + 8 * n ≤ length l → map bits_of (columns_at l a c z n) ≡ numbers 8 l z n
  bits_column =
      read_column bits_of (λ a c z. z) (λ a c z. refl) (λ a c z h. of_z-to_z {w = w64} (record { fits = num_at_below 8 l z h small }))

  pub creations_read : (n : ℕ) → Holds l n → column (λ t. t.cre) (terms_in l n) ≡ take (8 * n) (drop (32 + 8 * n) l)
  unfolding column terms_in
  creations_read n h = rw (cre_column 32 (32 + 8 * n) (32 + 16 * n) n (omega arith), stored_numbers 8 l (32 + 8 * n) n (omega arith) small)

  -- three stretches of k bytes
  three : (k : ℕ) (d : List ℕ) → take k d ++ (take k (drop k d) ++ take k (drop (k + k) d)) ≡ take (k + (k + k)) d
  three k d =
      sym (take-add k (k + k) d ∙ ap (λ (z : List ℕ). take k d ++ z) (take-add k k (drop k d) ∙ rw (drop-drop k k d)))

  pub columns_read : (n : ℕ) → Holds l n → columns (terms_in l n) ≡ take (24 * n) (drop 32 l)
  unfolding columns column terms_in
  columns_read n h =
      let k : 24 * n ≡ 8 * n + (8 * n + 8 * n) = omega arith in
      let e : 32 + (8 * n + 8 * n) ≡ 32 + 16 * n = omega arith in
      let d : drop (32 + 16 * n) l ≡ drop (8 * n + 8 * n) (drop 32 l) = sym (drop-drop (8 * n + 8 * n) 32 l ∙ ap (λ (x : ℕ). drop x l) e) in
      rw (
        ann_column 32 (32 + 8 * n) (32 + 16 * n) n (omega arith),
        cre_column 32 (32 + 8 * n) (32 + 16 * n) n (omega arith),
        bits_column 32 (32 + 8 * n) (32 + 16 * n) n (omega arith),
        stored_numbers 8 l 32 n (omega arith) small,
        stored_numbers 8 l (32 + 8 * n) n (omega arith) small,
        stored_numbers 8 l (32 + 16 * n) n (omega arith) small,
        d,
        ← drop-drop (8 * n) 32 l,
        k,
      ) (three (8 * n) (drop 32 l))

  encode_read : Laid l → encode (modes_of l) (terms_of l) ≡ l
  unfolding header
  encode_read laid =
      rw (length_terms l (count_of l), ← laid.header, stored_numbers 4 l 0 8 (omega (arith, laid.size)) small, columns_read (count_of l) (omega (arith, laid.size)))
      (sym (take-add 32 (24 * count_of l) l) ∙ take_all (32 + 24 * count_of l) l (omega (arith, laid.size)))

-- ---- the terms of a canonical form fit their bytes

small_coefficient : (z : ℤ) → nat_abs z ≤ 2 ^ 60 → SFits w64 z
small_coefficient (pos n) h = record { sfits = omega arith }
small_coefficient (negsuc n) h = record { sfits = omega arith }

weight_at_least : (ts : List Term) → Every (λ t. nat_abs t.coeff ≤ weight ts) ts
unfolding weight
weight_at_least ts = go ts (weight ts) (le_refl (weight ts))
  where
    go : (us : List Term) (w : ℕ) → weight us ≤ w → Every (λ t. nat_abs t.coeff ≤ w) us
    go [] w q = none
    go (u ∷ us) w q = more {x = u} (omega arith) (go us w (omega arith))

-- ---- the theorems

module _ (m : ℕ) (ts : List Term) (k : Canonical m ts) where
  modes_fit : m < 2 ^ 32
  modes_fit = omega (arith, k.most)

  -- every term of a canonical form fits its bytes
  pub canonical_fit : Every Fit ts
  canonical_fit = every_implies ts fit (every_both ts k.inside (weight_at_least ts))
    where
      wide : (x : ℕ) → x < 2 ^ m → x < 2 ^ 64
      wide x h = lt_of_lt_of_le h (pow_mono k.most)

      fit : (u : Term) → Inside m u × (nat_abs u.coeff ≤ weight ts) → Fit u
      fit u h = record { ann = wide u.ann h.0.ann; cre = wide u.cre h.0.cre; coeff = small_coefficient u.coeff (omega (arith, h.1, k.light)) }

  -- decoding what was encoded
  pub decode_modes : modes_of (encode m ts) ≡ m
  decode_modes = modes_read m ts modes_fit k.few

  pub decode_terms : terms_of (encode m ts) ≡ ts
  decode_terms = terms_read m ts modes_fit k.few canonical_fit

  -- the record of a canonical form is accepted
  pub encode_accepted : (o : ℕ) → refusal_of o (encode m ts) ≡ unrefused
  unfolding refusal_of
  encode_accepted o =
      rw (
        laid_read m ts modes_fit k.few k.some k.most,
        decode_terms,
        decode_modes,
        none_refused o m 0 (λ _. true) ts (begins ts) k.inside k.ascending k.nonzero,
        le-leb _ _ k.light,
      )
      (or_second unrefused _ refl ∙ or_second unrefused _ refl)
    where
      begins : (us : List Term) → Begins (λ _. true) us
      begins [] = tt
      begins (u ∷ us) = refl

-- encoding what was decoded
pub encode_decode : (o : ℕ) (l : List ℕ) → Small l → refusal_of o l ≡ unrefused → encode (modes_of l) (terms_of l) ≡ l
encode_decode o l small e = encode_read l small (accepted_laid o l e)

-- two accepted records with the same modes and the same terms are the same bytes
pub same_bytes : (o p : ℕ) (k l : List ℕ) → Small k → Small l → refusal_of o k ≡ unrefused → refusal_of p l ≡ unrefused
    → modes_of k ≡ modes_of l → terms_of k ≡ terms_of l → k ≡ l
same_bytes o p k l sk sl ek el m t = sym (encode_decode o k sk ek) ∙ ap₂ encode m t ∙ encode_decode p l sl el
