-- The element of a list of terms with float coefficients at (bra, ket). A coefficient has one part, a real, or two, re and im; `parts` holds a list of floats for each.
use Rattle.std.specs.Prelude.{Bool, true, ◌&&◌, List, [], ◌∷◌, map, ℕ, suc, eqb, leb, length, get_or, Float}
use Rattle.std.specs.Float.{nan}
use Rattle.std.specs.Float.Ieee.Scale.{finite}
use Rattle.modes.specs.Spaces.{space_of, is_made, inside, words_refusal}
use Rattle.modes.specs.Answers.{Verdict, refusal}
use Rattle.modes.specs.declared.Reason.TheVariants.{Malformed, WordOutside, NotFinite}
use Rattle.modes.specs.Refusals.{need, or_else, first_refusal, answered}
use Rattle.float_elem.specs.Sums.{sum_to}
use Rattle.float_elem.specs.Answers.{Told}

abbrev pub all_finite : List Float → Bool
all_finite [] = true
all_finite (x ∷ xs) = finite x && all_finite xs

abbrev pub all_long : ℕ → List (List Float) → Bool
all_long n [] = true
all_long n (cs ∷ parts) = eqb (length cs) n && all_long n parts

-- 2 and then 13 of the term {cre|ann} at the place i, whose coefficient has the parts c
unfoldable pub float_term_refusal : ℕ → ℕ → ℕ → ℕ → List Float → Verdict
float_term_refusal m i cre ann c = or_else (need (inside m cre ann) (refusal WordOutside 1 i)) (need (all_finite c) (refusal NotFinite 1 i))

-- mode count and list lengths keep the rules
unfoldable pub listed : ℕ → List ℕ → List ℕ → List (List Float) → Bool
listed m cre ann parts = is_made (space_of m) && (leb (length cre) 2048 && (eqb (length ann) (length cre) && all_long (length cre) parts))

-- the refusal of the i-th term
abbrev pub term_at : ℕ → List ℕ → List ℕ → List (List Float) → ℕ → Verdict
term_at m cre ann parts i = float_term_refusal m i (get_or cre i 0) (get_or ann i 0) (map (λ cs. get_or cs i nan) parts)

-- 1; then term by term 2 and 13; then 12 of the bra and of the ket
unfoldable pub input_refusal : ℕ → List ℕ → List ℕ → List (List Float) → ℕ → ℕ → Verdict
input_refusal m cre ann parts bra ket =
    or_else (need (listed m cre ann parts) (refusal Malformed 1 0)) (or_else (first_refusal (term_at m cre ann parts) (length cre)) (words_refusal m bra ket))

-- the sums of all parts over the first n terms
abbrev pub sums_to : ℕ → ℕ → List ℕ → List ℕ → List (List Float) → ℕ → List Float
sums_to bra ket cre ann parts n = map (λ cs. sum_to bra ket cre ann cs n) parts

-- 13 where a sum isn't finite with the i-th term
abbrev pub sum_at : ℕ → ℕ → List ℕ → List ℕ → List (List Float) → ℕ → Verdict
sum_at bra ket cre ann parts i = need (all_finite (sums_to bra ket cre ann parts (suc i))) (refusal NotFinite 1 i)

unfoldable pub sum_refusal : ℕ → ℕ → List ℕ → List ℕ → List (List Float) → Verdict
sum_refusal bra ket cre ann parts = first_refusal (sum_at bra ket cre ann parts) (length cre)

-- the sums alone: 13 of the first running sum that isn't finite, or the sums over all terms
abbrev pub summed : ℕ → ℕ → List ℕ → List ℕ → List (List Float) → Told
summed bra ket cre ann parts = answered (sum_refusal bra ket cre ann parts) (sums_to bra ket cre ann parts (length cre))

-- the whole answer: the inputs' refusal before that of the sums, or the sums over all terms
abbrev pub float_element : ℕ → List ℕ → List ℕ → List (List Float) → ℕ → ℕ → Told
float_element m cre ann parts bra ket =
    answered (or_else (input_refusal m cre ann parts bra ket) (sum_refusal bra ket cre ann parts)) (sums_to bra ket cre ann parts (length cre))
