-- Terms as text, one line a term: the coefficient, the creations, then the annihilations, each ascending and each after a space.
use Rattle.std.specs.Prelude.{cond, List, [], ◌∷◌, ◌++◌, ℕ, zero, suc, ℤ, pos, negsuc, nat_abs}
use Rattle.modes.specs.Words.{bit}
use Rattle.modes.specs.Sums.{list_of}
use Rattle.modes.specs.declared.Term.{Term}
use Rattle.decimals.specs.Decimal.{decimal, field}
use Rattle.lines.specs.Grammar.{line_feed, space, minus, creates, annihilates}

-- the ladders of a word's modes below k, each with the byte `kind` at its end
unfoldable pub modes_text : ℕ → ℕ → ℕ → List ℕ
modes_text kind zero w = []
modes_text kind (suc p) w = let lower = modes_text kind p w in lower ++ cond (bit w p) (space ∷ field p kind) []

-- a minus where the coefficient is negative, never a plus
abbrev pub sign_text : ℤ → List ℕ
sign_text (pos n) = []
sign_text (negsuc n) = minus ∷ []

unfoldable pub term_text : Term → List ℕ
term_text t =
    sign_text t.coeff ++ (decimal (nat_abs t.coeff) ++ (modes_text creates 64 t.cre ++ (modes_text annihilates 64 t.ann ++ (line_feed ∷ []))))

abbrev pub terms_text : List Term → List ℕ
terms_text ts = list_of term_text ts
