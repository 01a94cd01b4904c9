-- Text put to an output where it fits. For inner functions only.
use Rattle.std.specs.Prelude.{List, ℕ, ◌+◌, ◌≤◌, ◌<◌, length, MatchOption, Option}
use Rattle.decimals.specs.Stores.{Stored}

-- None where the text does not fit in l at `at`; where it does, it stands there in m, and r tells where it ends
abbrev pub PlacedText : List ℕ → ℕ → List ℕ → List ℕ → Option ℕ → Type 0
PlacedText l at text m r =
    MatchOption r (length l < at + length text) (λ end. (at + length text ≤ length l) × Stored l at text m end)
