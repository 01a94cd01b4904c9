-- Exclusive or: true where exactly one of the two is. A sign is a Boolean, true for minus, and two signs multiply by `⊕`.
use Rattle.std.specs.Prelude.{Bool, true, false, not}

infixl 32 ◌⊕◌
unfoldable pub ◌⊕◌ : Bool → Bool → Bool
true ⊕ b = not b
false ⊕ b = b

-- the two are equal
abbrev pub same : Bool → Bool → Bool
same true b = b
same false b = not b
