-- Laws of exclusive or, and equations of Booleans proved by their truth tables.
use mathlib.Core.Path.{◌≡◌, refl, sym, ap, ◌∙◌}
use mathlib.Core.Bool.{Bool, true, false, not, ◌&&◌}
use Rattle.modes.specs.Bools.{◌⊕◌, same}

pub ⊕_false : (a : Bool) → a ⊕ false ≡ a
unfolding ◌⊕◌
⊕_false true = refl
⊕_false false = refl

pub false_⊕ : (a : Bool) → false ⊕ a ≡ a
unfolding ◌⊕◌
false_⊕ a = refl

pub ⊕_comm : (a b : Bool) → a ⊕ b ≡ b ⊕ a
unfolding ◌⊕◌
⊕_comm true true = refl
⊕_comm true false = refl
⊕_comm false true = refl
⊕_comm false false = refl

pub ⊕_assoc : (a b c : Bool) → (a ⊕ b) ⊕ c ≡ a ⊕ (b ⊕ c)
unfolding ◌⊕◌
⊕_assoc true true c = nn c
  where
    nn : (c : Bool) → c ≡ not (not c)
    nn true = refl
    nn false = refl
⊕_assoc true false c = refl
⊕_assoc false b c = refl

pub ⊕_left : (a b c : Bool) → a ⊕ (b ⊕ c) ≡ b ⊕ (a ⊕ c)
⊕_left a b c = sym (⊕_assoc a b c) ∙ ap (λ (x : Bool). x ⊕ c) (⊕_comm a b) ∙ ⊕_assoc b a c

pub ⊕_self : (a : Bool) → a ⊕ a ≡ false
unfolding ◌⊕◌
⊕_self true = refl
⊕_self false = refl

pub ⊕_self_left : (a b : Bool) → a ⊕ (a ⊕ b) ≡ b
unfolding ◌⊕◌
⊕_self_left a b = sym (⊕_assoc a a b) ∙ ap (λ (x : Bool). x ⊕ b) (⊕_self a)

-- both sides of an equation of sums modulo 2 are sorted, and what stands twice goes
pub ruleset parity_sum = (⊕_assoc, ⊕_comm, ⊕_left, ⊕_self, ⊕_self_left, ⊕_false, false_⊕)

pub and_⊕ : (a b c : Bool) → (a ⊕ b) && c ≡ (a && c) ⊕ (b && c)
unfolding ◌⊕◌
and_⊕ true true true = refl
and_⊕ true true false = refl
and_⊕ true false true = refl
and_⊕ true false false = refl
and_⊕ false b c = refl

pub and_⊕_r : (a b c : Bool) → a && (b ⊕ c) ≡ (a && b) ⊕ (a && c)
unfolding ◌⊕◌
and_⊕_r true b c = refl
and_⊕_r false b c = refl

pub swap4 : (x y a b : Bool) → (x ⊕ y) ⊕ (a ⊕ b) ≡ (x ⊕ a) ⊕ (y ⊕ b)
swap4 x y a b = simp parity_sum

-- ---- truth tables: an equation of Booleans that holds at every row of its table holds

pub of_same : (a b : Bool) → same a b ≡ true → a ≡ b
of_same true true e = refl
of_same true false e = sym e
of_same false true e = e
of_same false false e = refl

abbrev pub all1 : (Bool → Bool) → Bool
all1 f = f true && f false

pub and_l : (a b : Bool) → a && b ≡ true → a ≡ true
and_l true b e = refl
and_l false b e = e

pub and_r : (a b : Bool) → a && b ≡ true → b ≡ true
and_r true b e = e
and_r false true e = refl
and_r false false e = e

at1 : (f : Bool → Bool) → all1 f ≡ true → (a : Bool) → f a ≡ true
at1 f h true = and_l (f true) (f false) h
at1 f h false = and_r (f true) (f false) h

abbrev pub all2 : (Bool → Bool → Bool) → Bool
all2 f = all1 (λ a. all1 (f a))

abbrev pub all3 : (Bool → Bool → Bool → Bool) → Bool
all3 f = all1 (λ a. all2 (f a))

abbrev pub all4 : (Bool → Bool → Bool → Bool → Bool) → Bool
all4 f = all1 (λ a. all3 (f a))

abbrev pub all5 : (Bool → Bool → Bool → Bool → Bool → Bool) → Bool
all5 f = all1 (λ a. all4 (f a))

abbrev pub all6 : (Bool → Bool → Bool → Bool → Bool → Bool → Bool) → Bool
all6 f = all1 (λ a. all5 (f a))

at2 : (f : Bool → Bool → Bool) → all2 f ≡ true → (a b : Bool) → f a b ≡ true
at2 f h a b = at1 (f a) (at1 (λ a. all1 (f a)) h a) b

pub at3 : (f : Bool → Bool → Bool → Bool) → all3 f ≡ true → (a b c : Bool) → f a b c ≡ true
at3 f h a = at2 (f a) (at1 (λ a. all2 (f a)) h a)

pub at4 : (f : Bool → Bool → Bool → Bool → Bool) → all4 f ≡ true → (a b c d : Bool) → f a b c d ≡ true
at4 f h a = at3 (f a) (at1 (λ a. all3 (f a)) h a)

pub at5 : (f : Bool → Bool → Bool → Bool → Bool → Bool) → all5 f ≡ true → (a b c d e : Bool) → f a b c d e ≡ true
at5 f h a = at4 (f a) (at1 (λ a. all4 (f a)) h a)

pub at6 : (f : Bool → Bool → Bool → Bool → Bool → Bool → Bool) → all6 f ≡ true → (a b c d e g : Bool) → f a b c d e g ≡ true
at6 f h a = at5 (f a) (at1 (λ a. all5 (f a)) h a)
