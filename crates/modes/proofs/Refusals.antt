-- The first of two refusals, and the answer that a refusal takes the place of.
use mathlib.Core.Path.{◌≡◌, refl, sym, ap}
use mathlib.Core.Bool.{Bool, true, false}
use Rattle.std.specs.Prelude.{Result, Ok, Err, IsErr, IsErrAnd}
use Rattle.modes.specs.declared.Refusal.{Refusal}
use Rattle.modes.specs.Answers.{Verdict, none}
use Rattle.modes.specs.Refusals.{need, or_else, unless, answered}

pub or_first : (r s : Verdict) → (r ≡ none → ⊥) → or_else r s ≡ r
unfolding or_else
or_first (Ok x) s h = absurd (h refl)
or_first (Err r) s h = refl

pub or_second : (r s : Verdict) → r ≡ none → or_else r s ≡ s
unfolding or_else
or_second (Ok x) s e = refl
or_second (Err r) s e = cc

-- where neither of two refuses
pub neither : (r s : Verdict) → or_else r s ≡ none → (r ≡ none) × (s ≡ none)
unfolding or_else
neither (Ok x) s e = (refl, e)
neither (Err r) s e = cc

-- two refusals in order
module _ (a b : Verdict) where
  pub the_first : (e : Refusal) → Err e ≡ a → Err e ≡ or_else a b
  unfolding or_else
  the_first e q = rw (← q)

  pub the_second : (x : Unit {0}) → Ok x ≡ a → b ≡ or_else a b
  the_second x q = sym (or_second a b (sym q))

-- a test whose refusal is not given holds
pub needed : (b : Bool) (r : Refusal) → need b r ≡ none → b ≡ true
needed true r z = refl
needed false r z = cc

-- what is shown where r refuses nothing, and where it refuses, is shown
pub by_verdict : {P : Type 0} (r : Verdict) → (r ≡ none → P) → ((e : Refusal) → r ≡ Err e → P) → P
by_verdict (Ok x) accepted refused = accepted refl
by_verdict (Err e) accepted refused = refused e refl

module _ {A : Type 0} (r : Verdict) (refused : Refusal → A) (answer : A) where
  pub unless_not : r ≡ none → unless r refused answer ≡ answer
  unfolding unless
  unless_not z = rw z

  pub unless_so : (e : Refusal) → r ≡ Err e → unless r refused answer ≡ refused e
  unfolding unless
  unless_so e q = rw q

  -- what holds of the answer where nothing refuses, and of what is answered to the refusal where it does, holds of what is given
  pub either_way : (P : A → Type 0) → (r ≡ none → P answer) → ((e : Refusal) → r ≡ Err e → P (refused e)) → P (unless r refused answer)
  either_way P accepted other = by_verdict r (λ z. rw (unless_not z) (accepted z)) (λ e q. rw (unless_so e q) (other e q))

-- two refusals in order, and then the answer
module _ {A : Type 0} (r s : Verdict) (refused : Refusal → A) (answer : A) where
  pub first_refuses : (e : Refusal) → r ≡ Err e → refused e ≡ unless (or_else r s) refused answer
  first_refuses e q = sym (rw (or_first r s (λ z. cc)) (unless_so r refused answer e q))

  pub second_refuses : r ≡ none → (e : Refusal) → s ≡ Err e → refused e ≡ unless (or_else r s) refused answer
  second_refuses z e q = sym (rw (or_second r s z) (unless_so s refused answer e q))

  pub neither_refuses : r ≡ none → s ≡ none → answer ≡ unless (or_else r s) refused answer
  neither_refuses z y = sym (rw (or_second r s z) (unless_not s refused answer y))

-- a call that is refused or answers x
module _ {A : Type 0} (x : A) where
  -- what it answers is x, and nothing refuses
  pub not_refused : (r : Verdict) (y : A) → Ok y ≡ answered r x → (r ≡ none) × (y ≡ x)
  unfolding unless
  not_refused (Ok t) y p = (refl, cc)
  not_refused (Err e) y p = cc

  -- and what refuses it is r
  pub refused_by : (r : Verdict) (e : Refusal) → Err e ≡ answered r x → r ≡ Err e
  unfolding unless
  refused_by (Ok t) e p = cc
  refused_by (Err f) e p = cc

-- a call that is refused by the same, or answers something of what the other answers
module _ {A B : Type 0} (f : A → B) (x : A) where
  pub refused_alike : (r : Verdict) (e : Refusal) → Err e ≡ answered r x → Err e ≡ answered r (f x)
  unfolding unless
  refused_alike (Ok t) e p = cc
  refused_alike (Err g) e p = cc

  pub answered_alike : (r : Verdict) (y : A) → Ok y ≡ answered r x → Ok (f y) ≡ answered r (f x)
  unfolding unless
  answered_alike (Ok t) y p = cc
  answered_alike (Err e) y p = cc

-- what a `?` hands on is what the call was refused with
pub handed_on : {A : Type 0} (r : Result A Refusal) (e : Refusal) → IsErr r → IsErrAnd r (λ f. f ≡ e) → r ≡ Err e
handed_on (Ok x) e h k = absurd k
handed_on (Err f) e h k = ap Err k
