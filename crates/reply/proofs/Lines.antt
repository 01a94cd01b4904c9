-- The line of three numbers: its length, the stores that make it, and that it tells them; and so of a refusal.
use mathlib.Core.Path.{◌≡◌, refl, ap, ap₂, ◌∙◌}
use mathlib.Core.List.{List, [], ◌++◌}
use Prim.Native.Nat.{ℕ, ◌-◌, ◌≤◌, ◌<◌}
use native.Mathlib.Omega.{arith}
use native.Mathlib.Nat.{sub-zero}
use lib.ListN.{length, take, drop}
use borrow.Author.Tests.{le-leb, lt-leb}
use Rattle.modes.specs.Reasons.{number_of}
use Rattle.modes.specs.declared.Refusal.{Refusal}
use Rattle.modes.proofs.Reasons.{one_reason}
use Rattle.lent.specs.Bytes.{put, zeros}
use Rattle.decimals.specs.Decimal.{field}
use Rattle.decimals.specs.Stores.{Stored}
use Rattle.decimals.proofs.Reading.{field_apart}
use Rattle.decimals.proofs.Stores.{stored_join, stored_inside, front_taken}
use Rattle.reply.specs.Lines.{refused_word, line_of_numbers, line_of_numbers_in, refused_line, line_in}
use Rattle.reply.specs.Replies.{Says}

-- the word and the three fields, one after the other
pub line_stored : (number operand place : ℕ) (l l1 l2 l3 m : List ℕ) (p q end : ℕ) → 8 ≤ length l → 8 ≤ length l1 → l1 ≡ put l 0 refused_word
    → Stored l1 8 (field number 32) l2 p → Stored l2 p (field operand 32) l3 q → Stored l3 q (field place 10) m end
    → Stored l 0 (line_of_numbers number operand place) m end
line_stored number operand place l l1 l2 l3 m p q end h h1 e f g k =
    let two = stored_inside (field number 32) h1 f in
    let three = stored_inside (field operand 32) two g in
    stored_join refused_word _ (omega arith) (record { bytes = e; ends = refl })
    (stored_join (field number 32) _ h1 f (stored_join (field operand 32) (field place 10) two g k))

-- what `tell` leaves: nothing, or the line
module _ (out : List ℕ) (number operand place : ℕ) (line line' : List ℕ) (n : ℕ) (g : Stored line 0 (line_of_numbers number operand place) line' n) where
  abbrev text : List ℕ
  text = line_of_numbers number operand place

  is_length : n ≡ length text
  is_length = omega (arith, g.ends)

  pub told_nothing : (after : List ℕ) → length out < n → after ≡ zeros (length out) → Says (line_of_numbers_in (length out) number operand place) (length out) 0 after
  unfolding line_of_numbers_in
  told_nothing after h e = rw (lt-leb (length text) (length out) (omega (arith, is_length))) (record { len = refl; bytes = rw (sub-zero (length out)) e })

  pub told_line : (mid after : List ℕ) → n ≤ length out → mid ≡ put out 0 (take n line') → length mid ≡ length out → after ≡ take n mid ++ zeros (length mid - n)
      → Says (line_of_numbers_in (length out) number operand place) (length out) n after
  unfolding line_of_numbers_in
  told_line mid after h e same f =
      let front : take n mid ≡ text =
      ap (take n) (e ∙ ap (put out 0) (ap (take n) g.bytes ∙ front_taken line text n is_length)) ∙ front_taken out text n is_length in
      rw (le-leb (length text) (length out) (omega (arith, is_length)))
      (record { len = is_length; bytes = f ∙ ap₂ {C = List ℕ} (λ (x : List ℕ) (k : ℕ). x ++ zeros k) front (ap₂ (λ (x y : ℕ). x - y) same is_length) })

-- of a refusal it is the line of its three numbers
pub refusal_told : {room number r : ℕ} {after : List ℕ} (f : Refusal) → number ≡ number_of f.reason
    → Says (line_of_numbers_in room number f.operand f.place) room r after → Says (line_in room f) room r after
unfolding line_in
refusal_told f e s = rw (← e) s

-- a line of three numbers tells them
pub numbers_one : (n n' o o' p p' : ℕ) → line_of_numbers n o p ≡ line_of_numbers n' o' p' → (n ≡ n') × (o ≡ o') × (p ≡ p')
numbers_one n n' o o' p p' e =
    let number = field_apart n n' 32 (field o 32 ++ field p 10) (field o' 32 ++ field p' 10) (omega arith) (ap (drop 8) e) in
    let operand = field_apart o o' 32 (field p 10) (field p' 10) (omega arith) number.1 in
    let place = field_apart p p' 10 [] [] (omega arith) (ap (λ (l : List ℕ). l ++ []) operand.1) in
    (number.0, operand.0, place.0)

-- THE LINE of a refusal tells its number, operand and place
pub line_one : (r s : Refusal) → refused_line r ≡ refused_line s → r ≡ s
unfolding refused_line
line_one r s e =
    let (number, operand, place) = numbers_one (number_of r.reason) (number_of s.reason) r.operand s.operand r.place s.place e in
    let reason = one_reason r.reason s.reason number in
    λ i. record { reason = reason i; operand = operand i; place = place i }
