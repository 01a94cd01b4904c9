-- A report as 201 numbers, and read from them.
use mathlib.Core.Path.{◌≡◌, refl, sym, ap, ◌∙◌}
use mathlib.Core.List.{List, [], ◌∷◌}
use Prim.Native.Nat.{ℕ, zero, suc, ◌+◌, ◌*◌, ◌<◌}
use native.Mathlib.Nat.{mul-suc, add_assoc}
use native.Mathlib.Omega.{arith}
use lib.ListN.{length, get_or, drop, drop_of_length-le}
use lib.Seq.{drop-cons, get_or-append-add}
use Rattle.report.specs.Reports.{Share, Report, share_in, report_in, shares_from, numbers_of}

-- shares that agree have the same numbers
same_shares : (f g : ℕ → Share) (r n : ℕ) → ((q : ℕ) → q < r + n → f q ≡ g q) → shares_from f r n ≡ shares_from g r n
unfolding shares_from
same_shares f g r zero h = refl
same_shares f g r (suc n) h = rw (h r (omega arith), same_shares f g (suc r) n (λ q b. h q (omega arith)))

-- three numbers are the front of what is left
three : (l : List ℕ) (p : ℕ) → p + 2 < length l → drop p l ≡ get_or l p 0 ∷ get_or l (p + 1) 0 ∷ get_or l (p + 2) 0 ∷ drop (p + 3) l
three l p h =
    let one : suc p ≡ p + 1 = omega arith in
    let two : suc (p + 1) ≡ p + 2 = omega arith in
    let more : suc (p + 2) ≡ p + 3 = omega arith in
    drop-cons l p 0 (omega arith)
    ∙ rw one (ap (λ (x : List ℕ). get_or l p 0 ∷ x) (drop-cons l (p + 1) 0 (omega arith)
    ∙ rw two (ap (λ (x : List ℕ). get_or l (p + 1) 0 ∷ x) (drop-cons l (p + 2) 0 h ∙ rw more refl))))

shares_left : (l : List ℕ) (r n : ℕ) → length l ≡ 6 + 3 * (r + n) → shares_from (report_in l).rank r n ≡ drop (6 + 3 * r) l
unfolding shares_from
shares_left l r zero h = sym (drop_of_length-le l {i = 6 + 3 * r} (omega arith))
shares_left l r (suc n) h =
    let p : 6 + 3 * suc r ≡ 6 + 3 * r + 3 = omega arith in
    sym (three l (6 + 3 * r) (omega arith) ∙ rw (← p, ← shares_left l (suc r) n (omega arith)) refl)

-- a list of 201 numbers is that of its report
numbers_are : (l : List ℕ) → length l ≡ 201 → l ≡ numbers_of (report_in l)
numbers_are l h =
    three l 0 (omega arith) ∙ ap (λ (x : List ℕ). get_or l 0 0 ∷ get_or l 1 0 ∷ get_or l 2 0 ∷ x) (three l 3 (omega arith))
    ∙ ap (λ (x : List ℕ). get_or l 0 0 ∷ get_or l 1 0 ∷ get_or l 2 0 ∷ get_or l 3 0 ∷ get_or l 4 0 ∷ get_or l 5 0 ∷ x) (sym (shares_left l 0 65 (omega arith)))

-- two reports that agree, of ranks up to 64
pub record Agree (p q : Report) : Type 0 where
  pub accepted : p.accepted ≡ q.accepted
  pub refused : p.refused ≡ q.refused
  pub total : p.total ≡ q.total
  pub largest : p.largest ≡ q.largest
  pub rank : (r : ℕ) → r < 65 → p.rank r ≡ q.rank r

pub same_numbers_is : (p q : Report) → Agree p q → numbers_of p ≡ numbers_of q
same_numbers_is p q a =
    rw (a.accepted, a.refused, a.total, a.largest, same_shares p.rank q.rank 0 65 (λ r h. a.rank r (omega arith)))

pub numbers_of_is : (l : List ℕ) (p : Report) → length l ≡ 201 → Agree (report_in l) p → l ≡ numbers_of p
numbers_of_is l p h a = numbers_are l h ∙ same_numbers_is (report_in l) p a

-- ---- and read back

-- what stands past three numbers
past_three : (x y z : ℕ) (l : List ℕ) (p : ℕ) → share_in (x ∷ y ∷ z ∷ l) (3 + p) ≡ share_in l p
past_three x y z l p =
    let at : (i : ℕ) → get_or (x ∷ y ∷ z ∷ l) (3 + i) 0 ≡ get_or l i 0 = λ i. get_or-append-add (x ∷ y ∷ z ∷ []) l i 0 in
    rw (add_assoc 3 p 1, add_assoc 3 p 2, at p, at (p + 1), at (p + 2))

share_back : (f : ℕ → Share) (r n q : ℕ) → q < n → share_in (shares_from f r n) (3 * q) ≡ f (r + q)
unfolding shares_from
share_back f r zero q h = absurd (omega arith)
share_back f r (suc n) zero h = let e : r + 0 ≡ r = omega arith in rw e refl
share_back f r (suc n) (suc q) h =
    let e : r + suc q ≡ suc r + q = omega arith in
    let p : 3 * suc q ≡ 3 + 3 * q = omega (arith, mul-suc 3 q) in
    rw (e, p) (past_three _ _ _ (shares_from f (suc r) n) (3 * q) ∙ share_back f (suc r) n q (omega arith))

rank_back : (p : Report) (r : ℕ) → r < 65 → share_in (numbers_of p) (6 + 3 * r) ≡ p.rank r
rank_back p r h =
    let e : 6 + 3 * r ≡ 3 + (3 + 3 * r) = omega arith in
    let z : 0 + r ≡ r = omega arith in
    let t = p.total in
    let ranks = shares_from p.rank 0 65 in
    rw e (past_three p.accepted p.refused t.terms (t.high ∷ t.low ∷ p.largest ∷ ranks) (3 + 3 * r)
    ∙ past_three t.high t.low p.largest ranks (3 * r) ∙ share_back p.rank 0 65 r h ∙ ap p.rank z)

pub read_back : (p : Report) → Agree (report_in (numbers_of p)) p
read_back p = record { accepted = refl; refused = refl; total = refl; largest = refl; rank = rank_back p }
