-- Plus zero and a binary64 sum to that number, exactly; a zero comes out as plus zero.
use mathlib.Core.Path.{◌≡◌, refl, sym, ap, ◌∙◌, subst}
use mathlib.Core.Bool.{Bool, true, false, ◌&&◌}
use Prim.Native.Nat.{ℕ, zero, suc, ◌+◌, ◌-◌, ◌*◌, ◌^◌, ◌%◌, ◌≤◌, ◌<◌}
use native.Mathlib.Nat.{lt_irrefl, zero-mul, mul-one, one-mul, mul_assoc, mul_left_comm, mul-pos, pow-suc, pow-succ'}
use native.Mathlib.Nat.{zero-lt-suc, zero-add, eq_of_mul-eq-mul_right, sub-zero, lt_of_not-le, le_of_suc-le-suc, not-le_of_lt, lt_of_lt_of_le, add_comm}
use native.Mathlib.Omega.{arith}
use borrow.Author.Tests.{lt-ltb}
use lib.IntN.{ℤ, pos, negsuc}
use lib.Dec.{T, ltb, leb, eqb, eqb→eq, ltb→lt, leb→le}
use lib.Pow.{pow-add, pow_pos, pow-lt, pow_mono, shl_lt}
use lib.Ieee.{Float, nan, inf, fin, Format, binary64, prec, emax, low, up, down, round, sum, add, fits}
use lib.Ieee.Exact.{HasValue, round_exact}
use lib.Ieee.Fits.{and_l, and_r, up_pos, down_pos, round-fits, reach}
use Rattle.float_elem.specs.Sums.{plus_zero}
use Rattle.float_elem.specs.Single.{exactly}
use Rattle.float_elem.proofs.Finite.{zero_round}

-- ---- values written in the one way are equal where they have one value
even_odd : (m t : ℕ) → m % 2 ≡ 1 → m ≡ 2 * t → ⊥
even_odd m t o h = omega arith

odd_pow : (m n a b : ℕ) → m % 2 ≡ 1 → n % 2 ≡ 1 → m * 2 ^ a ≡ n * 2 ^ b → (m ≡ n) × (a ≡ b)
odd_pow m n zero zero o p h = (sym (mul-one m) ∙ h ∙ mul-one n, refl)
odd_pow m n zero (suc b) o p h = absurd (even_odd m (n * 2 ^ b) o (sym (mul-one m) ∙ h ∙ ap (λ (x : ℕ). n * x) (pow-succ' 2 b) ∙ mul_left_comm n 2 (2 ^ b)))
odd_pow m n (suc a) zero o p h = absurd (even_odd n (m * 2 ^ a) p (sym (mul-one n) ∙ sym h ∙ ap (λ (x : ℕ). m * x) (pow-succ' 2 a) ∙ mul_left_comm m 2 (2 ^ a)))
odd_pow m n (suc a) (suc b) o p h =
    let r = odd_pow m n a b o p (eq_of_mul-eq-mul_right 2 (zero-lt-suc 1) (m * 2 ^ a) (n * 2 ^ b)
    (mul_assoc m (2 ^ a) 2 ∙ ap (λ (x : ℕ). m * x) (sym (pow-suc 2 a)) ∙ h ∙ ap (λ (x : ℕ). n * x) (pow-suc 2 b) ∙ sym (mul_assoc n (2 ^ b) 2))) in
    (r.0, ap suc r.1)

cross_odd : (m n : ℕ) (e g : ℤ) → m % 2 ≡ 1 → n % 2 ≡ 1 → m * up e * down g ≡ n * up g * down e → (m ≡ n) × (e ≡ g)
cross_odd m n (pos a) (pos b) o p h =
    let r = odd_pow m n a b o p (sym (mul-one (m * 2 ^ a)) ∙ h ∙ mul-one (n * 2 ^ b)) in (r.0, ap pos r.1)
cross_odd m n (pos a) (negsuc b) o p h =
    let r = odd_pow m n (a + suc b) 0 o p (ap (λ (x : ℕ). m * x) (pow-add 2 a (suc b)) ∙ sym (mul_assoc m (2 ^ a) (2 ^ suc b)) ∙ h ∙ mul-one (n * 1)) in
    let w = r.1 in absurd (omega arith)
cross_odd m n (negsuc a) (pos b) o p h =
    let r = odd_pow n m (b + suc a) 0 p o (ap (λ (x : ℕ). n * x) (pow-add 2 b (suc a)) ∙ sym (mul_assoc n (2 ^ b) (2 ^ suc a)) ∙ sym h ∙ mul-one (m * 1)) in
    let w = r.1 in absurd (omega arith)
cross_odd m n (negsuc a) (negsuc b) o p h =
    let r = odd_pow m n (suc b) (suc a) o p (ap (λ (x : ℕ). x * 2 ^ suc b) (sym (mul-one m)) ∙ h ∙ ap (λ (x : ℕ). x * 2 ^ suc a) (mul-one n)) in
    let w = r.1 in (r.0, ap negsuc (omega arith))

is_odd : (f : Format) (s : Bool) (m : ℕ) (e : ℤ) → T (fits f (fin s (suc m) e)) → suc m % 2 ≡ 1
unfolding fits
is_odd f s m e t =
    eqb→eq (suc m % 2) 1 (and_l (eqb (suc m % 2) 1) (ltb (suc m) (2 ^ prec f)) (and_l (eqb (suc m % 2) 1 && ltb (suc m) (2 ^ prec f)) (leb (down e) (2 ^ low f))
    (and_l (eqb (suc m % 2) 1 && ltb (suc m) (2 ^ prec f) && leb (down e) (2 ^ low f)) (ltb (suc m * up e) (2 ^ suc (emax f) * down e)) t)))

-- x has the value of fin s (suc m) e, in its own fraction
own : (f : Format) (x : Float) (s : Bool) (m : ℕ) (e : ℤ) → T (fits f x) → T (fits f (fin s (suc m) e)) → HasValue x s (suc m * up e) (down e) → x ≡ fin s (suc m) e
own f nan s m e p q v = absurd v
own f (inf t) s m e p q v = absurd v
own f (fin t zero g) s m e p q v =
    absurd (lt_irrefl 0 (subst (λ (x : ℕ). 0 < x) (sym v.1 ∙ ap (λ (x : ℕ). x * down e) (zero-mul (up g)) ∙ zero-mul (down e))
    (mul-pos (mul-pos (zero-lt-suc m) (up_pos e)) (down_pos g))))
own f (fin t (suc n) g) s m e p q v =
    let r = cross_odd (suc n) (suc m) g e (is_odd f t n g p) (is_odd f s m e q) v.1 in
    λ i. fin (v.0 i) (r.0 i) (r.1 i)

-- ---- a value that fits rounds to itself
low_of : (k l : ℕ) → 2 ^ suc k ≤ 2 ^ l → suc k ≤ l
low_of k l h = le_of_suc-le-suc (lt_of_not-le (λ (g : suc l ≤ suc k). not-le_of_lt (pow-lt g) h))

small : (f : Format) (s : Bool) (m : ℕ) (e : ℤ) → T (fits f (fin s (suc m) e))
    → (suc m < 2 ^ prec f) × (down e ≤ 2 ^ low f) × (suc m * up e < 2 ^ suc (emax f) * down e)
unfolding fits
small f s m e t =
    let a = and_l (eqb (suc m % 2) 1 && ltb (suc m) (2 ^ prec f) && leb (down e) (2 ^ low f)) (ltb (suc m * up e) (2 ^ suc (emax f) * down e)) t in
    let b = and_l (eqb (suc m % 2) 1 && ltb (suc m) (2 ^ prec f)) (leb (down e) (2 ^ low f)) a in (
      ltb→lt (suc m) (2 ^ prec f) (and_r (eqb (suc m % 2) 1) (ltb (suc m) (2 ^ prec f)) b),
      leb→le (down e) (2 ^ low f) (and_r (eqb (suc m % 2) 1 && ltb (suc m) (2 ^ prec f)) (leb (down e) (2 ^ low f)) a),
      ltb→lt (suc m * up e) (2 ^ suc (emax f) * down e)
          (and_r (eqb (suc m % 2) 1 && ltb (suc m) (2 ^ prec f) && leb (down e) (2 ^ low f)) (ltb (suc m * up e) (2 ^ suc (emax f) * down e)) t),
    )

room : (l k p x : ℕ) → suc k ≤ l → p ≤ x → p + (l - suc k) ≤ l + x
room l k p x h g = omega arith

back : (l k : ℕ) → suc k ≤ l → l - suc k + suc k ≡ l
back l k h = omega arith

round_own : (f : Format) (s : Bool) (m : ℕ) (e : ℤ) → T (fits f (fin s (suc m) e)) → round f s (suc m * up e) (down e) ≡ fin s (suc m) e
round_own f s m (pos k) t =
    let b = small f s m (pos k) t in
    let x : suc m * 2 ^ k * 2 ^ low f ≡ suc m * 2 ^ (k + low f) = mul_assoc (suc m) (2 ^ k) (2 ^ low f) ∙ ap (λ (z : ℕ). suc m * z) (sym (pow-add 2 k (low f))) in
    let y : suc m * 2 ^ k < 2 ^ suc (emax f) = subst (λ (z : ℕ). suc m * 2 ^ k < z) (mul-one (2 ^ suc (emax f))) b.2 in
    let w : suc m * 2 ^ (k + low f) < 2 ^ (low f + suc (emax f)) =
    subst (λ (z : ℕ). z < 2 ^ (low f + suc (emax f))) x
    (subst (λ (z : ℕ). suc m * 2 ^ k * 2 ^ low f < 2 ^ z) (add_comm (suc (emax f)) (low f)) (shl_lt (suc (emax f)) (low f) y)) in
    own f (round f s (suc m * 2 ^ k) 1) s m (pos k) (round-fits f s (suc m * 2 ^ k) 1) t
    (round_exact f s (suc m * 2 ^ k) 1 (suc m) (k + low f) (zero-lt-suc 0) b.0 w (x ∙ sym (mul-one (suc m * 2 ^ (k + low f)))))
round_own f s m (negsuc k) t =
    let b = small f s m (negsuc k) t in
    let g : suc k ≤ low f = low_of k (low f) b.1 in
    let w : suc m * 2 ^ (low f - suc k) < 2 ^ (low f + suc (emax f)) =
    lt_of_lt_of_le (shl_lt (prec f) (low f - suc k) b.0) (pow_mono (room (low f) k (prec f) (suc (emax f)) g (reach f))) in
    let x : suc m * 1 * 2 ^ low f ≡ suc m * 2 ^ (low f - suc k) * 2 ^ suc k =
    ap (λ (z : ℕ). z * 2 ^ low f) (mul-one (suc m)) ∙ ap (λ (z : ℕ). suc m * 2 ^ z) (sym (back (low f) k g)) ∙ ap (λ (z : ℕ). suc m * z)
    (pow-add 2 (low f - suc k) (suc k)) ∙ sym (mul_assoc (suc m) (2 ^ (low f - suc k)) (2 ^ suc k)) in
    own f (round f s (suc m * 1) (2 ^ suc k)) s m (negsuc k) (round-fits f s (suc m * 1) (2 ^ suc k)) t
    (round_exact f s (suc m * 1) (2 ^ suc k) (suc m) (low f - suc k) (pow_pos (suc k)) b.0 w x)

-- ---- plus zero and a number

pub one_term : (x : Float) → T (fits binary64 x) → add binary64 plus_zero x ≡ exactly x
unfolding add sum
one_term nan t = refl
one_term (inf s) t = refl
one_term (fin false zero e) t = rw (zero-mul (down e), zero-mul (up e)) (zero_round false (1 * down e) (mul-pos (zero-lt-suc 0) (down_pos e)))
one_term (fin true zero e) t = rw (zero-mul (down e), zero-mul (up e)) (zero_round false (1 * down e) (mul-pos (zero-lt-suc 0) (down_pos e)))
one_term (fin false (suc m) e) t = rw (zero-mul (down e), zero-add, mul-one (suc m * up e), one-mul (down e)) (round_own binary64 false m e t)
one_term (fin true (suc m) e) t =
    rw (zero-mul (down e), mul-one (suc m * up e), one-mul (down e), lt-ltb 0 (suc m * up e) (mul-pos (zero-lt-suc m) (up_pos e)), sub-zero) (round_own binary64 true m e t)
