-- Sums: of a few numbers, over two lists one after the other, over what a function makes of each entry, of two summands, and over two lists in either order.
use mathlib.Core.Path.{◌≡◌, refl, sym, ap, ◌∙◌, fun_ext}
use mathlib.Core.List.{List, [], ◌∷◌, ◌++◌, map}
use Prim.Native.Nat.{◌+◌}
use native.Mathlib.Nat.{add_assoc, add_comm, zero-add}
use lib.IntN.{ℤ, pos, neg_ℤ, ◌+ℤ◌, +ℤ_assoc, +ℤ_comm, +ℤ_idl, +ℤ_idr, +ℤ_invl}
use lib.ListN.{length, length-append}
use Rattle.modes.specs.Sums.{sum_by, sum_of}

-- ---- of two or three numbers

pub exchange : (x y z : ℤ) → x +ℤ (y +ℤ z) ≡ y +ℤ (x +ℤ z)
exchange x y z = sym (+ℤ_assoc x y z) ∙ ap (λ (w : ℤ). w +ℤ z) (+ℤ_comm x y) ∙ +ℤ_assoc y x z

pub cancel : (x y z : ℤ) → x +ℤ y ≡ x +ℤ z → y ≡ z
cancel x y z e =
    sym (undo y) ∙ ap (λ (w : ℤ). neg_ℤ x +ℤ w) e ∙ undo z
  where
    undo : (w : ℤ) → neg_ℤ x +ℤ (x +ℤ w) ≡ w
    undo w = sym (+ℤ_assoc (neg_ℤ x) x w) ∙ ap (λ (v : ℤ). v +ℤ w) (+ℤ_invl x) ∙ +ℤ_idl w

-- ---- by any operation

-- h takes sums by one operation to sums by another
pub record Respects {B C : Type 0} (op : B → B → B) (e : B) (to : C → C → C) (o : C) (h : B → C) : Type 0 where
  pub none : h e ≡ o
  pub add : (x y : B) → h (op x y) ≡ to (h x) (h y)

pub sum_through : {A B C : Type 0} {op : B → B → B} {e : B} {to : C → C → C} {o : C} {h : B → C} → Respects op e to o h → (f : A → B) (l : List A)
    → h (sum_by op e f l) ≡ sum_by to o (λ x. h (f x)) l
unfolding sum_by
sum_through r f [] = r.none
sum_through {op = op} {e = e} {to = to} {h = h} r f (x ∷ l) = r.add (f x) (sum_by op e f l) ∙ ap (to (h (f x))) (sum_through r f l)

-- of a list that starts with x, and of one that is empty
pub by_front : {A B : Type 0} (op : B → B → B) (e : B) (f : A → B) {l m : List A} {x : A} → l ≡ x ∷ m → sum_by op e f l ≡ op (f x) (sum_by op e f m)
unfolding sum_by
by_front op e f q = ap (sum_by op e f) q

pub by_nothing : {A B : Type 0} (op : B → B → B) (e : B) (f : A → B) {l : List A} → l ≡ [] → sum_by op e f l ≡ e
unfolding sum_by
by_nothing op e f q = ap (sum_by op e f) q

-- an operation whose operands may be taken in any order
pub record Adding {B : Type 0} (op : B → B → B) (e : B) : Type 0 where
  pub assoc : (x y z : B) → op (op x y) z ≡ op x (op y z)
  pub comm : (x y : B) → op x y ≡ op y x
  pub unit : (x : B) → op e x ≡ x

pub whole_numbers : Adding ◌+ℤ◌ (pos 0)
whole_numbers = record { assoc = +ℤ_assoc; comm = +ℤ_comm; unit = +ℤ_idl }

pub natural_numbers : Adding ◌+◌ 0
natural_numbers = record { assoc = add_assoc; comm = add_comm; unit = zero-add }

module _ {B : Type 0} {op : B → B → B} {e : B} (s : Adding op e) where
  pub by_append : {A : Type 0} (f : A → B) (l m : List A) → sum_by op e f (l ++ m) ≡ op (sum_by op e f l) (sum_by op e f m)
  unfolding sum_by
  by_append f [] m = sym (s.unit (sum_by op e f m))
  by_append f (x ∷ l) m = ap (op (f x)) (by_append f l m) ∙ sym (s.assoc (f x) (sum_by op e f l) (sum_by op e f m))

  by_none : {A : Type 0} (l : List A) → sum_by op e (λ (x : A). e) l ≡ e
  unfolding sum_by
  by_none [] = refl
  by_none (x ∷ l) = s.unit _ ∙ by_none l

  by_add : {A : Type 0} (f g : A → B) (l : List A) → sum_by op e (λ x. op (f x) (g x)) l ≡ op (sum_by op e f l) (sum_by op e g l)
  unfolding sum_by
  by_add f g [] = sym (s.unit e)
  by_add f g (x ∷ l) = ap (op (op (f x) (g x))) (by_add f g l) ∙ regroup (f x) (g x) (sum_by op e f l) (sum_by op e g l)
    where
      regroup : (w x y z : B) → op (op w x) (op y z) ≡ op (op w y) (op x z)
      regroup w x y z = s.assoc w x (op y z) ∙ ap (op w) (sym (s.assoc x y z) ∙ ap (λ (v : B). op v z) (s.comm x y) ∙ s.assoc y x z) ∙ sym (s.assoc w y (op x z))

  -- THE EXCHANGE of two sums
  pub by_exchange : {A C : Type 0} (f : A → C → B) (l : List A) (m : List C)
      → sum_by op e (λ x. sum_by op e (f x) m) l ≡ sum_by op e (λ y. sum_by op e (λ x. f x y) l) m
  unfolding sum_by
  by_exchange f [] m = sym (by_none m)
  by_exchange f (x ∷ l) m = ap (op (sum_by op e (f x) m)) (by_exchange f l m) ∙ sym (by_add (f x) (λ y. sum_by op e (λ z. f z y) l) m)

  -- each entry of l with each of m, and the other way round through h
  pub by_both_orders : {A : Type 0} {h : B → B} → Respects op e op e h → (f : A → A → B) (l m : List A)
      → sum_by op e (λ x. sum_by op e (λ y. op (f x y) (h (f y x))) m) l
      ≡ op (sum_by op e (λ x. sum_by op e (f x) m) l) (h (sum_by op e (λ y. sum_by op e (f y) l) m))
  by_both_orders {A} {h} r f l m =
      ap (λ (g : A → B). sum_by op e g l) (fun_ext (λ x. by_add (f x) (λ y. h (f y x)) m))
      ∙ by_add (λ x. sum_by op e (f x) m) (λ x. sum_by op e (λ y. h (f y x)) m) l
      ∙ ap (op (sum_by op e (λ x. sum_by op e (f x) m) l))
      (by_exchange (λ x y. h (f y x)) l m ∙ sym (sum_through r (λ y. sum_by op e (f y) l) m ∙ ap (λ (g : A → B). sum_by op e g m) (fun_ext (λ y. sum_through r (f y) l))))

-- ---- of whole numbers

pub sum_cons : {A : Type 0} (w : A → ℤ) (x : A) (l : List A) → sum_of w (x ∷ l) ≡ w x +ℤ sum_of w l
unfolding sum_of
sum_cons w x l = refl

pub sum_append : {A : Type 0} (w : A → ℤ) (l m : List A) → sum_of w (l ++ m) ≡ sum_of w l +ℤ sum_of w m
unfolding sum_of
sum_append = by_append whole_numbers

-- one more at the end
pub sum_last : {A : Type 0} (w : A → ℤ) (l : List A) (x : A) → sum_of w (l ++ (x ∷ [])) ≡ sum_of w l +ℤ w x
unfolding sum_of
sum_last w l x = sum_append w l (x ∷ []) ∙ ap (λ (z : ℤ). sum_of w l +ℤ z) (+ℤ_idr (w x))

pub sum_map : {A B : Type 0} (w : B → ℤ) (f : A → B) (l : List A) → sum_of w (map f l) ≡ sum_of (λ x. w (f x)) l
unfolding sum_of
sum_map w f [] = refl
sum_map w f (x ∷ l) = ap (λ (z : ℤ). w (f x) +ℤ z) (sum_map w f l)

pub sum_exchange : {A B : Type 0} (f : A → B → ℤ) (l : List A) (m : List B) → sum_of (λ x. sum_of (f x) m) l ≡ sum_of (λ y. sum_of (λ x. f x y) l) m
unfolding sum_of
sum_exchange = by_exchange whole_numbers

-- ---- of lists

pub sum_respects : {A : Type 0} (w : A → ℤ) → Respects ◌++◌ [] ◌+ℤ◌ (pos 0) (sum_of w)
unfolding sum_of
sum_respects w = record { none = refl; add = sum_append w }

pub length_respects : {A : Type 0} → Respects ◌++◌ [] ◌+◌ 0 (λ (l : List A). length l)
length_respects = record { none = refl; add = length-append }
