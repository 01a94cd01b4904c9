-- What holds of every entry of a list: of two lists one after the other, of what a function makes of each, and of what follows from it; and what holds between entries.
use mathlib.Core.Path.{◌≡◌, refl, ap₂}
use mathlib.Core.List.{List, [], ◌∷◌, ◌++◌, map}
use Rattle.modes.specs.Every.{Every, none, more, Pairwise, nothing, beside}
use lib.IntN.{ℤ, ◌+ℤ◌}
use Rattle.modes.specs.Sums.{sum_by, sum_of, list_of}

pub every_implies : {A : Type 0} {P Q : A → Type 0} (l : List A) → ((x : A) → P x → Q x) → Every P l → Every Q l
every_implies [] f none = none
every_implies (x ∷ l) f (more h hs) = more (f x h) (every_implies l f hs)

pub every_both : {A : Type 0} {P Q : A → Type 0} (l : List A) → Every P l → Every Q l → Every (λ x. P x × Q x) l
every_both [] none none = none
every_both (x ∷ l) (more h hs) (more k ks) = more (h, k) (every_both l hs ks)

pub every_append : {A : Type 0} {P : A → Type 0} (l m : List A) → Every P l → Every P m → Every P (l ++ m)
every_append [] m none k = k
every_append (x ∷ l) m (more h hs) k = more h (every_append l m hs k)

pub every_last : {A : Type 0} {P : A → Type 0} (l : List A) (x : A) → Every P l → P x → Every P (l ++ (x ∷ []))
every_last l x h p = every_append l (x ∷ []) h (more p none)

pub every_map : {A B : Type 0} {P : A → Type 0} {Q : B → Type 0} (f : A → B) (l : List A) → ((x : A) → P x → Q (f x)) → Every P l → Every Q (map f l)
every_map f [] g none = none
every_map f (x ∷ l) g (more h hs) = more (g x h) (every_map f l g hs)

pub every_list : {A B : Type 0} {P : A → Type 0} {Q : B → Type 0} (f : A → List B) (l : List A) → ((x : A) → P x → Every Q (f x)) → Every P l
    → Every Q (list_of f l)
unfolding sum_by
every_list f [] g none = none
every_list f (x ∷ l) g (more h hs) = every_append (f x) (list_of f l) (g x h) (every_list f l g hs)

-- what is the same at every entry has the same sum
pub sum_same : {A : Type 0} (v w : A → ℤ) (l : List A) → Every (λ x. v x ≡ w x) l → sum_of v l ≡ sum_of w l
unfolding sum_of
sum_same v w [] none = refl
sum_same v w (x ∷ l) (more h hs) = ap₂ (λ (y z : ℤ). y +ℤ z) h (sum_same v w l hs)

-- entries of the two lists have R where those of the one have P and those of the other have Q
pub pairwise_append : {A : Type 0} (P Q : A → Type 0) (R : A → A → Type 0) → ((x y : A) → P x → Q y → R x y) → (l m : List A)
    → Pairwise R l → Pairwise R m → Every P l → Every Q m → Pairwise R (l ++ m)
pairwise_append P Q R f [] m nothing k none q = k
pairwise_append P Q R f (x ∷ l) m (beside h hs) k (more p ps) q =
    beside (every_append l m h (every_implies m (λ y. f x y p) q)) (pairwise_append P Q R f l m hs k ps q)

-- a function carries R to Q where it does so for entries that have P
pub pairwise_map : {A B : Type 0} (P : A → Type 0) (R : A → A → Type 0) (Q : B → B → Type 0) (f : A → B)
    → ((x y : A) → P x → P y → R x y → Q (f x) (f y)) → (l : List A)
    → Every P l → Pairwise R l → Pairwise Q (map f l)
pairwise_map P R Q f g [] none nothing = nothing
pairwise_map P R Q f g (x ∷ l) (more p ps) (beside h hs) =
    beside (every_map f l (λ y k. g x y p k.0 k.1) (every_both l ps h)) (pairwise_map P R Q f g l ps hs)
