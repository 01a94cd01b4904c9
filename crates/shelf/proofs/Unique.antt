-- No two answers, outputs or shelves after a call meet a promise of this crate.
use mathlib.Core.Path.{◌≡◌, refl, ap}
use mathlib.Core.List.{List}
use Prim.Native.Nat.{ℕ}
use Rattle.std.specs.Prelude.{Result, Ok, Err}
use Rattle.modes.specs.declared.Refusal.{Refusal}
use Rattle.modes.specs.Answers.{Verdict}
use Rattle.modes.proofs.Unique.{one}
use Rattle.shelf.specs.Requests.{Shelved, Slot, Length, Done, Outcome, tells, Leaves}

pub leaves_one : {o : Outcome} {r r' : Result Shelved Refusal} {out out' after after' : List ℕ} → Leaves o r out after → Leaves o r' out' after'
    → (r ≡ r') × (out ≡ out') × (after ≡ after')
leaves_one p q = (one p.answer q.answer, one p.output q.output, one p.bytes q.bytes)

-- what an answer tells is told of no other, where what its value tells is told of no other
tells_one : {A : Type 0} (told : A → Shelved) → ((x y : A) → told x ≡ told y → x ≡ y) → (r s : Result A Refusal) → tells told r ≡ tells told s → r ≡ s
tells_one told same (Ok x) (Ok y) e = let told_same : told x ≡ told y = cc in ap Ok (same x y told_same)
tells_one told same (Ok x) (Err q) e = cc
tells_one told same (Err p) (Ok y) e = cc
tells_one told same (Err p) (Err q) e = cc

pub slot_one : (i j : ℕ) → Slot i ≡ Slot j → i ≡ j
slot_one i j e = cc

length_one : (m n : ℕ) → Length m ≡ Length n → m ≡ n
length_one m n e = cc

-- the answers of a put, of a get and of a drop
module _ {o : Outcome} {x y k l : List ℕ} where
  pub put_one : {r s : Result ℕ Refusal} → Leaves o (tells Slot r) x k → Leaves o (tells Slot s) y l → (r ≡ s) × (x ≡ y) × (k ≡ l)
  put_one {r} {s} p q = let same = leaves_one p q in (tells_one Slot slot_one r s same.0, same.1, same.2)

  pub get_one : {r s : Result ℕ Refusal} → Leaves o (tells Length r) x k → Leaves o (tells Length s) y l → (r ≡ s) × (x ≡ y) × (k ≡ l)
  get_one {r} {s} p q = let same = leaves_one p q in (tells_one Length length_one r s same.0, same.1, same.2)

  pub drop_one : {r s : Verdict} → Leaves o (tells (λ _. Done) r) x k → Leaves o (tells (λ _. Done) s) y l → (r ≡ s) × (x ≡ y) × (k ≡ l)
  drop_one {r} {s} p q = let same = leaves_one p q in (tells_one (λ _. Done) (λ _ _ _. refl) r s same.0, same.1, same.2)
