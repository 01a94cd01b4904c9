-- A party's half of a shelf, which is lent to the call, and comes back in its place.
use mathlib.Core.Path.{◌≡◌, refl, sym, ap, ◌∙◌}
use mathlib.Core.List.{List, ◌++◌}
use Prim.Native.Nat.{ℕ, ◌+◌, ◌*◌, ◌-◌, ◌≤◌, ◌<◌}
use native.Mathlib.Omega.{arith}
use lib.ListN.{length, take, drop}
use lib.Seq.{drop-drop}
use borrow.Rule.Slice.PartMut.{mid_of}
use Rattle.std.specs.Prelude.{Result, Ok}
use Rattle.modes.specs.declared.Refusal.{Refusal}
use Rattle.modes.proofs.Refusals.{not_refused}
use Rattle.lent.specs.Bytes.{put}
use Rattle.slots.proofs.Lending.{lent_size}
use Rattle.shelf.specs.Requests.{Request, Get, Shelved, Outcome, on_half, Leaves}
use Rattle.shelf.specs.Steps.{By, half_of, shelf_refusal, step}
use Rattle.shelf.specs.Placing.{start_of}
use Rattle.shelf.proofs.Halves.{half_size, put_same, taken_shelf}
use Rattle.shelf.proofs.Answering.{step_taken}
use Rattle.shelf.proofs.OnHalf.{keeps}

-- a half that is found begins where it must, of one of the two parties and of a shelf of its length
pub record Reached (p size start : ℕ) : Type 0 where
  pub low : p < 2
  pub whole : size ≡ 65536
  pub is : start ≡ 32768 * p
  pub inside : start + 32768 ≤ size

pub reached : (p size start : ℕ) → Ok start ≡ start_of p size → Reached p size start
reached p size start e =
    let found = not_refused (32768 * p) (shelf_refusal p size) start e in
    let (low, whole) = taken_shelf p size found.0 in
    record { low = low; whole = whole; is = found.1; inside = omega (arith, found.1) }

-- of the shelf s
module _ (p : ℕ) (s : List ℕ) (start : ℕ) (e : Ok start ≡ start_of p (length s)) where
  at : Reached p (length s) start
  at = reached p (length s) start e

  pub reach_long : length (mid_of start (start + 32768 - start) s) ≡ 32768
  reach_long = lent_size start (start + 32768) 32768 s refl at.inside

  -- the bytes k are the party's half
  module _ (k : List ℕ) (half : k ≡ half_of p s) where
    -- what a half leaves, the shelf leaves
    shelf_leaves : (q : Request) (x : Result Shelved Refusal) (out h : List ℕ) → Leaves (on_half q k) x out h
        → Leaves (step (By p q) s) x out (put s (32768 * p) h)
    shelf_leaves q x out h g =
        let same = ap (on_half q) half in
        rw (step_taken p q s at.low at.whole) (record {
          answer = g.answer ∙ ap (λ (o : Outcome). o.answer) same;
          output = g.output ∙ ap (λ (o : Outcome). o.output) same;
          bytes = ap (put s (32768 * p)) (g.bytes ∙ ap (λ (o : Outcome). o.bytes) same);
        })

  -- a half that comes back between the bytes before it and those past it
  pub lent_leaves : (q : Request) (x : Result Shelved Refusal) (out before from k h : List ℕ)
      → before ≡ take start s → from ≡ drop start s → k ≡ take 32768 from
      → Leaves (on_half q k) x out h → Leaves (step (By p q) s) x out (before ++ (h ++ drop 32768 from))
  unfolding half_of put
  lent_leaves q x out before from k h eb ef ek g =
      let half : k ≡ half_of p s = ek ∙ ap (take 32768) (ef ∙ ap (λ (n : ℕ). drop n s) at.is) in
      let long : length h ≡ 32768 = ap length g.bytes ∙ keeps q k (ap length half ∙ half_size p s at.low at.whole) in
      let back : before ++ (h ++ drop 32768 from) ≡ put s (32768 * p) h = rw (eb, ef, at.is, long, drop-drop 32768 (32768 * p) s) in
      rw back (shelf_leaves k half q x out h g)

  -- a get leaves the shelf as it was
  pub got_leaves : (i room : ℕ) (x : Result Shelved Refusal) (out k : List ℕ) → k ≡ mid_of start (start + 32768 - start) s
      → Leaves (on_half (Get i room) k) x out k
      → Leaves (step (By p (Get i room)) s) x out s
  unfolding half_of
  got_leaves i room x out k ek g =
      let long : start + 32768 - start ≡ 32768 = omega arith in
      let half : k ≡ half_of p s = ek ∙ rw (long, at.is) in
      let left = shelf_leaves k half (Get i room) x out k g in
      let same : put s (32768 * p) k ≡ s = ap (put s (32768 * p)) half ∙ put_same p s at.low at.whole in
      record { answer = left.answer; output = left.output; bytes = sym same ∙ left.bytes }
