-- Theorems on a term that gives nothing: which mode blocked it.
use mathlib.Core.Path.{◌≡◌, refl, sym, ap, ◌∙◌}
use mathlib.Core.Bool.{Bool, true, false, not, cond, ◌&&◌, not-not, true≢false}
use mathlib.Core.Logic.{◌⊎◌, inl, inr}
use Prim.Native.Nat.{ℕ, ◌^◌, ◌≤◌, ◌<◌}
use native.Mathlib.Nat.{lt_of_lt_of_le}
use native.Mathlib.Omega.{arith}
use lib.Dec.{ltb}
use borrow.Author.Tests.{lt-ltb, le-ltb, ltb-true, ltb-false}
use Rattle.modes.specs.Words.{bit, lowest_mode}
use Rattle.modes.proofs.Bools.{and_l, and_r}
use Rattle.modes.proofs.Digits.{lt_or_ge, bit_below}
use Rattle.modes.proofs.LowestMode.{lowest_none, lowest_has, lowest_one}
use Rattle.products.specs.PhaseRule.{gone, went, term}
use Rattle.products.specs.Apply.{is_missing, is_occupied, blocked_by, applied, Ready, FirstMissing, FirstOccupied}
use Rattle.products.specs.declared.Blocked.TheVariants.{Missing, Occupied}
use Rattle.products.specs.declared.ApplyResult.TheVariants.{Zero}
use Rattle.products.proofs.ClosedForm.{acts, term_is}
use Rattle.products.proofs.Applying.{acts_ready, applied_where_ready}
use Rattle.products.proofs.Outcomes.{zero_where_gone, blocked_where_zero}

-- ---- one mode

implies_false : (c x : Bool) → (c ≡ true → x ≡ false) → c && x ≡ false
implies_false true x h = h refl
implies_false false x h = refl

turned : (b c : Bool) → not b ≡ c → b ≡ not c
turned b c e = sym (not-not b) ∙ ap not e

pub free_at : (cre ann ket p : ℕ) → is_occupied cre ann ket p ≡ false → bit cre p ≡ true → bit ket p && not (bit ann p) ≡ false
free_at cre ann ket p e h = sym (ap (λ (b : Bool). b && (bit ket p && not (bit ann p))) h) ∙ e

pub held_at : (ann ket p : ℕ) → is_missing ann ket p ≡ false → bit ann p ≡ true → bit ket p ≡ true
held_at ann ket p e h = turned (bit ket p) false (sym (ap (λ (b : Bool). b && not (bit ket p)) h) ∙ e)

module _ (cre ann ket : ℕ) (hc : cre < 2 ^ 64) (ha : ann < 2 ^ 64) where
  not_ready : (Ready cre ann ket → ⊥) → applied cre ann ket ≡ Zero (blocked_by cre ann ket)
  not_ready n = zero_where_gone cre ann ket (go (acts cre ann ket) refl)
    where
      go : (b : Bool) → acts cre ann ket ≡ b → term cre ann (went ket false) ≡ gone
      go true q = absurd (n (acts_ready cre ann ket hc ha q))
      go false q = term_is cre ann ket false hc ha ∙ rw q

  -- ---- a mode is missing

  abbrev missing : ℕ
  missing = lowest_mode 64 (is_missing ann ket)

  missing_is : (p : ℕ) → FirstMissing ann ket p → missing ≡ p
  missing_is p m =
      lowest_one 64 (is_missing ann ket) p (bit_below 64 ann p ha m.annihilated) (rw (m.annihilated, m.absent))
      (λ q l. implies_false (bit ann q) (not (bit ket q)) (λ h. ap not (m.lower q l h)))

  pub first_missing : (p : ℕ) → missing ≡ p → p < 64 → FirstMissing ann ket p
  first_missing p e l = record {
    annihilated = and_l (bit ann p) (not (bit ket p)) has;
    absent = turned (bit ket p) true (and_r (bit ann p) (not (bit ket p)) has);
    lower = λ q m. held_at ann ket q (lowest_none 64 (is_missing ann ket) q (rw e m));
  }
    where
      has : is_missing ann ket p ≡ true
      has = rw e at (lowest_has 64 (is_missing ann ket) (rw e l))

  pub zero_where_missing : (p : ℕ) → FirstMissing ann ket p → applied cre ann ket ≡ Zero (Missing p)
  unfolding blocked_by
  zero_where_missing p m =
      not_ready (λ r. true≢false (sym (r.held p m.annihilated) ∙ m.absent))
      ∙ ap Zero (rw (missing_is p m, lt-ltb p 64 (bit_below 64 ann p ha m.annihilated)))

  pub missing_where_zero : (p : ℕ) → applied cre ann ket ≡ Zero (Missing p) → FirstMissing ann ket p
  unfolding blocked_by
  missing_where_zero p e = go (ltb missing 64) refl (blocked_where_zero cre ann ket (Missing p) e)
    where
      go : (b : Bool) → ltb missing 64 ≡ b → Missing p ≡ cond b (Missing missing) (Occupied (lowest_mode 64 (is_occupied cre ann ket))) → FirstMissing ann ket p
      go true q h = let is : missing ≡ p = cc in first_missing p is (rw is at (ltb-true missing 64 q))
      go false q h = let z : ◌≡◌ {A = ℕ} 0 1 = cc in absurd (omega arith)

  -- ---- none is missing, and a mode is still occupied

  abbrev occupied : ℕ
  occupied = lowest_mode 64 (is_occupied cre ann ket)

  abbrev Held : Type 0
  Held = (q : ℕ) → bit ann q ≡ true → bit ket q ≡ true

  none_missing : Held → ltb missing 64 ≡ false
  none_missing h = le-ltb missing 64 (go (lt_or_ge missing 64))
    where
      go : (missing < 64) ⊎ (64 ≤ missing) → 64 ≤ missing
      go (inl l) = let m = first_missing missing refl l in absurd (true≢false (sym (h missing m.annihilated) ∙ m.absent))
      go (inr l) = l

  held_all : 64 ≤ missing → Held
  held_all l q h = held_at ann ket q (lowest_none 64 (is_missing ann ket) q (lt_of_lt_of_le (bit_below 64 ann q ha h) l)) h

  occupied_is : (p : ℕ) → FirstOccupied cre ann ket p → occupied ≡ p
  occupied_is p m =
      lowest_one 64 (is_occupied cre ann ket) p (bit_below 64 cre p hc m.created) (rw (m.created, m.present, m.kept))
      (λ q l. implies_false (bit cre q) (bit ket q && not (bit ann q)) (m.lower q l))

  pub first_occupied : Held → (p : ℕ) → occupied ≡ p → p < 64 → FirstOccupied cre ann ket p
  first_occupied held p e l = record {
    held = held;
    created = and_l (bit cre p) (bit ket p && not (bit ann p)) has;
    present = and_l (bit ket p) (not (bit ann p)) stays;
    kept = turned (bit ann p) true (and_r (bit ket p) (not (bit ann p)) stays);
    lower = λ q m. free_at cre ann ket q (lowest_none 64 (is_occupied cre ann ket) q (rw e m));
  }
    where
      has : is_occupied cre ann ket p ≡ true
      has = rw e at (lowest_has 64 (is_occupied cre ann ket) (rw e l))

      stays : bit ket p && not (bit ann p) ≡ true
      stays = and_r (bit cre p) (bit ket p && not (bit ann p)) has

  pub zero_where_occupied : (p : ℕ) → FirstOccupied cre ann ket p → applied cre ann ket ≡ Zero (Occupied p)
  unfolding blocked_by
  zero_where_occupied p m =
      not_ready (λ r. true≢false (rw (m.present, m.kept) at (r.free p m.created)))
      ∙ ap Zero (rw (none_missing m.held, occupied_is p m))

  pub occupied_where_zero : (p : ℕ) → applied cre ann ket ≡ Zero (Occupied p) → FirstOccupied cre ann ket p
  unfolding blocked_by
  occupied_where_zero p e = go (ltb missing 64) refl (blocked_where_zero cre ann ket (Occupied p) e)
    where
      -- were none occupied either, the term would act
      below : Held → (occupied < 64) ⊎ (64 ≤ occupied) → occupied < 64
      below held (inl l) = l
      below held (inr l) =
          let acts = applied_where_ready cre ann ket hc ha (record {
            held = held;
            free = λ q h. free_at cre ann ket q (lowest_none 64 (is_occupied cre ann ket) q (lt_of_lt_of_le (bit_below 64 cre q hc h) l)) h;
          }) in
          let z : ◌≡◌ {A = ℕ} 0 1 = cc in absurd (omega arith)

      go : (b : Bool) → ltb missing 64 ≡ b → Occupied p ≡ cond b (Missing missing) (Occupied occupied) → FirstOccupied cre ann ket p
      go true q h = let z : ◌≡◌ {A = ℕ} 0 1 = cc in absurd (omega arith)
      go false q h =
          let held = held_all (ltb-false missing 64 q) in
          let is : occupied ≡ p = cc in
          first_occupied held p is (rw is at (below held (lt_or_ge occupied 64)))
