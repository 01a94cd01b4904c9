-- A word's ladders written one by one, the lowest mode first: the text of what is done and of what is left is the text of the whole word.
use mathlib.Core.Path.{◌≡◌, refl, sym, ap, ◌∙◌}
use mathlib.Core.Bool.{false, cond}
use mathlib.Core.List.{List, [], ◌∷◌, ◌++◌, append_assoc, append-nil}
use mathlib.Core.Logic.{◌⊎◌, inl, inr}
use Prim.Native.Nat.{ℕ, zero, suc, ◌+◌, ◌-◌, ◌^◌, ◌≤◌, ◌<◌}
use native.Mathlib.Nat.{not-suc-le-zero}
use native.Mathlib.Omega.{arith}
use lib.Bits.{bit_and}
use lib.ListN.{length, set, length-append}
use Rattle.modes.specs.Words.{bit, lowest_mode}
use Rattle.modes.proofs.Digits.{lt_or_ge, bit_none}
use Rattle.modes.proofs.Lowest.{Less, lowest, lowest_less, lowest_small, less_lt}
use Rattle.modes.proofs.LowestMode.{lowest_one}
use Rattle.decimals.specs.Decimal.{field}
use Rattle.decimals.specs.Stores.{Stored}
use Rattle.decimals.proofs.Stores.{stored_none, stored_one, stored_join}
use Rattle.lines.specs.Grammar.{space}
use Rattle.term_lines.specs.Written.{modes_text}
use Rattle.term_lines.proofs.Lengths.{ladders_length}

-- no modes, no text
no_modes : (kind k r : ℕ) → ((i : ℕ) → i < k → bit r i ≡ false) → modes_text kind k r ≡ []
unfolding modes_text
no_modes kind zero r h = refl
no_modes kind (suc p) r h = rw (no_modes kind p r (λ i l. h i (omega arith)), h p (omega arith))

-- a word's lowest mode comes first, and then those of the word without it
first_mode : (kind k p r r' : ℕ) → Less p (bit r) (bit r') → ((i : ℕ) → i < p → bit r i ≡ false) → p < k
    → modes_text kind k r ≡ (space ∷ field p kind) ++ modes_text kind k r'
unfolding modes_text
first_mode kind zero p r r' h clean l = absurd (not-suc-le-zero l)
first_mode kind (suc j) p r r' h clean l = go (λ m. first_mode kind j p r r' h clean m) (lt_or_ge p j)
  where
    one : List ℕ
    one = space ∷ field p kind

    go : (p < j → modes_text kind j r ≡ one ++ modes_text kind j r') → (p < j) ⊎ (j ≤ p)
        → modes_text kind j r ++ cond (bit r j) (space ∷ field j kind) [] ≡ one ++ (modes_text kind j r' ++ cond (bit r' j) (space ∷ field j kind) [])
    go rec (inl m) = rw (rec m, h.rest j (λ e. omega arith)) (append_assoc one (modes_text kind j r') (cond (bit r' j) (space ∷ field j kind) []))
    go rec (inr m) =
        let e : j ≡ p = omega arith in
        rw (e, h.has, h.lost, no_modes kind p r clean, no_modes kind p r' (λ i q. sym (h.rest i (λ x. omega arith)) ∙ clean i q)) (sym (append-nil one))

-- of a word of 64 bits, as the code takes them
module _ (kind r : ℕ) (small : r < 2 ^ 64) (some : r ≡ 0 → ⊥) where
  abbrev pub first_text : List ℕ
  first_text = space ∷ field (lowest_mode 64 (bit r)) kind

  pub first_left : modes_text kind 64 r ≡ first_text ++ modes_text kind 64 (bit_and r (r - 1))
  first_left =
      let l = lowest r (omega arith) in
      let less = lowest_less r l in
      let below = lowest_small 64 r l small in
      rw (lowest_one 64 (bit r) l.at below less.has l.clean) (first_mode kind 64 l.at r (bit_and r (r - 1)) less l.clean below)

-- the ladders of `word` without those of `rest` stand in m from `at` to `end`
pub record Writing (kind word : ℕ) (l : List ℕ) (at : ℕ) (m : List ℕ) (end rest : ℕ) : Type 0 where
  pub small : rest < 2 ^ 64
  pub done : List ℕ
  pub stored : Stored l at done m end
  pub whole : done ++ modes_text kind 64 rest ≡ modes_text kind 64 word

module _ (kind word : ℕ) (l : List ℕ) (at : ℕ) where
  pub writing_starts : word < 2 ^ 64 → at ≤ length l → Writing kind word l at l at word
  writing_starts h fits = record { small = h; done = []; stored = stored_none l at fits; whole = refl }

  pub writing_ends : (m : List ℕ) (end rest : ℕ) → Writing kind word l at m end rest → rest ≡ 0 → Stored l at (modes_text kind 64 word) m end
  writing_ends m end rest w e =
      let last : modes_text kind 64 rest ≡ [] = no_modes kind 64 rest (λ i q. ap (λ (x : ℕ). bit x i) e ∙ bit_none i) in
      let all : w.done ≡ modes_text kind 64 word = sym (append-nil w.done) ∙ ap (λ (x : List ℕ). w.done ++ x) (sym last) ∙ w.whole in
      rw (← all) w.stored

  module _ (m : List ℕ) (end rest : ℕ) (w : Writing kind word l at m end rest) (some : rest ≡ 0 → ⊥) where
    whole_again : (w.done ++ first_text kind rest w.small some) ++ modes_text kind 64 (bit_and rest (rest - 1)) ≡ modes_text kind 64 word
    whole_again =
        append_assoc w.done (first_text kind rest w.small some) (modes_text kind 64 (bit_and rest (rest - 1)))
        ∙ ap (λ (x : List ℕ). w.done ++ x) (sym (first_left kind rest w.small some)) ∙ w.whole

    -- there is room for it
    pub writing_room : end + 1 + length (field (lowest_mode 64 (bit rest)) kind) ≤ at + 246
    writing_room =
        let parts = simp length-append at (ap length whole_again) in simp length-append (omega (arith, w.stored.ends, ladders_length kind word, parts))

    pub writing_goes : (k : List ℕ) (next : ℕ) → at ≤ length l → end < length m → Stored (set m end space) (end + 1) (field (lowest_mode 64 (bit rest)) kind) k next
        → Writing kind word l at k next (bit_and rest (rest - 1))
    writing_goes k next fits inside g =
        record {
          small = omega (arith, less_lt rest (omega arith), w.small);
          done = w.done ++ first_text kind rest w.small some;
          stored = stored_join w.done _ fits w.stored (stored_join (space ∷ []) _ (omega arith) (stored_one m end space inside) g);
          whole = whole_again;
        }
