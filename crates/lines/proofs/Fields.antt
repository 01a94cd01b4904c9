-- What is read of the fields of a line, one after the other.
use Rattle.std.specs.Prelude.{Some, None}
use Rattle.std.proofs.lemmas.Option.{cond_some}
use Rattle.decimals.proofs.Numbers.{cond_none}
use mathlib.Core.Path.{◌≡◌, refl, sym, ap, ◌∙◌}
use mathlib.Core.Bool.{Bool, true, false, ◌&&◌, and-true, and_assoc}
use mathlib.Core.List.{List, [], ◌∷◌, map}
use Prim.Native.Nat.{ℕ, ◌+◌, ◌-◌, ◌≤◌, ◌<◌}
use native.Mathlib.Omega.{arith}
use lib.Dec.{eqb, ltb}
use lib.IntN.{pos}
use lib.ListN.{length, take, drop, length-drop, length-map}
use lib.Seq.{take_all}
use borrow.Author.Tests.{eqb-true, lt-ltb, le-ltb}
use Rattle.modes.proofs.Digits.{lt_or_ge}
use mathlib.Core.Logic.{⊎_elim}
use Rattle.products.proofs.Signs.{abs_signed}
use Rattle.decimals.specs.Decimal.{read_on}
use Rattle.decimals.specs.Numbers.{starts_well, is_number}
use Rattle.decimals.specs.Ceiling.{up_to}
use Rattle.lines.specs.Grammar.{space, pieces, is_ladder, ladder_of, all_ladders, is_minus, magnitude_of, coefficient_of}
use Rattle.lines.specs.Grammar.{is_line_of, line_from, is_line}
use Rattle.lines.specs.Refusals.{all_below}
use Rattle.lines.specs.Reading.{ladder_made, ladder_read, coefficient_made, coefficient_read, ladders_made, ladders_read, line_made, line_read}
use Rattle.lines.specs.declared.ReadLadder.{ReadLadder}
use Rattle.lines.specs.declared.ReadLadders.{ReadLadders}
use Rattle.lines.specs.declared.ReadCoefficient.{ReadCoefficient}
use Rattle.lines.specs.declared.ReadLine.{ReadLine}

-- ---- a ladder

pub no_bytes : (l : List ℕ) → length l < 1 → false ≡ is_ladder l
unfolding is_ladder starts_well
no_bytes [] h = refl
no_bytes (x ∷ l) h = absurd (omega arith)

pub nothing_made : (l : List ℕ) → length l < 1 → ◌≡◌ {A = ReadLadder} (record { annihilates = false; mode = 0 }) (ladder_made l)
unfolding ladder_of read_on
nothing_made [] h = refl
nothing_made (x ∷ l) h = absurd (omega arith)

-- ---- a coefficient

pub minus_first : (l : List ℕ) → is_minus l ≡ true → 1 ≤ length l
minus_first [] e = absurd (go e)
  where
    go : eqb 0 45 ≡ true → ⊥
    go h = absurd (omega (arith, eqb-true 0 45 h))
minus_first (x ∷ l) e = omega arith

pub after_minus : (l : List ℕ) → is_minus l ≡ true → take (length l - 1) (drop 1 l) ≡ magnitude_of l
unfolding magnitude_of
after_minus l h = rw h (take_all (length l - 1) (drop 1 l) (omega (arith, length-drop 1 l)))

-- ---- the ladders of a line

-- a mode is below m exactly if it is as far as the ceiling
mode_below : (v m : ℕ) → m ≤ 64 → ltb (up_to v) m ≡ ltb v m
mode_below v m h =
    ⊎_elim (λ low. rw (lt-ltb v m low) (lt-ltb (up_to v) m (omega arith))) (λ high. rw (le-ltb v m high) (le-ltb (up_to v) m (omega arith))) (lt_or_ge v m)

-- of the fields `all`, those in `left` are to come after x
pub record Walking (m : ℕ) (all left : List (List ℕ)) (x : ReadLadders) : Type 0 where
  pub inside : all_below m (map ladder_of all) ≡ x.inside && all_below m (map ladder_of left)
  pub count : length all ≡ x.count + length left

module _ (m : ℕ) (few : m ≤ 64) (all left : List (List ℕ)) (x : ReadLadders) (w : Walking m all left x) where
  -- a field more
  pub walks_on : (field : List ℕ) (later : List (List ℕ)) → left ≡ field ∷ later → (y : ReadLadder) → y ≡ ladder_made field → (z : ReadLadders)
      → z.inside ≡ x.inside && ltb y.mode m → z.count ≡ x.count + 1 → Walking m all later z
  unfolding all_below
  walks_on field later e y ey z ei ec =
      let below : ltb (ladder_of field).mode m ≡ ltb y.mode m =
      sym (ap (λ (r : ReadLadder). ltb r.mode m) ey ∙ mode_below (ladder_of field).mode m few) in
      record {
        inside =
            w.inside ∙ ap (λ (ls : List (List ℕ)). x.inside && all_below m (map ladder_of ls)) e
            ∙ ap (λ (b : Bool). x.inside && (b && all_below m (map ladder_of later))) below
            ∙ sym (and_assoc x.inside (ltb y.mode m) (all_below m (map ladder_of later))) ∙ ap (λ (b : Bool). b && all_below m (map ladder_of later)) (sym ei);
        count = omega (arith, w.count, ec, ap (λ (ls : List (List ℕ)). length ls) e);
      }

  pub walk_ends : left ≡ [] → x ≡ ladders_made m all
  unfolding all_below
  walk_ends e =
      let inside : x.inside ≡ all_below m (map ladder_of all) =
      sym (w.inside ∙ ap (λ (ls : List (List ℕ)). x.inside && all_below m (map ladder_of ls)) e ∙ and-true x.inside) in
      let count : x.count ≡ length all = omega (arith, w.count, ap (λ (ls : List (List ℕ)). length ls) e) in
      λ i. record { inside = inside i; count = count i }

-- and those before `left` are ladders
pub record Going (m : ℕ) (all left : List (List ℕ)) (x : ReadLadders) : Type 0 where
  pub good : all_ladders all ≡ all_ladders left
  pub walk : Walking m all left x

module _ (m : ℕ) (few : m ≤ 64) (all left : List (List ℕ)) (x : ReadLadders) (g : Going m all left x) where
  module _ (field : List ℕ) (later : List (List ℕ)) (e : left ≡ field ∷ later) where
    next_good : all_ladders all ≡ is_ladder field && all_ladders later
    unfolding all_ladders
    next_good = g.good ∙ ap all_ladders e

    -- a ladder more
    pub going_on : (y : ReadLadder) → Some y ≡ ladder_read field → (z : ReadLadders)
        → z.inside ≡ x.inside && ltb y.mode m → z.count ≡ x.count + 1 → Going m all later z
    going_on y ey z ei ec =
        let read = cond_some (is_ladder field) _ _ (sym ey) in
        record {
          good = next_good ∙ ap (λ (b : Bool). b && all_ladders later) read.0;
          walk = walks_on m few all left x g.walk field later e y (sym read.1) z ei ec;
        }

    -- a field that is no ladder
    pub going_breaks : None ≡ ladder_read field → None ≡ ladders_read m all
    going_breaks n = rw (next_good, cond_none (is_ladder field) _ n)

  pub going_ends : left ≡ [] → Some x ≡ ladders_read m all
  unfolding all_ladders
  going_ends e =
      let good : all_ladders all ≡ true = g.good ∙ ap all_ladders e in rw good (ap Some (walk_ends m few all left x g.walk e))

-- ---- the whole line

module _ (m : ℕ) (l first : List ℕ) (later : List (List ℕ)) (e : pieces space l ≡ first ∷ later) where
  pub line_made_is : (c : ReadCoefficient) → c ≡ coefficient_made first → (x : ReadLadders) → x ≡ ladders_made m later
      → ◌≡◌ {A = ReadLine} (record { inside = x.inside; ladders = x.count; magnitude = c.magnitude }) (line_made m l)
  unfolding line_from coefficient_of
  line_made_is c ec x ex =
      rw (e, ec, ex, length-map later ladder_of, abs_signed (is_minus first) (pos (read_on 0 (magnitude_of first))))

  pub coefficient_breaks : None ≡ coefficient_read first → None ≡ line_read m l
  unfolding is_line_of
  coefficient_breaks n = rw (e, cond_none (is_number (magnitude_of first)) _ n)

  pub ladders_break : (c : ReadCoefficient) → Some c ≡ coefficient_read first → None ≡ ladders_read m later → None ≡ line_read m l
  unfolding is_line_of
  ladders_break c ec n =
      rw (e, (cond_some (is_number (magnitude_of first)) _ _ (sym ec)).0, cond_none (all_ladders later) _ n)

  pub line_read_is : (c : ReadCoefficient) → Some c ≡ coefficient_read first → (x : ReadLadders) → Some x ≡ ladders_read m later
      → Some (record { inside = x.inside; ladders = x.count; magnitude = c.magnitude }) ≡ line_read m l
  unfolding is_line_of
  line_read_is c ec x ex =
      let read = cond_some (is_number (magnitude_of first)) _ _ (sym ec) in
      let found = cond_some (all_ladders later) _ _ (sym ex) in
      let good : is_line l ≡ true = rw (e, read.0, found.0) in
      rw good (ap Some (line_made_is c (sym read.1) x (sym found.1)))
