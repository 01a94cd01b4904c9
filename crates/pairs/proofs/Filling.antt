-- The work as it fills: steps that follow each other, and where the rows are too many.
use mathlib.Core.Path.{◌≡◌, refl, sym, ap, ◌∙◌, subst}
use mathlib.Core.List.{List, [], ◌∷◌, ◌++◌, append_assoc}
use Prim.Native.Nat.{ℕ, zero, suc, ◌+◌, ◌-◌, ◌*◌, ◌≤◌, ◌<◌}
use native.Mathlib.Nat.{zero-add}
use native.Mathlib.Omega.{arith}
use lib.ListN.{length, length-append}
use Rattle.modes.specs.declared.Term.{Term}
use Rattle.lent.specs.Rows.{row_at, rows_at}
use Rattle.lent.proofs.RowLaws.{rows_more}
use Rattle.pairs.specs.Filling.{Room, Stands, Filled, Grown, filled, over, Adds, Appended, Settled, cancelled, kept}
use Rattle.pairs.specs.Filling as filling
use Rattle.pairs.specs.declared.Fill.{Fill}
use Rattle.pairs.proofs.Standing.{stands_same, stands_trans, stands_append, stands_swap, stands_cancel}

-- nothing yet
pub nothing_filled : (l : List ℕ) → Filled [] l (record { used = 0; held = 0 })
unfolding rows_at
nothing_filled l = record { room = record { few = omega arith; fits = omega arith }; held = refl; count = 0; used = refl; rows = stands_same [] [] refl }

pub filled_as : {ts us : List Term} {l : List ℕ} {s : Fill} → ts ≡ us → Grown ts l s → Grown us l s
filled_as {ts} {us} {l} {s} e g = subst (λ (vs : List Term). Grown vs l s) e g

-- too many stay too many
pub over_more : (ts us : List Term) (l : List ℕ) (s : Fill) → length l < s.held → Grown ts l s → Grown (ts ++ us) l s
over_more ts us l s h (filled f) = absurd (omega (arith, f.room.fits))
over_more ts us l s h (over a b) = over (omega (arith, length-append ts us)) b

pub not_over : (ts : List Term) (l : List ℕ) (s : Fill) → s.held ≤ length l → Grown ts l s → Filled ts l s
not_over ts l s h (filled f) = f
not_over ts l s h (over a b) = absurd (omega arith)

-- the rows of one product, written where there was room
pub record Product (rows : List Term) (l : List ℕ) (s : Fill) (m : List ℕ) (r : Fill) : Type 0 where
  pub ready : Room l s
  pub len : length m ≡ length l
  pub is : Appended rows l s m r

module _ {rows : List Term} {l : List ℕ} {s : Fill} {m : List ℕ} {r : Fill} (p : Product rows l s m r) where
  pub product_room : r.held ≤ length m → Room m r
  product_room h = go p.is
    where
      go : Appended rows l s m r → Room m r
      go (filling.fits a b c d) = record { few = omega (arith, a, b, p.ready.few); fits = h }
      go (filling.over a b) = absurd (omega (arith, p.len))

  pub product_adds : Adds rows l s m r
  product_adds = record { room = product_room; grows = λ ts f. go ts f p.is }
    where
      go : (ts : List Term) → Filled ts l s → Appended rows l s m r → Grown (ts ++ rows) m r
      go ts f (filling.fits a b c d) =
          filled (record {
            room = record { few = omega (arith, a, b, p.ready.few); fits = omega (arith, c, p.len) };
            held = omega (arith, a, f.held, length-append ts rows);
            count = f.count + length rows;
            used = omega (arith, b, f.used);
            rows = stands_trans (stands_same _ _ (d f.count f.used)) (stands_append (rows_at l 0 f.count) ts rows f.rows);
          })
      go ts f (filling.over a b) = over (omega (arith, a, p.len, f.held, length-append ts rows)) (omega (arith, b, p.len))

-- two steps, one after the other; or the first is too much already
pub adds_then : (A B : List Term) {l m n : List ℕ} {s r q : Fill} → Adds A l s m r → r.held ≤ length m → Adds B m r n q → Adds (A ++ B) l s n q
adds_then A B {l} {m} {n} {s} {r} {q} a h b = record {
  room = b.room;
  grows = λ ts f. filled_as (append_assoc ts A B) (b.grows (ts ++ A) (not_over (ts ++ A) m r h (a.grows ts f)));
}

-- the last row of the first product in hand while the second is written
module _ {A : List Term} {l : List ℕ} {s : Fill} {m : List ℕ} {one : Fill} (p : Product A l s m one)
    (h : one.held ≤ length m) (some : one.used ≡ s.used → ⊥) where
  abbrev rest : Fill
  rest = record { used = one.used - 24; held = one.held }

  -- how many rows there are, and that there is a last one
  record Counted : Type 0 where
    held : one.held ≡ s.held + 24 * length A
    used : one.used ≡ s.used + 24 * length A
    more : 1 ≤ length A
    rows : (count : ℕ) → s.used ≡ 24 * count → rows_at m 0 (count + length A) ≡ rows_at l 0 count ++ A

  counted : Counted
  counted = go p.is
    where
      go : Appended A l s m one → Counted
      go (filling.fits a b c d) = record { held = a; used = b; more = at (length A) b; rows = d }
        where
          at : (k : ℕ) → one.used ≡ s.used + 24 * k → 1 ≤ k
          at zero e = absurd (some (omega (arith, e)))
          at (suc k) e = omega arith
      go (filling.over a b) = absurd (omega (arith, p.len))

  pub last_row : 24 ≤ one.used
  last_row = omega (arith, counted.used, counted.more)

  module _ (B : List Term) {n : List ℕ} {two : Fill} (len2 : length n ≡ length m) (g2 : Appended B m rest n two) where
    pub second_over : length n < two.held → Adds (A ++ B) l s n two
    second_over k = record { room = λ j. absurd (omega arith); grows = λ ts f. go ts f g2 }
      where
        go : (ts : List Term) → Filled ts l s → Appended B m rest n two → Grown (ts ++ (A ++ B)) n two
        go ts f (filling.fits a b c d) = absurd (omega (arith, len2))
        go ts f (filling.over a b) = over (omega (arith, a, len2, counted.held, f.held, length-append ts (A ++ B), length-append A B)) k

    module _ (h2 : two.held ≤ length n) where
      module _ (x : Term) (is : x ≡ row_at m (one.used - 24)) where
        -- the rows of both products, the one in hand last
        module _ (ts : List Term) (f : Filled ts l s) (k : ℕ) (count : f.count + length A ≡ k + 1) where
          ends : one.used - 24 ≡ 24 * k
          ends = omega (arith, counted.used, f.used)

          first : rows_at m 0 k ++ (x ∷ []) ≡ rows_at l 0 f.count ++ A
          first =
              ap (λ (t : Term). rows_at m 0 k ++ (t ∷ [])) (is ∙ ap (row_at m) (ends ∙ sym (zero-add (24 * k))))
              ∙ sym (rows_more m 0 k) ∙ ap (rows_at m 0) (sym count)
              ∙ counted.rows f.count f.used

          all : Stands ((rows_at m 0 k ++ B) ++ (x ∷ [])) (ts ++ (A ++ B))
          all =
              stands_trans (stands_swap (rows_at m 0 k) B (x ∷ []))
              (stands_trans
              (stands_append (rows_at m 0 k ++ (x ∷ [])) (ts ++ A) B (stands_trans (stands_same _ _ first) (stands_append (rows_at l 0 f.count) ts A f.rows)))
              (stands_same _ _ (append_assoc ts A B)))

        module _ (o : List ℕ) (r : Fill) (len3 : length o ≡ length n) where
          settled_room : Appended B m rest n two → Settled x n two o r → Room o r
          settled_room (filling.fits a b c d) (cancelled u v w y) =
              record { few = omega (arith, a, b, u, v, (product_room p h).few); fits = omega (arith, v, len3) }
          settled_room (filling.fits a b c d) (kept u v w) =
              record { few = omega (arith, a, b, u, v, last_row, (product_room p h).few); fits = omega (arith, v, len3) }
          settled_room (filling.over a b) t = absurd (omega (arith, len2))

          settled_held : (ts : List Term) → Filled ts l s → two.held ≡ one.held + 24 * length B → r.held ≡ two.held → r.held ≡ 24 * length (ts ++ (A ++ B))
          settled_held ts f a v = omega (arith, v, a, counted.held, f.held, length-append ts (A ++ B), length-append A B)

          settled_filled : (ts : List Term) → Filled ts l s → Appended B m rest n two → Settled x n two o r → Filled (ts ++ (A ++ B)) o r
          settled_filled ts f (filling.over a b) t = absurd (omega (arith, len2))
          settled_filled ts f (filling.fits a b c d) (kept u v w) =
              let k = f.count + length A - 1 in
              let count : f.count + length A ≡ k + 1 = omega (arith, counted.more) in
              let used : two.used ≡ 24 * (k + length B) = omega (arith, b, ends ts f k count) in
              record {
                room = settled_room (filling.fits a b c d) (kept u v w);
                held = settled_held ts f a v;
                count = k + length B + 1;
                used = omega (arith, u, used);
                rows =
                    stands_trans (stands_same _ _ (w (k + length B) used ∙ ap (λ (z : List Term). z ++ (x ∷ [])) (d k (ends ts f k count))))
                    (all ts f k count);
              }
          settled_filled ts f (filling.fits a b c d) (cancelled u v w y) =
              let k = f.count + length A - 1 in
              let count : f.count + length A ≡ k + 1 = omega (arith, counted.more) in
              let j = k + length B - 1 in
              let used : r.used ≡ 24 * j = omega (arith, u, b, ends ts f k count) in
              let before : k + length B ≡ j + 1 = omega (arith, u, b, ends ts f k count) in
              let last : rows_at n 0 j ++ (row_at n r.used ∷ []) ≡ rows_at m 0 k ++ B =
              ap (λ (z : ℕ). rows_at n 0 j ++ (row_at n z ∷ [])) (used ∙ sym (zero-add (24 * j))) ∙ sym (rows_more n 0 j) ∙ ap (rows_at n 0) (sym before)
              ∙ d k (ends ts f k count) in
              record {
                room = settled_room (filling.fits a b c d) (cancelled u v w y);
                held = settled_held ts f a v;
                count = j;
                used = used;
                rows = stands_trans (stands_same _ _ (ap (λ (z : List ℕ). rows_at z 0 j) w))
                    (stands_trans (stands_cancel (rows_at n 0 j) x (row_at n r.used) y)
                    (stands_trans (stands_same _ _ (ap (λ (z : List Term). z ++ (x ∷ [])) last)) (all ts f k count)));
              }

          pub settled_adds : Settled x n two o r → Adds (A ++ B) l s o r
          settled_adds t = record { room = λ j. settled_room g2 t; grows = λ ts f. filled (settled_filled ts f g2 t) }
