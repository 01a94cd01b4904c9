-- What a reply tells, stated of the bytes that a call leaves; which record is refused first; and that no byte past the 98,369th counts.
use mathlib.Core.Path.{◌≡◌, refl, sym, ap, ◌∙◌}
use mathlib.Core.Bool.{Bool, true, false, cond}
use mathlib.Core.List.{List, ◌++◌}
use mathlib.Core.Logic.{⊎_elim}
use Prim.Native.Nat.{ℕ, ◌≤◌, ◌<◌}
use native.Mathlib.Omega.{arith}
use lib.ListN.{length, get_or, take, drop, length-append, length-take, length-drop}
use lib.Seq.{take_all, take_at, take-append-le, drop-append-le}
use borrow.Author.Tests.{le-leb, leb-false}
use Rattle.record.specs.Operands.{read_as}
use Rattle.modes.specs.declared.Refusal.{Refusal}
use Rattle.std.specs.Prelude.{Result, Ok, Err}
use Rattle.modes.specs.declared.Reason.TheVariants.{Malformed}
use Rattle.modes.specs.declared.Written.{Written}
use Rattle.modes.specs.Answers.{refusal, none, number_in}
use Rattle.modes.proofs.Digits.{lt_or_ge}
use Rattle.lent.specs.Bytes.{num_at}
use Rattle.lent.specs.Outputs.{Output, Gives, refused_output}
use Rattle.record.specs.Numbers.{numbers}
use Rattle.record.specs.Layout.{modes_of, count_of, terms_of, record_length, total_of}
use Rattle.record.specs.Refusals.{refusal_of}
use Rattle.record.proofs.Header.{Laid}
use Rattle.modes.proofs.Refusals.{the_first, or_second, by_verdict}
use Rattle.record.proofs.Outputs.{refused_earlier}
use Rattle.normal.specs.Normal.{normal}
use Rattle.results.specs.Results.{operands_refusal}
use Rattle.pairs.specs.Products.{all_rows}
use Rattle.multiply.specs.Answers.{early_refusal, commutator_of}
use Rattle.multiply.proofs.Theorems.{product_accepted, product_modes, commutator_elements}
use Rattle.reply.specs.Lines.{line_of_numbers_in, refused_line, line_in}
use Rattle.reply.specs.Replies.{first_of, second_of, holds_first, answer_to, told_in, text_of, reply_to, work_size, room_size, Says}
use Rattle.reply.specs.Reported.{Commutator, Reported, line, result}
use Rattle.reply.proofs.Replies.{total_decides}
use Rattle.reply.proofs.NoRecord.{not_laid, too_long}
use Rattle.reply.proofs.Bounds.{lawful_line, lawful_answer}

-- ---- which record is refused first

module _ (work room : ℕ) where
  commutator_refused : (a b : List ℕ) (f : Refusal) → operands_refusal (read_as 1 a) (read_as 2 b) ≡ Err f
      → commutator_of work room (read_as 1 a) (read_as 2 b) ≡ refused_output room f
  commutator_refused a b f e =
      let early : early_refusal true work (read_as 1 a) (read_as 2 b) ≡ Err f = sym (the_first _ _ f (sym e)) in
      sym (refused_earlier room _ (early_refusal true work (read_as 1 a) (read_as 2 b)) _ (modes_of a) (normal (all_rows true true (terms_of a) (terms_of b)))
      f early)

  module _ (input : List ℕ) where
    -- what is there of a first record that is not there whole is refused with 1
    short_first : holds_first input ≡ false → refusal_of 1 (first_of input) ≡ Err (refusal Malformed 1 0)
    unfolding numbers
    short_first h =
        not_laid 1 (first_of input) (λ k. ⊎_elim (λ less. absurd (omega (arith, k.size, length-take (total_of input) input))) (beyond k) (lt_or_ge (length input) 32))
      where
        beyond : Laid (first_of input) → 32 ≤ length input → ⊥
        beyond k there =
            let longer : length input < total_of input = leb-false (total_of input) (length input) (total_decides input there ∙ h) in
            let whole : first_of input ≡ input = take_all (total_of input) input (omega arith) in
            let laid_whole : Laid input = rw whole at k in
            let total : total_of input ≡ record_length (count_of input) = ap (λ (xs : List ℕ). get_or xs 6 0) laid_whole.header in
            omega (arith, laid_whole.size)

    -- THE FIRST RECORD: refused before anything else is looked at
    pub first_refused : (f : Refusal) → refusal_of 1 (first_of input) ≡ Err f → answer_to work room input ≡ refused_output room f
    unfolding answer_to
    first_refused f r = go (holds_first input) refl
      where
        same : holds_first input ≡ false → refusal Malformed 1 0 ≡ f
        same e = let told = sym (short_first e) ∙ r in cc

        go : (s : Bool) → holds_first input ≡ s
            → cond s (commutator_of work room (read_as 1 (first_of input)) (read_as 2 (second_of input))) (refused_output room (refusal Malformed 1 0))
            ≡ refused_output room f
        go true e = commutator_refused (first_of input) (second_of input) f (sym (the_first _ _ f (sym r)))
        go false e = ap (refused_output room) (same e)

    -- THE SECOND RECORD: once the first is accepted, and before its mode count is compared
    pub second_refused : refusal_of 1 (first_of input) ≡ none → (f : Refusal) → refusal_of 2 (second_of input) ≡ Err f
        → answer_to work room input ≡ refused_output room f
    unfolding answer_to
    second_refused z f r = go (holds_first input) refl
      where
        never : holds_first input ≡ false → ⊥
        never e = let told = sym (short_first e) ∙ z in cc

        go : (s : Bool) → holds_first input ≡ s
            → cond s (commutator_of work room (read_as 1 (first_of input)) (read_as 2 (second_of input))) (refused_output room (refusal Malformed 1 0))
            ≡ refused_output room f
        go true e = commutator_refused (first_of input) (second_of input) f (or_second _ _ z ∙ sym (the_first _ _ f (sym r)))
        go false e = absurd (never e)

  -- ---- a longer input

  first_long : (l : List ℕ) → 98369 ≤ length l → 49184 < total_of l → answer_to work room l ≡ refused_output room (refusal Malformed 1 0)
  first_long l h t = first_refused l _ (too_long 1 (first_of l) (omega (arith, length-take (total_of l) l)))

  second_long : (l : List ℕ) → 98369 ≤ length l → total_of l ≤ 49184 → refusal_of 1 (first_of l) ≡ none
      → answer_to work room l ≡ refused_output room (refusal Malformed 2 0)
  second_long l h t z = second_refused l z _ (too_long 2 (second_of l) (omega (arith, length-drop (total_of l) l)))

  module _ (xs ys : List ℕ) (long : 98369 ≤ length xs) where
    same_total : total_of (xs ++ ys) ≡ total_of xs
    unfolding num_at
    same_total = rw (drop-append-le 24 xs ys (omega arith), take-append-le 4 (drop 24 xs) ys (simp length-drop (omega arith)))

    longer : 98369 ≤ length (xs ++ ys)
    longer = rw length-append (omega arith)

    module _ (within : total_of xs ≤ 49184) where
      same_first : refusal_of 1 (first_of (xs ++ ys)) ≡ refusal_of 1 (first_of xs)
      same_first = ap (refusal_of 1) (ap (λ (t : ℕ). take t (xs ++ ys)) same_total ∙ take-append-le (total_of xs) xs ys (omega arith))

      same_answer : answer_to work room (xs ++ ys) ≡ answer_to work room xs
      same_answer =
          by_verdict (refusal_of 1 (first_of xs))
          (λ z. second_long (xs ++ ys) longer (omega (arith, same_total)) (same_first ∙ z) ∙ sym (second_long xs long within z))
          (λ f e. first_refused (xs ++ ys) f (same_first ∙ e) ∙ sym (first_refused xs f e))

    -- THE LONGEST INPUT that counts is two longest records and one byte: no byte after these changes the answer
    pub front_decides : answer_to work room (xs ++ ys) ≡ answer_to work room xs
    front_decides =
        ⊎_elim (λ over. first_long (xs ++ ys) longer (omega (arith, same_total)) ∙ sym (first_long xs long over))
        (λ within. same_answer within) (lt_or_ge 49184 (total_of xs))

-- ---- what a reply tells

line_fits : (room : ℕ) (f : Refusal) → length (refused_line f) ≤ room → line_in room f ≡ refused_line f
unfolding line_in line_of_numbers_in refused_line
line_fits room f h = rw (le-leb (length (refused_line f)) room h)

module _ (work room : ℕ) (input : List ℕ) where
  abbrev answer : Output
  answer = answer_to work room input

  -- 11 is not given for an output that holds the longest record
  pub never_eleven : 49184 ≤ room → number_in answer.answer ≡ 11 → ⊥
  never_eleven h = go answer.answer refl
    where
      go : (v : Result Written Refusal) → answer.answer ≡ v → number_in v ≡ 11 → ⊥
      go (Ok w) q e = absurd (omega arith)
      go (Err f) q e = omega (arith, (lawful_answer work room input f q).eleven e)

  module _ (w : Written) (z : answer.answer ≡ Ok w) where
    -- then the first record is there
    not_short : answer ≡ commutator_of work room (read_as 1 (first_of input)) (read_as 2 (second_of input))
    unfolding answer_to
    not_short = go (holds_first input) z
      where
        go : (s : Bool) → (cond s (commutator_of work room (read_as 1 (first_of input)) (read_as 2 (second_of input)))
            (refused_output room (refusal Malformed 1 0))).answer ≡ Ok w
            → cond s (commutator_of work room (read_as 1 (first_of input)) (read_as 2 (second_of input))) (refused_output room (refusal Malformed 1 0))
            ≡ commutator_of work room (read_as 1 (first_of input)) (read_as 2 (second_of input))
        go true y = refl
        go false y = cc

    given : Gives (commutator_of work room (read_as 1 (first_of input)) (read_as 2 (second_of input))) (Ok w) answer.bytes
    given = record { answer = sym z ∙ ap (λ (o : Output). o.answer) not_short; bytes = ap (λ (o : Output). o.bytes) not_short }

    is_commutator : Commutator (first_of input) (second_of input) (take w.len answer.bytes)
    is_commutator =
        record {
          accepted = product_accepted true true work room (first_of input) (second_of input) w answer.bytes given;
          modes = product_modes true true work room (first_of input) (second_of input) w answer.bytes given;
          elements = commutator_elements work room (first_of input) (second_of input) w answer.bytes given;
        }

  told : 18 ≤ room → Reported input (text_of room answer)
  unfolding text_of
  told h = go answer.answer refl
    where
      go : (v : Result Written Refusal) → answer.answer ≡ v → Reported input (told_in room v answer.bytes)
      go (Ok w) e = result (is_commutator w e)
      go (Err f) e = line f (line_fits room f (omega (arith, lawful_line f (lawful_answer work room input f e))))

  -- THE REPLY: of the bytes to be written, as they stand in the output
  pub reply_told : 18 ≤ room → (r : ℕ) (after : List ℕ) → Says (reply_to work room input) room r after → Reported input (take r after)
  reply_told h r after g = rw (ap (take r) g.bytes ∙ take_at (reply_to work room input) _ r (sym g.len)) (told h)

-- THE PROGRAM'S REPLY, at its sizes
pub program_told : (input : List ℕ) (r : ℕ) (after : List ℕ) → Says (reply_to work_size room_size input) room_size r after → Reported input (take r after)
program_told input = reply_told work_size room_size input (omega arith)
