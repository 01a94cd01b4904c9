-- The answer to an input, case by case.
use mathlib.Core.Path.{◌≡◌, refl, sym, ap, ◌∙◌, subst}
use mathlib.Core.Bool.{Bool, true, false, cond}
use mathlib.Core.List.{List}
use Prim.Native.Nat.{ℕ, ◌-◌, ◌≤◌, ◌<◌}
use native.Mathlib.Omega.{arith}
use native.Mathlib.Nat.{le_refl}
use lib.Dec.{leb}
use lib.ListN.{length, take, drop, length-append, length-drop}
use lib.Seq.{take_all, take_at, length-take-le}
use borrow.Author.Tests.{le-leb, lt-leb, leb-true}
use Rattle.pairs.specs.Products.{all_rows}
use Rattle.normal.specs.Normal.{normal}
use Rattle.modes.specs.Refusals.{unless}
use Rattle.modes.proofs.Refusals.{either_way}
use Rattle.record.specs.Operands.{read_as}
use Rattle.modes.proofs.Bools.{and_l, and_r}
use Rattle.modes.specs.declared.Refusal.{Refusal}
use Rattle.modes.specs.declared.Written.{Written}
use Rattle.std.specs.Prelude.{Result, Ok, Err}
use Rattle.modes.specs.declared.Reason.TheVariants.{Malformed}
use Rattle.modes.specs.Answers.{Verdict, refusal}
use Rattle.record.proofs.Outputs.{written_len}
use Rattle.lent.specs.Bytes.{zeros}
use Rattle.lent.specs.Outputs.{Output, Gives, refused_output, filled_output}
use Rattle.lent.proofs.Outputs.{refused_gives}
use Rattle.record.specs.Layout.{encode, total_of}
use Rattle.multiply.specs.Answers.{commutator_of, Leaves}
use Rattle.reply.specs.Replies.{holds_first, answer_to, text_of, Says, first_of, second_of}
use Rattle.reply.specs.Lines.{line_in}

pub leaves_as : {o q : Output} {r : Result Written Refusal} {x : List ℕ} {room : ℕ} {w : List ℕ} → o ≡ q → Leaves o r x room w → Leaves q r x room w
leaves_as {o} {q} {r} {x} {room} {w} e g = subst (λ (y : Output). Leaves y r x room w) e g

-- a refusal, an output of zeros and a work of zeros
pub refused_leaves : (room held : ℕ) {f : Refusal} {r : Result Written Refusal} {after work : List ℕ}
    → (r ≡ Err f) × (after ≡ zeros room) × (work ≡ zeros held) → Leaves (refused_output room f) r after held work
refused_leaves room held e = record { output = refused_gives room (e.0, e.1); clean = e.2 }

module _ (input : List ℕ) where
  pub no_header : length input < 32 → false ≡ holds_first input
  unfolding holds_first
  no_header h = rw (lt-leb 32 (length input) h)

  pub total_decides : 32 ≤ length input → leb (total_of input) (length input) ≡ holds_first input
  unfolding holds_first
  total_decides h = rw (le-leb 32 (length input) h)

  module _ (h : holds_first input ≡ true) where
    pub header_there : 32 ≤ length input
    unfolding holds_first
    header_there = leb-true _ _ (and_l (leb 32 (length input)) (leb (total_of input) (length input)) h)

    pub total_there : total_of input ≤ length input
    unfolding holds_first
    total_there = leb-true _ _ (and_r (leb 32 (length input)) (leb (total_of input) (length input)) h)

    -- the input in two parts, of which the second is all that is left
    pub answer_parts : (work room end : ℕ) → end ≡ total_of input
        → commutator_of work room (read_as 1 (take end input)) (read_as 2 (take (length input - end) (drop end input))) ≡ answer_to work room input
    unfolding answer_to
    answer_parts work room end e = rw (h, take_all (length input - end) (drop end input) (rw length-drop (le_refl (length input - end))), e)

  pub answer_short : holds_first input ≡ false → (work room : ℕ) → refused_output room (refusal Malformed 1 0) ≡ answer_to work room input
  unfolding answer_to
  answer_short h work room = rw h

-- an answer is a refusal, or the bytes that it fills the output with
pub data Shape (room : ℕ) : Output → Type 0 where
  refusing : (f : Refusal) → Shape room (refused_output room f)
  filling : (branches : ℕ) (bs : List ℕ) → Shape room (filled_output room branches bs)

-- an answer whose place a refusal takes
pub unless_shape : {room : ℕ} {o : Output} (f : Verdict) → Shape room o → Shape room (unless f (refused_output room) o)
unless_shape {room} {o} f h = either_way f (refused_output room) o (Shape room) (λ z. h) (λ g e. refusing g)

-- a test before an answer, and the refusal where it fails
pub tested_shape : {room : ℕ} (s : Bool) (o : Output) (f : Refusal) → Shape room o → Shape room (cond s o (refused_output room f))
tested_shape true o f h = h
tested_shape false o f h = refusing f

pub answer_shape : (work room : ℕ) (input : List ℕ) → Shape room (answer_to work room input)
unfolding answer_to
answer_shape work room input =
    let a = read_as 1 (first_of input) in
    let b = read_as 2 (second_of input) in
    tested_shape (holds_first input) (commutator_of work room a b) (refusal Malformed 1 0)
    (unless_shape _ (filling _ (encode a.modes (normal (all_rows true true a.terms b.terms)))))

-- the text of a record is what stands in the output
record_says : {room : ℕ} (o : Output) (a : Written) → Shape room o → Ok a ≡ o.answer → Says (text_of room o) room a.len o.bytes
unfolding text_of
record_says {room} o a (refusing f) e = cc
record_says {room} o a (filling branches bs) e =
    rw (take_at bs (zeros (room - length bs)) (length bs) refl) (record { len = written_len a (length bs) branches e; bytes = refl })

module _ {room : ℕ} {o : Output} {after : List ℕ} where
  pub record_told : {a : Written} → Shape room o → Gives o (Ok a) after → Says (text_of room o) room a.len after
  record_told {a} s g =
      let says = record_says o a s g.answer in
      record { len = says.len; bytes = g.bytes ∙ says.bytes }

  -- of a refusal, the line
  pub line_told : {mid : List ℕ} {n r : ℕ} {f : Refusal} → n ≡ room → Gives o (Err f) mid → Says (line_in n f) n r after → Says (text_of room o) room r after
  unfolding text_of
  line_told e g s = rw (← g.answer, ← e) s

-- a text at the sizes that a program has
pub at_sizes : (text : ℕ → ℕ → List ℕ) {work room w n r : ℕ} {after : List ℕ} → Says (text work room) room r after → work ≡ w → room ≡ n
    → Says (text w n) n r after
at_sizes text {work} {room} {w} {n} {r} {after} g e f =
    subst (λ (k : ℕ). Says (text w k) k r after) f (subst (λ (k : ℕ). Says (text k room) room r after) e g)

-- a text stands inside the output
pub says_inside : {text : List ℕ} {room r : ℕ} {after : List ℕ} → Says text room r after → r ≤ length after
says_inside {text} {room} {r} {after} g = omega (arith, g.len, ap length g.bytes ∙ length-append text (zeros (room - length text)))

-- and is as long as what is written of it
pub says_whole : {text : List ℕ} {room r : ℕ} {after : List ℕ} → Says text room r after → r ≡ length (take r after)
says_whole {text} {room} {r} {after} g = sym (length-take-le r after (says_inside g))
