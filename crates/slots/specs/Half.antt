-- One party's half of a shelf: the entries of its 16 slots, when it is damaged, and where it has room.
use Rattle.std.specs.Prelude.{ℕ, ◌+◌, ◌*◌, Bool, ◌&&◌, ◌||◌, List, ◌++◌, eqb, leb, length}
use Rattle.modes.specs.Words.{each, lowest_mode}
use Rattle.lent.specs.Bytes.{bytes, num_at, half_at, zeros, put}

-- the entry of slot i has 32 bytes, at 32 i: it names a place in the half and a length
abbrev pub place_of : List ℕ → ℕ → ℕ
place_of h i = half_at h (32 * i)

abbrev pub length_of : List ℕ → ℕ → ℕ
length_of h i = half_at h (32 * i + 4)

-- it is free if all its bytes are zero, and else used
abbrev pub is_free : List ℕ → ℕ → Bool
is_free h i = eqb (num_at 32 h (32 * i)) 0

-- what a used entry must keep: 32 bytes at least, from 512 on, within the half, and zeros in its last 24 bytes
unfoldable pub is_sound : List ℕ → ℕ → Bool
is_sound h i =
    leb 32 (length_of h i) && (leb 512 (place_of h i) && (leb (place_of h i + length_of h i) 32768 && eqb (num_at 24 h (32 * i + 8)) 0))

-- n bytes from p on and m bytes from q on do not meet
unfoldable pub apart : ℕ → ℕ → ℕ → ℕ → Bool
apart p n q m = leb (p + n) q || leb (q + m) p

-- n bytes from p on meet no record of the slots below k; a free entry names no bytes, from 0 on, which meet nothing
unfoldable pub meets_none : List ℕ → ℕ → ℕ → ℕ → Bool
meets_none h k p n = each k (λ i. apart (place_of h i) (length_of h i) p n)

-- the half is not damaged: each entry is free or sound, and meets none of those before it
unfoldable pub is_whole : List ℕ → Bool
is_whole h = each 16 (λ i. (is_free h i || is_sound h i) && meets_none h i (place_of h i) (length_of h i))

-- the lowest number below k of which f holds, or k where there is none
abbrev pub lowest : ℕ → (ℕ → Bool) → ℕ
lowest = lowest_mode

-- the lowest free slot, or 16
abbrev pub free_slot : List ℕ → ℕ
free_slot h = lowest 16 (is_free h)

-- n bytes from p on lie past the entries, within the half, and are no record's
unfoldable pub is_room : List ℕ → ℕ → ℕ → Bool
is_room h n p = leb 512 p && (leb (p + n) 32768 && meets_none h 16 p n)

-- the lowest place with room for n bytes, which is the start of the lowest gap long enough, or 32768
abbrev pub gap_for : List ℕ → ℕ → ℕ
gap_for h n = lowest 32768 (is_room h n)

-- an entry's bytes
abbrev pub entry_bytes : ℕ → ℕ → List ℕ
entry_bytes p n = bytes 4 p ++ (bytes 4 n ++ zeros 24)

-- the half with the record a at p, named by slot i; and without n bytes from p on, slot i free
abbrev pub holding : List ℕ → ℕ → ℕ → List ℕ → List ℕ
holding h i p a = put (put h p a) (32 * i) (entry_bytes p (length a))

abbrev pub without : List ℕ → ℕ → ℕ → ℕ → List ℕ
without h i p n = put (put h p (zeros n)) (32 * i) (zeros 32)
