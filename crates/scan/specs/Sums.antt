-- What a line adds to the two sums over a text: 2 to its ladder count, and its coefficient's magnitude times that.
use Rattle.std.specs.Prelude.{ℕ, ◌*◌, ◌^◌, nat_abs, length}
use Rattle.lines.specs.Grammar.{Line}

abbrev pub spread : Line → ℕ
spread x = 2 ^ length x.ladders

abbrev pub burden : Line → ℕ
burden x = nat_abs x.coeff * spread x
