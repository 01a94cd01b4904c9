-- The number of each reason for a refusal, from 1 on.
use Rattle.std.specs.Prelude.{ℕ}
use Rattle.modes.specs.declared.Reason.{Reason}
use Rattle.modes.specs.declared.Reason.TheVariants.{Malformed, WordOutside, OutOfOrder, ZeroCoeff, TooHeavy, ModesDiffer, RowsDoNotFit, ProductTooHeavy, ResultTooHeavy, TooManyTerms, OutputTooShort, OccupationOutside, NotFinite, BadBasis, BadReport, BadLine, TooManyLadders, NoSuchParty, DamagedHalf, NoFreeSlot, NoGap, NoSuchSlot}

abbrev pub number_of : Reason → ℕ
number_of Malformed = 1
number_of WordOutside = 2
number_of OutOfOrder = 3
number_of ZeroCoeff = 4
number_of TooHeavy = 5
number_of ModesDiffer = 6
number_of RowsDoNotFit = 7
number_of ProductTooHeavy = 8
number_of ResultTooHeavy = 9
number_of TooManyTerms = 10
number_of OutputTooShort = 11
number_of OccupationOutside = 12
number_of NotFinite = 13
number_of BadBasis = 14
number_of BadReport = 15
number_of BadLine = 16
number_of TooManyLadders = 17
number_of NoSuchParty = 18
number_of DamagedHalf = 19
number_of NoFreeSlot = 20
number_of NoGap = 21
number_of NoSuchSlot = 22
