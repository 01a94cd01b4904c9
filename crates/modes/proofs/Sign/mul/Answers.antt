-- `modes::Sign::mul` meets its contract.
use Rattle.modes.specs.Bools.{◌⊕◌}
use Rattle.modes.proofs.Sign.mul.Goals as goal

pub returns-then-self : goal.returns-then-self
unfolding ◌⊕◌
returns-then-self c = rw c.if-self.true

pub returns : goal.returns
unfolding ◌⊕◌
returns c = rw c.if-self.false
