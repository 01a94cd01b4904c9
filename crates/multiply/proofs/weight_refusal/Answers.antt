-- `multiply::weight_refusal` meets its contract: the quotient is below the other weight exactly if the product is above the ceiling.
use Rattle.multiply.proofs.Refusing.{too_heavy, light_enough, nothing_heavy}
use Rattle.multiply.proofs.weight_refusal.Goals as goal

pub returns-then-v-w : goal.returns-then-v-w
returns-then-v-w c = too_heavy c.args.v c.args.w c.if-v-ne0.true c.if-v-w.true

pub returns-else-v-w : goal.returns-else-v-w
returns-else-v-w c = light_enough c.args.v c.args.w c.if-v-ne0.true c.if-v-w.false

pub returns-else-v-ne0 : goal.returns-else-v-ne0
returns-else-v-ne0 c = nothing_heavy c.args.v c.args.w c.if-v-ne0.false
