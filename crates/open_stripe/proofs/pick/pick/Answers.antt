use Rattle.open_stripe.proofs.Picks.{open_blocks, sealed_blocks}
use Rattle.open_stripe.proofs.pick.pick.Goals as goal

pub returns-in_err-open-in-Open-clause-of_open :
    goal.returns-in_err-open-in-Open-clause-of_open
returns-in_err-open-in-Open-clause-of_open c = open_blocks

pub returns-in_err-open-in-Open-clause-of_sealed :
    goal.returns-in_err-open-in-Open-clause-of_sealed
returns-in_err-open-in-Open-clause-of_sealed c = sealed_blocks

pub returns-clause-of_open : goal.returns-clause-of_open
returns-clause-of_open c = open_blocks

pub returns-clause-of_sealed : goal.returns-clause-of_sealed
returns-clause-of_sealed c = sealed_blocks
