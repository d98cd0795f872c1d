use Rattle.std.proofs.Common.{arith}
use Rattle.std.proofs.lemmas.List.{take_rest}
use Rattle.std.proofs.lemmas.Bool.Decides.{nat_tests}
use Rattle.fragment.proofs.head.read_head.Goals as goal

-- the rest of the head is its bytes after the first four
pub returns-then-fits : goal.returns-then-fits
returns-then-fits c = let rest = take_rest c.args.head.now 4 in grind (arith, nat_tests)

pub returns-else-fits : goal.returns-else-fits
returns-else-fits c = let rest = take_rest c.args.head.now 4 in grind (arith, nat_tests)
