-- `filter::usable::Filter::sum` meets its contract: no product or sum with C overflows.
use Rattle.std.proofs.Common.{arith}
use Rattle.filter.proofs.MethodNumbers.{small_products, raises_small, lowers_small}
use Rattle.filter.proofs.usable.Filter.sum.Goals as goal

pub overflow_mul-result-in-Raises : goal.overflow_mul-result-in-Raises
overflow_mul-result-in-Raises c = omega (arith, raises_small c.args.self _ c.in-Raises.is c.requires.2)

pub overflow_add-result : goal.overflow_add-result
overflow_add-result c = grind (arith, small_products, raises_small c.args.self _ c.in-Raises.is c.requires.2)

pub overflow_add-result-in-Raises : goal.overflow_add-result-in-Raises
overflow_add-result-in-Raises c = grind (arith, small_products, raises_small c.args.self _ c.in-Raises.is c.requires.2)

pub overflow_mul-c : goal.overflow_mul-c
overflow_mul-c c = omega (arith, lowers_small c.args.self _ c.in-Lowers.is c.requires.2)
