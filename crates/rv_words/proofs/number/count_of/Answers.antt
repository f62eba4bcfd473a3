use Rattle.std.proofs.Common.{arith}
use Rattle.rv_words.proofs.Numbers.{number_is}
use Rattle.rv_words.proofs.number.count_of.Goals as goal

pub returns : goal.returns
returns c = number_is 7 c.args.text.now c.decimal_value.result (omega arith) c.decimal_value.ensures
