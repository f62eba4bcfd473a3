use Rattle.std.proofs.Common.{ℕ, subst, sym}
use Rattle.rv_draw.specs.Networks.{op_from_top, op_of}
use Rattle.rv_draw.specs.Symbols.{op_symbol_on}
use Rattle.rv_draw.proofs.inside.LaidOut.{laid_out}
use Rattle.rv_draw.proofs.inside.ReadBack.{AreRead, read_back}
use Rattle.rv_draw.proofs.OperationsShown.{ops_read}
use Rattle.rv_draw.proofs.write.write_network.Goals as goal

pub returns-clause-back : goal.returns-clause-back
returns-clause-back g c same =
    let lines = c.args.lines.now in
    let ops = c.args.net.now.ops in
    let valid = c.recall_invariant-2.ensures in
    read_back op_symbol_on op_of op_from_top c.args.per_block lines ops c.requires.some c.recall_invariant.ensures
    (subst (λ (n : ℕ). AreRead op_symbol_on op_of op_from_top n ops) (sym same) (ops_read c.args.net.now.lines ops valid.few valid.fitting))

pub returns-clause-laid_out : goal.returns-clause-laid_out
returns-clause-laid_out g c = laid_out op_symbol_on c.args.per_block c.args.lines.now c.args.net.now.ops c.recall_invariant.ensures
