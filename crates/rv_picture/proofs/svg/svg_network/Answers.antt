use Rattle.std.proofs.Common.{ℕ, ◌<◌, ◌^◌, arith, subst, sym}
use Rattle.std.specs.Prelude.{length}
use Rattle.rv_draw.specs.Networks.{op_from_top, op_of}
use Rattle.rv_draw.specs.Symbols.{op_symbol_on}
use Rattle.rv_draw.proofs.inside.ReadBack.{AreRead}
use Rattle.rv_draw.proofs.OperationsShown.{ops_read}
use Rattle.rv_picture.specs.Titles.{op_title}
use Rattle.rv_picture.proofs.TitleLines.{op_titles}
use Rattle.rv_picture.proofs.SvgBack.{svg_back}
use Rattle.rv_picture.proofs.svg.svg_network.Goals as goal

pub returns-clause-back : goal.returns-clause-back
returns-clause-back g c same =
    let lines = c.args.lines.now in
    let ops = c.args.net.now.ops in
    let valid = c.recall_invariant-2.ensures in
    let bounded = valid.bounded in
    let few : length ops < 2 ^ 50 = omega (arith, bounded) in
    svg_back op_symbol_on op_title op_of op_from_top c.args.per_block lines ops op_titles c.requires.some c.recall_invariant.ensures few
    (subst (λ (n : ℕ). AreRead op_symbol_on op_of op_from_top n ops) (sym same) (ops_read c.args.net.now.lines ops valid.few valid.fitting))
