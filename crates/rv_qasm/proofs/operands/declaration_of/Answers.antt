use Rattle.std.proofs.Common.{◌≡◌, ◌+◌, ◌∙◌, ap, sym, drop, length, length-drop, arith}
use Rattle.rv_qasm.specs.Registers.{declaration_of}
use Rattle.rv_qasm.proofs.inside.OperandLaws.{drop_of_four, no_declaration}
use Rattle.rv_qasm.proofs.operands.declaration_of.Goals as goal

pub returns-then-len-at-ne4-clause-exact : goal.returns-then-len-at-ne4-clause-exact
returns-then-len-at-ne4-clause-exact c =
    sym (no_declaration (drop c.args.at c.args.tokens.now) (λ e. omega (arith, length-drop c.args.at c.args.tokens.now, c.len.ensures, e)))

pub returns-clause-exact : goal.returns-clause-exact
returns-clause-exact c =
    let four : length c.args.tokens.now ≡ c.args.at + 4 = omega (arith, c.len.ensures) in
    c.declared_by.ensures.exact ∙ ap declaration_of (sym (drop_of_four c.args.tokens.now c.args.at _ _ _ _ four c.get.ensures c.get-2.ensures c.get-3.ensures c.get-4.ensures))
