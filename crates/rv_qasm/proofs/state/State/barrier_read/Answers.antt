use Rattle.std.proofs.Common.{◌∙◌, ap, sym, length, option_map, refl}
use Rattle.rv_qasm.specs.inside.Parts.{after_comma}
use Rattle.rv_qasm.specs.inside.Views.{named}
use Rattle.rv_qasm.proofs.inside.OperandLaws.{looks_more, looks_wrong, parts_follow, place_within}
use Rattle.rv_qasm.proofs.state.State.barrier_read.Goals as goal

pub returns-in_default-operand : goal.returns-in_default-operand
returns-in_default-operand c =
    looks_wrong c.args.self.now c.loop-next.found _ _
    (parts_follow c.args.tokens.now c.loop-next.next (after_comma (length c.args.tokens.now) c.next_part-part.result.end) c.in-Some.at c.next_part-part.result.end _ c.in-Some.is c.loop-next.invariant.within c.next_part-part.ensures.exact c.next_part-part.ensures.within (ap (option_map named) (sym c.in_default-operand.is) ∙ c.next_part-part.ensures.operand) refl)
    c.loop-next.invariant.so_far

pub loop-next-preserved : goal.loop-next-preserved
loop-next-preserved c = record {
  so_far = looks_more c.args.self.now c.loop-next.found c.looked_on-found.result (named c.in-Some-operand.operand) _ _ _
      (parts_follow c.args.tokens.now c.loop-next.next c.after_comma-next.result c.in-Some.at c.next_part-part.result.end _ c.in-Some.is c.loop-next.invariant.within c.next_part-part.ensures.exact c.next_part-part.ensures.within (ap (option_map named) (sym c.in-Some-operand.is) ∙ c.next_part-part.ensures.operand) c.after_comma-next.ensures)
      c.looked_on-found.ensures c.loop-next.invariant.so_far;
  within = place_within (length c.args.tokens.now) c.next_part-part.result.end c.after_comma-next.result c.after_comma-next.ensures;
}
