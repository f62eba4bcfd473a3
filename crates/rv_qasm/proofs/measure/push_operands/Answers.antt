use Rattle.std.proofs.Common.{◌∙◌, ◌∷◌, [], ap, sym, arith, map, length, option_map, refl}
use Rattle.std.proofs.lemmas.List.{length-map, map-append}
use Rattle.rv_qasm.specs.Registers.{operands_in}
use Rattle.rv_qasm.specs.inside.Parts.{parts_at, after_comma}
use Rattle.rv_qasm.specs.inside.Views.{named}
use Rattle.rv_qasm.proofs.inside.OperandLaws.{exactly, exactly_beyond, exactly_more, parts_follow, place_within}
use Rattle.rv_qasm.proofs.measure.push_operands.Goals.{then-len-size+in_ok-push, else-len-size}
use Rattle.rv_qasm.proofs.measure.push_operands.Goals as goal

pub returns-in_default-operand-clause-gives : goal.returns-in_default-operand-clause-gives
returns-in_default-operand-clause-gives c =
    c.loop-next.invariant.so_far
    ∙ ap (exactly c.args.size (map named c.loop-next.operands.items) c.loop-next.is_more)
    (parts_follow c.args.tokens.now c.loop-next.next (after_comma (length c.args.tokens.now) c.next_part-part.result.end) c.in-Some.at c.next_part-part.result.end _ c.in-Some.is c.loop-next.invariant.within c.next_part-part.ensures.exact c.next_part-part.ensures.within (ap (option_map named) (sym c.in_default-operand.is) ∙ c.next_part-part.ensures.operand) refl)

pub loop-next-preserved : goal.loop-next-preserved
loop-next-preserved c =
    let rest = operands_in (parts_at c.after_comma-next.result c.args.tokens.now) in
    let follow = parts_follow c.args.tokens.now c.loop-next.next c.after_comma-next.result c.in-Some.at c.next_part-part.result.end _ c.in-Some.is c.loop-next.invariant.within c.next_part-part.ensures.exact c.next_part-part.ensures.within (ap (option_map named) (sym c.in-Some-operand.is) ∙ c.next_part-part.ensures.operand) c.after_comma-next.ensures in
    let so_far = c.loop-next.invariant.so_far ∙ ap (exactly c.args.size (map named c.loop-next.operands.items) c.loop-next.is_more) follow in
    record {
      so_far = elim c.if-len-size.branch [
        | then-len-size+in_ok-push w ↦
            so_far
            ∙ exactly_more c.args.size (map named c.loop-next.operands.items) (map named c.if-len-size.operands.items) (named c.in-Some-operand.operand) c.loop-next.is_more c.if-len-size.is_more rest
            (ap (λ v. map named v.items) w.operands-is ∙ ap (map named) w.in_ok-push.ensures.ok ∙ map-append named c.loop-next.operands.items (c.in-Some-operand.operand ∷ [])) w.is_more-is
        | else-len-size w ↦
            so_far
            ∙ exactly_beyond c.args.size (map named c.loop-next.operands.items) (map named c.if-len-size.operands.items) (named c.in-Some-operand.operand) c.loop-next.is_more c.if-len-size.is_more rest
            (omega (arith, length-map c.loop-next.operands.items named)) (ap (λ v. map named v.items) w.operands-is) w.is_more-is
      ];
      within = place_within (length c.args.tokens.now) c.next_part-part.result.end c.after_comma-next.result c.after_comma-next.ensures;
    }
