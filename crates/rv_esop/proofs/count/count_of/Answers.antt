use Rattle.std.proofs.Common.{◌≡◌, ◌<◌, ℕ, cond, ap, sym, ◌∙◌, arith}
use Rattle.rv_gate.specs.Word.{has}
use Rattle.rv_esop.proofs.inside.Counts.{count_next, count_end}
use Rattle.rv_esop.proofs.count.count_of.Goals as goal
use Rattle.rv_esop.proofs.count.count_of.Goals.{then-has, else-has}

pub loop-output-preserved : goal.loop-output-preserved
loop-output-preserved c =
    let i = c.loop-output.invariant in
    let h : c.loop-output.output < c.args.outputs = omega arith in
    let next = count_next c.args.inputs c.args.cube c.loop-output.output c.args.outputs h in
    elim c.if-has.branch [
      | then-has w ↦
          let one : cond {A = ℕ} (has c.args.cube.outs c.loop-output.output) 1 0 ≡ 1 =
          ap (λ t. cond t 1 0) (sym c.has.ensures ∙ w.if-has.true) in
          (let e = w.count-is in record
          { so_far = let s = i.so_far in omega arith; few = let f = i.few in omega arith })
      | else-has w ↦
          let none : cond {A = ℕ} (has c.args.cube.outs c.loop-output.output) 1 0 ≡ 0 =
          ap (λ t. cond t 1 0) (sym c.has.ensures ∙ w.if-has.false) in
          (let e = w.count-is in record
          { so_far = let s = i.so_far in omega arith; few = let f = i.few in omega arith })
    ]

pub returns-clause-value : goal.returns-clause-value
returns-clause-value c =
    let s = c.loop-output.invariant.so_far in
    let e = count_end c.args.inputs c.args.cube c.loop-output.output c.args.outputs (omega arith) in
    omega arith
