use Rattle.std.proofs.Common.{◌∙◌, ◌≤◌, ◌++◌, ◌∷◌, ℕ, List, [], ap, length, take, arith, rules}
use Rattle.std.proofs.lemmas.List.{take_more_set}
use Rattle.rv_simulate.proofs.inside.Filling.{answer_kept, answer_whole}
use Rattle.rv_simulate.proofs.answers.set_answer.Goals.{then-all, else-all}
use Rattle.rv_simulate.proofs.answers.set_answer.Goals as goal

pub returns-clause-answer : goal.returns-clause-answer
returns-clause-answer c =
    let circuit = c.args.circuit.now in
    let text : List ℕ = c.set_digits.new.text in
    let end : ℕ = c.from-end.result in
    let few : length c.if-all.asked ≤ 64 = search rules in
    take_more_set text end 10 (omega (arith, few))
    ∙ ap (λ digits. digits ++ 10 ∷ []) (ap (λ n. take n text) (c.from-end.ensures ∙ c.len.ensures) ∙ c.set_digits.ensures.digits)
    ∙ elim c.if-all.branch [
      | then-all w ↦ answer_whole circuit c.args.all c.args.word c.if-all.asked c.requires.lines w.if-all.true w.asked-is
      | else-all w ↦ answer_kept circuit c.args.all c.args.word c.if-all.asked w.if-all.false (w.asked-is ∙ w.outputs-asked.ensures)
    ]
