use Rattle.std.proofs.Common.{◌≡◌, length, vec_len, ap, sym, ◌∙◌, arith, rules}
use Rattle.rv_gate.specs.inside.laws.WordLaws.{length-word_of}
use Rattle.rv_gate.specs.Word.{word_of}
use Rattle.rv_tbs.proofs.inside.Loops.{added, flips_at, turned_all}
use Rattle.rv_tbs.proofs.both.inward_step.Goals as goal

pub turning_gates-requires : goal.turning_gates-requires
turning_gates-requires c =
    ap length c.word_at-2.ensures ∙ length-word_of c.lines-lines.result c.inverse_get.result
    ∙ sym (ap length c.word_at.ensures ∙ length-word_of c.lines-lines.result c.args.k)

pub apply_to_inputs-requires : goal.apply_to_inputs-requires
apply_to_inputs-requires c =
    let len : vec_len c.args.gates.now ≡ length c.args.gates.now.items = search rules in
    let lines : c.lines-lines.result ≡ c.args.table.now.lines = c.lines-lines.ensures.value in
    let flips = turned_all c.args.table.now.lines c.args.k c.inverse_get.result _ _ _ (omega (arith, c.lines-lines.ensures.valid.1)) (c.word_at.ensures ∙ ap (λ n. word_of n c.args.k) lines) (c.word_at-2.ensures ∙ ap (λ n. word_of n c.inverse_get.result) lines)
    (added _ _ _ _ _ (c.len-start.ensures ∙ len) c.in_ok-turning_gates.ensures c.deref.ensures.value) in
    record { flips = λ k d h. (flips_at _ _ flips k d h).0; fits = λ k d h. (flips_at _ _ flips k d h).1 }
