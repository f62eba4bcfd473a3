use Rattle.std.proofs.Common.{◌≡◌, ◌∙◌, length, set, sym, ap, arith}
use Rattle.std.proofs.lemmas.List.Edits.{map_over_more}
use Rattle.std.proofs.lemmas.List.Elements.{All-set}
use Rattle.rv_gate.specs.Gate.{run}
use Rattle.rv_gate.proofs.inside.GateLemmas.{length-run}
use Rattle.rv_many.proofs.words.run_each.Goals as goal

pub loop-word-preserved : goal.loop-word-preserved
loop-word-preserved c =
    let circuit = c.args.circuit.now in
    let words = c.loop-word.words in
    let i = c.loop-word.word-index in
    let word = c.word-item.result in
    let is : c.run.result ≡ run circuit.gates word = c.run.ensures ∙ ap (run circuit.gates) (sym c.word-item.is) in
    record {
      lines = All-set (λ w. length w ≡ length circuit.names) words i c.run.result (ap length is ∙ length-run circuit.gates word ∙ ap length c.word-item.is ∙ c.loop-word.invariant.lines i word (omega (arith, c.loop-word.auto.words, c.loop-word-test.true))) c.loop-word.invariant.lines;
      words = ap (set words i) is ∙ map_over_more (run circuit.gates) c.args.words.now words i word c.loop-word-test.true c.loop-word.invariant.words c.word-item.is;
    }
