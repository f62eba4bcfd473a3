use Rattle.std.proofs.Common.{◌≡◌, ◌∙◌, take, length-set, sym, arith}
use Rattle.std.proofs.lemmas.List.{take_all}
use Rattle.std.proofs.lemmas.List.Elements.{All-same}
use Rattle.rv_gate.specs.Word.{bit_of}
use Rattle.rv_many.specs.Column.{column}
use Rattle.rv_resynth.proofs.inside.Blocks.{put_more}
use Rattle.rv_resynth.proofs.block.put_in.Goals as goal

pub loop-bit-preserved : goal.loop-bit-preserved
loop-bit-preserved c =
    let lt = c.loop-bit-test.true in
    let at = c.requires.within c.loop-bit.bit 0 lt in
    let same = c.loop-bit.invariant.lines in
    record {
      lines = length-set c.loop-bit.rows c.from.result c.number_row.result ∙ c.loop-bit.invariant.lines;
      words = rw c.from.ensures
          (put_more c.args.lines.now c.args.block c.loop-bit.rows c.loop-bit.bit c.number_row.result lt
          (omega arith) c.number_row.ensures c.loop-bit.invariant.words);
    }

pub returns-clause-words : goal.returns-clause-words
returns-clause-words c word j small is =
    let lines = c.args.lines.now in
    let past = c.loop-bit-test.false in
    All-same (λ line. bit_of (column c.loop-bit.rows j) line ≡ bit_of word line) lines (take c.loop-bit.bit lines)
    (sym (take_all c.loop-bit.bit lines (omega arith))) (c.loop-bit.invariant.words word j small is)
