use Rattle.std.proofs.Common.{◌≡◌, ℕ, ◌+◌, ◌-◌, ◌<◌, ◌∙◌, [], length, get_or, ap, sym, inl, inr, arith}
use borrow.Rule.Slice.PartMut.{put_mid}
use Rattle.std.proofs.lemmas.Bool.{cases_lt}
use Rattle.std.proofs.lemmas.List.Edits.{length-between}
use Rattle.rv_gate.specs.Word.{bit_of}
use Rattle.rv_many.specs.Column.{row_bit}
use Rattle.rv_many.proofs.Columns.{blank}
use Rattle.rv_many.proofs.Transposed.{bit_of-column_any, column_is, part_before, part_in, part_long}
use Rattle.rv_many.proofs.words.set_rows.Goals as goal

pub loop-line-preserved : goal.loop-line-preserved
loop-line-preserved c =
    let rows = c.loop-line.rows in
    let line = c.loop-line.line in
    let kept = c.loop-line.invariant in
    let eight = c.set_eight_rows.new.rows in
    let k : ℕ = c.min-end.result - line in
    let part = length-between rows line c.min-end.result (omega (arith, c.min-end.ensures)) in
    let long : length eight ≡ k = c.set_eight_rows.ensures.lines ∙ part in
    record {
      lines = part_long line k rows eight (omega (arith, c.min-end.ensures)) long ∙ kept.lines;
      bits = λ i j lt within lj.
          bit_of-column_any (put_mid line k rows eight) i j
          ∙ (elim (cases_lt i line) [
            | inl before ↦
                ap (λ row. row_bit row j) (part_before line k i rows eight blank (omega arith) before)
                ∙ sym (bit_of-column_any rows i j)
                ∙ kept.bits i j before (omega arith) lj
            | inr from ↦
                let at : line + (i - line) ≡ i = omega arith in
                let inside : i - line < length eight = omega (arith, long, within, part_long line k rows eight (omega (arith, c.min-end.ensures)) long, c.min-end.ensures) in
                ap (λ n. row_bit (get_or (put_mid line k rows eight) n blank) j) (sym at)
                ∙ ap (λ row. row_bit row j) (part_in line k (i - line) rows eight blank (omega arith) inside)
                ∙ sym (bit_of-column_any eight (i - line) j)
                ∙ c.set_eight_rows.ensures.bits (i - line) j (omega (arith, c.set_eight_rows.ensures.lines)) lj
                ∙ ap (bit_of (get_or c.args.words.now j [])) at
          ]);
    }

pub returns-clause-words : goal.returns-clause-words
returns-clause-words c j lt =
    column_is c.args.words.now c.loop-line.rows j (c.requires.lines j [] lt ∙ sym c.loop-line.auto.rows)
    (λ line h. c.loop-line.invariant.bits line j (omega arith) h lt)
