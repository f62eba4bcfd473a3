use Rattle.std.proofs.Common.{◌≡◌, ℕ, ◌^◌, ◌<◌, map, ◌∙◌, ap, arith}
use Rattle.std.specs.List.{range_with_len}
use Rattle.std.proofs.lemmas.List.Elements.{All-push}
use Rattle.rv_gate.specs.Word.{number_of, word_of}
use Rattle.rv_pla.specs.Pla.{TwoLevel}
use Rattle.rv_pla.specs.Zeros.{output_word, zeros}
use Rattle.rv_gate.proofs.Ranges.{pushed_more}
use Rattle.rv_embed.specs.Filled.{row}
use Rattle.rv_embed.specs.inside.Rows.{entries_row}
use Rattle.rv_embed.specs.declared.row.Row.{Row}
use Rattle.rv_embed.proofs.inside.Walking.{want_own}
use Rattle.rv_embed.proofs.zeros.zeros.Goals as goal

abbrev output_at : TwoLevel → ℕ → ℕ
output_at pla x = number_of (output_word pla (word_of pla.inputs x))

-- what the row wants is the output word
wanted : (pla : TwoLevel) (x : ℕ) (r : Row) → r ≡ entries_row (row pla x) pla.outputs → r.want ≡ output_at pla x
wanted pla x r e = ap (λ (t : Row). t.want) e ∙ want_own pla x

pub loop-input-preserved : goal.loop-input-preserved
loop-input-preserved c = record {
  table = pushed_more (output_at c.args.pla.now) c.loop-input.input c.row_at-row.result.want c.loop-input.outputs.items c.push.new.self.items c.in_ok-push.ensures.items c.loop-input.invariant.table
      (wanted c.args.pla.now c.loop-input.input c.row_at-row.result c.row_at-row.ensures.value);
  below = rw c.in_ok-push.ensures.items (All-push (λ y. y < 2 ^ c.args.pla.now.outputs) c.loop-input.outputs.items c.row_at-row.result.want c.loop-input.invariant.below c.row_at-row.ensures.want);
}

pub returns-clause-table : goal.returns-clause-table
unfolding zeros
returns-clause-table c =
    let all : c.loop-input.input ≡ 2 ^ c.args.pla.now.inputs = omega arith in
    c.loop-input.invariant.table ∙ ap (λ n. map (output_at c.args.pla.now) (range_with_len 0 n)) all
