use Rattle.std.proofs.Common.{◌≡◌, ◌^◌, ℕ, map, ◌++◌, ◌∷◌, [], ◌∙◌, ap, sym, arith}
use Rattle.std.specs.List.{range_with_len}
use Rattle.std.proofs.lemmas.List.FromFn.{map-range_with_len_more}
use Rattle.rv_embed.specs.Filled.{row}
use Rattle.rv_embed.specs.inside.Rows.{entries_row}
use Rattle.rv_embed.specs.declared.row.Row.{Row}
use Rattle.rv_embed.proofs.row.rows_of.Goals as goal

pub loop-input-preserved : goal.loop-input-preserved
loop-input-preserved c =
    let f : ℕ → Row = λ x. entries_row (row c.args.pla.now x) c.args.pla.now.outputs in
    c.in_ok-push.ensures.items ∙ ap (λ l. l ++ c.row_of.result ∷ []) c.loop-input.invariant ∙ ap (λ r. map f (range_with_len 0 c.loop-input.input) ++ r ∷ []) c.row_of.ensures
    ∙ sym (map-range_with_len_more f 0 c.loop-input.input c.loop-input.input (omega arith))

pub returns : goal.returns
returns c =
    let all : c.loop-input.input ≡ 2 ^ c.args.pla.now.inputs = omega arith in
    c.loop-input.invariant ∙ ap (λ n. map (λ x. entries_row (row c.args.pla.now x) c.args.pla.now.outputs) (range_with_len 0 n)) all
