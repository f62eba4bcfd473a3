use Rattle.std.proofs.Common.{◌≡◌, ◌^◌, ◌<◌, ℕ, List, length, get_or, ◌∙◌, ap, arith}
use Rattle.std.proofs.lemmas.List.FromFn.{length-map-range_with_len, get_or-map-range_with_len}
use Rattle.rv_pla.specs.FreeEntries.{is_dont_care}
use Rattle.rv_pla.specs.Pla.{TwoLevel}
use Rattle.rv_pla.specs.Zeros.{bit_for}
use Rattle.rv_embed.specs.Filled.{row}
use Rattle.rv_embed.specs.inside.Rows.{entries_row, is_set, rows_of}
use Rattle.rv_embed.specs.declared.row.Row.{Row}
use Rattle.rv_embed.proofs.inside.Walking.{bits-lt}
use Rattle.rv_embed.proofs.row.row_at.Goals as goal

row_in : (pla : TwoLevel) (rows : List Row) (x : ℕ) (d : Row) → rows ≡ rows_of pla → x < 2 ^ pla.inputs → get_or rows x d ≡ entries_row (row pla x) pla.outputs
row_in pla rows x d e lt = ap (λ l. get_or l x d) e ∙ get_or-map-range_with_len (λ k. entries_row (row pla k) pla.outputs) 0 (2 ^ pla.inputs) x x d lt (omega arith)

pub bounds-rows-input : goal.bounds-rows-input
bounds-rows-input c =
    let len = ap length c.requires.rows ∙ length-map-range_with_len (λ k. entries_row (row c.args.pla.now k) c.args.pla.now.outputs) 0 (2 ^ c.args.pla.now.inputs) in
    let lt = c.requires.within in
    omega arith

pub returns-clause-value : goal.returns-clause-value
returns-clause-value c = row_in _ _ _ _ c.requires.rows c.requires.within

pub returns-clause-care : goal.returns-clause-care
returns-clause-care c = omega (arith, ap (λ (r : Row). r.care) (returns-clause-value c), bits-lt is_set (row c.args.pla.now c.args.input) c.args.pla.now.outputs)

pub returns-clause-want : goal.returns-clause-want
returns-clause-want c = omega (arith, ap (λ (r : Row). r.want) (returns-clause-value c), bits-lt bit_for (row c.args.pla.now c.args.input) c.args.pla.now.outputs)

pub returns-clause-free : goal.returns-clause-free
returns-clause-free c = omega (arith, ap (λ (r : Row). r.free) (returns-clause-value c), bits-lt is_dont_care (row c.args.pla.now c.args.input) c.args.pla.now.outputs)
