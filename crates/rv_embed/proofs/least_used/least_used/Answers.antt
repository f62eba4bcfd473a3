use Rattle.std.proofs.Common.{◌^◌, ℕ, get_or, arith}
use Rattle.rv_embed.proofs.TableLemmas.{pow_le}
use Rattle.rv_embed.proofs.inside.Walking.{row_care-lt, row_want-lt, row_want-fits, goes_on, wraps, shrinks}
use Rattle.rv_embed.proofs.least_used.least_used.Goals as goal

pub after-next-requires-clause-care : goal.after-next-requires-clause-care
after-next-requires-clause-care c =
    let l = row_care-lt c.args.outputs c.args.row c.requires.row in
    let p = pow_le c.args.outputs 16 c.requires.few in
    omega arith

pub words-preserved-then-cursor-next : goal.words-preserved-then-cursor-next
words-preserved-then-cursor-next c =
    goes_on c.args.outputs c.args.row c.args.counts.now c.words.cursor c.after-next.result c.requires.row c.words.invariant c.after-next.ensures (omega arith) c.if-cursor-next.true

pub words-preserved : goal.words-preserved
words-preserved c =
    wraps c.args.outputs c.args.row c.args.counts.now c.words.cursor c.after-next.result c.requires.row c.words.invariant c.after-next.ensures (omega arith) c.if-cursor-next.false

pub words-smaller : goal.words-smaller
words-smaller c =
    let w = wraps c.args.outputs c.args.row c.args.counts.now c.words.cursor c.after-next.result c.requires.row c.words.invariant c.after-next.ensures (omega arith) c.if-cursor-next.false in
    let l = w.level c.args.row.want (row_want-lt c.args.outputs c.args.row c.requires.row) (row_want-fits c.args.outputs c.args.row c.requires.row) in
    let size : ℕ = 2 ^ c.args.outputs in
    shrinks (get_or c.args.counts.now c.args.row.want 0) c.words.cursor.level size c.words.cursor.word c.args.row.want (omega arith) c.words.invariant.within
