use Rattle.std.proofs.Common.{◌≡◌, ℕ, List, [], length, get_or, sym, ◌∙◌, ap, arith}
use Rattle.rv_gate.specs.Word.{has}
use Rattle.rv_mct.specs.Blocks.{is_free, rising}
use Rattle.rv_mct.proofs.inside.LongFlips.{length-rising}
use Rattle.rv_mct.proofs.Walks.{rising_free}
use Rattle.rv_mct.proofs.lines.first_free.Goals as goal

pub unreachable-requires : goal.unreachable-requires
unreachable-requires c =
    let free = rising_free c.free_set.result c.args.care c.args.target c.args.lines c.requires.few c.free_set.ensures in
    let none : rising (has c.free_set.result) 64 ≡ [] = c.in-None.ensures.none in
    let e = ap length (sym free ∙ none) in
    absurd (omega (arith, c.requires.some, e, length-rising (is_free c.args.care c.args.target) c.args.lines))

pub returns : goal.returns
returns c =
    let free = rising_free c.free_set.result c.args.care c.args.target c.args.lines c.requires.few c.free_set.ensures in
    ap (λ (l : List ℕ). get_or l 0 0) (sym c.in-Some.ensures.some ∙ free)
