use Rattle.std.proofs.Common.{◌≡◌, ◌∙◌, [], length, ap, arith}
use Rattle.std.proofs.lemmas.List.Elements.{All-replicate, All-set}
use Rattle.rv_many.specs.Column.{column}
use Rattle.rv_many.proofs.Columns.{length-column}
use Rattle.rv_many.proofs.Transposed.{set_below}
use Rattle.rv_perm.specs.Perm.{permuted}
use Rattle.rv_compare.proofs.inside.Images.{length-permuted}
use Rattle.rv_compare.proofs.perm.permute.Goals as goal

pub loop-place-init : goal.loop-place-init
loop-place-init c =
    let lines = c.args.perm.now.lines in
    record {
      lines = All-replicate (λ word. length word ≡ lines) 256 c.word_of-words.result (ap length c.word_of-words.ensures ∙ length-column c.args.rows.now 0 ∙ c.requires);
      images = λ k below. absurd (omega (arith, below));
    }

pub loop-place-preserved : goal.loop-place-preserved
loop-place-preserved c =
    let perm = c.args.perm.now in
    let rows = c.args.rows.now in
    let words = c.loop-place.words in
    let place = c.loop-place.place in
    let is : c.image.result ≡ permuted perm (column rows place) = c.image.ensures ∙ ap (permuted perm) c.word_of.ensures in
    record {
      lines = All-set (λ word. length word ≡ perm.lines) words place c.image.result (ap length is ∙ length-permuted perm (column rows place)) c.loop-place.invariant.lines;
      images = set_below (λ k word. word ≡ permuted perm (column rows k)) words place c.image.result [] (omega arith) c.loop-place.invariant.images is;
    }
