use Rattle.std.proofs.Common.{◌∙◌, ap}
use Rattle.rv_gate.specs.Gate.{holds, Within}
use Rattle.rv_gate.proofs.inside.WordLemmas.{length_seen, held}
use Rattle.rv_gate.proofs.word.Word.holds.Goals as goal

pub returns : goal.returns
returns c =
    let few : Within c.args.care c.self.inside.len = rw (length_seen _ _ _ c.self.view_is) at c.requires in
    held c.self.inside.len c.self.inside.ones c.args.care c.args.want few ∙ ap (holds c.args.care c.args.want) c.self.view_is
