use Rattle.std.proofs.Common.{refl, true, false}
use Rattle.rv_real.proofs.inside.ShortTexts.{none_yet}
use Rattle.rv_real.proofs.texts.Texts.none.Goals as goal

pub returns : goal.returns
returns c = λ names. record { plain_sized = refl; negated_sized = refl; plain = none_yet names true; negated = none_yet names false }
