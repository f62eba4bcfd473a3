use Rattle.std.proofs.Common.{◌∙◌, sym}
use Rattle.std.proofs.lemmas.Bool.{false≢true}
use Rattle.rv_check.specs.inside.Units.{units_of}
use Rattle.rv_check.proofs.inside.Places.{kept_more-moved}
use Rattle.rv_check.proofs.units.Units.pass.Goals as goal

pub returns-in_default : goal.returns-in_default
returns-in_default c = record {
  passed = λ yes. c.move_each.ensures ∙ sym (kept_more-moved c.args.op (units_of c.args.self.now) c.in_default.not-H);
  stays = λ no. absurd (false≢true (sym no));
}
