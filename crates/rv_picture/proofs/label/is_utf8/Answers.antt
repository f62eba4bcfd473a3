use Rattle.std.proofs.Common.{sym}
use Rattle.rv_picture.proofs.Utf8.{none, utf8_found}
use Rattle.rv_picture.proofs.label.is_utf8.Goals as goal

pub returns-in-Ok : goal.returns-in-Ok
returns-in-Ok c = sym (utf8_found c.args.label.now c.in-Ok.ensures.cases.1)

pub returns-in-Err : goal.returns-in-Err
returns-in-Err c = sym (none c.args.label.now c.in-Err.ensures.cases.0)
