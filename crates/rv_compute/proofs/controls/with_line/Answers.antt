use Rattle.std.proofs.Common.{rules, ap, sym, ◌∙◌, not}
use Rattle.rv_compute.proofs.inside.Asking.{beq-true, beq-false, asked_again, asked_otherwise, asked_as_wanted, asked_changed, serve_as_wanted, serve_changed}
use Rattle.rv_compute.proofs.controls.with_line.Goals as goal

pub returns-then-as_wanted-clause-asks : goal.returns-then-as_wanted-clause-asks
returns-then-as_wanted-clause-asks c word lt =
    asked_again c.args.care c.args.want c.args.line c.args.bit word lt (search rules)
    (sym c.has.ensures ∙ beq-true c.has.result c.args.bit c.if-as_wanted.true)

pub returns-else-as_wanted-clause-asks : goal.returns-else-as_wanted-clause-asks
returns-else-as_wanted-clause-asks c word lt =
    asked_otherwise c.args.care c.args.want c.args.line c.args.bit word lt (search rules)
    (ap not (sym c.has.ensures) ∙ beq-false c.has.result c.args.bit c.if-as_wanted.false)

pub returns-then-as_wanted-2-clause-asks : goal.returns-then-as_wanted-2-clause-asks
returns-then-as_wanted-2-clause-asks c word lt =
    asked_as_wanted c.args.care c.args.want c.args.line c.args.bit word c.requires lt (search rules)
    (sym c.has.ensures ∙ beq-true c.has.result c.args.bit c.if-as_wanted-2.true)

pub returns-else-as_wanted-2-clause-asks : goal.returns-else-as_wanted-2-clause-asks
returns-else-as_wanted-2-clause-asks c word lt =
    asked_changed c.args.care c.args.want c.args.line c.args.bit word c.requires lt (search rules)
    (ap not (sym c.has.ensures) ∙ beq-false c.has.result c.args.bit c.if-as_wanted-2.false)

pub returns-then-as_wanted-2-clause-serves : goal.returns-then-as_wanted-2-clause-serves
returns-then-as_wanted-2-clause-serves c lines target lt apart serve =
    serve_as_wanted lines target c.args.care c.args.want c.args.line c.requires lt apart serve

pub returns-else-as_wanted-2-clause-serves : goal.returns-else-as_wanted-2-clause-serves
returns-else-as_wanted-2-clause-serves c lines target lt apart serve =
    serve_changed lines target c.args.care c.args.want c.args.line c.requires lt apart serve
