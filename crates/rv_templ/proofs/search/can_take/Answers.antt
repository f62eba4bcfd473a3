use Rattle.std.proofs.Common.{ℕ, ◌≤◌, List, length, ap, sym, ◌∙◌, arith}
use Rattle.std.proofs.lemmas.Bool.{eqb-false}
use Rattle.rv_gate.specs.Word.{has}
use Rattle.rv_gate.specs.declared.gate.Shape.{Shape}
use Rattle.rv_templ.specs.Images.{turned}
use Rattle.rv_templ.proofs.WindowLaws.{turned_template, length-turned}
use Rattle.rv_templ.proofs.inside.PruningLaws.{drop_plain, drop_span, drop_used, drop_role}
use Rattle.rv_templ.proofs.search.can_take.Goals as goal

room_turned : (r : ℕ) (window t : List Shape) → length window ≤ length t → length window ≤ length (turned r t)
room_turned r window t h = omega (arith, h, length-turned r t)

pub returns-then-not-mine-clause-dropped : goal.returns-then-not-mine-clause-dropped
returns-then-not-mine-clause-dropped c off =
    drop_plain c.args.window.now (turned c.args.r c.args.template.now) c.args.to c.args.i c.args.v c.requires.six c.requires.old
    (ap (λ s. has s c.args.i) (sym c.requires.own) ∙ sym c.has-mine.ensures ∙ c.if-not-mine.true) (eqb-false c.args.v 0 (sym c.is.ensures ∙ off))

pub returns-then-not-inside-clause-dropped : goal.returns-then-not-inside-clause-dropped
returns-then-not-inside-clause-dropped c off =
    drop_span c.args.window.now (turned c.args.r c.args.template.now) c.args.to c.args.i c.args.v (turned_template c.args.r c.args.template.now c.requires.template)
    (room_turned c.args.r c.args.window.now c.args.template.now c.requires.room) c.requires.six c.requires.old
    (ap (λ s. has s c.args.i) (sym c.requires.own) ∙ sym c.has-mine.ensures ∙ c.if-not-mine.false)
    (ap (λ s. has s c.args.v) (sym c.requires.touched) ∙ sym c.has-inside.ensures ∙ c.if-not-inside.true)

pub returns-then-used-clause-dropped : goal.returns-then-used-clause-dropped
returns-then-used-clause-dropped c off =
    let u = c.is_used-used.ensures.used c.if-used.true in
    drop_used c.args.window.now (turned c.args.r c.args.template.now) c.args.to c.args.i c.args.v u.0 c.requires.six c.requires.old
    (ap (λ s. has s c.args.i) (sym c.requires.own) ∙ sym c.has-mine.ensures ∙ c.if-not-mine.false) u.1
    (ap (λ s. has s u.0) (sym c.requires.own) ∙ u.2) u.3

pub returns-clause-dropped : goal.returns-clause-dropped
returns-clause-dropped c off =
    let u = c.same_roles.ensures.differs off in
    drop_role c.args.window.now (turned c.args.r c.args.template.now) c.args.to c.args.i c.args.v u.0 (turned_template c.args.r c.args.template.now c.requires.template)
    (room_turned c.args.r c.args.window.now c.args.template.now c.requires.room) c.requires.six c.requires.old
    (ap (λ s. has s c.args.i) (sym c.requires.own) ∙ sym c.has-mine.ensures ∙ c.if-not-mine.false) u.1 u.2
