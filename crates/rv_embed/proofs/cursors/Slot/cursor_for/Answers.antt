use Rattle.std.proofs.Common.{◌^◌, ℕ, subst, sym, ◌∙◌}
use Rattle.std.proofs.lemmas.Bool.{and_parts, eqb-true}
use Rattle.rv_embed.specs.inside.Rows.{IsCursor}
use Rattle.rv_embed.proofs.inside.Walking.{starts}
use Rattle.rv_embed.proofs.cursors.Slot.cursor_for.Goals as goal

pub returns-then-is_of : goal.returns-then-is_of
returns-then-is_of c =
    let same = and_parts _ _ (sym c.is_of.ensures ∙ c.if-is_of.true) in
    let P : ℕ → Type 0 = λ a. IsCursor a c.args.self.want (2 ^ c.args.outputs) c.args.counts.now c.args.self.cursor in
    let Q : ℕ → Type 0 = λ b. IsCursor c.args.row.care b (2 ^ c.args.outputs) c.args.counts.now c.args.self.cursor in
    subst Q (eqb-true _ _ same.1) (subst P (eqb-true _ _ same.0) c.requires.right)

pub returns-else-is_of : goal.returns-else-is_of
returns-else-is_of c = starts c.args.outputs c.args.row c.args.counts.now c.requires.row
