use Rattle.std.proofs.Common.{◌≡◌, ◌^◌, ◌<◌, ℕ, Bool, List, length, get_or, ap, ◌∙◌, arith}
use Rattle.std.proofs.lemmas.Grind.{get_or_default_zero}
use Rattle.rv_gate.specs.Word.{has}
use Rattle.rv_pla.specs.inside.Table.{entry_told}
use Rattle.rv_pla.proofs.inside.Entries.{told_entry}
use Rattle.rv_pla.proofs.pla.Pla.value.Goals as goal

-- an entry that was read
read : (table : List ℕ) (x j set : ℕ) (b : Bool) → x < length table → b ≡ has set j → set ≡ get_or table x set → b ≡ has (get_or table x 0) j
read table x j set b lt is at = is ∙ ap (λ s. has s j) (at ∙ get_or_default_zero table x set lt)

pub returns : goal.returns
returns c =
    let p = c.self.inside in
    let x : ℕ = c.args.input in
    let j : ℕ = c.args.output in
    let tabled = c.self.invariant.1 in
    let size : x < 2 ^ p.inputs = rw (← c.self.view_is) at c.requires.input_in in
    let first = read p.ones.items x j c.index.result.now c.has-first.result (omega (arith, tabled.first.size)) c.has-first.ensures c.index.ensures in
    let second = read p.others.items x j c.index-2.result.now c.has-second.result (omega (arith, tabled.second.size)) c.has-second.ensures c.index-2.ensures in
    rw (← c.self.view_is)
    (c.told.ensures ∙ ap (λ b. entry_told p.kind b c.has-second.result) first ∙ ap (entry_told p.kind (has (get_or p.ones.items x 0) j)) second
    ∙ told_entry p.kind p.inputs p.outputs p.terms.items p.ones.items p.others.items x j tabled size)
