use Rattle.std.proofs.Common.{inl, inr, sym, ap, ◌∙◌}
use Rattle.std.proofs.lemmas.Bool.{cases_eq}
use Rattle.rv_gate.specs.Word.{has, word_of}
use Rattle.rv_pla.specs.Pla.{entry}
use Rattle.rv_pla.specs.FreeEntries.{is_dont_care}
use Rattle.rv_cube.specs.Distance.{put}
use Rattle.rv_cube.proofs.Symbols.{has_put-same, has_put-other}
use Rattle.rv_exorlink.proofs.free.free_at.Goals as goal

pub loop-output-preserved : goal.loop-output-preserved
loop-output-preserved c output on =
    let old = c.loop-output.outs in
    let k = c.loop-output.output in
    let b = c.is_dont_care.result in
    let told = ap (λ s. has s output) (sym c.put-outs.ensures) ∙ on in
    elim (cases_eq output k) [
      | inl here ↦
          ap (λ k. is_dont_care (entry c.args.pla.now (word_of c.args.pla.now.inputs c.args.number) k)) here
          ∙ sym (c.is_dont_care.ensures ∙ ap is_dont_care c.value.ensures)
          ∙ sym (has_put-same old k b)
          ∙ ap (λ j. has (put old k b) j) (sym here)
          ∙ told
      | inr other ↦ c.loop-output.invariant output (sym (has_put-other old k output b other) ∙ told)
    ]
