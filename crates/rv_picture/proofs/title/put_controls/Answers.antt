use Rattle.std.proofs.Common.{[], ◌∷◌, ◌++◌, refl, ap, sym, ◌∙◌, arith, w64, length, append_assoc}
use Rattle.std.specs.Int.{trailing_zeros}
use Rattle.std.proofs.lemmas.List.{append-nil}
use Rattle.rv_io.proofs.Adding.{adds_then, adds_as, adds_none}
use Rattle.rv_gate.specs.Word.{has}
use Rattle.rv_gate.proofs.LowestLine.{lowest_line}
use Rattle.rv_text.specs.Spelled.{more_words}
use Rattle.rv_text.proofs.Pieces.{more_words-append}
use Rattle.rv_real.specs.Text.{control_word, controls_from, name_at}
use Rattle.rv_real.proofs.ControlWalk.{lowest_control, rest_within, no_controls}
use Rattle.rv_real.proofs.GateTexts.{one_word}
use Rattle.rv_picture.specs.Titles.{written_names}
use Rattle.rv_picture.proofs.TitleTexts.{written_count}
use Rattle.rv_picture.proofs.title.put_controls.Goals as goal

pub loop-left-smaller : goal.loop-left-smaller
loop-left-smaller g c = (lowest_line c.loop-left.left (omega arith) (omega arith)).fewer

pub put_operand-requires : goal.put_operand-requires
put_operand-requires g c = c.loop-left.invariant.within _ (lowest_line c.loop-left.left (omega arith) (omega arith)).there

pub loop-left-init : goal.loop-left-init
loop-left-init g c = record { within = c.requires.care_in; done = []; parts = refl; adds = adds_none _ _ }

pub loop-left-preserved : goal.loop-left-preserved
loop-left-preserved g c =
    let before = c.loop-left.invariant in
    let names = written_names c.args.names.now in
    let line = trailing_zeros w64 c.loop-left.left in
    let lowest = lowest_line c.loop-left.left (omega arith) (omega arith) in
    let word = control_word (name_at names line) (has c.args.want line) in
    let count = written_count c.args.names.now in
    let few = c.requires.few in
    let there = before.within line lowest.there in
    let next = lowest_control c.loop-left.left line _ c.args.want lowest names (omega (arith, count, there)) (omega (arith, count, few)) in
    record {
      within = rest_within c.loop-left.left line _ c.args.want lowest (length c.args.names.now) before.within (omega arith);
      done = before.done ++ word ∷ [];
      parts = append_assoc before.done (word ∷ []) _ ∙ ap (λ rest. before.done ++ rest) (sym next) ∙ before.parts;
      adds = adds_as (sym (more_words-append before.done (word ∷ [])))
          (adds_then before.adds (adds_as (ap (λ wanted. 32 ∷ control_word (name_at names line) wanted) c.has.ensures ∙ one_word word) c.put_operand.ensures));
    }

pub returns : goal.returns
returns g c =
    let names = written_names c.args.names.now in
    let done = c.loop-left.invariant.done in
    let none = ap (λ left. controls_from 0 names left c.args.want) c.loop-left-test.false ∙ no_controls 0 names c.args.want in
    adds_as (ap more_words (sym (append-nil done) ∙ ap (λ rest. done ++ rest) (sym none) ∙ c.loop-left.invariant.parts)) c.loop-left.invariant.adds
