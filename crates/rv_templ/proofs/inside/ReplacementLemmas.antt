-- The gates that stand in a window's place, one by one.
use Rattle.std.proofs.Common.{◌≡◌, ℕ, ◌-◌, ◌<◌, ◌≤◌, List, length, get_or, arith}
use Rattle.std.specs.Prelude.{bit_or}
use Rattle.std.proofs.lemmas.List.{get_or-reverse, length-reverse}
use Rattle.rv_templ.specs.Gates.{gate_in}
use Rattle.rv_gate.specs.Gate.{IsGate, controls, wanted}
use Rattle.rv_gate.specs.declared.gate.Shape.{Shape}
use Rattle.rv_gate.specs.declared.gate.Shape.TheVariants.{Flip}
use Rattle.rv_templ.specs.Images.{target_of, span, turned, new_line, renamed, difference, image_of, fresh_care, fresh_want, replacement}
use Rattle.rv_templ.specs.inside.Replaced.{Replaced}
use Rattle.rv_templ.proofs.WindowLaws.{replaces, gates_at, turned_template, length-turned, span_turned}
use Rattle.rv_templ.proofs.LoopSteps.{gate_read}
use Rattle.rv_templ.proofs.inside.TestSteps.{length-turned_others, other_at}

pub length-replacement : (window t : List Shape) (r : ℕ) (to : List ℕ) → length (replacement window (turned r t) to) ≡ length t - length window
length-replacement window t r to = grind (arith, fresh_care, fresh_want, length-reverse, length-turned_others)

pub other_is : (window t : List Shape) (r i : ℕ) (to : List ℕ) → length window ≤ length t → i < length t - length window
    → gate_in (replacement window (turned r t) to) i ≡ image_of to (fresh_care window (span (turned r t)) to) (fresh_want window (span (turned r t)) to) (gate_in (turned r t) (length t - 1 - i))
other_is window t r i to room h = grind (arith, length-turned_others, get_or-reverse, other_at, length-turned)

pub other_gate : (window t : List Shape) (r i : ℕ) (to : List ℕ) → Replaced window t r to → i < length t - length window → IsGate (gate_in (replacement window (turned r t) to) i)
other_gate window t r i to k h =
    let room = k.room in
    let p = replaces k.lines window (turned r t) to k.good k.most (turned_template r t k.template) k.some (omega (arith, room, length-turned r t)) k.passes in
    (gates_at k.lines (replacement window (turned r t) to) i p.good (omega (arith, h, length-replacement window t r to))).0

-- the fresh controls, step by step
pub care_step : (window t : List Shape) (r : ℕ) (to : List ℕ) (own taken c care : ℕ) (w : Shape) → 0 < length window → own ≡ span t → taken ≡ renamed to own → w ≡ get_or window 0 w → c ≡ controls w
    → care ≡ difference c taken → care ≡ fresh_care window (span (turned r t)) to
care_step window t r to own taken c care w some eo et ew ec e = grind (arith, gate_read, gate_in, span_turned)

pub want_step : (window t : List Shape) (r : ℕ) (to : List ℕ) (own taken c want : ℕ) (w : Shape) → 0 < length window → own ≡ span t → taken ≡ renamed to own → w ≡ get_or window 0 w → c ≡ wanted w
    → want ≡ difference c taken → want ≡ fresh_want window (span (turned r t)) to
want_step window t r to own taken c want w some eo et ew ec e = grind (arith, gate_read, gate_in, span_turned)

flip_is : (a b c d e f : ℕ) → a ≡ b → c ≡ d → e ≡ f → Flip a c e ≡ Flip b d f
flip_is a b c d e f x y z = cc

pub built : (window t : List Shape) (r i : ℕ) (to : List ℕ) (care want rc cg rw_ wg tg : ℕ) (g : Shape) → length window ≤ length t → i < length t - length window
    → care ≡ fresh_care window (span (turned r t)) to → want ≡ fresh_want window (span (turned r t)) to → g ≡ gate_in (turned r t) (length t - 1 - i)
    → cg ≡ controls g → rc ≡ renamed to cg → wg ≡ wanted g → rw_ ≡ renamed to wg → tg ≡ target_of g
    → Flip (bit_or rc care) (bit_or rw_ want) (new_line to tg) ≡ gate_in (replacement window (turned r t) to) i
built window t r i to care want rc cg rw_ wg tg g room h ec ew eg e1 e2 e3 e4 e5 =
    grind (arith, flip_is, bit_or, gate_in, new_line, target_of, other_is)
