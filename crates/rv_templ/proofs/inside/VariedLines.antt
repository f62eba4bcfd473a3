-- The lines that are not the same to each gate: an image has no more of them than the template.
use Rattle.std.proofs.Common.{◌≡◌, ℕ, zero, suc, ◌+◌, ◌/◌, ◌^◌, ◌*◌, ◌<◌, ◌≤◌, Bool, true, false, cond, ◌||◌, List, length, refl, sym, ◌∙◌, ap, inl, inr, arith, eq-eqb}
use Rattle.std.specs.Prelude.{bit_or, bit_xor, count_ones, leb, None}
use Rattle.std.proofs.lemmas.Bool.{cases_Bool, false≢true, or_cases, or_left, or_right, eqb-true, false_from_ne_true}
use Rattle.std.proofs.lemmas.Nat.{ones_le_self}
use Rattle.rv_gate.proofs.LineSets.{has-line, has-or, has-xor}
use Rattle.rv_gate.specs.Word.{has}
use Rattle.rv_gate.specs.Gate.{xor, controls, wanted}
use Rattle.rv_gate.specs.declared.gate.Shape.{Shape}
use Rattle.rv_templ.specs.Folds.{union_below}
use Rattle.rv_templ.specs.inside.Sums.{sum_below}
use Rattle.rv_templ.specs.Gates.{gate_in}
use Rattle.rv_templ.specs.Images.{target_of, span, new_line, renamed, image_of, fresh_care, fresh_want, allowed}
use Rattle.rv_templ.specs.Templates.{IsTemplate}
use Rattle.rv_templ.specs.inside.Pruning.{varied_at, varied}
use Rattle.rv_templ.proofs.inside.FoldLemmas.{union_more, union_part, part_of_union, sum_each}
use Rattle.rv_templ.proofs.ImageLaws.{Serves, part, renamed_has, renamed_from}
use Rattle.rv_templ.proofs.inside.Incidences.{sum_shift, one_line, times, count_ones-within}
use Rattle.rv_templ.proofs.WindowLaws.{allowed_parts, match_at, serve_at, length-turned, turned_template, span_turned}
use Rattle.rv_templ.proofs.inside.ChoiceLemmas.{turns_of, turn_found}
use Rattle.rv_templ.proofs.inside.PruningLaws.{none_at_all}
use Rattle.rv_gate.proofs.FirstAnswer.{none_first}
use Rattle.rv_templ.specs.Choices.{template_in, at_turn, at_template}
use Rattle.rv_gate.proofs.CountOnes.{ones_halves, has_half, low_bit}

pub varied_more : (gates : List Shape) (set j lines : ℕ) (g first : Shape) → set ≡ varied gates j → g ≡ gate_in gates j → first ≡ gate_in gates 0 → lines ≡ varied_at g first → bit_or set lines ≡ varied gates (j + 1)
varied_more gates set j lines g first e eg ef l = grind (arith, bit_or, varied_at, gate_in, union_more)

-- ---- a renamed set has no more lines

one_or_none : (b : Bool) (n : ℕ) → count_ones (cond b (2 ^ n) 0) ≤ cond b 1 0
one_or_none true n = omega (arith, one_line n)
one_or_none false n = ones_le_self 0

union_few : (to : List ℕ) (set n : ℕ) → count_ones (union_below (part to set) n) ≤ sum_below (times set) n
unfolding union_below sum_below
union_few to set zero = ones_le_self 0
union_few to set (suc n) =
    let both = count_ones-within (bit_or (union_below (part to set) n) (part to set n)) (union_below (part to set) n) (part to set n) (λ i e. sym (has-or (union_below (part to set) n) (part to set n) i) ∙ e) in
    let rest = union_few to set n in
    let one = one_or_none (has set n) (new_line to n) in
    omega (arith, both, rest, one)

sum_few : (n set : ℕ) → sum_below (times set) n ≤ count_ones set
unfolding sum_below
sum_few zero set = omega arith
sum_few (suc n) set =
    let le = sum_each (λ i. times set (suc i)) (times (set / 2)) n (λ i l. rw (has_half set i) (omega arith)) in
    omega (arith, le, sum_shift (times set) n, sum_few n (set / 2), low_bit (has set 0) set refl, ones_halves set)

renamed_few : (to : List ℕ) (set : ℕ) → count_ones (renamed to set) ≤ count_ones set
renamed_few to set = let a = union_few to set 6 in let b = sum_few 6 set in omega arith

-- ---- the lines of an image

-- a line of one of two renamed sets is that of a line of one of the sets
renamed_xor : (to : List ℕ) (a b line : ℕ) → xor (has (renamed to a) line) (has (renamed to b) line) ≡ true → (i : ℕ) × (i < 6) × (has (bit_xor a b) i ≡ true) × (line ≡ new_line to i)
renamed_xor to a b line e =
    elim (cases_Bool (has (renamed to a) line)) [
      | inl on ↦
          let p = renamed_from to a line on in
          let off : has b p.0 ≡ false = false_from_ne_true _ (λ t.
          let there : has (renamed to b) line ≡ true = ap (has (renamed to b)) p.3 ∙ renamed_has to b p.0 p.1 t in
          false≢true (sym (ap (λ x. xor x (has (renamed to b) line)) on ∙ ap (xor true) there) ∙ e)) in
          (p.0, p.1, has-xor a b p.0 ∙ ap (λ x. xor x (has b p.0)) p.2 ∙ ap (xor true) off, p.3)
      | inr off ↦
          let on : has (renamed to b) line ≡ true = right_one (has (renamed to b) line) (sym (ap (λ x. xor x (has (renamed to b) line)) off) ∙ e) in
          let p = renamed_from to b line on in
          let none : has a p.0 ≡ false = false_from_ne_true _ (λ t.
          false≢true (sym off ∙ ap (has (renamed to a)) p.3 ∙ renamed_has to a p.0 p.1 t)) in
          (p.0, p.1, has-xor a b p.0 ∙ ap (λ x. xor x (has b p.0)) none ∙ ap (xor false) p.2, p.3)
    ]
  where
    right_one : (y : Bool) → xor false y ≡ true → y ≡ true
    right_one true e = refl
    right_one false e = e

-- fresh lines, which both have, do not count
fresh_xor : (x y f : Bool) → xor (x || f) (y || f) ≡ true → xor x y ≡ true
fresh_xor x y f h = grind arith

both_xor : (to : List ℕ) (a b care line : ℕ) → has (bit_xor (bit_or (renamed to a) care) (bit_or (renamed to b) care)) line ≡ true → (i : ℕ) × (i < 6) × (has (bit_xor a b) i ≡ true) × (line ≡ new_line to i)
both_xor to a b care line e = grind (arith, renamed_xor, fresh_xor, has-or, bit_or, has-xor)

image_varied : (to : List ℕ) (care want line : ℕ) (g first : Shape) → target_of g < 6 → has (varied_at (image_of to care want g) (image_of to care want first)) line ≡ true
    → (i : ℕ) × (i < 6) × (has (varied_at g first) i ≡ true) × (line ≡ new_line to i)
image_varied to care want line g first h e =
    let c : ℕ = bit_xor (bit_or (renamed to (controls g)) care) (bit_or (renamed to (controls first)) care) in
    let w : ℕ = bit_xor (bit_or (renamed to (wanted g)) want) (bit_or (renamed to (wanted first)) want) in
    let t : ℕ = 2 ^ new_line to (target_of g) in
    let c0 : ℕ = bit_xor (controls g) (controls first) in
    let w0 : ℕ = bit_xor (wanted g) (wanted first) in
    let t0 : ℕ = 2 ^ target_of g in
    elim (or_cases (has (bit_or c w) line) (has t line) (sym (has-or (bit_or c w) t line) ∙ e)) [
      | inl cw ↦ (elim (or_cases (has c line) (has w line) (sym (has-or c w line) ∙ cw)) [
        | inl on ↦
            let p = both_xor to (controls g) (controls first) care line on in
            (p.0, p.1, has-or (bit_or c0 w0) t0 p.0 ∙ or_left (has (bit_or c0 w0) p.0) (has t0 p.0) (has-or c0 w0 p.0 ∙ or_left (has c0 p.0) (has w0 p.0) p.2), p.3)
        | inr on ↦
            let p = both_xor to (wanted g) (wanted first) want line on in
            (p.0, p.1, has-or (bit_or c0 w0) t0 p.0 ∙ or_left (has (bit_or c0 w0) p.0) (has t0 p.0) (has-or c0 w0 p.0 ∙ or_right (has c0 p.0) (has w0 p.0) p.2), p.3)
      ])
      | inr at ↦ (
        target_of g,
        h,
        has-or (bit_or c0 w0) t0 (target_of g) ∙ or_right (has (bit_or c0 w0) (target_of g)) (has t0 (target_of g)) (has-line (target_of g) (target_of g) ∙ eq-eqb (target_of g) (target_of g) refl),
        eqb-true line (new_line to (target_of g)) (sym (has-line (new_line to (target_of g)) line) ∙ at),
      )
    ]

-- the window of an image has no more such lines than the template's first gates
pub varied_few : (window template : List Shape) (to : List ℕ) → IsTemplate template → 0 < length window → length window ≤ length template → allowed window template to ≡ true
    → count_ones (varied window (length window)) ≤ count_ones (varied template (length window))
varied_few window template to is some room e =
    let own : ℕ = span template in
    let care : ℕ = fresh_care window own to in
    let want : ℕ = fresh_want window own to in
    let a = allowed_parts window template to e in
    let old : ℕ = varied template (length window) in
    let within : (line : ℕ) → has (varied window (length window)) line ≡ true → has (renamed to old) line ≡ true = λ line on.
    let p = part_of_union (λ j. varied_at (gate_in window j) (gate_in window 0)) (length window) line on in
    let is_image : has (varied_at (image_of to care want (gate_in template p.0)) (image_of to care want (gate_in template 0))) line ≡ true =
    ap (λ g. has (varied_at (image_of to care want (gate_in template p.0)) g) line) (sym (match_at window template to care want 0 a.fits_window some))
    ∙ ap (λ g. has (varied_at g (gate_in window 0)) line) (sym (match_at window template to care want p.0 a.fits_window p.1)) ∙ p.2 in
    let s = serve_at template p.0 is (omega (arith, p.1, room)) in
    let q = image_varied to care want line (gate_in template p.0) (gate_in template 0) s.target is_image in
    ap (has (renamed to old)) q.3 ∙ renamed_has to old q.0 q.1 (union_part (λ j. varied_at (gate_in template j) (gate_in template 0)) (length window) p.0 q.0 p.1 q.2) in
    let few = count_ones-within (varied window (length window)) (renamed to old) 0 (λ i on. or_left (has (renamed to old) i) (has 0 i) (within i on)) in
    let less = renamed_few to old in
    omega (arith, few, less, ones_le_self 0)

-- where it has more, it is no window of an image
pub drop_varied : (window template : List Shape) (to : List ℕ) → IsTemplate template → 0 < length window → length window ≤ length template
    → count_ones (varied template (length window)) < count_ones (varied window (length window)) → allowed window template to ≡ false
drop_varied window template to is some room more =
    false_from_ne_true _ (λ e. let few = varied_few window template to is some room e in omega arith)

pub more_ones : (a b x y : ℕ) → a ≡ x → b ≡ y → leb (count_ones a) (count_ones b) ≡ false → count_ones y < count_ones x
more_ones a b x y ea eb off = grind arith

-- ---- the lines that vary in a template are lines that it touches

either_on : (a b on : Bool) → xor a b ≡ true → (a ≡ true → on ≡ true) → (b ≡ true → on ≡ true) → on ≡ true
either_on a b on h h1 h2 = grind arith

own_varied : (own line : ℕ) (g first : Shape) → Serves own g → Serves own first → has (varied_at g first) line ≡ true → has own line ≡ true
own_varied own line g first s f e =
    grind (arith, bit_xor, target_of, or_cases, bit_or, has-or, either_on, has-xor, eqb-true, has-line)

varied_own : (template : List Shape) (n : ℕ) → IsTemplate template → n ≤ length template → count_ones (varied template n) ≤ count_ones (span template)
varied_own template n is few =
    let within : (line : ℕ) → has (varied template n) line ≡ true → has (span template) line ≡ true = λ line on.
    let p = part_of_union (λ j. varied_at (gate_in template j) (gate_in template 0)) n line on in
    own_varied (span template) line (gate_in template p.0) (gate_in template 0) (serve_at template p.0 is (omega (arith, p.1, few)))
    (serve_at template 0 is (omega (arith, p.1, few))) p.2 in
    let le = count_ones-within (varied template n) (span template) 0 (λ i on. or_left (has (span template) i) (has 0 i) (within i on)) in
    omega (arith, le, ones_le_self 0)

-- a template that touches fewer lines than vary in the window has no image that begins with it
pub none_wide : (window : List Shape) (library : List (List Shape)) (t : ℕ) → IsTemplate (template_in library t) → 0 < length window → length window ≤ length (template_in library t)
    → length (template_in library t) < 2 * length window → count_ones (span (template_in library t)) < count_ones (varied window (length window)) → at_template window library t ≡ None
none_wide window library t is some room half more =
    grind (
      arith,
      template_in,
      turns_of,
      none_first,
      at_turn,
      length-turned,
      varied_own,
      turned_template,
      turn_found,
      none_at_all,
      drop_varied,
      count_ones,
      span_turned,
    )
