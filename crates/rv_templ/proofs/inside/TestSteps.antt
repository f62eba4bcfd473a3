-- The tests of an allowed window, one by one.
use Rattle.std.proofs.Common.{◌≡◌, ℕ, ◌+◌, ◌-◌, ◌<◌, ◌≤◌, Bool, true, false, eqb, List, length, drop, get_or, sym, ◌∙◌, ap, arith, length-drop}
use Rattle.std.specs.Prelude.{count_ones}
use Rattle.std.proofs.lemmas.List.{get_or-drop, length-map}
use Rattle.rv_templ.specs.Gates.{gate_in}
use Rattle.rv_gate.specs.Gate.{touched, all_below}
use Rattle.rv_gate.specs.declared.gate.Shape.{Shape}
use Rattle.rv_templ.specs.inside.Sums.{sum_below}
use Rattle.rv_templ.specs.Images.{target_of, turned, difference, image_of, others, same_gate}
use Rattle.rv_templ.specs.Templates.{IsTemplate}
use Rattle.rv_templ.proofs.inside.FoldLemmas.{sum_more}
use Rattle.rv_gate.proofs.AllBelow.{all_below-fails}
use Rattle.rv_templ.proofs.inside.Incidences.{size_at}
use Rattle.rv_templ.proofs.LoopSteps.{gate_read}
use Rattle.rv_templ.proofs.WindowLaws.{image_at, turned_template, length-turned, template_target}

pub each_hit : (p : ℕ → Bool) (n i : ℕ) → i < n → p i ≡ false → false ≡ all_below p n
each_hit p n i h off = sym (all_below-fails p n i h off)

pub each_end : (p : ℕ → Bool) (n i : ℕ) → i ≤ n → n ≤ i → all_below p i ≡ true → true ≡ all_below p n
each_end p n i a b e = let s : i ≡ n = omega arith in sym e ∙ ap (all_below p) s

-- the target of a gate of a turned template
pub turned_target : (r j : ℕ) (t : List Shape) (g : Shape) → IsTemplate t → j < length t → g ≡ gate_in (turned r t) j → target_of g < 6
turned_target r j t g is h e = grind (arith, template_target, turned_template, length-turned, target_of)

abbrev pub match_test : List Shape → List Shape → List ℕ → ℕ → ℕ → ℕ → Bool
match_test window template to care want j = same_gate (gate_in window j) (image_of to care want (gate_in template j))

pub match_tested : (window template : List Shape) (to : List ℕ) (care want j : ℕ) (w g image : Shape) (b : Bool) → j < length window → w ≡ get_or window j w
    → g ≡ gate_in template j → image ≡ image_of to care want g → b ≡ same_gate w image → match_test window template to care want j ≡ b
match_tested window template to care want j w g image b h r eg ei eb =
    grind (arith, same_gate, image_of, gate_in, gate_read)

pub length-others : (count : ℕ) (template : List Shape) (to : List ℕ) (care want : ℕ) → length (others count template to care want) ≡ length template - count
length-others count template to care want = length-map (drop count template) (image_of to care want) ∙ length-drop count template

pub length-turned_others : (count r : ℕ) (t : List Shape) (to : List ℕ) (care want : ℕ) → length (others count (turned r t) to care want) ≡ length t - count
length-turned_others count r t to care want = length-others count (turned r t) to care want ∙ ap (λ n. n - count) (length-turned r t)

pub other_at : (count j : ℕ) (template : List Shape) (to : List ℕ) (care want : ℕ) → count + j < length template
    → gate_in (others count template to care want) j ≡ image_of to care want (gate_in template (count + j))
other_at count j template to care want h = grind (arith, image_at, length-drop, image_of, get_or-drop)

pub other_lines : (count j r : ℕ) (t : List Shape) (to : List ℕ) (care want lines : ℕ) (g : Shape) → count + j < length t → g ≡ gate_in (turned r t) (count + j)
    → lines ≡ touched (image_of to care want g) → touched (gate_in (others count (turned r t) to care want) j) ≡ lines
other_lines count j r t to care want lines g h eg el = grind (arith, other_at, length-turned, image_of)

abbrev pub within_test : List Shape → ℕ → ℕ → Bool
within_test gates set j = eqb (difference (touched (gate_in gates j)) set) 0

pub within_tested : (gates : List Shape) (set j lines more : ℕ) → touched (gate_in gates j) ≡ lines → more ≡ difference lines set → within_test gates set j ≡ eqb more 0
within_tested gates set j lines more e m = ap (λ x. eqb (difference x set) 0) e ∙ ap (λ x. eqb x 0) (sym m)

pub other_sum_more : (gates : List Shape) (sum j lines : ℕ) → sum ≡ sum_below (size_at gates) j → touched (gate_in gates j) ≡ lines → sum + count_ones lines ≡ sum_below (size_at gates) (j + 1)
other_sum_more gates sum j lines e l = grind (arith, count_ones, sum_below, size_at, sum_more)
