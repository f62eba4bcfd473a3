-- Templates, their images, and the windows that are replaced.
use Rattle.std.specs.Prelude.{ℕ, ◌^◌, Bool, false, not, ◌&&◌, ◌||◌, if◌then◌else◌, ◌==◌, nat_le, bit_or, bit_and, bit_xor, List, ◌++◌, length, take, drop, map, reverse, slice_index}
use Rattle.rv_templ.specs.declared.image.TheConstants.{TEMPLATE_LINES}
use Rattle.rv_gate.specs.Word.{has}
use Rattle.rv_gate.specs.declared.gate.Shape.{Shape}
use Rattle.rv_gate.specs.declared.gate.Shape.TheVariants.{Flip, Swap, Peres}
use Rattle.rv_gate.specs.Gate.{controls, wanted, touched, all_below}
use Rattle.rv_links.specs.Nodes.{incidences}
use Rattle.rv_templ.specs.Gates.{gate_in}
use Rattle.rv_templ.specs.Folds.{union_below}

-- the target of a flip, the first one of a swap, and the control a of a Peres gate, which is in no pair and no template
abbrev pub target_of : Shape → ℕ
target_of (Flip care want target) = target
target_of (Swap care want a b) = a
target_of (Peres a b c) = a

-- the lines that gates touch
abbrev pub span : List Shape → ℕ
span gates = union_below (λ j. touched (gate_in gates j)) (length gates)

-- a list goes round: the gates r, r + 1 and so on, round to r - 1
abbrev pub turned : ℕ → List Shape → List Shape
turned r gates = drop r gates ++ take r gates

-- A renaming is a list of six lines: the line i of the template becomes the one at i. At lines that no gate
-- of the template touches stands 0, which means nothing.
abbrev pub new_line : List ℕ → ℕ → ℕ
new_line to i = slice_index to i

-- a set of lines of the template, renamed
abbrev pub renamed : List ℕ → ℕ → ℕ
renamed to set = union_below (λ i. if has set i then 2 ^ new_line to i else 0) TEMPLATE_LINES

-- the lines of a set that are not in another
abbrev pub difference : ℕ → ℕ → ℕ
difference a b = bit_xor a (bit_and a b)

-- a flip of the template, renamed, with fresh controls
abbrev pub image_of : List ℕ → ℕ → ℕ → Shape → Shape
image_of to care want g =
    Flip (bit_or (renamed to (controls g)) care) (bit_or (renamed to (wanted g)) want) (new_line to (target_of g))

-- the image of gates
abbrev pub image : List ℕ → ℕ → ℕ → List Shape → List Shape
image to care want gates = map (image_of to care want) gates

-- the fresh controls are those of the window's first gate on lines that are none of the renamed ones
abbrev pub fresh_care : List Shape → ℕ → List ℕ → ℕ
fresh_care window own to = difference (controls (gate_in window 0)) (renamed to own)

abbrev pub fresh_want : List Shape → ℕ → List ℕ → ℕ
fresh_want window own to = difference (wanted (gate_in window 0)) (renamed to own)

-- no two lines of own become one
unfoldable pub distinct : ℕ → List ℕ → Bool
distinct own to =
    all_below (λ i. all_below (λ j. not (has own i && has own j && (new_line to i == new_line to j))) i) TEMPLATE_LINES

-- at lines that are not in own stands 0
unfoldable pub zero_elsewhere : ℕ → List ℕ → Bool
zero_elsewhere own to = all_below (λ i. has own i || (new_line to i == 0)) TEMPLATE_LINES

abbrev pub same_gate : Shape → Shape → Bool
same_gate (Flip c w t) (Flip c2 w2 t2) = (c == c2) && (w == w2) && (t == t2)
same_gate (Flip _ _ _) (Swap _ _ _ _) = false
same_gate (Flip _ _ _) (Peres _ _ _) = false
same_gate (Swap _ _ _ _) h = false
same_gate (Peres _ _ _) h = false

-- the window's gates are the first gates of the image
unfoldable pub fits_window : List Shape → List Shape → List ℕ → ℕ → ℕ → Bool
fits_window window template to care want =
    all_below (λ j. same_gate (gate_in window j) (image_of to care want (gate_in template j))) (length window)

-- the gates of the image but for the first ones
abbrev pub others : ℕ → List Shape → List ℕ → ℕ → ℕ → List Shape
others count template to care want = image to care want (drop count template)

-- each gate touches only lines of the set
unfoldable pub within : List Shape → ℕ → Bool
within gates set = all_below (λ j. difference (touched (gate_in gates j)) set == 0) (length gates)

-- The window is the first gates of the image of the template (as it was turned) by this renaming, and may be
-- replaced: the image's other gates touch only lines that the window touches, and no more lines in sum.
abbrev pub allowed : List Shape → List Shape → List ℕ → Bool
allowed window template to =
    let own = span template in
    let care = fresh_care window own to in
    let want = fresh_want window own to in
    zero_elsewhere own to && distinct own to && fits_window window template to care want
    && within (others (length window) template to care want) (span window)
    && nat_le (incidences (others (length window) template to care want)) (incidences window)

-- what stands in the window's place: the image's other gates in reverse order
abbrev pub replacement : List Shape → List Shape → List ℕ → List Shape
replacement window template to =
    let own = span template in
    reverse (others (length window) template to (fresh_care window own to) (fresh_want window own to))
