-- What a window is, in plain words.
use Rattle.std.specs.Prelude.{◌≡◌, ℕ, ◌*◌, ◌<◌, ◌≤◌, true, false, List, length, take, drop}
use Rattle.rv_templ.specs.declared.image.TheConstants.{TEMPLATE_LINES}
use Rattle.rv_gate.specs.Word.{has}
use Rattle.rv_gate.specs.declared.gate.Shape.{Shape}
use Rattle.rv_templ.specs.Images.{span, turned, new_line, image}
use Rattle.rv_links.specs.Nodes.{incidences}
use Rattle.rv_gate.specs.declared.word.TheConstants.{MOST_LINES}
use Rattle.rv_templ.specs.Choices.{template_in, Found}

-- six lines; lines that are not in own have 0; no two lines of own become one
pub record IsRenaming (own : ℕ) (to : List ℕ) : Type 0 where
  pub six : length to ≡ TEMPLATE_LINES
  pub lines : (i : ℕ) → i < TEMPLATE_LINES → new_line to i < MOST_LINES
  pub zero_elsewhere : (i : ℕ) → i < TEMPLATE_LINES → has own i ≡ false → new_line to i ≡ 0
  pub apart : (i j : ℕ) → i < TEMPLATE_LINES → j < TEMPLATE_LINES → has own i ≡ true → has own j ≡ true
      → new_line to i ≡ new_line to j → i ≡ j

-- The first gates of a list, as many as found.count, are a window that may be replaced: they are the first gates of
-- the image of a template, which begins with its gate found.turn, is renamed by found.lines and has the fresh
-- controls care, of which want are positive.
pub record IsWindow (gates : List Shape) (library : List (List Shape)) (found : Found) (care want : ℕ) : Type 0 where
  pub some : 0 < found.count
  pub here : found.count ≤ length gates
  pub template : found.template < length library
  pub turn : found.turn < length (template_in library found.template)
  -- more than half of the template
  pub most : found.count ≤ length (template_in library found.template)
  pub half : length (template_in library found.template) < 2 * found.count
  pub renaming : IsRenaming (span (template_in library found.template)) found.lines
  -- fresh controls stand on further lines
  pub free : (i : ℕ) → i < TEMPLATE_LINES → has (span (template_in library found.template)) i ≡ true
      → has care (new_line found.lines i) ≡ false
  pub wants : (line : ℕ) → has want line ≡ true → has care line ≡ true
  pub fits_window : take found.count gates
      ≡ take found.count (image found.lines care want (turned found.turn (template_in library found.template)))
  -- the other gates of the image touch only lines that the window touches, and no more lines in sum
  pub inside : (line : ℕ)
      → has
      (span
      (drop found.count (image found.lines care want (turned found.turn (template_in library found.template)))))
      line
      ≡ true
      → has (span (take found.count gates)) line ≡ true
  pub no_more : incidences
      (drop found.count (image found.lines care want (turned found.turn (template_in library found.template))))
      ≤ incidences (take found.count gates)

abbrev pub NoWindow : List Shape → List (List Shape) → Type 0
NoWindow gates library = (found : Found) (care want : ℕ) → IsWindow gates library found care want → ⊥
