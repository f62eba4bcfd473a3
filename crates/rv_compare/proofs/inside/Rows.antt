-- Rows of a block: words put in, outputs kept, and two sides compared.
use Rattle.std.proofs.lemmas.Grind.{common_steps}
use Rattle.std.proofs.Common.{◌≡◌, ℕ, ◌+◌, ◌*◌, ◌<◌, ◌≤◌, Bool, true, false, cond, List, [], ◌∷◌, ◌++◌, length, map, replicate, take, drop, get_or, set, refl, sym, ◌∙◌, ap, arith, append_assoc, Decides}
use mir.Val.{bool_byte}
use Rattle.std.specs.Prelude.{All}
use Rattle.std.proofs.lemmas.List.{append-nil, drop_all, drop_more, drop-set, drop-set-lt, ext_get_or, get_or-map, length-map, length-take-le, take-append-le, take_all, take_more_set}
use Rattle.rv_gate.specs.declared.circuit.Mark.TheVariants.{Input}
use Rattle.rv_gate.specs.inside.laws.WordLaws.{length-word_of}
use Rattle.rv_blif.specs.Logic.{Output}
use Rattle.rv_gate.proofs.Marks.{input_count-inputs, with_constants-inputs, input_count-more, input_count-one, input_count-zero, length-without_garbage}
use Rattle.rv_gate.specs.Marks.{input_count, output_count, takes_input, with_constants, without_garbage}
use Rattle.rv_gate.specs.Word.{bit_of, has, word_of}
use Rattle.rv_gate.specs.declared.circuit.Mark.{Mark}
use Rattle.rv_many.specs.Column.{column, row_bit}
use Rattle.rv_many.specs.declared.row.Row.{Row}
use Rattle.rv_many.proofs.Columns.{bit_of-column, blank, length-column}
use Rattle.rv_compare.specs.inside.Rows.{put_bit}

-- ---- words put in, from the last line on

put_first : (mark : Mark) (marks : List Mark) (x : ℕ)
    → with_constants (mark ∷ marks) (word_of (input_count (mark ∷ marks)) x) ≡ put_bit mark (has x (input_count marks)) ∷ with_constants marks (word_of (input_count marks) x)
unfolding with_constants word_of
put_first mark marks x =
    grind (arith, common_steps, with_constants, word_of, input_count-more, input_count-zero, input_count-one)

count_first : (mark : Mark) (marks : List Mark) → input_count marks + bool_byte (takes_input mark) ≡ input_count (mark ∷ marks)
count_first mark marks = grind (arith, common_steps, input_count-more, input_count-zero, input_count-one)

-- the rows of the lines from one on have their bits, and the words have so many bits there
pub record ArePut (marks : List Mark) (block : ℕ) (rows : List Row) (line bit : ℕ) : Type 0 where
  pub count : bit ≡ input_count (drop line marks)
  pub words : (j : ℕ) → j < 256 → column (drop line rows) j ≡ with_constants (drop line marks) (word_of (input_count (drop line marks)) (256 * block + j))

pub put_none : (marks : List Mark) (block : ℕ) (rows : List Row) (line : ℕ) → length marks ≤ line → length rows ≤ line → ArePut marks block rows line 0
unfolding with_constants
put_none marks block rows line no_marks no_rows =
    let m : drop line marks ≡ [] = drop_all line marks no_marks in
    let r : drop line rows ≡ [] = drop_all line rows no_rows in
    record {
      count = sym (ap input_count m);
      words = λ j lt. ap (λ rs. column rs j) r ∙ sym (ap (λ ms. with_constants ms (word_of (input_count ms) (256 * block + j))) m);
    }

pub put_more : (marks : List Mark) (block : ℕ) (rows : List Row) (line bit : ℕ) (mark : Mark) (row : Row) → length rows ≡ length marks → line < length marks → drop line marks ≡ mark ∷ drop (line + 1) marks
    → ((j : ℕ) → j < 256 → row_bit row j ≡ put_bit mark (has (256 * block + j) bit)) → ArePut marks block rows (line + 1) bit
    → ArePut marks block (set rows line row) line (bit + bool_byte (takes_input mark))
put_more marks block rows line bit mark row lines lt is at h =
    let rest : List Mark = drop (line + 1) marks in
    record {
      count = ap (λ n. n + bool_byte (takes_input mark)) h.count ∙ count_first mark rest ∙ ap input_count (sym is);
      words = λ j within.
          ap (λ rs. column rs j) (drop-set rows line row (omega arith))
          ∙ ap (λ b. b ∷ column (drop (line + 1) rows) j) (at j within ∙ ap (λ n. put_bit mark (has (256 * block + j) n)) h.count)
          ∙ ap (λ w. put_bit mark (has (256 * block + j) (input_count rest)) ∷ w) (h.words j within)
          ∙ sym (put_first mark rest (256 * block + j))
          ∙ ap (λ ms. with_constants ms (word_of (input_count ms) (256 * block + j))) (sym is);
    }

-- ---- outputs kept

column-append : (a b : List Row) (j : ℕ) → column (a ++ b) j ≡ column a j ++ column b j
column-append [] b j = refl
column-append (row ∷ a) b j = ap (λ w. row_bit row j ∷ w) (column-append a b j)

-- of the lines before one, the rows that aren't garbage stand in front; the others are as they were
pub record AreKept (garbage : List Bool) (given rows : List Row) (line kept : ℕ) : Type 0 where
  pub few : kept ≤ line
  pub words : (j : ℕ) → column (take kept rows) j ++ without_garbage (drop line garbage) (column (drop line rows) j) ≡ without_garbage garbage (column given j)

pub kept_none : (garbage : List Bool) (given : List Row) → AreKept garbage given given 0 0
kept_none garbage given = record { few = omega arith; words = λ j. refl }

keep_first : (garbage : List Bool) (rows : List Row) (line j : ℕ) → line < length garbage → line < length rows
    → without_garbage (drop line garbage) (column (drop line rows) j)
    ≡ cond (get_or garbage line false) (without_garbage (drop (line + 1) garbage) (column (drop (line + 1) rows) j)) (row_bit (get_or rows line blank) j ∷ without_garbage (drop (line + 1) garbage) (column (drop (line + 1) rows) j))
unfolding without_garbage
keep_first garbage rows line j g r = grind (arith, without_garbage, drop_more, row_bit)

pub kept_same : (garbage : List Bool) (given rows : List Row) (line kept : ℕ) → line < length garbage → line < length rows → get_or garbage line false ≡ true → AreKept garbage given rows line kept
    → AreKept garbage given rows (line + 1) kept
kept_same garbage given rows line kept g r is h = record {
  few = omega (arith, h.few);
  words = λ j. let first = keep_first garbage rows line j g r in ap (λ w. column (take kept rows) j ++ w) (sym (rw is at first)) ∙ h.words j;
}

pub kept_more : (garbage : List Bool) (given rows : List Row) (line kept : ℕ) → line < length garbage → line < length rows → get_or garbage line false ≡ false → AreKept garbage given rows line kept
    → AreKept garbage given (set rows kept (get_or rows line blank)) (line + 1) (kept + 1)
kept_more garbage given rows line kept g r is h =
    let row : Row = get_or rows line blank in
    record {
      few = omega (arith, h.few);
      words = λ j.
          let left : List Bool = without_garbage (drop (line + 1) garbage) (column (drop (line + 1) rows) j) in
          let first = keep_first garbage rows line j g r in
          ap (λ rs. column rs j ++ without_garbage (drop (line + 1) garbage) (column (drop (line + 1) (set rows kept row)) j)) (take_more_set rows kept row (omega (arith, h.few)))
          ∙ ap (λ rs. column (take kept rows ++ row ∷ []) j ++ without_garbage (drop (line + 1) garbage) (column rs j)) (drop-set-lt (line + 1) rows kept row (omega (arith, h.few)))
          ∙ ap (λ w. w ++ left) (column-append (take kept rows) (row ∷ []) j)
          ∙ append_assoc (column (take kept rows) j) (row_bit row j ∷ []) left
          ∙ ap (λ w. column (take kept rows) j ++ w) (sym (rw is at first))
          ∙ h.words j;
    }

pub kept_all : (garbage : List Bool) (given rows : List Row) (line kept : ℕ) → length garbage ≤ line → AreKept garbage given rows line kept → (j : ℕ) → column (take kept rows) j ≡ without_garbage garbage (column given j)
unfolding without_garbage
kept_all garbage given rows line kept all h j =
    sym (append-nil (column (take kept rows) j)) ∙ sym (ap (λ gs. column (take kept rows) j ++ without_garbage gs (column (drop line rows) j)) (drop_all line garbage all)) ∙ h.words j

pub kept_count : (garbage : List Bool) (given rows : List Row) (kept : ℕ) → length garbage ≡ length given → kept ≤ length rows → column (take kept rows) 0 ≡ without_garbage garbage (column given 0) → kept ≡ output_count garbage
kept_count garbage given rows kept lines few is =
    grind (arith, common_steps, length-column, length-take-le, length-without_garbage)

-- ---- two sides compared

-- a place has the same bits on the lines before one
abbrev pub AgreeTo : List Row → List Row → ℕ → ℕ → Type 0
AgreeTo a b line j = (i : ℕ) → i < line → row_bit (get_or a i blank) j ≡ row_bit (get_or b i blank) j

pub agree_all : (a b : List Row) (line j : ℕ) (t : Bool) → length a ≡ length b → length a ≡ line → Decides t (AgreeTo a b line j) → Decides t (column a j ≡ column b j)
agree_all a b line j t lines all h = (
  λ on.
      ext_get_or false (column a j) (column b j) (length-column a j ∙ lines ∙ sym (length-column b j))
      (λ i lt. let within : i < length a = omega (arith, length-column a j) in bit_of-column a i j blank within ∙ h.0 on i (omega arith) ∙ sym (bit_of-column b i j blank (omega arith))),
  λ e. h.1 (λ i lt. sym (bit_of-column a i j blank (omega arith)) ∙ ap (λ w. bit_of w i) e ∙ bit_of-column b i j blank (omega arith)),
)

-- ---- a logic network

-- the rows of the inputs stand first
pub inputs_put : (n number j : ℕ) (marks : List Mark) (given rest : List Row) → marks ≡ replicate n Input → length given ≡ n
    → column given j ≡ with_constants marks (word_of (input_count marks) number) → take n (column (given ++ rest) j) ≡ word_of n number
inputs_put n number j marks given rest are lines is =
    let words : List Mark → List Bool = λ ms. with_constants ms (word_of (input_count ms) number) in
    ap (take n) (column-append given rest j)
    ∙ take-append-le n (column given j) (column rest j) (omega (arith, length-column given j, lines))
    ∙ take_all n (column given j) (omega (arith, length-column given j, lines))
    ∙ is ∙ ap words are ∙ ap (λ k. with_constants (replicate n Input) (word_of k number)) (input_count-inputs n)
    ∙ ap (λ k. with_constants (replicate k Input) (word_of n number)) (sym (length-word_of n number)) ∙ with_constants-inputs (word_of n number)

abbrev nothing : Output
nothing = record { name = []; signal = 0 }

-- the rows of the outputs, picked from those of the signals
pub outputs_given : (outputs : List Output) (values given : List Row) (j : ℕ) → length given ≡ length outputs
    → ((k : ℕ) (d : Output) → k < length given → get_or given k blank ≡ get_or values (get_or outputs k d).signal blank)
    → All (λ output. output.signal < length values) outputs
    → column given j ≡ map (λ output. bit_of (column values j) output.signal) outputs
outputs_given outputs values given j counted each within =
    let bit : Output → Bool = λ o. bit_of (column values j) o.signal in
    ext_get_or false (column given j) (map bit outputs) (length-column given j ∙ counted ∙ sym (length-map outputs bit))
    (λ i lt.
    let here : i < length given = omega (arith, lt, length-column given j) in
    let there : i < length outputs = omega (arith, here, counted) in
    bit_of-column given i j blank here ∙ ap (λ r. row_bit r j) (each i nothing here)
    ∙ sym (bit_of-column values (get_or outputs i nothing).signal j blank (within i nothing there))
    ∙ sym (get_or-map bit outputs i nothing false there))
