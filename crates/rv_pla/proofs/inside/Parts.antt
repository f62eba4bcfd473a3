-- The parts of a cube's line, read back.
use Rattle.std.proofs.Common.{◌≡◌, ℕ, zero, suc, ◌+◌, ◌≤◌, Bool, true, false, List, [], ◌∷◌, ◌++◌, length, map, take, drop, nat_eq, refl, sym, ap, ◌∙◌, inl, inr, arith, length-append}
use Rattle.std.specs.List.{list_all, range_with_len}
use Rattle.std.proofs.lemmas.Bool.{cases_lt}
use Rattle.std.proofs.lemmas.List.{drop_at, take_at}
use Rattle.std.proofs.lemmas.List.FromFn.{length-map-range_with_len, get_or-map-range_with_len}
use Rattle.std.proofs.lemmas.Nat.Bits.{same_from_bits}
use Rattle.rv_text.specs.inside.Writable.{is_word_byte, IsPlainWord}
use Rattle.rv_gate.specs.Word.{has}
use Rattle.rv_gate.proofs.LineSets.{bits_from_has}
use Rattle.rv_pla.specs.declared.cube.Cube.{Cube}
use Rattle.rv_pla.specs.Cube.{Symbol, symbol_of, symbol, IsCube}
use Rattle.rv_pla.specs.Row.{either, is_input, is_output, is_row, places_of, term_of}
use Rattle.rv_pla.specs.Line.{bar}
use Rattle.rv_text.specs.Bytes.{begins_with_dot, bit_byte}
use Rattle.rv_pla.specs.Text.{input_character, input_part, output_part}
use Rattle.rv_gate.proofs.LineSets.{has-above}
use Rattle.rv_pla.proofs.Rows.{places_of-lt, has-places_of}

all_map : (p : ℕ → Bool) (f : ℕ → ℕ) → ((j : ℕ) → p (f j) ≡ true) → (js : List ℕ) → list_all p (map f js) ≡ true
all_map p f h [] = refl
all_map p f h (j ∷ js) = rw (h j) (all_map p f h js)

-- ---- characters

input_byte : (s : Symbol) → is_word_byte bar (input_character s) ≡ true
input_byte s = grind arith

output_byte : (b : Bool) → is_word_byte bar (bit_byte b) ≡ true
output_byte b = grind arith

input_is : (s : Symbol) → is_input (input_character s) ≡ true
input_is s = grind arith

output_is : (b : Bool) → is_output (bit_byte b) ≡ true
output_is b = grind arith

input_no_dot : (s : Symbol) → nat_eq (input_character s) 46 ≡ false
input_no_dot s = grind arith

asked : (cares wants : Bool) → either 48 49 (input_character (symbol_of cares wants)) ≡ cares
asked cares wants = grind arith

wanted : (cares wants : Bool) → (wants ≡ true → cares ≡ true) → either 49 49 (input_character (symbol_of cares wants)) ≡ wants
wanted cares wants h = grind arith

none_wanted : (cares wants : Bool) → (wants ≡ true → cares ≡ true) → cares ≡ false → wants ≡ false
none_wanted cares wants h k = grind arith

carried : (b : Bool) → either 49 52 (bit_byte b) ≡ b
carried b = grind arith

-- ---- parts

pub length-input_part : (n : ℕ) (cube : Cube) → length (input_part n cube) ≡ n
length-input_part n cube = length-map-range_with_len (λ input. input_character (symbol cube input)) 0 n

pub length-output_part : (n : ℕ) (cube : Cube) → length (output_part n cube) ≡ n
length-output_part n cube = length-map-range_with_len (λ output. bit_byte (has cube.outs output)) 0 n

pub input_word : (n : ℕ) (cube : Cube) → 1 ≤ n → IsPlainWord bar (input_part n cube)
input_word n cube some = (omega (arith, length-input_part n cube), all_map (is_word_byte bar) _ (λ j. input_byte (symbol cube j)) (range_with_len 0 n))

pub output_word : (n : ℕ) (cube : Cube) → 1 ≤ n → IsPlainWord bar (output_part n cube)
output_word n cube some = (omega (arith, length-output_part n cube), all_map (is_word_byte bar) _ (λ j. output_byte (has cube.outs j)) (range_with_len 0 n))

pub no_dot : (n : ℕ) (cube : Cube) → 1 ≤ n → begins_with_dot (input_part n cube) ≡ false
no_dot zero cube some = absurd (omega arith)
no_dot (suc n) cube some = input_no_dot (symbol cube 0)

-- the places of characters are a set that has these
places_are : (a b n set : ℕ) (f : ℕ → ℕ) → ((j : ℕ) → n ≤ j → has set j ≡ false) → ((j : ℕ) → either a b (f j) ≡ has set j)
    → places_of a b (map f (range_with_len 0 n)) ≡ set
places_are a b n set f past each =
    let row : List ℕ = map f (range_with_len 0 n) in
    let len : length row ≡ n = length-map-range_with_len f 0 n in
    same_from_bits _ _ (λ j. bits_from_has (places_of a b row) j set j (elim (cases_lt j n) [
      | inl below ↦ has-places_of a b row j (omega arith) ∙ ap (either a b) (get_or-map-range_with_len f 0 n j j 0 below (omega arith)) ∙ each j
      | inr above ↦ has-above (places_of a b row) n j (let h = places_of-lt a b row in rw len at h) above ∙ sym (past j above)
    ]))

module _ (i o : ℕ) (cube : Cube) where
  front : take i (input_part i cube ++ output_part o cube) ≡ input_part i cube
  front = take_at (input_part i cube) (output_part o cube) i (length-input_part i cube)

  back : drop i (input_part i cube ++ output_part o cube) ≡ output_part o cube
  back = drop_at (input_part i cube) (output_part o cube) i (length-input_part i cube)

  pub row_length : length (input_part i cube ++ output_part o cube) ≡ i + o
  row_length = length-append (input_part i cube) (output_part o cube) ∙ (omega (arith, length-input_part i cube, length-output_part o cube))

  pub row_is : is_row i (input_part i cube ++ output_part o cube) ≡ true
  row_is =
      rw (front, back, all_map is_input _ (λ j. input_is (symbol cube j)) (range_with_len 0 i), all_map is_output _ (λ j. output_is (has cube.outs j)) (range_with_len 0 o)) refl

  pub cube_back : (number : ℕ) → IsCube i o cube → (term_of i number (input_part i cube ++ output_part o cube)).cube ≡ cube
  cube_back number is =
      let no_care : (j : ℕ) → i ≤ j → has cube.care j ≡ false = λ j h. has-above cube.care i j is.asked h in
      let no_want : (j : ℕ) → i ≤ j → has cube.want j ≡ false = λ j h. none_wanted (has cube.care j) (has cube.want j) (is.wanted j) (no_care j h) in
      let care = places_are 48 49 i cube.care (λ j. input_character (symbol cube j)) no_care (λ j. asked (has cube.care j) (has cube.want j)) in
      let want = places_are 49 49 i cube.want (λ j. input_character (symbol cube j)) no_want (λ j. wanted (has cube.care j) (has cube.want j) (is.wanted j)) in
      let outs = places_are 49 52 o cube.outs (λ j. bit_byte (has cube.outs j)) (λ j h. has-above cube.outs o j is.carried h) (λ j. carried (has cube.outs j)) in
      rw (front, back, care, want, outs) refl
