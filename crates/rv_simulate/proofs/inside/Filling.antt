-- The bits that fill the lines of a circuit, and the digits of a word that comes out, line by line.
use Rattle.std.proofs.lemmas.Grind.{common_steps}
use mir.Val.{bool_byte}
use Rattle.std.proofs.Common.{◌≡◌, ◌∙◌, ℕ, zero, suc, ◌+◌, ◌-◌, ◌<◌, ◌≤◌, Bool, true, false, List, [], ◌∷◌, ◌++◌, length, map, take, get_or, replicate, slice_get, Option, None, Some, ◌*◌, ◌^◌, refl, ap, sym, subst, arith}
use Rattle.std.proofs.lemmas.List.{append-nil, length-append, length-replicate, length-take, take-append-drop, take_all, take_more}
use Rattle.std.specs.Option.{SomeIff}
use Rattle.std.proofs.Math.Nat.{pow-le-pow_right}
use Rattle.std.proofs.lemmas.Option.{get_or_from_slice_get, slice_get_within}
use Rattle.rv_gate.specs.Circuit.{Cascade, IsCascade}
use Rattle.rv_gate.specs.declared.circuit.Mark.{Mark}
use Rattle.rv_gate.specs.declared.circuit.Mark.TheVariants.{Input, Zero, One}
use Rattle.rv_gate.specs.Marks.{input_count, with_constants, without_garbage}
use Rattle.rv_gate.proofs.Marks.{input_count-append, input_count-inputs, input_count-more, input_count-one, input_count-zero, length-with_constants, with_constants-inputs, without_garbage-append, without_garbage-outputs}
use Rattle.rv_gate.specs.Word.{has, number_of, word_of}
use Rattle.rv_gate.specs.inside.laws.WordLaws.{bit_of-word_of, length-word_of, number_of-lt, word_of-number_of}
use Rattle.rv_many.proofs.inside.Numbers.{NumberTo, number_more, number_of-next}
use Rattle.rv_simulate.specs.Simulation.{answer_text, marks_asked}
use Rattle.rv_text.specs.Bytes.{bit_byte, line_feed}

pub length-marks_of : (c : Cascade) (all : Bool) → IsCascade c → length (marks_asked c all) ≡ length c.names
length-marks_of c true is = length-replicate (length c.names) Input
length-marks_of c false is = is.constants

pub input_count-le : (marks : List Mark) → input_count marks ≤ length marks
input_count-le [] = omega arith
input_count-le (Zero ∷ marks) = omega (arith, input_count-zero marks, input_count-le marks)
input_count-le (One ∷ marks) = omega (arith, input_count-one marks, input_count-le marks)
input_count-le (Input ∷ marks) = omega (arith, input_count-more marks, input_count-le marks)

-- what a line has, by its mark and the next bit
abbrev pub entry : Mark → Bool → Bool
entry Zero bit = false
entry One bit = true
entry Input bit = bit

pub entry_of : (marks : List Mark) (bits : List Bool) (line : ℕ) (mark : Mark) → slice_get marks line ≡ Some mark
    → get_or (with_constants marks bits) line false ≡ entry mark (get_or bits (input_count (take line marks)) false)
unfolding with_constants
entry_of [] bits line mark h = absurd cc
entry_of (Zero ∷ marks) bits zero mark h = let e : Zero ≡ mark = cc in ap (λ m. entry m (get_or bits 0 false)) e
entry_of (One ∷ marks) bits zero mark h = let e : One ≡ mark = cc in ap (λ m. entry m (get_or bits 0 false)) e
entry_of (Input ∷ marks) [] zero mark h = let e : Input ≡ mark = cc in ap (λ m. entry m false) e
entry_of (Input ∷ marks) (bit ∷ bits) zero mark h = let e : Input ≡ mark = cc in ap (λ m. entry m bit) e
entry_of (Zero ∷ marks) bits (suc line) mark h = entry_of marks bits line mark h ∙ ap (λ n. entry mark (get_or bits n false)) (sym (input_count-zero (take line marks)))
entry_of (One ∷ marks) bits (suc line) mark h = entry_of marks bits line mark h ∙ ap (λ n. entry mark (get_or bits n false)) (sym (input_count-one (take line marks)))
entry_of (Input ∷ marks) [] (suc line) mark h = entry_of marks [] line mark h
entry_of (Input ∷ marks) (bit ∷ bits) (suc line) mark h =
    entry_of marks bits line mark h ∙ ap (λ n. entry mark (get_or (bit ∷ bits) n false)) (sym (input_count-more (take line marks)))

take_next : {X : Type 0} (xs : List X) (i : ℕ) (x : X) → slice_get xs i ≡ Some x → take (i + 1) xs ≡ take i xs ++ x ∷ []
take_next xs i x h = take_more xs i x (slice_get_within xs i x h) ∙ ap (λ y. take i xs ++ y ∷ []) (get_or_from_slice_get xs i x x h)

pub input_count-next : (marks : List Mark) (line : ℕ) (mark : Mark) → slice_get marks line ≡ Some mark → input_count (take (line + 1) marks) ≡ input_count (take line marks) + input_count (mark ∷ [])
input_count-next marks line mark h = ap input_count (take_next marks line mark h) ∙ input_count-append (take line marks) (mark ∷ [])

pub input_count-prefix : (marks : List Mark) (n : ℕ) → input_count (take n marks) ≤ input_count marks
input_count-prefix marks n = grind (arith, common_steps, input_count, take-append-drop, input_count-append)

-- the bits of one more line that are no garbage
pub without_garbage-next : (garbage word : List Bool) (line : ℕ) (left_out : Bool) → slice_get garbage line ≡ Some left_out → line < length word
    → without_garbage (take (line + 1) garbage) (take (line + 1) word) ≡ without_garbage (take line garbage) (take line word) ++ without_garbage (left_out ∷ []) (get_or word line false ∷ [])
without_garbage-next garbage word line left_out h lt =
    let within = slice_get_within garbage line left_out h in
    ap (λ g. without_garbage g (take (line + 1) word)) (take_next garbage line left_out h)
    ∙ ap (without_garbage (take line garbage ++ left_out ∷ [])) (take_more word line false lt)
    ∙ without_garbage-append (take line garbage) (left_out ∷ []) (take line word) (get_or word line false ∷ []) (omega (arith, length-take line garbage, length-take line word, within))

-- the bits of the lines before one that are no garbage
abbrev kept_before : List Bool → List Bool → ℕ → List Bool
kept_before garbage word line = without_garbage (take line garbage) (take line word)

-- their number, and how many they are
pub record HasOutputs (garbage word : List Bool) (line value kept : ℕ) : Type 0 where
  pub number : number_of (kept_before garbage word line) ≡ value
  pub count : length (kept_before garbage word line) ≡ kept
  pub few : kept ≤ line

pub outputs_none : (garbage word : List Bool) → HasOutputs garbage word 0 0 0
unfolding without_garbage number_of
outputs_none garbage word = record { number = refl; count = refl; few = omega arith }

pub outputs_more : (garbage word : List Bool) (line number count byte : ℕ) → slice_get garbage line ≡ Some false → line < length word → byte ≡ bool_byte (get_or word line false)
    → HasOutputs garbage word line number count → HasOutputs garbage word (line + 1) (number * 2 + byte) (count + 1)
unfolding without_garbage
outputs_more garbage word line number count byte kept lt is o =
    let bit : Bool = get_or word line false in
    let next = without_garbage-next garbage word line false kept lt in
    record {
      number = ap number_of next ∙ number_of-next (kept_before garbage word line) bit ∙ ap (λ n. n * 2 + bool_byte bit) o.number ∙ ap (λ b. number * 2 + b) (sym is);
      count = ap length next ∙ length-append (kept_before garbage word line) (bit ∷ []) ∙ ap (λ n. n + 1) o.count;
      few = omega (arith, o.few);
    }

pub outputs_same : (garbage word : List Bool) (line number count : ℕ) → slice_get garbage line ≡ Some true → line < length word
    → HasOutputs garbage word line number count → HasOutputs garbage word (line + 1) number count
unfolding without_garbage
outputs_same garbage word line number count left_out lt o =
    let next = without_garbage-next garbage word line true left_out lt ∙ append-nil (kept_before garbage word line) in
    record { number = ap number_of next ∙ o.number; count = ap length next ∙ o.count; few = omega (arith, o.few) }

pub outputs_small : (garbage word : List Bool) (line number count : ℕ) → line < 64 → HasOutputs garbage word line number count → number < 9223372036854775808
outputs_small garbage word line number count lt o = grind (arith, pow-le-pow_right, number_of-lt)

-- all lines
pub outputs_all : (garbage word : List Bool) (line number count : ℕ) → length garbage ≤ line → length word ≤ line → HasOutputs garbage word line number count
    → (number < 2 ^ count) × (word_of count number ≡ without_garbage garbage word)
outputs_all garbage word line number count few short o =
    grind (arith, without_garbage, take_all, word_of, number_of, number_of-lt, word_of-number_of)

-- the bits that are asked for, and a line feed
pub answer_whole : (c : Cascade) (all : Bool) (word asked : List Bool) → length word ≡ length c.names → all ≡ true → asked ≡ word → map bit_byte asked ++ line_feed ∷ [] ≡ answer_text c all word
answer_whole c all word asked size on is =
    ap (λ w. map bit_byte w ++ line_feed ∷ []) (is ∙ sym (without_garbage-outputs word) ∙ ap (λ n. without_garbage (replicate n false) word) size) ∙ ap (λ t. answer_text c t word) (sym on)

pub answer_kept : (c : Cascade) (all : Bool) (word asked : List Bool) → all ≡ false → asked ≡ without_garbage c.garbage word → map bit_byte asked ++ line_feed ∷ [] ≡ answer_text c all word
answer_kept c all word asked off is = ap (λ w. map bit_byte w ++ line_feed ∷ []) is ∙ ap (λ t. answer_text c t word) (sym off)

-- one more line has its bit or constant
pub fills_more : (marks : List Mark) (bits : List Bool) (line used number byte : ℕ) (mark : Mark) (bit : Bool) → slice_get marks line ≡ Some mark → used ≡ input_count (take line marks)
    → bit ≡ entry mark (get_or bits used false) → byte ≡ bool_byte bit → NumberTo (with_constants marks bits) line number → NumberTo (with_constants marks bits) (line + 1) (number * 2 + byte)
fills_more marks bits line used number byte mark bit h count is byte_is =
    number_more (with_constants marks bits) line number byte (omega (arith, slice_get_within marks line mark h, length-with_constants marks bits))
    (byte_is ∙ ap bool_byte (is ∙ ap (λ n. entry mark (get_or bits n false)) count ∙ sym (entry_of marks bits line mark h)))

-- an answer for one reason, and for another one
pub answered_for : {A : Type 0} (answer : Option A) (P Q : Type 0) (made asked : A) → SomeIff answer P made → P → Q → made ≡ asked → SomeIff answer Q asked
answered_for None P Q made asked h p q same = absurd (h p)
answered_for (Some a) P Q made asked h p q same = (q, h.1 ∙ same)

-- a bit for each line
pub whole_word : (lines count bits : ℕ) → count ≡ lines
    → (count ≡ input_count (replicate lines Input)) × (word_of count bits ≡ with_constants (replicate lines Input) (word_of count bits))
whole_word lines count bits same = (
  same ∙ sym (input_count-inputs lines),
  sym (subst (λ n. with_constants (replicate n Input) (word_of count bits) ≡ word_of count bits) (length-word_of count bits ∙ same) (with_constants-inputs (word_of count bits))),
)

-- the next bit of those that a number holds
pub next_bit : (count bits used : ℕ) → used < count → has bits (count - (used + 1)) ≡ get_or (word_of count bits) used false
next_bit count bits used lt = grind (arith, bit_of-word_of)
