-- Laws of constants that are put in, and of garbage that is left out.
use Rattle.std.proofs.Common.{◌≡◌, ℕ, zero, suc, ◌+◌, Bool, true, false, not, List, [], ◌∷◌, ◌++◌, length, map, replicate, refl, sym, ◌∙◌, ap, arith}
use Rattle.std.proofs.lemmas.List.Folds.{sum_by-replicate}
use Rattle.std.proofs.lemmas.List.Sums.{sum_by-append}
use Rattle.rv_gate.specs.declared.circuit.Mark.{Mark}
use Rattle.rv_gate.specs.declared.circuit.Mark.TheVariants.{Input, Zero, One}
use Rattle.rv_gate.specs.Marks.{input_count, output_count, with_constants, without_garbage}
use Rattle.std.proofs.lemmas.List.{append-nil}

-- ---- how many lines take an input

pub input_count-append : (a b : List Mark) → input_count (a ++ b) ≡ input_count a + input_count b
input_count-append a b = sum_by-append _ a b

pub input_count-inputs : (n : ℕ) → input_count (replicate n Input) ≡ n
input_count-inputs n = sum_by-replicate _ n Input ∙ omega arith

pub input_count-zeros : (n : ℕ) → input_count (replicate n Zero) ≡ 0
input_count-zeros n = sum_by-replicate _ n Zero ∙ omega arith

pub input_count-more : (marks : List Mark) → input_count (Input ∷ marks) ≡ suc (input_count marks)
input_count-more marks = input_count-append (Input ∷ []) marks ∙ omega arith

pub input_count-zero : (marks : List Mark) → input_count (Zero ∷ marks) ≡ input_count marks
input_count-zero marks = input_count-append (Zero ∷ []) marks ∙ omega arith

pub input_count-one : (marks : List Mark) → input_count (One ∷ marks) ≡ input_count marks
input_count-one marks = input_count-append (One ∷ []) marks ∙ omega arith

-- ---- constants that are put in

pub length-with_constants : (marks : List Mark) (bits : List Bool) → length (with_constants marks bits) ≡ length marks
unfolding with_constants
length-with_constants [] bits = refl
length-with_constants (Zero ∷ marks) bits = ap suc (length-with_constants marks bits)
length-with_constants (One ∷ marks) bits = ap suc (length-with_constants marks bits)
length-with_constants (Input ∷ marks) [] = ap suc (length-with_constants marks [])
length-with_constants (Input ∷ marks) (b ∷ bits) = ap suc (length-with_constants marks bits)

-- lines after others, where the first ones take all of the first bits
pub with_constants-append : (a b : List Mark) (x y : List Bool) → length x ≡ input_count a → with_constants (a ++ b) (x ++ y) ≡ with_constants a x ++ with_constants b y
unfolding with_constants
with_constants-append [] b [] y h = refl
with_constants-append [] b (bit ∷ x) y h = absurd (omega arith)
with_constants-append (Zero ∷ a) b x y h = ap (λ w. false ∷ w) (with_constants-append a b x y (h ∙ input_count-zero a))
with_constants-append (One ∷ a) b x y h = ap (λ w. true ∷ w) (with_constants-append a b x y (h ∙ input_count-one a))
with_constants-append (Input ∷ a) b [] y h = absurd (omega (arith, input_count-more a))
with_constants-append (Input ∷ a) b (bit ∷ x) y h = ap (λ w. bit ∷ w) (with_constants-append a b x y (omega (arith, input_count-more a)))

pub with_constants-inputs : (bits : List Bool) → with_constants (replicate (length bits) Input) bits ≡ bits
unfolding with_constants
with_constants-inputs [] = refl
with_constants-inputs (b ∷ bits) = ap (λ w. b ∷ w) (with_constants-inputs bits)

pub with_constants-zeros : (n : ℕ) (bits : List Bool) → with_constants (replicate n Zero) bits ≡ replicate n false
unfolding with_constants
with_constants-zeros zero bits = refl
with_constants-zeros (suc n) bits = ap (λ w. false ∷ w) (with_constants-zeros n bits)

-- as many bits as lines that take one can be read back
pub with_constants-one : (marks : List Mark) (x y : List Bool) → length x ≡ input_count marks → length y ≡ input_count marks → with_constants marks x ≡ with_constants marks y → x ≡ y
unfolding with_constants
with_constants-one [] [] [] hx hy e = refl
with_constants-one [] [] (b ∷ y) hx hy e = absurd (omega arith)
with_constants-one [] (a ∷ x) y hx hy e = absurd (omega arith)
with_constants-one (Zero ∷ marks) x y hx hy e = with_constants-one marks x y (hx ∙ input_count-zero marks) (hy ∙ input_count-zero marks) cc
with_constants-one (One ∷ marks) x y hx hy e = with_constants-one marks x y (hx ∙ input_count-one marks) (hy ∙ input_count-one marks) cc
with_constants-one (Input ∷ marks) [] y hx hy e = absurd (omega (arith, input_count-more marks))
with_constants-one (Input ∷ marks) (a ∷ x) [] hx hy e = absurd (omega (arith, input_count-more marks))
with_constants-one (Input ∷ marks) (a ∷ x) (b ∷ y) hx hy e =
    let first : a ≡ b = cc in
    let rest : x ≡ y = with_constants-one marks x y (omega (arith, input_count-more marks)) (omega (arith, input_count-more marks)) cc in
    cc

-- ---- how many lines aren't garbage

pub output_count-append : (a b : List Bool) → output_count (a ++ b) ≡ output_count a + output_count b
output_count-append a b = sum_by-append _ a b

pub output_count-outputs : (n : ℕ) → output_count (replicate n false) ≡ n
output_count-outputs n = sum_by-replicate _ n false ∙ omega arith

pub output_count-garbage : (n : ℕ) → output_count (replicate n true) ≡ 0
output_count-garbage n = sum_by-replicate _ n true ∙ omega arith

pub output_count-more : (garbage : List Bool) → output_count (false ∷ garbage) ≡ suc (output_count garbage)
output_count-more garbage = output_count-append (false ∷ []) garbage ∙ omega arith

pub output_count-same : (garbage : List Bool) → output_count (true ∷ garbage) ≡ output_count garbage
output_count-same garbage = output_count-append (true ∷ []) garbage ∙ omega arith

-- each line is garbage, or isn't
pub output_count-not : (garbage : List Bool) → output_count (map not garbage) + output_count garbage ≡ length garbage
output_count-not [] = refl
output_count-not (true ∷ garbage) = omega (arith, output_count-not garbage, output_count-same garbage, output_count-more (map not garbage))
output_count-not (false ∷ garbage) = omega (arith, output_count-not garbage, output_count-more garbage, output_count-same (map not garbage))

-- ---- garbage that is left out

pub length-without_garbage : (garbage word : List Bool) → length word ≡ length garbage → length (without_garbage garbage word) ≡ output_count garbage
unfolding without_garbage
length-without_garbage [] word h = refl
length-without_garbage (g ∷ garbage) [] h = absurd (omega arith)
length-without_garbage (true ∷ garbage) (b ∷ word) h = length-without_garbage garbage word (omega arith) ∙ sym (output_count-same garbage)
length-without_garbage (false ∷ garbage) (b ∷ word) h = ap suc (length-without_garbage garbage word (omega arith)) ∙ sym (output_count-more garbage)

pub without_garbage-append : (a b u v : List Bool) → length u ≡ length a → without_garbage (a ++ b) (u ++ v) ≡ without_garbage a u ++ without_garbage b v
unfolding without_garbage
without_garbage-append [] b [] v h = refl
without_garbage-append [] b (bit ∷ u) v h = absurd (omega arith)
without_garbage-append (g ∷ a) b [] v h = absurd (omega arith)
without_garbage-append (true ∷ a) b (bit ∷ u) v h = without_garbage-append a b u v (omega arith)
without_garbage-append (false ∷ a) b (bit ∷ u) v h = ap (λ w. bit ∷ w) (without_garbage-append a b u v (omega arith))

pub without_garbage-outputs : (word : List Bool) → without_garbage (replicate (length word) false) word ≡ word
unfolding without_garbage
without_garbage-outputs [] = refl
without_garbage-outputs (b ∷ word) = ap (λ w. b ∷ w) (without_garbage-outputs word)

pub without_garbage-all : (n : ℕ) (word : List Bool) → without_garbage (replicate n true) word ≡ []
unfolding without_garbage
without_garbage-all zero word = refl
without_garbage-all (suc n) [] = refl
without_garbage-all (suc n) (b ∷ word) = without_garbage-all n word

-- a word is known by the bits that are left out and the others
pub without_garbage-both : (garbage u v : List Bool) → length u ≡ length garbage → length v ≡ length garbage
    → without_garbage garbage u ≡ without_garbage garbage v → without_garbage (map not garbage) u ≡ without_garbage (map not garbage) v → u ≡ v
unfolding without_garbage
without_garbage-both [] [] [] hu hv k l = refl
without_garbage-both [] [] (b ∷ v) hu hv k l = absurd (omega arith)
without_garbage-both [] (a ∷ u) v hu hv k l = absurd (omega arith)
without_garbage-both (g ∷ garbage) [] v hu hv k l = absurd (omega arith)
without_garbage-both (g ∷ garbage) (a ∷ u) [] hu hv k l = absurd (omega arith)
without_garbage-both (true ∷ garbage) (a ∷ u) (b ∷ v) hu hv k l =
    let first : a ≡ b = cc in
    let rest : u ≡ v = without_garbage-both garbage u v (omega arith) (omega arith) k (cc) in
    cc
without_garbage-both (false ∷ garbage) (a ∷ u) (b ∷ v) hu hv k l =
    let first : a ≡ b = cc in
    let rest : u ≡ v = without_garbage-both garbage u v (omega arith) (omega arith) (cc) l in
    cc

-- zeros stand after the inputs
pub with_constants-filled : (n rest : ℕ) (x : List Bool) → length x ≡ n
    → with_constants (replicate n Input ++ replicate rest Zero) x ≡ x ++ replicate rest false
with_constants-filled n rest x len =
    ap (with_constants (replicate n Input ++ replicate rest Zero)) (sym (append-nil x))
    ∙ with_constants-append (replicate n Input) (replicate rest Zero) x [] (len ∙ sym (input_count-inputs n))
    ∙ ap (λ k. with_constants (replicate k Input) x ++ with_constants (replicate rest Zero) []) (sym len)
    ∙ ap (λ w. w ++ with_constants (replicate rest Zero) []) (with_constants-inputs x)
    ∙ ap (λ w. x ++ w) (with_constants-zeros rest [])
