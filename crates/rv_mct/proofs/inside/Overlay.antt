-- Lists whose first entries are those of others.
use Rattle.std.proofs.Common.{◌≡◌, ℕ, zero, suc, ◌+◌, ◌<◌, List, [], ◌∷◌, ◌++◌, length, take, drop, get_or, set, replicate, true, false, refl, sym, ap, arith, add-one, ◌∙◌, ◌-◌, ◌≤◌}
use Rattle.std.proofs.lemmas.List.{append-nil, drop_all, get_or-append_right, get_or-replicate, length-append, length-replicate, take-append-le, take_all}
use Rattle.std.proofs.Math.Seq.{drop-append_seam}
use Rattle.rv_gate.specs.Circuit.{Cascade, IsCascade, fresh}
use Rattle.rv_gate.specs.declared.circuit.Mark.TheVariants.{Input, Zero}
use Rattle.rv_mct.specs.Widened.{added_names, widened}
use Rattle.rv_mct.specs.inside.Marking.{line_marked}

abbrev pub over : {A : Type 0} → ℕ → List A → List A → List A
over i xs ys = take i xs ++ drop i ys

over-suc : {A : Type 0} (i : ℕ) (xs ys : List A) (x d : A) → i < length xs → i < length ys → x ≡ get_or xs i d → set (over i xs ys) i x ≡ over (suc i) xs ys
over-suc i [] ys x d in_xs in_ys is = absurd (omega arith)
over-suc i (x0 ∷ xs) [] x d in_xs in_ys is = absurd (omega arith)
over-suc zero (x0 ∷ xs) (y ∷ ys) x d in_xs in_ys is = ap (λ z. z ∷ ys) is
over-suc (suc i) (x0 ∷ xs) (y ∷ ys) x d in_xs in_ys is = ap (λ zs. x0 ∷ zs) (over-suc i xs ys x d (omega arith) (omega arith) is)

pub over-next : {A : Type 0} (i : ℕ) (xs ys : List A) (x d : A) → i < length xs → i < length ys → x ≡ get_or xs i d → set (over i xs ys) i x ≡ over (i + 1) xs ys
over-next i xs ys x d in_xs in_ys is = over-suc i xs ys x d in_xs in_ys is ∙ ap (λ k. over k xs ys) (sym (add-one i))

-- the lines before `line` have the circuit's labels and marks, the others those of a new circuit
abbrev pub overlaid : Cascade → ℕ → ℕ → Cascade
overlaid c extra line = record {
  names = c.names ++ added_names c.names extra;
  input_labels = over line c.input_labels (c.names ++ added_names c.names extra);
  output_labels = over line c.output_labels (c.names ++ added_names c.names extra);
  constants = over line c.constants (replicate (length (c.names ++ added_names c.names extra)) Input);
  garbage = over line c.garbage (replicate (length (c.names ++ added_names c.names extra)) false);
  gates = [];
}

-- the added lines before `line` are marked too
abbrev pub marked_from : Cascade → ℕ → ℕ → Cascade
marked_from c extra line = record {
  names = c.names ++ added_names c.names extra;
  input_labels = c.input_labels ++ added_names c.names extra;
  output_labels = c.output_labels ++ added_names c.names extra;
  constants = over line (c.constants ++ replicate extra Zero) (replicate (length (c.names ++ added_names c.names extra)) Input);
  garbage = over line (c.garbage ++ replicate extra true) (replicate (length (c.names ++ added_names c.names extra)) false);
  gates = [];
}

-- ---- steps of the two loops

pub overlaid-none : (c : Cascade) (extra : ℕ) (names : List (List ℕ)) → names ≡ c.names ++ added_names c.names extra → fresh names ≡ overlaid c extra 0
overlaid-none c extra names is = rw is refl

-- one line more has its labels and marks
pub overlaid-next : (c : Cascade) (extra line : ℕ) (wide : Cascade) → IsCascade c → line < length c.names → wide ≡ overlaid c extra line
    → line_marked c line wide ≡ overlaid c extra (line + 1)
overlaid-next c extra line wide kept within so_far = grind (arith, added_names, length-append, length-replicate, over-next)

drop-first : {A : Type 0} (ys zs : List A) (n : ℕ) → length ys ≡ n → drop n (ys ++ zs) ≡ zs
drop-first ys zs n is = ap (λ k. drop k (ys ++ zs)) (sym is) ∙ drop-append_seam ys zs

over-whole : {A : Type 0} (xs ys zs : List A) (n : ℕ) → length xs ≡ n → length ys ≡ n → over n xs (ys ++ zs) ≡ xs ++ zs
over-whole xs ys zs n xs_n ys_n = rw (take_all n xs (omega (arith, xs_n)), drop-first ys zs n ys_n) refl

over-all : {A : Type 0} (n : ℕ) (xs ys : List A) → length xs ≡ n → length ys ≡ n → over n xs ys ≡ xs
over-all n xs ys xs_n ys_n = rw (take_all n xs (omega (arith, xs_n)), drop_all n ys (omega (arith, ys_n))) (append-nil xs)

-- an entry of so many that are the same, after others
get_or-after : {A : Type 0} (xs : List A) (n : ℕ) (x : A) (i : ℕ) → length xs ≤ i → i < length xs + n → get_or (xs ++ replicate n x) i x ≡ x
get_or-after xs n x i after within = get_or-append_right xs (replicate n x) (length xs) i x refl after ∙ get_or-replicate n (i - length xs) x x (omega arith)

over-front : {A : Type 0} (xs more ys : List A) (n : ℕ) → length xs ≡ n → over n (xs ++ more) ys ≡ over n xs ys
over-front xs more ys n is = ap (λ zs. zs ++ drop n ys) (take-append-le n xs more (omega (arith, is)))

-- all lines of the circuit have theirs
pub overlaid-all : (c : Cascade) (extra line : ℕ) (wide : Cascade) → IsCascade c → line ≡ length c.names → wide ≡ overlaid c extra line → wide ≡ marked_from c extra line
overlaid-all c extra line wide kept all so_far = grind (arith, added_names, over-whole, over-front)

-- one added line more is marked
pub marked-next : (c : Cascade) (extra line : ℕ) (wide : Cascade) → IsCascade c → length (added_names c.names extra) ≡ extra → length c.names ≤ line → line < length c.names + extra
    → wide ≡ marked_from c extra line → record wide { constants = set wide.constants line Zero; garbage = set wide.garbage line true } ≡ marked_from c extra (line + 1)
marked-next c extra line wide kept added after within so_far =
    let all = c.names ++ added_names c.names extra in
    let whole : length all ≡ length c.names + extra = length-append c.names (added_names c.names extra) ∙ ap (λ n. length c.names + n) added in
    let marks : line < length (replicate (length all) Input) = omega (arith, whole, length-replicate (length all) Input) in
    let ends : line < length (replicate (length all) false) = omega (arith, whole, length-replicate (length all) false) in
    let constants = over-next line (c.constants ++ replicate extra Zero) (replicate (length all) Input) Zero Zero
    (omega (arith, length-append c.constants (replicate extra Zero), kept.constants, length-replicate extra Zero)) marks
    (sym (get_or-after c.constants extra Zero line (omega (arith, kept.constants)) (omega (arith, kept.constants)))) in
    let garbage = over-next line (c.garbage ++ replicate extra true) (replicate (length all) false) true true
    (omega (arith, length-append c.garbage (replicate extra true), kept.garbage, length-replicate extra true)) ends
    (sym (get_or-after c.garbage extra true line (omega (arith, kept.garbage)) (omega (arith, kept.garbage)))) in
    rw (so_far, constants, garbage) refl

-- and all are
pub marked-all : (c : Cascade) (extra line : ℕ) (wide : Cascade) → IsCascade c → length (added_names c.names extra) ≡ extra → line ≡ length c.names + extra
    → wide ≡ marked_from c extra line → wide ≡ widened c extra
marked-all c extra line wide kept added all so_far = grind (arith, added_names, length-append, over-all, length-replicate)
