-- Lists whose first j items are changed one after another.
use Rattle.std.proofs.Common.{◌≡◌, ℕ, zero, suc, ◌+◌, ◌-◌, ◌<◌, List, [], ◌∷◌, ◌++◌, length, replicate, set, get_or, refl, sym, ◌∙◌, ap, arith, append_assoc, length-append}
use Rattle.std.specs.Prelude.{slice_get, Some}
use Rattle.std.proofs.Math.Seq.{set-append_seam}
use Rattle.std.proofs.lemmas.List.{length-replicate, set-append_left, set-append_right, replicate-append-replicate}
use Rattle.std.proofs.lemmas.List.FromFn.{get_or-map-range_with_len}
use Rattle.std.proofs.lemmas.Option.{get_or_from_slice_get}
use Rattle.rv_gate.specs.Names.{numbered, numbered_name}
use Rattle.rv_gate.proofs.NameLemmas.{numbered-more}

one_more : {A : Type 0} → (j : ℕ) (a : A) (rest : List A) → replicate j a ++ a ∷ rest ≡ replicate (suc j) a ++ rest
one_more zero a rest = refl
one_more (suc j) a rest = ap (λ l. a ∷ l) (one_more j a rest)

-- of m lines the first j have the mark a
abbrev pub marked : {A : Type 0} → ℕ → ℕ → A → A → List A
marked m j a b = replicate j a ++ replicate (m - j) b

pub mark_next : {A : Type 0} → (m j : ℕ) (a b : A) → j < m → set (marked m j a b) j a ≡ marked m (j + 1) a b
mark_next m j a b h =
    let left : m - j ≡ suc (m - (j + 1)) = omega arith in
    let rest = replicate (m - (j + 1)) b in
    let more : suc j ≡ j + 1 = omega arith in
    ap (λ k. set (replicate j a ++ replicate k b) j a) left
    ∙ ap (λ k. set (replicate j a ++ b ∷ rest) k a) (sym (length-replicate j a))
    ∙ set-append_seam (replicate j a) b rest a
    ∙ one_more j a rest
    ∙ ap (λ k. replicate k a ++ rest) more

pub mark_after : {A : Type 0} → (front : List A) (k m j : ℕ) (a b : A) → length front ≡ k → j < m
    → set (front ++ marked m j a b) (k + j) a ≡ front ++ marked m (j + 1) a b
mark_after front k m j a b len h =
    let back : k + j - k ≡ j = omega arith in
    set-append_right front (marked m j a b) k (k + j) a len (omega arith)
    ∙ ap (λ i. front ++ set (marked m j a b) i a) back
    ∙ ap (λ l. front ++ l) (mark_next m j a b h)

length-marked : {A : Type 0} → (m j : ℕ) (a b : A) → j < m → length (marked m j a b) ≡ m
length-marked m j a b h =
    omega (arith, length-append (replicate j a) (replicate (m - j) b), length-replicate j a, length-replicate (m - j) b)

pub mark_before : {A : Type 0} → (m j : ℕ) (a b : A) (rest : List A) → j < m
    → set (marked m j a b ++ rest) j a ≡ marked m (j + 1) a b ++ rest
mark_before m j a b rest h =
    set-append_left (marked m j a b) rest j a (let l = length-marked m j a b h in omega arith)
    ∙ ap (λ l. l ++ rest) (mark_next m j a b h)

-- no line has the mark yet
pub mark_none : {A : Type 0} → (k m : ℕ) (b : A) → replicate (k + m) b ≡ replicate k b ++ replicate (m - 0) b
mark_none k m b =
    let z : m ≡ m - 0 = omega arith in
    sym (replicate-append-replicate k m b) ∙ ap (λ l. replicate k b ++ replicate l b) z

pub mark_none_before : {A : Type 0} → (m k : ℕ) (b : A) → replicate (m + k) b ≡ replicate (m - 0) b ++ replicate k b
mark_none_before m k b =
    let z : m ≡ m - 0 = omega arith in
    sym (replicate-append-replicate m k b) ∙ ap (λ l. replicate l b ++ replicate k b) z

-- one more of the numbered names
pub name_next : (front : List (List ℕ)) (prefix count line : ℕ) (all : List (List ℕ)) (name : List ℕ) → line < count
    → all ≡ numbered prefix count
    → slice_get all line ≡ Some name
    → (front ++ numbered prefix line) ++ name ∷ [] ≡ front ++ numbered prefix (line + 1)
name_next front prefix count line all name h is at =
    let this : name ≡ numbered_name prefix line =
    sym (get_or_from_slice_get all line name name at) ∙ ap (λ l. get_or l line name) is
    ∙ get_or-map-range_with_len (numbered_name prefix) 0 count line line name h (omega arith) in
    append_assoc front (numbered prefix line) (name ∷ [])
    ∙ ap (λ x. front ++ (numbered prefix line ++ x ∷ [])) this
    ∙ ap (λ l. front ++ l) (sym (numbered-more prefix line))
