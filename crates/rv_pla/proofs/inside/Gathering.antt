-- What the terms give together, one term after another.
use Rattle.std.proofs.Common.{◌≡◌, ℕ, ◌+◌, ◌%◌, ◌^◌, ◌<◌, ◌≤◌, Bool, true, false, ◌&&◌, ◌||◌, cond, nat_eq, List, [], ◌∷◌, ◌++◌, length, get_or, take, refl, sym, ap, ◌∙◌, arith}
use Rattle.std.specs.Prelude.{count_by, is_some, replicate}
use Rattle.std.proofs.lemmas.List.{get_or-replicate, take_all, take_more}
use Rattle.std.proofs.lemmas.List.Sums.{sum_by-append}
use Rattle.rv_gate.specs.Word.{has, word_of}
use Rattle.rv_gate.specs.Gate.{xor}
use Rattle.rv_gate.proofs.LineSets.{has-none, has-or, has-xor, has-cond}
use Rattle.rv_pla.specs.Cube.{matches}
use Rattle.rv_pla.specs.Pla.{first_line, covers, Term}
use Rattle.rv_pla.specs.inside.Table.{joined_sets, gathers, IsGathered}

-- ---- one term more

odd-more : (n : ℕ) (b : Bool) → nat_eq ((n + cond b 1 0) % 2) 1 ≡ xor (nat_eq (n % 2) 1) b
odd-more n b = grind arith

count_by-more : (p : Term → Bool) (terms : List Term) (term : Term) → count_by p (terms ++ term ∷ []) ≡ count_by p terms + cond (p term) 1 0
count_by-more p terms term = sum_by-append (λ t. cond (p t) 1 0) terms (term ∷ []) ∙ ap (λ n. count_by p terms + n) (let e : 0 + cond (p term) 1 0 ≡ cond (p term) 1 0 = omega arith in e)

first_line-more : (set : Term → ℕ) (word : List Bool) (j : ℕ) (terms : List Term) (term : Term)
    → is_some (first_line set word j (terms ++ term ∷ [])) ≡ (is_some (first_line set word j terms) || covers set word j term)
unfolding first_line
first_line-more set word j [] term = grind arith
first_line-more set word j (t ∷ ts) term = let rest = first_line-more set word j ts term in grind (arith, rest)

gathers-more : (odd : Bool) (set : Term → ℕ) (word : List Bool) (j : ℕ) (terms : List Term) (term : Term) (a b : ℕ)
    → has a j ≡ gathers odd set word j terms → has b j ≡ covers set word j term
    → has (joined_sets odd a b) j ≡ gathers odd set word j (terms ++ term ∷ [])
gathers-more odd set word j terms term a b h h1 =
    grind (arith, has-xor, count_by, count_by-more, odd-more, has-or, is_some, first_line, first_line-more)

-- ---- tables

gathers-none : (odd : Bool) (set : Term → ℕ) (word : List Bool) (j : ℕ) → gathers odd set word j [] ≡ false
unfolding first_line
gathers-none true set word j = refl
gathers-none false set word j = refl

pub gathered_none : (odd : Bool) (set : Term → ℕ) (n : ℕ) (table : List ℕ) → table ≡ replicate (2 ^ n) 0 → length table ≡ 2 ^ n → IsGathered odd set n [] table
gathered_none odd set n table zeros len = record {
  size = len;
  is = λ x j h.
      ap (λ xs. has (get_or xs x 0) j) zeros ∙ ap (λ v. has v j) (get_or-replicate (2 ^ n) x 0 0 h) ∙ has-none j ∙ sym (gathers-none odd set (word_of n x) j);
}

pub gathered_more : (odd : Bool) (set : Term → ℕ) (n i : ℕ) (terms : List Term) (term any : Term) (outs : ℕ) (old new : List ℕ)
    → IsGathered odd set n (take i terms) old → i < length terms → term ≡ get_or terms i any → outs ≡ set term → length new ≡ length old
    → ((x : ℕ) → x < length old → get_or new x 0 ≡ joined_sets odd (get_or old x 0) (cond (matches term.cube (word_of n x)) outs 0))
    → IsGathered odd set n (take (i + 1) terms) new
gathered_more odd set n i terms term any outs old new so_far lt at is len joined = record {
  size = len ∙ so_far.size;
  is = λ x j h.
      let word : List Bool = word_of n x in
      let m : Bool = matches term.cube word in
      let spoken : has (cond m outs 0) j ≡ covers set word j term = has-cond m outs j ∙ ap (λ s. m && has s j) is in
      ap (λ v. has v j) (joined x (omega (arith, so_far.size)))
      ∙ gathers-more odd set word j (take i terms) term (get_or old x 0) (cond m outs 0) (so_far.is x j h) spoken
      ∙ ap (gathers odd set word j) (ap (λ t. take i terms ++ t ∷ []) at ∙ sym (take_more terms i any lt));
}

pub gathered_all : (odd : Bool) (set : Term → ℕ) (n i : ℕ) (terms : List Term) (table : List ℕ) → length terms ≤ i → IsGathered odd set n (take i terms) table → IsGathered odd set n terms table
gathered_all odd set n i terms table past all = rw (← take_all i terms past) all
