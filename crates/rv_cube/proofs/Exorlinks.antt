-- A exorlink keeps the value, and the list gets shorter.
use Rattle.std.proofs.Common.{◌≡◌, ◌≢◌, ℕ, ◌<◌, Bool, true, List, length, set, refl, sym, ◌∙◌, ap, subst, inl, inr, arith, length-set, get_or-set_other, ◌∷◌, []}
use Rattle.std.specs.Prelude.{bit_xor}
use Rattle.std.proofs.lemmas.Bool.{cases_eq}
use Rattle.std.proofs.lemmas.Nat.{xor_comm}
use Rattle.std.proofs.lemmas.List.Elements.{All-set, All-get_or}
use Rattle.rv_pla.specs.Cube.{symbol}
use Rattle.rv_cube.specs.Esop.{share, esop_value, IsTerm}
use Rattle.rv_cube.specs.Distance.{differs, differing, with_symbol, with_third}
use Rattle.rv_cube.specs.Reduction.{no_cube, at, merged_any}
use Rattle.rv_pla.specs.declared.cube.Cube.{Cube}
use Rattle.rv_cube.proofs.Symbols.{symbol_with-same, symbol_with-other}
use Rattle.rv_cube.proofs.inside.Differing.{differs-comm, IsDiffering}
use Rattle.rv_cube.proofs.Sums.{xor_middle, xor_pair, value-set}
use Rattle.std.proofs.lemmas.List.Sums.{sum_by-set}
use Rattle.rv_cube.specs.ReductionFor.{carried_count}
use Rattle.rv_cube.proofs.Outputs.{count-same}
use Rattle.rv_cube.proofs.inside.Merges.{Kept, with_third-outs, with_third_valid, share-with_third, Mergeable, merged_any_kept}
use Rattle.std.proofs.lemmas.Grind.{common_steps}

-- two cubes that may stand for a and b
pub record IsForm (n outputs : ℕ) (a b first second : Cube) : Type 0 where
  pub shares : (word : List Bool) → length word ≡ n → bit_xor (share first word) (share second word) ≡ bit_xor (share a word) (share b word)
  pub valid : IsTerm n outputs a → IsTerm n outputs b → IsTerm n outputs first × IsTerm n outputs second
  pub first_outs : first.outs ≡ a.outs
  pub second_outs : second.outs ≡ b.outs

-- a with a's and b's third at p, b with their third at q
form_shares : (n : ℕ) (a b : Cube) (p q : ℕ) (word : List Bool) → length word ≡ n → p ≢ q → p < n → q < n
    → differs a b p ≡ true → differs a b q ≡ true → a.outs ≡ b.outs
    → ((i : ℕ) → i < n → i ≢ p → i ≢ q → symbol a i ≡ symbol b i)
    → bit_xor (share (with_third a b p) word) (share (with_third b a q) word) ≡ bit_xor (share a word) (share b word)
form_shares n a b p q word len pq hp hq dp dq o h =
    let m : Cube = with_symbol a p (symbol b p) in
    let one : share (with_third a b p) word ≡ bit_xor (share a word) (share m word) =
    share-with_third a b m p word (omega arith) dp refl (symbol_with-same a p (symbol b p)) (λ i l ne. symbol_with-other a p i (symbol b p) ne) in
    let qp : q ≢ p = λ e. pq (sym e) in
    let two : share (with_third b a q) word ≡ bit_xor (share b word) (share m word) =
    share-with_third b a m q word (omega arith) (differs-comm b a q ∙ dq) (sym o) (symbol_with-other a p q (symbol b p) qp)
    (λ i l ne. elim (cases_eq i p) [
      | inl e ↦ rw e (symbol_with-same a p (symbol b p))
      | inr np ↦ symbol_with-other a p i (symbol b p) np ∙ h i (omega arith) np ne
    ]) in
    rw (one, two) (xor_middle (share a word) (share b word) (share m word))

pub form_1 : (n outputs : ℕ) (a b : Cube) (p q : ℕ) → IsDiffering a b n (p ∷ q ∷ []) → a.outs ≡ b.outs
    → IsForm n outputs a b (with_third a b p) (with_third b a q)
form_1 n outputs a b p q is o =
    let pq : p < q = is.0 in
    let hq : q < n = is.1 in
    record {
      shares = λ word len. form_shares n a b p q word len (omega arith) (omega arith) hq is.2 is.3 o is.4;
      valid = λ va vb. (with_third_valid n outputs a b p (omega arith) va, with_third_valid n outputs b a q hq vb);
      first_outs = with_third-outs a b p;
      second_outs = with_third-outs b a q;
    }

pub form_2 : (n outputs : ℕ) (a b : Cube) (p q : ℕ) → IsDiffering a b n (p ∷ q ∷ []) → a.outs ≡ b.outs
    → IsForm n outputs a b (with_third b a p) (with_third a b q)
form_2 n outputs a b p q is o =
    let pq : p < q = is.0 in
    let hq : q < n = is.1 in
    record {
      shares = grind (arith, common_steps, form_shares, differs-comm, xor_comm);
      valid = λ va vb. (with_third_valid n outputs b a p (omega arith) vb, with_third_valid n outputs a b q hq va);
      first_outs = with_third-outs b a p ∙ sym o;
      second_outs = with_third-outs a b q ∙ o;
    }

-- the list with a form in the places of a and b
abbrev pub with_form : List Cube → ℕ → ℕ → Cube → Cube → List Cube
with_form cubes a b f s = set (set cubes a f) b s

value-form : (n outputs : ℕ) (cubes : List Cube) (a b : ℕ) (f s : Cube) (word : List Bool) → length word ≡ n → a < b → b < length cubes
    → IsForm n outputs (at cubes a) (at cubes b) f s → esop_value (with_form cubes a b f s) word ≡ esop_value cubes word
value-form n outputs cubes a b f s word len ab within is =
    grind (arith, length-set, value-set, bit_xor, esop_value, get_or-set_other, no_cube, xor_pair)

-- what is asked of an exorlink
pub record IsExorlink (n outputs : ℕ) (cubes : List Cube) (a b : ℕ) (f s : Cube) (place c : ℕ) : Type 0 where
  pub ab : a < b
  pub within : b < length cubes
  pub is_form : IsForm n outputs (at cubes a) (at cubes b) f s
  pub place_in : place < length cubes
  pub partner_in : c < length cubes
  pub other_a : c ≢ a
  pub other_b : c ≢ b
  pub other_place : place ≢ c
  pub mergeable_there : Mergeable (at (with_form cubes a b f s) place) (at cubes c) (differing n (at (with_form cubes a b f s) place) (at cubes c))

pub exorlink_kept : (n outputs : ℕ) (cubes : List Cube) (a b : ℕ) (f s : Cube) (place c : ℕ) → IsExorlink n outputs cubes a b f s place c
    → Kept n outputs cubes (merged_any n (with_form cubes a b f s) place c)
exorlink_kept n outputs cubes a b f s place c r =
    let l : length (with_form cubes a b f s) ≡ length cubes = length-set (set cubes a f) b s ∙ length-set cubes a f in
    let ab = r.ab in
    let within = r.within in
    let place_in = r.place_in in
    let partner_in = r.partner_in in
    let same_c : at (with_form cubes a b f s) c ≡ at cubes c = get_or-set_other (set cubes a f) b c s no_cube r.other_b ∙ get_or-set_other cubes a c f no_cube r.other_a in
    let P : Cube → Type 0 = λ x. Mergeable (at (with_form cubes a b f s) place) x (differing n (at (with_form cubes a b f s) place) x) in
    let k : Kept n outputs (with_form cubes a b f s) (merged_any n (with_form cubes a b f s) place c) =
    merged_any_kept n outputs (with_form cubes a b f s) place c r.other_place (omega arith) (omega arith) (subst P (sym same_c) r.mergeable_there) in
    let short = k.shorter in
    record {
      value_kept = λ word len. k.value_kept word len ∙ value-form n outputs cubes a b f s word len ab within r.is_form;
      shorter = omega arith;
      valid = λ all.
          let v = r.is_form.valid (All-get_or (IsTerm n outputs) cubes a no_cube (omega arith) all) (All-get_or (IsTerm n outputs) cubes b no_cube within all) in
          k.valid (All-set (IsTerm n outputs) (set cubes a f) b s v.1 (All-set (IsTerm n outputs) cubes a f v.0 all));
      lighter = λ o.
          let less = k.lighter o in
          let len = length-set cubes a f in
          let one = sum_by-set (carried_count o) (set cubes a f) b s no_cube (omega arith) in
          let two = sum_by-set (carried_count o) cubes a f no_cube (omega arith) in
          let other : b ≢ a = omega arith in
          let there : carried_count o (at (set cubes a f) b) ≡ carried_count o (at cubes b) = ap (carried_count o) (get_or-set_other cubes a b f no_cube other) in
          let first : carried_count o f ≡ carried_count o (at cubes a) = count-same o f (at cubes a) r.is_form.first_outs in
          let second : carried_count o s ≡ carried_count o (at cubes b) = count-same o s (at cubes b) r.is_form.second_outs in
          omega arith;
    }
