-- A value added to that of a word.
use Rattle.rv_gate.proofs.Words.{same_word-true, same_word-false}
use Rattle.std.proofs.Common.{◌≡◌, ◌≢◌, ℕ, zero, suc, ◌<◌, Bool, cond, List, [], ◌∷◌, ◌++◌, length, get_or, set, refl, sym, ap, ◌∙◌, arith, le_of_suc-le-suc, not-suc-le-zero, inl, inr, All, length-append, get_or-set_same, get_or-set_other}
use Rattle.std.proofs.lemmas.Bool.{cases_eq}
use Rattle.std.proofs.lemmas.List.{get_or_append_left}
use Rattle.std.proofs.Math.Seq.{get_or-append_seam}
use Rattle.rv_gate.specs.Word.{ones_of}
use Rattle.rv_net.specs.Cyclotomic.{Cyclotomic, plus}
use Rattle.rv_check.specs.declared.member.Member.{Member}
use Rattle.rv_check.specs.inside.Kept.{added}
use Rattle.rv_check.specs.inside.Placed.{ArePlaced}
use Rattle.rv_check.proofs.Words.{same_from_ones}

abbrev pub more : Member → Cyclotomic → Member
more m v = record m { value = plus m.value v }

added_at : (ms : List Member) (w : List Bool) (v : Cyclotomic) (i : ℕ) (d : Member) → i < length ms → (get_or ms i d).word ≡ w
    → ((j : ℕ) → j < i → (get_or ms j d).word ≢ w) → added ms w v ≡ set ms i (more (get_or ms i d) v)
unfolding added
added_at [] w v i d h e other = absurd (not-suc-le-zero h)
added_at (m ∷ ms) w v zero d h e other = ap (λ b. cond b (more m v ∷ ms) (m ∷ added ms w v)) (same_word-true m.word w e)
added_at (m ∷ ms) w v (suc i) d h e other =
    ap (λ b. cond b (more m v ∷ ms) (m ∷ added ms w v)) (same_word-false m.word w (other 0 (omega arith)))
    ∙ ap (λ l. m ∷ l) (added_at ms w v i d (le_of_suc-le-suc h) e (λ j lt. other (suc j) (omega arith)))

added_new : (ms : List Member) (w : List Bool) (v : Cyclotomic) (d : Member) → ((j : ℕ) → j < length ms → (get_or ms j d).word ≢ w)
    → added ms w v ≡ ms ++ record { word = w; value = v } ∷ []
unfolding added
added_new [] w v d other = refl
added_new (m ∷ ms) w v d other =
    ap (λ b. cond b (more m v ∷ ms) (m ∷ added ms w v)) (same_word-false m.word w (other 0 (omega arith)))
    ∙ ap (λ l. m ∷ l) (added_new ms w v d (λ j lt. other (suc j) (omega arith)))

-- the word found at its place
pub added_at_place : (places : List ℕ) (ms : List Member) (w : List Bool) (v : Cyclotomic) (i : ℕ) (d : Member) → ArePlaced places ms → i < length ms
    → (get_or ms i d).word ≡ w → added ms w v ≡ set ms i (more (get_or ms i d) v)
added_at_place places ms w v i d placed h e = grind (arith, added_at, ones_of)

-- the word not found at its place
pub IsNew : List Member → List Bool → Type 0
IsNew ms w = (j : ℕ) (d : Member) → j < length ms → (get_or ms j d).word ≢ w

pub new_at_end : (places : List ℕ) (ms : List Member) (w : List Bool) (place : ℕ) → place ≡ get_or places (ones_of w) 0 → ArePlaced places ms
    → ((d : Member) → place < length ms → (get_or ms place d).word ≢ w) → IsNew ms w
unfolding IsNew
new_at_end places ms w place is placed none j d lt same = grind (arith)

pub added_at_end : (ms : List Member) (w : List Bool) (v : Cyclotomic) → IsNew ms w → added ms w v ≡ ms ++ record { word = w; value = v } ∷ []
unfolding IsNew
added_at_end ms w v new = added_new ms w v (record { word = w; value = v }) (λ j lt. new j _ lt)

-- the place of the word that is new
pub placed_at_end : (places : List ℕ) (ms : List Member) (w : List Bool) (v : Cyclotomic) → ArePlaced places ms → All (λ m. length m.word ≡ length w) ms → IsNew ms w
    → ones_of w < length places → ArePlaced (set places (ones_of w) (length ms)) (ms ++ record { word = w; value = v } ∷ [])
unfolding IsNew
placed_at_end places ms w v placed lengths new room i d h =
    elim (cases_eq i (length ms)) as (λ _. get_or (set places (ones_of w) (length ms)) (ones_of (get_or (ms ++ record { word = w; value = v } ∷ []) i d).word) 0 ≡ i) [
      | inl e ↦
          let m : get_or (ms ++ record { word = w; value = v } ∷ []) i d ≡ record { word = w; value = v } = ap (λ k. get_or (ms ++ record { word = w; value = v } ∷ []) k d) e ∙ get_or-append_seam ms (record { word = w; value = v }) [] d in
          ap (λ x. get_or (set places (ones_of w) (length ms)) (ones_of x.word) 0) m ∙ get_or-set_same places (ones_of w) (length ms) 0 room ∙ sym e
      | inr ne ↦
          let lt : i < length ms = omega (arith, length-append ms (record { word = w; value = v } ∷ [])) in
          let m : get_or (ms ++ record { word = w; value = v } ∷ []) i d ≡ get_or ms i d = get_or_append_left ms (record { word = w; value = v } ∷ []) d i lt in
          let other : ones_of (get_or ms i d).word ≢ ones_of w = λ o. new i d lt (same_from_ones _ _ (lengths i d lt) o) in
          ap (λ x. get_or (set places (ones_of w) (length ms)) (ones_of x.word) 0) m
          ∙ get_or-set_other places (ones_of w) (ones_of (get_or ms i d).word) (length ms) 0 other
          ∙ placed i d lt
    ]
