-- Where free entries change alone, a list stays right.
use Rattle.std.proofs.Common.{◌≡◌, ℕ, ◌+◌, ◌-◌, ◌^◌, ◌<◌, Bool, true, false, cond, List, [], ◌∷◌, ◌++◌, length, get_or, drop, refl, sym, ◌∙◌, ap, subst, inl, inr, arith, length-drop, length-append}
use Rattle.std.specs.Prelude.{IsTrue, bit_and}
use Rattle.std.proofs.lemmas.Bool.{cases_Bool, cases_eq, cases_lt, false≢true, and_parts}
use Rattle.std.proofs.Math.Seq.{get_or-append_seam}
use Rattle.std.proofs.lemmas.List.{get_or_append_left, get_or_past}
use Rattle.rv_gate.specs.Word.{has, bit_of, number_of, word_of}
use Rattle.rv_gate.specs.inside.laws.WordLaws.{word_of-number_of}
use Rattle.rv_gate.proofs.LineSets.{has-and, has-none}
use Rattle.rv_gate.proofs.AllBelow.{all_below-at}
use Rattle.rv_pla.specs.Cube.{symbol_of, symbol, agrees, matches}
use Rattle.rv_pla.specs.declared.cube.Cube.{Cube}
use Rattle.rv_pla.specs.Pla.{TwoLevel, entry}
use Rattle.rv_pla.specs.FreeEntries.{is_dont_care, allows}
use Rattle.rv_pla.specs.declared.entry.Entry.{Entry}
use Rattle.rv_pla.specs.declared.entry.Entry.TheVariants.{One, Zero, Free}
use Rattle.rv_cube.specs.ReductionFor.{IsRight}
use Rattle.rv_exorlink.specs.Tables.{value_from}
use Rattle.rv_exorlink.specs.Free.{AreOutsFrom, IsFree, AreFree}
use Rattle.rv_exorlink.specs.Lists.{IsSameBut}
use Rattle.rv_exorlink.proofs.inside.Tables.{halves_of, lower_of, upper_of, part_at}

-- ---- entries

any_allowed : (e : Entry) (b : Bool) → is_dont_care e ≡ true → IsTrue (allows e b)
any_allowed One b h = absurd (false≢true h)
any_allowed Zero b h = absurd (false≢true h)
any_allowed Free b h = refl

pub still_right : (pla : TwoLevel) (free : List ℕ) (old new : List Cube) → AreFree pla free
    → IsSameBut pla.inputs free old new → IsRight pla old → IsRight pla new
still_right pla free old new f s right word len output lt =
    elim (cases_Bool (has (get_or free (number_of word) 0) output)) [
      | inl on ↦ any_allowed (entry pla word output) _ (f.free_at word output len on)
      | inr off ↦ (let P : Bool → Type 0 = λ b. IsTrue (allows (entry pla word output) b) in subst P
          (sym (s.value word len output off)) (right word len output lt))
    ]

-- ---- by halves

asked_bit : (w b : Bool) → agrees (symbol_of true w) b ≡ true → b ≡ w
asked_bit true b h = h
asked_bit false true h = sym h
asked_bit false false h = refl

matched_bit : (cube : Cube) (word : List Bool) (i : ℕ) → i < length word → has cube.care i ≡ true
    → matches cube word ≡ true → bit_of word i ≡ has cube.want i
unfolding matches
matched_bit cube word i h on m =
    let at : agrees (symbol cube i) (bit_of word i) ≡ true =
    all_below-at (λ k. agrees (symbol cube k) (bit_of word k)) (length word) i m h in
    asked_bit (has cube.want i) (bit_of word i)
    (ap (λ b. agrees (symbol_of b (has cube.want i)) (bit_of word i)) (sym on) ∙ at)

no_number : (w : List Bool) → length w ≡ 0 → number_of w ≡ 0
unfolding number_of
no_number [] h = refl
no_number (b ∷ w) h = absurd (omega arith)

-- at a word
pub outs_at : (n from : ℕ) (table : List ℕ) (cube : Cube) (set : ℕ) → from ≡ n
    → AreOutsFrom n from table cube set (bit_and set (get_or table 0 0))
outs_at n from table cube set e = record {
  among = λ output on. (and_parts _ _ (sym (has-and set (get_or table 0 0) output) ∙ on)).0;
  free_at = λ word output len m on.
      let none : length (drop from word) ≡ 0 = omega (arith, length-drop from word) in
      ap (λ k. has (get_or table k 0) output) (no_number (drop from word) none)
      ∙ (and_parts _ _ (sym (has-and set (get_or table 0 0) output) ∙ on)).1;
}

-- none
pub outs_none : (n from : ℕ) (table : List ℕ) (cube : Cube) (set : ℕ) → AreOutsFrom n from table cube set 0
outs_none n from table cube set = record {
  among = λ output on. absurd (false≢true (sym (has-none output) ∙ on));
  free_at = λ word output len m on. absurd (false≢true (sym (has-none output) ∙ on));
}

-- the half of a bit
pub by_want : (n from : ℕ) (table half : List ℕ) (cube : Cube) (set outs : ℕ) (bit : Bool) → from < n
    → length table ≡ 2 ^ (n - from)
    → has cube.care from ≡ true → has cube.want from ≡ bit → half ≡ cond bit (upper_of table) (lower_of table)
    → AreOutsFrom n (from + 1) half cube set outs
    → AreOutsFrom n from table cube set outs
by_want n from table half cube set outs bit within full on want is f = record {
  among = f.among;
  free_at = λ word output len m carried.
      ap (λ s. has s output)
      (part_at n from table (lower_of table) (upper_of table) word within (halves_of n from table within full) len
      ∙ ap (λ b. cond b (value_from (upper_of table) (from + 1) word) (value_from (lower_of table) (from + 1) word))
      (matched_bit cube word from (omega arith) on m ∙ want)
      ∙ choose bit word
      ∙ ap (λ l. value_from l (from + 1) word) (sym is))
      ∙ f.free_at word output len m carried;
}
  where
    choose : (b : Bool) (word : List Bool)
        → cond b (value_from (upper_of table) (from + 1) word) (value_from (lower_of table) (from + 1) word)
        ≡ value_from (cond b (upper_of table) (lower_of table)) (from + 1) word
    choose true word = refl
    choose false word = refl

-- both halves
pub by_both : (n from : ℕ) (table : List ℕ) (cube : Cube) (set some outs : ℕ) → from < n → length table ≡ 2 ^ (n - from)
    → AreOutsFrom n (from + 1) (lower_of table) cube set some → AreOutsFrom n (from + 1) (upper_of table) cube some outs
    → AreOutsFrom n from table cube set outs
by_both n from table cube set some outs within full f g = record {
  among = λ output on. f.among output (g.among output on);
  free_at = λ word output len m on.
      ap (λ s. has s output)
      (part_at n from table (lower_of table) (upper_of table) word within (halves_of n from table within full) len)
      ∙ choose word output len m on (bit_of word from);
}
  where
    choose : (word : List Bool) (output : ℕ) → length word ≡ n → matches cube word ≡ true → has outs output ≡ true
        → (b : Bool)
        → has (cond b (value_from (upper_of table) (from + 1) word)
        (value_from (lower_of table) (from + 1) word)) output ≡ true
    choose word output len m on true = g.free_at word output len m on
    choose word output len m on false = f.free_at word output len m (g.among output on)

-- ---- tables

pub free_cube : (n : ℕ) (table : List ℕ) (cube : Cube) (outs : ℕ) → AreOutsFrom n 0 table cube cube.outs outs
    → outs ≡ cube.outs → IsFree n table cube
free_cube n table cube outs f e = record {
  free_at = λ word output len m on. f.free_at word output len m (ap (λ s. has s output) e ∙ on);
}

-- no entry is free
pub none_free : (pla : TwoLevel) → AreFree pla []
none_free pla = record { free_at = λ word output len on. absurd (false≢true (sym (has-none output) ∙ on)) }

-- the words so far
pub record AreFreeBelow (pla : TwoLevel) (free : List ℕ) : Type 0 where
  pub free_at : (number output : ℕ) → has (get_or free number 0) output ≡ true
      → is_dont_care (entry pla (word_of pla.inputs number) output) ≡ true

pub free_none : (pla : TwoLevel) → AreFreeBelow pla []
free_none pla = record { free_at = λ number output on. absurd (false≢true (sym (has-none output) ∙ on)) }

pub free_more : (pla : TwoLevel) (old new : List ℕ) (outs : ℕ) → AreFreeBelow pla old → new ≡ old ++ outs ∷ []
    → ((output : ℕ) → has outs output ≡ true → is_dont_care (entry pla (word_of pla.inputs (length old)) output) ≡ true)
    → AreFreeBelow pla new
free_more pla old new outs a e is = record {
  free_at = λ number output on.
      let here : has (get_or (old ++ outs ∷ []) number 0) output ≡ true =
      ap (λ l. has (get_or l number 0) output) (sym e) ∙ on in
      elim (cases_lt number (length old)) [
        | inl within ↦ a.free_at number output
            (ap (λ k. has k output) (sym (get_or_append_left old (outs ∷ []) 0 number within)) ∙ here)
        | inr past ↦
            (elim (cases_eq number (length old)) [
              | inl last ↦
                  ap (λ k. is_dont_care (entry pla (word_of pla.inputs k) output)) last
                  ∙ is output (sym (ap (λ k. has k output)
                  (ap (λ k. get_or (old ++ outs ∷ []) k 0) last ∙ get_or-append_seam old outs [] 0)) ∙ here)
              | inr more ↦
                  absurd (false≢true
                  (sym (ap (λ k. has k output)
                  (get_or_past (old ++ outs ∷ []) number 0 (omega (arith, length-append old (outs ∷ []))))
                  ∙ has-none output) ∙ here))
            ])
      ];
}

pub free_by_number : (pla : TwoLevel) (free : List ℕ) → AreFreeBelow pla free → AreFree pla free
free_by_number pla free a = record {
  free_at = λ word output len on.
      ap (λ w. is_dont_care (entry pla w output))
      (sym (ap (λ n. word_of n (number_of word)) (sym len) ∙ word_of-number_of word))
      ∙ a.free_at (number_of word) output on;
}
