-- The entries of the lines, set one after another.
use Rattle.std.proofs.Common.{◌≡◌, ℕ, ◌+◌, ◌<◌, List, [], ◌∷◌, ◌++◌, length, take, slice_get, get_or, Some, refl, sym, ap, ◌∙◌, arith, set, length-set}
use Rattle.std.proofs.lemmas.List.{take_more}
use Rattle.std.proofs.lemmas.Option.{get_or_from_slice_get}
use Rattle.std.proofs.lemmas.Grind.{take-set_at}

-- the entries of the lines before `line` are those that were given
pub record IsSetting {A : Type 0} (given now : List A) (line : ℕ) : Type 0 where
  pub count : length now ≡ length given
  pub same : take line now ≡ take line given

-- the entry of one more line is set, which is known by its place
pub IsSetting-more_at : {A : Type 0} (given now : List A) (line : ℕ) (x : A) → IsSetting given now line → line < length given → x ≡ get_or given line x → IsSetting given (set now line x) (line + 1)
IsSetting-more_at given now line x so_far lt is = record {
  count = length-set now line x ∙ so_far.count;
  same = take-set_at now line (line + 1) x refl (omega (arith, so_far.count)) ∙ ap (λ xs. xs ++ x ∷ []) so_far.same ∙ ap (λ y. take line given ++ y ∷ []) is ∙ sym (take_more given line x lt);
}

pub IsSetting-more : {A : Type 0} (given now : List A) (line : ℕ) (x : A) → IsSetting given now line → line < length given → slice_get given line ≡ Some x → IsSetting given (set now line x) (line + 1)
IsSetting-more given now line x so_far lt is = IsSetting-more_at given now line x so_far lt (sym (get_or_from_slice_get given line x x is))
