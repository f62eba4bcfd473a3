-- Short texts: two parts of one, and one after what a room holds.
use Rattle.std.proofs.Common.{◌≡◌, ℕ, ◌+◌, ◌≤◌, List, ◌++◌, length, take, sym, ap, ◌∙◌, arith, length-take}
use Rattle.std.proofs.Math.Seq.{take-append_seam, take-append-add}
use Rattle.std.proofs.lemmas.List.{take-append-le}

pub both_parts : (a b rest more : List ℕ) → take (length a + length b) (take (length a) (a ++ rest) ++ (b ++ more)) ≡ a ++ b
both_parts a b rest more =
    ap (λ front. take (length a + length b) (front ++ (b ++ more))) (take-append_seam a rest)
    ∙ take-append-add a (b ++ more) (length b) ∙ ap (λ back. a ++ back) (take-append_seam b more)

pub held_front : (n k : ℕ) (room bytes rest : List ℕ) → n ≤ length room → k ≤ length bytes
    → take (n + k) (take n room ++ (bytes ++ rest)) ≡ take n room ++ take k bytes
held_front n k room bytes rest inside few =
    let len : length (take n room) ≡ n = omega (arith, length-take n room) in
    ap (λ m. take (m + k) (take n room ++ (bytes ++ rest))) (sym len)
    ∙ take-append-add (take n room) (bytes ++ rest) k ∙ ap (λ back. take n room ++ back) (take-append-le k bytes rest few)
