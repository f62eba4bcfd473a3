-- What was sent, in parts, and whether it is flushed.
use Rattle.std.proofs.Common.{◌≡◌, ◌∙◌, ◌<◌, ℕ, ◌+◌, Bool, true, false, List, [], ◌∷◌, ◌++◌, length, take, drop, Option, Some, None, refl, ap, sym, arith, append_assoc, length-append}
use Rattle.std.proofs.Math.Seq.{take-add, take-append-add, take-length}
use Rattle.std.proofs.lemmas.List.{append-nil, take-append-le}
use Rattle.rv_io.specs.Sink.{grown, flushed_after, GrewByPrefix}

pub grown-none : (sent : Option (List ℕ)) → sent ≡ grown sent []
grown-none None = refl
grown-none (Some sent) = ap Some (sym (append-nil sent))

-- growing twice is growing once
pub grown-grown : (old : Option (List ℕ)) (a b : List ℕ) → grown (grown old a) b ≡ grown old (a ++ b)
grown-grown None a b = refl
grown-grown (Some s) a b = ap Some (append_assoc s a b)

-- the prefix up to `at`, and `n` more
pub grown-take : (old : Option (List ℕ)) (at n : ℕ) (bytes : List ℕ) → grown (grown old (take at bytes)) (take n (drop at bytes)) ≡ grown old (take (at + n) bytes)
grown-take old at n bytes = grown-grown old (take at bytes) (take n (drop at bytes)) ∙ ap (grown old) (sym (take-add at n bytes))

-- a text that was sent whole is a prefix of itself
pub prefix_whole : (old new : Option (List ℕ)) (text : List ℕ) → new ≡ grown old text → GrewByPrefix old text new
prefix_whole old new text is = record { count = length text; within = omega arith; grew = is ∙ ap (grown old) (sym (take-length text)) }

-- a prefix of the next part makes a prefix of the whole, after what was sent
pub prefix_after : (base : Option (List ℕ)) (sent bytes : List ℕ) (new : Option (List ℕ)) → GrewByPrefix (grown base sent) bytes new → GrewByPrefix base (sent ++ bytes) new
prefix_after base sent bytes new f = record {
  count = length sent + f.count;
  within = omega (arith, f.within, length-append sent bytes);
  grew = f.grew ∙ grown-grown base sent (take f.count bytes) ∙ ap (grown base) (sym (take-append-add sent bytes f.count));
}

-- a prefix of a text is a prefix of a longer text
pub prefix_longer : (base : Option (List ℕ)) (bytes more : List ℕ) (new : Option (List ℕ)) → GrewByPrefix base bytes new → GrewByPrefix base (bytes ++ more) new
prefix_longer base bytes more new f = record {
  count = f.count;
  within = omega (arith, f.within, length-append bytes more);
  grew = f.grew ∙ ap (grown base) (sym (take-append-le f.count bytes more f.within));
}

-- sending twice leaves what sending once does
pub flushed_after-append : (is_flushed : Bool) (a b : List ℕ) → flushed_after (flushed_after is_flushed a) b ≡ flushed_after is_flushed (a ++ b)
flushed_after-append is_flushed [] b = refl
flushed_after-append is_flushed (x ∷ a) [] = refl
flushed_after-append is_flushed (x ∷ a) (y ∷ b) = refl

-- after some byte nothing is flushed
pub flushed_after-some : (is_flushed : Bool) (bytes : List ℕ) → 0 < length bytes → flushed_after is_flushed bytes ≡ false
flushed_after-some is_flushed [] some = absurd (omega (arith, some))
flushed_after-some is_flushed (x ∷ bytes) some = refl

-- what is flushed after more was sent was so before
pub flushed_before : (is_flushed : Bool) (bytes : List ℕ) → flushed_after is_flushed bytes ≡ true → is_flushed ≡ true
flushed_before is_flushed [] is = is
flushed_before is_flushed (x ∷ bytes) is = absurd cc
