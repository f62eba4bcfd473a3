-- The bits of a word, one digit after another.
use Rattle.std.proofs.Common.{◌≡◌, ℕ, zero, suc, ◌-◌, ◌<◌, [], ◌∷◌, refl, arith}
use Rattle.rv_io.specs.Sink.{SinkView}
use Rattle.rv_io.specs.Writer.{Writer, Adds}
use Rattle.rv_io.proofs.Adding.{adds_none, adds_then, adds_as}
use Rattle.rv_gate.specs.Word.{has, word_of}
use Rattle.rv_text.specs.Bytes.{bit_byte}
use Rattle.rv_faults.specs.Fault.{bits_of}

bits_of-none : (n x : ℕ) → n ≡ 0 → [] ≡ bits_of n x
unfolding word_of
bits_of-none n x none = rw none refl

bits_of-more : (n x : ℕ) → 0 < n → bit_byte (has x (n - 1)) ∷ bits_of (n - 1) x ≡ bits_of n x
unfolding word_of
bits_of-more zero x some = absurd (omega arith)
bits_of-more (suc n) x some = let e : suc n - 1 ≡ n = omega arith in rw e refl

-- what adds the bits that are left makes all of them added
pub record IsPutting (first : Writer) (old : SinkView) (count word left : ℕ) (now : Writer) (new : SinkView) : Type 0 where
  pub rest : (last : Writer) (end : SinkView) → Adds now new (bits_of left word) last end → Adds first old (bits_of count word) last end

pub putting_first : (first : Writer) (old : SinkView) (count word : ℕ) → IsPutting first old count word count first old
putting_first first old count word = record { rest = λ last end adds. adds }

pub putting_more : (first : Writer) (old : SinkView) (count word left : ℕ) (now next : Writer) (new after : SinkView) → 0 < left
    → IsPutting first old count word left now new → Adds now new (bit_byte (has word (left - 1)) ∷ []) next after → IsPutting first old count word (left - 1) next after
putting_more first old count word left now next new after some putting put =
    record { rest = λ last end adds. putting.rest last end (adds_as (bits_of-more left word some) (adds_then put adds)) }

pub putting_all : (first : Writer) (old : SinkView) (count word left : ℕ) (now : Writer) (new : SinkView) → left ≡ 0
    → IsPutting first old count word left now new → Adds first old (bits_of count word) now new
putting_all first old count word left now new none putting = putting.rest now new (adds_as (bits_of-none left word none) (adds_none now new))
