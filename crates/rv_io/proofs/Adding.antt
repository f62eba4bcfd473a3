-- What is added to a text, one part after another.
use Rattle.std.proofs.Common.{◌≡◌, ℕ, List, [], ◌++◌, subst, append_assoc}
use Rattle.std.proofs.lemmas.List.{append-nil}
use Rattle.rv_io.specs.Sink.{SinkView}
use Rattle.rv_io.specs.Writer.{Writer, Adds}

-- nothing was added
pub adds_none : (draft : Writer) (now : SinkView) → Adds draft now [] draft now
adds_none draft now = record { written = λ base text w. rw append-nil w }

-- a part was added, and then another
pub adds_then : {a b c : Writer} {x y z : SinkView} {first second : List ℕ} → Adds a x first b y → Adds b y second c z → Adds a x (first ++ second) c z
adds_then {first = first} {second = second} p q = record { written = λ base text w. rw (← append_assoc) (q.written base (text ++ first) (p.written base text w)) }

-- the same text in other words
pub adds_as : {a b : Writer} {x y : SinkView} {more text : List ℕ} → more ≡ text → Adds a x more b y → Adds a x text b y
adds_as {a = a} {b = b} {x = x} {y = y} same p = subst (λ t. Adds a x t b y) same p
