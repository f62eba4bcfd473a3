-- What a writer holds back of a text, and how far the text is sent.
use Rattle.std.specs.Prelude.{◌≡◌, ℕ, ◌≤◌, Bool, true, false, List, ◌++◌, take}
use Rattle.rv_io.specs.declared.short_text.ShortText.{ShortText}
use Rattle.rv_io.specs.Faults.{Rose}
use Rattle.rv_io.specs.Sink.{SinkView, grown, flushed_after, GrewByPrefix, StaysUnflushed}

pub record Writer : Type 0 where
  -- the bytes that are still to be sent
  pub held : List ℕ
  -- whether a put has failed; then nothing more is sent
  pub has_failed : Bool

-- a first part of the text is sent, and the rest of it is held; no fault is counted
pub record IsUnderWay (base : SinkView) (text held : List ℕ) (now : SinkView) : Type 0 where
  pub done : List ℕ
  pub parts : text ≡ done ++ held
  pub sent : now.sent ≡ grown base.sent done
  pub flushed : now.is_flushed ≡ flushed_after base.is_flushed done
  pub uncounted : now.faults ≡ base.faults

-- the count rose, and a prefix of the text is sent
pub record IsCutOff (base : SinkView) (text : List ℕ) (now : SinkView) : Type 0 where
  pub rose : Rose base.faults now.faults
  pub prefix : GrewByPrefix base.sent text now.sent
  pub unflushed : StaysUnflushed base now

-- the text was given to the writer while the sink went from `base` to `now`
pub record Writes (base : SinkView) (text : List ℕ) (draft : Writer) (now : SinkView) : Type 0 where
  pub later : base.faults ≤ now.faults
  pub fine : draft.has_failed ≡ false → IsUnderWay base text draft.held now
  pub failed : draft.has_failed ≡ true → IsCutOff base text now

-- more was added to whatever text was given to the writer before
pub record Adds (old : Writer) (before : SinkView) (more : List ℕ) (new : Writer) (now : SinkView) : Type 0 where
  pub written : (base : SinkView) (text : List ℕ) → Writes base text old before → Writes base (text ++ more) new now

-- the bytes of a short text
abbrev pub short_bytes : ShortText → List ℕ
short_bytes text = take text.len text.bytes
