-- What a call leaves that puts a text, or writes one.
use Rattle.std.specs.Prelude.{ℕ, ◌≡◌, List, Option, Result, OnOk, OnErr}
use Rattle.a64_io.specs.Streams.{HasFailed, Takes, TakesPart, Puts, IsCut}

-- where text waits for a sink: the bytes of a text were put, or a write failed before all of them
-- were
pub record PutsOrCuts {K T E : Type 0} (taken : K → Option (List ℕ)) (faults : K
    → ℕ) (old new : K) (waits waits' bytes : List ℕ) (result : Result T E) : Type 0 where
  pub ok : OnOk result (Puts (taken old) (faults old) waits (taken new) (faults new) waits' bytes)
  pub err : OnErr result (IsCut (taken old) (faults old) waits (taken new) (faults new) bytes)

-- a sink has taken all bytes of a text and no write failed, or a write failed and it has taken some
-- first bytes, but not all
pub record WritesOrFails {K T E : Type 0} (taken : K → Option (List ℕ)) (faults : K
    → ℕ) (old new : K) (bytes : List ℕ) (result : Result T E) : Type 0 where
  pub all : OnOk result (Takes (taken old) (taken new) bytes)
  pub part : OnErr result (TakesPart (taken old) (taken new) bytes)
  pub steady : OnOk result (faults new ≡ faults old)
  pub cause : OnErr result (HasFailed (faults old) (faults new))
