-- What came in place of a value, where the payload of an envelope could not be read.
use Rattle.std.specs.Prelude.{ℕ, ◌≡◌, ◌≤◌, ◌+◌, ◌^◌, ◌⊎◌}
use Rattle.nt_num.specs.Faults.{moved}
use Rattle.nt_meta.specs.declared.error.MetaError.{MetaError}
use Rattle.nt_meta.specs.declared.error.MetaError.TheVariants as payload
use Rattle.nt_tfile.specs.declared.failure.ReadFailure.{ReadFailure}
use Rattle.nt_tfile.specs.declared.failure.ReadFailure.TheVariants.{Defect, Memory}
use Rattle.nt_file_meaning.specs.Envelopes.{payload_start}

-- the failure is that of the payload of the envelope at this place, its fault counted from the file's beginning; only a place past
-- 2^64, which no machine holds, is want of memory
abbrev pub IsInPayload : ℕ → MetaError → ReadFailure → Type 0
IsInPayload place (payload.Defect e) failure = (failure ≡ Defect (moved (place + payload_start) e))
    ⊎ ((2 ^ 64 ≤ place + payload_start + e.at) × (failure ≡ Memory))
IsInPayload place payload.Memory failure = failure ≡ Memory
